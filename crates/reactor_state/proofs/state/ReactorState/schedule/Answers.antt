use Rattle.std.proofs.Common.{◌+◌, ℕ, suc, ap, ◌∙◌, add-one}
use Rattle.reactor_summary.specs.reactor_journal.specs.declared.entry.Entry.TheVariants.{Scheduled}
use Rattle.reactor_summary.specs.declared.parts.ArmedTimer.{ArmedTimer}
use Rattle.reactor_summary.specs.Summary as S
use Rattle.reactor_summary.specs.Summary.{Summary}
use Rattle.reactor_state.specs.State.{Numbers, numbers_in}
use Rattle.reactor_state.proofs.Soundness.{sound_after}
use Rattle.reactor_state.proofs.Stepped.{tables_counted, number_is_fresh}
use Rattle.reactor_state.proofs.state.ReactorState.schedule.Goals as goal

pub arm-requires-clause-fresh : goal.arm-requires-clause-fresh
arm-requires-clause-fresh g c = number_is_fresh g.Q.TimerQueue.timers c.args.self.now
    c.requires.can.0 c.requires.can.1

pub returns-clause-steps : goal.returns-clause-steps
returns-clause-steps g c s shows can =
    let made : ArmedTimer = record {
      deadline = c.args.first;
      timer = c.args.self.now.scheduled;
      handle = c.args.handle;
      every = c.args.every;
    } in
    record {
      tables = tables_counted g.Q.TimerQueue.timers
          (record c.args.self.now {
            armed = c.arm.new.self;
            scheduled = c.args.self.now.scheduled + 1;
          }) (record s {
            scheduled = suc s.scheduled;
            armed = S.with_timer made s.armed;
          })
          (record {
            numbers = ap (λ (n : Numbers). record n { scheduled = n.scheduled + 1 })
                shows.tables.numbers ∙ ap (λ (k : ℕ). record (numbers_in s) { scheduled = k })
                (add-one s.scheduled);
            handles = shows.tables.handles;
            opens = shows.tables.opens;
            waiting = shows.tables.waiting;
            armed = c.arm.ensures.armed s.armed shows.tables.armed;
          });
      sound = sound_after {N = Unit {0}}
          (Scheduled c.args.self.now.scheduled c.args.handle c.args.first c.args.every) s can.0
          (ap (λ (n : Numbers). n.scheduled) shows.tables.numbers, can.1, can.2) shows.sound;
    }
