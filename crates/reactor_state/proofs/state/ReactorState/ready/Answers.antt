use Rattle.std.proofs.Common.{◌≡◌, ℕ, [], ◌∷◌, ◌++◌, None, ap, ◌∙◌}
use Rattle.reactor_summary.specs.reactor_journal.specs.Past.{upcall_of}
use Rattle.reactor_summary.specs.reactor_journal.specs.declared.entry.Entry.TheVariants.{Ready}
use Rattle.reactor_summary.specs.declared.parts.WaitingEvent.{WaitingEvent}
use Rattle.reactor_state.specs.State.{Numbers}
use Rattle.reactor_state.specs.Tables.{queues}
use Rattle.reactor_state.proofs.Soundness.{sound_after}
use Rattle.reactor_state.proofs.Stepped.{tables_counted, event_pushed}
use Rattle.reactor_state.proofs.state.ReactorState.ready.Goals as goal

pub returns-clause-steps : goal.returns-clause-steps
returns-clause-steps g c s shows number =
    let entries : c.args.self.now.entries ≡ s.entries =
    ap (λ (n : Numbers). n.entries) shows.tables.numbers in
    let made : WaitingEvent = record {
      event = s.entries;
      handle = c.args.handle;
      upcall = upcall_of c.args.kind;
      due = None;
    } in
    record {
      tables = tables_counted g.Q.TimerQueue.timers
          (record c.args.self.now { waiting = c.push.new.self })
          (record s { waiting = s.waiting ++ made ∷ [] })
          (record {
            numbers = shows.tables.numbers;
            handles = shows.tables.handles;
            opens = shows.tables.opens;
            waiting = event_pushed (record {
              event = c.args.self.now.entries;
              handle = c.args.handle;
              upcall = c.upcall_of.result;
              due = None;
            }) made
                (queues c.args.self.now.waiting) (queues c.push.new.self) s.waiting
                c.push.ensures.queues shows.tables.waiting
                (ap (λ (k : ℕ). record {
                  event = k;
                  handle = c.args.handle;
                  upcall = c.upcall_of.result;
                  due = None;
                }) entries
                ∙ ap (λ u. record {
                  event = s.entries;
                  handle = c.args.handle;
                  upcall = u;
                  due = None;
                }) c.upcall_of.ensures);
            armed = shows.tables.armed;
          });
      sound = sound_after {N = Unit {0}} (Ready c.args.handle c.args.kind) s number tt shows.sound;
    }
