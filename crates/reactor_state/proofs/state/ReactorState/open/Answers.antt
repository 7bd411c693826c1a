use Rattle.std.proofs.Common.{◌≡◌, ◌+◌, suc, List, [], ◌∷◌, ◌++◌, true, false, refl, ap, ◌∙◌, arith}
use Rattle.reactor_summary.specs.reactor_journal.specs.declared.entry.Entry.TheVariants.{Opened}
use Rattle.reactor_summary.specs.declared.parts.LiveHandle.{LiveHandle}
use Rattle.reactor_state.specs.State.{Numbers, numbers_in, numbers_of}
use Rattle.reactor_state.proofs.Soundness.{sound_after}
use Rattle.reactor_state.proofs.Stepped.{tables_counted, opened_numbers, alive_more, alive_fits}
use Rattle.reactor_state.proofs.state.ReactorState.open.Goals as goal

pub overflow_add-self-2 : goal.overflow_add-self-2
overflow_add-self-2 g c = omega (
  arith,
  alive_fits g.Q.TimerQueue.timers c.args.self.now c.requires.can.0 c.requires.can.1,
)

pub returns-clause-steps : goal.returns-clause-steps
returns-clause-steps g c s shows can =
    let opened : c.args.self.now.opened ≡ s.opened =
    ap (λ (n : Numbers). n.opened) shows.tables.numbers in
    record {
      tables = tables_counted g.Q.TimerQueue.timers
          (record c.args.self.now {
            opened = c.args.self.now.opened + 1;
            alive = c.args.self.now.alive + 1;
            handles = c.push_reserved.new.self;
          })
          (record s {
            opened = suc s.opened;
            handles =
                s.handles ++ record {
                  handle = record { 0 = c.args.self.now.opened };
                  mask = c.args.mask;
                  suspended = false;
                  alive = true;
                } ∷ [];
          })
          (record {
            numbers = opened_numbers (numbers_of c.args.self.now) (numbers_in s) _
                shows.tables.numbers (alive_more s.handles
                (record {
                  handle = record { 0 = c.args.self.now.opened };
                  mask = c.args.mask;
                  suspended = false;
                  alive = true;
                }) refl);
            handles = c.push_reserved.ensures.items
                ∙ ap (λ (hs : List LiveHandle). hs
                ++ record {
                  handle = record { 0 = c.args.self.now.opened };
                  mask = c.args.mask;
                  suspended = false;
                  alive = true;
                } ∷ []) shows.tables.handles;
            opens = shows.tables.opens;
            waiting = shows.tables.waiting;
            armed = shows.tables.armed;
          });
      sound = sound_after {N = Unit {0}}
          (Opened (record { 0 = c.args.self.now.opened }) c.args.mask) s can.0 (opened, can.1)
          shows.sound;
    }
