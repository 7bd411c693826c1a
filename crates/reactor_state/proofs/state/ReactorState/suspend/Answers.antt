use Rattle.std.proofs.Common.{ℕ, true, map, sym, ap, ◌∙◌, subst}
use Rattle.reactor_summary.specs.reactor_journal.specs.declared.entry.Entry.TheVariants.{Suspended}
use Rattle.reactor_summary.specs.Summary as S
use Rattle.reactor_summary.specs.Summary.{Summary}
use Rattle.reactor_state.specs.Rises.{RisesIn}
use Rattle.reactor_state.specs.Sound.{handle_number}
use Rattle.reactor_state.specs.State.{numbers_in}
use Rattle.reactor_state.proofs.Soundness.{sound_after}
use Rattle.reactor_state.proofs.Stepped.{tables_counted, suspended_alive}
use Rattle.reactor_state.proofs.state.ReactorState.suspend.Goals as goal

pub returns-clause-steps : goal.returns-clause-steps
returns-clause-steps g c s shows number =
    let here : RisesIn handle_number 0 s.opened c.args.self.now.handles.items =
    subst (RisesIn handle_number 0 s.opened) (sym shows.tables.handles) shows.sound.handles in
    record {
      tables = tables_counted g.Q.TimerQueue.timers
          (record c.args.self.now { handles = c.set_suspended.new.handles })
          (record s { handles = map (S.with_suspended c.args.handle.0 true) s.handles })
          (record {
            numbers = shows.tables.numbers ∙ ap (λ (k : ℕ). record (numbers_in s) { alive = k })
                (sym (suspended_alive c.args.handle.0 true s.handles));
            handles = c.set_suspended.ensures.items s.opened here
                ∙ ap (map (S.with_suspended c.args.handle.0 true)) shows.tables.handles;
            opens = shows.tables.opens;
            waiting = shows.tables.waiting;
            armed = shows.tables.armed;
          });
      sound = sound_after {N = Unit {0}} (Suspended c.args.handle) s number tt shows.sound;
    }
