use Rattle.std.proofs.Common.{◌+◌, ℕ, suc, ap, ◌∙◌, add-one}
use Rattle.reactor_summary.specs.reactor_journal.specs.declared.entry.Entry.TheVariants.{Refused}
use Rattle.reactor_state.specs.State.{Numbers, numbers_in}
use Rattle.reactor_state.proofs.Soundness.{sound_after}
use Rattle.reactor_state.proofs.Stepped.{tables_counted}
use Rattle.reactor_state.proofs.state.ReactorState.refuse.Goals as goal

pub returns-clause-steps : goal.returns-clause-steps
returns-clause-steps g c live fault note s shows number = record {
  tables = tables_counted g.Q.TimerQueue.timers
      (record c.args.self.now { refused = c.args.self.now.refused + 1 })
      (record s { refused = suc s.refused })
      (record {
        numbers = ap (λ (n : Numbers). record n { refused = n.refused + 1 }) shows.tables.numbers
            ∙ ap (λ (k : ℕ). record (numbers_in s) { refused = k }) (add-one s.refused);
        handles = shows.tables.handles;
        opens = shows.tables.opens;
        waiting = shows.tables.waiting;
        armed = shows.tables.armed;
      });
  sound = sound_after {N = g.row.N.Denot} (Refused live fault note) s number tt shows.sound;
}
