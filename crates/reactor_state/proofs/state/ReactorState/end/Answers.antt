use Rattle.std.proofs.Common.{true, ap}
use Rattle.reactor_summary.specs.reactor_journal.specs.declared.entry.Entry.TheVariants.{Ended}
use Rattle.reactor_state.specs.State.{Numbers}
use Rattle.reactor_state.proofs.Soundness.{sound_after}
use Rattle.reactor_state.proofs.Stepped.{tables_counted}
use Rattle.reactor_state.proofs.state.ReactorState.end.Goals as goal

pub returns-clause-steps : goal.returns-clause-steps
returns-clause-steps g c s shows number = record {
  tables = tables_counted g.Q.TimerQueue.timers (record c.args.self.now { ended = true })
      (record s { ended = true })
      (record {
        numbers = ap (λ (n : Numbers). record n { ended = true }) shows.tables.numbers;
        handles = shows.tables.handles;
        opens = shows.tables.opens;
        waiting = shows.tables.waiting;
        armed = shows.tables.armed;
      });
  sound = sound_after {N = Unit {0}} Ended s number tt shows.sound;
}
