use Rattle.reactor_summary.specs.reactor_journal.specs.declared.entry.Entry.TheVariants.{Stale}
use Rattle.reactor_state.proofs.Soundness.{sound_after}
use Rattle.reactor_state.proofs.Stepped.{tables_counted}
use Rattle.reactor_state.proofs.state.ReactorState.skip.Goals as goal

pub returns-clause-steps : goal.returns-clause-steps
returns-clause-steps g c stale from seq s shows number = record {
  tables = tables_counted g.Q.TimerQueue.timers c.args.self.now s shows.tables;
  sound = sound_after {N = Unit {0}} (Stale stale from seq) s number tt shows.sound;
}
