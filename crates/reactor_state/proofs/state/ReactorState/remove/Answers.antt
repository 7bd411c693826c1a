use Rattle.reactor_summary.specs.reactor_journal.specs.declared.entry.Entry.TheVariants.{Removed}
use Rattle.reactor_state.specs.State.{without_handle}
use Rattle.reactor_state.proofs.Soundness.{sound_after}
use Rattle.reactor_state.proofs.Stepped.{tables_counted}
use Rattle.reactor_state.proofs.state.ReactorState.remove.Goals as goal

pub returns-clause-steps : goal.returns-clause-steps
returns-clause-steps g c s shows number = record {
  tables = tables_counted g.Q.TimerQueue.timers c.end_of.new.self (without_handle c.args.handle s)
      (c.end_of.ensures.tables s s.opened shows.tables shows.sound.handles);
  sound = sound_after {N = Unit {0}} (Removed c.args.handle) s number tt shows.sound;
}
