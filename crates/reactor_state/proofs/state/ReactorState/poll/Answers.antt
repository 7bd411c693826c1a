use Rattle.std.proofs.Common.{ap}
use Rattle.reactor_summary.specs.reactor_journal.specs.declared.entry.Entry.TheVariants.{Polled}
use Rattle.reactor_state.specs.State.{Numbers}
use Rattle.reactor_state.proofs.Soundness.{sound_after}
use Rattle.reactor_state.proofs.Stepped.{tables_counted}
use Rattle.reactor_state.proofs.state.ReactorState.poll.Goals as goal

pub returns-clause-steps : goal.returns-clause-steps
returns-clause-steps g c s shows can = record {
  tables = tables_counted g.Q.TimerQueue.timers (record c.args.self.now { moment = c.args.now })
      (record s { moment = c.args.now })
      (record {
        numbers = ap (λ (n : Numbers). record n { moment = c.args.now })
            shows.tables.numbers;
        handles = shows.tables.handles;
        opens = shows.tables.opens;
        waiting = shows.tables.waiting;
        armed = shows.tables.armed;
      });
  sound = sound_after {N = Unit {0}} (Polled c.args.now) s can.0 (can.1, can.2) shows.sound;
}
