use Rattle.std.proofs.Common.{◌≡◌, false}
use Rattle.log_handler.specs.LineSink.{is_broken}
use Rattle.one_run.specs.Phases.{IsRead}
use Rattle.one_run.specs.Running.{one_meaning, Leads, HasRead}
use Rattle.one_run.proofs.serving.serve.Given as goal

abbrev pub invariant-loop-turn : goal.invariant-loop-turn
invariant-loop-turn g l =
    record {
      leads : Leads (one_meaning g.S.Source.facts g.K.Sink.facts g.V.Volumes.facts) IsRead
          (HasRead l._turn) l.fn.core l.core;
      volumes : (g.V.Volumes.facts l.core.volumes).faults
          ≡ (g.V.Volumes.facts l.fn.core.volumes).faults;
      whole : is_broken l.core.watch ≡ false;
    }
