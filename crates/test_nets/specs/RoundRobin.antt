-- What the net that reports its handles in turn tells.
use Rattle.std.specs.Prelude.{ℕ, ◌+◌, ◌-◌, ◌^◌, ◌%◌, min, max, List, map, false, None}
use Rattle.std.specs.List.{range_with_len}
use Rattle.ev_base.specs.ev_types.specs.declared.upcall.Kind.TheVariants.{Read}
use Rattle.ev_base.specs.Net.{NetFacts}
use Rattle.ev_base.specs.declared.net.Report.{Report}
use Rattle.demux.specs.declared.play_end.PlayEnd.{PlayEnd}
use Rattle.timer_queue.specs.Content.{Content}
use Rattle.reactor_model.specs.Volumes.{tells_nothing}
use Rattle.reactor_model.specs.declared.volumes.DropVolumes.{DropVolumes}
use Rattle.reactor_model.specs.declared.watch.NoWatch.{NoWatch}
use Rattle.reactor_core.specs.Stands.{Meaning}
use Rattle.test_nets.specs.declared.handler.Steady.{Steady}
use Rattle.test_nets.specs.Idle.{rows}
use Rattle.test_nets.specs.declared.round_robin.RoundRobinNet.{RoundRobinNet}

-- a report of a wait, whose first report is of the handle `first`: after the last handle comes
-- handle 0
abbrev pub reported : ℕ → ℕ → ℕ → Report
reported handles first at = record {
  handle = record { 0 = min (first + at) (2 ^ 64 - 1) % max handles 1 };
  kind = Read;
}

abbrev pub reports_in_turn : ℕ → ℕ → ℕ → List Report
reports_in_turn handles first count = map (reported handles first) (range_with_len 0 count)

-- It may fail, stands at moment 0 and tells nothing of the past. It has places for as many handles
-- as there are numbers, since an attach that finds no memory fails.
abbrev pub round_robin_facts : RoundRobinNet → NetFacts PlayEnd
round_robin_facts n = record {
  failed_waits = n.failed_waits;
  failed_attaches = n.failed_attaches;
  steady = false;
  attached = n.attached.items;
  spare = 2 ^ 64 - 1;
  now = 0;
  reports = reports_in_turn n.handles n.first n.count;
  calls = None;
  masks = None;
  retired = None;
  turned_away = None;
}

-- what a reactor of steady handlers means over it, if its volumes are let go
abbrev pub round_robin_rows : Meaning Steady RoundRobinNet Content NoWatch DropVolumes ℕ PlayEnd
round_robin_rows = rows round_robin_facts (λ t n. Unit {0}) (λ v. tells_nothing)
