-- What the net that waits long tells.
use Rattle.std.specs.Prelude.{◌-◌, ◌^◌, false, None}
use Rattle.ev_base.specs.Net.{NetFacts}
use Rattle.demux.specs.declared.play_end.PlayEnd.{PlayEnd}
use Rattle.bench_reactor.specs.declared.pool.slow_net.SlowNet.{SlowNet}

-- It may fail, stands at moment 0, reports what its last wait did, which is nothing, and tells
-- nothing of the past. It has places for as many handles as there are numbers, since an attach that
-- finds no memory fails.
abbrev pub slow_facts : {R : Type 0} → SlowNet R → NetFacts PlayEnd
slow_facts n = record {
  failed_waits = 0;
  failed_attaches = n.failed_attaches;
  steady = false;
  attached = n.attached.items;
  spare = 2 ^ 64 - 1;
  now = 0;
  reports = n.reports.items;
  calls = None;
  masks = None;
  retired = None;
  turned_away = None;
}
