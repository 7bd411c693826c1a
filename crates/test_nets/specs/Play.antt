-- What a reactor of steady handlers means over a net that plays what was laid down, if its
-- volumes stay in memory.
use Rattle.std.specs.Prelude.{ℕ}
use Rattle.demux.specs.PlayNet.{PlayContent, play_net_facts}
use Rattle.demux.specs.PlayKeeps.{play_net_keeps}
use Rattle.demux.specs.declared.play_end.PlayEnd.{PlayEnd}
use Rattle.timer_queue.specs.Content.{Content}
use Rattle.reactor_model.specs.MemVolumes.{mem_volumes_facts}
use Rattle.reactor_model.specs.declared.volumes.MemVolumes.{MemVolumes}
use Rattle.reactor_model.specs.declared.watch.NoWatch.{NoWatch}
use Rattle.reactor_core.specs.Stands.{Meaning}
use Rattle.test_nets.specs.declared.handler.Steady.{Steady}
use Rattle.test_nets.specs.Idle.{rows}

abbrev pub play_rows : Meaning Steady PlayContent Content NoWatch (MemVolumes ℕ) ℕ PlayEnd
play_rows = rows play_net_facts play_net_keeps mem_volumes_facts
