-- What the one-thread reactor means that pools are timed beside.
use Rattle.std.specs.Prelude.{ℕ, false}
use Rattle.demux.specs.declared.play_end.PlayEnd.{PlayEnd}
use Rattle.timer_queue.specs.Content.{Content}
use Rattle.reactor_model.specs.Volumes.{tells_nothing}
use Rattle.reactor_model.specs.declared.volumes.DropVolumes.{DropVolumes}
use Rattle.reactor_model.specs.declared.watch.NoWatch.{NoWatch}
use Rattle.reactor_core.specs.reactor_state.specs.State.{Shows, HasPlaces, IsPlaced}
use Rattle.reactor_core.specs.Stands.{Meaning, meaning}
use Rattle.test_nets.specs.RoundRobin.{round_robin_facts}
use Rattle.test_nets.specs.declared.round_robin.RoundRobinNet.{RoundRobinNet}
use Rattle.test_pool.specs.Members.{member}
use Rattle.test_pool.specs.declared.member.Member.{Member}

-- a reactor of members over a net that reports its handles in turn, whose volumes are let go
abbrev pub member_core : Meaning Member RoundRobinNet Content NoWatch DropVolumes ℕ PlayEnd
member_core = meaning member round_robin_facts (λ t n. Unit {0}) (Shows (λ q. q.timers))
    (HasPlaces (λ q. q.spare)) IsPlaced (λ t watch h. Unit {0}) (λ watch. 0) (λ watch. false)
    (λ watch. 0) (λ v. tells_nothing)
