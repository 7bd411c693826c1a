use Rattle.std.proofs.Common.{◌≡◌}
use Rattle.demux_mio.specs.Nets.{mio_net_facts, asked_of, control_of}
use Rattle.demux_mio.proofs.net.MioNet.look.Given as goal

abbrev pub invariant-loop : goal.invariant-loop
invariant-loop g l = (mio_net_facts l.self ≡ mio_net_facts l.fn.self)
    × (asked_of l.self ≡ asked_of l.fn.self) × (control_of l.self ≡ control_of l.fn.self)
