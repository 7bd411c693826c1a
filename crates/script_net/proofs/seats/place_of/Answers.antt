use Rattle.std.proofs.Common.{length, arith}
use Rattle.script_net.proofs.SeatingLemmas.{has_place}
use Rattle.script_net.proofs.seats.place_of.Goals as goal

pub unreachable-requires : goal.unreachable-requires
unreachable-requires c =
    let h = has_place c.args.places.now (length c.args.places.now) c.args.handle.0 c.requires in
    c.loop-at.invariant h.0 h.2.place (omega (arith, h.1)) h.2.there h.2.attached h.2.handle_is
