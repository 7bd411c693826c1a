use Rattle.std.proofs.Common.{ap}
use Rattle.leader_token.specs.Words.{view_of}
use Rattle.notify_ring.specs.Words.{poster_view}
use Rattle.tp_reactor.proofs.Sharing.{is_closed}
use Rattle.tp_reactor.proofs.reactor.Reactor.close.Goals as goal

pub returns : goal.returns
returns g c =
    is_closed _ _ _ _ _ _ _ _ _ (ap view_of c.into_parts-pass.ensures.0)
    (ap poster_view c.into_parts-pass.ensures.1) c.close.ensures.last
    c.into_parts-core.ensures.0 c.into_parts-core.ensures.1 c.close-2.ensures.merged
