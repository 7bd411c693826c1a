use Rattle.reactor_core.proofs.Kept.{stands_kept}
use Rattle.reactor_core.proofs.reactor.Core.reserve_post.Goals as goal

pub returns-clause-stands : goal.returns-clause-stands
returns-clause-stands g c t F h o = stands_kept _ t _ _ F h c.make_room.ensures.kept o
