use Rattle.leader_token.specs.Boxed.{boxed, boxed_marks}
use Rattle.leader_token.proofs.Keeps.{own_events}
use Rattle.leader_token.proofs.token.own_events_differ.Goals as goal

pub returns : goal.returns
returns g c = let kept = g.T.Kept in
    own_events (boxed kept.stands) kept.opens (boxed_marks kept.marks)
