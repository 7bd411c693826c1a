use Rattle.leader_token.proofs.Boxes.{put_value}
use Rattle.leader_token.proofs.pass.Token.put.Goals as goal

pub returns-clause-put : goal.returns-clause-put
returns-clause-put g c = let kept = g.T.Kept in
    put_value kept.stands kept.opens kept.marks _ _ _ c.release.ensures.put.0
