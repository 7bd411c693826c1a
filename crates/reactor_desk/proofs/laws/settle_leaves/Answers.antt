use Rattle.reactor_desk.proofs.Settled.{settled_begins, settled_opens, settled_own}
use Rattle.reactor_desk.proofs.laws.settle_leaves.Goals as goal

pub returns : goal.returns
returns g c q F h done old new settled o fits s =
    let own = settled_own _ q F h done old o fits in
    record {
      begins = settled_begins _ q F h done old new.core settled s.settles;
      own = own;
      opens = settled_opens _ q F h done old new.core settled o fits s.settles own;
    }
