use Rattle.std.proofs.Common.{refl}
use Rattle.test_pool.proofs.Ending.{none_open, stopped}
use Rattle.test_pool.proofs.callers.end.Goals as goal

pub into_parts-requires : goal.into_parts-requires
into_parts-requires g c =
    let i = c.requires in
    record {
      stands = stopped _ i.terms i.first _ i.history _
          (none_open i.terms.most _ i.stands.tracks.legal i.closed) refl
          (c.stop.ensures.stands i.terms i.first i.history i.stands);
    }
