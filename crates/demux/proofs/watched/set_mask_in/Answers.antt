use Rattle.std.proofs.Common.{ap, set, ◌∙◌, arith, false}
use Rattle.std.proofs.lemmas.List.{get_or_default}
use Rattle.std.proofs.lemmas.List.Edits.{map_over_more}
use Rattle.demux.specs.declared.watched.Watched.{Watched}
use Rattle.demux.specs.PlayNet.{masked}
use Rattle.demux.proofs.watched.set_mask_in.Goals as goal

nobody : Watched
nobody = record {
  handle = record { 0 = 0 };
  mask = record { read = false; write = false; except = false };
}

pub loop-w-preserved : goal.loop-w-preserved
loop-w-preserved c =
    ap (set c.loop-w.watched c.loop-w.w-index) c.masked.ensures
    ∙ map_over_more (masked c.args.handle.0 c.args.mask) c.args.watched.now c.loop-w.watched
    c.loop-w.w-index _ (omega arith) c.loop-w.invariant
    (get_or_default c.loop-w.watched c.loop-w.w-index _ _ (omega arith))
