use Rattle.std.proofs.Common.{ap, set, map, take, ◌++◌, ◌∙◌, arith}
use Rattle.std.proofs.lemmas.List.{get_or_default, take_all, drop_all, append-nil}
use Rattle.std.proofs.lemmas.List.Edits.{map_over_more}
use Rattle.dial_memory.specs.DialNets.{masked}
use Rattle.dial_memory.proofs.Nets.{changed_by_map}
use Rattle.dial_memory.proofs.watched.set_mask_in.Goals as goal

pub loop-entry-preserved : goal.loop-entry-preserved
loop-entry-preserved c =
    ap (set c.loop-entry.watched c.loop-entry.entry-index) c.masked.ensures
    ∙ map_over_more (masked c.args.handle.0 c.args.mask) c.args.watched.now c.loop-entry.watched
    c.loop-entry.entry-index _ (omega arith) c.loop-entry.invariant
    (get_or_default c.loop-entry.watched c.loop-entry.entry-index _ _ (omega arith))

pub returns : goal.returns
returns c =
    c.loop-entry.invariant
    ∙ ap (λ ys. map (masked c.args.handle.0 c.args.mask)
    (take c.loop-entry.entry-index c.args.watched.now) ++ ys)
    (drop_all c.loop-entry.entry-index c.args.watched.now c.loop-entry-test.false)
    ∙ append-nil (map (masked c.args.handle.0 c.args.mask)
    (take c.loop-entry.entry-index c.args.watched.now))
    ∙ ap (map (masked c.args.handle.0 c.args.mask))
    (take_all c.loop-entry.entry-index c.args.watched.now c.loop-entry-test.false)
    ∙ changed_by_map c.args.handle.0 c.args.mask c.args.watched.now
