use Rattle.std.proofs.Common.{rules, ap, ◌∙◌, subst, arith}
use Rattle.notify_ring.specs.Passes.{IsMerged}
use Rattle.notify_ring.proofs.Closing.{rejoins, merges, parts_merged}
use Rattle.notify_ring.proofs.parts.Ring.close.Goals as goal

pub join_seat-requires : goal.join_seat-requires
join_seat-requires c =
    let d = c.args.drainer in (
      c.requires.ring.0,
      c.requires.ring.1,
      d.rests.1,
      search rules,
      rejoins _ _ _ _ d.apart.1 d.apart.0 d.apart.2,
    )

pub free-requires : goal.free-requires
free-requires c k lt = absurd (omega
    (arith, c.close_with-closed.ensures.counts.1, c.args.self.sized.1, lt))

pub returns : goal.returns
returns c =
    let is = c.join_seat.ensures.2 in
    let root = c.requires.root in
    record {
      merged = parts_merged _ _ _ (subst (λ v. IsMerged v v c.word-tail.result) (ap (λ m. m.0) is)
          (merges _ c.join_seat.new.seat.me.0 _ _ _ (ap (λ m. m.0.root) is ∙ root.0)
          (ap (λ m. m.0.children) is ∙ root.1)
          (ap (λ m. m.0.drains) is ∙ c.args.drainer.rests.2)
          c.close_with-closed.ensures.values.2 c.word-tail.ensures));
    }
