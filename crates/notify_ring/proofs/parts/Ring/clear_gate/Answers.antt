use Rattle.std.proofs.Common.{arith, ap, ◌∙◌, ◌+◌, ◌*◌, ℕ}
use Rattle.notify_ring.proofs.Drains.{clears_at}
use Rattle.notify_ring.proofs.parts.Ring.clear_gate.Goals as goal

pub store-requires : goal.store-requires
store-requires c = let r = c.requires.seen in (
  c.requires.table,
  omega (arith, c.gate_word-word.ensures.within, c.args.self.now.sized.0),
  clears_at _ _ _ _ r.0.0 r.0.1 r.1.0 r.1.1
      (c.gate_word-word.ensures.is ∙ ap (λ (n : ℕ). 3 + 2 * n) c.requires.place),
)
