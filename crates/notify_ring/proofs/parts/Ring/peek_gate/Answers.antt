use Rattle.std.proofs.Common.{arith, ap, ◌∙◌, ◌+◌, ◌*◌, ℕ}
use Rattle.notify_ring.proofs.Drains.{peeks_at}
use Rattle.notify_ring.proofs.parts.Ring.peek_gate.Goals as goal

pub load-requires : goal.load-requires
load-requires c = let r = c.requires.rests in (
  c.requires.table,
  omega (arith, c.gate_word-word.ensures.within, c.args.self.now.sized.0),
  peeks_at _ _ _ _ r.0 r.1.0 r.1.1
      (c.gate_word-word.ensures.is ∙ ap (λ (n : ℕ). 3 + 2 * n) c.requires.place),
)
