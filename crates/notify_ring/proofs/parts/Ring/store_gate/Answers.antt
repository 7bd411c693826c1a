use Rattle.std.proofs.Common.{arith, ap, ◌∙◌, ◌+◌, ◌*◌, ℕ}
use Rattle.notify_ring.proofs.Keeps.{gates_at}
use Rattle.notify_ring.proofs.parts.Ring.store_gate.Goals as goal

pub store-requires : goal.store-requires
store-requires c =
    let d = c.requires.written in (
      c.requires.table,
      omega (arith, c.gate_word-word.ensures.within, c.args.self.now.sized.0),
      gates_at _ _ _ _ _ d.0 d.1 c.requires.slots
          (c.gate_word-word.ensures.is ∙ ap (λ (n : ℕ). 3 + 2 * n) d.2) d.3,
    )
