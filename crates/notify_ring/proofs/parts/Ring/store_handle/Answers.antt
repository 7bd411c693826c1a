use Rattle.std.proofs.Common.{arith, ap, ◌∙◌, ◌+◌, ◌*◌, ℕ}
use Rattle.notify_ring.proofs.Keeps.{writes_at}
use Rattle.notify_ring.proofs.parts.Ring.store_handle.Goals as goal

pub store-requires : goal.store-requires
store-requires c =
    let d = c.requires.drawn in (
      c.requires.table,
      omega (arith, c.handle_word-word.ensures.within, c.args.self.now.sized.0),
      writes_at _ _ _ _ _ d.0 d.1 c.requires.slots
          (c.handle_word-word.ensures.is ∙ ap (λ (n : ℕ). 2 + 2 * n) d.2) d.3,
    )
