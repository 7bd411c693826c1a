use Rattle.std.proofs.Common.{arith, ap, ◌∙◌, ◌+◌, ◌*◌, ℕ}
use Rattle.notify_ring.proofs.Drains.{reads_at}
use Rattle.notify_ring.proofs.parts.Ring.load_handle.Goals as goal

pub load-requires : goal.load-requires
load-requires c = let r = c.requires.seen in (
  c.requires.table,
  omega (arith, c.handle_word-word.ensures.within, c.args.self.now.sized.0),
  reads_at _ _ _ _ r.0.0 r.0.1 r.1.0 r.1.1
      (c.handle_word-word.ensures.is ∙ ap (λ (n : ℕ). 2 + 2 * n) c.requires.place),
)
