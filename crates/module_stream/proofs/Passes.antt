-- Ends of lines that stay the same.
use Rattle.std.proofs.Common.{◌≡◌, ap, ◌∙◌}
use Rattle.crossbeam_queue.specs.Passes.{Pass, IsSamePass}

pub same_twice : {T V : Type 0} (a b c : Pass T V) → IsSamePass a b → IsSamePass b c
    → IsSamePass a c
same_twice a b c p q = (q.0 ∙ p.0, q.1 ∙ p.1, q.2 ∙ p.2)

pub same_as : {T V : Type 0} (a b c : Pass T V) → IsSamePass a b → c ≡ b → IsSamePass a c
same_as {T = T} {V = V} a b c p e = (
  ap (λ (x : Pass T V). x.table_id) e ∙ p.0,
  ap (λ (x : Pass T V). x.id) e
      ∙ p.1,
  ap (λ (x : Pass T V). x.me.1) e ∙ p.2,
)
