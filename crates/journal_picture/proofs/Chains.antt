-- Texts that are put one after another.
use Rattle.std.proofs.Common.{ℕ, List, ◌++◌, append_assoc, subst}
use Rattle.sink_buffer.specs.Texts.{Puts}

-- bytes were put, and then more
pub next : {Since Out : Type 0} (stands : Since → Out → List ℕ → Type 0) {a b c : Out}
    {xs ys : List ℕ} → Puts stands a xs b → Puts stands b ys c → Puts stands a (xs ++ ys) c
next stands {c = c} {xs = xs} {ys = ys} first second =
    λ since text h. subst (λ (t : List ℕ). stands since c t) (append_assoc text xs ys)
    (second since (text ++ xs) (first since text h))
