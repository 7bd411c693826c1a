-- Steps of the armed timers.
use Rattle.std.proofs.Common.{ℕ, ◌≡◌, ◌+◌, ◌*◌, ◌/◌, ◌<◌, ◌≤◌, false, List, ◌∷◌, length, drop}
use Rattle.std.proofs.Common.{get_or, ap, ◌∙◌, drop-cons, add-one}
use Rattle.std.proofs.lemmas.Bool.{cond-false}
use Rattle.std.proofs.Math.Nat.{div-mul-le_self}
use Rattle.reactor_summary.specs.declared.parts.ArmedTimer.{ArmedTimer}
use Rattle.reactor_summary.specs.Summary as S

-- the steps to the moment are no longer than the way
pub steps_below : (n every : ℕ) → n / every * every ≤ n
steps_below n every = div-mul-le_self n every

pub with_timer_more : (a : ArmedTimer) (xs : List ArmedTimer) (i : ℕ) (d : ArmedTimer)
    → i < length xs → S.comes_before a (get_or xs i d) ≡ false
    → S.with_timer a (drop i xs) ≡ get_or xs i d ∷ S.with_timer a (drop (i + 1) xs)
with_timer_more a xs i d lt h =
    let cut : drop i xs ≡ get_or xs i d ∷ drop (i + 1) xs = rw add-one (drop-cons xs i d lt) in
    ap (S.with_timer a) cut ∙ cond-false _ _ _ h
