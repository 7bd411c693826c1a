-- Edits of the live handles at one handle.
use Rattle.std.proofs.Common.{ℕ, ◌≡◌, ◌<◌, ◌+◌, ◌==◌, Bool, false, List, length, get_or, set, map}
use Rattle.std.proofs.Common.{sym, ap, ◌∙◌, subst, arith}
use Rattle.std.proofs.lemmas.Bool.{cond-true, cond-false, eq-eqb, ne_eqb}
use Rattle.std.specs.List.{list_any, remove, HoldsAt}
use Rattle.ev_types.specs.declared.upcall.Mask.{Mask}
use Rattle.ev_types.specs.declared.upcall.Handle.{Handle}
use Rattle.reactor_summary.specs.declared.parts.LiveHandle.{LiveHandle}
use Rattle.reactor_summary.specs.Summary as S
use Rattle.reactor_state.specs.Rises.{RisesIn}
use Rattle.reactor_state.specs.Sound.{handle_number}
use Rattle.reactor_state.specs.Tables.{alive_count}
use Rattle.reactor_state.proofs.Lists.{one, count-set, count-remove}
use Rattle.reactor_state.proofs.Rising.{map_at, map_absent}

-- a place of the handle, in a list that is lent
abbrev pub IsPlaceOf : ℕ → List LiveHandle → ℕ → Type 0
IsPlaceOf n xs p = (p < length xs) × HoldsAt (λ (h : LiveHandle). h.handle.0 ≡ n) xs p

-- an edit that leaves each other handle alone
set_at : (f : LiveHandle → LiveHandle) (hi n p : ℕ) (xs ys : List LiveHandle) (h g : LiveHandle)
    → ys ≡ xs → RisesIn handle_number 0 hi xs → IsPlaceOf n ys p → h ≡ get_or xs p h
    → ((y : LiveHandle) → (n ≡ y.handle.0 → ⊥) → f y ≡ y) → (n ≡ h.handle.0 → f h ≡ g)
    → set xs p g ≡ map f xs
set_at f hi n p xs ys h g lent rising place value others here =
    let at : IsPlaceOf n xs p = subst (λ zs. IsPlaceOf n zs p) lent place in
    let named : h.handle.0 ≡ n = ap (λ (y : LiveHandle). y.handle.0) value ∙ at.1 h in
    ap (set xs p) (sym (here (sym named)) ∙ ap f value)
    ∙ sym (map_at handle_number f 0 hi n p xs h rising at.0 (at.1 h)
    (λ y ne. others y (λ e. ne (sym e))))

same_at : (f : LiveHandle → LiveHandle) (hi n : ℕ) (xs ys : List LiveHandle) → ys ≡ xs
    → RisesIn handle_number 0 hi xs → ((hi : ℕ) → RisesIn handle_number 0 hi ys
    → list_any (λ (h : LiveHandle). h.handle.0 == n) ys ≡ false)
    → ((y : LiveHandle) → (n ≡ y.handle.0 → ⊥) → f y ≡ y) → xs ≡ map f xs
same_at f hi n xs ys lent rising absent others =
    let none : list_any (λ (h : LiveHandle). h.handle.0 == n) ys ≡ false =
    absent hi (subst (RisesIn handle_number 0 hi) (sym lent) rising) in
    sym (map_absent handle_number f n xs (λ y ne. others y (λ e. ne (sym e)))
    (subst (λ zs. list_any (λ (h : LiveHandle). h.handle.0 == n) zs ≡ false) lent none))

abbrev pub Edits : (LiveHandle → LiveHandle) → ℕ → (LiveHandle → LiveHandle) → Type 0
Edits f n g = (hi p : ℕ) (xs ys : List LiveHandle) (h : LiveHandle) → ys ≡ xs
    → RisesIn handle_number 0 hi xs → IsPlaceOf n ys p → h ≡ get_or xs p h
    → set xs p (g h) ≡ map f xs

abbrev pub Leaves : (LiveHandle → LiveHandle) → ℕ → Type 0
Leaves f n = (hi : ℕ) (xs ys : List LiveHandle) → ys ≡ xs → RisesIn handle_number 0 hi xs
    → ((hi : ℕ) → RisesIn handle_number 0 hi ys
    → list_any (λ (h : LiveHandle). h.handle.0 == n) ys ≡ false) → xs ≡ map f xs

pub mask_set : (n : ℕ) (mask : Mask) → Edits (S.with_mask n mask) n (λ h. record h { mask = mask })
mask_set n mask hi p xs ys h lent rising place value =
    set_at (S.with_mask n mask) hi n p xs ys h (record h { mask = mask }) lent rising place value
    (λ y ne. cond-false (n == y.handle.0) (record y { mask = mask }) y (ne_eqb _ _ ne))
    (λ e. cond-true (n == h.handle.0) (record h { mask = mask }) h (eq-eqb _ _ e))

pub mask_same : (n : ℕ) (mask : Mask) → Leaves (S.with_mask n mask) n
mask_same n mask hi xs ys lent rising absent =
    same_at (S.with_mask n mask) hi n xs ys lent rising absent
    (λ y ne. cond-false (n == y.handle.0) (record y { mask = mask }) y (ne_eqb _ _ ne))

pub suspended_set : (n : ℕ) (suspended : Bool)
    → Edits (S.with_suspended n suspended) n (λ h. record h { suspended = suspended })
suspended_set n b hi p xs ys h lent rising place value =
    set_at (S.with_suspended n b) hi n p xs ys h (record h { suspended = b }) lent rising place
    value (λ y ne. cond-false (n == y.handle.0) (record y { suspended = b }) y (ne_eqb _ _ ne))
    (λ e. cond-true (n == h.handle.0) (record h { suspended = b }) h (eq-eqb _ _ e))

pub suspended_same : (n : ℕ) (suspended : Bool) → Leaves (S.with_suspended n suspended) n
suspended_same n b hi xs ys lent rising absent =
    same_at (S.with_suspended n b) hi n xs ys lent rising absent
    (λ y ne. cond-false (n == y.handle.0) (record y { suspended = b }) y (ne_eqb _ _ ne))

pub end_set : (handle : Handle) → Edits (S.with_end (S.of_handle handle)) handle.0
    (λ h. record h { alive = false })
end_set handle hi p xs ys h lent rising place value =
    set_at (S.with_end (S.of_handle handle)) hi handle.0 p xs ys h (record h { alive = false }) lent
    rising place value (λ y ne. cond-false (handle.0 == y.handle.0) (record y { alive = false })
    y (ne_eqb _ _ ne)) (λ e. cond-true (handle.0 == h.handle.0) (record h { alive = false }) h
    (eq-eqb _ _ e))

pub end_same : (handle : Handle) → Leaves (S.with_end (S.of_handle handle)) handle.0
end_same handle hi xs ys lent rising absent =
    same_at (S.with_end (S.of_handle handle)) hi handle.0 xs ys lent rising absent
    (λ y ne. cond-false (handle.0 == y.handle.0) (record y { alive = false }) y (ne_eqb _ _ ne))

-- one alive handle less, if it was alive
pub end_counted : (p : ℕ) (xs ys : List LiveHandle) (h : LiveHandle) → ys ≡ xs → p < length ys
    → h ≡ get_or xs p h → alive_count (set xs p (record h { alive = false })) + one h.alive
    ≡ alive_count xs
end_counted p xs ys h lent l value =
    let within : p < length xs = subst (λ zs. p < length zs) lent l in
    let same : one h.alive ≡ one (get_or xs p h).alive =
    ap (λ (y : LiveHandle). one y.alive) value in
    omega (
      arith,
      count-set (λ (y : LiveHandle). y.alive) xs p (record h { alive = false }) h
          within,
    )

-- ---- the handle is taken away

pub close_counted : (p : ℕ) (xs ys zs : List LiveHandle) (h : LiveHandle) → ys ≡ xs → p < length ys
    → h ≡ get_or xs p h → zs ≡ remove xs p → alive_count zs + one h.alive ≡ alive_count xs
close_counted p xs ys zs h lent l value removed =
    let within : p < length xs = subst (λ vs. p < length vs) lent l in
    let same : one h.alive ≡ one (get_or xs p h).alive =
    ap (λ (y : LiveHandle). one y.alive) value in
    let counts : alive_count zs ≡ alive_count (remove xs p) = ap alive_count removed in
    omega (arith, count-remove (λ (y : LiveHandle). y.alive) xs p h within)
