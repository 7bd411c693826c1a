-- What the calls of the net do to the masks that it keeps.
use Rattle.std.proofs.Common.{ℕ, zero, suc, ◌≡◌, ◌<◌, Bool, true, false, not, ◌==◌, cond, List, []}
use Rattle.std.proofs.Common.{◌∷◌, length, map, refl, sym, ap, ◌∙◌, arith}
use Rattle.std.proofs.lemmas.Bool.{eq-eqb, eqb-true}
use Rattle.std.proofs.lemmas.List.Filters.{length-filter_both}
use Rattle.std.specs.List.{filter, Contains}
use Rattle.ev_base.specs.ev_types.specs.declared.upcall.Mask.{Mask}
use Rattle.ev_base.specs.Net.{changed_mask, without_mask}
use Rattle.dial_memory.specs.DialNets.{masked}

pub changed_by_map : (handle : ℕ) (mask : Mask) (masks : List (ℕ × Mask))
    → map (masked handle mask) masks ≡ changed_mask handle mask masks
changed_by_map handle mask [] = refl
changed_by_map handle mask (entry ∷ masks) =
    ap (λ es. masked handle mask entry ∷ es) (changed_by_map handle mask masks)

-- a filter by what f reads, before and after f
pub map-filter : {X Y : Type 0} (f : X → Y) (p : Y → Bool) (xs : List X)
    → map f (filter (λ x. p (f x)) xs) ≡ filter p (map f xs)
map-filter f p [] = refl
map-filter f p (x ∷ xs) = step (p (f x))
    ∙ ap (λ ys. cond (p (f x)) (f x ∷ ys) ys) (map-filter f p xs)
  where
    step : (b : Bool) → map f (cond b (x ∷ filter (λ x. p (f x)) xs) (filter (λ x. p (f x)) xs))
        ≡ cond b (f x ∷ map f (filter (λ x. p (f x)) xs)) (map f (filter (λ x. p (f x)) xs))
    step true = refl
    step false = refl

abbrev pub handles_of : List (ℕ × Mask) → List ℕ
handles_of masks = map (λ entry. entry.0) masks

pub fewer_masks : (handle : ℕ) (masks : List (ℕ × Mask)) → Contains (handles_of masks) handle
    → length (without_mask handle masks) < length masks
fewer_masks handle [] (k, l, e) = absurd (omega arith)
fewer_masks handle (entry ∷ masks) (zero, l, e) =
    let both = length-filter_both (λ (e : ℕ × Mask). not (e.0 == handle))
    (λ (e : ℕ × Mask). not (not (e.0 == handle))) (λ e. refl) masks in
    let out : length (without_mask handle (entry ∷ masks)) ≡ length (without_mask handle masks) =
    ap (λ b. length (cond (not b) (entry ∷ without_mask handle masks) (without_mask handle masks)))
    (eq-eqb entry.0 handle e) in
    omega arith
fewer_masks handle (entry ∷ masks) (suc k, l, e) =
    let less = fewer_masks handle masks (k, omega arith, e) in step (not (entry.0 == handle)) less
  where
    step : (b : Bool) → length (without_mask handle masks) < length masks
        → length (cond b (entry ∷ without_mask handle masks) (without_mask handle masks))
        < suc (length masks)
    step true less = omega arith
    step false less = omega arith

-- a mask set leaves the handles
same_handle : (handle : ℕ) (mask : Mask) (entry : ℕ × Mask) (b : Bool) → (entry.0 == handle) ≡ b
    → (cond b (handle, mask) entry).0 ≡ entry.0
same_handle handle mask entry true e = sym (eqb-true entry.0 handle e)
same_handle handle mask entry false e = refl

pub handles-changed : (handle : ℕ) (mask : Mask) (masks : List (ℕ × Mask))
    → handles_of (changed_mask handle mask masks) ≡ handles_of masks
handles-changed handle mask [] = refl
handles-changed handle mask (entry ∷ masks) =
    ap (λ h. h ∷ handles_of (changed_mask handle mask masks))
    (same_handle handle mask entry (entry.0 == handle) refl)
    ∙ ap (λ hs. entry.0 ∷ hs) (handles-changed handle mask masks)
