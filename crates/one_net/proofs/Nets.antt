-- What the calls of the net do to the masks that it keeps.
use Rattle.std.proofs.Common.{ℕ, zero, suc, ◌≡◌, ◌+◌, ◌-◌, ◌<◌, Bool, true, false, not, ◌==◌, ◌&&◌}
use Rattle.std.proofs.Common.{◌||◌, cond, List, [], ◌∷◌, length, map, refl, sym, ap, ◌∙◌, subst}
use Rattle.std.proofs.Common.{arith, Option, Some, None}
use Rattle.std.proofs.lemmas.Bool.{eq-eqb, eqb-true}
use Rattle.std.proofs.lemmas.List.Filters.{length-filter_both}
use Rattle.std.specs.List.{filter, Contains, list_all, slice_get}
use Rattle.ev_base.specs.ev_types.specs.declared.upcall.Mask.{Mask}
use Rattle.ev_base.specs.ev_types.specs.declared.upcall.Kind.TheVariants.{Read}
use Rattle.ev_base.specs.declared.net.Report.{Report}
use Rattle.std.specs.Option.{option_to_list}
use Rattle.ev_base.specs.declared.net.Waited.{Waited}
use Rattle.ev_base.specs.Net.{NetFacts, Call, Waits, with_one, AreWanted, NetWaits, changed_mask}
use Rattle.ev_base.specs.Net.{without_mask, is_wanted, mask_has}
use Rattle.one_net.specs.Watched.{masked, first_report, report_list, answer_of}

pub changed_by_map : (handle : ℕ) (mask : Mask) (masks : List (ℕ × Mask))
    → map (masked handle mask) masks ≡ changed_mask handle mask masks
changed_by_map handle mask [] = refl
changed_by_map handle mask (entry ∷ masks) =
    ap (λ es. masked handle mask entry ∷ es) (changed_by_map handle mask masks)

-- a filter by what f reads, before and after f
pub map-filter : {X Y : Type 0} (f : X → Y) (p : Y → Bool) (xs : List X)
    → map f (filter (λ x. p (f x)) xs) ≡ filter p (map f xs)
map-filter f p [] = refl
map-filter f p (x ∷ xs) = step (p (f x))
    ∙ ap (λ ys. cond (p (f x)) (f x ∷ ys) ys) (map-filter f p xs)
  where
    step : (b : Bool) → map f (cond b (x ∷ filter (λ x. p (f x)) xs) (filter (λ x. p (f x)) xs))
        ≡ cond b (f x ∷ map f (filter (λ x. p (f x)) xs)) (map f (filter (λ x. p (f x)) xs))
    step true = refl
    step false = refl

abbrev pub handles_of : List (ℕ × Mask) → List ℕ
handles_of masks = map (λ entry. entry.0) masks

pub fewer_masks : (handle : ℕ) (masks : List (ℕ × Mask)) → Contains (handles_of masks) handle
    → length (without_mask handle masks) < length masks
fewer_masks handle [] (k, l, e) = absurd (omega arith)
fewer_masks handle (entry ∷ masks) (zero, l, e) =
    let both = length-filter_both (λ (e : ℕ × Mask). not (e.0 == handle))
    (λ (e : ℕ × Mask). not (not (e.0 == handle))) (λ e. refl) masks in
    let out : length (without_mask handle (entry ∷ masks)) ≡ length (without_mask handle masks) =
    ap (λ b. length (cond (not b) (entry ∷ without_mask handle masks) (without_mask handle masks)))
    (eq-eqb entry.0 handle e) in
    omega arith
fewer_masks handle (entry ∷ masks) (suc k, l, e) =
    let less = fewer_masks handle masks (k, omega arith, e) in step (not (entry.0 == handle)) less
  where
    step : (b : Bool) → length (without_mask handle masks) < length masks
        → length (cond b (entry ∷ without_mask handle masks) (without_mask handle masks))
        < suc (length masks)
    step true less = omega arith
    step false less = omega arith

-- a mask set leaves the handles
same_handle : (handle : ℕ) (mask : Mask) (entry : ℕ × Mask) (b : Bool) → (entry.0 == handle) ≡ b
    → (cond b (handle, mask) entry).0 ≡ entry.0
same_handle handle mask entry true e = sym (eqb-true entry.0 handle e)
same_handle handle mask entry false e = refl

pub handles-changed : (handle : ℕ) (mask : Mask) (masks : List (ℕ × Mask))
    → handles_of (changed_mask handle mask masks) ≡ handles_of masks
handles-changed handle mask [] = refl
handles-changed handle mask (entry ∷ masks) =
    ap (λ h. h ∷ handles_of (changed_mask handle mask masks))
    (same_handle handle mask entry (entry.0 == handle) refl)
    ∙ ap (λ hs. entry.0 ∷ hs) (handles-changed handle mask masks)

-- ---- the report

-- the report is wanted
self_wanted : (h : ℕ) (read rest : Bool) → read ≡ true → ((h == h) && read) || rest ≡ true
self_wanted h read rest e = ap (λ b. (b && read) || rest) (eq-eqb h h refl) ∙ ap (λ b. b || rest) e

one_wanted : (entry : ℕ × Mask) (report : Report) (b : Bool) → entry.1.read ≡ b
    → cond b (Some (record { handle = record { 0 = entry.0 }; kind = Read })) None ≡ Some report
    → is_wanted (entry ∷ []) report ≡ true
one_wanted entry report true reads e =
    subst (λ o. wanted_if o) e (self_wanted entry.0 entry.1.read false reads)
  where
    wanted_if : Option Report → Type 0
    wanted_if None = Unit {0}
    wanted_if (Some r) = is_wanted (entry ∷ []) r ≡ true
one_wanted entry report false reads e = absurd (subst no_report e tt)
  where
    no_report : Option Report → Type 0
    no_report None = Unit {0}
    no_report (Some r) = ⊥

pub report_wanted : (masks : List (ℕ × Mask)) (report : Report) → first_report masks ≡ Some report
    → is_wanted masks report ≡ true
report_wanted [] report e = absurd (subst no_report e tt)
  where
    no_report : Option Report → Type 0
    no_report None = Unit {0}
    no_report (Some r) = ⊥
report_wanted (entry ∷ []) report e = one_wanted entry report entry.1.read refl e
report_wanted (entry ∷ (other ∷ masks)) report e =
    or_right (entry.0 == report.handle.0 && mask_has entry.1 report.kind)
    (is_wanted (other ∷ masks) report) (report_wanted (other ∷ masks) report e)
  where
    or_right : (a b : Bool) → b ≡ true → a || b ≡ true
    or_right true b e = refl
    or_right false b e = e

pub all_wanted : (masks : List (ℕ × Mask)) (given : Option Report) → given ≡ first_report masks
    → list_all (is_wanted masks) (report_list given) ≡ true
all_wanted masks None e = refl
all_wanted masks (Some report) e = ap (λ b. b && true) (report_wanted masks report (sym e))

-- a wait is answered by its report
pub answers_by : {E : Type 0} (old : NetFacts E) (most : Option ℕ) (given : Option Report)
    (answer : Waited) (calls : Option (List Call)) → old.now ≡ 0 → answer ≡ answer_of given
    → calls ≡ with_one old.calls (Waits most answer (option_to_list given))
    → AreWanted old.masks (report_list given)
    → NetWaits old most answer (record old { now = 0; reports = report_list given; calls = calls })
answers_by {E} old most given answer calls start is told wanted =
    subst (λ a. NetWaits old most a (record old {
      now = 0;
      reports = report_list given;
      calls = calls;
    })) (sym is) (by given (subst
    (λ a. calls ≡ with_one old.calls (Waits most a (option_to_list given))) is told) wanted)
  where
    by : (given : Option Report) → calls
        ≡ with_one old.calls (Waits most (answer_of given) (option_to_list given))
        → AreWanted old.masks (report_list given)
        → NetWaits old most (answer_of given)
        (record old { now = 0; reports = report_list given; calls = calls })
    by None told wanted = (
      record {
        now = refl;
        later = omega (arith, start);
        bounded = omega arith;
        few = omega arith;
        wanted = wanted;
        calls = told;
        failed_waits = refl;
        failed_attaches = refl;
        steady = refl;
        attached = refl;
        spare = omega arith;
        masks = refl;
        retired = refl;
        turned_away = refl;
      },
      refl,
    )
    by (Some report) told wanted = (
      record {
        now = refl;
        later = omega (arith, start);
        bounded = omega arith;
        few = omega arith;
        wanted = wanted;
        calls = told;
        failed_waits = refl;
        failed_attaches = refl;
        steady = refl;
        attached = refl;
        spare = omega arith;
        masks = refl;
        retired = refl;
        turned_away = refl;
      },
      refl,
      omega arith,
    )

-- ---- the last of a list decides the report

-- the report of the only end, if there is one
abbrev report_of : Option (ℕ × Mask) → Option Report
report_of None = None
report_of (Some entry) = first_report (entry ∷ [])

first_behind : (masks : List (ℕ × Mask)) (entry : ℕ × Mask) (k : ℕ) → k + 1 ≡ length masks
    → slice_get masks k ≡ Some entry → first_report masks ≡ first_report (entry ∷ [])
first_behind [] entry k e there = absurd (omega arith)
first_behind (x ∷ []) entry zero e there = ap report_of there
first_behind (x ∷ []) entry (suc k) e there = absurd (omega arith)
first_behind (x ∷ (y ∷ masks)) entry zero e there = absurd (omega arith)
first_behind (x ∷ (y ∷ masks)) entry (suc k) e there =
    first_behind (y ∷ masks) entry k (omega arith) there

abbrev report_if : Bool → ℕ × Mask → Option Report
report_if b entry = cond b (Some (record { handle = record { 0 = entry.0 }; kind = Read })) None

pub first_of_last : (masks : List (ℕ × Mask)) (entry : ℕ × Mask)
    → slice_get masks (length masks - 1) ≡ Some entry
    → first_report masks ≡ first_report (entry ∷ [])
first_of_last [] entry there = absurd (subst IsNone there tt)
  where
    IsNone : Option (ℕ × Mask) → Type 0
    IsNone None = Unit {0}
    IsNone (Some x) = ⊥
first_of_last (x ∷ masks) entry there =
    first_behind (x ∷ masks) entry (length (x ∷ masks) - 1) (omega arith) there

-- so the report is that of the last end, if its mask has that it can be read
pub report_of_last : (masks : List (ℕ × Mask)) (entry : ℕ × Mask) (b : Bool)
    → slice_get masks (length masks - 1) ≡ Some entry → entry.1.read ≡ b
    → cond b (Some (record { handle = record { 0 = entry.0 }; kind = Read })) None
    ≡ first_report masks
report_of_last masks entry true there reads =
    sym (first_of_last masks entry there ∙ ap (λ r. report_if r entry) reads)
report_of_last masks entry false there reads =
    sym (first_of_last masks entry there ∙ ap (λ r. report_if r entry) reads)
