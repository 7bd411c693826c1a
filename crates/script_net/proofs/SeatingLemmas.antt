-- The places of the ends that a net watches.
use Rattle.std.proofs.Common.{◌≡◌, ◌≢◌, ◌∙◌, ℕ, zero, suc, ◌<◌, ◌≤◌, Bool, true, false, not, cond}
use Rattle.std.proofs.Common.{◌==◌, ◌&&◌, List, [], ◌∷◌, ◌++◌, length, map, set, Option, Some, None}
use Rattle.std.proofs.Common.{refl, sym, ap, subst, arith, inl, inr, ◌⊎◌}
use Rattle.std.specs.List.{slice_get, filter, Contains}
use Rattle.std.proofs.lemmas.Bool.{eqb-true, eq-eqb}
use Rattle.std.proofs.lemmas.Option.{slice_get_within, same_Some}
use Rattle.std.proofs.lemmas.List.{length-append, length-set}
use Rattle.ev_base.specs.ev_types.specs.declared.upcall.Mask.{Mask}
use Rattle.ev_base.specs.ev_types.specs.declared.upcall.Kind.TheVariants.{Read}
use Rattle.ev_base.specs.Terms.{StepEnd, AtListener, AtConnection, Step}
use Rattle.ev_base.specs.Playing.{Seat, is_end, report_at, masked, has_handle}
use Rattle.ev_base.specs.declared.net.Report.{Report}
use Rattle.script_net.specs.Scripts.{end_view}
use Rattle.script_net.specs.Playable.{IsWithin}
use Rattle.script_net.specs.declared.seats.Place.{Place}
use Rattle.script_net.specs.Seating.{seat_of, and_seat, seats_to, seats_of, is_place_of, last_to}
use Rattle.script_net.specs.Seating.{own_report, report_of, or_else, found_to, handles_of, AreOnce}
use Rattle.script_net.specs.Seating.{AreChained, IsPlaceOf}

-- ---- ends

pub same_end : (a b : StepEnd) → is_end a b ≡ true → a ≡ b
same_end AtListener AtListener e = refl
same_end AtListener (AtConnection d) e = absurd cc
same_end (AtConnection c) AtListener e = absurd cc
same_end (AtConnection c) (AtConnection d) e = ap AtConnection (eqb-true c d e)

pub own_end : (a : StepEnd) → is_end a a ≡ true
own_end AtListener = refl
own_end (AtConnection c) = eq-eqb c c refl

-- ---- the report of an end

pub not_its : (o : Option Place) (e : StepEnd) → is_place_of o e ≡ false → report_of o e ≡ None
not_its None e other = refl
not_its (Some p) e other = ap (λ b. cond b (own_report p) None) other

none_step : (o : Option Place) (e : StepEnd) (n : ℕ) (last : Option ℕ) (found : Option Report)
    (b : Bool) → is_place_of o e ≡ b → (last ≡ None → found ≡ None) → cond b (Some n) last ≡ None
    → or_else (report_of o e) found ≡ None
none_step o e n last found true is rest none = absurd cc
none_step o e n last found false is rest none =
    ap (λ r. or_else r found) (not_its o e is) ∙ rest none

pub none_found : (ps : List Place) (e : StepEnd) (n : ℕ) → last_to ps e n ≡ None
    → found_to ps e n ≡ None
none_found ps e zero none = refl
none_found ps e (suc n) none = none_step (slice_get ps n) e n (last_to ps e n) (found_to ps e n)
    (is_place_of (slice_get ps n) e) refl (none_found ps e n) none

-- the last place of an end among the first n
pub record IsLast (ps : List Place) (e : StepEnd) (n k : ℕ) : Type 0 where
  pub below : k < n
  pub its : is_place_of (slice_get ps k) e ≡ true
  pub same : found_to ps e n ≡ found_to ps e (suc k)

last_step : (ps : List Place) (e : StepEnd) (n k : ℕ) (b : Bool)
    → is_place_of (slice_get ps n) e ≡ b → (last_to ps e n ≡ Some k → IsLast ps e n k)
    → cond b (Some n) (last_to ps e n) ≡ Some k → IsLast ps e (suc n) k
last_step ps e n k true is rest some =
    let at : n ≡ k = same_Some n k some in
    record {
      below = omega arith;
      its = subst (λ (m : ℕ). is_place_of (slice_get ps m) e ≡ true) at is;
      same = ap (λ (m : ℕ). found_to ps e (suc m)) at;
    }
last_step ps e n k false is rest some =
    let r = rest some in
    record {
      below = omega (arith, r.below);
      its = r.its;
      same = ap (λ o. or_else o (found_to ps e n)) (not_its (slice_get ps n) e is) ∙ r.same;
    }

pub is_last : (ps : List Place) (e : StepEnd) (n k : ℕ) → last_to ps e n ≡ Some k → IsLast ps e n k
is_last ps e zero k some = absurd cc
is_last ps e (suc n) k some = last_step ps e n k (is_place_of (slice_get ps n) e) refl
    (is_last ps e n k) some

-- the report of a place of the end
pub its_report : (o : Option Place) (p : Place) (e : StepEnd) → o ≡ Some p → is_place_of o e ≡ true
    → report_of o e ≡ own_report p
its_report o p e there its =
    let is : is_end (end_view p.end) e ≡ true = subst (λ x. is_place_of x e ≡ true) there its in
    ap (λ x. report_of x e) there ∙ ap (λ b. cond b (own_report p) None) is

abbrev pub place_behind : Option ℕ → ℕ
place_behind None = 0
place_behind (Some k) = suc k

behind_if : (n : ℕ) (last : Option ℕ) (b : Bool) → place_behind last ≤ n
    → place_behind (cond b (Some n) last) ≤ suc n
behind_if n last true le = omega arith
behind_if n last false le = omega arith

pub behind_bound : (ps : List Place) (e : StepEnd) (n : ℕ) → place_behind (last_to ps e n) ≤ n
behind_bound ps e zero = omega arith
behind_bound ps e (suc n) = behind_if n (last_to ps e n) (is_place_of (slice_get ps n) e)
    (behind_bound ps e n)

-- the report of a step is that of its end
abbrev step_of : StepEnd → Step
step_of e = record { end = e; kind = Read }

attached_step : (p : Place) (e : StepEnd) (seats : List Seat) (found : Option Report) (a b c : Bool)
    → report_at seats (step_of e) ≡ found
    → cond a (cond (b && c) (Some (record { handle = record { 0 = p.handle }; kind = Read }))
    (report_at seats (step_of e))) (report_at seats (step_of e))
    ≡ or_else (cond b (cond (a && c) (Some
    (record { handle = record { 0 = p.handle }; kind = Read })) None) None) found
attached_step p e seats found false false c rest = rest
attached_step p e seats found false true c rest = rest
attached_step p e seats found true false c rest = rest
attached_step p e seats found true true false rest = rest
attached_step p e seats found true true true rest = refl

seat_if : (p : Place) (e : StepEnd) (seats : List Seat) (a : Bool)
    → report_at (cond a (seat_of p ∷ seats) seats) (step_of e)
    ≡ cond a (cond (is_end (end_view p.end) e && p.mask.read)
    (Some (record { handle = record { 0 = p.handle }; kind = Read }))
    (report_at seats (step_of e))) (report_at seats (step_of e))
seat_if p e seats true = refl
seat_if p e seats false = refl

seat_step : (o : Option Place) (e : StepEnd) (seats : List Seat) (found : Option Report)
    → report_at seats (step_of e) ≡ found
    → report_at (and_seat o seats) (step_of e) ≡ or_else (report_of o e) found
seat_step None e seats found rest = rest
seat_step (Some p) e seats found rest =
    seat_if p e seats p.attached ∙ attached_step p e seats found p.attached
    (is_end (end_view p.end) e) p.mask.read rest

pub reports : (ps : List Place) (e : StepEnd) (n : ℕ)
    → report_at (seats_to ps n) (step_of e) ≡ found_to ps e n
reports ps e zero = refl
reports ps e (suc n) = seat_step (slice_get ps n) e (seats_to ps n) (found_to ps e n)
    (reports ps e n)

-- ---- one place more

get_left : {A : Type 0} (xs ys : List A) (k : ℕ) → k < length xs
    → slice_get (xs ++ ys) k ≡ slice_get xs k
get_left [] ys k lt = absurd (omega arith)
get_left (x ∷ xs) ys zero lt = refl
get_left (x ∷ xs) ys (suc k) lt = get_left xs ys k (omega arith)

pub get_last : {A : Type 0} (xs : List A) (x : A) → slice_get (xs ++ x ∷ []) (length xs) ≡ Some x
get_last [] x = refl
get_last (y ∷ xs) x = get_last xs x

pub last_more : (ps : List Place) (p : Place) (e : StepEnd) (n : ℕ) → n ≤ length ps
    → last_to (ps ++ p ∷ []) e n ≡ last_to ps e n
last_more ps p e zero le = refl
last_more ps p e (suc n) le =
    ap (λ o. cond (is_place_of o e) (Some n) (last_to (ps ++ p ∷ []) e n))
    (get_left ps (p ∷ []) n (omega arith))
    ∙ ap (λ l. cond (is_place_of (slice_get ps n) e) (Some n) l) (last_more ps p e n (omega arith))

seats_more : (ps : List Place) (p : Place) (n : ℕ) → n ≤ length ps
    → seats_to (ps ++ p ∷ []) n ≡ seats_to ps n
seats_more ps p zero le = refl
seats_more ps p (suc n) le =
    ap (λ o. and_seat o (seats_to (ps ++ p ∷ []) n)) (get_left ps (p ∷ []) n (omega arith))
    ∙ ap (and_seat (slice_get ps n)) (seats_more ps p n (omega arith))

one_longer : {A : Type 0} (xs : List A) (x : A) → length (xs ++ x ∷ []) ≡ suc (length xs)
one_longer xs x = length-append xs (x ∷ []) ∙ omega arith

pub last_pushed : (ps : List Place) (p : Place) (e : StepEnd)
    → last_to (ps ++ p ∷ []) e (length (ps ++ p ∷ []))
    ≡ cond (is_end (end_view p.end) e) (Some (length ps)) (last_to ps e (length ps))
last_pushed ps p e =
    ap (last_to (ps ++ p ∷ []) e) (one_longer ps p)
    ∙ ap (λ o. cond (is_place_of o e) (Some (length ps)) (last_to (ps ++ p ∷ []) e (length ps)))
    (get_last ps p)
    ∙ ap (λ l. cond (is_end (end_view p.end) e) (Some (length ps)) l)
    (last_more ps p e (length ps) (omega arith))

pub seats_pushed : (ps : List Place) (p : Place) → p.attached ≡ true
    → seats_of (ps ++ p ∷ []) ≡ seat_of p ∷ seats_of ps
seats_pushed ps p attached =
    ap (seats_to (ps ++ p ∷ [])) (one_longer ps p)
    ∙ ap (λ o. and_seat o (seats_to (ps ++ p ∷ []) (length ps))) (get_last ps p)
    ∙ ap (λ b. cond b (seat_of p ∷ seats_to (ps ++ p ∷ []) (length ps))
    (seats_to (ps ++ p ∷ []) (length ps))) attached
    ∙ ap (λ ss. seat_of p ∷ ss) (seats_more ps p (length ps) (omega arith))

-- a place of the longer list is one of the old places, or the last
pub get_more : {A : Type 0} (xs : List A) (x y : A) (k : ℕ) → slice_get (xs ++ x ∷ []) k ≡ Some y
    → ((k < length xs) × (slice_get xs k ≡ Some y)) ⊎ ((k ≡ length xs) × (x ≡ y))
get_more [] x y zero is = inr (refl, same_Some x y is)
get_more [] x y (suc k) is = absurd cc
get_more (z ∷ xs) x y zero is = inl (omega arith, is)
get_more (z ∷ xs) x y (suc k) is = more (get_more xs x y k is)
  where
    more : ((k < length xs) × (slice_get xs k ≡ Some y)) ⊎ ((k ≡ length xs) × (x ≡ y))
        → ((suc k < suc (length xs)) × (slice_get xs k ≡ Some y))
        ⊎ ((suc k ≡ suc (length xs)) × (x ≡ y))
    more (inl (lt, there)) = inl (omega (arith, lt), there)
    more (inr (at, same)) = inr (ap suc at, same)

-- a handle of a place that is attached is one of the handles
and_contains : (p : Place) (seats : List Seat) (b : Bool) (h : ℕ) → Contains (handles_of seats) h
    → Contains (handles_of (cond b (seat_of p ∷ seats) seats)) h
and_contains p seats true h (k, lt, is) = (suc k, omega (arith, lt), is)
and_contains p seats false h c = c

contains_seat : (o : Option Place) (seats : List Seat) (h : ℕ) → Contains (handles_of seats) h
    → Contains (handles_of (and_seat o seats)) h
contains_seat None seats h c = c
contains_seat (Some p) seats h c = and_contains p seats p.attached h c

contains_here : (p : Place) (seats : List Seat) (b : Bool) → b ≡ true
    → Contains (handles_of (cond b (seat_of p ∷ seats) seats)) p.handle
contains_here p seats true is = (zero, omega arith, refl)
contains_here p seats false is = absurd cc

pub not_equal : (j k : ℕ) → (j == k) ≡ false → j ≢ k
not_equal j k e is = let t = eq-eqb j k is in cc

contains_step : (ps : List Place) (n k : ℕ) (p : Place) (b : Bool) → (k == n) ≡ b → k < suc n
    → slice_get ps k ≡ Some p → p.attached ≡ true
    → (k < n → Contains (handles_of (seats_to ps n)) p.handle)
    → Contains (handles_of (seats_to ps (suc n))) p.handle
contains_step ps n k p true e lt there attached rest =
    let same : slice_get ps n ≡ Some p =
    subst (λ (m : ℕ). slice_get ps m ≡ Some p) (eqb-true k n e) there in
    subst (λ o. Contains (handles_of (and_seat o (seats_to ps n))) p.handle) (sym same)
    (contains_here p (seats_to ps n) p.attached attached)
contains_step ps n k p false e lt there attached rest =
    let other = not_equal k n e in
    contains_seat (slice_get ps n) (seats_to ps n) p.handle (rest (omega arith))

pub contains_attached : (ps : List Place) (n k : ℕ) (p : Place) → k < n → slice_get ps k ≡ Some p
    → p.attached ≡ true → Contains (handles_of (seats_to ps n)) p.handle
contains_attached ps zero k p lt there attached = absurd (omega arith)
contains_attached ps (suc n) k p lt there attached =
    contains_step ps n k p (k == n) refl lt there attached
    (λ below. contains_attached ps n k p below there attached)

pub once_more : (ps : List Place) (p : Place) → AreOnce ps
    → (Contains (handles_of (seats_of ps)) p.handle → ⊥) → AreOnce (ps ++ p ∷ [])
once_more ps p once absent i j q r at_i at_j on_i on_j same =
    by (get_more ps p q i at_i) (get_more ps p r j at_j)
  where
    by : ((i < length ps) × (slice_get ps i ≡ Some q)) ⊎ ((i ≡ length ps) × (p ≡ q))
        → ((j < length ps) × (slice_get ps j ≡ Some r)) ⊎ ((j ≡ length ps) × (p ≡ r)) → i ≡ j
    by (inl a) (inl b) = once i j q r a.1 b.1 on_i on_j same
    by (inl a) (inr b) = absurd (absent
        (subst (Contains (handles_of (seats_of ps))) (same ∙ ap (λ (x : Place). x.handle) (sym b.1))
        (contains_attached ps (length ps) i q a.0 a.1 on_i)))
    by (inr a) (inl b) = absurd (absent
        (subst (Contains (handles_of (seats_of ps)))
        (sym same ∙ ap (λ (x : Place). x.handle) (sym a.1))
        (contains_attached ps (length ps) j r b.0 b.1 on_j)))
    by (inr a) (inr b) = a.0 ∙ sym b.0

-- ---- the place of a handle

place_here : (ps : List Place) (n : ℕ) (h : ℕ) (p : Place) (b : Bool) → p.attached ≡ b
    → slice_get ps n ≡ Some p
    → (Contains (handles_of (seats_to ps n)) h → (k : ℕ) × (k < n) × IsPlaceOf ps h k)
    → Contains (handles_of (cond b (seat_of p ∷ seats_to ps n) (seats_to ps n))) h → (k : ℕ)
    × (k < suc n) × IsPlaceOf ps h k
place_here ps n h p true on there rest (zero, lt, is) =
    (n, omega arith, record { place = p; there = there; attached = on; handle_is = is })
place_here ps n h p true on there rest (suc k, lt, is) = let r = rest (k, omega (arith, lt), is) in
    (r.0, omega (arith, r.1), r.2)
place_here ps n h p false on there rest c = let r = rest c in (r.0, omega (arith, r.1), r.2)

place_step : (ps : List Place) (n : ℕ) (h : ℕ) (o : Option Place) → slice_get ps n ≡ o
    → (Contains (handles_of (seats_to ps n)) h → (k : ℕ) × (k < n) × IsPlaceOf ps h k)
    → Contains (handles_of (and_seat o (seats_to ps n))) h → (k : ℕ) × (k < suc n)
    × IsPlaceOf ps h k
place_step ps n h None there rest c = let r = rest c in (r.0, omega (arith, r.1), r.2)
place_step ps n h (Some p) there rest c = place_here ps n h p p.attached refl there rest c

pub has_place : (ps : List Place) (n h : ℕ) → Contains (handles_of (seats_to ps n)) h → (k : ℕ)
    × (k < n) × IsPlaceOf ps h k
has_place ps zero h (k, lt, is) = absurd (omega (arith, lt))
has_place ps (suc n) h c = place_step ps n h (slice_get ps n) refl (has_place ps n h) c

-- ---- one place changed

pub get_same : {A : Type 0} (xs : List A) (k : ℕ) (x : A) → k < length xs
    → slice_get (set xs k x) k ≡ Some x
get_same [] k x lt = absurd (omega arith)
get_same (y ∷ xs) zero x lt = refl
get_same (y ∷ xs) (suc k) x lt = get_same xs k x (omega arith)

pub get_other : {A : Type 0} (xs : List A) (k j : ℕ) (x : A) → j ≢ k
    → slice_get (set xs k x) j ≡ slice_get xs j
get_other [] k j x ne = refl
get_other (y ∷ xs) zero zero x ne = absurd (ne refl)
get_other (y ∷ xs) zero (suc j) x ne = refl
get_other (y ∷ xs) (suc k) zero x ne = refl
get_other (y ∷ xs) (suc k) (suc j) x ne = get_other xs k j x (λ e. ne (ap suc e))

-- the place is of the same end, and knows the same place before it
pub record Alike (old new : Place) : Type 0 where
  pub end : new.end ≡ old.end
  pub earlier : new.earlier ≡ old.earlier
  pub handle : new.handle ≡ old.handle

its_same : (old new : Place) (e : StepEnd) → Alike old new
    → is_place_of (Some new) e ≡ is_place_of (Some old) e
its_same old new e a = ap (λ x. is_end (end_view x) e) a.end

place_at : (ps : List Place) (k j : ℕ) (old new : Place) (e : StepEnd) → slice_get ps k ≡ Some old
    → Alike old new → is_place_of (slice_get (set ps k new) j) e ≡ is_place_of (slice_get ps j) e
place_at ps k j old new e there a = by (j == k) refl
  where
    by : (b : Bool) → (j == k) ≡ b → is_place_of (slice_get (set ps k new) j) e
        ≡ is_place_of (slice_get ps j) e
    by true is =
        let at : j ≡ k = eqb-true j k is in
        let now : slice_get (set ps k new) j ≡ Some new =
        ap (slice_get (set ps k new)) at ∙ get_same ps k new (slice_get_within ps k old there)
        in
        let was : slice_get ps j ≡ Some old = ap (slice_get ps) at ∙ there in
        ap (λ o. is_place_of o e) now ∙ its_same old new e a ∙ ap (λ o. is_place_of o e) (sym was)
    by false is = ap (λ o. is_place_of o e) (get_other ps k j new (not_equal j k is))

pub last_set : (ps : List Place) (k : ℕ) (old new : Place) (e : StepEnd) (n : ℕ)
    → slice_get ps k ≡ Some old → Alike old new → last_to (set ps k new) e n ≡ last_to ps e n
last_set ps k old new e zero there a = refl
last_set ps k old new e (suc n) there a =
    ap (λ b. cond b (Some n) (last_to (set ps k new) e n)) (place_at ps k n old new e there a)
    ∙ ap (λ l. cond (is_place_of (slice_get ps n) e) (Some n) l) (last_set ps k old new e n there a)

-- a place of the changed list is the changed one, or one of the old places
pub get_changed : (ps : List Place) (k j : ℕ) (old new p : Place) → slice_get ps k ≡ Some old
    → slice_get (set ps k new) j ≡ Some p → ((j ≡ k) × (new ≡ p)) ⊎ (slice_get ps j ≡ Some p)
get_changed ps k j old new p there is = by (j == k) refl
  where
    by : (b : Bool) → (j == k) ≡ b → ((j ≡ k) × (new ≡ p)) ⊎ (slice_get ps j ≡ Some p)
    by true e =
        let at : j ≡ k = eqb-true j k e in
        let now : slice_get (set ps k new) j ≡ Some new =
        ap (slice_get (set ps k new)) at ∙ get_same ps k new (slice_get_within ps k old there)
        in
        inl (at, same_Some new p (sym now ∙ is))
    by false e = inr (sym (get_other ps k j new (not_equal j k e)) ∙ is)

pub chained_set : (many : ℕ) (ps : List Place) (k : ℕ) (old new : Place) → slice_get ps k ≡ Some old
    → Alike old new → AreChained many ps → AreChained many (set ps k new)
chained_set many ps k old new there a chained j p is within =
    by (get_changed ps k j old new p there is)
  where
    by : ((j ≡ k) × (new ≡ p)) ⊎ (slice_get ps j ≡ Some p)
        → p.earlier ≡ last_to (set ps k new) (end_view p.end) j
    by (inl (at, same)) =
        let is_old : p.end ≡ old.end = ap (λ (x : Place). x.end) (sym same) ∙ a.end in
        let in_script : IsWithin many (end_view old.end) =
        subst (λ x. IsWithin many (end_view x)) is_old within in
        ap (λ (x : Place). x.earlier) (sym same) ∙ a.earlier ∙ chained k old there in_script
        ∙ ap (last_to ps (end_view old.end)) (sym at)
        ∙ ap (λ x. last_to ps (end_view x) j) (sym is_old)
        ∙ sym (last_set ps k old new (end_view p.end) j there a)
    by (inr was) = chained j p was within ∙ sym (last_set ps k old new (end_view p.end) j there a)

pub once_set : (ps : List Place) (k : ℕ) (old new : Place) → slice_get ps k ≡ Some old
    → Alike old new → (new.attached ≡ true → old.attached ≡ true) → AreOnce ps
    → AreOnce (set ps k new)
once_set ps k old new there a on once i j p q at_i at_j on_i on_j same =
    by (get_changed ps k i old new p there at_i) (get_changed ps k j old new q there at_j)
  where
    was_on : (x : Place) → new ≡ x → x.attached ≡ true → old.attached ≡ true
    was_on x is on_x = on (ap (λ (y : Place). y.attached) is ∙ on_x)

    handle_of : (x : Place) → new ≡ x → x.handle ≡ old.handle
    handle_of x is = ap (λ (y : Place). y.handle) (sym is) ∙ a.handle

    by : ((i ≡ k) × (new ≡ p)) ⊎ (slice_get ps i ≡ Some p) → ((j ≡ k) × (new ≡ q))
        ⊎ (slice_get ps j ≡ Some q) → i ≡ j
    by (inl x) (inl y) = x.0 ∙ sym y.0
    by (inl x) (inr y) = x.0 ∙ once k j old q there y (was_on p x.1 on_i) on_j
        (sym (handle_of p x.1) ∙ same)
    by (inr x) (inl y) = once i k p old x there on_i (was_on q y.1 on_j) (same ∙ handle_of q y.1)
        ∙ sym y.0
    by (inr x) (inr y) = once i j p q x y on_i on_j same

-- ---- the seats, when the place of a handle changes

-- no other place that is attached has the handle
others : (ps : List Place) (h k n : ℕ) (p : Place) (b : Bool) → (p.handle == h) ≡ b → AreOnce ps
    → IsPlaceOf ps h k → slice_get ps n ≡ Some p → p.attached ≡ true → n ≢ k → b ≡ false
others ps h k n p false e once at there on other = refl
others ps h k n p true e once at there on other =
    absurd (other (once n k p at.place there at.there on at.attached
    (eqb-true p.handle h e ∙ sym at.handle_is)))

module _ (h : ℕ) (mask : Mask) where
  mask_if : (p : Place) (seats : List Seat) (b : Bool) → (b ≡ true → (p.handle == h) ≡ false)
      → cond b (seat_of p ∷ map (masked h mask) seats) (map (masked h mask) seats)
      ≡ map (masked h mask) (cond b (seat_of p ∷ seats) seats)
  mask_if p seats true not_it = ap (λ b. cond b (record (seat_of p) { mask = mask }) (seat_of p)
      ∷ map (masked h mask) seats) (sym (not_it refl))
  mask_if p seats false not_it = refl

  mask_others : (o : Option Place) (seats : List Seat)
      → ((p : Place) → o ≡ Some p → p.attached ≡ true → (p.handle == h) ≡ false)
      → and_seat o (map (masked h mask) seats) ≡ map (masked h mask) (and_seat o seats)
  mask_others None seats not_it = refl
  mask_others (Some p) seats not_it = mask_if p seats p.attached (not_it p refl)

  mask_it : (p : Place) (seats : List Seat) → p.attached ≡ true → p.handle ≡ h
      → and_seat (Some (record p { mask = mask })) (map (masked h mask) seats)
      ≡ map (masked h mask) (and_seat (Some p) seats)
  mask_it p seats on is =
      let it : (p.handle == h) ≡ true = eq-eqb p.handle h is in
      ap (λ b. cond b (seat_of (record p { mask = mask }) ∷ map (masked h mask) seats)
      (map (masked h mask) seats)) on
      ∙ ap (λ b. cond b (record (seat_of p) { mask = mask }) (seat_of p)
      ∷ map (masked h mask) seats) (sym it)
      ∙ ap (λ b. map (masked h mask) (cond b (seat_of p ∷ seats) seats)) (sym on)

  mask_step : (ps : List Place) (k n : ℕ) (b : Bool) → (n == k) ≡ b → AreOnce ps
      → (at : IsPlaceOf ps h k) → seats_to (set ps k (record at.place { mask = mask })) n
      ≡ map (masked h mask) (seats_to ps n)
      → and_seat (slice_get (set ps k (record at.place { mask = mask })) n)
      (seats_to (set ps k (record at.place { mask = mask })) n)
      ≡ map (masked h mask) (and_seat (slice_get ps n) (seats_to ps n))
  mask_step ps k n true e once at rest =
      let here : n ≡ k = eqb-true n k e in
      let new = record at.place { mask = mask } in
      ap (and_seat (slice_get (set ps k new) n)) rest
      ∙ ap (λ o. and_seat o (map (masked h mask) (seats_to ps n)))
      (ap (slice_get (set ps k new)) here
      ∙ get_same ps k new (slice_get_within ps k at.place at.there))
      ∙ mask_it at.place (seats_to ps n) at.attached at.handle_is
      ∙ ap (λ o. map (masked h mask) (and_seat o (seats_to ps n)))
      (sym (ap (slice_get ps) here ∙ at.there))
  mask_step ps k n false e once at rest =
      let new = record at.place { mask = mask } in
      ap (and_seat (slice_get (set ps k new) n)) rest
      ∙ ap (λ o. and_seat o (map (masked h mask) (seats_to ps n)))
      (get_other ps k n new (not_equal n k e))
      ∙ mask_others (slice_get ps n) (seats_to ps n)
      (λ p there on. others ps h k n p (p.handle == h) refl once at there on (not_equal n k e))

  seats_masked_to : (ps : List Place) (k n : ℕ) → AreOnce ps → (at : IsPlaceOf ps h k)
      → seats_to (set ps k (record at.place { mask = mask })) n
      ≡ map (masked h mask) (seats_to ps n)
  seats_masked_to ps k zero once at = refl
  seats_masked_to ps k (suc n) once at =
      mask_step ps k n (n == k) refl once at (seats_masked_to ps k n once at)

  pub seats_masked : (ps : List Place) (k : ℕ) → AreOnce ps → (at : IsPlaceOf ps h k)
      → seats_of (set ps k (record at.place { mask = mask })) ≡ map (masked h mask) (seats_of ps)
  seats_masked ps k once at = ap (seats_to (set ps k (record at.place { mask = mask })))
      (length-set ps k (record at.place { mask = mask })) ∙ seats_masked_to ps k (length ps) once at

module _ (h : ℕ) where
  abbrev kept : List Seat → List Seat
  kept seats = filter (λ seat. not (has_handle h seat)) seats

  abbrev taken : List Seat → List Seat
  taken seats = filter (has_handle h) seats

  keep_if : (p : Place) (seats : List Seat) (b : Bool) → (b ≡ true → (p.handle == h) ≡ false)
      → cond b (seat_of p ∷ kept seats) (kept seats) ≡ kept (cond b (seat_of p ∷ seats) seats)
  keep_if p seats true not_it = ap (λ b. cond (not b) (seat_of p ∷ kept seats) (kept seats))
      (sym (not_it refl))
  keep_if p seats false not_it = refl

  keep_others : (o : Option Place) (seats : List Seat)
      → ((p : Place) → o ≡ Some p → p.attached ≡ true → (p.handle == h) ≡ false)
      → and_seat o (kept seats) ≡ kept (and_seat o seats)
  keep_others None seats not_it = refl
  keep_others (Some p) seats not_it = keep_if p seats p.attached (not_it p refl)

  drop_it : (p : Place) (seats : List Seat) → p.attached ≡ true → p.handle ≡ h
      → kept seats ≡ kept (and_seat (Some p) seats)
  drop_it p seats on is =
      ap (λ b. cond (not b) (seat_of p ∷ kept seats) (kept seats)) (sym (eq-eqb p.handle h is))
      ∙ ap (λ b. kept (cond b (seat_of p ∷ seats) seats)) (sym on)

  keep_step : (ps : List Place) (k n : ℕ) (b : Bool) → (n == k) ≡ b → AreOnce ps
      → (at : IsPlaceOf ps h k) → seats_to (set ps k (record at.place { attached = false })) n
      ≡ kept (seats_to ps n)
      → and_seat (slice_get (set ps k (record at.place { attached = false })) n)
      (seats_to (set ps k (record at.place { attached = false })) n)
      ≡ kept (and_seat (slice_get ps n) (seats_to ps n))
  keep_step ps k n true e once at rest =
      let here : n ≡ k = eqb-true n k e in
      let new = record at.place { attached = false } in
      ap (and_seat (slice_get (set ps k new) n)) rest
      ∙ ap (λ o. and_seat o (kept (seats_to ps n)))
      (ap (slice_get (set ps k new)) here
      ∙ get_same ps k new (slice_get_within ps k at.place at.there))
      ∙ drop_it at.place (seats_to ps n) at.attached at.handle_is
      ∙ ap (λ o. kept (and_seat o (seats_to ps n))) (sym (ap (slice_get ps) here ∙ at.there))
  keep_step ps k n false e once at rest =
      let new = record at.place { attached = false } in
      ap (and_seat (slice_get (set ps k new) n)) rest
      ∙ ap (λ o. and_seat o (kept (seats_to ps n))) (get_other ps k n new (not_equal n k e))
      ∙ keep_others (slice_get ps n) (seats_to ps n)
      (λ p there on. others ps h k n p (p.handle == h) refl once at there on (not_equal n k e))

  seats_kept_to : (ps : List Place) (k n : ℕ) → AreOnce ps → (at : IsPlaceOf ps h k)
      → seats_to (set ps k (record at.place { attached = false })) n ≡ kept (seats_to ps n)
  seats_kept_to ps k zero once at = refl
  seats_kept_to ps k (suc n) once at =
      keep_step ps k n (n == k) refl once at (seats_kept_to ps k n once at)

  pub seats_kept : (ps : List Place) (k : ℕ) → AreOnce ps → (at : IsPlaceOf ps h k)
      → seats_of (set ps k (record at.place { attached = false })) ≡ kept (seats_of ps)
  seats_kept ps k once at = ap (seats_to (set ps k (record at.place { attached = false })))
      (length-set ps k (record at.place { attached = false }))
      ∙ seats_kept_to ps k (length ps) once at

  skip_if : (p : Place) (seats : List Seat) (b : Bool) → (b ≡ true → (p.handle == h) ≡ false)
      → taken (cond b (seat_of p ∷ seats) seats) ≡ taken seats
  skip_if p seats true not_it = ap (λ b. cond b (seat_of p ∷ taken seats) (taken seats))
      (not_it refl)
  skip_if p seats false not_it = refl

  skip_others : (o : Option Place) (seats : List Seat)
      → ((p : Place) → o ≡ Some p → p.attached ≡ true → (p.handle == h) ≡ false)
      → taken (and_seat o seats) ≡ taken seats
  skip_others None seats not_it = refl
  skip_others (Some p) seats not_it = skip_if p seats p.attached (not_it p refl)

  take_it : (p : Place) (seats : List Seat) → p.attached ≡ true → p.handle ≡ h
      → taken (and_seat (Some p) seats) ≡ seat_of p ∷ taken seats
  take_it p seats on is = ap (λ b. taken (cond b (seat_of p ∷ seats) seats)) on
      ∙ ap (λ b. cond b (seat_of p ∷ taken seats) (taken seats)) (eq-eqb p.handle h is)

  none_below : (ps : List Place) (k n : ℕ) → n ≤ k → AreOnce ps → IsPlaceOf ps h k
      → taken (seats_to ps n) ≡ []
  none_below ps k zero le once at = refl
  none_below ps k (suc n) le once at =
      skip_others (slice_get ps n) (seats_to ps n)
      (λ p there on. others ps h k n p (p.handle == h) refl once at there on
      (λ e. absurd (omega (arith, e)))) ∙ none_below ps k n (omega arith) once at

  taken_step : (ps : List Place) (k n : ℕ) (b : Bool) → (n == k) ≡ b → k < suc n → AreOnce ps
      → (at : IsPlaceOf ps h k) → (k < n → taken (seats_to ps n) ≡ seat_of at.place ∷ [])
      → taken (seats_to ps (suc n)) ≡ seat_of at.place ∷ []
  taken_step ps k n true e lt once at rest =
      let here : n ≡ k = eqb-true n k e in
      ap (λ o. taken (and_seat o (seats_to ps n))) (ap (slice_get ps) here ∙ at.there)
      ∙ take_it at.place (seats_to ps n) at.attached at.handle_is
      ∙ ap (λ ss. seat_of at.place ∷ ss) (none_below ps k n (omega arith) once at)
  taken_step ps k n false e lt once at rest =
      let other = not_equal n k e in
      skip_others (slice_get ps n) (seats_to ps n)
      (λ p there on. others ps h k n p (p.handle == h) refl once at there on other)
      ∙ rest (omega arith)

  seats_taken : (ps : List Place) (k n : ℕ) → k < n → AreOnce ps → (at : IsPlaceOf ps h k)
      → taken (seats_to ps n) ≡ seat_of at.place ∷ []
  seats_taken ps k zero lt once at = absurd (omega arith)
  seats_taken ps k (suc n) lt once at =
      taken_step ps k n (n == k) refl lt once at (λ below. seats_taken ps k n below once at)

  pub ends_taken : (ps : List Place) (k : ℕ) → AreOnce ps → (at : IsPlaceOf ps h k)
      → map (λ (s : Seat). s.end) (taken (seats_of ps)) ≡ end_view at.place.end ∷ []
  ends_taken ps k once at = ap (map (λ (s : Seat). s.end))
      (seats_taken ps k (length ps) (slice_get_within ps k at.place at.there) once at)

-- no more ends are attached than were in all
few_if : (p : Place) (seats : List Seat) (n : ℕ) (b : Bool) → length seats ≤ n
    → length (cond b (seat_of p ∷ seats) seats) ≤ suc n
few_if p seats n true le = omega arith
few_if p seats n false le = omega arith

few_step : (o : Option Place) (seats : List Seat) (n : ℕ) → length seats ≤ n
    → length (and_seat o seats) ≤ suc n
few_step None seats n le = omega arith
few_step (Some p) seats n le = few_if p seats n p.attached le

pub seats_few : (ps : List Place) (n : ℕ) → length (seats_to ps n) ≤ n
seats_few ps zero = omega arith
seats_few ps (suc n) = few_step (slice_get ps n) (seats_to ps n) n (seats_few ps n)
