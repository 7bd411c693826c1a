-- What the seats keep when an end is attached, and when a place changes.
use Rattle.std.proofs.Common.{◌≡◌, ◌∙◌, ℕ, ◌<◌, ◌⊎◌, inl, inr, Bool, true, false, cond, ◌==◌, ◌||◌}
use Rattle.std.proofs.Common.{List, [], ◌∷◌, ◌++◌, length, set, get_or, Option, Some, None, refl}
use Rattle.std.proofs.Common.{sym, ap, subst, arith}
use Rattle.std.specs.Prelude.{unwrap_or}
use Rattle.std.specs.List.{slice_get, Contains}
use Rattle.std.proofs.lemmas.Bool.{eqb-true}
use Rattle.std.proofs.lemmas.Option.{slice_get_read, slice_get_within, same_Some}
use Rattle.std.proofs.lemmas.List.{length-set}
use Rattle.ev_base.specs.Terms.{StepEnd, AtListener, AtConnection}
use Rattle.ev_base.specs.Playing.{is_end}
use Rattle.script_net.specs.Scripts.{end_view}
use Rattle.script_net.specs.Playable.{IsWithin}
use Rattle.script_net.specs.declared.seats.Place.{Place}
use Rattle.script_net.specs.Seating.{Latest, latest_of, with_latest, Marks, is_marked, with_mark}
use Rattle.script_net.specs.Seating.{last_to, seats_of, handles_of, IsSeating, IsPlaceOf}
use Rattle.script_net.specs.Seating.{SeatsContent}
use Rattle.script_net.proofs.SeatingLemmas.{Alike, last_set, last_more, last_pushed, once_more}
use Rattle.script_net.proofs.SeatingLemmas.{once_set, chained_set, get_more, get_same, get_other}
use Rattle.script_net.proofs.SeatingLemmas.{not_equal}

pub same_content : (a b : SeatsContent) → a.seats ≡ b.seats → a.marks ≡ b.marks → a.made ≡ b.made
    → a.room ≡ b.room → a ≡ b
same_content a b seats marks made room =
    λ i. record { seats = seats i; marks = marks i; made = made i; room = room i }

-- ---- a place changed

pub seating_set : (ps : List Place) (latest : Latest) (marks : Marks) (k : ℕ) (old new : Place)
    → slice_get ps k ≡ Some old → Alike old new → (new.attached ≡ true → old.attached ≡ true)
    → IsSeating ps latest marks → IsSeating (set ps k new) latest marks
seating_set ps latest marks k old new there a on s = record {
  once = once_set ps k old new there a on s.once;
  chained = chained_set (length latest.connections) ps k old new there a s.chained;
  latest_are = λ e within.
      s.latest_are e within ∙ sym (last_set ps k old new e (length ps) there a)
      ∙ ap (last_to (set ps k new) e) (sym (length-set ps k new));
  same = s.same;
}

-- the place of a handle, as it is read for a change
abbrev pub read_place : (ps qs : List Place) (h k : ℕ) (p : Place) → qs ≡ ps → IsPlaceOf qs h k
    → p ≡ get_or ps k p → IsPlaceOf ps h k
read_place ps qs h k p same at read =
    let there : slice_get ps k ≡ Some at.place =
    subst (λ xs. slice_get xs k ≡ Some at.place) same at.there in
    let here : slice_get ps k ≡ Some p =
    slice_get_read ps (length ps) k p refl (slice_get_within ps k at.place there) read in
    let it : at.place ≡ p = same_Some at.place p (sym there ∙ here) in
    record {
      place = p;
      there = here;
      attached = ap (λ (x : Place). x.attached) (sym it) ∙ at.attached;
      handle_is = ap (λ (x : Place). x.handle) (sym it) ∙ at.handle_is;
    }

-- ---- one place more

latest_same : (e : StepEnd) (n : ℕ) (l : Latest)
    → length (with_latest e n l).connections ≡ length l.connections
latest_same AtListener n l = refl
latest_same (AtConnection serial) n l = length-set l.connections serial (Some n)

latest_at : (xs : List (Option ℕ)) (c d n : ℕ) (b : Bool) → (c == d) ≡ b → d < length xs
    → unwrap_or (slice_get (set xs c (Some n)) d) None
    ≡ cond b (Some n) (unwrap_or (slice_get xs d) None)
latest_at xs c d n true e lt =
    let here : d ≡ c = sym (eqb-true c d e) in
    ap (λ o. unwrap_or o None) (ap (slice_get (set xs c (Some n))) here
    ∙ get_same xs c (Some n) (omega (arith, here)))
latest_at xs c d n false e lt = let ne = not_equal c d e in
    ap (λ o. unwrap_or o None) (get_other xs c d (Some n) (λ f. ne (sym f)))

latest_put : (e : StepEnd) (n : ℕ) (l : Latest) (x : StepEnd) → IsWithin (length l.connections) x
    → latest_of (with_latest e n l) x ≡ cond (is_end e x) (Some n) (latest_of l x)
latest_put AtListener n l AtListener within = refl
latest_put AtListener n l (AtConnection d) within = refl
latest_put (AtConnection c) n l AtListener within = refl
latest_put (AtConnection c) n l (AtConnection d) within =
    latest_at l.connections c d n (c == d) refl within

pub seating_pushed : (ps : List Place) (latest : Latest) (marks : Marks) (p : Place) (n : ℕ)
    → n ≡ length ps → p.earlier ≡ latest_of latest (end_view p.end)
    → (Contains (handles_of (seats_of ps)) p.handle → ⊥)
    → IsSeating ps latest marks → IsSeating (ps ++ p ∷ []) (with_latest (end_view p.end) n latest)
    marks
seating_pushed ps latest marks p n count earlier absent s = record {
  once = once_more ps p s.once absent;
  chained = λ k q there within. by k q (get_more ps p q k there)
      (subst (λ m. IsWithin m (end_view q.end)) (latest_same (end_view p.end) n latest) within);
  latest_are = λ x within.
      let inside : IsWithin (length latest.connections) x =
      subst (λ m. IsWithin m x) (latest_same (end_view p.end) n latest) within in
      latest_put (end_view p.end) n latest x inside
      ∙ ap (λ m. cond (is_end (end_view p.end) x) (Some m) (latest_of latest x)) count
      ∙ ap (λ o. cond (is_end (end_view p.end) x) (Some (length ps)) o) (s.latest_are x inside)
      ∙ sym (last_pushed ps p x);
  same = s.same ∙ sym (latest_same (end_view p.end) n latest);
}
  where
    by : (k : ℕ) (q : Place) → ((k < length ps) × (slice_get ps k ≡ Some q))
        ⊎ ((k ≡ length ps) × (p ≡ q)) → IsWithin (length latest.connections) (end_view q.end)
        → q.earlier ≡ last_to (ps ++ p ∷ []) (end_view q.end) k
    by k q (inl old) within = let lt = old.0 in
        s.chained k q old.1 within ∙ sym (last_more ps p (end_view q.end) k (omega arith))
    by k q (inr new) within =
        let is_end_of : end_view q.end ≡ end_view p.end =
        ap (λ (x : Place). end_view x.end) (sym new.1) in
        let inside : IsWithin (length latest.connections) (end_view p.end) =
        subst (IsWithin (length latest.connections)) is_end_of within in
        ap (λ (x : Place). x.earlier) (sym new.1) ∙ earlier ∙ s.latest_are (end_view p.end) inside
        ∙ sym (last_more ps p (end_view p.end) (length ps) (omega arith))
        ∙ ap (last_to (ps ++ p ∷ []) (end_view p.end)) (sym new.0)
        ∙ ap (λ x. last_to (ps ++ p ∷ []) x k) (sym is_end_of)

-- ---- marks

mark_at : (xs : List Bool) (c d : ℕ) (b : Bool) → (c == d) ≡ b → d < length xs
    → unwrap_or (slice_get (set xs c true) d) false ≡ b || unwrap_or (slice_get xs d) false
mark_at xs c d true e lt =
    let here : d ≡ c = sym (eqb-true c d e) in
    ap (λ o. unwrap_or o false) (ap (slice_get (set xs c true)) here
    ∙ get_same xs c true (omega (arith, here)))
mark_at xs c d false e lt = let ne = not_equal c d e in
    ap (λ o. unwrap_or o false) (get_other xs c d true (λ f. ne (sym f)))

pub marked_put : (e : StepEnd) (m : Marks) (x : StepEnd) → IsWithin (length m.connections) x
    → is_marked (with_mark e m) x ≡ is_end e x || is_marked m x
marked_put AtListener m AtListener within = refl
marked_put AtListener m (AtConnection d) within = refl
marked_put (AtConnection c) m AtListener within = refl
marked_put (AtConnection c) m (AtConnection d) within =
    mark_at m.connections c d (c == d) refl within

pub marks_same : (e : StepEnd) (m : Marks)
    → length (with_mark e m).connections ≡ length m.connections
marks_same AtListener m = refl
marks_same (AtConnection serial) m = length-set m.connections serial true
