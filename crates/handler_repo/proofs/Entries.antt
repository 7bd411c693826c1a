-- A map that is kept as a list in rising order, by places.
use Rattle.std.proofs.Common.{ℕ, zero, suc, ◌≡◌, ◌≢◌, ◌<◌, ◌≤◌, ◌==◌, not, List, [], ◌∷◌, length}
use Rattle.std.proofs.Common.{get_or, set, Some, None, refl, ap, ◌∙◌, arith}
use Rattle.std.proofs.lemmas.Bool.{cond-true, cond-false, eq-eqb, ne_eqb, lt-ltb, le-ltb}
use Rattle.std.specs.List.{insert, remove, All}
use Rattle.handler_repo.specs.declared.seat.Seat.{Seat}
use Rattle.handler_repo.specs.Seats.{Entry, seat_of, with_entry, with_seat, without_handle}
use Rattle.handler_repo.proofs.Lists.{filter_place}

module _ {H : Type 0} where
  -- the place of a handle, the first if there were more
  pub record StandsAt (handle : ℕ) (es : List (Entry H)) (place : ℕ) : Type 0 where
    pub within : place < length es
    pub here : (d : Entry H) → (get_or es place d).handle ≡ handle
    pub before : (k : ℕ) (d : Entry H) → k < place → (get_or es k d).handle ≢ handle

  tail_place : (handle : ℕ) (e : Entry H) (es : List (Entry H)) (place : ℕ)
      → StandsAt handle (e ∷ es) (suc place) → StandsAt handle es place
  tail_place handle e es place h = record {
    within = omega (arith, h.within);
    here = h.here;
    before = λ k d l. h.before (suc k) d (omega arith);
  }

  pub seat_of-at : (handle : ℕ) (es : List (Entry H)) (place : ℕ) (d : Entry H)
      → StandsAt handle es place → seat_of handle es ≡ Some (get_or es place d).seat
  seat_of-at handle [] place d h = absurd (omega (arith, h.within))
  seat_of-at handle (e ∷ es) zero d h = cond-true (e.handle == handle) _ _ (eq-eqb _ _ (h.here d))
  seat_of-at handle (e ∷ es) (suc place) d h =
      cond-false (e.handle == handle) _ _ (ne_eqb _ _ (h.before zero d (omega arith)))
      ∙ seat_of-at handle es place d (tail_place handle e es place h)

  pub seat_of-nowhere : (handle : ℕ) (es : List (Entry H)) → All (λ e. e.handle ≢ handle) es
      → seat_of handle es ≡ None
  seat_of-nowhere handle [] h = refl
  seat_of-nowhere handle (e ∷ es) h =
      cond-false (e.handle == handle) _ _ (ne_eqb _ _ (h zero e (omega arith)))
      ∙ seat_of-nowhere handle es (λ k d l. h (suc k) d (omega arith))

  pub with_seat-at : (handle : ℕ) (seat : Seat H) (es : List (Entry H)) (place : ℕ)
      → StandsAt handle es place → with_seat handle seat es
      ≡ set es place (record { handle = handle; seat = seat })
  with_seat-at handle seat [] place h = absurd (omega (arith, h.within))
  with_seat-at handle seat (e ∷ es) zero h =
      cond-true (e.handle == handle) _ _ (eq-eqb _ _ (h.here e))
      ∙ ap (λ n. (let f : Entry H = record { handle = n; seat = seat } in f) ∷ es) (h.here e)
  with_seat-at handle seat (e ∷ es) (suc place) h =
      cond-false (e.handle == handle) _ _ (ne_eqb _ _ (h.before zero e (omega arith)))
      ∙ ap (λ fs. e ∷ fs) (with_seat-at handle seat es place (tail_place handle e es place h))

  pub with_entry-at : (e : Entry H) (es : List (Entry H)) (place : ℕ) → place ≤ length es
      → ((k : ℕ) (d : Entry H) → k < place → (get_or es k d).handle < e.handle)
      → ((k : ℕ) (d : Entry H) → place ≤ k → k < length es → e.handle < (get_or es k d).handle)
      → with_entry e es ≡ insert es place e
  with_entry-at e [] zero l below above = refl
  with_entry-at e [] (suc place) l below above = absurd (omega arith)
  with_entry-at e (f ∷ es) zero l below above =
      cond-true _ _ _ (lt-ltb _ _ (above zero e (omega arith) (omega arith)))
  with_entry-at e (f ∷ es) (suc place) l below above =
      let b : f.handle < e.handle = below zero e (omega arith) in
      cond-false _ _ _ (le-ltb e.handle f.handle (omega arith))
      ∙ ap (λ fs. f ∷ fs) (with_entry-at e es place (omega arith)
      (λ k d h. below (suc k) d (omega arith))
      (λ k d h m. above (suc k) d (omega arith) (omega arith)))

  pub without_handle-at : (handle : ℕ) (es : List (Entry H)) (place : ℕ) → StandsAt handle es place
      → ((k : ℕ) (d : Entry H) → k < length es → k ≢ place → (get_or es k d).handle ≢ handle)
      → without_handle handle es ≡ remove es place
  without_handle-at handle es place h others =
      filter_place (λ e. not (e.handle == handle)) es place (λ d. ap not (eq-eqb _ _ (h.here d)))
      (λ k d l ne. ap not (ne_eqb _ _ (others k d l ne))) h.within
