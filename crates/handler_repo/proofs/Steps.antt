-- What each change of the two tables makes of the map that they stand for.
use Rattle.std.proofs.Common.{ℕ, suc, ◌≡◌, ◌≢◌, ◌+◌, ◌<◌, ◌≤◌, ◌==◌, cond, List, ◌∷◌, length}
use Rattle.std.proofs.Common.{get_or, set, Option, Some, None, IsSome, unwrap_or, refl, sym, ap}
use Rattle.std.proofs.Common.{◌∙◌, subst, arith, rules, take, drop, ◌⊎◌, inl, inr}
use Rattle.std.proofs.lemmas.Bool.{cond-true, cond-false, eq-eqb, ne_eqb, cases_eq, cases_lt}
use Rattle.std.proofs.lemmas.List.{get_or-map, length-map, get_or-set_same, get_or-set_other}
use Rattle.std.proofs.lemmas.List.{get_or_default, length-set, same_lists}
use Rattle.std.proofs.lemmas.List.Edits.{get_or-remove_below, get_or-remove_above, length-remove}
use Rattle.std.proofs.lemmas.List.Edits.{length-insert}
use Rattle.std.proofs.lemmas.List.Elements.{All-map, All-cons, All-append, All-take, All-drop}
use Rattle.std.proofs.lemmas.List.Quantifiers.{all_pairs_remove}
use Rattle.std.proofs.lemmas.List.Sorted.{All-permutation, IsPermutation-insert}
use Rattle.std.specs.List.{insert, remove, All, AllPairs, AllWithin, HoldsAt}
use Rattle.std.specs.Mem.{manually_drop_value}
use Rattle.std.specs.Option.{option_map}
use Rattle.std.specs.declared.mem.ManuallyDrop.{ManuallyDrop}
use Rattle.slab.specs.Slab.{Slab, get, ContainsKey, Updates, slab_len}
use Rattle.handler_repo.specs.declared.index.Registered.{Registered}
use Rattle.handler_repo.specs.declared.seat.Seat.{Seat}
use Rattle.handler_repo.specs.declared.seat.Seat.TheVariants.{Home, Out}
use Rattle.handler_repo.specs.Seats.{Entry, seat_of, with_entry, with_seat, without_handle}
use Rattle.handler_repo.specs.Index.{IsRising, seat_at, entry_at, entries_of, IsSound}
use Rattle.handler_repo.proofs.Lists.{all_pairs_insert, map-insert, map-remove, map_agree}
use Rattle.handler_repo.proofs.Entries.{StandsAt, seat_of-at, seat_of-nowhere, with_seat-at}
use Rattle.handler_repo.proofs.Entries.{with_entry-at, without_handle-at}

-- no registered handle
nobody : Registered
nobody = record { handle = record { 0 = 0 }; key = 0 }

-- another place has another handle
pub other_handle : (index : List Registered) (i j : ℕ) (d : Registered) → IsRising index → i ≢ j
    → i < length index → j < length index
    → (get_or index i d).handle.0 ≢ (get_or index j d).handle.0
other_handle index i j d rising ne l m e =
    elim (apart i j ne) [
      | inl less ↦ let r : (get_or index i d).handle.0 < (get_or index j d).handle.0 =
          rising i j d less m in omega arith
      | inr more ↦ let r : (get_or index j d).handle.0 < (get_or index i d).handle.0 =
          rising j i d more l in omega arith
    ]
  where
    apart : (m n : ℕ) → m ≢ n → (m < n) ⊎ (n < m)
    apart m n ne = grind arith

pub other_key : (index : List Registered) (i j : ℕ) (d : Registered)
    → AllPairs (λ r s. r.key ≢ s.key) index → i ≢ j → i < length index → j < length index
    → (get_or index i d).key ≢ (get_or index j d).key
other_key index i j d pairs ne l m e =
    elim (apart i j ne) [
      | inl less ↦ pairs i j d less m e
      | inr more ↦ pairs j i d more l (sym e)
    ]
  where
    apart : (m n : ℕ) → m ≢ n → (m < n) ⊎ (n < m)
    apart m n ne = grind arith

-- what stays in the index has other keys than what was taken out
remaining_key : (index : List Registered) (place k : ℕ) (d e : Registered)
    → AllPairs (λ r s. r.key ≢ s.key) index → place < length index → k < length (remove index place)
    → (get_or (remove index place) k d).key ≢ (get_or index place e).key
remaining_key index place k d e pairs l within same =
    let n : length (remove index place) + 1 ≡ length index = length-remove index place l in
    let same' : (get_or (remove index place) k d).key ≡ (get_or index place d).key =
    same ∙ ap (λ r. r.key) (get_or_default index place e d l) in
    elim (cases_lt k place) [
      | inl below ↦ other_key index k place d pairs (omega arith) (omega arith) l
          (sym (ap (λ r. r.key) (get_or-remove_below index place d k below l)) ∙ same')
      | inr above ↦ other_key index (k + 1) place d pairs (omega arith) (omega arith) l
          (sym (ap (λ r. r.key) (get_or-remove_above index place d k above l)) ∙ same')
    ]

module _ {H : Type 0} where
  -- an entry of the map by its place in the index
  at_place : (seats : Slab (ManuallyDrop (Seat H))) (index : List Registered) (k : ℕ)
      (d : Registered) (e : Entry H) → k < length index
      → get_or (entries_of seats index) k e ≡ entry_at seats (get_or index k d)
  at_place seats index k d e l = get_or-map (entry_at seats) index k d e l

  pub stands : (seats : Slab (ManuallyDrop (Seat H))) (index : List Registered) (handle place : ℕ)
      → IsRising index → place < length index → HoldsAt (λ r. r.handle.0 ≡ handle) index place
      → StandsAt handle (entries_of seats index) place
  stands seats index handle place rising l here =
      let n : length (entries_of seats index) ≡ length index = length-map index (entry_at seats) in
      record {
        within = omega arith;
        here = λ d. ap (λ e. e.handle) (at_place seats index place nobody d l) ∙ here nobody;
        before = λ k d less same.
            other_handle index k place nobody rising (omega arith) (omega arith) l
            (sym (ap (λ e. e.handle) (at_place seats index k nobody d (omega arith))) ∙ same
            ∙ sym (here nobody));
      }

  pub absent : (seats : Slab (ManuallyDrop (Seat H))) (index : List Registered) (handle : ℕ)
      → All (λ r. r.handle.0 ≢ handle) index → seat_of handle (entries_of seats index) ≡ None
  absent seats index handle h = seat_of-nowhere handle (entries_of seats index)
      (All-map (λ e. e.handle ≢ handle) (entry_at seats) index h)

  -- the seat at a registered handle
  pub seat_of-place : (seats : Slab (ManuallyDrop (Seat H))) (index : List Registered)
      (handle place : ℕ) (d : Registered) (seat : Seat H) → IsRising index → place < length index
      → HoldsAt (λ r. r.handle.0 ≡ handle) index place
      → seat_at seats (get_or index place d).key ≡ Some seat
      → seat_of handle (entries_of seats index) ≡ Some seat
  seat_of-place seats index handle place d seat rising l here has =
      let e : Entry H = record { handle = 0; seat = Out } in
      seat_of-at handle (entries_of seats index) place e
      (stands seats index handle place rising l here)
      ∙ ap (λ f. Some f.seat) (at_place seats index place d e l)
      ∙ ap (λ o. Some (unwrap_or o Out)) has

  -- another seat at the key of a registered handle
  pub reseated : (old new : Slab (ManuallyDrop (Seat H))) (index : List Registered)
      (handle place : ℕ) (d : Registered) (seat : Seat H) → IsRising index
      → AllPairs (λ r s. r.key ≢ s.key) index → place < length index
      → HoldsAt (λ r. r.handle.0 ≡ handle) index place
      → ((k : ℕ) → seat_at new k ≡ cond (k == (get_or index place d).key) (Some seat)
      (seat_at old k)) → entries_of new index ≡ with_seat handle seat (entries_of old index)
  reseated old new index handle place d seat rising apart l here after =
      let f : Entry H = record { handle = handle; seat = seat } in
      let n : length (entries_of new index) ≡ length index = length-map index (entry_at new) in
      let m : length (entries_of old index) ≡ length index = length-map index (entry_at old) in
      let s : length (set (entries_of old index) place f) ≡ length (entries_of old index) =
      length-set (entries_of old index) place f in
      let key = (get_or index place d).key in
      let filled : seat_at new key ≡ Some seat =
      after key ∙ cond-true (key == key) (Some seat) (seat_at old key) (eq-eqb key key refl) in
      same_lists (entries_of new index) (set (entries_of old index) place f) (omega arith)
      (λ k e within. elim (cases_eq k place) [
        | inl same ↦
            ap (λ i. get_or (entries_of new index) i e) same
            ∙ at_place new index place d e l
            ∙ ap (λ o. let g : Entry H = record {
              handle = (get_or index place d).handle.0;
              seat = unwrap_or o Out;
            } in g) filled
            ∙ ap (λ x. let g : Entry H = record { handle = x; seat = seat } in g) (here d)
            ∙ sym (ap (λ i. get_or (set (entries_of old index) place f) i e) same
            ∙ get_or-set_same (entries_of old index) place f e (omega arith))
        | inr differs ↦
            at_place new index k d e (omega arith)
            ∙ ap (λ o. let g : Entry H = record {
              handle = (get_or index k d).handle.0;
              seat = unwrap_or o Out;
            } in g) (after (get_or index k d).key
            ∙ cond-false _ _ _ (ne_eqb _ _ (other_key index k place d apart differs
            (omega arith) l)))
            ∙ sym (get_or-set_other (entries_of old index) place k f e differs
            ∙ at_place old index k d e (omega arith))
      ])
      ∙ sym (with_seat-at handle seat (entries_of old index) place
      (stands old index handle place rising l here))

  -- one handle more, in its place, with a key that was vacant
  pub put_in : (old new : Slab (ManuallyDrop (Seat H))) (index : List Registered) (place : ℕ)
      (r : Registered) (kept : ManuallyDrop (Seat H)) → All (λ r. ContainsKey old r.key) index
      → place ≤ length index
      → AllWithin (λ s. s.handle.0 < r.handle.0) index 0 place
      → AllWithin (λ s. r.handle.0 < s.handle.0) index place (length index)
      → get old r.key ≡ None → Updates old new r.key (Some kept)
      → entries_of new (insert index place r)
      ≡ with_entry (record { handle = r.handle.0; seat = manually_drop_value kept })
      (entries_of old index)
  put_in old new index place r kept present l below above vacant updates =
      let e : Entry H = record { handle = r.handle.0; seat = manually_drop_value kept } in
      let m : length (entries_of old index) ≡ length index = length-map index (entry_at old) in
      map-insert (entry_at new) index place r
      ∙ ap (λ es. insert es place (entry_at new r))
      (map_agree (entry_at new) (entry_at old) index (λ k d within.
      ap (λ o. let g : Entry H = record {
        handle = (get_or index k d).handle.0;
        seat = unwrap_or (option_map manually_drop_value o) Out;
      } in g)
      (updates.others (get_or index k d).key
      (λ same. no_key (get_or index k d).key same (present k d within)))))
      ∙ ap (λ o. insert (entries_of old index) place (let g : Entry H =
      record { handle = r.handle.0; seat = unwrap_or (option_map manually_drop_value o) Out } in
      g)) updates.changed
      ∙ sym (with_entry-at e (entries_of old index) place (omega arith)
      (λ k d less. subst (λ f. f.handle < r.handle.0) (sym (at_place old index k r d (omega arith)))
      (below k r (omega arith) less))
      (λ k d more within. subst (λ f. r.handle.0 < f.handle)
      (sym (at_place old index k r d (omega arith))) (above k r more (omega arith))))
    where
      no_key : (key : ℕ) → key ≡ r.key → ContainsKey old key → ⊥
      no_key key same has = none (subst (λ o. IsSome o) (ap (get old) same ∙ vacant) has)
        where
          none : IsSome (let o : Option (ManuallyDrop (Seat H)) = None in o) → ⊥
          none h = cc

  -- a registered handle less
  pub taken_out : (old new : Slab (ManuallyDrop (Seat H))) (index : List Registered)
      (handle place : ℕ) (d : Registered) → IsRising index → AllPairs (λ r s. r.key ≢ s.key) index
      → place < length index → HoldsAt (λ r. r.handle.0 ≡ handle) index place
      → Updates old new (get_or index place d).key None
      → entries_of new (remove index place) ≡ without_handle handle (entries_of old index)
  taken_out old new index handle place d rising apart l here updates =
      let m : length (entries_of old index) ≡ length index = length-map index (entry_at old) in
      map_agree (entry_at new) (entry_at old) (remove index place)
      (λ k r within. ap (λ o. let g : Entry H =
      record {
        handle = (get_or (remove index place) k r).handle.0;
        seat = unwrap_or (option_map manually_drop_value o) Out;
      } in g)
      (updates.others (get_or (remove index place) k r).key
      (remaining_key index place k r d apart l within)))
      ∙ map-remove (entry_at old) index place
      ∙ sym (without_handle-at handle (entries_of old index) place
      (stands old index handle place rising l here)
      (λ k e within differs same. other_handle index k place d rising differs (omega arith) l
      (sym (ap (λ f. f.handle) (at_place old index k d e (omega arith))) ∙ same
      ∙ sym (here d))))

  -- a seat of its own for one handle more leaves the tables sound
  pub sound_put : (old new : Slab (ManuallyDrop (Seat H))) (index : List Registered)
      (place room more spare : ℕ) (r : Registered) (kept : ManuallyDrop (Seat H))
      → IsSound old index room (spare + 1) → room ≤ more → place ≤ length index
      → AllWithin (λ s. s.handle.0 < r.handle.0) index 0 place
      → AllWithin (λ s. r.handle.0 < s.handle.0) index place (length index)
      → get old r.key ≡ None → Updates old new r.key (Some kept) → slab_len new ≡ slab_len old + 1
      → new.capacity ≡ old.capacity → IsSound new (insert index place r) more spare
  sound_put old new index place room more spare r kept sound grows l below above vacant updates len
      capacity =
      let n : length (insert index place r) ≡ length index + 1 = length-insert index place r l in
      let present_before = sound.present in
      let other : (k : ℕ) (d : Registered) → k < length index → (get_or index k d).key ≢ r.key =
      λ k d within same.
      none_there old (get_or index k d).key (ap (get old) same ∙ vacant) (present_before k d within)
      in
      record {
        rising = all_pairs_insert (λ s t. s.handle.0 < t.handle.0) index place r l sound.rising
            (λ k d less. below k d (omega arith) less) (λ k d more within. above k d more within);
        present = All-permutation (λ s. ContainsKey new s.key) (r ∷ index) (insert index place r)
            (IsPermutation-insert index place r)
            (All-cons (λ s. ContainsKey new s.key) r index
            (subst (λ o. IsSome o) (sym updates.changed) some_there)
            (λ k d within. subst (λ o. IsSome o)
            (sym (updates.others (get_or index k d).key (other k d within)))
            (present_before k d within)));
        apart = all_pairs_insert (λ s t. s.key ≢ t.key) index place r l sound.apart
            (λ k d less. other k d (omega arith))
            (λ k d more within same. other k d within (sym same));
        counted = omega (arith, sound.counted);
        seats_fit = omega (arith, sound.seats_fit, sound.counted);
        index_fits = omega (arith, sound.index_fits);
      }
    where
      none_there : (s : Slab (ManuallyDrop (Seat H))) (key : ℕ) → get s key ≡ None
          → ContainsKey s key → ⊥
      none_there s key none has = cc

      some_there : IsSome (Some kept)
      some_there = search rules

  -- and so does a handle that is taken out with its seat
  pub sound_out : (old new : Slab (ManuallyDrop (Seat H))) (index : List Registered)
      (place room more spare : ℕ) (d : Registered) → IsSound old index room spare → room ≤ more
      → place < length index
      → Updates old new (get_or index place d).key None → slab_len new + 1 ≡ slab_len old
      → new.capacity ≡ old.capacity → IsSound new (remove index place) more (spare + 1)
  sound_out old new index place room more spare d sound grows l updates len capacity =
      let n : length (remove index place) + 1 ≡ length index = length-remove index place l in
      record {
        rising = all_pairs_remove (λ s t. s.handle.0 < t.handle.0) index place l sound.rising;
        present = λ k e within. subst (λ o. IsSome o)
            (sym (updates.others (get_or (remove index place) k e).key
            (remaining_key index place k e d sound.apart l within)))
            (All-append (λ s. ContainsKey old s.key) (take place index) (drop (suc place) index)
            (All-take (λ s. ContainsKey old s.key) place index sound.present)
            (All-drop (λ s. ContainsKey old s.key) (suc place) index sound.present) k e within);
        apart = all_pairs_remove (λ s t. s.key ≢ t.key) index place l sound.apart;
        counted = omega (arith, sound.counted);
        seats_fit = omega (arith, sound.seats_fit, sound.counted);
        index_fits = omega (arith, sound.index_fits);
      }

  -- a handle that has no entry is below each that is not below it
  pub registered_above : (seats : Slab (ManuallyDrop (Seat H))) (index : List Registered)
      (handle place : ℕ) → IsRising index → seat_of handle (entries_of seats index) ≡ None
      → AllWithin (λ s. handle ≤ s.handle.0) index place (length index)
      → AllWithin (λ s. handle < s.handle.0) index place (length index)
  registered_above seats index handle place rising none above k d l m =
      elim (cases_eq (get_or index k d).handle.0 handle) [
        | inl same ↦ absurd (not_both (seat_of-at handle (entries_of seats index) k
            (record { handle = 0; seat = Out })
            (stands seats index handle k rising m
            (λ e. ap (λ r. r.handle.0) (get_or_default index k e d m) ∙ same))))
        | inr differs ↦ let a : handle ≤ (get_or index k d).handle.0 = above k d l m in omega arith
      ]
    where
      not_both : {seat : Seat H} → seat_of handle (entries_of seats index) ≡ Some seat → ⊥
      not_both e = cc

  -- a handle that is out has a place
  pub never_absent : (seats : Slab (ManuallyDrop (Seat H))) (index : List Registered) (handle : ℕ)
      → All (λ r. r.handle.0 ≢ handle) index → seat_of handle (entries_of seats index) ≡ Some Out
      → ⊥
  never_absent seats index handle none out = not_both (sym (absent seats index handle none) ∙ out)
    where
      not_both : (let o : Option (Seat H) = None in o) ≡ Some Out → ⊥
      not_both e = cc

  -- and its seat is Out
  pub is_out : (seats : Slab (ManuallyDrop (Seat H))) (index : List Registered) (handle place : ℕ)
      (d : Registered) (seat : Seat H) → IsRising index → place < length index
      → HoldsAt (λ r. r.handle.0 ≡ handle) index place
      → seat_at seats (get_or index place d).key ≡ Some seat
      → seat_of handle (entries_of seats index) ≡ Some Out → seat ≡ Out
  is_out seats index handle place d seat rising l here has out =
      let found : seat_of handle (entries_of seats index) ≡ Some seat =
      seat_of-place seats index handle place d seat rising l here has in
      cc

  pub not_home : (h : H) (seat : Seat H) → seat ≡ Home h → seat ≡ Out → ⊥
  not_home h seat home out = cc
