-- What one more entry does to the seats of the handlers.
use Rattle.std.proofs.Common.{ℕ, ◌≡◌, ◌==◌, Bool, true, false, not, ◌||◌, List, [], ◌∷◌, map, refl}
use Rattle.std.proofs.Common.{sym, ap, ◌∙◌, subst, cond, Option, Some, None, nat_lt}
use Rattle.std.proofs.lemmas.Bool.{both_ways, cond-true, cond-false, eqb-true, eq-eqb}
use Rattle.std.proofs.lemmas.List.{append-nil}
use Rattle.std.specs.List.{list_any}
use Rattle.reactor_summary.specs.ev_types.specs.declared.upcall.Mask.{Mask}
use Rattle.ev_base.specs.Terms.{Terms}
use Rattle.reactor_model.specs.reactor_journal.specs.Event.{Event}
use Rattle.reactor_model.specs.reactor_journal.specs.declared.entry.Entry.{Entry}
use Rattle.reactor_model.specs.reactor_journal.specs.declared.entry.Entry.TheVariants.{Opened}
use Rattle.reactor_model.specs.reactor_journal.specs.declared.entry.Entry.TheVariants.{Started}
use Rattle.reactor_model.specs.reactor_journal.specs.declared.entry.Entry.TheVariants.{Returned}
use Rattle.reactor_model.specs.reactor_journal.specs.declared.entry.Entry.TheVariants.{Masked}
use Rattle.reactor_model.specs.reactor_journal.specs.declared.entry.Entry.TheVariants.{Suspended}
use Rattle.reactor_model.specs.reactor_journal.specs.declared.entry.Entry.TheVariants.{Resumed}
use Rattle.reactor_model.specs.reactor_journal.specs.declared.entry.Entry.TheVariants.{Removed}
use Rattle.reactor_model.specs.reactor_journal.specs.declared.entry.Entry.TheVariants.{Closed}
use Rattle.reactor_model.specs.reactor_journal.specs.Past.{had, origin_of}
use Rattle.reactor_summary.specs.declared.parts.LiveHandle.{LiveHandle}
use Rattle.reactor_summary.specs.Summary.{Summary, summary, step, is_busy, with_mask}
use Rattle.reactor_summary.specs.Summary.{with_suspended, with_end, of_handle}
use Rattle.reactor_model.specs.Handling.{Handling}
use Rattle.handler_repo.specs.Seats as R
use Rattle.handler_repo.specs.declared.seat.Seat.{Seat}
use Rattle.handler_repo.specs.declared.seat.Seat.TheVariants.{Home, Out}
use Rattle.reactor_core.specs.Handlers.{is_live, SeatStands, is_in_hand, SeatBy, RepositoryStands}

-- ---- the seats of a map

pub seat_with_entry : {H : Type 0} (e : R.Entry H) (entries : List (R.Entry H)) (x : ℕ)
    → R.seat_of e.handle entries ≡ None
    → R.seat_of x (R.with_entry e entries)
    ≡ cond (e.handle == x) (Some e.seat) (R.seat_of x entries)
seat_with_entry e [] x absent = refl
seat_with_entry {H} e (f ∷ rest) x absent =
    by_cases (λ later. seat_with_entry e rest x later) (nat_lt e.handle f.handle)
  where
    apart : (b : Bool) → (f.handle == e.handle) ≡ b
        → cond b (Some f.seat) (R.seat_of e.handle rest) ≡ None → (f.handle == e.handle) ≡ false
    apart true q h = cc
    apart false q h = q

    other : (f.handle == e.handle) ≡ false
    other = apart (f.handle == e.handle) refl absent

    later : R.seat_of e.handle rest ≡ None
    later = sym (cond-false (f.handle == e.handle) (Some f.seat) (R.seat_of e.handle rest) other)
        ∙ absent

    swaps : (b c : Bool) (a d z : Option (Seat H)) → (b ≡ true → c ≡ true → ⊥)
        → cond b a (cond c d z) ≡ cond c d (cond b a z)
    swaps true true a d z h = absurd (h refl refl)
    swaps true false a d z h = refl
    swaps false c a d z h = refl

    not_both : (f.handle == x) ≡ true → (e.handle == x) ≡ true → ⊥
    not_both p q = both_ways (f.handle == e.handle) other
        (eq-eqb f.handle e.handle (eqb-true f.handle x p ∙ sym (eqb-true e.handle x q)))

    by_cases : (R.seat_of e.handle rest ≡ None
        → R.seat_of x (R.with_entry e rest) ≡ cond (e.handle == x) (Some e.seat) (R.seat_of x rest))
        → (b : Bool)
        → R.seat_of x (cond b (e ∷ f ∷ rest) (f ∷ R.with_entry e rest))
        ≡ cond (e.handle == x) (Some e.seat)
        (cond (f.handle == x) (Some f.seat) (R.seat_of x rest))
    by_cases rec true = refl
    by_cases rec false =
        ap (λ o. cond (f.handle == x) (Some f.seat) o) (rec later)
        ∙ swaps (f.handle == x) (e.handle == x) (Some f.seat) (Some e.seat) (R.seat_of x rest)
        not_both

-- another seat at a handle that is there
pub seat_with_seat : {H : Type 0} (y : ℕ) (seat old : Seat H) (entries : List (R.Entry H))
    → R.seat_of y entries ≡ Some old
    → R.seat_of y (R.with_seat y seat entries) ≡ Some seat
seat_with_seat y seat old [] h = cc
seat_with_seat {H} y seat old (e ∷ rest) h =
    by_cases (λ k. seat_with_seat y seat old rest k) (e.handle == y) refl
  where
    by_cases : (R.seat_of y rest ≡ Some old → R.seat_of y (R.with_seat y seat rest) ≡ Some seat)
        → (b : Bool) → (e.handle == y) ≡ b
        → R.seat_of y (cond b (record e { seat = seat } ∷ rest) (e ∷ R.with_seat y seat rest))
        ≡ Some seat
    by_cases rec true q = cond-true (e.handle == y) (Some seat) (R.seat_of y rest) q
    by_cases rec false q =
        cond-false (e.handle == y) (Some e.seat) (R.seat_of y (R.with_seat y seat rest)) q
        ∙ rec (sym (cond-false (e.handle == y) (Some e.seat) (R.seat_of y rest) q) ∙ h)

pub seat_with_seat_other : {H : Type 0} (y : ℕ) (seat : Seat H) (entries : List (R.Entry H)) (x : ℕ)
    → (y == x) ≡ false
    → R.seat_of x (R.with_seat y seat entries) ≡ R.seat_of x entries
seat_with_seat_other y seat [] x n = refl
seat_with_seat_other {H} y seat (e ∷ rest) x n =
    by_cases (seat_with_seat_other y seat rest x n) (e.handle == y) refl
  where
    by_cases : R.seat_of x (R.with_seat y seat rest) ≡ R.seat_of x rest → (b : Bool)
        → (e.handle == y) ≡ b → R.seat_of x
        (cond b (record e { seat = seat } ∷ rest) (e ∷ R.with_seat y seat rest))
        ≡ cond (e.handle == x) (Some e.seat) (R.seat_of x rest)
    by_cases rec true q =
        let other : (e.handle == x) ≡ false =
        subst (λ (k : ℕ). (k == x) ≡ false) (sym (eqb-true e.handle y q)) n in
        cond-false (e.handle == x) (Some seat) (R.seat_of x rest) other
        ∙ sym (cond-false (e.handle == x) (Some e.seat) (R.seat_of x rest) other)
    by_cases rec false q = ap (λ o. cond (e.handle == x) (Some e.seat) o) rec

-- without a handle
pub seat_without : {H : Type 0} (y : ℕ) (entries : List (R.Entry H))
    → R.seat_of y (R.without_handle y entries) ≡ None
seat_without y [] = refl
seat_without {H} y (e ∷ rest) = by_cases (seat_without y rest) (e.handle == y) refl
  where
    by_cases : R.seat_of y (R.without_handle y rest) ≡ None → (b : Bool) → (e.handle == y) ≡ b
        → R.seat_of y (cond (not b) (e ∷ R.without_handle y rest) (R.without_handle y rest)) ≡ None
    by_cases rec true q = rec
    by_cases rec false q = cond-false (e.handle == y) (Some e.seat)
        (R.seat_of y (R.without_handle y rest)) q ∙ rec

pub seat_without_other : {H : Type 0} (y : ℕ) (entries : List (R.Entry H)) (x : ℕ)
    → (y == x) ≡ false
    → R.seat_of x (R.without_handle y entries) ≡ R.seat_of x entries
seat_without_other y [] x n = refl
seat_without_other {H} y (e ∷ rest) x n =
    by_cases (seat_without_other y rest x n) (e.handle == y) refl
  where
    by_cases : R.seat_of x (R.without_handle y rest) ≡ R.seat_of x rest → (b : Bool)
        → (e.handle == y) ≡ b → R.seat_of x
        (cond (not b) (e ∷ R.without_handle y rest) (R.without_handle y rest))
        ≡ cond (e.handle == x) (Some e.seat) (R.seat_of x rest)
    by_cases rec true q =
        let other : (e.handle == x) ≡ false =
        subst (λ (k : ℕ). (k == x) ≡ false) (sym (eqb-true e.handle y q)) n in
        rec ∙ sym (cond-false (e.handle == x) (Some e.seat) (R.seat_of x rest) other)
    by_cases rec false q = ap (λ o. cond (e.handle == x) (Some e.seat) o) rec

-- a map in which no handle has a seat has no entry
pub no_seats : {H : Type 0} (entries : List (R.Entry H)) → ((x : ℕ) → R.seat_of x entries ≡ None)
    → entries ≡ []
no_seats [] h = refl
no_seats (e ∷ rest) h =
    let there : R.seat_of e.handle (e ∷ rest) ≡ Some e.seat =
    cond-true (e.handle == e.handle) (Some e.seat) (R.seat_of e.handle rest)
    (eq-eqb e.handle e.handle refl) in
    absurd (none (sym (h e.handle) ∙ there))
  where
    none : {A : Type 0} {a : A} → ◌≡◌ {A = Option A} None (Some a) → ⊥
    none q = cc

-- ---- live and busy handles after an entry that takes no handler and brings none

-- the entry takes no handler and brings none
abbrev pub keeps_seats : {N : Type 0} → Entry N → Bool
keeps_seats (Opened handle mask) = false
keeps_seats (Started event) = false
keeps_seats (Returned event answer note) = false
keeps_seats (Closed handle note) = false
keeps_seats _ = true

pub same_numbers : (f : LiveHandle → LiveHandle) (x : ℕ) (hs : List LiveHandle)
    → ((h : LiveHandle) → (f h).handle.0 ≡ h.handle.0)
    → list_any (λ (h : LiveHandle). h.handle.0 == x) (map f hs)
    ≡ list_any (λ (h : LiveHandle). h.handle.0 == x) hs
same_numbers f x [] same = refl
same_numbers f x (h ∷ hs) same = ap
    (λ (k : ℕ). (k == x) || list_any (λ (h : LiveHandle). h.handle.0 == x) (map f hs)) (same h)
    ∙ ap (λ b. (h.handle.0 == x) || b) (same_numbers f x hs same)

cond_number : (b : Bool) (g h : LiveHandle) → g.handle.0 ≡ h.handle.0
    → (cond b g h).handle.0 ≡ h.handle.0
cond_number true g h q = q
cond_number false g h q = refl

pub mask_number : (y : ℕ) (mask : Mask) (h : LiveHandle)
    → (with_mask y mask h).handle.0 ≡ h.handle.0
mask_number y mask h = cond_number (y == h.handle.0) (record h { mask = mask }) h refl

pub suspended_number : (y : ℕ) (b : Bool) (h : LiveHandle)
    → (with_suspended y b h).handle.0 ≡ h.handle.0
suspended_number y b h = cond_number (y == h.handle.0) (record h { suspended = b }) h refl

pub end_number : (event : Option Event) (h : LiveHandle) → (with_end event h).handle.0 ≡ h.handle.0
end_number event h = cond_number (belongs event) (record h { alive = false }) h refl
  where
    belongs : Option Event → Bool
    belongs None = false
    belongs (Some ev) = ev.handle == h.handle.0

pub live_quiet : {N : Type 0} (e : Entry N) (s : Summary) (x : ℕ) → keeps_seats e ≡ true
    → is_live (step s e) x ≡ is_live s x
live_quiet (Opened handle mask) s x q = cc
live_quiet (Started event) s x q = cc
live_quiet (Returned event answer note) s x q = cc
live_quiet (Closed handle note) s x q = cc
live_quiet (Masked handle mask) s x q =
    same_numbers (with_mask handle.0 mask) x s.handles (mask_number handle.0 mask)
live_quiet (Suspended handle) s x q =
    same_numbers (with_suspended handle.0 true) x s.handles (suspended_number handle.0 true)
live_quiet (Resumed handle) s x q =
    same_numbers (with_suspended handle.0 false) x s.handles (suspended_number handle.0 false)
live_quiet (Removed handle) s x q =
    same_numbers (with_end (of_handle handle)) x s.handles (end_number (of_handle handle))
live_quiet _ s x q = refl

pub busy_quiet : {N : Type 0} (e : Entry N) (s : Summary) (x : ℕ) → keeps_seats e ≡ true
    → is_busy (step s e) x ≡ is_busy s x
busy_quiet (Opened handle mask) s x q = cc
busy_quiet (Started event) s x q = cc
busy_quiet (Returned event answer note) s x q = cc
busy_quiet (Closed handle note) s x q = cc
busy_quiet _ s x q = refl

pub had_quiet : {N : Type 0} (e : Entry N) (past : List (Entry N)) (x : ℕ) → keeps_seats e ≡ true
    → had (e ∷ past) x ≡ had past x
had_quiet (Opened handle mask) past x q = cc
had_quiet (Started event) past x q = cc
had_quiet (Returned event answer note) past x q = cc
had_quiet (Closed handle note) past x q = cc
had_quiet _ past x q = append-nil (had past x)

pub origin_quiet : {N : Type 0} (e : Entry N) (past : List (Entry N)) (x : ℕ) → keeps_seats e ≡ true
    → origin_of (e ∷ past) x ≡ origin_of past x
origin_quiet (Opened handle mask) past x q = cc
origin_quiet (Started event) past x q = cc
origin_quiet (Returned event answer note) past x q = cc
origin_quiet (Closed handle note) past x q = cc
origin_quiet _ past x q = refl

-- ---- seats that stay

module _ {H E N : Type 0} (means : Handling H E N) (t : Terms) where
  -- a seat that stands after a past stands after another if the handle is as live and busy,
  -- with the same turns and origin
  pub seat_same : (past new : List (Entry N)) (x : ℕ) (seat : Option (Seat H))
      → is_live (summary new) x ≡ is_live (summary past) x
      → is_busy (summary new) x ≡ is_busy (summary past) x
      → had new x ≡ had past x → origin_of new x ≡ origin_of past x → SeatStands means t past x seat
      → SeatStands means t new x seat
  seat_same past new x None live busy turns origin st = live ∙ st
  seat_same past new x (Some Out) live busy turns origin st =
      record { live = live ∙ st.live; busy = busy ∙ st.busy }
  seat_same past new x (Some (Home handler)) live busy turns origin st =
      record {
        live = live ∙ st.live;
        busy = busy ∙ st.busy;
        fits = subst (λ o. means.fits t o handler (had new x)) (sym origin)
            (subst (λ items. means.fits t (origin_of past x) handler items) (sym turns) st.fits);
      }

  pub seat_by_same : (b : Bool) (past new : List (Entry N)) (x : ℕ) (seat : Option (Seat H))
      → is_live (summary new) x ≡ is_live (summary past) x
      → is_busy (summary new) x ≡ is_busy (summary past) x
      → had new x ≡ had past x → origin_of new x ≡ origin_of past x → SeatBy b means t past x seat
      → SeatBy b means t new x seat
  seat_by_same true past new x seat live busy turns origin st =
      record { live = live ∙ st.live; out = st.out }
  seat_by_same false past new x seat live busy turns origin st =
      seat_same past new x seat live busy turns origin st

  pub seats_quiet : (e : Entry N) (past : List (Entry N)) (hand : Option ℕ)
      (entries : List (R.Entry H)) → keeps_seats e ≡ true
      → RepositoryStands means t past hand entries
      → RepositoryStands means t (e ∷ past) hand entries
  seats_quiet e past hand entries q st =
      λ x. seat_by_same (is_in_hand hand x) past (e ∷ past) x (R.seat_of x entries)
      (live_quiet e (summary past) x q) (busy_quiet e (summary past) x q) (had_quiet e past x q)
      (origin_quiet e past x q) (st x)
