-- What the entries that bring a handler, send it out, take it back and close it do to the seats.
use Rattle.std.proofs.Common.{ℕ, ◌≡◌, ◌==◌, Bool, true, false, not, ◌&&◌, ◌||◌, List, [], ◌∷◌, refl}
use Rattle.std.proofs.Common.{sym, ap, ◌∙◌, subst, cond, Option, Some, None, option_map, ⊎_elim}
use Rattle.std.proofs.lemmas.Bool.{or_from, both_ways, cases_Bool, cond-true, cond-false, eqb-true}
use Rattle.std.proofs.lemmas.Bool.{eq-eqb}
use Rattle.std.proofs.lemmas.List.{append-nil}
use Rattle.std.specs.List.{list_any, filter, find}
use Rattle.reactor_summary.specs.ev_types.specs.declared.upcall.Handle.{Handle}
use Rattle.ev_base.specs.Terms.{Terms}
use Rattle.reactor_model.specs.reactor_journal.specs.Event.{Event}
use Rattle.reactor_model.specs.reactor_journal.specs.declared.entry.Entry.{Entry}
use Rattle.reactor_model.specs.reactor_journal.specs.declared.entry.Entry.TheVariants.{Closed}
use Rattle.reactor_model.specs.reactor_journal.specs.Past as P
use Rattle.reactor_model.specs.reactor_journal.specs.Past.{had, items_made, item_of, origin_of}
use Rattle.reactor_model.specs.reactor_journal.specs.Past.{offered_here, event_at, started_at}
use Rattle.reactor_model.specs.reactor_journal.specs.Past.{belongs_to}
use Rattle.reactor_model.specs.reactor_journal.specs.Follow.{is_legal}
use Rattle.reactor_summary.specs.declared.parts.LiveHandle.{LiveHandle}
use Rattle.reactor_summary.specs.declared.parts.OpenEvent.{OpenEvent}
use Rattle.reactor_summary.specs.Summary.{summary, is_busy, open_event}
use Rattle.reactor_summary.specs.Tells as T
use Rattle.reactor_summary.specs.Tells.{Tells, Each}
use Rattle.reactor_summary.proofs.Told.{told}
use Rattle.reactor_summary.proofs.Lists.{each_any, some_is}
use Rattle.reactor_summary.proofs.Opened.{open_opened}
use Rattle.reactor_summary.proofs.Opens.{found_event}
use Rattle.reactor_summary.proofs.Reading.{live_test, open_some}
use Rattle.reactor_model.specs.Handling.{Handling}
use Rattle.handler_repo.specs.Seats as R
use Rattle.handler_repo.specs.declared.seat.Seat.{Seat}
use Rattle.handler_repo.specs.declared.seat.Seat.TheVariants.{Home, Out}
use Rattle.reactor_core.specs.Handlers.{is_live, SeatStands, SeatBy, RepositoryStands}
use Rattle.reactor_core.proofs.Seats.{seat_with_seat, seat_with_seat_other, seat_without}
use Rattle.reactor_core.proofs.Seats.{seat_without_other, seat_by_same}

any_same : {A : Type 0} (p q : A → Bool) (xs : List A) → ((a : A) → p a ≡ q a)
    → list_any p xs ≡ list_any q xs
any_same p q [] h = refl
any_same p q (x ∷ xs) h = ap (λ b. b || list_any p xs) (h x)
    ∙ ap (λ b. q x || b) (any_same p q xs h)

and_yes : (b : Bool) → b ≡ (b && true)
and_yes true = refl
and_yes false = refl

pub live_is : {N : Type 0} (most : ℕ) (past : List (Entry N)) (x : ℕ) → is_legal most past ≡ true
    → is_live (summary past) x ≡ (P.was_opened past x && (not (P.was_closed past x) && true))
live_is most past x legal =
    any_same (λ (h : LiveHandle). h.handle.0 == x) (λ (h : LiveHandle). h.handle.0 == x && true)
    (summary past).handles (λ h. and_yes (h.handle.0 == x))
    ∙ live_test most past (summary past) (λ (h : LiveHandle). true) x legal (told most past legal)

not_from : (b : Bool) → (b ≡ true → ⊥) → b ≡ false
not_from b f = ⊎_elim (λ (t : b ≡ true). absurd (f t)) (λ (n : b ≡ false). n) (cases_Bool b)

-- the handle of an open event was opened
pub busy_opened : {N : Type 0} (most : ℕ) (past : List (Entry N)) (x : ℕ)
    → is_legal most past ≡ true → is_busy (summary past) x ≡ true → P.was_opened past x ≡ true
busy_opened most past x legal h =
    let t : Tells past (summary past) = told most past legal in
    let r : (a : OpenEvent) × (T.open_event past a.event ≡ Some a) × ((a.handle.0 == x) ≡ true) =
    each_any (λ (a : OpenEvent). T.open_event past a.event ≡ Some a)
    (λ (o : OpenEvent). o.handle.0 == x) (summary past).opens t.opens h in
    let o : (P.is_open past r.0.event ≡ true)
    × (option_map (T.as_open past r.0.event) (P.event_at past r.0.event) ≡ Some r.0) =
    open_some past r.0.event r.0 r.1 in
    open_opened most past r.0.event x legal o.0
    (sym (ap (P.belongs_to x) (found_event past r.0.event (P.event_at past r.0.event) r.0 o.1))
    ∙ r.2)

-- what an open event of the summary is
pub record IsOpenAs {N : Type 0} (past : List (Entry N)) (o : OpenEvent) : Type 0 where
  pub is_open : P.is_open past o.event ≡ true
  pub event : ◌≡◌ {A = Option Event} (event_at past o.event)
      (Some (record { handle = o.handle.0; upcall = o.upcall }))
  pub moment : started_at past o.event ≡ o.moment

as_open_moment : {N : Type 0} (past : List (Entry N)) (i : ℕ) (event : Option Event) (o : OpenEvent)
    → option_map (T.as_open past i) event ≡ Some o → started_at past i ≡ o.moment
as_open_moment past i None o h = absurd (none h)
  where
    none : {A : Type 0} {a : A} → ◌≡◌ {A = Option A} None (Some a) → ⊥
    none q = cc
as_open_moment past i (Some event) o h = ap (λ (a : OpenEvent). a.moment) (some_is _ o h)

pub open_as : {N : Type 0} (past : List (Entry N)) (o : OpenEvent)
    → T.open_event past o.event ≡ Some o → IsOpenAs past o
open_as past o h =
    let p : (P.is_open past o.event ≡ true)
    × (option_map (T.as_open past o.event) (P.event_at past o.event) ≡ Some o) =
    open_some past o.event o h in
    record {
      is_open = p.0;
      event = sym (found_event past o.event (event_at past o.event) o p.1);
      moment = as_open_moment past o.event (event_at past o.event) o p.1;
    }

find_each : {A : Type 0} (P : A → Type 0) (p : A → Bool) (xs : List A) (a : A) → Each P xs
    → find p xs ≡ Some a → P a × (p a ≡ true)
find_each P p [] a each h = absurd (none h)
  where
    none : {B : Type 0} {b : B} → ◌≡◌ {A = Option B} None (Some b) → ⊥
    none q = cc
find_each {A} P p (x ∷ xs) a each h = by_cases (λ k. find_each P p xs a each.1 k) (p x) refl
  where
    by_cases : (find p xs ≡ Some a → P a × (p a ≡ true)) → (b : Bool) → p x ≡ b → P a × (p a ≡ true)
    by_cases rec true q =
        let same : x ≡ a = some_is x a (sym (cond-true (p x) (Some x) (find p xs) q) ∙ h) in
        (subst P same each.0, subst (λ (y : A). p y ≡ true) same q)
    by_cases rec false q = rec (sym (cond-false (p x) (Some x) (find p xs) q) ∙ h)

-- an open event that the summary has is open in the journal as it says
pub found_open : {N : Type 0} (most : ℕ) (past : List (Entry N)) (i : ℕ) (o : OpenEvent)
    → is_legal most past ≡ true → open_event (summary past) i ≡ Some o → IsOpenAs past o
    × (o.event ≡ i)
found_open most past i o legal h =
    let t : Tells past (summary past) = told most past legal in
    let r : (T.open_event past o.event ≡ Some o) × ((o.event == i) ≡ true) =
    find_each (λ (a : OpenEvent). T.open_event past a.event ≡ Some a)
    (λ (a : OpenEvent). a.event == i) (summary past).opens o t.opens h in
    (open_as past o r.0, eqb-true o.event i r.1)

pub open_told : {N : Type 0} (most : ℕ) (past : List (Entry N)) (i : ℕ) (o : OpenEvent)
    → is_legal most past ≡ true → open_event (summary past) i ≡ Some o
    → T.open_event past o.event ≡ Some o
open_told most past i o legal h = (find_each (λ (a : OpenEvent). T.open_event past a.event ≡ Some a)
    (λ (a : OpenEvent). a.event == i) (summary past).opens o (told most past legal).opens h).0

-- ---- the seat of one handle in hand

no_seat : {A : Type 0} {a : A} → ◌≡◌ {A = Option A} None (Some a) → ⊥
no_seat q = cc

module _ {H E N : Type 0} (means : Handling H E N) (t : Terms) where
  -- a handle that is not live has no seat
  pub absent : (b : Bool) (past : List (Entry N)) (x : ℕ) (seat : Option (Seat H))
      → is_live (summary past) x ≡ false → SeatBy b means t past x seat → (b ≡ false)
      × (seat ≡ None)
  absent true past x seat dead st = absurd (both_ways _ dead st.live)
  absent false past x None dead st = (refl, refl)
  absent false past x (Some Out) dead st = absurd (both_ways _ dead st.live)
  absent false past x (Some (Home handler)) dead st = absurd (both_ways _ dead st.live)

  -- a handler is taken from home
  pub seats_taken : (past : List (Entry N)) (y : ℕ) (handler : H) (entries : List (R.Entry H))
      → R.seat_of y entries ≡ Some (Home handler)
      → RepositoryStands means t past None entries
      → RepositoryStands means t past (Some y) (R.with_seat y Out entries)
  seats_taken past y handler entries at st = λ x. by_cases x (y == x) refl
    where
      home : SeatStands means t past y (Some (Home handler))
      home = subst (λ (seat : Option (Seat H)). SeatStands means t past y seat) at (st y)

      by_cases : (x : ℕ) (b : Bool) → (y == x) ≡ b
          → SeatBy b means t past x (R.seat_of x (R.with_seat y Out entries))
      by_cases x true q = subst (λ (k : ℕ).
          SeatBy true means t past k (R.seat_of k (R.with_seat y Out entries))) (eqb-true y x q)
          (record { live = home.live; out = seat_with_seat y Out (Home handler) entries at })
      by_cases x false q = subst (λ (seat : Option (Seat H)). SeatStands means t past x seat)
          (sym (seat_with_seat_other y Out entries x q)) (st x)

  -- the one in hand is given back, as it is not busy
  pub seats_given_back : (past : List (Entry N)) (y : ℕ) (handler : H) (entries : List (R.Entry H))
      → is_busy (summary past) y ≡ false → means.fits t (origin_of past y) handler (had past y)
      → RepositoryStands means t past (Some y) entries
      → RepositoryStands means t past None (R.with_seat y (Home handler) entries)
  seats_given_back past y handler entries idle fits st = λ x. by_cases x (y == x) refl (st x)
    where
      by_cases : (x : ℕ) (b : Bool) → (y == x) ≡ b → SeatBy b means t past x (R.seat_of x entries)
          → SeatStands means t past x (R.seat_of x (R.with_seat y (Home handler) entries))
      by_cases x true q s =
          let same : y ≡ x = eqb-true y x q in
          let out : R.seat_of y entries ≡ Some Out =
          subst (λ (k : ℕ). R.seat_of k entries ≡ Some Out) (sym same) s.out in
          let live : is_live (summary past) y ≡ true =
          subst (λ (k : ℕ). is_live (summary past) k ≡ true) (sym same) s.live in
          subst (λ (k : ℕ). SeatStands means t past k
          (R.seat_of k (R.with_seat y (Home handler) entries))) same
          (subst (λ (seat : Option (Seat H)). SeatStands means t past y seat)
          (sym (seat_with_seat y (Home handler) Out entries out))
          (record { live = live; busy = idle; fits = fits }))
      by_cases x false q s = subst (λ (seat : Option (Seat H)). SeatStands means t past x seat)
          (sym (seat_with_seat_other y (Home handler) entries x q)) s

  -- the one in hand is closed
  pub seats_closed : (past : List (Entry N)) (handle : Handle) (note : N)
      (entries : List (R.Entry H))
      → RepositoryStands means t past (Some handle.0) entries
      → RepositoryStands means t (Closed handle note ∷ past) None
      (R.without_handle handle.0 entries)
  seats_closed past handle note entries st = λ x. by_cases x (handle.0 == x) refl (st x)
    where
      gone : (hs : List LiveHandle) → list_any (λ (h : LiveHandle). h.handle.0 == handle.0)
          (filter (λ (h : LiveHandle). not (handle.0 == h.handle.0)) hs) ≡ false
      gone [] = refl
      gone (h ∷ hs) = by_test (handle.0 == h.handle.0) refl (gone hs)
        where
          by_test : (b : Bool) → (handle.0 == h.handle.0) ≡ b
              → list_any (λ (h : LiveHandle). h.handle.0 == handle.0)
              (filter (λ (h : LiveHandle). not (handle.0 == h.handle.0)) hs) ≡ false
              → list_any (λ (h : LiveHandle). h.handle.0 == handle.0)
              (cond (not b) (h ∷ filter (λ (h : LiveHandle). not (handle.0 == h.handle.0)) hs)
              (filter (λ (h : LiveHandle). not (handle.0 == h.handle.0)) hs)) ≡ false
          by_test true q rec = rec
          by_test false q rec = or_from _ _ (not_from (h.handle.0 == handle.0)
              (λ s. both_ways _ q (eq-eqb handle.0 h.handle.0
              (sym (eqb-true h.handle.0 handle.0 s))))) rec

      kept : (x : ℕ) → (handle.0 == x) ≡ false → (hs : List LiveHandle)
          → list_any (λ (h : LiveHandle). h.handle.0 == x)
          (filter (λ (h : LiveHandle). not (handle.0 == h.handle.0)) hs)
          ≡ list_any (λ (h : LiveHandle). h.handle.0 == x) hs
      kept x n [] = refl
      kept x n (h ∷ hs) = by_test (handle.0 == h.handle.0) refl (kept x n hs)
        where
          by_test : (b : Bool) → (handle.0 == h.handle.0) ≡ b
              → list_any (λ (h : LiveHandle). h.handle.0 == x)
              (filter (λ (h : LiveHandle). not (handle.0 == h.handle.0)) hs)
              ≡ list_any (λ (h : LiveHandle). h.handle.0 == x) hs
              → list_any (λ (h : LiveHandle). h.handle.0 == x)
              (cond (not b) (h ∷ filter (λ (h : LiveHandle). not (handle.0 == h.handle.0)) hs)
              (filter (λ (h : LiveHandle). not (handle.0 == h.handle.0)) hs))
              ≡ (h.handle.0 == x || list_any (λ (h : LiveHandle). h.handle.0 == x) hs)
          by_test true q rec =
              let other : (h.handle.0 == x) ≡ false =
              subst (λ (k : ℕ). (k == x) ≡ false) (eqb-true handle.0 h.handle.0 q) n in
              rec ∙ sym (ap (λ b. b || list_any (λ (h : LiveHandle). h.handle.0 == x) hs) other)
          by_test false q rec = ap (λ b. h.handle.0 == x || b) rec

      by_cases : (x : ℕ) (b : Bool) → (handle.0 == x) ≡ b
          → SeatBy b means t past x (R.seat_of x entries)
          → SeatStands means t (Closed handle note ∷ past) x
          (R.seat_of x (R.without_handle handle.0 entries))
      by_cases x true q s =
          subst (λ (k : ℕ). SeatStands means t (Closed handle note ∷ past) k
          (R.seat_of k (R.without_handle handle.0 entries))) (eqb-true handle.0 x q)
          (subst (λ (seat : Option (Seat H)).
          SeatStands means t (Closed handle note ∷ past) handle.0 seat)
          (sym (seat_without handle.0 entries)) (gone (summary past).handles))
      by_cases x false q s =
          subst (λ (seat : Option (Seat H)). SeatStands means t (Closed handle note ∷ past) x seat)
          (sym (seat_without_other handle.0 entries x q))
          (seat_by_same means t false past (Closed handle note ∷ past) x (R.seat_of x entries)
          (kept x q (summary past).handles) refl (append-nil (had past x)) refl s)
