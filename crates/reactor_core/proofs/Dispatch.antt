-- What `Opened`, `Started` and `Returned` do to the seats.
use Rattle.std.proofs.Common.{ℕ, ◌≡◌, ◌==◌, Bool, true, false, not, ◌&&◌, ◌||◌, List, [], ◌∷◌, ◌++◌}
use Rattle.std.proofs.Common.{refl, sym, ap, ◌∙◌, subst, cond, Option, Some, None, ⊎_elim}
use Rattle.std.proofs.lemmas.Bool.{false≢true, and_parts, or_parts, or_right, both_ways, cases_Bool}
use Rattle.std.proofs.lemmas.Bool.{cond-true, cond-false, eqb-true, eq-eqb, not-true}
use Rattle.std.proofs.lemmas.List.{append-nil}
use Rattle.std.proofs.lemmas.List.Folds.{list_any-append}
use Rattle.std.specs.List.{list_any, filter}
use Rattle.reactor_summary.specs.ev_types.specs.declared.upcall.Mask.{Mask}
use Rattle.reactor_summary.specs.ev_types.specs.declared.upcall.Handle.{Handle}
use Rattle.reactor_summary.specs.ev_types.specs.declared.upcall.Answer.{Answer}
use Rattle.reactor_summary.specs.ev_types.specs.declared.upcall.Answer.TheVariants.{Keep, Again}
use Rattle.reactor_summary.specs.ev_types.specs.declared.upcall.Answer.TheVariants.{Close}
use Rattle.ev_base.specs.Terms.{Terms}
use Rattle.reactor_model.specs.reactor_journal.specs.Event.{Event}
use Rattle.reactor_model.specs.reactor_journal.specs.declared.entry.Entry.{Entry}
use Rattle.reactor_model.specs.reactor_journal.specs.declared.entry.Entry.TheVariants.{Opened}
use Rattle.reactor_model.specs.reactor_journal.specs.declared.entry.Entry.TheVariants.{Started}
use Rattle.reactor_model.specs.reactor_journal.specs.declared.entry.Entry.TheVariants.{Returned}
use Rattle.reactor_model.specs.reactor_journal.specs.Past as P
use Rattle.reactor_model.specs.reactor_journal.specs.Past.{had, items_made, item_of, origin_of}
use Rattle.reactor_model.specs.reactor_journal.specs.Past.{offered_here, event_at, started_at}
use Rattle.reactor_model.specs.reactor_journal.specs.Past.{belongs_to}
use Rattle.reactor_model.specs.reactor_journal.specs.Follow.{may_follow, is_legal}
use Rattle.reactor_model.specs.reactor_journal.proofs.HadLaw.{no_turn}
use Rattle.reactor_model.specs.reactor_journal.proofs.OneOpen.{one_open, open_cases}
use Rattle.reactor_summary.specs.declared.parts.LiveHandle.{LiveHandle}
use Rattle.reactor_summary.specs.declared.parts.OpenEvent.{OpenEvent}
use Rattle.reactor_summary.specs.declared.parts.WaitingEvent.{WaitingEvent}
use Rattle.reactor_summary.specs.Summary as S
use Rattle.reactor_summary.specs.Summary.{Summary, summary, step, is_busy, with_end, waiting_event}
use Rattle.reactor_summary.specs.Summary.{open_event, event_of}
use Rattle.reactor_summary.specs.Tells as T
use Rattle.reactor_summary.specs.Tells.{Tells, Each}
use Rattle.reactor_summary.proofs.Told.{told}
use Rattle.reactor_summary.proofs.Lists.{some_is}
use Rattle.reactor_summary.proofs.Opened.{Bare, next_is_bare, open_opened}
use Rattle.reactor_summary.proofs.Reading.{busy_is}
use Rattle.laws_turns.proofs.Turns.{had_none}
use Rattle.reactor_model.specs.Handling.{Handling}
use Rattle.handler_repo.specs.Seats as R
use Rattle.handler_repo.specs.declared.seat.Seat.{Seat}
use Rattle.handler_repo.specs.declared.seat.Seat.TheVariants.{Home, Out}
use Rattle.reactor_core.specs.Handlers.{is_live, IsHome, SeatStands, is_in_hand, SeatBy}
use Rattle.reactor_core.specs.Handlers.{RepositoryStands}
use Rattle.reactor_core.proofs.Seats.{seat_with_entry, same_numbers, end_number, seat_by_same}
use Rattle.reactor_model.specs.reactor_journal.proofs.Basics.{event_at-before}
use Rattle.reactor_model.specs.reactor_journal.proofs.OneOpen.{started_is_event}
use Rattle.reactor_model.specs.reactor_journal.proofs.Steps.{busy_event, event_busy}
use Rattle.reactor_model.specs.reactor_journal.proofs.Closing.{closed_gone}
use Rattle.reactor_core.proofs.Moves.{live_is, busy_opened, IsOpenAs, found_open, open_told, absent}

not_from : (b : Bool) → (b ≡ true → ⊥) → b ≡ false
not_from b f = ⊎_elim (λ (t : b ≡ true). absurd (f t)) (λ (n : b ≡ false). n) (cases_Bool b)

or_none : (b : Bool) → (b || false) ≡ b
or_none true = refl
or_none false = refl

-- ---- a new handle

pub fresh_is_dead : {N : Type 0} (most : ℕ) (past : List (Entry N)) (x : ℕ)
    → is_legal most past ≡ true → P.opened past ≡ x
    → (is_live (summary past) x ≡ false) × (is_busy (summary past) x ≡ false) × (had past x ≡ [])
fresh_is_dead most past x legal q =
    let bare : Bare past x = next_is_bare most past x legal q in (
      live_is most past x legal ∙ ap (λ b. b && (not (P.was_closed past x) && true)) bare.opened,
      not_from _ (λ h. both_ways _ bare.opened (busy_opened most past x legal h)),
      had_none most past x legal bare.opened,
    )

origin_here : {N : Type 0} (e : Entry N) (past : List (Entry N)) (x : ℕ) → P.opens x e ≡ true
    → origin_of (e ∷ past) x ≡ offered_here past
origin_here e past x h = rw (h, origin_of) refl

origin_there : {N : Type 0} (e : Entry N) (past : List (Entry N)) (x : ℕ) → P.opens x e ≡ false
    → origin_of (e ∷ past) x ≡ origin_of past x
origin_there e past x h = rw (h, origin_of) refl

module _ {H E N : Type 0} (means : Handling H E N) (t : Terms) (most : ℕ) where
  pub seats_opened : (past : List (Entry N)) (handle : Handle) (mask : Mask) (handler : H)
      (hand : Option ℕ) (entries : List (R.Entry H)) → is_legal most past ≡ true
      → P.opened past ≡ handle.0
      → means.fits t (offered_here past) handler [] → RepositoryStands means t past hand entries
      → RepositoryStands means t (Opened handle mask ∷ past) hand
      (R.with_entry (record { handle = handle.0; seat = Home handler }) entries)
  seats_opened past handle mask handler hand entries legal next fits st =
      λ x. by_cases x (handle.0 == x) refl (st x)
    where
      new : List (Entry N)
      new = Opened handle mask ∷ past

      dead : (is_live (summary past) handle.0 ≡ false) × (is_busy (summary past) handle.0 ≡ false)
          × (had past handle.0 ≡ [])
      dead = fresh_is_dead most past handle.0 legal next

      none : (is_in_hand hand handle.0 ≡ false) × (R.seat_of handle.0 entries ≡ None)
      none = absent means t (is_in_hand hand handle.0) past handle.0 (R.seat_of handle.0 entries)
          dead.0 (st handle.0)

      seat : (x : ℕ) → R.seat_of x (R.with_entry (record { handle = handle.0; seat = Home handler })
          entries) ≡ cond (handle.0 == x) (Some (Home handler)) (R.seat_of x entries)
      seat x = seat_with_entry (record { handle = handle.0; seat = Home handler }) entries x none.1

      live : (x : ℕ) → is_live (summary new) x ≡ (is_live (summary past) x || handle.0 == x)
      live x = list_any-append (λ (h : LiveHandle). h.handle.0 == x) (summary past).handles
          (record { handle = handle; mask = mask; suspended = false; alive = true } ∷ [])
          ∙ ap (λ b. is_live (summary past) x || b) (or_none (handle.0 == x))

      mine : IsHome means t new handle.0 handler
      mine = record {
        live = live handle.0 ∙ or_right (is_live (summary past) handle.0) (handle.0 == handle.0)
            (eq-eqb handle.0 handle.0 refl);
        busy = dead.1;
        fits = subst (λ o. means.fits t o handler (had new handle.0))
            (sym (origin_here (Opened handle mask) past handle.0 (eq-eqb handle.0 handle.0 refl)))
            (subst (λ items. means.fits t (offered_here past) handler items)
            (sym (append-nil (had past handle.0) ∙ dead.2)) fits);
      }

      by_cases : (x : ℕ) (b : Bool) → (handle.0 == x) ≡ b
          → SeatBy (is_in_hand hand x) means t past x (R.seat_of x entries)
          → SeatBy (is_in_hand hand x) means t new x
          (R.seat_of x (R.with_entry (record { handle = handle.0; seat = Home handler })
          entries))
      by_cases x true q s =
          subst (λ (k : ℕ). SeatBy (is_in_hand hand k) means t new k
          (R.seat_of k (R.with_entry (record { handle = handle.0; seat = Home handler })
          entries))) (eqb-true handle.0 x q)
          (subst (λ (b : Bool). SeatBy b means t new handle.0
          (R.seat_of handle.0 (R.with_entry (record { handle = handle.0; seat = Home handler })
          entries))) (sym none.0)
          (subst (λ (o : Option (Seat H)). SeatStands means t new handle.0 o)
          (sym (seat handle.0 ∙ cond-true (handle.0 == handle.0) (Some (Home handler))
          (R.seat_of handle.0 entries) (eq-eqb handle.0 handle.0 refl))) mine))
      by_cases x false q s =
          subst (λ (o : Option (Seat H)). SeatBy (is_in_hand hand x) means t new x o)
          (sym (seat x ∙ cond-false (handle.0 == x) (Some (Home handler)) (R.seat_of x entries)
          q))
          (seat_by_same means t (is_in_hand hand x) past new x (R.seat_of x entries)
          (live x ∙ (ap (λ b. is_live (summary past) x || b) q
          ∙ or_none (is_live (summary past) x))) refl (append-nil (had past x))
          (origin_there (Opened handle mask) past x q) s)

  -- ---- an event that is started

  pub seats_started : (past : List (Entry N)) (event : ℕ) (w : WaitingEvent)
      (entries : List (R.Entry H)) → waiting_event (summary past) event ≡ Some w
      → RepositoryStands means t past (Some w.handle.0) entries
      → RepositoryStands means t (Started event ∷ past) None entries
  seats_started past event w entries found st = λ x. by_cases x (w.handle.0 == x) refl (st x)
    where
      new : List (Entry N)
      new = Started event ∷ past

      opens : (summary new).opens ≡ (summary past).opens
          ++ record {
            event = w.event;
            handle = w.handle;
            upcall = w.upcall;
            moment = (summary past).moment;
          } ∷ []
      opens = ap (λ o. (summary past).opens ++ S.opens_from (summary past).moment o) found

      busy : (x : ℕ) → is_busy (summary new) x ≡ (is_busy (summary past) x || w.handle.0 == x)
      busy x = ap (list_any (λ (o : OpenEvent). o.handle.0 == x)) opens
          ∙ (list_any-append (λ (o : OpenEvent). o.handle.0 == x) (summary past).opens
          (record {
            event = w.event;
            handle = w.handle;
            upcall = w.upcall;
            moment = (summary past).moment;
          } ∷ [])
          ∙ ap (λ b. is_busy (summary past) x || b) (or_none (w.handle.0 == x)))

      by_cases : (x : ℕ) (b : Bool) → (w.handle.0 == x) ≡ b
          → SeatBy b means t past x (R.seat_of x entries)
          → SeatStands means t new x (R.seat_of x entries)
      by_cases x true q s =
          subst (λ (o : Option (Seat H)). SeatStands means t new x o) (sym s.out)
          (record {
            live = s.live;
            busy = busy x
                ∙ or_right (is_busy (summary past) x) (w.handle.0 == x) q;
          })
      by_cases x false q s =
          seat_by_same means t false past new x (R.seat_of x entries) refl
          (busy x ∙ (ap (λ b. is_busy (summary past) x || b) q
          ∙ or_none (is_busy (summary past) x))) (append-nil (had past x)) refl s

-- ---- an event that is settled

any_filter_each : {A : Type 0} (P : A → Type 0) (p q : A → Bool) (xs : List A) → Each P xs
    → ((a : A) → P a → p a ≡ true → q a ≡ true) → list_any p (filter q xs) ≡ list_any p xs
any_filter_each P p q [] each h = refl
any_filter_each {A} P p q (x ∷ xs) each h = by_cases (q x) refl (any_filter_each P p q xs each.1 h)
  where
    by_cases : (b : Bool) → q x ≡ b → list_any p (filter q xs) ≡ list_any p xs
        → list_any p (cond b (x ∷ filter q xs) (filter q xs)) ≡ (p x || list_any p xs)
    by_cases true r rec = ap (λ b. p x || b) rec
    by_cases false r rec = rec ∙ sym (ap (λ b. b || list_any p xs)
        (not_from (p x) (λ k. both_ways _ r (h x each.0 k))))

-- the handle of an open event is live
pub open_is_live : {N : Type 0} (most : ℕ) (past : List (Entry N)) (i : ℕ) (o : OpenEvent)
    → is_legal most past ≡ true → open_event (summary past) i ≡ Some o
    → (is_live (summary past) o.handle.0 ≡ true) × (is_busy (summary past) o.handle.0 ≡ true)
open_is_live most past i o legal h =
    let f : IsOpenAs past o × (o.event ≡ i) = found_open most past i o legal h in
    let mine : belongs_to o.handle.0 (event_at past o.event) ≡ true =
    ap (belongs_to o.handle.0) f.0.event ∙ eq-eqb o.handle.0 o.handle.0 refl in
    let opened : P.was_opened past o.handle.0 ≡ true =
    open_opened most past o.event o.handle.0 legal f.0.is_open mine in
    let closed : P.was_closed past o.handle.0 ≡ false =
    not_from _ (λ c. (closed_gone most past o.handle.0 legal c).idle o.event f.0.is_open mine)
    in (
      live_is most past o.handle.0 legal
          ∙ (ap (λ b. b && (not (P.was_closed past o.handle.0) && true)) opened
          ∙ ap (λ b. not b && true) closed),
      busy_is past (summary past) o.handle.0 (told most past legal)
          ∙ event_busy past o.handle.0 o.event f.0.is_open mine,
    )

-- the turn that its `Returned` records
pub had_returned : {N : Type 0} (most : ℕ) (past : List (Entry N)) (event : ℕ) (answer : Answer)
    (note : N) (o : OpenEvent) → is_legal most past ≡ true
    → open_event (summary past) event ≡ Some o
    → had (Returned event answer note ∷ past) o.handle.0
    ≡ had past o.handle.0 ++ record {
      upcall = o.upcall;
      moment = o.moment;
      answer = answer;
      note = note;
    } ∷ []
had_returned {N} most past event answer note o legal h =
    let f : IsOpenAs past o × (o.event ≡ event) = found_open most past event o legal h in
    let at : ◌≡◌ {A = Option Event} (event_at past event)
    (Some (record { handle = o.handle.0; upcall = o.upcall })) =
    subst (λ (k : ℕ). ◌≡◌ {A = Option Event} (event_at past k)
    (Some (record { handle = o.handle.0; upcall = o.upcall }))) f.1 f.0.event in
    let moment : started_at past event ≡ o.moment =
    subst (λ (k : ℕ). started_at past k ≡ o.moment) f.1 f.0.moment in
    ap (λ items. had past o.handle.0 ++ items)
    (ap (λ ev. item_of o.handle.0 ev (started_at past event) answer note) at
    ∙ (ap (λ m. item_of {N = N} o.handle.0
    (Some (record { handle = o.handle.0; upcall = o.upcall })) m answer note) moment
    ∙ cond-true (o.handle.0 == o.handle.0)
    (record { upcall = o.upcall; moment = o.moment; answer = answer; note = note } ∷ []) []
    (eq-eqb o.handle.0 o.handle.0 refl)))

-- no other handle has a turn by it
pub had_other : {N : Type 0} (most : ℕ) (past : List (Entry N)) (event : ℕ) (answer : Answer)
    (note : N) (o : OpenEvent) (x : ℕ) → is_legal most past ≡ true
    → open_event (summary past) event ≡ Some o
    → (o.handle.0 == x) ≡ false → had (Returned event answer note ∷ past) x ≡ had past x
had_other most past event answer note o x legal h n =
    let f : IsOpenAs past o × (o.event ≡ event) = found_open most past event o legal h in
    let other : belongs_to x (event_at past event) ≡ false =
    ap (belongs_to x) (subst (λ (k : ℕ).
    ◌≡◌ {A = Option Event} (event_at past k)
    (Some (record { handle = o.handle.0; upcall = o.upcall }))) f.1 f.0.event) ∙ n in
    ap (λ items. had past x ++ items) (no_turn x (event_at past event) (started_at past event)
    answer note other) ∙ append-nil (had past x)

-- after it its handle is not busy
pub idle_behind : {N : Type 0} (most : ℕ) (past : List (Entry N)) (event : ℕ) (answer : Answer)
    (note : N) (o : OpenEvent) → is_legal most (Returned event answer note ∷ past) ≡ true
    → open_event (summary past) event ≡ Some o
    → is_busy (summary (Returned event answer note ∷ past)) o.handle.0 ≡ false
idle_behind {N} most past event answer note o legal h =
    let e : Entry N = Returned event answer note in
    let parts : (may_follow most past e ≡ true) × (is_legal most past ≡ true) =
    and_parts _ _ legal in
    let f : IsOpenAs past o × (o.event ≡ event) = found_open most past event o parts.1 h in
    let mine : belongs_to o.handle.0 (event_at past o.event) ≡ true =
    ap (belongs_to o.handle.0) f.0.event ∙ eq-eqb o.handle.0 o.handle.0 refl in
    busy_is (e ∷ past) (summary (e ∷ past)) o.handle.0 (told most (e ∷ past) legal)
    ∙ not_from _ (λ b.
    let r : (i : ℕ) × (P.is_open (e ∷ past) i ≡ true)
    × (belongs_to o.handle.0 (event_at (e ∷ past) i) ≡ true) =
    busy_event (e ∷ past) o.handle.0 b in
    let before : P.is_open past r.0 ≡ true =
    ⊎_elim (λ (s : P.starts r.0 e ≡ true). absurd (false≢true s))
    (λ (k : P.is_open past r.0 ≡ true). k) (open_cases e past r.0 r.1) in
    let event_then : P.is_event past r.0 ≡ true =
    started_is_event most past parts.1 r.0 (and_parts _ _ before).0 in
    let mine_then : belongs_to o.handle.0 (event_at past r.0) ≡ true =
    sym (ap (belongs_to o.handle.0) (event_at-before e past r.0 event_then)) ∙ r.2 in
    let same : o.event ≡ r.0 = one_open most past parts.1 o.event r.0 o.handle.0 f.0.is_open before
    mine mine_then in
    let returned : P.returns r.0 e ≡ true = eq-eqb event r.0 (sym f.1 ∙ same) in
    both_ways (P.returns r.0 e) (or_parts _ _ (not-true _ (and_parts _ _ r.1).1)).0 returned)

-- no other handle is more or less busy by it
pub busy_other : {N : Type 0} (most : ℕ) (past : List (Entry N)) (event : ℕ) (answer : Answer)
    (note : N) (o : OpenEvent) (x : ℕ) → is_legal most past ≡ true
    → open_event (summary past) event ≡ Some o
    → (o.handle.0 == x) ≡ false → is_busy (summary (Returned event answer note ∷ past)) x
    ≡ is_busy (summary past) x
busy_other most past event answer note o x legal found n =
    any_filter_each (λ (a : OpenEvent). T.open_event past a.event ≡ Some a)
    (λ (a : OpenEvent). a.handle.0 == x) (λ (a : OpenEvent). not (event == a.event))
    (summary past).opens (told most past legal).opens
    (λ a is p. ap not (not_from (event == a.event)
    (λ q. both_ways (o.handle.0 == x) n
    (subst (λ (b : OpenEvent). (b.handle.0 == x) ≡ true) (sym (of_event a is q)) p))))
  where
    of_event : (a : OpenEvent) → T.open_event past a.event ≡ Some a → (event == a.event) ≡ true
        → o ≡ a
    of_event a is q =
        let r : IsOpenAs past o × (o.event ≡ event) = found_open most past event o legal found in
        let at : T.open_event past event ≡ Some a =
        subst (λ (k : ℕ). T.open_event past k ≡ Some a) (sym (eqb-true event a.event q)) is in
        some_is o a (sym (subst (λ (k : ℕ). T.open_event past k ≡ Some o) r.1
        (open_told most past event o legal found)) ∙ at)

pub live_returned : {N : Type 0} (s : Summary) (event : ℕ) (answer : Answer) (note : N) (x : ℕ)
    → is_live (step s (Returned event answer note)) x ≡ is_live s x
live_returned s event Keep note x = refl
live_returned s event Again note x = refl
live_returned s event Close note x =
    same_numbers (with_end (S.event_open s event)) x s.handles (end_number (S.event_open s event))

module _ {H E N : Type 0} (means : Handling H E N) (t : Terms) (most : ℕ) where
  -- a seat that is busy is out
  busy_is_out : (past : List (Entry N)) (x : ℕ) (seat : Option (Seat H))
      → is_live (summary past) x ≡ true → is_busy (summary past) x ≡ true
      → SeatStands means t past x seat → seat ≡ Some Out
  busy_is_out past x None live busy st = absurd (both_ways _ st live)
  busy_is_out past x (Some Out) live busy st = refl
  busy_is_out past x (Some (Home handler)) live busy st = absurd (both_ways _ st.busy busy)

  pub seats_returned : (past : List (Entry N)) (event : ℕ) (answer : Answer) (note : N)
      (o : OpenEvent) (entries : List (R.Entry H)) → is_legal most past ≡ true
      → open_event (summary past) event ≡ Some o
      → RepositoryStands means t past None entries
      → RepositoryStands means t (Returned event answer note ∷ past) (Some o.handle.0) entries
  seats_returned past event answer note o entries legal found st =
      λ x. by_cases x (o.handle.0 == x) refl (st x)
    where
      e : Entry N
      e = Returned event answer note

      there : (is_live (summary past) o.handle.0 ≡ true)
          × (is_busy (summary past) o.handle.0 ≡ true)
      there = open_is_live most past event o legal found

      by_cases : (x : ℕ) (b : Bool) → (o.handle.0 == x) ≡ b
          → SeatStands means t past x (R.seat_of x entries)
          → SeatBy b means t (e ∷ past) x (R.seat_of x entries)
      by_cases x true q s =
          let same : o.handle.0 ≡ x = eqb-true o.handle.0 x q in
          let live : is_live (summary past) x ≡ true =
          subst (λ (k : ℕ). is_live (summary past) k ≡ true) same there.0 in
          let is_busy_now : is_busy (summary past) x ≡ true =
          subst (λ (k : ℕ). is_busy (summary past) k ≡ true) same there.1 in
          record {
            live = live_returned (summary past) event answer note x ∙ live;
            out = busy_is_out past x (R.seat_of x entries) live is_busy_now s;
          }
      by_cases x false q s =
          seat_by_same means t false past (e ∷ past) x (R.seat_of x entries)
          (live_returned (summary past) event answer note x)
          (busy_other most past event answer note o x legal found q)
          (had_other most past event answer note o x legal found q) refl s
