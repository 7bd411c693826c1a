-- That a handler whose last turn asked for the next has one to start or to settle still.
use Rattle.std.proofs.Common.{ℕ, ◌≡◌, ◌≢◌, ◌<◌, ◌==◌, ◌&&◌, ◌⊎◌, inl, inr, ⊎_elim, Bool, true}
use Rattle.std.proofs.Common.{false, not, List, [], ◌∷◌, ◌++◌, length, refl, sym, ap, ◌∙◌, subst}
use Rattle.std.proofs.Common.{Option, Some, None, option_map, cond}
use Rattle.std.proofs.lemmas.Bool.{false≢true, and_parts, and_from, or_parts, or_left, or_right}
use Rattle.std.proofs.lemmas.Bool.{or_cases, cases_Bool, cond-true, cond-false, both_ways, eqb-true}
use Rattle.std.proofs.lemmas.Bool.{eq-eqb, ne_eqb, cases_eq, not-true}
use Rattle.std.proofs.lemmas.List.{append-nil}
use Rattle.std.proofs.lemmas.List.Folds.{list_any-append}
use Rattle.std.specs.List.{list_all, list_any, filter}
use Rattle.ev_base.specs.ev_types.specs.declared.upcall.Answer.{Answer}
use Rattle.ev_base.specs.ev_types.specs.declared.upcall.Answer.TheVariants.{Keep, Again, Close}
use Rattle.ev_base.specs.ev_types.specs.declared.upcall.Upcall.{Upcall}
use Rattle.ev_base.specs.ev_types.specs.declared.upcall.Upcall.TheVariants as upcall
use Rattle.reactor_model.specs.reactor_journal.specs.Event.{Event, Item}
use Rattle.reactor_model.specs.reactor_journal.specs.declared.entry.Entry.{Entry}
use Rattle.reactor_model.specs.reactor_journal.specs.declared.entry.Entry.TheVariants as entry
use Rattle.reactor_model.specs.reactor_journal.specs.Past.{had}
use Rattle.reactor_model.specs.reactor_journal.specs.Past as P
use Rattle.reactor_model.specs.reactor_journal.specs.Follow as F
use Rattle.reactor_model.specs.reactor_journal.specs.Follow.{is_legal}
use Rattle.reactor_model.specs.reactor_journal.proofs.Picking.{pick_some}
use Rattle.reactor_core.specs.reactor_summary.specs.Summary as S
use Rattle.reactor_core.specs.reactor_summary.specs.Summary.{Summary, summary, step}
use Rattle.reactor_core.specs.reactor_summary.specs.Tells as T
use Rattle.reactor_core.specs.reactor_summary.specs.Tells.{Each, Tells, listed}
use Rattle.reactor_core.specs.reactor_summary.specs.declared.parts.OpenEvent.{OpenEvent}
use Rattle.reactor_core.specs.reactor_summary.specs.declared.parts.WaitingEvent.{WaitingEvent}
use Rattle.reactor_core.specs.reactor_summary.proofs.Found.{waiting_found}
use Rattle.reactor_core.specs.reactor_summary.proofs.Lists.{any_filter-from, any_listed-from}
use Rattle.reactor_core.specs.reactor_summary.proofs.Lists.{any_listed-some}
use Rattle.reactor_core.specs.reactor_summary.proofs.Lists.{each_find, some_is}
use Rattle.reactor_core.specs.reactor_summary.proofs.Opened.{open_opened}
use Rattle.reactor_core.specs.reactor_summary.proofs.Picks.{able_from}
use Rattle.reactor_core.specs.reactor_summary.proofs.Reading.{alive_is, open_some, resumed_is}
use Rattle.reactor_core.specs.reactor_summary.proofs.Reading.{waiting_some}
use Rattle.reactor_core.specs.reactor_summary.proofs.Told.{told}
use Rattle.reactor_core.proofs.Dispatch.{had_other, had_returned}
use Rattle.connector_run.proofs.Waits.{may_fit}

-- ---- turns

abbrev pub is_again : Answer → Bool
is_again Again = true
is_again _ = false

abbrev pub is_timeout : Upcall → Bool
is_timeout (upcall.Timeout timer) = true
is_timeout _ = false

-- whether the last of these turns that is no timeout asked for the next, if none is as it was
-- before
abbrev pub asks_next : {N : Type 0} → Item N → Bool → Bool
asks_next item before = cond (is_timeout item.upcall) before (is_again item.answer)

abbrev pub asks_last : {N : Type 0} → List (Item N) → Bool → Bool
asks_last [] before = before
asks_last (item ∷ items) before = asks_last items (asks_next item before)

asks_more : {N : Type 0} (xs ys : List (Item N)) (b : Bool)
    → asks_last (xs ++ ys) b ≡ asks_last ys (asks_last xs b)
asks_more [] ys b = refl
asks_more (x ∷ xs) ys b = asks_more xs ys (asks_next x b)

-- ---- events of the handle that are no timeouts

abbrev mine_waiting : WaitingEvent → Bool
mine_waiting w = w.handle.0 == 0 && not (is_timeout w.upcall)

abbrev mine_open : OpenEvent → Bool
mine_open o = o.handle.0 == 0 && not (is_timeout o.upcall)

-- if the last turn asked for the next, such an event waits or is open
abbrev Asks : Summary → Bool → Type 0
Asks s b = b ≡ true
    → (list_any mine_waiting s.waiting ≡ true) ⊎ (list_any mine_open s.opens ≡ true)

-- entries that hold no event back
abbrev pub is_calm : {N : Type 0} → Entry N → Bool
is_calm (entry.Opened handle mask) = true
is_calm (entry.Scheduled timer handle first every) = true
is_calm (entry.Polled moment) = true
is_calm (entry.Due timer) = true
is_calm (entry.Ready handle kind) = true
is_calm (entry.Started event) = true
is_calm (entry.Returned event answer note) = true
is_calm _ = false

-- ---- lists

any_left : {A : Type 0} (p : A → Bool) (xs ys : List A) → list_any p xs ≡ true
    → list_any p (xs ++ ys) ≡ true
any_left p xs ys h = list_any-append p xs ys ∙ or_left (list_any p xs) (list_any p ys) h

any_right : {A : Type 0} (p : A → Bool) (xs ys : List A) → list_any p ys ≡ true
    → list_any p (xs ++ ys) ≡ true
any_right p xs ys h = list_any-append p xs ys ∙ or_right (list_any p xs) (list_any p ys) h

-- those that pass both tests are left by the first
any_both : {A : Type 0} (p q : A → Bool) (xs : List A) → list_any (λ a. p a && q a) xs ≡ true
    → list_any q (filter p xs) ≡ true
any_both p q [] h = h
any_both {A} p q (x ∷ xs) h = go (any_both p q xs) (p x) refl
  where
    go : (list_any (λ a. p a && q a) xs ≡ true → list_any q (filter p xs) ≡ true)
        → (b : Bool) → p x ≡ b → list_any q (filter p (x ∷ xs)) ≡ true
    go rest true b =
        ap (list_any q) (cond-true (p x) (x ∷ filter p xs) (filter p xs) b)
        ∙ ⊎_elim
        (λ (u : (p x && q x) ≡ true). or_left (q x) (list_any q (filter p xs))
        (and_parts (p x) (q x) u).1)
        (λ (u : list_any (λ a. p a && q a) xs ≡ true).
        or_right (q x) (list_any q (filter p xs)) (rest u))
        (or_cases (p x && q x) (list_any (λ a. p a && q a) xs) h)
    go rest false b =
        ap (list_any q) (cond-false (p x) (x ∷ filter p xs) (filter p xs) b)
        ∙ ⊎_elim
        (λ (u : (p x && q x) ≡ true). absurd (both_ways (p x) b (and_parts (p x) (q x) u).0))
        rest (or_cases (p x && q x) (list_any (λ a. p a && q a) xs) h)

any_each : {A : Type 0} (P : A → Type 0) (p q : A → Bool) (xs : List A) → Each P xs
    → ((a : A) → P a → q a ≡ true → p a ≡ true) → list_any q xs ≡ true
    → list_any (λ a. p a && q a) xs ≡ true
any_each P p q [] e f h = h
any_each P p q (x ∷ xs) e f h =
    let more : list_any q xs ≡ true → list_any (λ a. p a && q a) xs ≡ true =
    any_each P p q xs e.1 f in
    ⊎_elim
    (λ (u : q x ≡ true). or_left (p x && q x) (list_any (λ a. p a && q a) xs)
    (and_from (p x) (q x) (f x e.0 u) u))
    (λ (u : list_any q xs ≡ true). or_right (p x && q x) (list_any (λ a. p a && q a) xs) (more u))
    (or_cases (q x) (list_any q xs) h)

-- ---- a turn is started

same_upcall : {a b : Upcall} → a ≡ b → is_timeout a ≡ is_timeout b
same_upcall q = ap is_timeout q

module _ {N : Type 0} (past : List (Entry N)) (s : Summary) (t : Tells past s) (event : ℕ) where
  abbrev begun : List OpenEvent
  begun = s.opens ++ S.opens_from s.moment (S.waiting_event s event)

  abbrev others : List WaitingEvent
  others = filter (λ w. not (event == w.event)) s.waiting

  starts : list_any mine_waiting s.waiting ≡ true
      → (list_any mine_waiting others ≡ true) ⊎ (list_any mine_open begun ≡ true)
  starts h =
      let r = any_listed-some mine_waiting (T.waiting_event past) (length past)
      (ap (list_any mine_waiting) (sym t.waiting) ∙ h) in
      let w = waiting_some past r.0 r.1 r.3 in
      go r.0 r.1 r.2 r.3 r.4 w.0 w.1 w.2 w.3 (cases_eq event r.0)
    where
      go : (k : ℕ) (a : WaitingEvent) → k < length past → T.waiting_event past k ≡ Some a
          → mine_waiting a ≡ true → (ev : Event) → P.is_waiting past k ≡ true
          → P.event_at past k ≡ Some ev → T.as_waiting past k ev ≡ a
          → (event ≡ k) ⊎ (event ≢ k)
          → (list_any mine_waiting others ≡ true) ⊎ (list_any mine_open begun ≡ true)
      go k a lt is mine ev waits at as_ (inl same) =
          let found : S.waiting_event s event ≡ Some a =
          ap (S.waiting_event s) same ∙ (waiting_found past s k ev t waits at ∙ ap Some as_) in
          let here : list_any mine_open (S.opens_from s.moment (Some a)) ≡ true =
          or_left (mine_waiting a) false mine in
          inr (any_right mine_open s.opens (S.opens_from s.moment (S.waiting_event s event))
          (ap (λ o. list_any mine_open (S.opens_from s.moment o)) found ∙ here))
      go k a lt is mine ev waits at as_ (inr other) =
          let number : k ≡ a.event = ap (λ (w : WaitingEvent). w.event) as_ in
          let stays : not (event == a.event) ≡ true =
          ap (λ n. not (event == n)) (sym number) ∙ ap not (ne_eqb event k other) in
          inl (any_both (λ w. not (event == w.event)) mine_waiting s.waiting
          (ap (list_any (λ w. not (event == w.event) && mine_waiting w)) t.waiting
          ∙ any_listed-from (λ w. not (event == w.event) && mine_waiting w) (T.waiting_event past)
          (length past) k a lt is (and_from _ _ stays mine)))

-- ---- a turn is settled

record Settles {N : Type 0} (past : List (Entry N)) (event : ℕ) : Type 0 where
  o : OpenEvent
  found : S.open_event (summary past) event ≡ Some o
  is : T.open_event past o.event ≡ Some o
  number : o.event ≡ event

settles : {N : Type 0} (most : ℕ) (past : List (Entry N)) (event : ℕ) (answer : Answer) (note : N)
    → is_legal most past ≡ true → F.may_follow most past (entry.Returned event answer note) ≡ true
    → Settles past event
settles most past event answer note legal may =
    let t = told most past legal in
    let r = each_find (λ (a : OpenEvent). T.open_event past a.event ≡ Some a)
    (λ (a : OpenEvent). a.event == event) (summary past).opens t.opens
    (may_fit most past (entry.Returned event answer note) legal may) in
    record { o = r.0; found = r.1; is = r.2; number = eqb-true r.0.event event r.3 }

module _ {N : Type 0} (most : ℕ) (past : List (Entry N)) (event : ℕ) (note : N)
    (legal : is_legal most past ≡ true) (st : Settles past event) where
  t : Tells past (summary past)
  t = told most past legal

  abbrev left : List OpenEvent
  left = filter (λ a. not (event == a.event)) (summary past).opens

  -- every other event of the handle stays open
  stays_open : mine_open st.o ≡ false → list_any mine_open (summary past).opens ≡ true
      → list_any mine_open left ≡ true
  unfolding t
  stays_open other h = any_both (λ a. not (event == a.event)) mine_open (summary past).opens
      (any_each (λ a. T.open_event past a.event ≡ Some a) (λ a. not (event == a.event)) mine_open
      (summary past).opens t.opens (λ a is mine. passes a is mine (cases_eq event a.event)) h)
    where
      passes : (a : OpenEvent) → T.open_event past a.event ≡ Some a → mine_open a ≡ true
          → (event ≡ a.event) ⊎ (event ≢ a.event) → not (event == a.event) ≡ true
      passes a is mine (inr ne) = ap not (ne_eqb event a.event ne)
      passes a is mine (inl same) =
          let one : a ≡ st.o = some_is a st.o (sym is
          ∙ (ap (T.open_event past) (sym same ∙ sym st.number) ∙ st.is)) in
          absurd (both_ways (mine_open a) (ap mine_open one ∙ other) mine)

  -- the event at that place, and its handle
  belongs : (o : OpenEvent) → st.o ≡ o → (P.is_open past event ≡ true)
      × (P.belongs_to o.handle.0 (P.event_at past event) ≡ true)
  belongs o same =
      let p = open_some past st.o.event st.o st.is in (
        ap (P.is_open past) (sym st.number) ∙ p.0,
        subst (λ (a : OpenEvent). P.belongs_to a.handle.0 (P.event_at past event) ≡ true) same
            (subst (λ (k : ℕ). P.belongs_to st.o.handle.0 (P.event_at past k) ≡ true) st.number
            (owned (P.event_at past st.o.event) p.1)),
      )
    where
      owned : (ev : Option Event) → option_map (T.as_open past st.o.event) ev ≡ Some st.o
          → P.belongs_to st.o.handle.0 ev ≡ true
      owned None q = cc
      owned (Some e) q =
          eq-eqb e.handle st.o.handle.0 (ap (λ (a : OpenEvent). a.handle.0)
          (some_is (T.as_open past st.o.event e) st.o q))

  -- if its handle is another one
  other_keeps : (answer : Answer) → (st.o.handle.0 == 0) ≡ false
      → list_any mine_waiting (summary past).waiting ≡ true
      → list_any mine_waiting (S.waiting_after (summary past)
      (entry.Returned event answer note)) ≡ true
  other_keeps Keep other h = h
  other_keeps Again other h = any_left mine_waiting (summary past).waiting _ h
  other_keeps Close other h =
      ap (λ (e : Option OpenEvent). list_any mine_waiting (S.without_events_of
      (option_map S.event_of e) (summary past).waiting)) st.found
      ∙ any_filter-from (λ w. not (st.o.handle.0 == w.handle.0)) mine_waiting
      (summary past).waiting (λ w mine. ap (λ n. not (st.o.handle.0 == n))
      (eqb-true w.handle.0 0 (and_parts (w.handle.0 == 0) (not (is_timeout w.upcall)) mine).0)
      ∙ ap not other) h

  -- if it asked for the next, that waits
  waits_again : (answer : Answer) → is_again answer ≡ true → mine_open st.o ≡ true
      → P.was_removed past 0 ≡ false → list_any mine_waiting (S.waiting_after (summary past)
      (entry.Returned event answer note)) ≡ true
  unfolding t
  waits_again Keep q mine lives = absurd (false≢true q)
  waits_again Close q mine lives = absurd (false≢true q)
  waits_again Again q mine lives =
      let zero_ : st.o.handle.0 ≡ 0 =
      eqb-true st.o.handle.0 0
      (and_parts (st.o.handle.0 == 0) (not (is_timeout st.o.upcall)) mine).0
      in
      let b = belongs st.o refl in
      let opened : P.was_opened past 0 ≡ true =
      open_opened most past event 0 legal b.0
      (subst (λ (n : ℕ). P.belongs_to n (P.event_at past event) ≡ true) zero_ b.1) in
      let alive : S.is_alive (summary past) st.o.handle.0 ≡ true =
      ap (S.is_alive (summary past)) zero_ ∙ (alive_is most past (summary past) 0 legal t
      ∙ and_from _ _ opened (ap not lives)) in
      any_right mine_waiting (summary past).waiting _
      (ap (λ (e : Option OpenEvent). list_any mine_waiting (S.waiting_again (summary past) e))
      st.found
      ∙ (ap (list_any mine_waiting) (cond-true (S.is_alive (summary past) st.o.handle.0)
      (record {
        event = (summary past).entries;
        handle = st.o.handle;
        upcall = st.o.upcall;
        due = None;
      } ∷ []) [] alive) ∙ or_left (mine_open st.o) false mine))

  -- a turn that is a timeout of the handle changes nothing
  timeout_keeps : (answer : Answer) → (st.o.handle.0 == 0) ≡ true
      → P.ends 0 (P.event_at past) (entry.Returned event answer note) ≡ false
      → list_any mine_waiting (summary past).waiting ≡ true
      → list_any mine_waiting (S.waiting_after (summary past)
      (entry.Returned event answer note)) ≡ true
  timeout_keeps Keep here none h = h
  timeout_keeps Again here none h = any_left mine_waiting (summary past).waiting _ h
  timeout_keeps Close here none h =
      absurd (both_ways _ none (subst (λ (n : ℕ). P.belongs_to n (P.event_at past event) ≡ true)
      (eqb-true st.o.handle.0 0 here) (belongs st.o refl).1))

  settled : (answer : Answer)
      → P.ends 0 (P.event_at past) (entry.Returned event answer note) ≡ false
      → P.was_removed past 0 ≡ false → Asks (summary past) (asks_last (had past 0) false)
      → Asks (step (summary past) (entry.Returned event answer note))
      (asks_last (had (entry.Returned event answer note ∷ past) 0) false)
  settled answer none lives before =
      ⊎_elim (λ here. ⊎_elim (λ timed. by_timeout here timed) (λ other. by_turn here other)
      (cases_Bool (is_timeout st.o.upcall))) by_other (cases_Bool (st.o.handle.0 == 0))
    where
      item : Item N
      item = record { upcall = st.o.upcall; moment = st.o.moment; answer = answer; note = note }

      had_mine : (st.o.handle.0 == 0) ≡ true
          → had (entry.Returned event answer note ∷ past) 0 ≡ had past 0 ++ item ∷ []
      had_mine here =
          subst (λ (n : ℕ). had (entry.Returned event answer note ∷ past) n
          ≡ had past n ++ item ∷ []) (eqb-true st.o.handle.0 0 here)
          (had_returned most past event answer note st.o legal st.found)

      by_other : (st.o.handle.0 == 0) ≡ false → Asks (step (summary past)
          (entry.Returned event answer note))
          (asks_last (had (entry.Returned event answer note ∷ past) 0) false)
      by_other other q =
          let not_mine : mine_open st.o ≡ false =
          ap (λ b. b && not (is_timeout st.o.upcall)) other in
          ⊎_elim (λ w. inl (other_keeps answer other w)) (λ o. inr (stays_open not_mine o))
          (before (sym (ap (λ (items : List (Item N)). asks_last items false)
          (had_other most past event answer note st.o 0 legal st.found other)) ∙ q))

      by_timeout : (st.o.handle.0 == 0) ≡ true → is_timeout st.o.upcall ≡ true
          → Asks (step (summary past) (entry.Returned event answer note))
          (asks_last (had (entry.Returned event answer note ∷ past) 0) false)
      by_timeout here timed q =
          let not_mine : mine_open st.o ≡ false =
          ap (λ b. b && not (is_timeout st.o.upcall)) here ∙ ap not timed in
          let same : asks_last (had (entry.Returned event answer note ∷ past) 0) false
          ≡ asks_last (had past 0) false =
          ap (λ (items : List (Item N)). asks_last items false) (had_mine here)
          ∙ (asks_more (had past 0) (item ∷ []) false
          ∙ cond-true (is_timeout st.o.upcall) (asks_last (had past 0) false) (is_again answer)
          timed) in
          ⊎_elim (λ w. inl (timeout_keeps answer here none w)) (λ o. inr (stays_open not_mine o))
          (before (sym same ∙ q))

      by_turn : (st.o.handle.0 == 0) ≡ true → is_timeout st.o.upcall ≡ false
          → Asks (step (summary past) (entry.Returned event answer note))
          (asks_last (had (entry.Returned event answer note ∷ past) 0) false)
      by_turn here other q =
          let mine : mine_open st.o ≡ true = and_from _ _ here (ap not other) in
          let same : asks_last (had (entry.Returned event answer note ∷ past) 0) false
          ≡ is_again answer =
          ap (λ (items : List (Item N)). asks_last items false) (had_mine here)
          ∙ (asks_more (had past 0) (item ∷ []) false
          ∙ cond-false (is_timeout st.o.upcall) (asks_last (had past 0) false) (is_again answer)
          other) in
          inl (waits_again answer (sym same ∙ q) mine lives)

-- ---- every entry

asks_same : {N : Type 0} (had items : List (Item N)) → items ≡ []
    → asks_last (had ++ items) false ≡ asks_last had false
asks_same had items none = ap (λ xs. asks_last (had ++ xs) false) none
    ∙ ap (λ xs. asks_last xs false) (append-nil had)

waits_on : {N : Type 0} (most : ℕ) (past : List (Entry N)) → is_legal most past ≡ true
    → list_all is_calm past ≡ true → P.was_removed past 0 ≡ false
    → Asks (summary past) (asks_last (had past 0) false)
waits_on most [] legal calm lives = λ q. absurd (false≢true q)
waits_on {N} most (e ∷ past) legal calm lives =
    let l = and_parts (F.may_follow most past e) (is_legal most past) legal in
    let c = and_parts (is_calm e) (list_all is_calm past) calm in
    let r = or_parts (P.ends 0 (P.event_at past) e) (P.was_removed past 0) lives in
    by_entry e l.0 c.0 r.0 (waits_on most past l.1 c.1 r.1) l.1 r.1
  where
    by_entry : (e : Entry N) → F.may_follow most past e ≡ true → is_calm e ≡ true
        → P.ends 0 (P.event_at past) e ≡ false
        → Asks (summary past) (asks_last (had past 0) false) → is_legal most past ≡ true
        → P.was_removed past 0 ≡ false
        → Asks (step (summary past) e) (asks_last (had (e ∷ past) 0) false)
    by_entry (entry.Opened handle mask) may is ends k legal lives q =
        k (sym (asks_same (had past 0) [] refl) ∙ q)
    by_entry (entry.Scheduled timer handle first every) may is ends k legal lives q =
        k (sym (asks_same (had past 0) [] refl) ∙ q)
    by_entry (entry.Polled moment) may is ends k legal lives q =
        k (sym (asks_same (had past 0) [] refl) ∙ q)
    by_entry (entry.Due timer) may is ends k legal lives q =
        ⊎_elim (λ w. inl (any_left mine_waiting (summary past).waiting _ w)) (λ o. inr o)
        (k (sym (asks_same (had past 0) [] refl) ∙ q))
    by_entry (entry.Ready handle kind) may is ends k legal lives q =
        ⊎_elim (λ w. inl (any_left mine_waiting (summary past).waiting _ w)) (λ o. inr o)
        (k (sym (asks_same (had past 0) [] refl) ∙ q))
    by_entry (entry.Started event) may is ends k legal lives q =
        ⊎_elim (λ w. starts past (summary past) (told most past legal) event w)
        (λ o. inr (any_left mine_open (summary past).opens _ o))
        (k (sym (asks_same (had past 0) [] refl) ∙ q))
    by_entry (entry.Returned event answer note) may is ends k legal lives q =
        settled most past event note legal (settles most past event answer note legal may) answer
        ends lives k q
    by_entry _ may is ends k legal lives q = absurd (false≢true is)

-- ---- nothing is left to start

never_suspended : {N : Type 0} (past : List (Entry N)) (x : ℕ) → list_all is_calm past ≡ true
    → P.is_suspended past x ≡ false
never_suspended [] x calm = refl
never_suspended {N} (e ∷ past) x calm =
    let c = and_parts (is_calm e) (list_all is_calm past) calm in
    by_entry e c.0 (never_suspended past x c.1)
  where
    by_entry : (e : Entry N) → is_calm e ≡ true → P.is_suspended past x ≡ false
        → P.is_suspended (e ∷ past) x ≡ false
    by_entry (entry.Suspended handle) is rest = absurd (false≢true is)
    by_entry (entry.Resumed handle) is rest = absurd (false≢true is)
    by_entry _ is rest = rest

module _ {N : Type 0} (most : ℕ) (past : List (Entry N)) (legal : is_legal most past ≡ true)
    (calm : list_all is_calm past ≡ true) (alive : P.is_alive past 0 ≡ true)
    (none_open : (summary past).opens ≡ []) (no_pick : (i : ℕ) → P.is_pick past i ≡ false) where
  is_free : S.is_free (summary past) 0 ≡ true
  is_free =
      let t = told most past legal in
      let resumed : S.is_resumed (summary past) 0 ≡ true =
      resumed_is most past (summary past) 0 legal t
      ∙ and_from _ _ alive (ap not (never_suspended past 0 calm)) in
      let idle : S.is_busy (summary past) 0 ≡ false =
      ap (list_any (λ o. o.handle.0 == 0)) none_open in
      and_from _ _ resumed (ap not idle)

  none_waits : list_any mine_waiting (summary past).waiting ≡ true → ⊥
  unfolding is_free
  none_waits h =
      let t = told most past legal in
      let r = any_listed-some mine_waiting (T.waiting_event past) (length past)
      (ap (list_any mine_waiting) (sym t.waiting) ∙ h) in
      let zero_ : r.1.handle.0 ≡ 0 =
      eqb-true r.1.handle.0 0 (and_parts (r.1.handle.0 == 0) (not (is_timeout r.1.upcall)) r.4).0 in
      let pick = pick_some past r.0 (able_from most past (summary past) r.0 r.1 legal t r.3
      (ap (S.is_free (summary past)) zero_ ∙ is_free)) in
      both_ways (P.is_pick past pick.0) (no_pick pick.0) pick.1

  -- no turn that asked for the next was the last
  pub none_asks : asks_last (had past 0) false ≡ false
  unfolding none_waits
  none_asks = ⊎_elim
      (λ (q : asks_last (had past 0) false ≡ true). absurd (⊎_elim none_waits
      (λ (o : list_any mine_open (summary past).opens ≡ true).
      false≢true (sym (ap (list_any mine_open) none_open) ∙ o))
      (waits_on most past legal calm lives q)))
      (λ (q : asks_last (had past 0) false ≡ false). q)
      (cases_Bool (asks_last (had past 0) false))
    where
      lives : P.was_removed past 0 ≡ false
      lives = not-true (P.was_removed past 0)
          (and_parts (P.was_opened past 0) (not (P.was_removed past 0)) alive).1
