-- No handle waits for its close, and no deadline is reached: what `Returned`, `Removed` and
-- `Closed` do to that.
use Rattle.std.proofs.Common.{ℕ, ◌≡◌, ◌==◌, Bool, true, false, not, ◌&&◌, ◌||◌, List, [], ◌∷◌, map}
use Rattle.std.proofs.Common.{refl, sym, ap, ◌∙◌, subst, cond, Option, Some, option_map, ⊎_elim}
use Rattle.std.proofs.lemmas.Bool.{false≢true, and_parts, and_from, and_left, or_parts, or_from}
use Rattle.std.proofs.lemmas.Bool.{or_left, or_right, or_cases, both_ways, cases_Bool, eqb-true}
use Rattle.std.proofs.lemmas.Bool.{eq-eqb, not-true}
use Rattle.std.specs.List.{list_any, filter}
use Rattle.std.specs.Prelude.{nat_le}
use Rattle.reactor_summary.specs.ev_types.specs.declared.upcall.Handle.{Handle}
use Rattle.reactor_summary.specs.ev_types.specs.declared.upcall.Answer.{Answer}
use Rattle.reactor_summary.specs.ev_types.specs.declared.upcall.Upcall.TheVariants.{Timeout}
use Rattle.reactor_summary.specs.ev_types.specs.declared.upcall.Answer.TheVariants.{Keep, Again}
use Rattle.reactor_summary.specs.ev_types.specs.declared.upcall.Answer.TheVariants.{Close}
use Rattle.reactor_model.specs.reactor_journal.specs.Event.{Event}
use Rattle.reactor_model.specs.reactor_journal.specs.declared.entry.Entry.{Entry}
use Rattle.reactor_model.specs.reactor_journal.specs.declared.entry.Entry.TheVariants.{Returned}
use Rattle.reactor_model.specs.reactor_journal.specs.declared.entry.Entry.TheVariants.{Removed}
use Rattle.reactor_model.specs.reactor_journal.specs.declared.entry.Entry.TheVariants.{Closed}
use Rattle.reactor_model.specs.reactor_journal.specs.Past as P
use Rattle.reactor_model.specs.reactor_journal.specs.Past.{past_of}
use Rattle.reactor_model.specs.reactor_journal.specs.Follow.{is_legal}
use Rattle.reactor_model.specs.reactor_journal.proofs.Armed.{filtered_any, owner_any}
use Rattle.reactor_summary.specs.declared.parts.LiveHandle.{LiveHandle}
use Rattle.reactor_summary.specs.declared.parts.OpenEvent.{OpenEvent}
use Rattle.reactor_summary.specs.Summary as S
use Rattle.reactor_summary.specs.Summary.{Summary, summary, step, is_busy, is_alive, some_wait}
use Rattle.reactor_summary.specs.Summary.{is_overdue, waits_for_closed, with_end, of_handle}
use Rattle.reactor_summary.proofs.Told.{told}
use Rattle.reactor_summary.proofs.Reading.{live_test, alive_is, overdue_is}
use Rattle.reactor_core.specs.Handlers.{is_live}
use Rattle.reactor_core.specs.Stands.{IsSettled, IsQuiet}
use Rattle.reactor_core.proofs.Ends.{eqb_turned}
use Rattle.reactor_core.proofs.Dispatch.{busy_other}

not_from : (b : Bool) → (b ≡ true → ⊥) → b ≡ false
not_from b f = ⊎_elim (λ (t : b ≡ true). absurd (f t)) (λ (n : b ≡ false). n) (cases_Bool b)

-- ---- handle by handle

some_at : (busy : ℕ → Bool) (hs : List LiveHandle)
    → list_any (λ (h : LiveHandle). not h.alive && not (busy h.handle.0)) hs ≡ true
    → (y : ℕ) × (list_any (λ (h : LiveHandle). h.handle.0 == y && not h.alive) hs ≡ true)
    × (busy y ≡ false)
some_at busy [] h = absurd (false≢true h)
some_at busy (a ∷ hs) h =
    ⊎_elim
    (λ (k : (not a.alive && not (busy a.handle.0)) ≡ true).
    let p : (not a.alive ≡ true) × (not (busy a.handle.0) ≡ true) =
    and_parts (not a.alive) (not (busy a.handle.0)) k in (
      a.handle.0,
      or_left (a.handle.0 == a.handle.0 && not a.alive) _
          (and_from (a.handle.0 == a.handle.0) (not a.alive) (eq-eqb a.handle.0 a.handle.0 refl)
          p.0),
      not-true _ p.1,
    ))
    (λ (k : list_any (λ (h : LiveHandle). not h.alive && not (busy h.handle.0)) hs ≡ true).
    let r : (y : ℕ) × (list_any (λ (h : LiveHandle). h.handle.0 == y && not h.alive) hs ≡ true)
    × (busy y ≡ false) = some_at busy hs k in
    (r.0, or_right (a.handle.0 == r.0 && not a.alive) _ r.1, r.2))
    (or_cases (not a.alive && not (busy a.handle.0)) _ h)

at_some : (busy : ℕ → Bool) (y : ℕ) (hs : List LiveHandle)
    → list_any (λ (h : LiveHandle). h.handle.0 == y && not h.alive) hs ≡ true → busy y ≡ false
    → list_any (λ (h : LiveHandle). not h.alive && not (busy h.handle.0)) hs ≡ true
at_some busy y [] h idle = h
at_some busy y (a ∷ hs) h idle =
    ⊎_elim
    (λ (k : (a.handle.0 == y && not a.alive) ≡ true).
    let p : ((a.handle.0 == y) ≡ true) × (not a.alive ≡ true) =
    and_parts (a.handle.0 == y) (not a.alive) k in
    or_left (not a.alive && not (busy a.handle.0)) _
    (and_from (not a.alive) (not (busy a.handle.0)) p.1
    (ap (λ (x : ℕ). not (busy x)) (eqb-true a.handle.0 y p.0) ∙ ap not idle)))
    (λ (k : list_any (λ (h : LiveHandle). h.handle.0 == y && not h.alive) hs ≡ true).
    or_right (not a.alive && not (busy a.handle.0)) _ (at_some busy y hs k idle))
    (or_cases (a.handle.0 == y && not a.alive) _ h)

pub none_waits_by : (s : Summary) → ((y : ℕ) → waits_for_closed s y ≡ false) → some_wait s ≡ false
none_waits_by s f = not_from _ (λ h.
    let r : (y : ℕ) × (list_any (λ (h : LiveHandle). h.handle.0 == y && not h.alive) s.handles
    ≡ true) × (is_busy s y ≡ false) = some_at (is_busy s) s.handles h in
    both_ways (waits_for_closed s r.0) (f r.0) (and_from _ (not (is_busy s r.0)) r.1 (ap not r.2)))

pub none_waits_at : (s : Summary) (y : ℕ) → some_wait s ≡ false → waits_for_closed s y ≡ false
none_waits_at s y h = not_from _ (λ k.
    let p : (list_any (λ (h : LiveHandle). h.handle.0 == y && not h.alive) s.handles ≡ true)
    × (not (is_busy s y) ≡ true) = and_parts _ _ k in
    both_ways (some_wait s) h (at_some (is_busy s) y s.handles p.0 (not-true _ p.1)))

-- ---- settled but for one handle, whose handler is in hand

pub record IsSettledBut (x : ℕ) (s : Summary) : Type 0 where
  pub none_waits : (y : ℕ) → (x == y) ≡ false → waits_for_closed s y ≡ false
  pub none_due : is_overdue s ≡ false

-- a handle that is not alive and not closed, and is not busy, waits
pub waits_now : {N : Type 0} (most : ℕ) (past : List (Entry N)) (x : ℕ) → is_legal most past ≡ true
    → is_live (summary past) x ≡ true → is_alive (summary past) x ≡ false
    → is_busy (summary past) x ≡ false
    → waits_for_closed (summary past) x ≡ true
waits_now most past x legal live dead idle =
    and_from _ (not (is_busy (summary past) x)) (split (summary past).handles live dead)
    (ap not idle)
  where
    split : (hs : List LiveHandle) → list_any (λ (h : LiveHandle). h.handle.0 == x) hs ≡ true
        → list_any (λ (h : LiveHandle). h.handle.0 == x && h.alive) hs ≡ false
        → list_any (λ (h : LiveHandle). h.handle.0 == x && not h.alive) hs ≡ true
    split [] l d = l
    split (a ∷ hs) l d =
        let p : ((a.handle.0 == x && a.alive) ≡ false)
        × (list_any (λ (h : LiveHandle). h.handle.0 == x && h.alive) hs ≡ false) =
        or_parts _ _ d in
        ⊎_elim
        (λ (k : (a.handle.0 == x) ≡ true).
        or_left (a.handle.0 == x && not a.alive) _
        (and_from (a.handle.0 == x) (not a.alive) k
        (ap not (sym (ap (λ b. b && a.alive) k) ∙ p.0))))
        (λ (k : list_any (λ (h : LiveHandle). h.handle.0 == x) hs ≡ true).
        or_right (a.handle.0 == x && not a.alive) _ (split hs k p.1))
        (or_cases (a.handle.0 == x) _ l)

-- one that is alive does not wait
pub alive_waits_not : {N : Type 0} (most : ℕ) (past : List (Entry N)) (x : ℕ)
    → is_legal most past ≡ true → is_alive (summary past) x ≡ true
    → waits_for_closed (summary past) x ≡ false
alive_waits_not most past x legal a =
    let alive : P.is_alive past x ≡ true =
    sym (alive_is most past (summary past) x legal (told most past legal)) ∙ a in
    and_left _ (not (is_busy (summary past) x))
    (live_test most past (summary past) (λ (h : LiveHandle). not h.alive) x legal
    (told most past legal)
    ∙ none (P.was_opened past x) (P.was_closed past x) (P.is_alive past x) alive)
  where
    none : (o c a : Bool) → a ≡ true → (o && (not c && not a)) ≡ false
    none false c a q = refl
    none true true a q = refl
    none true false a q = ap not q

-- a busy one does not wait
pub busy_waits_not : (s : Summary) (x : ℕ) → is_busy s x ≡ true → waits_for_closed s x ≡ false
busy_waits_not s x b = and_none (list_any (λ (h : LiveHandle). h.handle.0 == x && not h.alive)
    s.handles) (ap not b)
  where
    and_none : (a : Bool) → {b : Bool} → b ≡ false → (a && b) ≡ false
    and_none true q = q
    and_none false q = refl

pub settled_at_last : (x : ℕ) (s : Summary) → IsSettledBut x s → waits_for_closed s x ≡ false
    → (s.ended ≡ true → list_any (λ (h : LiveHandle). h.alive) s.handles ≡ false) → IsSettled s
settled_at_last x s b w alive = record {
  none_waits = none_waits_by s (λ y.
      ⊎_elim (λ (q : (x == y) ≡ true). subst (λ (k : ℕ). waits_for_closed s k ≡ false)
      (eqb-true x y q) w) (λ (q : (x == y) ≡ false). b.none_waits y q) (cases_Bool (x == y)));
  none_due = b.none_due;
  none_alive = alive;
}

-- ---- the three entries

-- a life ends: the other handles stay as they are
with_end_other : (event : Event) (y : ℕ) (h : LiveHandle) → (event.handle == y) ≡ false
    → ((with_end (Some event) h).handle.0 == y && not (with_end (Some event) h).alive)
    ≡ (h.handle.0 == y && not h.alive)
with_end_other event y h n = by_cases (event.handle == h.handle.0) refl
  where
    by_cases : (b : Bool) → (event.handle == h.handle.0) ≡ b
        → ((cond b (record h { alive = false }) h).handle.0 == y
        && not (cond b (record h { alive = false }) h).alive) ≡ (h.handle.0 == y && not h.alive)
    by_cases true q =
        let other : (h.handle.0 == y) ≡ false =
        subst (λ (k : ℕ). (k == y) ≡ false) (eqb-true event.handle h.handle.0 q) n in
        ap (λ b. b && not false) other ∙ sym (ap (λ b. b && not h.alive) other)
    by_cases false q = refl

ended_other : (event : Event) (y : ℕ) (hs : List LiveHandle) → (event.handle == y) ≡ false
    → list_any (λ (h : LiveHandle). h.handle.0 == y && not h.alive) (map (with_end (Some event)) hs)
    ≡ list_any (λ (h : LiveHandle). h.handle.0 == y && not h.alive) hs
ended_other event y [] n = refl
ended_other event y (h ∷ hs) n =
    ap (λ b. b || list_any (λ (h : LiveHandle). h.handle.0 == y && not h.alive)
    (map (with_end (Some event)) hs)) (with_end_other event y h n)
    ∙ ap (λ b. (h.handle.0 == y && not h.alive) || b) (ended_other event y hs n)

event_is : {N : Type 0} (past : List (Entry N)) (i : ℕ) (o : OpenEvent)
    → S.open_event (summary past) i ≡ Some o
    → ◌≡◌ {A = Option Event} (S.event_open (summary past) i) (Some (S.event_of o))
event_is past i o h = ap (option_map S.event_of) h

-- a deadline that is reached is one of those before
reached_owner : {N : Type 0} (past : List (Entry N)) (event : Option Event)
    → P.is_overdue past ≡ false → list_any (λ (d : ℕ × ℕ). nat_le d.0 (P.now past))
    (P.without_owner past event (P.armed past)) ≡ false
reached_owner past event h = not_from _
    (λ k. both_ways _ h (owner_any past (λ (d : ℕ × ℕ). nat_le d.0 (P.now past)) event
    (P.armed past) k))

overdue_by : {N : Type 0} (most : ℕ) (e : Entry N) (past : List (Entry N))
    → is_legal most (e ∷ past) ≡ true → is_overdue (summary past) ≡ false
    → (P.is_overdue past ≡ false → P.is_overdue (e ∷ past) ≡ false)
    → is_overdue (summary (e ∷ past)) ≡ false
overdue_by most e past legal h f =
    let before : is_legal most past ≡ true = (and_parts _ _ legal).1 in
    overdue_is most (e ∷ past) (summary (e ∷ past)) legal (told most (e ∷ past) legal)
    ∙ f (sym (overdue_is most past (summary past) before (told most past before)) ∙ h)

due_returned : {N : Type 0} (past : List (Entry N)) (event : ℕ) (answer : Answer) (note : N)
    → P.is_overdue past ≡ false → P.is_overdue (Returned event answer note ∷ past) ≡ false
due_returned past event Keep note h = h
due_returned past event Again note h = h
due_returned past event Close note h = reached_owner past (P.event_at past event) h

waits_returned : {N : Type 0} (most : ℕ) (past : List (Entry N)) (event : ℕ) (answer : Answer)
    (note : N) (o : OpenEvent) (y : ℕ) → is_legal most past ≡ true
    → S.open_event (summary past) event ≡ Some o
    → (o.handle.0 == y) ≡ false → waits_for_closed (summary (Returned event answer note ∷ past)) y
    ≡ waits_for_closed (summary past) y
waits_returned {N} most past event answer note o y legal found n =
    ap (λ b. list_any (λ (h : LiveHandle). h.handle.0 == y && not h.alive)
    (summary (Returned event answer note ∷ past)).handles && not b)
    (busy_other most past event answer note o y legal found n)
    ∙ ap (λ b. b && not (is_busy (summary past) y)) (by_answer answer)
  where
    by_answer : (a : Answer) → list_any (λ (h : LiveHandle). h.handle.0 == y && not h.alive)
        (S.handles_after (summary past) (Returned event a note))
        ≡ list_any (λ (h : LiveHandle). h.handle.0 == y && not h.alive) (summary past).handles
    by_answer Keep = refl
    by_answer Again = refl
    by_answer Close =
        ap (λ ev. list_any (λ (h : LiveHandle). h.handle.0 == y && not h.alive)
        (map (with_end ev) (summary past).handles)) (event_is past event o found)
        ∙ ended_other (S.event_of o) y (summary past).handles n

pub settled_returned : {N : Type 0} (most : ℕ) (past : List (Entry N)) (event : ℕ) (answer : Answer)
    (note : N) (o : OpenEvent) → is_legal most (Returned event answer note ∷ past) ≡ true
    → S.open_event (summary past) event ≡ Some o
    → IsSettled (summary past) → IsSettledBut o.handle.0
    (summary (Returned event answer note ∷ past))
settled_returned most past event answer note o legal found s = record {
  none_waits = λ y n. waits_returned most past event answer note o y (and_parts _ _ legal).1 found n
      ∙ none_waits_at (summary past) y s.none_waits;
  none_due = overdue_by most (Returned event answer note) past legal s.none_due
      (due_returned past event answer note);
}

pub settled_removed : {N : Type 0} (most : ℕ) (past : List (Entry N)) (handle : Handle)
    → is_legal most (Removed handle ∷ past) ≡ true
    → some_wait (summary past) ≡ false → is_overdue (summary past) ≡ false
    → IsSettledBut handle.0 (summary (Removed handle ∷ past))
settled_removed {N} most past handle legal waits due = record {
  none_waits = λ y n. ap (λ b. b && not (is_busy (summary past) y))
      (ended_other (record { handle = handle.0; upcall = Timeout 0 }) y (summary past).handles n)
      ∙ none_waits_at (summary past) y waits;
  none_due = overdue_by most (Removed handle) past legal due
      (λ h. not_from _ (λ k. both_ways _ h
      (filtered_any (λ (d : ℕ × ℕ). nat_le d.0 (P.now past))
      (λ (d : ℕ × ℕ). not (P.is_timer_of handle.0 (P.timer_of past d.1))) (P.armed past) k)));
}

none_left : (x : ℕ) (hs : List LiveHandle)
    → list_any (λ (h : LiveHandle). h.handle.0 == x && not h.alive)
    (filter (λ (h : LiveHandle). not (x == h.handle.0)) hs) ≡ false
none_left x [] = refl
none_left x (h ∷ hs) = by_cases (x == h.handle.0) refl (none_left x hs)
  where
    by_cases : (b : Bool) → (x == h.handle.0) ≡ b
        → list_any (λ (h : LiveHandle). h.handle.0 == x && not h.alive)
        (filter (λ (h : LiveHandle). not (x == h.handle.0)) hs) ≡ false
        → list_any (λ (h : LiveHandle). h.handle.0 == x && not h.alive)
        (cond (not b) (h ∷ filter (λ (h : LiveHandle). not (x == h.handle.0)) hs)
        (filter (λ (h : LiveHandle). not (x == h.handle.0)) hs)) ≡ false
    by_cases true q rec = rec
    by_cases false q rec = or_from _ _
        (and_left (h.handle.0 == x) (not h.alive) (eqb_turned h.handle.0 x ∙ q)) rec

others_left : (x y : ℕ) (hs : List LiveHandle)
    → list_any (λ (h : LiveHandle). h.handle.0 == y && not h.alive) hs ≡ false
    → list_any (λ (h : LiveHandle). h.handle.0 == y && not h.alive)
    (filter (λ (h : LiveHandle). not (x == h.handle.0)) hs) ≡ false
others_left x y hs h = not_from _ (λ k.
    both_ways _ h (filtered_any (λ (a : LiveHandle). a.handle.0 == y && not a.alive)
    (λ (a : LiveHandle). not (x == a.handle.0)) hs k))

pub quiet_closed : {N : Type 0} (past : List (Entry N)) (handle : Handle) (note : N)
    → IsSettledBut handle.0 (summary past) → IsQuiet (summary (Closed handle note ∷ past))
quiet_closed past handle note b = record {
  none_waits = none_waits_by (summary (Closed handle note ∷ past)) (λ y. ⊎_elim
      (λ (q : (handle.0 == y) ≡ true). subst
      (λ (k : ℕ). waits_for_closed (summary (Closed handle note ∷ past)) k ≡ false)
      (eqb-true handle.0 y q) (and_left _ (not (is_busy (summary past) handle.0))
      (none_left handle.0 (summary past).handles)))
      (λ (q : (handle.0 == y) ≡ false). not_from _ (λ k.
      let p : (list_any (λ (h : LiveHandle). h.handle.0 == y && not h.alive)
      (filter (λ (h : LiveHandle). not (handle.0 == h.handle.0)) (summary past).handles) ≡ true)
      × (not (is_busy (summary past) y) ≡ true) = and_parts _ _ k in
      let old : list_any (λ (h : LiveHandle). h.handle.0 == y && not h.alive) (summary past).handles
      ≡ true = filtered_any (λ (a : LiveHandle). a.handle.0 == y && not a.alive)
      (λ (a : LiveHandle). not (handle.0 == a.handle.0)) (summary past).handles p.0 in
      both_ways (waits_for_closed (summary past) y) (b.none_waits y q)
      (and_from _ (not (is_busy (summary past) y)) old p.1)))
      (cases_Bool (handle.0 == y)));
  none_due = b.none_due;
}

pub settled_closed : {N : Type 0} (past : List (Entry N)) (handle : Handle) (note : N)
    → IsSettledBut handle.0 (summary past)
    → ((summary past).ended ≡ true → list_any (λ (h : LiveHandle). h.alive) (summary past).handles
    ≡ false) → IsSettled (summary (Closed handle note ∷ past))
settled_closed past handle note b alive =
    let quiet : IsQuiet (summary (Closed handle note ∷ past)) = quiet_closed past handle note b in
    record {
      none_waits = quiet.none_waits;
      none_due = quiet.none_due;
      none_alive = λ e. not_from _ (λ k.
          both_ways _ (alive e) (filtered_any (λ (a : LiveHandle). a.alive)
          (λ (a : LiveHandle). not (handle.0 == a.handle.0)) (summary past).handles k));
    }

-- ---- no handle comes alive

ended_alive : (event : Option Event) (hs : List LiveHandle)
    → list_any (λ (h : LiveHandle). h.alive) hs ≡ false
    → list_any (λ (h : LiveHandle). h.alive) (map (with_end event) hs) ≡ false
ended_alive event [] h = refl
ended_alive event (a ∷ hs) h =
    let p : (a.alive ≡ false) × (list_any (λ (h : LiveHandle). h.alive) hs ≡ false) =
    or_parts _ _ h in
    or_from _ _ (first (P.belongs_to a.handle.0 event) p.0) (ended_alive event hs p.1)
  where
    first : (b : Bool) → a.alive ≡ false → (cond b (record a { alive = false }) a).alive ≡ false
    first true q = refl
    first false q = q

pub alive_returned : {N : Type 0} (s : Summary) (event : ℕ) (answer : Answer) (note : N)
    → list_any (λ (h : LiveHandle). h.alive) s.handles ≡ false
    → list_any (λ (h : LiveHandle). h.alive) (step s (Returned event answer note)).handles ≡ false
alive_returned s event Keep note h = h
alive_returned s event Again note h = h
alive_returned s event Close note h = ended_alive (S.event_open s event) s.handles h

pub alive_removed : (s : Summary) (handle : Handle)
    → list_any (λ (h : LiveHandle). h.alive) s.handles ≡ false
    → list_any (λ (h : LiveHandle). h.alive) (map (with_end (of_handle handle)) s.handles) ≡ false
alive_removed s handle h = ended_alive (of_handle handle) s.handles h
