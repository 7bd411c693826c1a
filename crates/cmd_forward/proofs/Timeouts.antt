-- That a timer's upcall is started no earlier than the timer was set for.
use Rattle.std.proofs.Common.{ℕ, ◌≡◌, ◌≤◌, ◌+◌, ◌-◌, ◌*◌, ◌/◌, ◌==◌, Bool, true, false, not}
use Rattle.std.proofs.Common.{List, [], ◌∷◌, ◌++◌, refl, sym, subst, arith, Option, Some}
use Rattle.std.proofs.Common.{None, cond, nat_le}
use Rattle.std.proofs.lemmas.Bool.{false≢true, and_parts, cond-true}
use Rattle.std.proofs.lemmas.Bool.{leb-true}
use Rattle.std.proofs.lemmas.List.{append-nil, append_assoc}
use Rattle.std.specs.List.{list_all, find, filter}
use Rattle.ev_base.specs.ev_types.specs.declared.upcall.Answer.TheVariants.{Keep, Again, Close}
use Rattle.ev_base.specs.ev_types.specs.declared.upcall.Kind.{Kind}
use Rattle.ev_base.specs.ev_types.specs.declared.upcall.Kind.TheVariants as kind
use Rattle.ev_base.specs.ev_types.specs.declared.upcall.Handle.{Handle}
use Rattle.reactor_model.specs.Turns.{IsTimeout}
use Rattle.reactor_model.specs.reactor_journal.specs.Event.{Event}
use Rattle.reactor_model.specs.reactor_journal.specs.declared.entry.Entry.{Entry}
use Rattle.reactor_model.specs.reactor_journal.specs.declared.entry.Entry.TheVariants as entry
use Rattle.reactor_model.specs.reactor_journal.specs.Past.{past_of, upcall_of, next_deadline}
use Rattle.reactor_model.specs.reactor_journal.specs.Past as P
use Rattle.reactor_model.specs.reactor_journal.specs.Follow.{Legal}
use Rattle.reactor_model.specs.reactor_journal.proofs.Turning.{past_of-more, Legal-front}
use Rattle.reactor_model.specs.reactor_journal.proofs.Turning.{Legal-last}
use Rattle.reactor_core.specs.reactor_summary.specs.Summary as S
use Rattle.reactor_core.specs.reactor_summary.specs.Summary.{Summary, summary, step}
use Rattle.reactor_core.specs.reactor_summary.specs.Rules as R
use Rattle.reactor_core.specs.reactor_summary.specs.Tells.{Each}
use Rattle.reactor_core.specs.reactor_summary.specs.declared.parts.ArmedTimer.{ArmedTimer}
use Rattle.reactor_core.specs.reactor_summary.specs.declared.parts.DueTimer.{DueTimer}
use Rattle.reactor_core.specs.reactor_summary.specs.declared.parts.OpenEvent.{OpenEvent}
use Rattle.reactor_core.specs.reactor_summary.specs.declared.parts.WaitingEvent.{WaitingEvent}
use Rattle.reactor_core.specs.reactor_summary.proofs.Lists.{each_append, each_filter, each_same}
use Rattle.core_loop.proofs.Keeping.{sum}
use Rattle.connector_run.specs.Phases.{first_entries, is_served}
use Rattle.connector_run.proofs.Waits.{each_found, may_fit}

-- ---- what is late enough

abbrev IsDueFrom : ℕ → Option DueTimer → Type 0
IsDueFrom wait None = Unit {0}
IsDueFrom wait (Some due) = wait ≤ due.deadline

abbrev WaitsFrom : ℕ → ℕ → WaitingEvent → Type 0
WaitsFrom wait moment w = (IsTimeout w.upcall → wait ≤ moment) × IsDueFrom wait w.due

abbrev OpenFrom : ℕ → ℕ → OpenEvent → Type 0
OpenFrom wait moment o = IsTimeout o.upcall → (wait ≤ o.moment) × (o.moment ≤ moment)

abbrev ArmedFrom : ℕ → ArmedTimer → Type 0
ArmedFrom wait a = wait ≤ a.deadline

-- each armed timer is set for this moment or later, and no timeout came before it
record ComesLate (wait : ℕ) (s : Summary) : Type 0 where
  armed : Each (ArmedFrom wait) s.armed
  waiting : Each (WaitsFrom wait s.moment) s.waiting
  opens : Each (OpenFrom wait s.moment) s.opens

-- ---- lists

each_with_timer : (wait : ℕ) (a : ArmedTimer) (armed : List ArmedTimer) → ArmedFrom wait a
    → Each (ArmedFrom wait) armed → Each (ArmedFrom wait) (S.with_timer a armed)
each_with_timer wait a [] here e = (here, tt)
each_with_timer wait a (b ∷ rest) here e =
    go (each_with_timer wait a rest here e.1) (S.comes_before a b)
  where
    go : Each (ArmedFrom wait) (S.with_timer a rest) → (c : Bool)
        → Each (ArmedFrom wait) (cond c (a ∷ b ∷ rest) (b ∷ S.with_timer a rest))
    go more true = (here, (e.0, e.1))
    go more false = (e.0, more)

-- ---- one more entry

record IsReached (moment t : ℕ) (armed : List ArmedTimer) : Type 0 where
  timer : ArmedTimer
  found : find (λ a. a.timer == t) armed ≡ Some timer
  reached : timer.deadline ≤ moment

first_reached : (moment t : ℕ) (armed : List ArmedTimer) → S.is_first moment t armed ≡ true
    → IsReached moment t armed
first_reached moment t [] q = absurd (false≢true q)
first_reached moment t (a ∷ rest) q =
    let p = and_parts (a.timer == t) (nat_le a.deadline moment) q in
    record {
      timer = a;
      found = cond-true (a.timer == t) (Some a) (find (λ b. b.timer == t) rest) p.0;
      reached = leb-true a.deadline moment p.1;
    }

later_deadline : (wait d x : ℕ) → wait ≤ d → wait ≤ d + x
later_deadline wait d x le = omega (arith, le)

module _ (wait : ℕ) (s : Summary) (k : ComesLate wait s) where
  polled : (moment : ℕ) → s.moment ≤ moment → Each (WaitsFrom wait moment) s.waiting
      × Each (OpenFrom wait moment) s.opens
  polled moment le = (
    each_same (WaitsFrom wait s.moment) (WaitsFrom wait moment) s.waiting
        (λ w p. (λ timed. later (p.0 timed), p.1)) k.waiting,
    each_same (OpenFrom wait s.moment) (OpenFrom wait moment) s.opens
        (λ o p timed. ((p timed).0, below (p timed).1)) k.opens,
  )
    where
      later : wait ≤ s.moment → wait ≤ moment
      later first = omega (arith, first, le)

      below : {m : ℕ} → m ≤ s.moment → m ≤ moment
      below first = omega (arith, first, le)

  due : (t : ℕ) → S.is_first_due s t ≡ true
      → Each (WaitsFrom wait s.moment) (S.waiting_due s.entries (S.armed_timer s t))
  due t first =
      let r = first_reached s.moment t s.armed first in
      let late = each_found (ArmedFrom wait) (λ (a : ArmedTimer). a.timer == t) s.armed r.timer
      k.armed r.found in
      subst (λ (o : Option ArmedTimer). Each (WaitsFrom wait s.moment)
      (S.waiting_due s.entries o)) (sym r.found)
      (((λ _. reach late r.reached), late), tt)
    where
      reach : {d : ℕ} → wait ≤ d → d ≤ s.moment → wait ≤ s.moment
      reach a b = omega (arith, a, b)

  ready : (handle : Handle) (kind : Kind) → Each (WaitsFrom wait s.moment) (record {
    event = s.entries;
    handle = handle;
    upcall = upcall_of kind;
    due = None;
  } ∷ [])
  ready handle kind.Read = ((λ timed. absurd timed, tt), tt)
  ready handle kind.Write = ((λ timed. absurd timed, tt), tt)
  ready handle kind.Except = ((λ timed. absurd timed, tt), tt)

  next : (handle : Handle) (due : Option DueTimer) → IsDueFrom wait due
      → Each (ArmedFrom wait) (S.with_next s.moment handle due s.armed)
  next handle None from = k.armed
  next handle (Some due) from = go (due.every == 0)
    where
      go : (b : Bool) → Each (ArmedFrom wait) (cond b s.armed (S.with_timer (record {
        deadline = next_deadline due.deadline due.every s.moment;
        timer = due.timer;
        handle = handle;
        every = due.every;
      }) s.armed))
      go true = k.armed
      go false = each_with_timer wait _ s.armed
          (later_deadline wait due.deadline
          (((s.moment - due.deadline) / due.every + 1) * due.every)
          from) k.armed

  started : (o : Option WaitingEvent) (event : ℕ) → S.waiting_event s event ≡ o
      → Each (OpenFrom wait s.moment) (S.opens_from s.moment o)
      × Each (ArmedFrom wait) (S.with_started s.moment o s.armed)
  started None event q = (tt, k.armed)
  started (Some w) event q =
      let late = each_found (WaitsFrom wait s.moment) (λ (v : WaitingEvent). v.event == event)
      s.waiting w k.waiting q in
      (((λ timed. (late.0 timed, omega arith)), tt), next w.handle w.due late.1)

  again : (o : Option OpenEvent) (event : ℕ) → S.open_event s event ≡ o
      → Each (WaitsFrom wait s.moment) (S.waiting_again s o)
  again None event q = tt
  again (Some o) event q = go (S.is_alive s o.handle.0)
    where
      late : OpenFrom wait s.moment o
      late = each_found (OpenFrom wait s.moment) (λ (v : OpenEvent). v.event == event) s.opens o
          k.opens q

      reach : (wait ≤ o.moment) × (o.moment ≤ s.moment) → wait ≤ s.moment
      reach p = omega (arith, p.0, p.1)

      go : (b : Bool) → Each (WaitsFrom wait s.moment) (cond b (record {
        event = s.entries;
        handle = o.handle;
        upcall = o.upcall;
        due = None;
      } ∷ []) [])
      go true = ((λ timed. reach (late timed), tt), tt)
      go false = tt

  closed : (event : Option Event) → Each (ArmedFrom wait) (S.without_timers_of event s.armed)
  closed None = k.armed
  closed (Some event) = each_filter (ArmedFrom wait) (ArmedFrom wait)
      (λ (a : ArmedTimer). not (a.handle.0 == event.handle)) s.armed (λ a p t. p) k.armed

  fewer_opens : (p : OpenEvent → Bool) → Each (OpenFrom wait s.moment) (filter p s.opens)
  fewer_opens p = each_filter (OpenFrom wait s.moment) (OpenFrom wait s.moment) p s.opens
      (λ a h t. h) k.opens

  fewer_waiting : (p : WaitingEvent → Bool) → Each (WaitsFrom wait s.moment) (filter p s.waiting)
  fewer_waiting p = each_filter (WaitsFrom wait s.moment) (WaitsFrom wait s.moment) p s.waiting
      (λ a h t. h) k.waiting

late_step : {N : Type 0} (wait most : ℕ) (after_due after_ready : Bool) (s : Summary) (e : Entry N)
    → is_served e ≡ true → R.fits most after_due after_ready s e ≡ true → ComesLate wait s
    → ComesLate wait (step s e)
late_step wait most d r s (entry.Polled moment) kind fits k =
    let p = polled wait s k moment (leb-true s.moment moment (and_parts _ _ fits).0) in
    record { armed = k.armed; waiting = p.0; opens = p.1 }
late_step wait most d r s (entry.Due timer) kind fits k = record {
  armed = each_filter (ArmedFrom wait) (ArmedFrom wait) (λ (a : ArmedTimer). not (a.timer == timer))
      s.armed (λ a p t. p) k.armed;
  waiting = each_append (WaitsFrom wait s.moment) s.waiting _ k.waiting
      (due wait s k timer (and_parts _ _ fits).1);
  opens = k.opens;
}
late_step wait most d r s (entry.Ready handle kind) is fits k = record {
  armed = k.armed;
  waiting = each_append (WaitsFrom wait s.moment) s.waiting _ k.waiting
      (ready wait s k handle kind);
  opens = k.opens;
}
late_step wait most d r s (entry.Started event) kind fits k =
    let p = started wait s k (S.waiting_event s event) event refl in
    record {
      armed = p.1;
      waiting = fewer_waiting wait s k (λ w. not (event == w.event));
      opens = each_append (OpenFrom wait s.moment) s.opens _ k.opens p.0;
    }
late_step wait most d r s (entry.Returned event Keep note) kind fits k = record {
  armed = k.armed;
  waiting = k.waiting;
  opens = fewer_opens wait s k (λ o. not (event == o.event));
}
late_step wait most d r s (entry.Returned event Again note) kind fits k = record {
  armed = k.armed;
  waiting = each_append (WaitsFrom wait s.moment) s.waiting _ k.waiting
      (again wait s k (S.open_event s event) event refl);
  opens = fewer_opens wait s k (λ o. not (event == o.event));
}
late_step wait most d r s (entry.Returned event Close note) kind fits k = record {
  armed = closed wait s k (S.event_open s event);
  waiting = fewer_waiting wait s k (λ w. not (P.belongs_to w.handle.0 (S.event_open s event)));
  opens = fewer_opens wait s k (λ o. not (event == o.event));
}
late_step wait most d r s _ kind fits k = absurd (false≢true kind)

-- ---- a history

late_one : {N : Type 0} (wait most : ℕ) (h : List (Entry N)) (e : Entry N) → is_served e ≡ true
    → Legal (h ++ e ∷ []) most → ComesLate wait (sum h) → ComesLate wait (sum (h ++ e ∷ []))
late_one wait most h e kind legal k =
    let last = Legal-last h e most legal in
    subst (λ (past : List (Entry _)). ComesLate wait (summary past)) (sym (past_of-more h e))
    (late_step wait most _ _ (sum h) e kind (may_fit most (past_of h) e last.1 last.0) k)

late_all : {N : Type 0} (wait most : ℕ) (h es : List (Entry N)) → list_all is_served es ≡ true
    → Legal (h ++ es) most → ComesLate wait (sum h) → ComesLate wait (sum (h ++ es))
late_all {N} wait most h [] kinds legal k =
    subst (λ (g : List (Entry N)). ComesLate wait (sum g)) (sym (append-nil h)) k
late_all {N} wait most h (e ∷ es) kinds legal k =
    let parts = and_parts (is_served e) (list_all is_served es) kinds in
    let same : (h ++ e ∷ []) ++ es ≡ h ++ e ∷ es = append_assoc h (e ∷ []) es in
    let all : Legal ((h ++ e ∷ []) ++ es) most =
    subst (λ (g : List (Entry N)). Legal g most) (sym same) legal in
    subst (λ (g : List (Entry N)). ComesLate wait (sum g)) same
    (late_all wait most (h ++ e ∷ []) es parts.1 all
    (late_one wait most h e parts.0 (Legal-front (h ++ e ∷ []) es most all) k))

late_first : (N : Type 0) (wait : ℕ) → ComesLate wait (sum (first_entries {N = N} wait))
late_first N wait = record { armed = (omega arith, tt); waiting = tt; opens = tt }

-- an open timeout was started at this moment or later, and at the last one at most
pub comes_late : {N : Type 0} (wait most : ℕ) (served : List (Entry N)) (event : ℕ) (o : OpenEvent)
    → list_all is_served served ≡ true → Legal (first_entries wait ++ served) most
    → S.open_event (sum (first_entries wait ++ served)) event ≡ Some o → IsTimeout o.upcall
    → (wait ≤ o.moment) × (o.moment ≤ (sum (first_entries wait ++ served)).moment)
comes_late {N} wait most served event o kinds legal open_ timed =
    let k = late_all wait most (first_entries wait) served kinds legal (late_first N wait) in
    each_found (OpenFrom wait (sum (first_entries wait ++ served)).moment)
    (λ (v : OpenEvent). v.event == event) (sum (first_entries wait ++ served)).opens o k.opens open_
    timed
