-- That each wait of a run of one connector is asked with the time that is left until its timer
-- comes due, and without a limit once it did.
use Rattle.std.proofs.Common.{ℕ, ◌≡◌, ◌≤◌, ◌-◌, ◌==◌, ◌&&◌, ◌||◌, ◌⊎◌, inl, inr, Bool, true, false}
use Rattle.std.proofs.Common.{not, List, [], ◌∷◌, ◌++◌, map, refl, sym, ap, ◌∙◌, subst, arith}
use Rattle.std.proofs.Common.{Option, Some, None, cond, nat_le, option_map}
use Rattle.std.proofs.lemmas.Bool.{and_from, and_parts, cond-true, cond-false, eqb-true, false≢true}
use Rattle.std.proofs.lemmas.Bool.{le-leb, leb-true}
use Rattle.std.proofs.lemmas.List.Folds.{list_all-append}
use Rattle.std.specs.List.{list_all, list_any, filter, find}
use Rattle.ev_base.specs.Net.{Call, Attaches, Retires, SetsMask, TurnsAway, Waits}
use Rattle.ev_base.specs.Terms.{Terms}
use Rattle.ev_base.specs.declared.net.Report.{Report}
use Rattle.ev_base.specs.declared.net.Waited.{Waited}
use Rattle.ev_base.specs.declared.net.Waited.TheVariants as waited
use Rattle.ev_base.specs.ev_types.specs.declared.upcall.Answer.TheVariants.{Keep, Again, Close}
use Rattle.ev_base.specs.ev_types.specs.declared.upcall.Handle.{Handle}
use Rattle.reactor_model.specs.Entries.{IsAnsweredAt}
use Rattle.reactor_model.specs.Handling.{Handling}
use Rattle.reactor_model.specs.reactor_journal.specs.Event.{Event}
use Rattle.reactor_model.specs.reactor_journal.specs.Follow as F
use Rattle.reactor_model.specs.reactor_journal.specs.Follow.{Legal, is_legal}
use Rattle.reactor_model.specs.reactor_journal.specs.Past.{belongs_to, past_of}
use Rattle.reactor_model.specs.reactor_journal.specs.declared.entry.Entry.{Entry}
use Rattle.reactor_model.specs.reactor_journal.specs.declared.entry.Entry.TheVariants as entry
use Rattle.reactor_model.specs.reactor_journal.proofs.Turning.{Legal-front, past_of-append}
use Rattle.reactor_core.specs.Calls.{AreCalls, IsAskedFor, time_left}
use Rattle.reactor_core.specs.Ends.{WhereTold}
use Rattle.reactor_core.specs.reactor_state.specs.Tables.{first_armed_deadline}
use Rattle.reactor_core.specs.reactor_summary.specs.Rules as R
use Rattle.reactor_core.specs.reactor_summary.specs.Summary as S
use Rattle.reactor_core.specs.reactor_summary.specs.Summary.{Summary, step, summary}
use Rattle.reactor_core.specs.reactor_summary.specs.Tells.{Each}
use Rattle.reactor_core.specs.reactor_summary.specs.declared.parts.ArmedTimer.{ArmedTimer}
use Rattle.reactor_core.specs.reactor_summary.specs.declared.parts.DueTimer.{DueTimer}
use Rattle.reactor_core.specs.reactor_summary.specs.declared.parts.LiveHandle.{LiveHandle}
use Rattle.reactor_core.specs.reactor_summary.specs.declared.parts.OpenEvent.{OpenEvent}
use Rattle.reactor_core.specs.reactor_summary.specs.declared.parts.WaitingEvent.{WaitingEvent}
use Rattle.reactor_core.specs.reactor_summary.proofs.Follows.{may_follow_is}
use Rattle.reactor_core.specs.reactor_summary.proofs.Lists.{each_append, each_filter}
use Rattle.reactor_core.specs.reactor_summary.proofs.Told.{told}
use Rattle.reactor_core.specs.Stands.{Meaning, Stands}
use Rattle.reactor_core.specs.declared.reactor.Core.{Core}
use Rattle.reactor_core.specs.declared.reactor.Parts.{Parts}
use Rattle.timer_queue.specs.declared.timer.Timer.{Timer}
use Rattle.core_loop.specs.Leading.{GoesOn}
use Rattle.core_loop.proofs.Keeping.{sum}
use Rattle.connector_run.specs.Leaving.{LeavesAlive, LeavesClosed}
use Rattle.connector_run.specs.Phases.{BeginInTime, ClosedItself, IsAlive, first_entries, is_served}
use Rattle.connector_run.specs.Phases.{one_handle, write_alone}
use Rattle.connector_run.specs.Running.{EndsSo}
use Rattle.connector_run.specs.declared.running.Ended.{Ended}
use Rattle.connector_run.specs.declared.running.Ended.TheVariants as ended
use Rattle.connector_run.specs.Waits.{AskedUntil, left_until, moment_of, moment_told}

-- ---- the past of one that is alive

-- the registration, the latest entry first
abbrev pub base : {N : Type 0} → ℕ → List (Entry N)
base wait = entry.Scheduled 0 one_handle wait 0 ∷ entry.Opened one_handle write_alone ∷ []

pub all_past : {N : Type 0} (p : Entry N → Bool) (xs : List (Entry N)) → list_all p xs ≡ true
    → list_all p (past_of xs) ≡ true
all_past p [] all = refl
all_past {N} p (x ∷ xs) all =
    let parts = and_parts (p x) (list_all p xs) all in
    ap (list_all p) (past_of-append (x ∷ []) xs)
    ∙ (list_all-append p (past_of xs) (x ∷ [])
    ∙ and_from _ _ (all_past p xs parts.1) (and_from _ _ parts.0 refl))

pub alive_past_is : {N : Type 0} (wait : ℕ) (h : List (Entry N)) (a : IsAlive wait h)
    → past_of h ≡ past_of a.served ++ base wait
alive_past_is wait h a = ap past_of a.is ∙ past_of-append (first_entries wait) a.served

pub alive_lives : {N : Type 0} (wait : ℕ) (h : List (Entry N)) → IsAlive wait h
    → S.is_alive (sum h) 0 ≡ true
alive_lives wait h a = ap (list_any (λ (h : LiveHandle). h.handle.0 == 0 && h.alive)) a.handles
    ∙ here a.handler a.handle a.alive
  where
    here : (handler : LiveHandle) → handler.handle ≡ one_handle → handler.alive ≡ true
        → (handler.handle.0 == 0 && handler.alive || false) ≡ true
    here handler handle alive =
        ap (λ (x : Handle). x.0 == 0 && handler.alive || false) handle
        ∙ ap (λ b. true && b || false) alive

-- an entry fits the summary that it follows
pub may_fit : {N : Type 0} (most : ℕ) (past : List (Entry N)) (e : Entry N)
    → is_legal most past ≡ true → F.may_follow most past e ≡ true
    → R.fits most (F.follows_due past) (F.follows_ready past) (summary past) e ≡ true
may_fit most past e legal may = (and_parts _ _
    (may_follow_is most past (summary past) e legal (told most past legal) ∙ may)).1

pub each_found : {A : Type 0} (P : A → Type 0) (p : A → Bool) (xs : List A) (a : A) → Each P xs
    → find p xs ≡ Some a → P a
each_found P p [] a e q = cc
each_found {A} P p (x ∷ xs) a e q = go (λ rest. each_found P p xs a e.1 rest) (p x) refl
  where
    go : (find p xs ≡ Some a → P a) → (b : Bool) → p x ≡ b → P a
    go later true b = subst P (same (sym (cond-true (p x) (Some x) (find p xs) b) ∙ q)) e.0
      where
        same : ◌≡◌ {A = Option A} (Some x) (Some a) → x ≡ a
        same q = cc
    go later false b = later (sym (cond-false (p x) (Some x) (find p xs) b) ∙ q)

-- ---- the handler lives on

abbrev alive_in : List LiveHandle → Bool
alive_in handles = list_any (λ h. h.handle.0 == 0 && h.alive) handles

or_true : (a b : Bool) → b ≡ true → (a || b) ≡ true
or_true true b q = refl
or_true false b q = q

or_step : (a b c d : Bool) → (a ≡ true → c ≡ true) → (b ≡ true → d ≡ true) → (a || b) ≡ true
    → (c || d) ≡ true
or_step true b c d first rest q = ap (λ x. x || d) (first refl)
or_step false b c d first rest q = or_true c d (rest q)

-- a handle that is alive after the end of a handler was alive before it
alive_before : (event : Option Event) (handles : List LiveHandle)
    → alive_in (map (S.with_end event) handles) ≡ true → alive_in handles ≡ true
alive_before event [] q = q
alive_before event (h ∷ handles) q =
    or_step _ _ _ _ (go (belongs_to h.handle.0 event)) (alive_before event handles) q
  where
    go : (b : Bool) → ((cond b (record h { alive = false }) h).handle.0 == 0
        && (cond b (record h { alive = false }) h).alive) ≡ true
        → (h.handle.0 == 0 && h.alive) ≡ true
    go true q = absurd (false≢true (and_parts (h.handle.0 == 0) false q).1)
    go false q = q

-- and none of the handle that ended is
none_ended : (event : Option Event) (handles : List LiveHandle) → belongs_to 0 event ≡ true
    → alive_in (map (S.with_end event) handles) ≡ true → ⊥
none_ended event [] mine q = false≢true q
none_ended event (h ∷ handles) mine q =
    false≢true (or_step _ _ false false
    (λ here. absurd (go (belongs_to h.handle.0 event) refl here))
    (λ more. absurd (none_ended event handles mine more)) q)
  where
    go : (b : Bool) → belongs_to h.handle.0 event ≡ b
        → ((cond b (record h { alive = false }) h).handle.0 == 0
        && (cond b (record h { alive = false }) h).alive) ≡ true → ⊥
    go true is q = false≢true (and_parts (h.handle.0 == 0) false q).1
    go false is q =
        let here : h.handle.0 ≡ 0 =
        eqb-true h.handle.0 0 (and_parts (h.handle.0 == 0) h.alive q).0 in
        false≢true (sym is ∙ (ap (λ (n : ℕ). belongs_to n event) here ∙ mine))

lives_before : {N : Type 0} (s : Summary) (e : Entry N) → is_served e ≡ true
    → S.is_alive (step s e) 0 ≡ true → S.is_alive s 0 ≡ true
lives_before s (entry.Polled moment) kind alive = alive
lives_before s (entry.Due timer) kind alive = alive
lives_before s (entry.Ready handle k) kind alive = alive
lives_before s (entry.Started event) kind alive = alive
lives_before s (entry.Returned event Keep note) kind alive = alive
lives_before s (entry.Returned event Again note) kind alive = alive
lives_before s (entry.Returned event Close note) kind alive =
    alive_before (S.event_open s event) s.handles alive
lives_before s _ kind alive = absurd (false≢true kind)

-- ---- the timer

abbrev the_timer : ℕ → ArmedTimer
the_timer wait = record { deadline = wait; timer = 0; handle = one_handle; every = 0 }

-- it is armed, or it came due, and then no timer is
abbrev IsTimed : ℕ → ℕ → List ArmedTimer → Type 0
IsTimed wait moment armed =
    (armed ≡ the_timer wait ∷ []) ⊎ ((armed ≡ []) × (wait ≤ moment))

-- no event arms a timer again
abbrev IsOnce : Option DueTimer → Type 0
IsOnce None = Unit {0}
IsOnce (Some due) = due.every ≡ 0

abbrev ComesOnce : WaitingEvent → Type 0
ComesOnce w = IsOnce w.due

record KeepsTimer (wait : ℕ) (s : Summary) : Type 0 where
  timed : IsTimed wait s.moment s.armed
  once : Each ComesOnce s.waiting

module _ (wait : ℕ) (s : Summary) (k : KeepsTimer wait s) where
  polled : (moment : ℕ) → s.moment ≤ moment → IsTimed wait moment s.armed
  polled moment le =
      by k.timed
    where
      by : IsTimed wait s.moment s.armed → IsTimed wait moment s.armed
      by (inl armed) = inl armed
      by (inr (none, reached)) = inr (none, omega (arith, le, reached))

  -- the timer comes due
  due : (t : ℕ) → S.is_first_due s t ≡ true
      → IsTimed wait s.moment (S.without_timer t s.armed)
      × Each ComesOnce (S.waiting_due s.entries (S.armed_timer s t))
  due t first = by k.timed
    where
      by : IsTimed wait s.moment s.armed → IsTimed wait s.moment (S.without_timer t s.armed)
          × Each ComesOnce (S.waiting_due s.entries (S.armed_timer s t))
      by (inl armed) =
          let p = and_parts (0 == t) (nat_le wait s.moment)
          (sym (ap (S.is_first s.moment t) armed) ∙ first) in (
            inr (
              ap (S.without_timer t) armed
                  ∙ ap (λ b. cond (not b) (the_timer wait ∷ []) []) p.0,
              leb-true wait s.moment p.1,
            ),
            subst (λ (o : Option ArmedTimer). Each ComesOnce (S.waiting_due s.entries o))
                (sym (ap (find (λ (a : ArmedTimer). a.timer == t)) armed
                ∙ cond-true (0 == t) (Some (the_timer wait)) None p.0)) (refl, tt),
          )
      by (inr (none, reached)) =
          absurd (false≢true (sym (ap (S.is_first s.moment t) none) ∙ first))

  -- an upcall is started
  started : (o : Option WaitingEvent) (event : ℕ) → S.waiting_event s event ≡ o
      → S.with_started s.moment o s.armed ≡ s.armed
  started None event is = refl
  started (Some w) event is =
      next w.due (each_found ComesOnce (λ (v : WaitingEvent). v.event == event) s.waiting w k.once
      is)
    where
      next : (due : Option DueTimer) → IsOnce due
          → S.with_next s.moment w.handle due s.armed ≡ s.armed
      next None once = refl
      next (Some due) once = cond-true (due.every == 0) s.armed _ (ap (λ (n : ℕ). n == 0) once)

  again : (o : Option OpenEvent) → Each ComesOnce (S.waiting_again s o)
  again None = tt
  again (Some o) = go (S.is_alive s o.handle.0)
    where
      go : (b : Bool) → Each ComesOnce (cond b (record {
        event = s.entries;
        handle = o.handle;
        upcall = o.upcall;
        due = None;
      } ∷ []) [])
      go true = (tt, tt)
      go false = tt

  -- the handler of another handle ended
  closed : (event : Option Event) → (belongs_to 0 event ≡ true → ⊥)
      → IsTimed wait s.moment (S.without_timers_of event s.armed)
  closed None other = k.timed
  closed (Some event) other = by k.timed
    where
      stays : (b : Bool) → (0 == event.handle) ≡ b
          → S.without_timers_of (Some event) (the_timer wait ∷ []) ≡ the_timer wait ∷ []
      stays true is =
          absurd (other (ap (λ (n : ℕ). n == 0) (sym (eqb-true 0 event.handle is))))
      stays false is = cond-true (not (0 == event.handle)) (the_timer wait ∷ []) [] (ap not is)

      by : IsTimed wait s.moment s.armed
          → IsTimed wait s.moment (S.without_timers_of (Some event) s.armed)
      by (inl armed) =
          inl (ap (S.without_timers_of (Some event)) armed ∙ stays (0 == event.handle) refl)
      by (inr (none, reached)) = inr (ap (S.without_timers_of (Some event)) none, reached)

  fewer : (p : WaitingEvent → Bool) → Each ComesOnce (filter p s.waiting)
  fewer p = each_filter ComesOnce ComesOnce p s.waiting (λ w once t. once) k.once

timer_step : {N : Type 0} (wait most : ℕ) (d r : Bool) (s : Summary) (e : Entry N)
    → is_served e ≡ true → R.fits most d r s e ≡ true → S.is_alive (step s e) 0 ≡ true
    → KeepsTimer wait s → KeepsTimer wait (step s e)
timer_step wait most d r s (entry.Polled moment) kind fits alive k = record {
  timed = polled wait s k moment (leb-true s.moment moment (and_parts _ _ fits).0);
  once = k.once;
}
timer_step wait most d r s (entry.Due timer) kind fits alive k =
    let p = due wait s k timer (and_parts _ _ fits).1 in
    record { timed = p.0; once = each_append ComesOnce s.waiting _ k.once p.1 }
timer_step wait most d r s (entry.Ready handle of) kind fits alive k = record {
  timed = k.timed;
  once = each_append ComesOnce s.waiting _ k.once (tt, tt);
}
timer_step wait most d r s (entry.Started event) kind fits alive k = record {
  timed = subst (λ (armed : List ArmedTimer). IsTimed wait s.moment armed)
      (sym (started wait s k (S.waiting_event s event) event refl)) k.timed;
  once = fewer wait s k (λ w. not (event == w.event));
}
timer_step wait most d r s (entry.Returned event Keep note) kind fits alive k =
    record { timed = k.timed; once = k.once }
timer_step wait most d r s (entry.Returned event Again note) kind fits alive k = record {
  timed = k.timed;
  once = each_append ComesOnce s.waiting _ k.once (again wait s k (S.open_event s event));
}
timer_step wait most d r s (entry.Returned event Close note) kind fits alive k = record {
  timed = closed wait s k (S.event_open s event)
      (λ mine. none_ended (S.event_open s event) s.handles mine alive);
  once = fewer wait s k (λ w. not (belongs_to w.handle.0 (S.event_open s event)));
}
timer_step wait most d r s _ kind fits alive k = absurd (false≢true kind)

-- as long as the handler is alive
keeps_timer : {N : Type 0} (wait most : ℕ) (es : List (Entry N)) → list_all is_served es ≡ true
    → is_legal most (es ++ base wait) ≡ true → S.is_alive (summary (es ++ base wait)) 0 ≡ true
    → KeepsTimer wait (summary (es ++ base wait))
keeps_timer wait most [] kinds legal alive = record { timed = inl refl; once = tt }
keeps_timer {N} wait most (e ∷ es) kinds legal alive =
    let kind = and_parts (is_served e) (list_all is_served es) kinds in
    let past : List (Entry N) = es ++ base wait in
    let l = and_parts (F.may_follow most past e) (is_legal most past) legal in
    timer_step wait most _ _ (summary past) e kind.0 (may_fit most past e l.1 l.0) alive
    (keeps_timer wait most es kind.1 l.1 (lives_before (summary past) e kind.0 alive))

-- so if no deadline is reached, the time left is that until the timer's, if it is armed
left_so : (wait : ℕ) (s : Summary) → KeepsTimer wait s → S.is_overdue s ≡ false
    → time_left s ≡ left_until wait s.moment
left_so wait s k none = by k.timed
  where
    reached_is : (b : Bool) → nat_le wait s.moment ≡ b
        → cond (nat_le wait s.moment) None (Some (wait - s.moment))
        ≡ cond b None (Some (wait - s.moment))
    reached_is b is = ap (λ c. cond c None (Some (wait - s.moment))) is

    by : IsTimed wait s.moment s.armed → time_left s ≡ left_until wait s.moment
    by (inl armed) =
        ap (λ (timers : List ArmedTimer). option_map (λ (deadline : ℕ). deadline - s.moment)
        (first_armed_deadline timers)) armed
        ∙ sym (reached_is false (sym (ap (S.is_reached s.moment) armed) ∙ none))
    by (inr (no_timer, reached)) =
        ap (λ (timers : List ArmedTimer). option_map (λ (deadline : ℕ). deadline - s.moment)
        (first_armed_deadline timers)) no_timer
        ∙ sym (reached_is true (le-leb wait s.moment reached))

-- ---- the calls

told_at : (answer : Waited) (before moment : ℕ) → IsAnsweredAt moment answer
    → moment_told answer before ≡ moment
told_at (waited.Reports now many) before moment at = at
told_at (waited.Quiet now) before moment at = at
told_at (waited.Over now) before moment at = at
told_at waited.Failed before moment at = absurd at

-- what calls are asked with, the last of which was answered at this moment
abbrev IsAsked : ℕ → ℕ → List Call → Type 0
IsAsked wait moment calls = AskedUntil wait calls × (moment_of calls ≡ moment)

module _ {H E N : Type 0} (means : Handling H E N) (t : Terms) (limit : t.limit ≡ Some None)
    (wait most : ℕ) where
  first_asked : (taken : List Report) (calls : List Call)
      → AreCalls means t (base wait) taken calls → IsAsked wait 0 calls
  first_asked taken [] are = absurd are
  first_asked taken (Waits asked answer reports ∷ calls) are = absurd are.0
  first_asked taken (Attaches x given serial ∷ calls) are =
      subst (λ (cs : List Call). IsAsked wait 0 cs) (sym are.1) (tt, refl)
  first_asked taken (SetsMask x given ∷ calls) are = absurd are.0
  first_asked taken (Retires x ∷ calls) are = absurd are.0
  first_asked taken (TurnsAway serial ∷ calls) are = absurd are.0

  by_wait : (past : List (Entry N)) (taken : List Report) (moment : ℕ)
      → time_left (summary past) ≡ left_until wait (summary past).moment
      → ((taken : List Report) (calls : List Call) → AreCalls means t past taken calls
      → IsAsked wait (summary past).moment calls) → (calls : List Call)
      → AreCalls means t (entry.Polled moment ∷ past) taken calls → IsAsked wait moment calls
  by_wait past taken moment left earlier [] are = absurd are
  by_wait past taken moment left earlier (Waits asked answer reports ∷ calls) are =
      let rest = earlier [] calls are.1 in (
        (
          subst (λ (l : Option (Option ℕ)). IsAskedFor l (summary past) asked) limit are.0.asked
              ∙ (left ∙ ap (left_until wait) (sym rest.1)),
          rest.0,
        ),
        told_at answer (moment_of calls) moment are.0.moment,
      )
  by_wait past taken moment left earlier (Attaches x given serial ∷ calls) are = absurd are.0
  by_wait past taken moment left earlier (SetsMask x given ∷ calls) are = absurd are.0
  by_wait past taken moment left earlier (Retires x ∷ calls) are = absurd are.0
  by_wait past taken moment left earlier (TurnsAway serial ∷ calls) are = absurd are.0

  asked_so : (es : List (Entry N)) → list_all is_served es ≡ true
      → is_legal most (es ++ base wait) ≡ true
      → S.is_alive (summary (es ++ base wait)) 0 ≡ true → BeginInTime (es ++ base wait)
      → (taken : List Report) (calls : List Call) → AreCalls means t (es ++ base wait) taken calls
      → IsAsked wait (summary (es ++ base wait)).moment calls
  asked_so [] kinds legal alive begun taken calls are = first_asked taken calls are
  asked_so (e ∷ es) kinds legal alive begun taken calls are =
      let kind = and_parts (is_served e) (list_all is_served es) kinds in
      let past : List (Entry N) = es ++ base wait in
      let before : is_legal most past ≡ true =
      (and_parts (F.may_follow most past e) (is_legal most past) legal).1 in
      let lives_on : S.is_alive (summary past) 0 ≡ true =
      lives_before (summary past) e kind.0 alive in
      by_entry e kind.0 (keeps_timer wait most es kind.1 before lives_on) begun
      (asked_so es kind.1 before lives_on) calls are
    where
      by_entry : (e : Entry N) → is_served e ≡ true → KeepsTimer wait (summary (es ++ base wait))
          → BeginInTime (e ∷ (es ++ base wait))
          → (BeginInTime (es ++ base wait) → (taken : List Report) (calls : List Call)
          → AreCalls means t (es ++ base wait) taken calls
          → IsAsked wait (summary (es ++ base wait)).moment calls)
          → (calls : List Call) → AreCalls means t (e ∷ (es ++ base wait)) taken calls
          → IsAsked wait (step (summary (es ++ base wait)) e).moment calls
      by_entry (entry.Polled moment) kind k begun earlier calls are =
          by_wait (es ++ base wait) taken moment
          (left_so wait (summary (es ++ base wait)) k begun.0) (earlier begun.1) calls are
      by_entry (entry.Due timer) kind k begun earlier calls are = earlier begun taken calls are
      by_entry (entry.Ready handle of) kind k begun earlier calls are =
          earlier begun (record { handle = handle; kind = of } ∷ taken) calls are
      by_entry (entry.Started event) kind k begun earlier calls are =
          earlier begun taken calls are
      by_entry (entry.Returned event answer note) kind k begun earlier calls are =
          earlier begun taken calls are
      by_entry _ kind k begun earlier calls are = absurd (false≢true kind)

  -- the calls of a history in which the handler is alive
  alive_asked : (h : List (Entry N)) → IsAlive wait h → Legal h most → (calls : List Call)
      → AreCalls means t (past_of h) [] calls → AskedUntil wait calls
  alive_asked h a legal calls are =
      let es : List (Entry N) = past_of a.served in
      let same : past_of h ≡ es ++ base wait = alive_past_is wait h a in
      (asked_so es (all_past is_served a.served a.kinds)
      (subst (λ (past : List (Entry N)). is_legal most past ≡ true) same legal)
      (subst (λ (past : List (Entry N)). S.is_alive (summary past) 0 ≡ true) same
      (alive_lives wait h a))
      (subst (λ (past : List (Entry N)). BeginInTime past) same a.in_time) []
      calls (subst (λ (past : List (Entry N)). AreCalls means t past [] calls) same are)).0

  -- the end was retired after all waits
  retired_asked : (handle : Handle) (said : N) (past : List (Entry N))
      → ((calls : List Call) → AreCalls means t past [] calls → AskedUntil wait calls)
      → (calls : List Call) → AreCalls means t (entry.Closed handle said ∷ past) [] calls
      → AskedUntil wait calls
  retired_asked handle said past earlier [] are = absurd are
  retired_asked handle said past earlier (Retires x ∷ calls) are = earlier calls are.1
  retired_asked handle said past earlier (Waits asked answer reports ∷ calls) are = absurd are.0
  retired_asked handle said past earlier (Attaches x given serial ∷ calls) are = absurd are.0
  retired_asked handle said past earlier (SetsMask x given ∷ calls) are = absurd are.0
  retired_asked handle said past earlier (TurnsAway serial ∷ calls) are = absurd are.0

  -- of one in which it closed itself
  closed_asked : (first : ℕ) (h : List (Entry N)) → ClosedItself wait first h → Legal h most
      → (calls : List Call) → AreCalls means t (past_of h) [] calls → AskedUntil wait calls
  closed_asked first h c legal calls are =
      let last : List (Entry N) = entry.Started c.event
      ∷ entry.Returned c.returned Close c.note ∷ entry.Closed one_handle c.said ∷ [] in
      let legal_before : Legal c.before most = Legal-front c.before last most
      (subst (λ (k : List (Entry N)). Legal k most) c.is legal) in
      let same : past_of h ≡ entry.Closed one_handle c.said
      ∷ entry.Returned c.returned Close c.note ∷ entry.Started c.event ∷ past_of c.before =
      ap past_of c.is ∙ past_of-append c.before last in
      retired_asked one_handle c.said (entry.Returned c.returned Close c.note
      ∷ entry.Started c.event ∷ past_of c.before)
      (alive_asked c.before c.alive legal_before) calls
      (subst (λ (past : List (Entry N)). AreCalls means t past [] calls) same are)

pub where_told : {A : Type 0} (P Q : A → Type 0) (told : Option A) → ((a : A) → P a → Q a)
    → WhereTold P told → WhereTold Q told
where_told P Q None f h = tt
where_told P Q (Some a) f h = f a h

-- ---- a run

module _ {H M Q' W V N E : Type 0} (m : Meaning H M Q' W V N E) (t : Terms)
    (limit : t.limit ≡ Some None) (wait first : ℕ) (h : List (Entry N)) where
  -- while it stands
  pub asked_alive : (core : Core H M Q' W V N E) → Stands m t core first h → IsAlive wait h
      → WhereTold (AskedUntil wait) (m.facts core.net).calls
  asked_alive core stands a =
      where_told _ (AskedUntil wait) (m.facts core.net).calls
      (alive_asked m.means t limit wait t.most h a stands.tracks.legal) stands.tracks.net.calls

  pub asked_closed : (core : Core H M Q' W V N E) → Stands m t core first h
      → ClosedItself wait first h → WhereTold (AskedUntil wait) (m.facts core.net).calls
  asked_closed core stands c =
      where_told _ (AskedUntil wait) (m.facts core.net).calls
      (closed_asked m.means t limit wait t.most first h c stands.tracks.legal)
      stands.tracks.net.calls

  -- and once it was taken apart
  pub alive_left : (armed : Q' → List Timer) (parts : Parts N M Q' W V) → Legal h t.most
      → IsAlive wait h → LeavesAlive m armed t first h parts
      → WhereTold (AskedUntil wait) (m.facts parts.net).calls
  alive_left armed parts legal a l =
      let last : List (Entry N) = entry.Ended ∷ entry.Removed one_handle
      ∷ entry.Closed one_handle l.said ∷ [] in
      where_told _ (AskedUntil wait) (m.facts parts.net).calls
      (λ (calls : List Call) are. retired_asked m.means t limit wait t.most one_handle l.said
      (entry.Removed one_handle ∷ entry.Ended ∷ past_of h)
      (alive_asked m.means t limit wait t.most h a legal) calls
      (subst (λ (past : List (Entry N)). AreCalls m.means t past [] calls)
      (past_of-append h last) are)) l.stand.net.calls

  pub closed_left : (armed : Q' → List Timer) (parts : Parts N M Q' W V) → Legal h t.most
      → (c : ClosedItself wait first h) → LeavesClosed m armed t c parts
      → WhereTold (AskedUntil wait) (m.facts parts.net).calls
  closed_left armed parts legal c l =
      where_told _ (AskedUntil wait) (m.facts parts.net).calls
      (λ (calls : List Call) are. closed_asked m.means t limit wait t.most first h c legal calls
      (subst (λ (past : List (Entry N)). AreCalls m.means t past [] calls)
      (past_of-append h (entry.Ended ∷ [])) are)) l.stand.net.calls

-- as a run ends
pub lives_or_closed : {H M Q' W V N E : Type 0} {m : Meaning H M Q' W V N E} {t : Terms}
    {core : Core H M Q' W V N E} (wait over : ℕ) (how : Ended)
    (on : GoesOn m t (first_entries wait) (EndsSo m t wait how over) core)
    → IsAlive wait on.history ⊎ ClosedItself wait on.first on.history
lives_or_closed wait over ended.Closed on = inr on.so
lives_or_closed wait over ended.Over on = inl on.so.0
lives_or_closed wait over ended.NetFault on = inl on.so
lives_or_closed wait over ended.NoMemory on = inl on.so
