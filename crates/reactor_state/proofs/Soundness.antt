-- Each entry that fits keeps what holds of a summary.
use Rattle.std.proofs.Common.{ℕ, suc, ◌≡◌, ◌+◌, ◌-◌, ◌*◌, ◌/◌, ◌^◌, ◌<◌, ◌≤◌, ◌==◌, Bool, true}
use Rattle.std.proofs.Common.{false, not, ◌&&◌, ◌||◌, List, [], ◌∷◌, ◌++◌, length, refl, sym, ap}
use Rattle.std.proofs.Common.{◌∙◌, subst, cond, Option, Some, None, arith, inl, inr}
use Rattle.std.specs.Prelude.{nat_le}
use Rattle.std.proofs.Math.Nat.{div-mul-le_self}
use Rattle.std.proofs.lemmas.Bool.{and_parts, eqb-true, eq-eqb, ne_eqb, leb-true, cases_eq}
use Rattle.std.proofs.lemmas.List.{append-nil, length-append, length-map}
use Rattle.std.specs.List.{list_any, find, filter}
use Rattle.ev_types.specs.declared.upcall.Handle.{Handle}
use Rattle.ev_types.specs.declared.upcall.Upcall.TheVariants.{Timeout, Notice}
use Rattle.ev_types.specs.declared.upcall.Answer.TheVariants.{Again, Close}
use Rattle.reactor_summary.specs.reactor_journal.specs.Event.{Event}
use Rattle.reactor_summary.specs.reactor_journal.specs.Past as P
use Rattle.reactor_summary.specs.reactor_journal.specs.Past.{count, upcall_of}
use Rattle.reactor_summary.specs.reactor_journal.specs.declared.entry.Entry.{Entry}
use Rattle.reactor_summary.specs.reactor_journal.specs.declared.entry.Entry.TheVariants.{Opened}
use Rattle.reactor_summary.specs.reactor_journal.specs.declared.entry.Entry.TheVariants.{Scheduled}
use Rattle.reactor_summary.specs.reactor_journal.specs.declared.entry.Entry.TheVariants.{Cancelled}
use Rattle.reactor_summary.specs.reactor_journal.specs.declared.entry.Entry.TheVariants.{Polled}
use Rattle.reactor_summary.specs.reactor_journal.specs.declared.entry.Entry.TheVariants.{Due, Ready}
use Rattle.reactor_summary.specs.reactor_journal.specs.declared.entry.Entry.TheVariants.{Posted}
use Rattle.reactor_summary.specs.reactor_journal.specs.declared.entry.Entry.TheVariants.{Started}
use Rattle.reactor_summary.specs.reactor_journal.specs.declared.entry.Entry.TheVariants.{Returned}
use Rattle.reactor_summary.specs.reactor_journal.specs.declared.entry.Entry.TheVariants.{Masked}
use Rattle.reactor_summary.specs.reactor_journal.specs.declared.entry.Entry.TheVariants.{Suspended}
use Rattle.reactor_summary.specs.reactor_journal.specs.declared.entry.Entry.TheVariants.{Resumed}
use Rattle.reactor_summary.specs.reactor_journal.specs.declared.entry.Entry.TheVariants.{Refused}
use Rattle.reactor_summary.specs.reactor_journal.specs.declared.entry.Entry.TheVariants.{Removed}
use Rattle.reactor_summary.specs.reactor_journal.specs.declared.entry.Entry.TheVariants.{Closed}
use Rattle.reactor_summary.specs.declared.parts.LiveHandle.{LiveHandle}
use Rattle.reactor_summary.specs.declared.parts.DueTimer.{DueTimer}
use Rattle.reactor_summary.specs.declared.parts.WaitingEvent.{WaitingEvent}
use Rattle.reactor_summary.specs.declared.parts.OpenEvent.{OpenEvent}
use Rattle.reactor_summary.specs.declared.parts.ArmedTimer.{ArmedTimer}
use Rattle.reactor_summary.specs.Tells.{Each}
use Rattle.reactor_summary.specs.Summary as S
use Rattle.reactor_summary.specs.Summary.{Summary, step}
use Rattle.reactor_summary.proofs.Lists.{each_same, each_append, each_filter}
use Rattle.reactor_state.specs.Rises.{RisesIn}
use Rattle.reactor_state.specs.Sound.{handle_number, event_number, is_due_of, times, IsReached}
use Rattle.reactor_state.specs.Sound.{IsWithin, IsSound, Fits}
use Rattle.reactor_state.specs.State.{HasNumber}
use Rattle.reactor_state.proofs.Lists.{one, count_cons, count-append, count-filter_le, found_each}
use Rattle.reactor_state.proofs.Lists.{count_dropped}
use Rattle.reactor_state.proofs.Rising.{none_below, filter_absent, rises_to, rises-filter}
use Rattle.reactor_state.proofs.Rising.{rises-append, rises-map}
use Rattle.reactor_state.proofs.Owners.{eqb_sym, count-with_timer}

-- ---- handles

either_handle : (b : Bool) (g h : LiveHandle) → g.handle.0 ≡ h.handle.0
    → handle_number (cond b g h) ≡ handle_number h
either_handle true g h e = e
either_handle false g h e = refl

pub rising_after : {N : Type 0} (e : Entry N) (s : Summary) → IsSound s → Fits s e
    → RisesIn handle_number 0 (S.opened_after e s.opened) (S.handles_after s e)
rising_after (Opened handle mask) s sound fits =
    let number : handle.0 ≡ s.opened = fits.0 in
    rises-append handle_number 0 s.opened (suc s.opened) s.handles
    (record { handle = handle; mask = mask; suspended = false; alive = true }) (omega arith)
    (omega arith) (omega arith) sound.handles
rising_after (Masked handle mask) s sound fits =
    rises-map handle_number 0 s.opened (S.with_mask handle.0 mask) s.handles
    (λ h. either_handle (handle.0 == h.handle.0) (record h { mask = mask }) h refl) sound.handles
rising_after (Suspended handle) s sound fits =
    rises-map handle_number 0 s.opened (S.with_suspended handle.0 true) s.handles
    (λ h. either_handle (handle.0 == h.handle.0) (record h { suspended = true }) h refl)
    sound.handles
rising_after (Resumed handle) s sound fits =
    rises-map handle_number 0 s.opened (S.with_suspended handle.0 false) s.handles
    (λ h. either_handle (handle.0 == h.handle.0) (record h { suspended = false }) h refl)
    sound.handles
rising_after (Removed handle) s sound fits =
    rises-map handle_number 0 s.opened (S.with_end (S.of_handle handle)) s.handles
    (λ h. either_handle (handle.0 == h.handle.0) (record h { alive = false }) h refl) sound.handles
rising_after (Returned event Close note) s sound fits =
    rises-map handle_number 0 s.opened (S.with_end (S.event_open s event)) s.handles
    (λ h. either_handle (P.belongs_to h.handle.0 (S.event_open s event))
    (record h { alive = false }) h refl) sound.handles
rising_after (Closed handle note) s sound fits =
    rises-filter handle_number 0 s.opened (λ h. not (handle.0 == h.handle.0)) s.handles
    sound.handles
rising_after _ s sound fits = sound.handles

-- one handle less
pub one_closed : (lo hi n : ℕ) (hs : List LiveHandle) → RisesIn handle_number lo hi hs
    → list_any (λ (h : LiveHandle). h.handle.0 == n) hs ≡ true
    → length (filter (λ (h : LiveHandle). not (n == h.handle.0)) hs) + 1 ≡ length hs
one_closed lo hi n [] rising h = absurd (cc)
one_closed lo hi n (x ∷ hs) rising h =
    by_case (x.handle.0 == n) refl (λ e. one_closed (suc x.handle.0) hi n hs rising.2 e) h
  where
    by_case : (b : Bool) → (x.handle.0 == n) ≡ b
        → (list_any (λ (h : LiveHandle). h.handle.0 == n) hs ≡ true
        → length (filter (λ (h : LiveHandle). not (n == h.handle.0)) hs) + 1 ≡ length hs)
        → (b || list_any (λ (h : LiveHandle). h.handle.0 == n) hs) ≡ true
        → length (cond (not (n == x.handle.0))
        (x ∷ filter (λ (h : LiveHandle). not (n == h.handle.0)) hs)
        (filter (λ (h : LiveHandle). not (n == h.handle.0)) hs)) + 1 ≡ suc (length hs)
    by_case true t rest e =
        let same : x.handle.0 ≡ n = eqb-true x.handle.0 n t in
        let gone : not (n == x.handle.0) ≡ false = ap not (eq-eqb n x.handle.0 (sym same)) in
        let kept : filter (λ (h : LiveHandle). not (n == h.handle.0)) hs ≡ hs =
        filter_absent handle_number n hs (none_below handle_number (suc x.handle.0) hi n hs
        rising.2 (omega arith)) in
        ap (λ (b : Bool). length (cond b (x ∷ filter (λ (h : LiveHandle). not (n == h.handle.0)) hs)
        (filter (λ (h : LiveHandle). not (n == h.handle.0)) hs)) + 1) gone
        ∙ omega (arith, ap length kept)
    by_case false f rest e =
        let stays : not (n == x.handle.0) ≡ true = ap not (eqb_sym n x.handle.0 ∙ f) in
        ap (λ (b : Bool). length (cond b (x ∷ filter (λ (h : LiveHandle). not (n == h.handle.0)) hs)
        (filter (λ (h : LiveHandle). not (n == h.handle.0)) hs)) + 1) stays
        ∙ omega (arith, rest e)

live_after : {N : Type 0} (e : Entry N) (s : Summary) → IsSound s → Fits s e
    → S.closed_after e s.closed + length (S.handles_after s e) ≡ S.opened_after e s.opened
live_after (Opened handle mask) s sound fits = let live : s.closed + length s.handles ≡ s.opened =
    sound.live in omega (
      arith,
      length-append s.handles
          (record { handle = handle; mask = mask; suspended = false; alive = true } ∷ []),
    )
live_after (Masked handle mask) s sound fits =
    ap (λ n. s.closed + n) (length-map s.handles (S.with_mask handle.0 mask)) ∙ sound.live
live_after (Suspended handle) s sound fits =
    ap (λ n. s.closed + n) (length-map s.handles (S.with_suspended handle.0 true)) ∙ sound.live
live_after (Resumed handle) s sound fits =
    ap (λ n. s.closed + n) (length-map s.handles (S.with_suspended handle.0 false)) ∙ sound.live
live_after (Removed handle) s sound fits =
    ap (λ n. s.closed + n) (length-map s.handles (S.with_end (S.of_handle handle))) ∙ sound.live
live_after (Returned event Close note) s sound fits =
    ap (λ n. s.closed + n) (length-map s.handles (S.with_end (S.event_open s event))) ∙ sound.live
live_after (Closed handle note) s sound fits = let live : s.closed + length s.handles ≡ s.opened =
    sound.live in omega (arith, one_closed 0 s.opened handle.0 s.handles sound.handles fits)
live_after _ s sound fits = sound.live

-- ---- numbers

opened_within : {N : Type 0} (e : Entry N) (s : Summary) → IsSound s → Fits s e
    → S.opened_after e s.opened ≤ 4294967295
opened_within (Opened handle mask) s sound fits = let less : s.opened < 4294967295 = fits.1 in
    omega arith
opened_within _ s sound fits = sound.opened

moment_within : {N : Type 0} (e : Entry N) (s : Summary) → IsSound s → Fits s e
    → P.now_after e s.moment ≤ 2 ^ 62
moment_within (Polled now) s sound fits = fits.1
moment_within _ s sound fits = sound.moment

finished_within : {N : Type 0} (e : Entry N) (s : Summary) → s.closed + s.refused ≤ s.entries
    → S.closed_after e s.closed + S.refused_after e s.refused ≤ suc s.entries
finished_within (Closed handle note) s h = omega arith
finished_within (Refused live fault note) s h = omega arith
finished_within _ s h = omega arith

scheduled_within : {N : Type 0} (e : Entry N) (s : Summary) → s.scheduled ≤ s.entries
    → S.scheduled_after e s.scheduled ≤ suc s.entries
scheduled_within (Scheduled timer handle first every) s h = omega arith
scheduled_within _ s h = omega arith

-- ---- waiting events

one_more : (s : Summary) (w : WaitingEvent) → IsSound s → w.event ≡ s.entries
    → RisesIn event_number 0 (suc s.entries) (s.waiting ++ w ∷ [])
one_more s w sound e = rises-append event_number 0 s.entries (suc s.entries) s.waiting w
    (omega arith) (omega arith) (omega arith) sound.waiting

none_more : (s : Summary) → IsSound s → RisesIn event_number 0 (suc s.entries) s.waiting
none_more s sound = rises_to event_number 0 s.entries (suc s.entries) s.waiting (omega arith)
    sound.waiting

fewer : (s : Summary) (p : WaitingEvent → Bool) → IsSound s
    → RisesIn event_number 0 (suc s.entries) (filter p s.waiting)
fewer s p sound = rises_to event_number 0 s.entries (suc s.entries) (filter p s.waiting)
    (omega arith) (rises-filter event_number 0 s.entries p s.waiting sound.waiting)

-- an event of the entry itself, or none
abbrev IsNew : ℕ → List WaitingEvent → Type 0
IsNew n [] = Unit {0}
IsNew n (w ∷ ws) = (w.event ≡ n) × (ws ≡ [])

new_more : (s : Summary) (ws : List WaitingEvent) → IsSound s → IsNew s.entries ws
    → RisesIn event_number 0 (suc s.entries) (s.waiting ++ ws)
new_more s [] sound new = subst (RisesIn event_number 0 (suc s.entries))
    (sym (append-nil s.waiting)) (none_more s sound)
new_more s (w ∷ ws) sound new = subst
    (λ (vs : List WaitingEvent). RisesIn event_number 0 (suc s.entries) (s.waiting ++ w ∷ vs))
    (sym new.1) (one_more s w sound new.0)

due_new : (n : ℕ) (a : Option ArmedTimer) → IsNew n (S.waiting_due n a)
due_new n None = tt
due_new n (Some a) = (refl, refl)

again_new : (s : Summary) (o : Option OpenEvent) → IsNew s.entries (S.waiting_again s o)
again_new s None = tt
again_new s (Some o) = by_case (S.is_alive s o.handle.0)
  where
    by_case : (b : Bool) → IsNew s.entries
        (cond b (record { event = s.entries; handle = o.handle; upcall = o.upcall; due = None }
        ∷ []) [])
    by_case true = (refl, refl)
    by_case false = tt

waiting_after : {N : Type 0} (e : Entry N) (s : Summary) → IsSound s
    → RisesIn event_number 0 (suc s.entries) (S.waiting_after s e)
waiting_after (Due timer) s sound =
    new_more s (S.waiting_due s.entries (S.armed_timer s timer)) sound
    (due_new s.entries (S.armed_timer s timer))
waiting_after (Ready handle kind) s sound =
    one_more s (record { event = s.entries; handle = handle; upcall = upcall_of kind; due = None })
    sound refl
waiting_after (Posted handle kind from seq) s sound =
    one_more s (record { event = s.entries; handle = handle; upcall = Notice kind; due = None })
    sound refl
waiting_after (Returned event Again note) s sound =
    new_more s (S.waiting_again s (S.open_event s event)) sound (again_new s (S.open_event s event))
waiting_after (Returned event Close note) s sound =
    fewer s (λ w. not (P.belongs_to w.handle.0 (S.event_open s event))) sound
waiting_after (Removed handle) s sound =
    fewer s (λ w. not (P.belongs_to w.handle.0 (S.of_handle handle))) sound
waiting_after (Masked handle mask) s sound =
    fewer s (λ w. not (handle.0 == w.handle.0 && P.is_without mask w.upcall)) sound
waiting_after (Cancelled timer) s sound = fewer s (λ w. not (P.is_timeout_of timer w.upcall)) sound
waiting_after (Started event) s sound = fewer s (λ w. not (event == w.event)) sound
waiting_after _ s sound = none_more s sound

-- ---- armed timers

each_with_timer : (Q : ArmedTimer → Type 0) (a : ArmedTimer) (xs : List ArmedTimer) → Q a
    → Each Q xs → Each Q (S.with_timer a xs)
each_with_timer Q a [] h each = (h, tt)
each_with_timer Q a (b ∷ xs) h each = by_case (S.comes_before a b) (each_with_timer Q a xs h each.1)
  where
    by_case : (c : Bool) → Each Q (S.with_timer a xs)
        → Each Q (cond c (a ∷ b ∷ xs) (b ∷ S.with_timer a xs))
    by_case true rest = (h, each)
    by_case false rest = (each.0, rest)

fewer_armed : (p : ArmedTimer → Bool) (xs : List ArmedTimer) → Each IsWithin xs
    → Each IsWithin (filter p xs)
fewer_armed p xs each = each_filter IsWithin IsWithin p xs (λ a h t. h) each

without_within : (event : Option Event) (xs : List ArmedTimer) → Each IsWithin xs
    → Each IsWithin (S.without_timers_of event xs)
without_within None xs each = each
without_within (Some event) xs each = fewer_armed (λ a. not (a.handle.0 == event.handle)) xs each

-- the next deadline is near the moment
pub next_within : (deadline every moment : ℕ) → deadline ≤ moment → every ≤ 4294967295
    → P.next_deadline deadline every moment ≤ moment + every
next_within deadline every moment reached short =
    let steps : (moment - deadline) / every * every ≤ moment - deadline =
    div-mul-le_self (moment - deadline) every in
    omega (arith, steps)

next_armed : (moment : ℕ) (handle : Handle) (due : Option DueTimer) (xs : List ArmedTimer)
    → moment ≤ 2 ^ 62 → IsReached moment due → Each IsWithin xs
    → Each IsWithin (S.with_next moment handle due xs)
next_armed moment handle None xs m reached each = each
next_armed moment handle (Some due) xs m reached each = by_case (due.every == 0)
  where
    near : P.next_deadline due.deadline due.every moment ≤ moment + due.every
    near = next_within due.deadline due.every moment reached.0 reached.1

    short : due.every ≤ 4294967295
    short = reached.1

    again : ArmedTimer
    again = record {
      deadline = P.next_deadline due.deadline due.every moment;
      timer = due.timer;
      handle = handle;
      every = due.every;
    }

    by_case : (b : Bool) → Each IsWithin
        (cond b xs (S.with_timer (record {
          deadline = P.next_deadline due.deadline due.every moment;
          timer = due.timer;
          handle = handle;
          every = due.every;
        }) xs))
    by_case true = each
    by_case false = each_with_timer IsWithin
        (record {
          deadline = P.next_deadline due.deadline due.every moment;
          timer = due.timer;
          handle = handle;
          every = due.every;
        }) xs (omega (arith, near, short), short) each

started_within : (s : Summary) (w : Option WaitingEvent) → IsSound s
    → ((v : WaitingEvent) → w ≡ Some v → IsReached s.moment v.due)
    → Each IsWithin (S.with_started s.moment w s.armed)
started_within s None sound h = sound.armed
started_within s (Some w) sound h =
    next_armed s.moment w.handle w.due s.armed sound.moment (h w refl) sound.armed

armed_after : {N : Type 0} (e : Entry N) (s : Summary) → IsSound s → Fits s e
    → Each IsWithin (S.armed_after s e)
armed_after (Scheduled timer handle first every) s sound fits =
    each_with_timer IsWithin (record {
      deadline = first;
      timer = timer;
      handle = handle;
      every = every;
    }) s.armed (fits.1, fits.2) sound.armed
armed_after (Cancelled timer) s sound fits =
    fewer_armed (λ a. not (a.timer == timer)) s.armed sound.armed
armed_after (Due timer) s sound fits = fewer_armed (λ a. not (a.timer == timer)) s.armed sound.armed
armed_after (Started event) s sound fits =
    started_within s (S.waiting_event s event) sound
    (λ w e. (found_each (λ (v : WaitingEvent). IsReached s.moment v.due)
    (λ (v : WaitingEvent). v.event == event) s.waiting w sound.dues e).0)
armed_after (Returned event Close note) s sound fits =
    without_within (S.event_open s event) s.armed sound.armed
armed_after (Removed handle) s sound fits = without_within (S.of_handle handle) s.armed sound.armed
armed_after _ s sound fits = sound.armed

-- ---- what came due

-- the first timer is found by its number, and its deadline is reached
pub first_found : (moment t : ℕ) (xs : List ArmedTimer) → S.is_first moment t xs ≡ true
    → (a : ArmedTimer) × (find (λ (b : ArmedTimer). b.timer == t) xs ≡ Some a)
    × (a.deadline ≤ moment)
first_found moment t [] h = absurd (cc)
first_found moment t (a ∷ xs) h =
    let both : ((a.timer == t) ≡ true) × (nat_le a.deadline moment ≡ true) =
    and_parts (a.timer == t) (nat_le a.deadline moment) h in (
      a,
      ap (λ b. cond b (Some a) (find (λ (c : ArmedTimer). c.timer == t) xs)) both.0,
      leb-true a.deadline moment both.1,
    )

due_reached : (moment n : ℕ) (a : Option ArmedTimer)
    → ((b : ArmedTimer) → a ≡ Some b → (b.deadline ≤ moment) × (b.every ≤ 4294967295))
    → Each (λ (w : WaitingEvent). IsReached moment w.due) (S.waiting_due n a)
due_reached moment n None h = tt
due_reached moment n (Some a) h = (h a refl, tt)

again_reached : (s : Summary) (o : Option OpenEvent)
    → Each (λ (w : WaitingEvent). IsReached s.moment w.due) (S.waiting_again s o)
again_reached s None = tt
again_reached s (Some o) = by_case (S.is_alive s o.handle.0)
  where
    by_case : (b : Bool) → Each (λ (w : WaitingEvent). IsReached s.moment w.due)
        (cond b (record { event = s.entries; handle = o.handle; upcall = o.upcall; due = None }
        ∷ []) [])
    by_case true = (tt, tt)
    by_case false = tt

reached_later : (moment later : ℕ) (due : Option DueTimer) → moment ≤ later → IsReached moment due
    → IsReached later due
reached_later moment later None l h = tt
reached_later moment later (Some due) l h = let past : due.deadline ≤ moment = h.0 in
    (omega arith, h.1)

fewer_dues : (s : Summary) (p : WaitingEvent → Bool) → IsSound s
    → Each (λ (w : WaitingEvent). IsReached s.moment w.due) (filter p s.waiting)
fewer_dues s p sound = each_filter (λ (w : WaitingEvent). IsReached s.moment w.due)
    (λ (w : WaitingEvent). IsReached s.moment w.due) p s.waiting (λ w h t. h) sound.dues

dues_after : {N : Type 0} (e : Entry N) (s : Summary) → IsSound s → Fits s e
    → Each (λ (w : WaitingEvent). IsReached (P.now_after e s.moment) w.due) (S.waiting_after s e)
dues_after (Polled now) s sound fits =
    each_same (λ (w : WaitingEvent). IsReached s.moment w.due)
    (λ (w : WaitingEvent). IsReached now w.due) s.waiting
    (λ w h. reached_later s.moment now w.due fits.0 h) sound.dues
dues_after (Due timer) s sound fits =
    each_append (λ (w : WaitingEvent). IsReached s.moment w.due) s.waiting
    (S.waiting_due s.entries (S.armed_timer s timer)) sound.dues
    (due_reached s.moment s.entries (S.armed_timer s timer) reached)
  where
    reached : (b : ArmedTimer) → S.armed_timer s timer ≡ Some b → (b.deadline ≤ s.moment)
        × (b.every ≤ 4294967295)
    reached b e =
        let first : (a : ArmedTimer) × (find (λ (c : ArmedTimer). c.timer == timer) s.armed
        ≡ Some a) × (a.deadline ≤ s.moment) = first_found s.moment timer s.armed fits in
        let same : first.0 ≡ b = some_is first.0 b (sym first.1 ∙ e) in
        let within : IsWithin b = (found_each IsWithin (λ (c : ArmedTimer). c.timer == timer)
        s.armed b sound.armed e).0 in
        (subst (λ (c : ArmedTimer). c.deadline ≤ s.moment) same first.2, within.1)
      where
        some_is : (x y : ArmedTimer) → ◌≡◌ {A = Option ArmedTimer} (Some x) (Some y) → x ≡ y
        some_is x y h = cc
dues_after (Ready handle kind) s sound fits =
    each_append (λ (w : WaitingEvent). IsReached s.moment w.due) s.waiting
    (record { event = s.entries; handle = handle; upcall = upcall_of kind; due = None } ∷ [])
    sound.dues (tt, tt)
dues_after (Posted handle kind from seq) s sound fits =
    each_append (λ (w : WaitingEvent). IsReached s.moment w.due) s.waiting
    (record { event = s.entries; handle = handle; upcall = Notice kind; due = None } ∷ [])
    sound.dues (tt, tt)
dues_after (Returned event Again note) s sound fits =
    each_append (λ (w : WaitingEvent). IsReached s.moment w.due) s.waiting
    (S.waiting_again s (S.open_event s event)) sound.dues (again_reached s (S.open_event s event))
dues_after (Returned event Close note) s sound fits =
    fewer_dues s (λ w. not (P.belongs_to w.handle.0 (S.event_open s event))) sound
dues_after (Removed handle) s sound fits =
    fewer_dues s (λ w. not (P.belongs_to w.handle.0 (S.of_handle handle))) sound
dues_after (Masked handle mask) s sound fits =
    fewer_dues s (λ w. not (handle.0 == w.handle.0 && P.is_without mask w.upcall)) sound
dues_after (Cancelled timer) s sound fits =
    fewer_dues s (λ w. not (P.is_timeout_of timer w.upcall)) sound
dues_after (Started event) s sound fits = fewer_dues s (λ w. not (event == w.event)) sound
dues_after _ s sound fits = sound.dues

-- ---- how often a timer is named

abbrev of_timer : ℕ → ArmedTimer → Bool
of_timer t a = a.timer == t

abbrev of_due : ℕ → WaitingEvent → Bool
of_due t w = is_due_of t w.due

-- no due is no timer's
no_due : (t : ℕ) (ws vs : List WaitingEvent) → count (of_due t) vs ≡ 0 → (armed : List ArmedTimer)
    → times t armed (ws ++ vs) ≤ times t armed ws
no_due t ws vs h armed = omega (arith, count-append (of_due t) ws vs)

fewer_times : (t : ℕ) (p : WaitingEvent → Bool) (q : ArmedTimer → Bool) (armed : List ArmedTimer)
    (ws : List WaitingEvent) → times t (filter q armed) (filter p ws) ≤ times t armed ws
fewer_times t p q armed ws = omega
    (arith, count-filter_le (of_due t) p ws, count-filter_le (of_timer t) q armed)

fewer_waiting : (t : ℕ) (p : WaitingEvent → Bool) (armed : List ArmedTimer) (ws : List WaitingEvent)
    → times t armed (filter p ws) ≤ times t armed ws
fewer_waiting t p armed ws = omega (arith, count-filter_le (of_due t) p ws)

fewer_of : (t : ℕ) (p : WaitingEvent → Bool) (event : Option Event) (armed : List ArmedTimer)
    (ws : List WaitingEvent) → times t (S.without_timers_of event armed) (filter p ws)
    ≤ times t armed ws
fewer_of t p None armed ws = fewer_waiting t p armed ws
fewer_of t p (Some event) armed ws =
    fewer_times t p (λ a. not (a.handle.0 == event.handle)) armed ws

again_count : (t : ℕ) (s : Summary) (o : Option OpenEvent)
    → count (of_due t) (S.waiting_again s o) ≡ 0
again_count t s None = refl
again_count t s (Some o) = by_case (S.is_alive s o.handle.0)
  where
    by_case : (b : Bool) → count (of_due t)
        (cond b (record { event = s.entries; handle = o.handle; upcall = o.upcall; due = None }
        ∷ []) []) ≡ 0
    by_case true = refl
    by_case false = refl

-- a timer that comes due leaves the armed ones and waits
due_times : (t n timer : ℕ) (o : Option ArmedTimer) (armed : List ArmedTimer)
    (ws : List WaitingEvent) → find (λ (a : ArmedTimer). a.timer == timer) armed ≡ o
    → times t (S.without_timer timer armed) (ws ++ S.waiting_due n o) ≤ times t armed ws
due_times t n timer None armed ws h =
    omega (
      arith,
      count-filter_le (of_timer t) (λ (a : ArmedTimer). not (a.timer == timer)) armed,
      ap (count (of_due t)) (append-nil ws),
    )
due_times t n timer (Some a) armed ws h =
    let one_due : count (of_due t) (record {
      event = n;
      handle = a.handle;
      upcall = Timeout a.timer;
      due = Some (S.due_of a);
    } ∷ []) ≡ one (a.timer == t) =
    omega (
      arith,
      count_cons (of_due t)
          (record {
            event = n;
            handle = a.handle;
            upcall = Timeout a.timer;
            due = Some (S.due_of a);
          })
          [],
    ) in
    omega (
      arith,
      count-append (of_due t) ws (S.waiting_due n (Some a)),
      one_due,
      count_dropped (of_timer t) (λ (b : ArmedTimer). b.timer == timer)
          (λ (b : ArmedTimer). not (b.timer == timer)) armed a (λ b. refl) h,
    )

next_times : (t moment : ℕ) (handle : Handle) (due : Option DueTimer) (armed : List ArmedTimer)
    → count (of_timer t) (S.with_next moment handle due armed)
    ≤ count (of_timer t) armed + one (is_due_of t due)
next_times t moment handle None armed = omega arith
next_times t moment handle (Some due) armed = by_case (due.every == 0)
  where
    by_case : (b : Bool) → count (of_timer t)
        (cond b armed (S.with_timer (record {
          deadline = P.next_deadline due.deadline due.every moment;
          timer = due.timer;
          handle = handle;
          every = due.every;
        }) armed)) ≤ count (of_timer t) armed + one (due.timer == t)
    by_case true = omega arith
    by_case false = omega (
      arith,
      count-with_timer (of_timer t)
          (record {
            deadline = P.next_deadline due.deadline due.every moment;
            timer = due.timer;
            handle = handle;
            every = due.every;
          }) armed,
    )

-- an event that is started waits no longer, and its timer is armed again at most once
started_times : (t moment event : ℕ) (o : Option WaitingEvent) (armed : List ArmedTimer)
    (ws : List WaitingEvent) → find (λ (w : WaitingEvent). w.event == event) ws ≡ o
    → times t (S.with_started moment o armed)
    (filter (λ (w : WaitingEvent). not (event == w.event)) ws) ≤ times t armed ws
started_times t moment event None armed ws h =
    fewer_waiting t (λ (w : WaitingEvent). not (event == w.event)) armed ws
started_times t moment event (Some w) armed ws h =
    omega (
      arith,
      next_times t moment w.handle w.due armed,
      count_dropped (of_due t) (λ (v : WaitingEvent). v.event == event)
          (λ (v : WaitingEvent). not (event == v.event)) ws w (λ v. ap not (eqb_sym event v.event))
          h,
    )

abbrev IsSetting : {N : Type 0} → Entry N → Type 0
IsSetting (Scheduled timer handle first every) = Unit {0}
IsSetting _ = ⊥

times_after : {N : Type 0} (e : Entry N) (s : Summary) (t : ℕ) → (IsSetting e → ⊥)
    → times t (S.armed_after s e) (S.waiting_after s e) ≤ times t s.armed s.waiting
times_after (Scheduled timer handle first every) s t other = absurd (other tt)
times_after (Due timer) s t other =
    due_times t s.entries timer (S.armed_timer s timer) s.armed s.waiting refl
times_after (Ready handle kind) s t other =
    no_due t s.waiting (record {
      event = s.entries;
      handle = handle;
      upcall = upcall_of kind;
      due = None;
    } ∷ []) refl s.armed
times_after (Posted handle kind from seq) s t other =
    no_due t s.waiting (record {
      event = s.entries;
      handle = handle;
      upcall = Notice kind;
      due = None;
    } ∷ []) refl s.armed
times_after (Returned event Again note) s t other =
    no_due t s.waiting (S.waiting_again s (S.open_event s event))
    (again_count t s (S.open_event s event)) s.armed
times_after (Returned event Close note) s t other =
    fewer_of t (λ w. not (P.belongs_to w.handle.0 (S.event_open s event))) (S.event_open s event)
    s.armed s.waiting
times_after (Removed handle) s t other =
    fewer_of t (λ w. not (P.belongs_to w.handle.0 (S.of_handle handle))) (S.of_handle handle)
    s.armed s.waiting
times_after (Masked handle mask) s t other =
    fewer_waiting t (λ w. not (handle.0 == w.handle.0 && P.is_without mask w.upcall)) s.armed
    s.waiting
times_after (Cancelled timer) s t other =
    fewer_times t (λ w. not (P.is_timeout_of timer w.upcall)) (λ a. not (a.timer == timer)) s.armed
    s.waiting
times_after (Started event) s t other =
    started_times t s.moment event (S.waiting_event s event) s.armed s.waiting refl
times_after _ s t other = omega arith

set_times : (s : Summary) (a : ArmedTimer) (t : ℕ)
    → times t (S.with_timer a s.armed) s.waiting ≡ times t s.armed s.waiting + one (a.timer == t)
set_times s a t = omega (arith, count-with_timer (of_timer t) a s.armed)

set_once : (s : Summary) (a : ArmedTimer) (t : ℕ) → IsSound s → a.timer ≡ s.scheduled
    → times t s.armed s.waiting + one (a.timer == t) ≤ 1
set_once s a t sound e =
    elim (cases_eq a.timer t) [
      | inl same ↦
          let none : times t s.armed s.waiting ≡ 0 = sound.fresh t (omega arith) in
          let here : one (a.timer == t) ≡ 1 = ap one (eq-eqb a.timer t same) in
          omega (arith, none, here)
      | inr other ↦
          let here : one (a.timer == t) ≡ 0 = ap one (ne_eqb a.timer t other) in
          omega (arith, sound.once t, here)
    ]

set_fresh : (s : Summary) (a : ArmedTimer) (t : ℕ) → IsSound s → a.timer ≡ s.scheduled
    → suc s.scheduled ≤ t → times t s.armed s.waiting + one (a.timer == t) ≡ 0
set_fresh s a t sound e less =
    let none : times t s.armed s.waiting ≡ 0 = sound.fresh t (omega arith) in
    let here : one (a.timer == t) ≡ 0 =
    ap one (ne_eqb a.timer t (λ q. let no : ⊥ = omega arith in no)) in
    omega (arith, none, here)

once_after : {N : Type 0} (e : Entry N) (s : Summary) (t : ℕ) → IsSound s → Fits s e
    → times t (S.armed_after s e) (S.waiting_after s e) ≤ 1
once_after (Scheduled timer handle first every) s t sound fits =
    omega (
      arith,
      set_times s (record {
        deadline = first;
        timer = timer;
        handle = handle;
        every = every;
      }) t,
      set_once s (record {
        deadline = first;
        timer = timer;
        handle = handle;
        every = every;
      }) t sound fits.0,
    )
once_after e s t sound fits = omega (arith, times_after e s t (λ h. h), sound.once t)

fresh_after : {N : Type 0} (e : Entry N) (s : Summary) (t : ℕ) → IsSound s → Fits s e
    → S.scheduled_after e s.scheduled ≤ t → times t (S.armed_after s e) (S.waiting_after s e) ≡ 0
fresh_after (Scheduled timer handle first every) s t sound fits less =
    omega (
      arith,
      set_times s (record {
        deadline = first;
        timer = timer;
        handle = handle;
        every = every;
      }) t,
      set_fresh s (record {
        deadline = first;
        timer = timer;
        handle = handle;
        every = every;
      }) t sound fits.0 less,
    )
fresh_after e s t sound fits less = omega (arith, times_after e s t (λ h. h), sound.fresh t less)

-- ---- all of it

pub sound_after : {N : Type 0} (e : Entry N) (s : Summary) → HasNumber s → Fits s e → IsSound s
    → IsSound (step s e)
sound_after e s number fits sound = record {
  entries = omega arith;
  moment = moment_within e s sound fits;
  opened = opened_within e s sound fits;
  live = live_after e s sound fits;
  finished = finished_within e s sound.finished;
  scheduled = scheduled_within e s sound.scheduled;
  handles = rising_after e s sound fits;
  waiting = waiting_after e s sound;
  armed = armed_after e s sound fits;
  dues = dues_after e s sound fits;
  once = λ t. once_after e s t sound fits;
  fresh = λ t less. fresh_after e s t sound fits less;
}
