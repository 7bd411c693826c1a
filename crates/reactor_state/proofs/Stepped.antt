-- What a step makes of the tables and of the room.
use Rattle.std.proofs.Common.{ℕ, suc, ◌≡◌, ◌+◌, ◌-◌, ◌≤◌, ◌==◌, Bool, true, false, not, List, []}
use Rattle.std.proofs.Common.{◌∷◌, ◌++◌, map, refl, sym, ap, ◌∙◌, subst, cond, Option, Some, None}
use Rattle.std.proofs.Common.{arith, add-one}
use Rattle.std.specs.Prelude.{slice_get}
use Rattle.std.proofs.lemmas.List.{append-nil}
use Rattle.std.specs.List.{list_any, find, filter, remove}
use Rattle.ev_types.specs.declared.upcall.Mask.{Mask}
use Rattle.ev_types.specs.declared.upcall.Answer.{Answer}
use Rattle.ev_types.specs.declared.upcall.Answer.TheVariants.{Keep, Again, Close}
use Rattle.reactor_summary.specs.reactor_journal.specs.declared.entry.Entry.TheVariants.{Returned}
use Rattle.reactor_summary.specs.reactor_journal.specs.Past.{count}
use Rattle.reactor_summary.specs.declared.parts.LiveHandle.{LiveHandle}
use Rattle.reactor_summary.specs.declared.parts.OpenEvent.{OpenEvent}
use Rattle.reactor_summary.specs.declared.parts.WaitingEvent.{WaitingEvent}
use Rattle.reactor_summary.specs.declared.parts.ArmedTimer.{ArmedTimer}
use Rattle.reactor_summary.specs.Summary as S
use Rattle.reactor_summary.specs.Summary.{Summary}
use Rattle.reactor_summary.proofs.Lists.{any-map}
use Rattle.timer_queue.specs.declared.timer.Timer.{Timer}
use Rattle.timer_queue.specs.Timers as T
use Rattle.reactor_state.specs.declared.state.ReactorState.{ReactorState}
use Rattle.reactor_state.specs.Rises.{RisesIn}
use Rattle.reactor_state.specs.Sound.{event_number, is_due_of, times, IsReached, IsSound}
use Rattle.reactor_state.specs.Tables.{alive_count, IsOnce, armed_of, Queues, queues, by_class}
use Rattle.reactor_state.specs.Tables.{queue_of, with_queue, with_event, kept, HasArmed}
use Rattle.reactor_state.specs.State.{Numbers, numbers_in, numbers_of, HasTables, Shows, answered}
use Rattle.reactor_state.specs.State.{without_handle}
use Rattle.reactor_state.proofs.Lists.{one, filter_every, count_map, count_cons, count-append}
use Rattle.reactor_state.proofs.Lists.{count_found, count_none, count_le, found_each}
use Rattle.reactor_state.proofs.Queued.{pushed_by_class, found_by_class, taken_by_class}
use Rattle.reactor_state.proofs.Queued.{kept_by_class}

-- one entry more
pub counted : (n m : Numbers) → n ≡ m
    → record n { entries = n.entries + 1 } ≡ record m { entries = suc m.entries }
counted n m h = ap (λ (k : Numbers). record k { entries = k.entries + 1 }) h
    ∙ ap (λ k. record m { entries = k }) (add-one m.entries)

-- one handle more, which is alive
pub alive_more : (hs : List LiveHandle) (h : LiveHandle) → h.alive ≡ true
    → alive_count hs + 1 ≡ alive_count (hs ++ h ∷ [])
alive_more hs h t =
    let here : one h.alive ≡ 1 = ap one t in
    omega (
      arith,
      count-append (λ (g : LiveHandle). g.alive) hs (h ∷ []),
      count_cons (λ (g : LiveHandle). g.alive) h [],
      here,
    )

pub opened_numbers : (n m : Numbers) (alive : ℕ) → n ≡ m → m.alive + 1 ≡ alive
    → record n { opened = n.opened + 1; alive = n.alive + 1 }
    ≡ record m { opened = suc m.opened; alive = alive }
opened_numbers n m alive h more =
    ap (λ (k : Numbers). record k { opened = k.opened + 1; alive = k.alive + 1 }) h
    ∙ ap (λ k. record m { opened = k; alive = m.alive + 1 }) (add-one m.opened)
    ∙ ap (λ k. record m { opened = suc m.opened; alive = k }) more

-- the alive ones, less one that was alive
pub alive_less : (n : ℕ) (b : Bool) (hs gs is : List LiveHandle) → n ≡ alive_count hs
    → alive_count gs + cond b 1 0 ≡ alive_count is → is ≡ hs → n - cond b 1 0 ≡ alive_count gs
alive_less n b hs gs is h less same = omega (arith, ap alive_count same, less)

-- an event that is pushed
pub event_pushed : (w w' : WaitingEvent) (q q' : Queues) (ws : List WaitingEvent)
    → q' ≡ with_event w q → q ≡ by_class ws → w ≡ w' → q' ≡ by_class (ws ++ w' ∷ [])
event_pushed w w' q q' ws pushed is same =
    pushed ∙ ap (with_event w) is ∙ ap (λ (v : WaitingEvent). with_event v (by_class ws)) same
    ∙ pushed_by_class w'.upcall w' ws refl

-- those that are kept
pub events_kept : (p : WaitingEvent → Bool) (q q' : Queues) (ws : List WaitingEvent) → q' ≡ kept p q
    → q ≡ by_class ws → q' ≡ by_class (filter p ws)
events_kept p q q' ws keeps is = keeps ∙ ap (kept p) is ∙ kept_by_class p ws

-- an event that is taken
pub event_taken : (place hi : ℕ) (w : WaitingEvent) (q q' : Queues) (ws : List WaitingEvent)
    → q' ≡ with_queue w.upcall (remove (queue_of w.upcall q) place) q → q ≡ by_class ws
    → RisesIn event_number 0 hi ws → slice_get (queue_of w.upcall q) place ≡ Some w
    → q' ≡ by_class (filter (λ (v : WaitingEvent). not (w.event == v.event)) ws)
event_taken place hi w q q' ws taken is rising placed =
    taken ∙ ap (λ (r : Queues). with_queue w.upcall (remove (queue_of w.upcall r) place) r) is
    ∙ taken_by_class w.upcall hi place w ws refl rising
    (sym (ap (λ (r : Queues). slice_get (queue_of w.upcall r) place) is) ∙ placed)

pub event_found : (place hi : ℕ) (w : WaitingEvent) (q : Queues) (ws : List WaitingEvent)
    → q ≡ by_class ws → RisesIn event_number 0 hi ws
    → slice_get (queue_of w.upcall q) place ≡ Some w
    → find (λ (v : WaitingEvent). v.event == w.event) ws ≡ Some w
event_found place hi w q ws is rising placed =
    found_by_class w.upcall hi place w ws rising
    (sym (ap (λ (r : Queues). slice_get (queue_of w.upcall r) place) is) ∙ placed)

-- an event is started
abbrev pub started : Option WaitingEvent → ℕ → Summary → Summary
started o event s = record s {
  waiting = filter (λ (v : WaitingEvent). not (event == v.event)) s.waiting;
  opens = s.opens ++ S.opens_from s.moment o;
  armed = S.with_started s.moment o s.armed;
}

-- a mask, or a suspension, leaves alive what is
either_alive : (b : Bool) (g h : LiveHandle) → g.alive ≡ h.alive
    → (let k : LiveHandle = cond b g h in k.alive) ≡ h.alive
either_alive true g h e = e
either_alive false g h e = refl

pub masked_alive : (x : ℕ) (mask : Mask) (hs : List LiveHandle)
    → alive_count (map (S.with_mask x mask) hs) ≡ alive_count hs
masked_alive x mask hs = count_map (λ (h : LiveHandle). h.alive) (S.with_mask x mask) hs
    (λ h. either_alive (x == h.handle.0) (record h { mask = mask }) h refl)

pub suspended_alive : (x : ℕ) (suspended : Bool) (hs : List LiveHandle)
    → alive_count (map (S.with_suspended x suspended) hs) ≡ alive_count hs
suspended_alive x suspended hs = count_map (λ (h : LiveHandle). h.alive)
    (S.with_suspended x suspended) hs (λ h.
    either_alive (x == h.handle.0) (record h { suspended = suspended }) h refl)

-- no timer is armed twice
pub armed_once : (s : Summary) → IsSound s → IsOnce s.armed
armed_once s sound n = omega (arith, sound.once n)

map_none : (hs : List LiveHandle) → map (S.with_end None) hs ≡ hs
map_none [] = refl
map_none (h ∷ hs) = ap (λ (gs : List LiveHandle). h ∷ gs) (map_none hs)

-- no event was answered
same_answered : (answer : Answer) (s : Summary) → answered None answer s ≡ s
same_answered Keep s = refl
same_answered Again s = ap (λ (ws : List WaitingEvent). record s { waiting = ws })
    (append-nil s.waiting)
same_answered Close s = ap (λ (hs : List LiveHandle).
    record s { handles = hs; waiting = S.without_events_of None s.waiting }) (map_none s.handles)
    ∙ ap (λ (ws : List WaitingEvent). record s { waiting = ws }) (filter_every s.waiting)

module _ {Q : Type 0} where
  pub tables_counted : (timers : Q → List Timer) (state : ReactorState Q) (s : Summary)
      → HasTables timers state s → HasTables timers (record state { entries = state.entries + 1 })
      (record s { entries = suc s.entries })
  tables_counted timers state s tables =
      record {
        numbers = counted (numbers_of state) (numbers_in s) tables.numbers;
        handles = tables.handles;
        opens = tables.opens;
        waiting = tables.waiting;
        armed = tables.armed;
      }

  -- if the next number was made before
  pub tables_set : (timers : Q → List Timer) (state : ReactorState Q) (s : Summary) (k : ℕ)
      → HasTables timers state s → k ≡ s.entries + 1
      → HasTables timers (record state { entries = k }) (record s { entries = suc s.entries })
  tables_set timers state s k tables next =
      record {
        numbers = ap (λ (n : Numbers). record n { entries = k }) tables.numbers
            ∙ ap (λ e. record (numbers_in s) { entries = e }) (next ∙ add-one s.entries);
        handles = tables.handles;
        opens = tables.opens;
        waiting = tables.waiting;
        armed = tables.armed;
      }

  -- a word more for the handles that are alive
  pub alive_fits : (timers : Q → List Timer) (state : ReactorState Q) (s : Summary)
      → Shows timers state s → state.alive ≤ 4294967295
  alive_fits timers state s shows =
      let alive : state.alive ≡ alive_count s.handles =
      ap (λ (n : Numbers). n.alive) shows.tables.numbers in
      omega (
        arith,
        alive,
        count_le (λ (h : LiveHandle). h.alive) s.handles,
        shows.sound.live,
        shows.sound.opened,
      )

  pub closed_fits : (timers : Q → List Timer) (state : ReactorState Q) (s : Summary)
      → Shows timers state s → state.closed ≤ 4294967295
  closed_fits timers state s shows =
      let closed : state.closed ≡ s.closed = ap (λ (n : Numbers). n.closed) shows.tables.numbers in
      omega (arith, closed, shows.sound.live, shows.sound.opened)

  -- the due of the event that is started
  pub due_is_reached : (timers : Q → List Timer) (state : ReactorState Q) (s : Summary)
      (w : WaitingEvent) (place : ℕ) → Shows timers state s
      → slice_get (queue_of w.upcall (queues state.waiting)) place ≡ Some w
      → IsReached state.moment w.due
  due_is_reached timers state s w place shows placed =
      let moment : state.moment ≡ s.moment = ap (λ (n : Numbers). n.moment) shows.tables.numbers in
      subst (λ (m : ℕ). IsReached m w.due) (sym moment)
      (found_each (λ (v : WaitingEvent). IsReached s.moment v.due)
      (λ (v : WaitingEvent). v.event == w.event) s.waiting w shows.sound.dues
      (event_found place s.entries w (queues state.waiting) s.waiting shows.tables.waiting
      shows.sound.waiting placed)).0

  pub due_is_fresh : (timers : Q → List Timer) (state : ReactorState Q) (s : Summary)
      (w : WaitingEvent) (place t : ℕ) → Shows timers state s
      → slice_get (queue_of w.upcall (queues state.waiting)) place ≡ Some w
      → is_due_of t w.due ≡ true
      → T.is_scheduled t (timers state.armed.timers) ≡ false
  due_is_fresh timers state s w place t shows placed of_it =
      let found : find (λ (v : WaitingEvent). v.event == w.event) s.waiting ≡ Some w =
      event_found place s.entries w (queues state.waiting) s.waiting shows.tables.waiting
      shows.sound.waiting placed in
      let waits : 1 ≤ count (λ (v : WaitingEvent). is_due_of t v.due) s.waiting =
      count_found (λ (v : WaitingEvent). is_due_of t v.due)
      (λ (v : WaitingEvent). v.event == w.event) s.waiting w found of_it in
      let once : times t s.armed s.waiting ≤ 1 = shows.sound.once t in
      let none : list_any (λ (a : ArmedTimer). a.timer == t) s.armed ≡ false =
      count_none (λ (a : ArmedTimer). a.timer == t) s.armed (omega arith) in
      sym (any-map (λ (a : ArmedTimer). a.timer == t) armed_of (timers state.armed.timers))
      ∙ ap (list_any (λ (a : ArmedTimer). a.timer == t)) shows.tables.armed.timers_are ∙ none

  pub started_tables : (timers : Q → List Timer) (old new : ReactorState Q) (s : Summary)
      (w : WaitingEvent) (place : ℕ) → Shows timers old s
      → slice_get (queue_of w.upcall (queues old.waiting)) place ≡ Some w
      → numbers_of new ≡ numbers_of old → new.handles.items ≡ old.handles.items
      → new.opens.items ≡ old.opens.items
      ++ record { event = w.event; handle = w.handle; upcall = w.upcall; moment = old.moment }
      ∷ []
      → queues new.waiting ≡ with_queue w.upcall
      (remove (queue_of w.upcall (queues old.waiting)) place) (queues old.waiting)
      → ((armed : List ArmedTimer) → HasArmed timers old.armed armed
      → HasArmed timers new.armed (S.with_next old.moment w.handle w.due armed))
      → HasTables timers new (started (S.waiting_event s w.event) w.event s)
  started_tables timers old new s w place shows placed numbers handles opens waiting armed =
      let moment : old.moment ≡ s.moment = ap (λ (n : Numbers). n.moment) shows.tables.numbers in
      let found : find (λ (v : WaitingEvent). v.event == w.event) s.waiting ≡ Some w =
      event_found place s.entries w (queues old.waiting) s.waiting shows.tables.waiting
      shows.sound.waiting placed in
      subst (λ (o : Option WaitingEvent). HasTables timers new (started o w.event s)) (sym found)
      (record {
        numbers = numbers ∙ shows.tables.numbers;
        handles = handles ∙ shows.tables.handles;
        opens = opens ∙ ap (λ (os : List OpenEvent). os
            ++ record { event = w.event; handle = w.handle; upcall = w.upcall; moment = old.moment }
            ∷ []) shows.tables.opens
            ∙ ap (λ (m : ℕ). s.opens ++ record {
              event = w.event;
              handle = w.handle;
              upcall = w.upcall;
              moment = m;
            } ∷ []) moment;
        waiting = event_taken place s.entries w (queues old.waiting) (queues new.waiting) s.waiting
            waiting shows.tables.waiting shows.sound.waiting placed;
        armed = subst (λ (m : ℕ). HasArmed timers new.armed (S.with_next m w.handle w.due s.armed))
            moment (armed s.armed shows.tables.armed);
      })

  -- an answered event is what the entry says
  pub settled : {N : Type 0} (timers : Q → List Timer) (event k : ℕ) (answer : Answer) (note : N)
      (s : Summary) (state : ReactorState Q)
      → HasTables timers state (answered (S.open_event s event) answer
      (record s { opens = filter (λ (o : OpenEvent). not (event == o.event)) s.opens }))
      → k ≡ s.entries + 1 → HasTables timers (record state { entries = k })
      (S.step s (Returned event answer note))
  settled timers event k Keep note s state tables next =
      tables_set timers state (answered (S.open_event s event) Keep
      (record s { opens = filter (λ (o : OpenEvent). not (event == o.event)) s.opens })) k tables
      next
  settled timers event k Again note s state tables next =
      tables_set timers state (answered (S.open_event s event) Again
      (record s { opens = filter (λ (o : OpenEvent). not (event == o.event)) s.opens })) k tables
      next
  settled timers event k Close note s state tables next =
      tables_set timers state (answered (S.open_event s event) Close
      (record s { opens = filter (λ (o : OpenEvent). not (event == o.event)) s.opens })) k tables
      next

  pub closed_answered : (timers : Q → List Timer) (state : ReactorState Q) (event : OpenEvent)
      (found : Option OpenEvent) (answer : Answer) (s : Summary) → found ≡ Some event
      → answer ≡ Close → HasTables timers state (without_handle event.handle s)
      → HasTables timers state (answered found answer s)
  closed_answered timers state event found answer s hf ha tables =
      subst (λ (o : Option OpenEvent). HasTables timers state (answered o answer s)) (sym hf)
      (subst (λ (a : Answer). HasTables timers state (answered (Some event) a s)) (sym ha)
      tables)

  pub none_answered : (timers : Q → List Timer) (state : ReactorState Q) (found : Option OpenEvent)
      (answer : Answer) (s : Summary) → found ≡ None → HasTables timers state s
      → HasTables timers state (answered found answer s)
  none_answered timers state found answer s h tables =
      subst (λ (o : Option OpenEvent). HasTables timers state (answered o answer s)) (sym h)
      (subst (HasTables timers state) (sym (same_answered answer s)) tables)

  -- the next timer's number is of no armed one
  pub number_is_fresh : (timers : Q → List Timer) (state : ReactorState Q) (s : Summary)
      → Shows timers state s → T.is_scheduled state.scheduled (timers state.armed.timers) ≡ false
  number_is_fresh timers state s shows =
      let scheduled : state.scheduled ≡ s.scheduled =
      ap (λ (n : Numbers). n.scheduled) shows.tables.numbers in
      let fresh : times state.scheduled s.armed s.waiting ≡ 0 =
      shows.sound.fresh state.scheduled (omega arith) in
      let none : list_any (λ (a : ArmedTimer). a.timer == state.scheduled) s.armed ≡ false =
      count_none (λ (a : ArmedTimer). a.timer == state.scheduled) s.armed (omega arith) in
      sym (any-map (λ (a : ArmedTimer). a.timer == state.scheduled) armed_of
      (timers state.armed.timers)) ∙ ap (list_any
      (λ (a : ArmedTimer). a.timer == state.scheduled)) shows.tables.armed.timers_are ∙ none
