-- The waiting events after one more entry.
use Rattle.std.proofs.Common.{ℕ, suc, ◌≡◌, ◌<◌, ◌≤◌, ◌==◌, Bool, true, false, not, ◌&&◌, ◌||◌, List}
use Rattle.std.proofs.Common.{[], ◌∷◌, ◌++◌, length, map, refl, sym, ap, ◌∙◌, arith, cond, Option}
use Rattle.std.proofs.Common.{Some, None, option_map, is_some, ⊎_elim}
use Rattle.std.proofs.lemmas.Bool.{false≢true, and_parts, eqb-true, eq-eqb, ne_eqb, cases_Bool}
use Rattle.std.proofs.lemmas.Bool.{cond-true, cond-false, and_from, or_left, not-true}
use Rattle.std.proofs.lemmas.List.{append-nil}
use Rattle.std.specs.Option.{option_to_list}
use Rattle.std.specs.List.{filter, find, list_any}
use Rattle.ev_types.specs.declared.upcall.Upcall.TheVariants.{Timeout, Notice}
use Rattle.ev_types.specs.declared.upcall.Answer.TheVariants.{Again, Close, Keep}
use Rattle.reactor_journal.specs.Event.{Event, Timer}
use Rattle.reactor_journal.specs.declared.entry.Entry.{Entry}
use Rattle.reactor_journal.specs.declared.entry.Entry.TheVariants.{Opened, Scheduled, Cancelled}
use Rattle.reactor_journal.specs.declared.entry.Entry.TheVariants.{Polled, Due, Ready, Posted}
use Rattle.reactor_journal.specs.declared.entry.Entry.TheVariants.{Stale, Started, Returned, Masked}
use Rattle.reactor_journal.specs.declared.entry.Entry.TheVariants.{Suspended, Resumed, Refused}
use Rattle.reactor_journal.specs.declared.entry.Entry.TheVariants.{Removed, Closed, Ended}
use Rattle.reactor_journal.specs.Past as P
use Rattle.reactor_journal.specs.Follow as F
use Rattle.reactor_journal.specs.Follow.{may_follow, is_legal}
use Rattle.reactor_journal.proofs.Basics.{may_fits, event_at-last, event_at-other, event_at-within}
use Rattle.reactor_journal.proofs.OneOpen.{started_is_able, able_is_event, started_is_event}
use Rattle.reactor_journal.proofs.Timers.{due_at-last, due_at-other}
use Rattle.reactor_journal.proofs.Live.{waiting-step}
use Rattle.reactor_journal.proofs.Armed.{DueTimers, due_timers, not_added, other_deadline}
use Rattle.reactor_journal.proofs.Armed.{due_known, armed_deadline, armed_set}
use Rattle.reactor_summary.specs.declared.parts.WaitingEvent.{WaitingEvent}
use Rattle.reactor_summary.specs.declared.parts.OpenEvent.{OpenEvent}
use Rattle.reactor_summary.specs.declared.parts.ArmedTimer.{ArmedTimer}
use Rattle.reactor_summary.specs.declared.parts.DueTimer.{DueTimer}
use Rattle.reactor_summary.specs.Summary as S
use Rattle.reactor_summary.specs.Summary.{Summary}
use Rattle.reactor_summary.specs.Tells as T
use Rattle.reactor_summary.specs.Tells.{Tells, listed}
use Rattle.reactor_summary.proofs.Lists.{listed_same, filter-listed, kept}
use Rattle.reactor_summary.proofs.Opens.{event_open_is, Found, open_found, found_event}
use Rattle.reactor_summary.proofs.Reading.{alive_is}

-- ---- an event that stands already

-- the entry neither starts it nor drops it
abbrev pub stays : {N : Type 0} → Entry N → List (Entry N) → ℕ → Bool
stays e past i = not (P.starts i e) && not (P.drops_it (P.event_at past i) (P.event_at past) e)

timer_kept : {N : Type 0} (most : ℕ) (e : Entry N) (past : List (Entry N)) (n : ℕ)
    → may_follow most past e ≡ true → n < P.scheduled past
    → P.timer_of (e ∷ past) n ≡ P.timer_of past n
timer_kept most (Scheduled timer handle first every) past n may lt =
    let is : timer ≡ P.scheduled past =
    eqb-true _ _ (and_parts _ _ (may_fits most past (Scheduled timer handle first every) may)).0
    in
    cond-false _ _ _ (ne_eqb timer n (λ q. absurd (omega arith)))
timer_kept most _ past n may lt = refl

due_kept : {N : Type 0} (most : ℕ) (e : Entry N) (past : List (Entry N)) (i : ℕ)
    → is_legal most past ≡ true → may_follow most past e ≡ true → P.is_waiting past i ≡ true
    → P.starts i e ≡ false
    → (due : Option ℕ) → P.due_at past i ≡ due
    → option_map (T.due_timer (e ∷ past)) due ≡ option_map (T.due_timer past) due
due_kept most e past i legal may w s None q = refl
due_kept most e past i legal may w s (Some n) q =
    let due : DueTimers past = due_timers most past legal in
    let stays : P.deadline (e ∷ past) n ≡ P.deadline past n =
    other_deadline e past n (λ d h same. not_added most e past i n d legal may due w q s h same)
    in
    let timer : P.timer_of (e ∷ past) n ≡ P.timer_of past n =
    timer_kept most e past n may (due_known most past i n legal q) in
    ap (λ (k : ℕ). Some (record {
      timer = n;
      deadline = k;
      every = P.period (P.timer_of (e ∷ past) n);
    })) stays
    ∙ ap (λ (m : Option Timer). Some (record {
      timer = n;
      deadline = P.deadline past n;
      every = P.period m;
    })) timer

as_waiting_kept : {N : Type 0} (most : ℕ) (e : Entry N) (past : List (Entry N)) (i : ℕ)
    → is_legal most past ≡ true → may_follow most past e ≡ true → P.is_waiting past i ≡ true
    → P.starts i e ≡ false → i < length past
    → (event : Option Event) → option_map (T.as_waiting (e ∷ past) i) event
    ≡ option_map (T.as_waiting past i) event
as_waiting_kept most e past i legal may w s lt None = refl
as_waiting_kept most e past i legal may w s lt (Some event) =
    let at : P.due_at (e ∷ past) i ≡ P.due_at past i =
    due_at-other e past i (λ q. absurd (omega arith)) in
    let same : option_map (T.due_timer (e ∷ past)) (P.due_at (e ∷ past) i)
    ≡ option_map (T.due_timer past) (P.due_at past i) =
    ap (option_map (T.due_timer (e ∷ past))) at
    ∙ due_kept most e past i legal may w s (P.due_at past i) refl
    in
    ap (λ (d : Option DueTimer). Some (record {
      event = i;
      handle = record { 0 = event.handle };
      upcall = event.upcall;
      due = d;
    })) same

none_twice : (b : Bool) → ◌≡◌ {A = Option WaitingEvent} None (cond b None None)
none_twice true = refl
none_twice false = refl

pub waiting_before : {N : Type 0} (most : ℕ) (e : Entry N) (past : List (Entry N)) (i : ℕ)
    → is_legal most past ≡ true → may_follow most past e ≡ true → i < length past
    → T.waiting_event (e ∷ past) i ≡ cond (stays e past i) (T.waiting_event past i) None
waiting_before most e past i legal may lt =
    let step : P.is_waiting (e ∷ past) i ≡ (P.is_waiting past i && stays e past i) =
    waiting-step e past i lt in
    let at : P.event_at (e ∷ past) i ≡ P.event_at past i =
    event_at-other e past i (λ q. absurd (omega arith)) in
    ⊎_elim
    (λ (w : P.is_waiting past i ≡ true).
    ⊎_elim
    (λ (k : stays e past i ≡ true).
    let now : P.is_waiting (e ∷ past) i ≡ true =
    step ∙ and_from (P.is_waiting past i) (stays e past i) w k in
    let s : P.starts i e ≡ false = not-true _ (and_parts _ _ k).0 in
    cond-true _ _ _ now
    ∙ (ap (option_map (T.as_waiting (e ∷ past) i)) at
    ∙ (as_waiting_kept most e past i legal may w s lt (P.event_at past i)
    ∙ (sym (cond-true _ (option_map (T.as_waiting past i) (P.event_at past i)) None w)
    ∙ sym (cond-true _ (T.waiting_event past i) None k)))))
    (λ (k : stays e past i ≡ false).
    let now : P.is_waiting (e ∷ past) i ≡ false =
    step ∙ (ap (λ b. P.is_waiting past i && b) k ∙ ap (λ b. b && false) w) in
    cond-false _ _ _ now ∙ sym (cond-false _ (T.waiting_event past i) None k))
    (cases_Bool (stays e past i)))
    (λ (w : P.is_waiting past i ≡ false).
    let now : P.is_waiting (e ∷ past) i ≡ false = step ∙ ap (λ b. b && stays e past i) w in
    let before : T.waiting_event past i ≡ None = cond-false _ _ _ w in
    cond-false _ _ _ now ∙ (none_twice (stays e past i)
    ∙ ap (λ o. cond (stays e past i) o None) (sym before)))
    (cases_Bool (P.is_waiting past i))

-- ---- the event that the entry makes

pub no_event : {N : Type 0} (past : List (Entry N)) (i : ℕ) → length past ≤ i
    → P.event_at past i ≡ None
no_event [] i h = refl
no_event (e ∷ past) i h = event_at-other e past i (λ q. absurd (omega arith))
    ∙ no_event past i (omega arith)

not_taken : {N : Type 0} (past : List (Entry N)) (i : ℕ) → length past ≤ i
    → P.was_taken past i ≡ false
not_taken [] i h = refl
not_taken (e ∷ past) i h =
    ap (λ ev. P.drops_it ev (P.event_at past) e || P.was_taken past i)
    (no_event past i (omega arith)) ∙ not_taken past i (omega arith)

not_from : (b : Bool) → (b ≡ true → ⊥) → b ≡ false
not_from b f = ⊎_elim (λ (t : b ≡ true). absurd (f t)) (λ (n : b ≡ false). n) (cases_Bool b)

abbrev pub made : {N : Type 0} → Entry N → List (Entry N) → Option Event
made e past = P.event_made e (P.timer_of past) (P.event_at past) (P.is_alive past)

made_waits : (b s w d t : Bool) → s ≡ false → w ≡ false → d ≡ false → t ≡ false
    → (b && (not (s || w) && not (d || t))) ≡ b
made_waits b s w d t hs hw hd ht = rw (hs, hw, hd, ht) (all_true b)
  where
    all_true : (b : Bool) → (b && true) ≡ b
    all_true true = refl
    all_true false = refl

if_some : {B : Type 0} (f : Event → B) (event : Option Event)
    → cond (is_some event) (option_map f event) None ≡ option_map f event
if_some f None = refl
if_some f (Some event) = refl

pub waiting_made : {N : Type 0} (most : ℕ) (e : Entry N) (past : List (Entry N))
    → is_legal most past ≡ true → may_follow most past e ≡ true
    → T.waiting_event (e ∷ past) (length past)
    ≡ option_map (T.as_waiting (e ∷ past) (length past)) (made e past)
waiting_made most e past legal may =
    let n : ℕ = length past in
    let at : P.event_at (e ∷ past) (length past) ≡ made e past =
    event_at-last e past (length past) refl in
    let none : P.event_at past (length past) ≡ None = no_event past (length past) (omega arith) in
    let not_started_now : P.starts (length past) e ≡ false =
    not_from _ (λ s. let lt : length past < length past =
    event_at-within past (length past)
    (able_is_event past (length past) (started_is_able most past e (length past) may s)) in
    absurd (omega arith))
    in
    let not_started : P.was_started past (length past) ≡ false =
    not_from _ (λ s. let lt : length past < length past =
    event_at-within past (length past) (started_is_event most past legal (length past) s) in
    absurd (omega arith))
    in
    let not_dropped : P.drops_it (P.event_at past (length past)) (P.event_at past) e ≡ false =
    ap (λ ev. P.drops_it ev (P.event_at past) e) none in
    let waits : P.is_waiting (e ∷ past) (length past) ≡ P.is_event (e ∷ past) (length past) =
    made_waits (P.is_event (e ∷ past) (length past)) (P.starts (length past) e)
    (P.was_started past (length past))
    (P.drops_it (P.event_at past (length past)) (P.event_at past) e)
    (P.was_taken past (length past))
    not_started_now not_started not_dropped (not_taken past (length past) (omega arith))
    in
    ap (λ b. cond b (option_map (T.as_waiting (e ∷ past) (length past))
    (P.event_at (e ∷ past) (length past))) None) (waits ∙ ap is_some at)
    ∙ (ap (λ ev. cond (is_some (made e past))
    (option_map (T.as_waiting (e ∷ past) (length past)) ev) None) at
    ∙ if_some (T.as_waiting (e ∷ past) (length past)) (made e past))

-- ---- an entry that only drops or starts events

kept_is : {N : Type 0} (e : Entry N) (past : List (Entry N)) (p : WaitingEvent → Bool) (k : ℕ)
    → ((event : Event) → P.event_at past k ≡ Some event
    → p (T.as_waiting past k event) ≡ stays e past k)
    → kept p (T.waiting_event past k) ≡ cond (stays e past k) (T.waiting_event past k) None
kept_is e past p k h =
    ⊎_elim
    (λ (w : P.is_waiting past k ≡ true).
    let at : T.waiting_event past k ≡ option_map (T.as_waiting past k) (P.event_at past k) =
    cond-true _ _ _ w in
    ap (kept p) at ∙ (passes (P.event_at past k) h
    ∙ ap (λ o. cond (stays e past k) o None) (sym at)))
    (λ (w : P.is_waiting past k ≡ false).
    let at : T.waiting_event past k ≡ None = cond-false _ _ _ w in
    ap (kept p) at ∙ (none_twice (stays e past k)
    ∙ ap (λ o. cond (stays e past k) o None) (sym at)))
    (cases_Bool (P.is_waiting past k))
  where
    passes : (event : Option Event) → ((ev : Event) → event ≡ Some ev
        → p (T.as_waiting past k ev) ≡ stays e past k)
        → kept p (option_map (T.as_waiting past k) event)
        ≡ cond (stays e past k) (option_map (T.as_waiting past k) event) None
    passes None h = none_twice (stays e past k)
    passes (Some ev) h = ap (λ b. cond b (Some (T.as_waiting past k ev)) None) (h ev refl)

pub step_filters : {N : Type 0} (most : ℕ) (e : Entry N) (past : List (Entry N)) (s : Summary)
    (p : WaitingEvent → Bool) → is_legal most past ≡ true → may_follow most past e ≡ true
    → Tells past s
    → made e past ≡ None
    → ((k : ℕ) (event : Event) → P.event_at past k ≡ Some event
    → p (T.as_waiting past k event) ≡ stays e past k)
    → filter p s.waiting ≡ listed (T.waiting_event (e ∷ past)) (suc (length past))
step_filters most e past s p legal may t none h =
    ap (filter p) t.waiting
    ∙ (filter-listed p (T.waiting_event past) (length past)
    ∙ (listed_same _ (T.waiting_event (e ∷ past)) (length past)
    (λ k lt. kept_is e past p k (h k) ∙ sym (waiting_before most e past k legal may lt))
    ∙ (sym (append-nil _)
    ∙ ap (λ o. listed (T.waiting_event (e ∷ past)) (length past) ++ option_to_list o)
    (sym (waiting_made most e past legal may
    ∙ ap (option_map (T.as_waiting (e ∷ past) (length past))) none)))))

-- ---- an entry that only makes an event, or none

pub step_appends : {N : Type 0} (most : ℕ) (e : Entry N) (past : List (Entry N)) (s : Summary)
    → is_legal most past ≡ true → may_follow most past e ≡ true → Tells past s
    → ((k : ℕ) → stays e past k ≡ true)
    → s.waiting ++ option_to_list (option_map (T.as_waiting (e ∷ past) (length past)) (made e past))
    ≡ listed (T.waiting_event (e ∷ past)) (suc (length past))
step_appends most e past s legal may t h =
    ap (λ ws. ws ++ option_to_list (option_map (T.as_waiting (e ∷ past) (length past))
    (made e past)))
    (t.waiting
    ∙ listed_same (T.waiting_event past) (T.waiting_event (e ∷ past)) (length past)
    (λ k lt. sym (waiting_before most e past k legal may lt ∙ cond-true _ _ _ (h k))))
    ∙ ap (λ o. listed (T.waiting_event (e ∷ past)) (length past) ++ option_to_list o)
    (sym (waiting_made most e past legal may))

pub step_leaves : {N : Type 0} (most : ℕ) (e : Entry N) (past : List (Entry N)) (s : Summary)
    → is_legal most past ≡ true → may_follow most past e ≡ true → Tells past s
    → ((k : ℕ) → stays e past k ≡ true) → made e past ≡ None
    → s.waiting ≡ listed (T.waiting_event (e ∷ past)) (suc (length past))
step_leaves most e past s legal may t h none =
    sym (append-nil s.waiting)
    ∙ (ap (λ ev. s.waiting ++ option_to_list
    (option_map (T.as_waiting (e ∷ past) (length past)) ev)) (sym none)
    ∙ step_appends most e past s legal may t h)

-- ---- each kind of entry

quiet : {N : Type 0} (e : Entry N) (past : List (Entry N)) (k : ℕ) → P.starts k e ≡ false
    → ((event : Event) → P.drops event (P.event_at past) e ≡ false) → stays e past k ≡ true
quiet e past k s d = ap (λ b. not b && not (P.drops_it (P.event_at past k) (P.event_at past) e)) s
    ∙ ap not (none (P.event_at past k))
  where
    none : (event : Option Event) → P.drops_it event (P.event_at past) e ≡ false
    none None = refl
    none (Some event) = d event

and-true : (b : Bool) → b ≡ (b && true)
and-true true = refl
and-true false = refl

-- the timer that comes due
due_waits : {N : Type 0} (most : ℕ) (past : List (Entry N)) (s : Summary) (n : ℕ)
    → is_legal most past ≡ true → may_follow most past (Due n) ≡ true → Tells past s
    → S.waiting_due s.entries (S.armed_timer s n)
    ≡ option_to_list (option_map (T.as_waiting (Due n ∷ past) (length past))
    (made (Due n) past))
due_waits {N} most past s n legal may t =
    ap (λ list. S.waiting_due s.entries (find (λ (a : ArmedTimer). a.timer == n) list)) t.armed
    ∙ (ap (λ i. S.waiting_due i (find (λ (a : ArmedTimer). a.timer == n)
    (map (T.armed_timer past) (P.armed past)))) t.entries
    ∙ first_one (P.armed past) refl (and_parts (F.follows_due past) _
    (may_fits most past (Due n) may)).1)
  where
    known : (d : ℕ × ℕ) (timer : Option Timer) → P.timer_of past n ≡ timer → is_some timer ≡ true
        → d.1 ≡ n → d.0 ≡ P.deadline past n
        → ◌≡◌ {A = List WaitingEvent} (record {
          event = length past;
          handle = record { 0 = T.owner (P.timer_of past d.1) };
          upcall = Timeout d.1;
          due =
              Some (record { timer = d.1; deadline = d.0; every = P.period (P.timer_of past d.1) });
        }
        ∷ [])
        (option_to_list (option_map (T.as_waiting (Due n ∷ past) (length past))
        (option_map (P.timeout_of n) (P.timer_of past n))))
    known d None q h same dead = absurd (false≢true h)
    known d (Some timer) q h same dead =
        ap (λ (k : ℕ). record {
          event = length past;
          handle = record { 0 = T.owner (P.timer_of past k) };
          upcall = Timeout k;
          due = Some (record { timer = k; deadline = d.0; every = P.period (P.timer_of past k) });
        }
        ∷ []) same
        ∙ (ap (λ (k : ℕ). record {
          event = length past;
          handle = record { 0 = T.owner (P.timer_of past n) };
          upcall = Timeout n;
          due = Some (record { timer = n; deadline = k; every = P.period (P.timer_of past n) });
        } ∷ [])
        dead
        ∙ (ap (λ (m : Option Timer). record {
          event = length past;
          handle = record { 0 = T.owner m };
          upcall = Timeout n;
          due =
              Some (record {
                timer = n;
                deadline = P.deadline past n;
                every = P.period (P.timer_of past n);
              });
        } ∷ []) q
        ∙ (ap (λ (o : Option ℕ). record {
          event = length past;
          handle = record { 0 = timer.handle };
          upcall = Timeout n;
          due = option_map (T.due_timer (Due n ∷ past)) o;
        } ∷ [])
        (sym (due_at-last (Due n) past (length past) refl))
        ∙ ap (λ (m : Option Timer). option_to_list
        (option_map (T.as_waiting (Due n ∷ past) (length past))
        (option_map (P.timeout_of n) m))) (sym q))))

    first_one : (ds : List (ℕ × ℕ)) → P.armed past ≡ ds → F.is_first_due (P.now past) n ds ≡ true
        → S.waiting_due (length past) (find (λ (a : ArmedTimer). a.timer == n)
        (map (T.armed_timer past) ds)) ≡ option_to_list
        (option_map (T.as_waiting (Due n ∷ past) (length past))
        (option_map (P.timeout_of n) (P.timer_of past n)))
    first_one [] q h = absurd (false≢true h)
    first_one (d ∷ ds) q h =
        let is : (d.1 == n) ≡ true = (and_parts (d.1 == n) _ h).0 in
        let same : d.1 ≡ n = eqb-true _ _ is in
        let pair : list_any (λ (c : ℕ × ℕ). c.0 == d.0 && c.1 == n) (P.armed past) ≡ true =
        ap (list_any (λ (c : ℕ × ℕ). c.0 == d.0 && c.1 == n)) q
        ∙ or_left (d.0 == d.0 && d.1 == n) (list_any (λ (c : ℕ × ℕ). c.0 == d.0 && c.1 == n) ds)
        (and_from (d.0 == d.0) (d.1 == n) (eq-eqb d.0 d.0 refl) is)
        in
        let armed_now : P.is_armed past n ≡ true =
        ap (list_any (λ (c : ℕ × ℕ). c.1 == n)) q
        ∙ or_left (d.1 == n) (list_any (λ (c : ℕ × ℕ). c.1 == n) ds) is in
        ap (S.waiting_due (length past)) (cond-true (d.1 == n) _ _ is)
        ∙ known d (P.timer_of past n) refl (armed_set past n armed_now) same
        (armed_deadline most past d.0 n legal pair)

-- an event that is asked for once more
again_waits : {N : Type 0} (most : ℕ) (past : List (Entry N)) (s : Summary) (i : ℕ) (note : N)
    → is_legal most past ≡ true → may_follow most past (Returned i Again note) ≡ true → Tells past s
    → S.waiting_again s (S.open_event s i)
    ≡ option_to_list (option_map (T.as_waiting (Returned i Again note ∷ past) (length past))
    (made (Returned i Again note) past))
again_waits {N} most past s i note legal may t =
    let f : Found past s i = open_found past s i t (may_fits most past (Returned i Again note) may)
    in
    let event : P.event_at past i ≡ Some (S.event_of f.item) =
    sym (found_event past i (P.event_at past i) f.item f.is) in
    ap (S.waiting_again s) f.found
    ∙ (ap (λ b. cond b (record {
      event = s.entries;
      handle = f.item.handle;
      upcall = f.item.upcall;
      due = None;
    } ∷ []) []) (alive_is most past s f.item.handle.0 legal t)
    ∙ (ap (λ (k : ℕ). cond (P.is_alive past f.item.handle.0)
    (record { event = k; handle = f.item.handle; upcall = f.item.upcall; due = None } ∷ []) [])
    t.entries
    ∙ (by_cases f.item (P.is_alive past f.item.handle.0)
    ∙ ap (λ ev. option_to_list (option_map
    (T.as_waiting (Returned i Again note ∷ past) (length past))
    (P.only_if_alive (P.is_alive past) ev))) (sym event))))
  where
    by_cases : (o : OpenEvent) (b : Bool)
        → ◌≡◌ {A = List WaitingEvent} (cond b
        (record { event = length past; handle = o.handle; upcall = o.upcall; due = None } ∷ [])
        [])
        (option_to_list (option_map (T.as_waiting (Returned i Again note ∷ past) (length past))
        (cond b (Some (S.event_of o)) None)))
    by_cases o true = ap (λ (d : Option ℕ).
        record {
          event = length past;
          handle = o.handle;
          upcall = o.upcall;
          due = option_map (T.due_timer (Returned i Again note ∷ past)) d;
        } ∷ [])
        (sym (due_at-last (Returned i Again note) past (length past) refl))
    by_cases o false = refl

pub waiting_step : {N : Type 0} (most : ℕ) (e : Entry N) (past : List (Entry N)) (s : Summary)
    → is_legal most past ≡ true → may_follow most past e ≡ true → Tells past s
    → S.waiting_after s e ≡ listed (T.waiting_event (e ∷ past)) (suc (length past))
waiting_step most (Due timer) past s legal may t =
    ap (λ ws. s.waiting ++ ws) (due_waits most past s timer legal may t)
    ∙ step_appends most (Due timer) past s legal may t
    (λ k. quiet (Due timer) past k refl (λ event. refl))
waiting_step {N} most (Ready handle kind) past s legal may t =
    let e : Entry N = Ready handle kind in
    ap (λ (n : ℕ). s.waiting ++ record {
      event = n;
      handle = handle;
      upcall = P.upcall_of kind;
      due = None;
    } ∷ []) t.entries
    ∙ (ap (λ (d : Option ℕ). s.waiting
    ++ record {
      event = length past;
      handle = handle;
      upcall = P.upcall_of kind;
      due = option_map (T.due_timer (e ∷ past)) d;
    } ∷ []) (sym (due_at-last e past (length past) refl))
    ∙ step_appends most (Ready handle kind) past s legal may t
    (λ k. quiet (Ready handle kind) past k refl (λ event. refl)))
waiting_step {N} most (Posted handle kind from seq) past s legal may t =
    let e : Entry N = Posted handle kind from seq in
    ap (λ (n : ℕ). s.waiting ++ record {
      event = n;
      handle = handle;
      upcall = Notice kind;
      due = None;
    } ∷ []) t.entries
    ∙ (ap (λ (d : Option ℕ). s.waiting
    ++ record {
      event = length past;
      handle = handle;
      upcall = Notice kind;
      due = option_map (T.due_timer (e ∷ past)) d;
    } ∷ []) (sym (due_at-last e past (length past) refl))
    ∙ step_appends most (Posted handle kind from seq) past s legal may t
    (λ k. quiet (Posted handle kind from seq) past k refl (λ event. refl)))
waiting_step most (Returned event Again note) past s legal may t =
    ap (λ ws. s.waiting ++ ws) (again_waits most past s event note legal may t)
    ∙ step_appends most (Returned event Again note) past s legal may t
    (λ k. quiet (Returned event Again note) past k refl (λ ev. refl))
waiting_step {N} most (Returned event Close note) past s legal may t =
    ap (λ ev. S.without_events_of ev s.waiting)
    (event_open_is past s event t (may_fits most past (Returned event Close note) may))
    ∙ step_filters most (Returned event Close note) past s
    (λ (w : WaitingEvent). not (P.belongs_to w.handle.0 (P.event_at past event))) legal may t
    refl
    (λ k ev q. ap (λ o. not (P.drops_it {N = N} o (P.event_at past) (Returned event Close note)))
    (sym q))
waiting_step {N} most (Removed handle) past s legal may t =
    step_filters most (Removed handle) past s
    (λ (w : WaitingEvent). not (P.belongs_to w.handle.0 (S.of_handle handle))) legal may t refl
    (λ k ev q. ap (λ o. not (P.drops_it {N = N} o (P.event_at past) (Removed handle))) (sym q))
waiting_step {N} most (Masked handle mask) past s legal may t =
    step_filters most (Masked handle mask) past s
    (λ (w : WaitingEvent). not (handle.0 == w.handle.0 && P.is_without mask w.upcall)) legal may
    t refl
    (λ k ev q. ap (λ o. not (P.drops_it {N = N} o (P.event_at past) (Masked handle mask))) (sym q))
waiting_step {N} most (Cancelled timer) past s legal may t =
    step_filters most (Cancelled timer) past s
    (λ (w : WaitingEvent). not (P.is_timeout_of timer w.upcall)) legal may t refl
    (λ k ev q. ap (λ o. not (P.drops_it {N = N} o (P.event_at past) (Cancelled timer))) (sym q))
waiting_step {N} most (Started event) past s legal may t =
    step_filters most (Started event) past s (λ (w : WaitingEvent). not (event == w.event)) legal
    may t refl
    (λ k ev q. and-true (not (event == k))
    ∙ ap (λ o. not (event == k) && not (P.drops_it {N = N} o (P.event_at past) (Started event)))
    (sym q))
waiting_step most (Opened handle mask) past s legal may t =
    step_leaves most (Opened handle mask) past s legal may t
    (λ k. quiet (Opened handle mask) past k refl (λ ev. refl)) refl
waiting_step most (Scheduled timer handle first every) past s legal may t =
    step_leaves most (Scheduled timer handle first every) past s legal may t
    (λ k. quiet (Scheduled timer handle first every) past k refl (λ ev. refl)) refl
waiting_step most (Polled moment) past s legal may t =
    step_leaves most (Polled moment) past s legal may t
    (λ k. quiet (Polled moment) past k refl (λ ev. refl)) refl
waiting_step most (Stale handle from seq) past s legal may t =
    step_leaves most (Stale handle from seq) past s legal may t
    (λ k. quiet (Stale handle from seq) past k refl (λ ev. refl)) refl
waiting_step most (Returned event Keep note) past s legal may t =
    step_leaves most (Returned event Keep note) past s legal may t
    (λ k. quiet (Returned event Keep note) past k refl (λ ev. refl)) refl
waiting_step most (Suspended handle) past s legal may t =
    step_leaves most (Suspended handle) past s legal may t
    (λ k. quiet (Suspended handle) past k refl (λ ev. refl)) refl
waiting_step most (Resumed handle) past s legal may t =
    step_leaves most (Resumed handle) past s legal may t
    (λ k. quiet (Resumed handle) past k refl (λ ev. refl)) refl
waiting_step most (Refused live fault note) past s legal may t =
    step_leaves most (Refused live fault note) past s legal may t
    (λ k. quiet (Refused live fault note) past k refl (λ ev. refl)) refl
waiting_step most (Closed handle note) past s legal may t =
    step_leaves most (Closed handle note) past s legal may t
    (λ k. quiet (Closed handle note) past k refl (λ ev. refl)) refl
waiting_step most Ended past s legal may t =
    step_leaves most Ended past s legal may t (λ k. quiet Ended past k refl (λ ev. refl)) refl
