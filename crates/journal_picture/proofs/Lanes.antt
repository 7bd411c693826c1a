-- The mark of an entry that names a handle stands in the lane of that handle.
use Rattle.std.proofs.Common.{rules, ◌≡◌, ◌≢◌, ◌∙◌, ℕ, ◌+◌, ◌<◌, Bool, true, false, not, ◌&&◌, cond}
use Rattle.std.proofs.Common.{List, [], ◌∷◌, ◌++◌, length, get_or, Option, Some, None, option_map}
use Rattle.std.proofs.Common.{refl, sym, ap, arith, subst, length-append, ⊎_elim}
use Rattle.std.proofs.lemmas.Bool.{false≢true, and_parts, cases_eq, eqb-true, ne_eqb, eq-eqb}
use Rattle.std.proofs.lemmas.Bool.{cond-true, cond-false}
use Rattle.std.proofs.lemmas.List.{get_or_append_left, get_or-append-add}
use Rattle.std.specs.Prelude.{nat_lt, slice_index}
use Rattle.reactor_journal.specs.ev_types.specs.declared.upcall.Answer.TheVariants.{Again}
use Rattle.reactor_journal.specs.declared.entry.Entry.{Entry}
use Rattle.reactor_journal.specs.declared.entry.Entry.TheVariants.{Opened, Scheduled, Cancelled}
use Rattle.reactor_journal.specs.declared.entry.Entry.TheVariants.{Due, Ready, Posted, Stale}
use Rattle.reactor_journal.specs.declared.entry.Entry.TheVariants.{Started, Returned, Masked}
use Rattle.reactor_journal.specs.declared.entry.Entry.TheVariants.{Suspended, Resumed, Removed}
use Rattle.reactor_journal.specs.declared.entry.Entry.TheVariants.{Closed}
use Rattle.reactor_journal.specs.Event.{Timer, Event}
use Rattle.reactor_journal.specs.Past.{past_of, timer_of, is_timer_of, scheduled, event_at}
use Rattle.reactor_journal.specs.Past.{event_made, timeout_of, only_if_alive, belongs_to}
use Rattle.reactor_journal.specs.Past.{was_opened, was_removed, names}
use Rattle.reactor_journal.specs.Follow.{is_legal, may_follow}
use Rattle.reactor_journal.proofs.Basics.{may_fits, event_at-other, event_at-last}
use Rattle.log_handler.specs.declared.note.ServerNote.{ServerNote}
use Rattle.journal_picture.specs.Places.{tables, lane_for, lane_in, number_at}
use Rattle.journal_picture.specs.Laws.{StandsInItsLane}
use Rattle.journal_picture.proofs.Marking.{lanes_counted}

-- ---- numbers of a list

-- this number stands at that place
pub record Stands (numbers : List ℕ) (at number : ℕ) : Type 0 where
  pub within : at < length numbers
  pub is : slice_index numbers at ≡ number

pub stands_first : (numbers more : List ℕ) (at number : ℕ) → Stands numbers at number
    → Stands (numbers ++ more) at number
stands_first numbers more at number s = record {
  within = let long = length-append numbers more in let within = s.within in omega arith;
  is = get_or_append_left numbers more 0 at s.within ∙ s.is;
}

pub stands_last : (numbers : List ℕ) (at number : ℕ) → at ≡ length numbers
    → Stands (numbers ++ number ∷ []) at number
stands_last numbers at number last = record {
  within = let long = length-append numbers (number ∷ []) in omega arith;
  is = let there : at ≡ length numbers + 0 = omega arith in
      ap (λ (k : ℕ). get_or (numbers ++ number ∷ []) k 0) there
      ∙ get_or-append-add numbers (number ∷ []) 0 0;
}

pub number_there : (numbers : List ℕ) (at number other : ℕ) → Stands numbers at number
    → number_at numbers at other ≡ number
number_there numbers at number other s =
    let within : nat_lt at (length numbers) ≡ true = let inside = s.within in search rules in
    cond-true (nat_lt at (length numbers)) (slice_index numbers at) other within ∙ s.is

-- ---- timers

timers_counted : (handles : ℕ) (past : List (Entry ServerNote))
    → length (tables handles past).timers ≡ scheduled past
timers_counted handles [] = refl
timers_counted handles (Scheduled timer handle first every ∷ past) =
    let long = length-append (tables handles past).timers (lane_for handles handle.0 ∷ []) in
    let counted = timers_counted handles past in
    omega arith
timers_counted handles (_ ∷ past) = timers_counted handles past

-- the timer of a handle has the lane of that handle
timer_stands : (handles most : ℕ) (past : List (Entry ServerNote)) (t x : ℕ)
    → is_legal most past ≡ true → is_timer_of x (timer_of past t) ≡ true
    → Stands (tables handles past).timers t (lane_for handles x)
timer_stands handles most [] t x legal h = absurd (false≢true h)
timer_stands handles most (Scheduled timer handle first every ∷ past) t x legal h =
    let e : Entry ServerNote = Scheduled timer handle first every in
    let parts : (may_follow most past e ≡ true) × (is_legal most past ≡ true) =
    and_parts _ _ legal in
    let is : timer ≡ scheduled past = eqb-true _ _ (and_parts _ _ (may_fits most past e parts.0)).0
    in
    let counted = timers_counted handles past in
    ⊎_elim
    (λ (q : timer ≡ t).
    let new : timer_of (e ∷ past) t ≡ Some (record { handle = handle.0; every = every }) =
    cond-true _ _ _ (eq-eqb timer t q) in
    let own : handle.0 ≡ x = eqb-true _ _ (sym (ap (is_timer_of x) new) ∙ h) in
    subst (λ (y : ℕ). Stands (tables handles (e ∷ past)).timers t (lane_for handles y)) own
    (stands_last (tables handles past).timers t (lane_for handles handle.0) (omega arith)))
    (λ (q : timer ≢ t).
    let old : timer_of (e ∷ past) t ≡ timer_of past t = cond-false _ _ _ (ne_eqb timer t q) in
    stands_first (tables handles past).timers (lane_for handles handle.0 ∷ []) t
    (lane_for handles x) (timer_stands handles most past t x parts.1
    (sym (ap (is_timer_of x) old) ∙ h)))
    (cases_eq timer t)
timer_stands handles most (_ ∷ past) t x legal h =
    timer_stands handles most past t x (and_parts _ _ legal).1 h

-- ---- events

-- a timeout belongs to the handle of its timer
timeout_belongs : (t x : ℕ) (timer : Option Timer)
    → belongs_to x (option_map (timeout_of t) timer) ≡ true → is_timer_of x timer ≡ true
timeout_belongs t x None h = absurd (false≢true h)
timeout_belongs t x (Some timer) h = h

-- an event that is kept only while its handle is alive is that event
kept_belongs : (x : ℕ) (alive : ℕ → Bool) (event : Option Event)
    → belongs_to x (only_if_alive alive event) ≡ true → belongs_to x event ≡ true
kept_belongs x alive None h = absurd (false≢true h)
kept_belongs x alive (Some event) h = by_life (alive event.handle) h
  where
    by_life : (b : Bool) → belongs_to x (cond b (Some event) None) ≡ true
        → belongs_to x (Some event) ≡ true
    by_life true h = h
    by_life false h = absurd (false≢true h)

-- the lanes of all events so far are those of their handles
abbrev pub EventsStand : ℕ → List (Entry ServerNote) → Type 0
EventsStand handles past = (i x : ℕ) → belongs_to x (event_at past i) ≡ true
    → Stands (tables handles past).lanes i (lane_for handles x)

-- the lane of an entry that is an event is that of its handle
made_lane : (handles most : ℕ) (past : List (Entry ServerNote)) (e : Entry ServerNote) (x : ℕ)
    → is_legal most past ≡ true → EventsStand handles past
    → belongs_to x (event_made e (timer_of past) (event_at past)
    (λ y. was_opened past y && not (was_removed past y))) ≡ true
    → lane_in handles (tables handles past) e ≡ lane_for handles x
made_lane handles most past (Due timer) x legal stand h =
    number_there (tables handles past).timers timer (lane_for handles x) 0
    (timer_stands handles most past timer x legal
    (timeout_belongs timer x (timer_of past timer) h))
made_lane handles most past (Ready handle kind) x legal stand h =
    ap (lane_for handles) (eqb-true _ _ h)
made_lane handles most past (Posted handle kind from seq) x legal stand h =
    ap (lane_for handles) (eqb-true _ _ h)
made_lane handles most past (Returned event Again note) x legal stand h =
    number_there (tables handles past).lanes event (lane_for handles x) 0
    (stand event x (kept_belongs x (λ y. was_opened past y && not (was_removed past y))
    (event_at past event) h))
made_lane handles most past _ x legal stand h = absurd (false≢true h)

events_stand : (handles most : ℕ) (past : List (Entry ServerNote)) → is_legal most past ≡ true
    → EventsStand handles past
events_stand handles most [] legal = λ i x h. absurd (false≢true h)
events_stand handles most (e ∷ past) legal =
    let before : is_legal most past ≡ true = (and_parts _ _ legal).1 in
    let stand : EventsStand handles past = events_stand handles most past before in
    let lane = lane_in handles (tables handles past) e in
    let counted : length (tables handles past).lanes ≡ length past = lanes_counted handles past in
    λ i x h. ⊎_elim
    (λ (q : i ≡ length past).
    let own : lane ≡ lane_for handles x =
    made_lane handles most past e x before stand
    (sym (ap (belongs_to x) (event_at-last e past i q)) ∙ h) in
    subst (λ (l : ℕ). Stands (tables handles (e ∷ past)).lanes i l) own
    (stands_last (tables handles past).lanes i lane (q ∙ sym counted)))
    (λ (q : i ≢ length past). stands_first (tables handles past).lanes (lane ∷ []) i
    (lane_for handles x) (stand i x (sym (ap (belongs_to x) (event_at-other e past i q)) ∙ h)))
    (cases_eq i (length past))

-- ---- entries

named_lane : (handles most : ℕ) (past : List (Entry ServerNote)) (e : Entry ServerNote) (x : ℕ)
    → is_legal most past ≡ true → names past e x ≡ true
    → lane_in handles (tables handles past) e ≡ lane_for handles x
named_lane handles most past (Opened handle mask) x legal h = ap (lane_for handles) (eqb-true _ _ h)
named_lane handles most past (Scheduled timer handle first every) x legal h =
    ap (lane_for handles) (eqb-true _ _ h)
named_lane handles most past (Cancelled timer) x legal h =
    number_there (tables handles past).timers timer (lane_for handles x) 0
    (timer_stands handles most past timer x legal h)
named_lane handles most past (Due timer) x legal h =
    number_there (tables handles past).timers timer (lane_for handles x) 0
    (timer_stands handles most past timer x legal h)
named_lane handles most past (Ready handle kind) x legal h = ap (lane_for handles) (eqb-true _ _ h)
named_lane handles most past (Posted handle kind from seq) x legal h =
    ap (lane_for handles) (eqb-true _ _ h)
named_lane handles most past (Stale handle from seq) x legal h =
    ap (lane_for handles) (eqb-true _ _ h)
named_lane handles most past (Started event) x legal h =
    number_there (tables handles past).lanes event (lane_for handles x) 0
    (events_stand handles most past legal event x h)
named_lane handles most past (Returned event answer note) x legal h =
    number_there (tables handles past).lanes event (lane_for handles x) 0
    (events_stand handles most past legal event x h)
named_lane handles most past (Masked handle mask) x legal h = ap (lane_for handles) (eqb-true _ _ h)
named_lane handles most past (Suspended handle) x legal h = ap (lane_for handles) (eqb-true _ _ h)
named_lane handles most past (Resumed handle) x legal h = ap (lane_for handles) (eqb-true _ _ h)
named_lane handles most past (Removed handle) x legal h = ap (lane_for handles) (eqb-true _ _ h)
named_lane handles most past (Closed handle note) x legal h = ap (lane_for handles) (eqb-true _ _ h)
named_lane handles most past _ x legal h = absurd (false≢true h)

pub stands_in_lane : StandsInItsLane
stands_in_lane = λ handles most x before e legal named.
    named_lane handles most (past_of before) e x legal named
