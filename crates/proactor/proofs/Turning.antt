-- That the turns of an end are what its relations say.
use Rattle.std.proofs.Common.{◌≡◌, ◌∙◌, ℕ, arith, Bool, true, false, List, [], ◌∷◌, ◌++◌, length}
use Rattle.std.proofs.Common.{refl, sym, ap, subst, Option, Some, None}
use Rattle.std.specs.Prelude.{◌||◌, not}
use Rattle.std.specs.List.{flat_map}
use Rattle.std.proofs.lemmas.Grind.{flat_map-append}
use Rattle.ev_base.specs.ev_types.specs.declared.upcall.Answer.{Answer}
use Rattle.ev_base.specs.ev_types.specs.declared.upcall.Answer.TheVariants as answers
use Rattle.ev_base.specs.ev_types.specs.declared.upcall.Mask.{Mask}
use Rattle.ev_base.specs.ev_types.specs.declared.upcall.Upcall.{Upcall}
use Rattle.ev_base.specs.ev_types.specs.declared.upcall.Upcall.TheVariants.{Input, Output, Except}
use Rattle.ev_base.specs.ev_types.specs.declared.upcall.Upcall.TheVariants.{Timeout, Notice}
use Rattle.ev_base.specs.ev_types.specs.declared.upcall.Why.{Why}
use Rattle.ev_base.specs.ev_types.specs.declared.upcall.Why.TheVariants.{Own}
use Rattle.ev_base.specs.Counts.{Counts}
use Rattle.ev_base.specs.Terms.{Terms}
use Rattle.ev_base.specs.End.{EndFacts, IsFresh}
use Rattle.ev_base.specs.declared.end.PeerEnd.{Ghosts}
use Rattle.reactor_model.specs.reactor_journal.specs.Event.{Item, Origin}
use Rattle.reactor_model.specs.Handling.{EndsInClose, NoClose}
use Rattle.reactor_model.specs.Turns.{HasTimer, IsNotOfMine, IsTimeout, KeepsPromises, MayAct}
use Rattle.reactor_model.specs.Turns.{TakesTurn}
use Rattle.reactor_model.specs.declared.handler.Act.{Act}
use Rattle.reactor_model.specs.declared.handler.Turn.{Turn}
use Rattle.proactor.specs.declared.asynch_end.AsynchEnd.{AsynchEnd}
use Rattle.proactor.specs.declared.asynch_end.Step.{Step}
use Rattle.proactor.specs.declared.note.AsynchNote.{AsynchNote}
use Rattle.proactor.specs.declared.operation.Op.{Op}
use Rattle.proactor.specs.declared.standing.Reading.{Reading}
use Rattle.proactor.specs.declared.standing.Writing.{Writing}
use Rattle.proactor.specs.declared.sums.Sums.{Sums}
use Rattle.proactor.specs.Operations.{IsOp, Told}
use Rattle.proactor.specs.Account.{Accounts}
use Rattle.proactor.specs.Events.{Event, count_done, ends, given, given_by, some_of, starves, taken}
use Rattle.proactor.specs.Events.{taken_by, told, told_by}
use Rattle.proactor.specs.Queues.{none_stand}
use Rattle.proactor.specs.Standing.{Stands, begins_with}
use Rattle.proactor.specs.Sums.{no_sums, note_of}
use Rattle.proactor.specs.Turns.{
  State,
  Cancels,
  Course,
  NotesSo,
  Serves,
  Turns,
  answer_to,
  at_start,
}
use Rattle.proactor.specs.Turns.{OnlyLast, answer_by}
use Rattle.proactor.specs.Parts.{
  CountsMore,
  DoesPart,
  IsSummed,
  end_of,
  handler_of,
  number_of,
  standing_of,
}
use Rattle.proactor.specs.Parts.{state_of, sums_of}
use Rattle.proactor.specs.Closing.{CancelsSo}
use Rattle.proactor.specs.Ends.{AsynchFits, AsynchGone, HadTurns, MakesTurn, asynch_ends, change_by}
use Rattle.proactor.specs.Ends.{masking}
use Rattle.proactor.proofs.Events.{count_done_append, lengths, summed_none, summed_on}
use Rattle.proactor.proofs.Ordering.{accounts, completes_all, ended_so}
use Rattle.proactor.proofs.Parting.{state_is}

-- an upcall that is for neither input nor output does nothing
pub quiet : (up : Upcall) (s : State) → (up ≡ Input → ⊥) → (up ≡ Output → ⊥) → Serves up s [] s
quiet Input s no_input no_output = absurd (no_input refl)
quiet Output s no_input no_output = absurd (no_output refl)
quiet Except s no_input no_output = (refl, refl)
quiet (Timeout timer) s no_input no_output = (refl, refl)
quiet (Notice kind) s no_input no_output = (refl, refl)

-- one turn more
pub course_more : (conn : ℕ) (past : List Event) (start : State) (had : List (Item AsynchNote))
    (all : List Event) (s : State) (events : List Event) (item : Item AsynchNote) (next : State)
    → Course conn past start had all s → Turns conn all s events item next
    → Course conn past start (had ++ item ∷ []) (all ++ events) next
course_more conn past start [] all s events item next course turn = (
  events,
  next,
  subst (λ (p : List Event). Turns conn p start events item next) course.0
      (subst (λ (b : State). Turns conn all b events item next) course.1 turn),
  (ap (λ (p : List Event). p ++ events) course.0, refl),
)
course_more conn past start (x ∷ had) all s events item next course turn = (
  course.0,
  course.1,
  course.2,
  course_more conn (past ++ course.0) course.1 had all s events item next course.3 turn,
)

-- it went on until then
last_more : (had : List (Item AsynchNote)) (item : Item AsynchNote) → NoClose had
    → OnlyLast (had ++ item ∷ [])
last_more [] item going = tt
last_more (x ∷ []) item going = (going.0, tt)
last_more (x ∷ y ∷ had) item going = (going.0, last_more (y ∷ had) item going.1)

-- what was counted from the start on
counted : (more now : ℕ) → CountsMore 0 more now → Counts now more
counted more now h = subst (λ (n : ℕ). Counts now n) (omega arith) (h 0 refl)

notes_so : (conn : ℕ) (all : List Event) (sums : Sums) → IsSummed all no_sums sums
    → NotesSo conn all 0 (some_of starves all) (note_of conn 0 sums)
notes_so conn all sums h = record {
  conn_is = refl;
  read = counted (length (taken all)) sums.read h.read;
  wrote = counted (length (given all)) sums.wrote h.wrote;
  completed = counted (count_done all) sums.completed h.completed;
  cancelled_is = refl;
  no_memory = h.starved;
}

some_none : {A : Type 0} (a : A) → Some a ≡ None → ⊥
some_none a is = cc

same_mask : (answer : Answer) (was is : Bool) → is ≡ was → change_by answer was is ≡ None
same_mask answer was is same = subst (λ (b : Bool). change_by answer was b ≡ None) (sym same)
    (none_asked answer was)
  where
    none_asked : (answer : Answer) (b : Bool) → change_by answer b b ≡ None
    none_asked answers.Close b = refl
    none_asked answers.Keep true = refl
    none_asked answers.Keep false = refl
    none_asked answers.Again true = refl
    none_asked answers.Again false = refl

-- where it stands after an upcall that is for neither
stays : (up : Upcall) (s t : State) (events : List Event) → (up ≡ Input → ⊥) → (up ≡ Output → ⊥)
    → Serves up s events t → t ≡ s
stays Input s t events no_input no_output serves = absurd (no_input refl)
stays Output s t events no_input no_output serves = absurd (no_output refl)
stays Except s t events no_input no_output serves = serves.1
stays (Timeout timer) s t events no_input no_output serves = serves.1
stays (Notice kind) s t events no_input no_output serves = serves.1

-- what is cancelled takes and gives no bytes
cancels_nothing : (reads : List Reading) (writes : List Writing) (events : List Event)
    → Cancels reads writes events → (taken events ≡ []) × (given events ≡ [])
cancels_nothing [] [] events c = (ap taken c, ap given c)
cancels_nothing (read ∷ reads) writes events c =
    let rest = cancels_nothing reads writes c.1 c.3 in
    (ap taken c.4 ∙ rest.0, ap given c.4 ∙ rest.1)
cancels_nothing [] (write ∷ writes) events c =
    let rest = cancels_nothing [] writes c.1 c.3 in
    (ap taken c.4 ∙ rest.0, ap given c.4 ∙ rest.1)

still : (f : Event → List ℕ) (all closing : List Event) → flat_map f closing ≡ []
    → length (flat_map f (all ++ closing)) ≡ length (flat_map f all)
still f all closing none = let more = ap length none in omega (arith, lengths f all closing, more)

-- no timeout is answered by Again
not_again : (up : Upcall) (s next : State) (events : List Event) → IsTimeout up
    → Serves up s events next → answer_to events ≡ answers.Keep
not_again Input s next events timeout serves = absurd timeout
not_again Output s next events timeout serves = absurd timeout
not_again Except s next events timeout serves = absurd timeout
not_again (Notice kind) s next events timeout serves = absurd timeout
not_again (Timeout timer) s next events timeout serves = ap answer_to serves.0

module _ {E C : Type 0} {G : Ghosts E} (tells : E → EndFacts) (keeps : Terms → E → Type 0)
    (follows : C → Op → List Told → Type 0) where
  -- what the parts of a turn make of it
  pub makes : (up : Upcall) (old new : AsynchEnd E C G) (step : Step)
      (turn : Turn (AsynchEnd E C G) AsynchNote E)
      → DoesPart tells keeps follows (Serves up) old new step
      → turn.answer ≡ answer_by (step.over || step.starved) step.moved
      → turn.note ≡ note_of (number_of new) 0 (sums_of new)
      → turn.act ≡ masking (change_by turn.answer (not (none_stand (standing_of old).writes))
      (not (none_stand (standing_of new).writes))) → MakesTurn tells keeps follows up old new turn
  makes up old new step turn d answers notes masks = record {
    events = d.events;
    serves = d.done;
    answers = answers
        ∙ ap (λ (b : Bool). answer_by (b || step.starved) step.moved) d.step_is.over
        ∙ ap (λ (b : Bool). answer_by (some_of ends d.events || b) step.moved) d.step_is.starved
        ∙ ap (λ (b : Bool). answer_by (some_of ends d.events || some_of starves d.events) b)
        d.step_is.moved;
    sums = d.sums;
    notes = notes ∙ ap (λ (n : ℕ). note_of n 0 (sums_of new)) d.number;
    masks = masks;
    told_so = d.told_so;
    number = d.number;
    end = d.end;
  }

  pub promises : (up : Upcall) (old new : AsynchEnd E C G)
      (turn : Turn (AsynchEnd E C G) AsynchNote E) → MakesTurn tells keeps follows up old new turn
      → KeepsPromises (asynch_ends {E = E} {C = C} {G = G} tells keeps follows) up turn
  promises up old new turn m = record {
    close = λ is. subst IsNotOfMine (sym (m.masks ∙ ap (λ (a : Answer). masking
        {H = AsynchEnd E C G} {N = AsynchNote} {E = E} (change_by a
        (not (none_stand (standing_of old).writes)) (not (none_stand (standing_of new).writes))))
        is)) tt;
    timeout = λ timeout again. keep_again (sym (m.answers ∙ not_again up (state_of tells old)
        (state_of tells new) m.events timeout m.serves) ∙ again);
    timer = subst HasTimer (sym m.masks) (by (change_by turn.answer
        (not (none_stand (standing_of old).writes)) (not (none_stand (standing_of new).writes))));
    installs = λ q. absurd (false_true q);
  }
    where
      by : (mask : Option Mask) → HasTimer (masking {H = AsynchEnd E C G} {N = AsynchNote} {E = E}
          mask)
      by None = tt
      by (Some mask) = tt

      keep_again : answers.Keep ≡ answers.Again → ⊥
      keep_again q = cc

      false_true : false ≡ true → ⊥
      false_true q = cc

module _ {E C : Type 0} {G : Ghosts E} (tells : E → EndFacts) (keeps : Terms → E → Type 0)
    (follows : C → Op → List Told → Type 0) (t : Terms) where
  -- the act of a turn may be done, whatever mask it asks for
  may_mask : (up : Upcall) (origin : Origin AsynchNote)
      (act : Option (Act (AsynchEnd E C G) AsynchNote E)) (mask : Option Mask) → act ≡ masking mask
      → ((up ≡ Input → ⊥) → (up ≡ Output → ⊥) → mask ≡ None) →
      MayAct (asynch_ends {E = E} {C = C} {G = G} tells keeps follows) t up origin act
  may_mask up origin act None is other =
      subst (MayAct (asynch_ends {E = E} {C = C} {G = G} tells keeps follows) t up origin) (sym is)
      tt
  may_mask Input origin act (Some m) is other =
      subst (MayAct (asynch_ends {E = E} {C = C} {G = G} tells keeps follows) t Input origin)
      (sym is) tt
  may_mask Output origin act (Some m) is other =
      subst (MayAct (asynch_ends {E = E} {C = C} {G = G} tells keeps follows) t Output origin)
      (sym is) tt
  may_mask Except origin act (Some m) is other = absurd (some_none m (other (λ q. cc) (λ q. cc)))
  may_mask (Timeout timer) origin act (Some m) is other =
      absurd (some_none m (other (λ q. cc) (λ q. cc)))
  may_mask (Notice kind) origin act (Some m) is other =
      absurd (some_none m (other (λ q. cc) (λ q. cc)))

  -- a turn of an end is one more
  pub takes_turn : (origin : Option (Origin AsynchNote)) (up : Upcall) (now : ℕ)
      (had : List (Item AsynchNote)) (old new : AsynchEnd E C G)
      (turn : Turn (AsynchEnd E C G) AsynchNote E) → MakesTurn tells keeps follows up old new turn
      → NoClose had → AsynchFits tells keeps follows t old had
      → TakesTurn (asynch_ends {E = E} {C = C} {G = G} tells keeps follows) t origin up now had new
      turn
  takes_turn origin up now had old new turn m going h =
      let item : Item AsynchNote =
      record { upcall = up; moment = now; answer = turn.answer; note = turn.note } in
      let sums = summed_on h.all m.events no_sums (sums_of old) (sums_of new) h.sums m.sums in
      let course = course_more (number_of old) [] (at_start h.turns.start h.first) had h.all
      (state_of tells old) m.events item (state_of tells new) h.turns.course (record {
        serves = m.serves;
        answers = m.answers;
        notes = subst (λ (n : AsynchNote). NotesSo (number_of old) (h.all ++ m.events) 0
            (some_of starves (h.all ++ m.events)) n) (sym m.notes)
            (notes_so (number_of old) (h.all ++ m.events) (sums_of new) sums);
      }) in
      record {
        fits = record {
          first = h.first;
          all = h.all ++ m.events;
          turns = subst (λ (conn : ℕ). HadTurns conn h.first (had ++ item ∷ []) (h.all ++ m.events)
              (state_of tells new)) (sym m.number) (record {
                operation = h.turns.operation;
                start = h.turns.start;
                fresh = h.turns.fresh;
                course = course;
                only_last = last_more had item going;
              });
          accounts = accounts (number_of old) h.first h.turns.start (had ++ item ∷ [])
              (h.all ++ m.events) (state_of tells new) h.turns.fresh course
              (last_more had item going);
          sums = sums;
          told_so = subst (follows (handler_of new) h.first)
              (sym (flat_map-append told_by h.all m.events))
              (m.told_so h.first (told h.all) h.told_so);
          kept_end = m.end t h.kept_end;
        };
        act = may_mask up (record { note = turn.note; moment = now }) turn.act
            (change_by turn.answer (not (none_stand (standing_of old).writes))
            (not (none_stand (standing_of new).writes))) m.masks (λ no_input no_output.
            same_mask turn.answer _ _ (ap (λ (s : State). not (none_stand s.standing.writes))
            (stays up (state_of tells old) (state_of tells new) m.events no_input no_output
            m.serves)));
      }

  -- what it leaves
  pub leaves : (handler : AsynchEnd E C G) (had : List (Item AsynchNote)) (reason : Why) (left : C)
      (sums : Sums) (cancelled : ℕ) → (reason ≡ Own → EndsInClose had)
      → AsynchFits tells keeps follows t handler had
      → CancelsSo follows (standing_of handler) (handler_of handler) left (sums_of handler) sums
      cancelled
      → AsynchGone tells keeps follows t (end_of handler) had reason
      (note_of (number_of handler) cancelled sums)
  leaves handler had reason left sums cancelled own h c =
      let nothing = cancels_nothing (standing_of handler).reads (standing_of handler).writes
      c.events
      c.cancels in record {
        conn = number_of handler;
        first = h.first;
        all = h.all;
        last = state_of tells handler;
        turns = h.turns;
        accounts = h.accounts;
        ended = λ is. ended_so (number_of handler) [] (at_start h.turns.start h.first) had h.all
            (state_of tells handler) h.turns.course (own is);
        facts = refl;
        closing = c.events;
        cancels = c.cancels;
        completes = completes_all h.first h.all (state_of tells handler) c.events
            h.accounts.operates c.cancels;
        notes = record {
          conn_is = refl;
          read = subst (λ (n : ℕ). Counts sums.read n) (sym (still taken_by h.all c.events
              nothing.0)) (subst (λ (n : ℕ). Counts n (length (taken h.all))) (sym c.read)
              (counted (length (taken h.all)) (sums_of handler).read h.sums.read));
          wrote = subst (λ (n : ℕ). Counts sums.wrote n) (sym (still given_by h.all c.events
              nothing.1)) (subst (λ (n : ℕ). Counts n (length (given h.all))) (sym c.wrote)
              (counted (length (given h.all)) (sums_of handler).wrote h.sums.wrote));
          completed = subst (λ (n : ℕ). Counts sums.completed n)
              (sym (count_done_append h.all c.events)) (let so = c.completed (count_done h.all)
              (counted (count_done h.all) (sums_of handler).completed h.sums.completed) in so);
          cancelled_is = c.counts;
          no_memory = c.starved ∙ h.sums.starved;
        };
        handler = left;
        told_so = subst (follows left h.first) (sym (flat_map-append told_by h.all c.events))
            (c.told_so h.first (told h.all) h.told_so);
        kept_end = h.kept_end;
      }

-- one that was just made
pub fits_new : {E C : Type 0} {G : Ghosts E} (tells : E → EndFacts) (keeps : Terms → E → Type 0)
    (follows : C → Op → List Told → Type 0) (t : Terms) (handler : AsynchEnd E C G) (first : Op)
    → IsOp first → IsFresh (tells (end_of handler)) → standing_of handler ≡ begins_with first
    → sums_of handler ≡ no_sums → follows (handler_of handler) first []
    → keeps t (end_of handler) → AsynchFits tells keeps follows t handler []
fits_new tells keeps follows t handler first operation fresh standing sums told kept = record {
  first = first;
  all = [];
  turns = record {
    operation = operation;
    start = tells (end_of handler);
    fresh = fresh;
    course = course;
    only_last = tt;
  };
  accounts = accounts (number_of handler) first (tells (end_of handler)) [] []
      (state_of tells handler) fresh course tt;
  sums = subst (IsSummed [] no_sums) (sym sums) (summed_none no_sums);
  told_so = told;
  kept_end = kept;
}
  where
    course : Course (number_of handler) [] (at_start (tells (end_of handler)) first) []
        [] (state_of tells handler)
    course = (
      refl,
      ap (λ (s : Stands). record { facts = tells (end_of handler); standing = s })
          standing,
    )

-- one whose end was attached
pub fits_attached : {E C : Type 0} {G : Ghosts E} (tells : E → EndFacts)
    (keeps : Terms → E → Type 0)
    (follows : C → Op → List Told → Type 0) (t : Terms) (old new : AsynchEnd E C G)
    (had : List (Item AsynchNote)) → number_of new ≡ number_of old
    → standing_of new ≡ standing_of old → sums_of new ≡ sums_of old
    → handler_of new ≡ handler_of old → tells (end_of new) ≡ tells (end_of old)
    → keeps t (end_of new) → AsynchFits tells keeps follows t old had
    → AsynchFits tells keeps follows t new had
fits_attached {C = C} tells keeps follows t old new had number standing sums handler end kept h =
    record {
      first = h.first;
      all = h.all;
      turns = subst (λ (conn : ℕ). HadTurns conn h.first had h.all (state_of tells new))
          (sym number)
          (subst (λ (s : State). HadTurns (number_of old) h.first had h.all s) (sym same) h.turns);
      accounts = subst (λ (s : State). Accounts h.first h.all s) (sym same) h.accounts;
      sums = subst (IsSummed h.all no_sums) (sym sums) h.sums;
      told_so = subst (λ (c : C). follows c h.first (told h.all)) (sym handler) h.told_so;
      kept_end = kept;
    }
  where
    same : state_of tells new ≡ state_of tells old
    same = state_is (state_of tells new) (tells (end_of old)) (standing_of old) end standing
