-- What the turns of a connector come to that closed itself, and of one that is alive.
use Rattle.std.proofs.Common.{◌≡◌, ◌⊎◌, inl, inr, List, [], ◌∷◌}
use Rattle.std.proofs.Common.{◌++◌, Bool, true, false, Some, None, refl, sym, subst, ap, ◌∙◌}
use Rattle.ev_base.specs.ev_types.specs.declared.upcall.Answer.{Answer}
use Rattle.ev_base.specs.ev_types.specs.declared.upcall.Answer.TheVariants.{Keep, Again, Close}
use Rattle.ev_base.specs.ev_types.specs.declared.upcall.Upcall.{Upcall}
use Rattle.ev_base.specs.ev_types.specs.declared.upcall.Upcall.TheVariants.{Input, Output, Except}
use Rattle.ev_base.specs.ev_types.specs.declared.upcall.Upcall.TheVariants.{Timeout, Notice}
use Rattle.ev_base.specs.declared.dial.Finish.{Finish}
use Rattle.ev_base.specs.declared.dial.Finish.TheVariants as finish
use Rattle.reactor_model.specs.Handling.{EndsInClose, GoesOn, NoClose}
use Rattle.reactor_model.specs.Turns.{IsTimeout}
use Rattle.reactor_model.specs.reactor_journal.specs.Event.{Item}
use Rattle.forwarder.specs.connector.specs.Connecting.{Course, Progress, Turns, TurnsBy, answer_to}
use Rattle.forwarder.specs.connector.specs.Connecting.{asked, at_start, note_of, served}
use Rattle.forwarder.specs.connector.specs.declared.note.ConnectNote.{ConnectNote}
use Rattle.forwarder.specs.connector.specs.declared.note.ConnectNote.TheVariants as note

-- ---- the last turn

-- a course of turns up to one, and from there on
record Split {N : Type 0} (start : Progress N) (had : List (Item (ConnectNote N)))
    (item : Item (ConnectNote N)) (p : Progress N) : Type 0 where
  mid : Progress N
  before : Course start had mid
  turns : Turns mid item p

split : {N : Type 0} (start : Progress N) (had : List (Item (ConnectNote N)))
    (item : Item (ConnectNote N)) (p : Progress N) → Course start (had ++ item ∷ []) p
    → Split start had item p
split {N} start [] item p course = record {
  mid = start;
  before = refl;
  turns = subst (λ (q : Progress N). Turns start item q) (sym course.2) course.1;
}
split start (first ∷ had) item p course =
    let more = split course.0 had item p course.2 in
    record { mid = more.mid; before = (course.0, course.1, more.before); turns = more.turns }

-- it was not asked, or the last answer was that the connection is not made yet
abbrev pub HasAsked : {N : Type 0} → Progress N → Type 0
HasAsked p = ((p.tries ≡ 0) × (p.last_try ≡ None)) ⊎ (p.last_try ≡ Some finish.Pause)

abbrev Asks : {N : Type 0} → Progress N → Type 0
Asks p = p.connected ≡ false → HasAsked p

asks_as : {N : Type 0} (p q : Progress N) → q ≡ p → Asks p → Asks q
asks_as {N} p q same asks = subst (λ (r : Progress N). Asks r) (sym same) asks

not_made : {X : Type 0} → true ≡ false → X
not_made q = cc

-- a turn that does not close leaves it so
asks_turn : {N : Type 0} (made : Bool) (up : Upcall) (p q : Progress N)
    (item : Item (ConnectNote N)) → p.connected ≡ made → TurnsBy made up p item q
    → GoesOn item.answer → Asks p → Asks q
asks_turn true (Timeout timer) p q item made h goes asks = asks_as p q h.leaves asks
asks_turn true Input p q item made h goes asks =
    λ none. not_made (sym made ∙ (sym (ap (λ r. r.connected) h.leaves) ∙ none))
asks_turn true Output p q item made h goes asks =
    λ none. not_made (sym made ∙ (sym (ap (λ r. r.connected) h.leaves) ∙ none))
asks_turn true Except p q item made h goes asks =
    λ none. not_made (sym made ∙ (sym (ap (λ r. r.connected) h.leaves) ∙ none))
asks_turn true (Notice kind) p q item made h goes asks =
    λ none. not_made (sym made ∙ (sym (ap (λ r. r.connected) h.leaves) ∙ none))
asks_turn false Input p q item made h goes asks = asks_as p q h.leaves asks
asks_turn false Except p q item made h goes asks = asks_as p q h.leaves asks
asks_turn false (Notice kind) p q item made h goes asks = asks_as p q h.leaves asks
asks_turn false (Timeout timer) p q item made h goes asks =
    absurd (subst GoesOn h.answers goes)
asks_turn {N} false Output p q item made h goes asks =
    by h.came h.turn.answers h.turn.leaves
  where
    by : (came : Finish) → item.answer ≡ answer_to came → q ≡ asked came p → Asks q
    by finish.Done answers leaves =
        λ none. not_made (sym (ap (λ (r : Progress N). r.connected) leaves) ∙ none)
    by finish.Pause answers leaves =
        λ none. inr (ap (λ (r : Progress N). r.last_try) leaves)
    by finish.Failed answers leaves = absurd (subst GoesOn answers goes)

asks_on : {N : Type 0} (start p : Progress N) (had : List (Item (ConnectNote N)))
    → Course start had p → NoClose had → Asks start → Asks p
asks_on start p [] course open_ asks = asks_as start p course asks
asks_on start p (item ∷ had) course open_ asks =
    asks_on course.0 p had course.2 open_.1
    (asks_turn start.connected item.upcall start course.0 item refl course.1 open_.0 asks)

asks_first : (N : Type 0) → Asks {N = N} at_start
asks_first N = λ none. inl (refl, refl)

-- how it was that a turn closed the connector
pub data LastTurn {N : Type 0} (item : Item (ConnectNote N)) (p : Progress N) : Type 0 where
  Served : (said : N) → (front : List (Item N)) → item.note ≡ note.Live said
      → p.live ≡ front ++ served item said ∷ [] → p.connected ≡ true → LastTurn item p
  Refused : item.note ≡ note.Failed → p.last_try ≡ Some finish.Failed → p.connected ≡ false
      → LastTurn item p
  TimedOut : item.note ≡ note.TimedOut item.moment → IsTimeout item.upcall
      → p.connected ≡ false → HasAsked p → LastTurn item p

keep_close : {X : Type 0} (a : Answer) → a ≡ Keep → a ≡ Close → X
keep_close a keep close = cc

again_close : {X : Type 0} → Again ≡ Close → X
again_close q = cc

keeps_close : {X : Type 0} → Keep ≡ Close → X
keeps_close q = cc

closing : {N : Type 0} (made : Bool) (up : Upcall) (p q : Progress N)
    (item : Item (ConnectNote N)) → p.connected ≡ made → item.upcall ≡ up
    → TurnsBy made up p item q → item.answer ≡ Close → Asks p → LastTurn item q
closing true (Timeout timer) p q item made is h close asks =
    keep_close item.answer h.answers close
closing true Input p q item made is h close asks =
    Served h.said p.live h.notes (ap (λ r. r.live) h.leaves)
    (ap (λ r. r.connected) h.leaves ∙ made)
closing true Output p q item made is h close asks =
    Served h.said p.live h.notes (ap (λ r. r.live) h.leaves)
    (ap (λ r. r.connected) h.leaves ∙ made)
closing true Except p q item made is h close asks =
    Served h.said p.live h.notes (ap (λ r. r.live) h.leaves)
    (ap (λ r. r.connected) h.leaves ∙ made)
closing true (Notice kind) p q item made is h close asks =
    Served h.said p.live h.notes (ap (λ r. r.live) h.leaves)
    (ap (λ r. r.connected) h.leaves ∙ made)
closing false Input p q item made is h close asks = keep_close item.answer h.answers close
closing false Except p q item made is h close asks = keep_close item.answer h.answers close
closing false (Notice kind) p q item made is h close asks =
    keep_close item.answer h.answers close
closing {N} false (Timeout timer) p q item made is h close asks =
    TimedOut h.notes (subst IsTimeout (sym is) tt) (ap (λ r. r.connected) h.leaves ∙ made)
    (subst (λ (r : Progress N). HasAsked r) (sym h.leaves) (asks made))
closing {N} false Output p q item made is h close asks =
    by h.came h.turn.answers h.turn.notes h.turn.leaves
  where
    by : (came : Finish) → item.answer ≡ answer_to came → item.note ≡ note_of came
        → q ≡ asked came p → LastTurn item q
    by finish.Done answers notes leaves = again_close (sym answers ∙ close)
    by finish.Pause answers notes leaves = keeps_close (sym answers ∙ close)
    by finish.Failed answers notes leaves =
        Refused notes (ap (λ (r : Progress N). r.last_try) leaves)
        (ap (λ (r : Progress N). r.connected) leaves)

pub last_turn : {N : Type 0} (earlier : List (Item (ConnectNote N)))
    (item : Item (ConnectNote N)) (p : Progress N) → Course at_start (earlier ++ item ∷ []) p
    → NoClose earlier → item.answer ≡ Close → LastTurn item p
last_turn {N} earlier item p course open_ close =
    let s = split at_start earlier item p course in
    closing s.mid.connected item.upcall s.mid p item refl refl s.turns close
    (asks_on at_start s.mid earlier s.before open_ (asks_first N))

-- one that is alive has asked so far
pub has_asked : {N : Type 0} (had : List (Item (ConnectNote N))) (p : Progress N)
    → Course at_start had p → NoClose had → p.connected ≡ false → HasAsked p
has_asked {N} had p course open_ = asks_on at_start p had course open_ (asks_first N)

-- a list that ends with this item, with an answer of Close, ends in Close
pub ends_in_close : {N : Type 0} (front : List (Item N)) (item : Item N) → item.answer ≡ Close
    → EndsInClose (front ++ item ∷ [])
ends_in_close [] item close = subst (λ (a : Answer). IsCloseOf a) (sym close) tt
  where
    IsCloseOf : Answer → Type 0
    IsCloseOf a = EndsInClose {N = Unit {0}} (record {
      upcall = Output;
      moment = 0;
      answer = a;
      note = tt;
    } ∷ [])
ends_in_close (first ∷ []) item close = ends_in_close [] item close
ends_in_close (first ∷ second ∷ front) item close = ends_in_close (second ∷ front) item close
