-- Turns of a connector, one after another.
use Rattle.std.proofs.Common.{◌≡◌, List, [], ◌∷◌, ◌++◌, Bool, true, false, refl, sym, subst, ap}
use Rattle.ev_base.specs.ev_types.specs.declared.upcall.Upcall.{Upcall}
use Rattle.ev_base.specs.ev_types.specs.declared.upcall.Upcall.TheVariants.{Input, Output, Except}
use Rattle.ev_base.specs.ev_types.specs.declared.upcall.Upcall.TheVariants.{Timeout, Notice}
use Rattle.reactor_model.specs.reactor_journal.specs.Event.{Item}
use Rattle.reactor_model.specs.Handling.{NoClose, GoesOn}
use Rattle.connector.specs.declared.note.ConnectNote.{ConnectNote}
use Rattle.connector.specs.Connecting.{Progress, Turns, TurnsBy, Course}

-- a course and more turns after it
pub course_more : {N : Type 0} (start : Progress N) (had items : List (Item (ConnectNote N)))
    (p q : Progress N) → Course start had p → Course p items q → Course start (had ++ items) q
course_more {N} start [] items p q first next =
    subst (λ (from : Progress N). Course from items q) first next
course_more start (item ∷ had) items p q first next =
    (first.0, first.1, course_more first.0 had items p q first.2 next)

-- a course of one turn
pub course_one : {N : Type 0} (item : Item (ConnectNote N)) (p q : Progress N) → Turns p item q
    → Course p (item ∷ []) q
course_one item p q turn = (q, turn, refl)

-- ---- the turns of the service

more_open : {N : Type 0} (had : List (Item N)) (item : Item N) → NoClose had → GoesOn item.answer
    → NoClose (had ++ item ∷ [])
more_open [] item open_ goes = (goes, tt)
more_open (x ∷ had) item open_ goes = (open_.0, more_open had item open_.1 goes)

same_open : {N : Type 0} (p q : Progress N) → q.live ≡ p.live → NoClose p.live → NoClose q.live
same_open {N} p q same open_ = subst (λ (live : List (Item N)). NoClose live) (sym same) open_

turn_open : {N : Type 0} (connected : Bool) (up : Upcall) (p q : Progress N)
    (item : Item (ConnectNote N)) → TurnsBy connected up p item q → GoesOn item.answer
    → NoClose p.live → NoClose q.live
turn_open {N} true Input p q item h goes open_ =
    subst (λ (r : Progress N). NoClose r.live) (sym h.leaves) (more_open p.live _ open_ goes)
turn_open {N} true Output p q item h goes open_ =
    subst (λ (r : Progress N). NoClose r.live) (sym h.leaves) (more_open p.live _ open_ goes)
turn_open {N} true Except p q item h goes open_ =
    subst (λ (r : Progress N). NoClose r.live) (sym h.leaves) (more_open p.live _ open_ goes)
turn_open {N} true (Notice kind) p q item h goes open_ =
    subst (λ (r : Progress N). NoClose r.live) (sym h.leaves) (more_open p.live _ open_ goes)
turn_open true (Timeout timer) p q item h goes open_ =
    same_open p q (ap (λ r. r.live) h.leaves) open_
turn_open false Output p q item h goes open_ = same_open p q (ap (λ r. r.live) h.turn.leaves) open_
turn_open false Input p q item h goes open_ = same_open p q (ap (λ r. r.live) h.leaves) open_
turn_open false Except p q item h goes open_ = same_open p q (ap (λ r. r.live) h.leaves) open_
turn_open false (Timeout timer) p q item h goes open_ =
    same_open p q (ap (λ r. r.live) h.leaves) open_
turn_open false (Notice kind) p q item h goes open_ =
    same_open p q (ap (λ r. r.live) h.leaves) open_

-- if no answer was Close, no answer of the service was
pub course_open : {N : Type 0} (start p : Progress N) (had : List (Item (ConnectNote N)))
    → NoClose start.live → Course start had p → NoClose had → NoClose p.live
course_open start p [] none course open_ = same_open start p (ap (λ r. r.live) course) none
course_open start p (item ∷ had) none course open_ =
    course_open course.0 p had (turn_open start.connected item.upcall start course.0 item course.1
    open_.0 none) course.2 open_.1
