-- That questions to its end change nothing of what a service stands for.
use Rattle.std.proofs.Common.{◌≡◌, ◌∙◌, inl, inr, ℕ, List, [], ◌∷◌, Option, Some, None, refl}
use Rattle.std.proofs.Common.{sym, ap, subst}
use Rattle.ev_base.specs.Bytes.{ReaderBytes, HasGiven}
use Rattle.ev_base.specs.End.{EndFacts, EndFinishes}
use Rattle.ev_base.specs.declared.dial.Finish.{Finish}
use Rattle.reactor_model.specs.reactor_journal.specs.Event.{Item}
use Rattle.forwarder.specs.Forwarding.{State, Course, IsAsked, at_start}
use Rattle.forwarder.specs.Forwarded.{HasTurned, HasForwarded, GoesOnFrom, UnlessWanting, IfSo}
use Rattle.forwarder.specs.Forwarded.{LastIs, LeavesTurn, HasStopped, EndedSo, IsWritten}
use Rattle.forwarder.specs.declared.note.ForwardNote.{ForwardNote}
use Rattle.forwarder.specs.declared.note.ForwardEnding.{ForwardEnding}
use Rattle.forwarder.specs.declared.note.ForwardEnding.TheVariants as end

asked_twice : (a b c : EndFacts) → IsAsked a b → IsAsked b c → IsAsked a c
asked_twice a b c first next = record {
  same = next.same ∙ ap (λ (e : EndFacts). record e {
    finishes = c.finishes;
    last_finish = c.last_finish;
    faults = c.faults;
  }) first.same;
}

pub asked_none : (a : EndFacts) → IsAsked a a
asked_none a = record { same = refl }

abbrev with_facts : State → EndFacts → State
with_facts s facts = record s { facts = facts }

-- a course after which the end was asked more
pub course_asked : (start s : State) (had : List (Item ForwardNote)) (facts : EndFacts)
    → Course start had s → IsAsked s.facts facts → Course start had (with_facts s facts)
course_asked start s [] facts course asked = (
  facts,
  asked_twice start.facts s.facts facts
      (subst (λ (x : State). IsAsked start.facts x.facts) (sym course.2) course.1) asked,
  ap (λ (x : State). with_facts x facts) course.2,
)
course_asked start s (item ∷ had) facts course asked =
    (course.0, course.1, course.2, course.3, course_asked course.1 s had facts course.4 asked)

-- ---- what is said of one ending, or of none

pub unless_more : (o : Option ForwardEnding) (P Q : Type 0) → (P → Q) → UnlessWanting o P
    → UnlessWanting o Q
unless_more None P Q go h = go h
unless_more (Some end.End) P Q go h = go h
unless_more (Some (end.BadRecord at)) P Q go h = go h
unless_more (Some end.ReadFailed) P Q go h = go h
unless_more (Some end.PeerFailed) P Q go h = go h
unless_more (Some end.NoMemory) P Q go h = tt

pub if_more : (o : Option ForwardEnding) (P Q : ForwardEnding → Type 0)
    → ((how : ForwardEnding) → P how → Q how) → IfSo o P → IfSo o Q
if_more None P Q go h = tt
if_more (Some how) P Q go h = go how h

pub stopped_as : (how : ForwardEnding) (taken : List ℕ) (e f : EndFacts) → f.over ≡ e.over
    → f.last_read ≡ e.last_read → HasStopped how taken e → HasStopped how taken f
stopped_as end.End taken e f over last h = (over ∙ h.0, h.1)
stopped_as (end.BadRecord at) taken e f over last (inl bad) = inl bad
stopped_as (end.BadRecord at) taken e f over last (inr short) = inr (over ∙ short.0, short.1)
stopped_as end.ReadFailed taken e f over last h = (last ∙ h.0, h.1)
stopped_as end.PeerFailed taken e f over last h = h
stopped_as end.NoMemory taken e f over last h = h

pub ended_as : (how : ForwardEnding) (taken rest : List ℕ) (e f : EndFacts) → f.over ≡ e.over
    → f.last_read ≡ e.last_read → f.last_write ≡ e.last_write → EndedSo how taken rest e
    → EndedSo how taken rest f
ended_as end.End taken rest e f over read write h =
    (h.0, stopped_as end.End taken e f over read h.1)
ended_as (end.BadRecord at) taken rest e f over read write h =
    (h.0, stopped_as (end.BadRecord at) taken e f over read h.1)
ended_as end.ReadFailed taken rest e f over read write h =
    (h.0, stopped_as end.ReadFailed taken e f over read h.1)
ended_as end.PeerFailed taken rest e f over read write h = write ∙ h
ended_as end.NoMemory taken rest e f over read write h = tt

-- what was forwarded hangs on nothing that a question changes
forwarded_asked : (s : State) (facts : EndFacts) → IsAsked s.facts facts → HasForwarded s
    → HasForwarded (with_facts s facts)
forwarded_asked s facts asked h =
    let is = asked.same in
    record {
      taken = h.taken;
      given = subst (λ (b : Option ReaderBytes). HasGiven b h.taken)
          (sym (ap (λ (e : EndFacts). e.bytes) is)) h.given;
      gave = ap (λ (e : EndFacts). e.gave) is ∙ h.gave;
      sent = h.sent;
      written = subst (λ (b : Option (List ℕ)). IsWritten b h.sent)
          (sym (ap (λ (e : EndFacts). e.written) is)) h.written;
      bytes = h.bytes;
      rest = h.rest;
      whole = h.whole;
      going = unless_more s.ended _ _ (λ (g : GoesOnFrom h.taken h.rest s). record {
        stands = g.stands;
        waits = g.waits;
        records = g.records;
        sound = g.sound;
      }) h.going;
      stop = if_more s.stop _ _ (λ how so. stopped_as how h.taken s.facts facts
          (ap (λ (e : EndFacts). e.over) is) (ap (λ (e : EndFacts). e.last_read) is) so) h.stop;
      ended = if_more s.ended _ _ (λ how so. ended_as how h.taken h.rest s.facts facts
          (ap (λ (e : EndFacts). e.over) is) (ap (λ (e : EndFacts). e.last_read) is)
          (ap (λ (e : EndFacts). e.last_write) is) so) h.ended;
    }

last_asked : (s : State) (facts : EndFacts) (had : List (Item ForwardNote))
    → facts.last_write ≡ s.facts.last_write → LastIs (LeavesTurn s) had
    → LastIs (LeavesTurn (with_facts s facts)) had
last_asked s facts [] same h = tt
last_asked s facts (item ∷ []) same h =
    record { notes = h.notes; paused = λ is. same ∙ h.paused is }
last_asked s facts (item ∷ next ∷ had) same h = last_asked s facts (next ∷ had) same h

-- the end of a service that had turns was asked once more
pub turned_when_asked : (s : State) (facts : EndFacts) (answer : Finish)
    (had : List (Item ForwardNote)) → EndFinishes s.facts answer facts → HasTurned had s
    → HasTurned had (with_facts s facts)
turned_when_asked s facts answer had asked h =
    let c = asked.counts in
    let is : IsAsked s.facts facts = record { same = same_but s.facts facts answer asked } in
    record {
      start = h.start;
      fresh = h.fresh;
      course = course_asked (at_start h.start) s had facts h.course is;
      forwarded = forwarded_asked s facts is h.forwarded;
      last = last_asked s facts had c.last_write h.last;
      writes = h.writes;
      counted = c.writes ∙ h.counted;
      rested = h.rested;
      goes_on = h.goes_on;
      closed = h.closed;
    }
  where
    same_but : (e f : EndFacts) (came : Finish) → EndFinishes e came f → f ≡ record e {
      finishes = f.finishes;
      last_finish = f.last_finish;
      faults = f.faults;
    }
    same_but e f came asked = let c = asked.counts in
        rw (
          sym c.listener,
          sym c.reads,
          sym c.last_read,
          sym c.writes,
          sym c.last_write,
          sym c.gave,
          sym c.over,
          sym c.bytes,
          sym c.written,
          sym c.serial,
          sym c.telling,
          sym c.offering,
        ) refl
