-- Turns of a connection, one after another.
use Rattle.std.proofs.Common.{◌≡◌, ◌∙◌, ℕ, List, [], ◌∷◌, ◌++◌, true, false, inl, inr, Option, Some}
use Rattle.std.proofs.Common.{None, IsSome, refl, sym, subst, ap}
use Rattle.cdr_record.specs.ev_types.specs.declared.upcall.Answer.{Answer}
use Rattle.cdr_record.specs.ev_types.specs.declared.upcall.Answer.TheVariants.{Keep, Again, Close}
use Rattle.cdr_record.specs.ev_types.specs.declared.upcall.Upcall.{Upcall}
use Rattle.cdr_record.specs.ev_types.specs.declared.upcall.Upcall.TheVariants.{Input, Output}
use Rattle.cdr_record.specs.ev_types.specs.declared.upcall.Upcall.TheVariants.{Except, Timeout}
use Rattle.cdr_record.specs.ev_types.specs.declared.upcall.Upcall.TheVariants.{Notice}
use Rattle.ev_base.specs.declared.source.Got.{Got}
use Rattle.ev_base.specs.declared.source.Got.TheVariants as got
use Rattle.cdr_record.specs.Decoding.{Stop, Clean, Partial, Malformed}
use Rattle.log_lines.specs.declared.end_kind.EndKind.{EndKind}
use Rattle.log_lines.specs.declared.end_kind.EndKind.TheVariants as end
use Rattle.line_sink.specs.reactor_journal.specs.Event.{Item}
use Rattle.line_sink.specs.reactor_model.specs.Handling.{NoClose, EndsInClose, GoesOn, IsClose}
use Rattle.log_handler.specs.declared.note.ServerNote.{ServerNote}
use Rattle.log_handler.specs.Connection.{Progress, Turns, Course, ServesUpcall, ServesRead}
use Rattle.log_handler.specs.Connection.{AnswersTimeout, answer_to, kept_at, is_idle}

-- a course and more turns after it
pub course-more : (conn : ℕ) (idle : Option ℕ) (start : Progress)
    (had items : List (Item ServerNote)) (p q : Progress) →
    Course conn idle start had p → Course conn idle p items q
    → Course conn idle start (had ++ items) q
course-more conn idle start [] items p q first next =
    subst (λ (from : Progress). Course conn idle from items q) first next
course-more conn idle start (item ∷ had) items p q first next =
    (first.0, first.1, course-more conn idle first.0 had items p q first.2 next)

-- a course of one turn
pub course-one : (conn : ℕ) (idle : Option ℕ) (item : Item ServerNote) (p q : Progress)
    → Turns conn idle p item q → Course conn idle p (item ∷ []) q
course-one conn idle item p q turn = (q, turn, refl)

-- the answer of a turn tells whether the connection ended by it
abbrev pub EndsAs : Answer → Option EndKind → Type 0
EndsAs Keep kept = kept ≡ None
EndsAs Again kept = kept ≡ None
EndsAs Close kept = IsSome kept

ends-as : (a b : Answer) (k l : Option EndKind) → a ≡ b → k ≡ l → EndsAs b l → EndsAs a k
ends-as a b k l e f h = subst (λ (x : Answer). EndsAs x k) (sym e)
    (subst (λ (x : Option EndKind). EndsAs b x) (sym f) h)

ends-stop : (s : Stop) → EndsAs (answer_to s) (kept_at s)
ends-stop Clean = refl
ends-stop (Partial n) = refl
ends-stop (Malformed at) = refl

ends-read : (conn : ℕ) (gave : Got) (bytes : List ℕ) (telling : _) (p q : Progress)
    (item : Item ServerNote) → ServesRead conn p gave bytes telling item q
    → EndsAs item.answer q.kept
ends-read conn (got.Bytes n) bytes telling p q item h = elim h.1.told [
  | inl d ↦ ends-as item.answer _ q.kept _ d.answers d.ends (ends-stop _)
  | inr l ↦ ends-as item.answer Close q.kept (Some end.NoMemory) l.answers l.ends refl
]
ends-read conn got.Pause bytes telling p q item h =
    ends-as item.answer Keep q.kept None h.answers (ap (λ (r : Progress). r.kept) h.leaves) refl
ends-read conn got.Over bytes telling p q item h =
    ends-as item.answer Close q.kept (Some _) h.answers (ap (λ (r : Progress). r.kept) h.leaves)
    refl
ends-read conn got.Failed bytes telling p q item h =
    ends-as item.answer Close q.kept (Some end.Failed) h.answers
    (ap (λ (r : Progress). r.kept) h.leaves) refl

ends-timeout : (conn : ℕ) (quiet : _) (p q : Progress) (item : Item ServerNote)
    → AnswersTimeout quiet conn p item q → EndsAs item.answer q.kept
ends-timeout conn true p q item h =
    ends-as item.answer Close q.kept (Some end.Idle) h.answers
    (ap (λ (r : Progress). r.kept) h.leaves) refl
ends-timeout conn false p q item h =
    ends-as item.answer Keep q.kept None h.answers (ap (λ (r : Progress). r.kept) h.leaves) refl

ends-upcall : (up : Upcall) (conn : ℕ) (idle : Option ℕ) (p q : Progress) (item : Item ServerNote)
    → ServesUpcall up conn idle p item q → EndsAs item.answer q.kept
ends-upcall Input conn idle p q item h = ends-read conn h.gave h.bytes q.telling p q item h.serves
ends-upcall (Timeout timer) conn idle p q item h =
    ends-timeout conn (is_idle idle p.last item.moment) p q item h
ends-upcall Output conn idle p q item h =
    ends-as item.answer Keep q.kept None h.answers (ap (λ (r : Progress). r.kept) h.leaves) refl
ends-upcall Except conn idle p q item h =
    ends-as item.answer Keep q.kept None h.answers (ap (λ (r : Progress). r.kept) h.leaves) refl
ends-upcall (Notice kind) conn idle p q item h =
    ends-as item.answer Keep q.kept None h.answers (ap (λ (r : Progress). r.kept) h.leaves) refl

pub ends-turn : (conn : ℕ) (idle : Option ℕ) (p q : Progress) (item : Item ServerNote)
    → Turns conn idle p item q → EndsAs item.answer q.kept
ends-turn conn idle p q item h = ends-upcall item.upcall conn idle p q item h.serves

going : (a : Answer) (kept : Option EndKind) → GoesOn a → EndsAs a kept → kept ≡ None
going Keep kept g h = h
going Again kept g h = h
going Close kept g h = absurd g

closed : (a : Answer) (kept : Option EndKind) → IsClose a → EndsAs a kept → IsSome kept
closed Keep kept g h = absurd g
closed Again kept g h = absurd g
closed Close kept g h = h

-- if no answer was Close, the connection did not end
pub course-goes : (conn : ℕ) (idle : Option ℕ) (start p : Progress) (had : List (Item ServerNote))
    → start.kept ≡ None → Course conn idle start had p → NoClose had → p.kept ≡ None
course-goes conn idle start p [] none course open_ = ap (λ (q : Progress). q.kept) course ∙ none
course-goes conn idle start p (item ∷ had) none course open_ =
    course-goes conn idle course.0 p had
    (going item.answer course.0.kept open_.0 (ends-turn conn idle start course.0 item course.1))
    course.2 open_.1

-- if the last answer was Close, it did
pub course-closed : (conn : ℕ) (idle : Option ℕ) (start p : Progress) (had : List (Item ServerNote))
    → Course conn idle start had p → EndsInClose had → IsSome p.kept
course-closed conn idle start p [] course close = absurd close
course-closed conn idle start p (item ∷ []) course close =
    subst (λ (q : Progress). IsSome q.kept) (sym course.2)
    (closed item.answer course.0.kept close (ends-turn conn idle start course.0 item course.1))
course-closed conn idle start p (item ∷ next ∷ had) course close =
    course-closed conn idle course.0 p (next ∷ had) course.2 close
