-- A turn of a connection over its story is fixed by how far that has come, by its upcall and by its
-- moment, unless it ended for want of memory.
use Rattle.std.proofs.Common.{◌≡◌, ◌≢◌, ◌∙◌, ◌⊎◌, inl, inr, ℕ, Bool, true, false, List, ◌++◌}
use Rattle.std.proofs.Common.{length, Option, Some, None, sym, subst, ap}
use Rattle.std.proofs.lemmas.List.{append_cancel_left}
use Rattle.laws_script_runs.specs.ev_types.specs.declared.upcall.Answer.{Answer}
use Rattle.laws_script_runs.specs.ev_types.specs.declared.upcall.Answer.TheVariants.{Keep, Close}
use Rattle.laws_script_runs.specs.ev_types.specs.declared.upcall.Upcall.{Upcall}
use Rattle.laws_script_runs.specs.ev_types.specs.declared.upcall.Upcall.TheVariants.{Input, Output}
use Rattle.laws_script_runs.specs.ev_types.specs.declared.upcall.Upcall.TheVariants.{Except}
use Rattle.laws_script_runs.specs.ev_types.specs.declared.upcall.Upcall.TheVariants.{Timeout}
use Rattle.laws_script_runs.specs.ev_types.specs.declared.upcall.Upcall.TheVariants.{Notice}
use Rattle.laws_script_runs.specs.ev_base.specs.Story.{Telling, TellsNext, read_answer, read_bytes}
use Rattle.laws_script_runs.specs.ev_base.specs.Story.{told_after}
use Rattle.laws_script_runs.specs.ev_base.specs.End.{Moved}
use Rattle.laws_script_runs.specs.ev_base.specs.declared.source.Got.{Got}
use Rattle.laws_script_runs.specs.ev_base.specs.declared.source.Got.TheVariants as got
use Rattle.laws_script_runs.specs.cdr_record.specs.Decoding.{decode}
use Rattle.laws_script_runs.specs.log_lines.specs.declared.end_kind.EndKind.{EndKind}
use Rattle.laws_script_runs.specs.log_lines.specs.declared.end_kind.EndKind.TheVariants as end
use Rattle.laws_script_runs.specs.reactor_journal.specs.Event.{Item}
use Rattle.laws_script_runs.specs.log_handler.specs.declared.note.ServerNote.{ServerNote}
use Rattle.laws_script_runs.specs.log_handler.specs.declared.note.ServerNote.TheVariants as note
use Rattle.laws_script_runs.specs.log_handler.specs.Connection.{Progress, Turns, ServesUpcall}
use Rattle.laws_script_runs.specs.log_handler.specs.Connection.{ServesRead, DecodesPiece}
use Rattle.laws_script_runs.specs.log_handler.specs.Connection.{LosesPiece, MakesNoRead, ReadsOnce}
use Rattle.laws_script_runs.specs.log_handler.specs.Connection.{AnswersTimeout, after_read, is_idle}
use Rattle.laws_script_runs.specs.log_handler.specs.Connection.{piece_room}

-- what a turn says, and where it leads
pub record Says (answer : Answer) (said : ServerNote) (leads : Progress) (item : Item ServerNote)
    (after : Progress) : Type 0 where
  pub answers : item.answer ≡ answer
  pub notes : item.note ≡ said
  pub leaves : after ≡ leads

pub record SameTurn (a b : Item ServerNote) (p q : Progress) : Type 0 where
  pub answer : a.answer ≡ b.answer
  pub note_is : a.note ≡ b.note
  pub after : p ≡ q

both : (answer : Answer) (said : ServerNote) (leads : Progress) (a b : Item ServerNote)
    (p q : Progress) → Says answer said leads a p → Says answer said leads b q → SameTurn a b p q
both answer said leads a b p q x y =
    record {
      answer = x.answers ∙ sym y.answers;
      note_is = x.notes ∙ sym y.notes;
      after = x.leaves ∙ sym y.leaves;
    }

record Told (old : Telling) (room : ℕ) (gave : Got) (bytes : List ℕ) (new : Option Telling) : Type 0
  where
    gives : gave ≡ read_answer room old.at old.left
    bytes_are : bytes ≡ read_bytes room old.at old.left
    leaves : new ≡ Some (told_after room old.given old.at old.left)

told_some : (old : Telling) (room : ℕ) (gave : Got) (bytes : List ℕ) (new : Option Telling)
    → TellsNext (Some old) room gave bytes new → Told old room gave bytes new
told_some old room gave bytes None h = absurd h
told_some old room gave bytes (Some new) h =
    record { gives = h.0; bytes_are = h.1; leaves = ap Some h.2 }

lost : (kept : Option EndKind) → kept ≡ Some end.NoMemory → kept ≢ Some end.NoMemory → ⊥
lost kept e h = h e

-- a piece that was decoded
decoded : (conn : ℕ) (before : Progress) (bytes : List ℕ) (item : Item ServerNote)
    (kept : Option EndKind) → DecodesPiece conn before bytes item kept
    ⊎ LosesPiece conn bytes item kept → kept ≢ Some end.NoMemory
    → DecodesPiece conn before bytes item kept
decoded conn before bytes item kept (inl d) h = d
decoded conn before bytes item kept (inr l) h = absurd (h l.ends)

same_read : (conn : ℕ) (gave : Got) (bytes : List ℕ) (telling : Option Telling) (before : Progress)
    (a b : Item ServerNote) (p q : Progress) → a.moment ≡ b.moment → p.kept ≢ Some end.NoMemory
    → q.kept ≢ Some end.NoMemory
    → ServesRead conn before gave bytes telling a p → ServesRead conn before gave bytes telling b q
    → SameTurn a b p q
same_read conn (got.Bytes n) bytes telling before a b p q moment mp mq x y =
    let d = decoded conn before bytes a p.kept x.1.told mp in
    let e = decoded conn before bytes b q.kept y.1.told mq in
    let records : d.records ≡ e.records =
    append_cancel_left (decode before.taken).records d.records e.records
    (sym d.decoded ∙ e.decoded) in
    let kept : p.kept ≡ q.kept = d.ends ∙ sym e.ends in
    record {
      answer = d.answers ∙ sym e.answers;
      note_is = d.notes ∙ ap (note.Piece conn (length bytes)) records ∙ sym e.notes;
      after = x.1.leaves
          ∙ ap (λ (k : Option EndKind). record (after_read (Moved (length bytes)) telling before)
          { taken = before.taken ++ bytes; last = a.moment; kept = k }) kept
          ∙ ap (λ (m : ℕ). record (after_read (Moved (length bytes)) telling before) {
            taken = before.taken ++ bytes;
            last = m;
            kept = q.kept;
          }) moment
          ∙ sym y.1.leaves;
    }
same_read conn got.Pause bytes telling before a b p q moment mp mq x y =
    record {
      answer = x.answers ∙ sym y.answers;
      note_is = x.notes ∙ sym y.notes;
      after = x.leaves ∙ sym y.leaves;
    }
same_read conn got.Over bytes telling before a b p q moment mp mq x y =
    record {
      answer = x.answers ∙ sym y.answers;
      note_is = x.notes ∙ sym y.notes;
      after = x.leaves ∙ sym y.leaves;
    }
same_read conn got.Failed bytes telling before a b p q moment mp mq x y =
    record {
      answer = x.answers ∙ sym y.answers;
      note_is = x.notes ∙ sym y.notes;
      after = x.leaves ∙ sym y.leaves;
    }

same_input : (conn : ℕ) (before : Progress) (old : Telling) (a b : Item ServerNote) (p q : Progress)
    → before.telling ≡ Some old → a.moment ≡ b.moment → p.kept ≢ Some end.NoMemory
    → q.kept ≢ Some end.NoMemory
    → ReadsOnce conn before a p → ReadsOnce conn before b q → SameTurn a b p q
same_input conn before old a b p q telling moment mp mq x y =
    let s = told_some old piece_room x.gave x.bytes p.telling
    (subst (λ (t : Option Telling). TellsNext t piece_room x.gave x.bytes p.telling) telling
    x.tells) in
    let r = told_some old piece_room y.gave y.bytes q.telling
    (subst (λ (t : Option Telling). TellsNext t piece_room y.gave y.bytes q.telling) telling
    y.tells) in
    let moved = subst (λ (t : Option Telling). ServesRead conn before y.gave y.bytes t b q)
    (r.leaves ∙ sym s.leaves) y.serves in
    let bytes = subst (λ (l : List ℕ). ServesRead conn before y.gave l p.telling b q)
    (r.bytes_are ∙ sym s.bytes_are) moved in
    let gave = subst (λ (g : Got). ServesRead conn before g x.bytes p.telling b q)
    (r.gives ∙ sym s.gives) bytes in
    same_read conn x.gave x.bytes p.telling before a b p q moment mp mq x.serves gave

same_silent : (conn : ℕ) (before : Progress) (answer : Answer) (kept : Option EndKind)
    (a b : Item ServerNote) (p q : Progress) → MakesNoRead conn before answer kept a p
    → MakesNoRead conn before answer kept b q → SameTurn a b p q
same_silent conn before answer kept a b p q x y =
    record {
      answer = x.answers ∙ sym y.answers;
      note_is = x.notes ∙ sym y.notes;
      after = x.leaves ∙ sym y.leaves;
    }

same_timeout : (quiet : Bool) (conn : ℕ) (before : Progress) (a b : Item ServerNote)
    (p q : Progress) → AnswersTimeout quiet conn before a p → AnswersTimeout quiet conn before b q
    → SameTurn a b p q
same_timeout true conn before a b p q x y = same_silent conn before Close _ a b p q x y
same_timeout false conn before a b p q x y = same_silent conn before Keep _ a b p q x y

same_upcall : (up : Upcall) (conn : ℕ) (idle : Option ℕ) (before : Progress) (old : Telling)
    (a b : Item ServerNote) (p q : Progress) → before.telling ≡ Some old → a.moment ≡ b.moment
    → p.kept ≢ Some end.NoMemory → q.kept ≢ Some end.NoMemory
    → ServesUpcall up conn idle before a p → ServesUpcall up conn idle before b q → SameTurn a b p q
same_upcall Input conn idle before old a b p q t m mp mq x y =
    same_input conn before old a b p q t m mp mq x y
same_upcall (Timeout timer) conn idle before old a b p q t m mp mq x y =
    same_timeout (is_idle idle before.last a.moment) conn before a b p q x
    (subst (λ (n : ℕ). AnswersTimeout (is_idle idle before.last n) conn before b q) (sym m) y)
same_upcall Output conn idle before old a b p q t m mp mq x y =
    same_silent conn before Keep None a b p q x y
same_upcall Except conn idle before old a b p q t m mp mq x y =
    same_silent conn before Keep None a b p q x y
same_upcall (Notice kind) conn idle before old a b p q t m mp mq x y =
    same_silent conn before Keep None a b p q x y

-- two turns from one place, of one upcall and at one moment, are one
pub same_turn : (conn : ℕ) (idle : Option ℕ) (before : Progress) (old : Telling)
    (a b : Item ServerNote) (p q : Progress) → before.telling ≡ Some old → a.upcall ≡ b.upcall
    → a.moment ≡ b.moment
    → p.kept ≢ Some end.NoMemory → q.kept ≢ Some end.NoMemory → Turns conn idle before a p
    → Turns conn idle before b q → SameTurn a b p q
same_turn conn idle before old a b p q t up m mp mq x y =
    same_upcall a.upcall conn idle before old a b p q t m mp mq x.serves
    (subst (λ (u : Upcall). ServesUpcall u conn idle before b q) (sym up) y.serves)
