-- What stands after the last turn of a connection, and what it has taken before.
use Rattle.std.proofs.Common.{ℕ, ◌≡◌, ◌≢◌, ◌∙◌, ◌≤◌, ◌⊎◌, inl, inr, Bool, true, false, List, []}
use Rattle.std.proofs.Common.{◌∷◌, ◌++◌, length, refl, sym, ap, subst, Option, Some, None}
use Rattle.laws_script_complete.specs.ev_types.specs.declared.upcall.Upcall.{Upcall}
use Rattle.laws_script_complete.specs.ev_types.specs.declared.upcall.Upcall.TheVariants.{Input}
use Rattle.laws_script_complete.specs.ev_types.specs.declared.upcall.Upcall.TheVariants.{Output}
use Rattle.laws_script_complete.specs.ev_types.specs.declared.upcall.Upcall.TheVariants.{Except}
use Rattle.laws_script_complete.specs.ev_types.specs.declared.upcall.Upcall.TheVariants.{Timeout}
use Rattle.laws_script_complete.specs.ev_types.specs.declared.upcall.Upcall.TheVariants.{Notice}
use Rattle.laws_script_complete.specs.ev_base.specs.Story.{Telling}
use Rattle.laws_script_complete.specs.ev_base.specs.declared.source.Got.{Got}
use Rattle.laws_script_complete.specs.ev_base.specs.declared.source.Got.TheVariants
    as got
use Rattle.laws_script_complete.specs.cdr_record.specs.Decoding.{Stop, Clean}
use Rattle.laws_script_complete.specs.cdr_record.specs.Decoding.{Partial}
use Rattle.laws_script_complete.specs.cdr_record.specs.Decoding.{Malformed}
use Rattle.laws_script_complete.specs.log_lines.specs.declared.end_kind.EndKind.{EndKind}
use Rattle.laws_script_complete.specs.log_lines.specs.declared.end_kind.EndKind.TheVariants
    as end
use Rattle.laws_script_complete.specs.reactor_journal.specs.Event.{Item}
use Rattle.laws_script_complete.specs.log_handler.specs.declared.note.ServerNote.{ServerNote}
use Rattle.laws_script_complete.specs.log_handler.specs.declared.note.ServerNote.TheVariants
    as note
use Rattle.laws_script_complete.specs.log_handler.specs.Connection.{Progress}
use Rattle.laws_script_complete.specs.log_handler.specs.Connection.{Turns}
use Rattle.laws_script_complete.specs.log_handler.specs.Connection.{Course}
use Rattle.laws_script_complete.specs.log_handler.specs.Connection.{ServesUpcall}
use Rattle.laws_script_complete.specs.log_handler.specs.Connection.{ServesRead}
use Rattle.laws_script_complete.specs.log_handler.specs.Connection.{AnswersTimeout}
use Rattle.laws_script_complete.specs.log_handler.specs.Connection.{DecodesPiece}
use Rattle.laws_script_complete.specs.log_handler.specs.Connection.{LosesPiece}
use Rattle.laws_script_complete.specs.log_handler.specs.Connection.{kept_at}
use Rattle.laws_script_complete.specs.log_handler.specs.Connection.{end_of}
use Rattle.laws_script_complete.specs.log_handler.specs.Connection.{is_idle}
use Rattle.laws_script_complete.specs.log_handler.specs.Connection.{piece_room}

-- ---- turns before the last

-- the turns of a course before some more: it went on after them
pub record Earlier (conn : ℕ) (idle : Option ℕ) (start : Progress)
    (had : List (Item ServerNote)) : Type 0 where
  pub then : Progress
  pub goes_on : then.kept ≡ None
  pub course : Course conn idle start had then

pub earlier : (conn : ℕ) (idle : Option ℕ) (start p : Progress) (had : List (Item ServerNote))
    (item : Item ServerNote) (more : List (Item ServerNote))
    → Course conn idle start (had ++ item ∷ more) p → Earlier conn idle start had
earlier conn idle start p [] item more course =
    record { then = start; goes_on = course.1.goes_on; course = refl }
earlier conn idle start p (first ∷ had) item more course =
    let e = earlier conn idle course.0 p had item more course.2 in
    record { then = e.then; goes_on = e.goes_on; course = (course.0, course.1, e.course) }

-- the last turn of a course, by which the connection ended itself
pub record Lasts (conn : ℕ) (idle : Option ℕ) (start p : Progress)
    (had : List (Item ServerNote)) : Type 0 where
  pub before : List (Item ServerNote)
  pub item : Item ServerNote
  pub is : had ≡ before ++ item ∷ []
  pub then : Progress
  pub course : Course conn idle start before then
  pub turn : Turns conn idle then item p

pub lasts : (conn : ℕ) (idle : Option ℕ) (start p : Progress) (had : List (Item ServerNote))
    (word : EndKind) → start.kept ≡ None → Course conn idle start had p → p.kept ≡ Some word
    → Lasts conn idle start p had
lasts conn idle start p [] word none course ends =
    absurd (other (sym none ∙ sym (ap (λ (q : Progress). q.kept) course) ∙ ends))
  where
    other : ◌≡◌ {A = Option EndKind} None (Some word) → ⊥
    other q = cc
lasts conn idle start p (item ∷ []) word none course ends =
    record {
      before = [];
      item = item;
      is = refl;
      then = start;
      course = refl;
      turn = subst (Turns conn idle start item) (sym course.2) course.1;
    }
lasts conn idle start p (item ∷ next ∷ had) word none course ends =
    let l = lasts conn idle course.0 p (next ∷ had) word course.2.1.goes_on course.2 ends in
    record {
      before = item ∷ l.before;
      item = l.item;
      is = ap (λ (items : List (Item ServerNote)). item ∷ items) l.is;
      then = l.then;
      course = (course.0, course.1, l.course);
      turn = l.turn;
    }

-- ---- words that a read does not give

not_kept : (s : Stop) (word : EndKind) → kept_at s ≡ Some word
    → ((at : ℕ) → word ≢ end.Malformed at) → ⊥
not_kept Clean word h ne = none h
  where
    none : ◌≡◌ {A = Option EndKind} None (Some word) → ⊥
    none q = cc
not_kept (Partial n) word h ne = none h
  where
    none : ◌≡◌ {A = Option EndKind} None (Some word) → ⊥
    none q = cc
not_kept (Malformed at) word h ne = ne at (same h)
  where
    same : Some (end.Malformed at) ≡ Some word → word ≡ end.Malformed at
    same q = cc

-- a turn that found nothing does not end for want of memory, nor does one that makes no read
lacks_none : (kept : Option EndKind) → kept ≡ Some end.NoMemory → kept ≡ None → ⊥
lacks_none kept h e = none (sym e ∙ h)
  where
    none : ◌≡◌ {A = Option EndKind} None (Some end.NoMemory) → ⊥
    none q = cc

lacks_end : (s : Stop) → Some (end_of s) ≡ Some end.NoMemory → ⊥
lacks_end Clean q = cc
lacks_end (Partial n) q = cc
lacks_end (Malformed at) q = cc

-- ---- want of memory

-- the turn took some bytes, and noted no records of them
pub record LostTurn (conn : ℕ) (item : Item ServerNote) : Type 0 where
  pub bytes : ℕ
  pub notes : item.note ≡ note.Piece conn bytes []
  pub some : 1 ≤ bytes
  pub within : bytes ≤ piece_room

lost_piece : (conn : ℕ) (before : Progress) (bytes : List ℕ) (item : Item ServerNote)
    (kept : Option EndKind) → kept ≡ Some end.NoMemory → 1 ≤ length bytes
    → length bytes ≤ piece_room
    → DecodesPiece conn before bytes item kept ⊎ LosesPiece conn bytes item kept
    → LostTurn conn item
lost_piece conn before bytes item kept h some within (inl d) =
    absurd (not_kept _ end.NoMemory (sym d.ends ∙ h) (λ at. other at))
  where
    other : (at : ℕ) → end.NoMemory ≢ end.Malformed at
    other at q = cc
lost_piece conn before bytes item kept h some within (inr l) =
    record { bytes = length bytes; notes = l.notes; some = some; within = within }

lost_read : (conn : ℕ) (gave : Got) (bytes : List ℕ) (telling : Option Telling)
    (before after : Progress) (item : Item ServerNote) → after.kept ≡ Some end.NoMemory
    → ServesRead conn before gave bytes telling item after → LostTurn conn item
lost_read conn (got.Bytes n) bytes telling before after item h s =
    lost_piece conn before bytes item after.kept h s.1.some s.1.within s.1.told
lost_read conn got.Pause bytes telling before after item h s =
    absurd (lacks_none after.kept h (ap (λ (p : Progress). p.kept) s.leaves))
lost_read conn got.Over bytes telling before after item h s =
    absurd (lacks_end _ (sym (ap (λ (p : Progress). p.kept) s.leaves) ∙ h))
lost_read conn got.Failed bytes telling before after item h s =
    absurd (other (sym (ap (λ (p : Progress). p.kept) s.leaves) ∙ h))
  where
    other : Some end.Failed ≡ Some end.NoMemory → ⊥
    other q = cc

lost_timeout : (b : Bool) (conn : ℕ) (before after : Progress) (item : Item ServerNote)
    → after.kept ≡ Some end.NoMemory → AnswersTimeout b conn before item after → LostTurn conn item
lost_timeout true conn before after item h s =
    absurd (other (sym (ap (λ (p : Progress). p.kept) s.leaves) ∙ h))
  where
    other : Some end.Idle ≡ Some end.NoMemory → ⊥
    other q = cc
lost_timeout false conn before after item h s =
    absurd (lacks_none after.kept h (ap (λ (p : Progress). p.kept) s.leaves))

lost_upcall : (up : Upcall) (conn : ℕ) (idle : Option ℕ) (before after : Progress)
    (item : Item ServerNote) → after.kept ≡ Some end.NoMemory
    → ServesUpcall up conn idle before item after → LostTurn conn item
lost_upcall Input conn idle before after item h s =
    lost_read conn s.gave s.bytes after.telling before after item h s.serves
lost_upcall (Timeout timer) conn idle before after item h s =
    lost_timeout (is_idle idle before.last item.moment) conn before after item h s
lost_upcall Output conn idle before after item h s =
    absurd (lacks_none after.kept h (ap (λ (p : Progress). p.kept) s.leaves))
lost_upcall Except conn idle before after item h s =
    absurd (lacks_none after.kept h (ap (λ (p : Progress). p.kept) s.leaves))
lost_upcall (Notice kind) conn idle before after item h s =
    absurd (lacks_none after.kept h (ap (λ (p : Progress). p.kept) s.leaves))

pub lost_turn : (conn : ℕ) (idle : Option ℕ) (before after : Progress) (item : Item ServerNote)
    → after.kept ≡ Some end.NoMemory → Turns conn idle before item after → LostTurn conn item
lost_turn conn idle before after item h t =
    lost_upcall item.upcall conn idle before after item h t.serves

-- ---- quiet for too long

-- the turn came when the connection was quiet for too long, and took nothing
pub record QuietTurn (conn : ℕ) (idle : Option ℕ) (before after : Progress)
    (item : Item ServerNote) : Type 0 where
  pub quiet : is_idle idle before.last item.moment ≡ true
  pub notes : item.note ≡ note.Piece conn 0 []
  pub taken : after.taken ≡ before.taken
  pub last : after.last ≡ before.last

quiet_none : (kept : Option EndKind) → kept ≡ Some end.Idle → kept ≡ None → ⊥
quiet_none kept h e = none (sym e ∙ h)
  where
    none : ◌≡◌ {A = Option EndKind} None (Some end.Idle) → ⊥
    none q = cc

quiet_end : (s : Stop) → Some (end_of s) ≡ Some end.Idle → ⊥
quiet_end Clean q = cc
quiet_end (Partial n) q = cc
quiet_end (Malformed at) q = cc

quiet_piece : (conn : ℕ) (before : Progress) (bytes : List ℕ) (item : Item ServerNote)
    (kept : Option EndKind) → kept ≡ Some end.Idle → DecodesPiece conn before bytes item kept
    ⊎ LosesPiece conn bytes item kept → ⊥
quiet_piece conn before bytes item kept h (inl d) =
    not_kept _ end.Idle (sym d.ends ∙ h) (λ at. other at)
  where
    other : (at : ℕ) → end.Idle ≢ end.Malformed at
    other at q = cc
quiet_piece conn before bytes item kept h (inr l) = other (sym l.ends ∙ h)
  where
    other : Some end.NoMemory ≡ Some end.Idle → ⊥
    other q = cc

quiet_read : (conn : ℕ) (gave : Got) (bytes : List ℕ) (telling : Option Telling)
    (before after : Progress) (item : Item ServerNote) → after.kept ≡ Some end.Idle
    → ServesRead conn before gave bytes telling item after → ⊥
quiet_read conn (got.Bytes n) bytes telling before after item h s =
    quiet_piece conn before bytes item after.kept h s.1.told
quiet_read conn got.Pause bytes telling before after item h s =
    quiet_none after.kept h (ap (λ (p : Progress). p.kept) s.leaves)
quiet_read conn got.Over bytes telling before after item h s =
    quiet_end _ (sym (ap (λ (p : Progress). p.kept) s.leaves) ∙ h)
quiet_read conn got.Failed bytes telling before after item h s =
    other (sym (ap (λ (p : Progress). p.kept) s.leaves) ∙ h)
  where
    other : Some end.Failed ≡ Some end.Idle → ⊥
    other q = cc

quiet_timeout : (b : Bool) (conn : ℕ) (idle : Option ℕ) (before after : Progress)
    (item : Item ServerNote) → is_idle idle before.last item.moment ≡ b → after.kept ≡ Some end.Idle
    → AnswersTimeout b conn before item after → QuietTurn conn idle before after item
quiet_timeout true conn idle before after item is h s =
    record {
      quiet = is;
      notes = s.notes;
      taken = ap (λ (p : Progress). p.taken) s.leaves;
      last = ap (λ (p : Progress). p.last) s.leaves;
    }
quiet_timeout false conn idle before after item is h s =
    absurd (quiet_none after.kept h (ap (λ (p : Progress). p.kept) s.leaves))

quiet_upcall : (up : Upcall) (conn : ℕ) (idle : Option ℕ) (before after : Progress)
    (item : Item ServerNote) → after.kept ≡ Some end.Idle
    → ServesUpcall up conn idle before item after → QuietTurn conn idle before after item
quiet_upcall Input conn idle before after item h s =
    absurd (quiet_read conn s.gave s.bytes after.telling before after item h s.serves)
quiet_upcall (Timeout timer) conn idle before after item h s =
    quiet_timeout (is_idle idle before.last item.moment) conn idle before after item refl h s
quiet_upcall Output conn idle before after item h s =
    absurd (quiet_none after.kept h (ap (λ (p : Progress). p.kept) s.leaves))
quiet_upcall Except conn idle before after item h s =
    absurd (quiet_none after.kept h (ap (λ (p : Progress). p.kept) s.leaves))
quiet_upcall (Notice kind) conn idle before after item h s =
    absurd (quiet_none after.kept h (ap (λ (p : Progress). p.kept) s.leaves))

pub quiet_turn : (conn : ℕ) (idle : Option ℕ) (before after : Progress) (item : Item ServerNote)
    → after.kept ≡ Some end.Idle → Turns conn idle before item after
    → QuietTurn conn idle before after item
quiet_turn conn idle before after item h t =
    quiet_upcall item.upcall conn idle before after item h t.serves
