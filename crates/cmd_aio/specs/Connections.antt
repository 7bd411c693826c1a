-- What the lines of connections say of their ends (POSA2, Proactor).
use Rattle.std.specs.Prelude.{◌≡◌, ◌≤◌, ◌⊎◌, ℕ, true, false, List, [], ◌∷◌, ◌++◌, length}
use Rattle.ev_base.specs.ev_types.specs.declared.upcall.Why.{Why}
use Rattle.ev_base.specs.ev_types.specs.declared.upcall.Why.TheVariants.{Own, Refused as ByRefusal}
use Rattle.ev_base.specs.Bytes.{HasGiven}
use Rattle.ev_base.specs.Counts.{Counts}
use Rattle.ev_base.specs.End.{EndFacts}
use Rattle.ev_base.specs.Net.{NetFacts}
use Rattle.reactor_model.specs.reactor_journal.specs.Past.{past_of, reason_of}
use Rattle.reactor_model.specs.reactor_journal.specs.declared.entry.Entry.{Entry}
use Rattle.reactor_model.specs.reactor_journal.specs.declared.entry.Entry.TheVariants as entry
use Rattle.reactor_core.specs.Ends.{WhereTold}
use Rattle.proactor.specs.Account.{IsWritten}
use Rattle.proactor.specs.declared.note.AsynchNote.{AsynchNote}
use Rattle.proactor.specs.declared.service.AioNote.{AioNote}
use Rattle.proactor.specs.declared.service.AioNote.TheVariants as note

-- ---- one connection

-- What the last note of a connection says of its end, by the reason for which it was closed. The
-- bytes that were given to the end are a front of those that were taken from it, in order; and all
-- of them, if its input was at its end. The note counts both. A connection that closed itself, and
-- did not want for memory, was at the end of its input, or a call of its end failed.
pub record SaysOfEnd (e : EndFacts) (reason : Why) (said : AsynchNote) : Type 0 where
  pub taken : List ℕ
  pub given : List ℕ
  pub waiting : List ℕ
  pub back : taken ≡ given ++ waiting
  pub all_back : e.over ≡ true → waiting ≡ []
  pub took : HasGiven e.bytes taken
  pub took_so_many : e.gave ≡ length taken
  pub gave : IsWritten e.written given
  pub read : Counts said.read (length taken)
  pub wrote : Counts said.wrote (length given)
  pub itself : reason ≡ Own → said.no_memory ≡ false → (e.over ≡ true) ⊎ (1 ≤ e.faults)

-- One that was refused had no turn: nothing was read or written, and its first read was cancelled.
pub record SaysOfRefused (e : EndFacts) (said : AsynchNote) : Type 0 where
  pub says : SaysOfEnd e ByRefusal said
  pub read : said.read ≡ 0
  pub wrote : said.wrote ≡ 0
  pub cancelled : said.cancelled ≡ 1

-- the last note of a handler: that of the acceptor, whose end is a listener, or of a connection
abbrev pub SaysOf : EndFacts → Why → AioNote → Type 0
SaysOf e reason (note.End said) = SaysOfEnd e reason said
SaysOf e reason note.Listening = e.listener ≡ true
SaysOf e reason (note.Accepted conn) = ⊥

abbrev pub SaysOfOffered : EndFacts → AioNote → Type 0
SaysOfOffered e (note.End said) = SaysOfRefused e said
SaysOfOffered e note.Listening = e.listener ≡ true
SaysOfOffered e (note.Accepted conn) = ⊥

-- ---- all connections

-- a handler that was closed: its handle, the reason, and its last note
pub record Closing (N : Type 0) : Type 0 where
  pub handle : ℕ
  pub reason : Why
  pub said : N

-- those that a past closed and those that it refused, the latest first
abbrev pub closings : {N : Type 0} → List (Entry N) → List (Closing N)
closings [] = []
closings (entry.Closed handle said ∷ past) =
    record { handle = handle.0; reason = reason_of past handle.0; said = said } ∷ closings past
closings (_ ∷ past) = closings past

abbrev pub refusals : {N : Type 0} → List (Entry N) → List N
refusals [] = []
refusals (entry.Refused live fault said ∷ past) = said ∷ refusals past
refusals (_ ∷ past) = refusals past

-- two lists have the same length, and R holds of their elements one by one
abbrev pub Pairs : {A B : Type 0} → (A → B → Type 0) → List A → List B → Type 0
Pairs R [] [] = Unit {0}
Pairs R [] (y ∷ ys) = ⊥
Pairs R (x ∷ xs) [] = ⊥
Pairs R (x ∷ xs) (y ∷ ys) = R x y × Pairs R xs ys

abbrev pub LeavesEnd : {E : Type 0} → (E → EndFacts) → Closing AioNote → ℕ × E → Type 0
LeavesEnd tells closing retired =
    (retired.0 ≡ closing.handle) × SaysOf (tells retired.1) closing.reason closing.said

-- The net's ends are those of the journal's last notes. One was retired for each handler that was
-- closed, and one turned away for each that was refused, in that order, and the note says what its
-- end tells.
pub record SaysOfEnds {E : Type 0} (tells : E → EndFacts) (journal : List (Entry AioNote))
    (net : NetFacts E) : Type 0 where
  pub closed : WhereTold (Pairs (LeavesEnd tells) (closings (past_of journal))) net.retired
  pub refused : WhereTold (Pairs (λ said end. SaysOfOffered (tells end) said)
      (refusals (past_of journal))) net.turned_away
