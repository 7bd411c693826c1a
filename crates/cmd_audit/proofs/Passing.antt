-- What becomes of the text of a legal journal.
use Rattle.std.proofs.Common.{◌≡◌, ◌<◌, ◌+◌, ℕ, List, [], ◌∷◌, ◌++◌, length, take, drop}
use Rattle.std.proofs.Common.{Option, Some, None, sym, ap, ◌∙◌, subst, append-nil, take-append-drop}
use Rattle.std.proofs.Common.{arith}
use Rattle.ev_base.specs.Bytes.{ReaderBytes, MovesOn, NothingLeft}
use Rattle.ev_base.specs.Source.{SourceFacts}
use Rattle.ev_base.specs.Sink.{SinkFacts}
use Rattle.bounded_input.specs.Reading.{IsReadWhole}
use Rattle.sink_buffer.specs.Written.{TakesAll, BreaksOff}
use Rattle.journal_check.specs.reactor_journal.specs.declared.entry.Entry.{Entry}
use Rattle.journal_check.specs.reactor_journal.specs.Follow.{Legal}
use Rattle.journal_check.specs.reactor_journal.proofs.Turning.{Legal-front}
use Rattle.journal_check.specs.Refusal.{RefusesAt}
use Rattle.journal_reader.specs.log_handler.specs.declared.note.ServerNote.{ServerNote}
use Rattle.journal_reader.specs.Journals.{IsJournalText}
use Rattle.journal_reader.proofs.OneReading.{same_journal, no_bad_line}
use Rattle.cmd_audit.specs.Audits.{Audits, legal_line}
use Rattle.cmd_audit.specs.Laws.{Passes}
use Rattle.cmd_audit.specs.declared.auditing.AuditEnd.{AuditEnd}
use Rattle.cmd_audit.specs.declared.auditing.AuditEnd.TheVariants as end

-- what was read to the end is all that was left
all_read : (given text taken : List ℕ) (now : Option ReaderBytes)
    → MovesOn (Some (record { given = given; left = text })) (taken ++ []) now → NothingLeft now
    → taken ≡ text
all_read given text taken None moves none = absurd moves
all_read given text taken (Some now) moves none =
    sym (moves.0 ∙ ap (λ (l : List ℕ). (taken ++ []) ++ l) none ∙ append-nil (taken ++ [])
    ∙ append-nil taken)

-- a byte that is there after some is one of the text
more_there : (given text taken : List ℕ) (more : ℕ) (now : Option ReaderBytes)
    → MovesOn (Some (record { given = given; left = text })) (taken ++ more ∷ []) now
    → length taken < length text
more_there given text taken more None moves = absurd moves
more_there given text taken more (Some now) moves =
    subst (λ (l : List ℕ). length taken < length l) (sym moves.0) (longer taken now.left)
  where
    longer : (xs ys : List ℕ) → length xs < length ((xs ++ more ∷ []) ++ ys)
    longer [] ys = omega arith
    longer (x ∷ xs) ys = let rest = longer xs ys in omega arith

-- no place refuses a legal journal
none_refuses : (journal : List (Entry ServerNote)) (most at : ℕ) → Legal journal most
    → RefusesAt journal most at → ⊥
none_refuses journal most at legal refuses =
    refuses.2 (Legal-front (take (at + 1) journal) (drop (at + 1) journal) most
    (subst (λ (j : List (Entry ServerNote)). Legal j most)
    (sym (take-append-drop (at + 1) journal)) legal))

module _ (limit most : ℕ) (given text : List ℕ) (journal : List (Entry ServerNote))
    (i j : SourceFacts) (o p : SinkFacts)
    (told : i.bytes ≡ Some (record { given = given; left = text }))
    (spells : IsJournalText text most journal) (legal : Legal journal most)
  where
    read_is : (other : List ℕ) → IsReadWhole limit i j other → other ≡ text
    read_is other whole = all_read given text other j.bytes
        (subst (λ (b : Option ReaderBytes). MovesOn b (other ++ []) j.bytes) told whole.takes.moves)
        whole.over.nothing_left

    same : (other : List ℕ) (n : ℕ) (found : List (Entry ServerNote)) → IsReadWhole limit i j other
        → IsJournalText other n found → (n ≡ most) × (found ≡ journal)
    same other n found whole reads =
        same_journal text n most found journal
        (subst (λ (t : List ℕ). IsJournalText t n found) (read_is other whole) reads) spells

    pub passes : (how : AuditEnd) → Audits limit i o j p how
        → Passes limit (length text) (length journal) i o j p how
    passes end.Legal a =
        subst (λ (l : List (Entry ServerNote)). TakesAll o (legal_line (length l)) p)
        (same a.text a.legal.most a.journal a.whole a.legal.spells).1 a.written
    passes end.WriteFault a =
        subst (λ (l : List (Entry ServerNote)). BreaksOff o (legal_line (length l)) p)
        (same a.text a.legal.most a.journal a.whole a.legal.spells).1 a.written
    passes (end.BadText line) a =
        no_bad_line text most line journal spells
        (subst (λ (t : List ℕ). Rattle.journal_reader.specs.Journals.IsBadAt t line)
        (read_is a.0.text a.0.whole) a.0.bad)
    passes (end.Illegal at) a =
        let s = same a.0.text a.0.most a.0.journal a.0.whole a.0.spells in
        none_refuses journal most at legal
        (subst (λ (l : List (Entry ServerNote)). RefusesAt l most at) s.1
        (subst (λ (n : ℕ). RefusesAt a.0.journal n at) s.0 a.0.refuses))
    passes end.ReadFault a = (a.0.1.faults, a.1)
    passes end.TooLong a =
        let over = a.0.1.takes in
        let there = more_there given text a.0.0 a.0.1.more j.bytes
        (subst (λ (b : Option ReaderBytes). MovesOn b (a.0.0 ++ a.0.1.more ∷ []) j.bytes) told
        over.moves) in
        (subst (λ (n : ℕ). n < length text) (over.behind (λ q. cc)).0 there, a.1)
    passes end.NoMemory a = a.1
