-- What holds of every picture.
use Rattle.std.specs.Prelude.{◌≡◌, ℕ, zero, suc, List, [], ◌∷◌, ◌++◌, ◌+◌, length, map, IsTrue}
use Rattle.std.specs.Prelude.{Some, slice_get}
use Rattle.reactor_journal.specs.ev_types.specs.declared.upcall.Answer.{Answer}
use Rattle.reactor_journal.specs.declared.entry.Entry.{Entry}
use Rattle.reactor_journal.specs.declared.entry.Entry.TheVariants.{Started, Returned}
use Rattle.reactor_journal.specs.Past.{past_of, names, was_opened, was_started}
use Rattle.reactor_journal.specs.Follow.{Legal}
use Rattle.log_handler.specs.declared.note.ServerNote.{ServerNote}
use Rattle.journal_picture.specs.Places.{tables, place_in, lane_for}
use Rattle.journal_picture.specs.Marks.{Mark, marks}
use Rattle.journal_picture.specs.Pictures.{opened_in}

-- the entry of a mark, and its number
abbrev pub entry_of : Mark → Entry ServerNote
entry_of mark = mark.entry

abbrev pub number_of : Mark → ℕ
number_of mark = mark.place.number

-- the first n numbers, from 0 on
abbrev pub first_numbers : ℕ → List ℕ
first_numbers zero = []
first_numbers (suc n) = first_numbers n ++ n ∷ []

-- each entry of a journal has exactly one mark, and the marks stand in the order of the entries,
-- under their numbers
pub record MarksEach (handles : ℕ) (journal : List (Entry ServerNote)) : Type 0 where
  pub entries : map entry_of (marks handles (past_of journal)) ≡ journal
  pub numbers : map number_of (marks handles (past_of journal)) ≡ first_numbers (length journal)

abbrev pub MarksEachOnce : Type 0
MarksEachOnce = (handles : ℕ) (journal : List (Entry ServerNote)) → MarksEach handles journal

-- After a legal journal, an entry that names a handle, itself or by its timer or its event, has
-- its mark in the lane of that handle.
abbrev pub StandsInItsLane : Type 0
StandsInItsLane =
    (handles most x : ℕ) (before : List (Entry ServerNote)) (e : Entry ServerNote)
    → Legal before most → IsTrue (names (past_of before) e x)
    → (place_in handles (tables handles (past_of before)) e).lane ≡ lane_for handles x

-- After a legal journal, the bar of an upcall that was settled begins at the `Started` of its
-- event.
abbrev pub BeginsAtItsStart : Type 0
BeginsAtItsStart =
    (handles most event : ℕ) (answer : Answer) (note : ServerNote)
    (before : List (Entry ServerNote)) → Legal before most
    → IsTrue (was_started (past_of before) event)
    → slice_get before (place_in handles (tables handles (past_of before))
    (Returned event answer note)).from ≡ Some (Started event)

-- In the picture of a legal journal each handle that it opened has a lane of its own, after that
-- of the reactor and in order.
abbrev pub HasItsLane : Type 0
HasItsLane =
    (most x : ℕ) (journal : List (Entry ServerNote)) → Legal journal most
    → IsTrue (was_opened (past_of journal) x) → lane_for (opened_in journal) x ≡ x + 1
