-- Which wait was answered last that nothing can be reported any more. A later layer asks for it by
-- its number.
use Rattle.std.specs.Prelude.{ℕ, ◌≡◌, ◌≤◌, ◌+◌, Bool, true, false, List, [], ◌∷◌, ◌++◌, length}
use Rattle.std.specs.Prelude.{Option, Some, None, option_map, Result, Ok, Err}
use Rattle.ev_base.specs.Net.{Call, Waits, with_one}
use Rattle.ev_base.specs.declared.net.Waited.{Waited}
use Rattle.ev_base.specs.declared.net.Waited.TheVariants as waited
use Rattle.reactor_model.specs.reactor_journal.specs.declared.entry.Entry.{Entry}
use Rattle.reactor_model.specs.reactor_journal.specs.declared.entry.Entry.TheVariants as entry
use Rattle.reactor_model.specs.reactor_journal.specs.Past.{count}
use Rattle.reactor_core.specs.Ends.{WhereTold}
use Rattle.reactor_core.specs.declared.marks.WaitMarks.{WaitMarks}
use Rattle.reactor_core.specs.declared.polling.Polled.{Polled}
use Rattle.reactor_core.specs.declared.polling.Polled.TheVariants as polled
use Rattle.reactor_core.specs.declared.polling.PollRefused.{PollRefused}

-- the entry of a wait
abbrev pub is_polled : {N : Type 0} → Entry N → Bool
is_polled (entry.Polled moment) = true
is_polled _ = false

-- the answers of the waits among the calls, the latest first
abbrev pub answer_before : Call → List Waited → List Waited
answer_before (Waits most answer reports) answers = answer ∷ answers
answer_before _ answers = answers

abbrev pub answers : List Call → List Waited
answers [] = []
answers (call ∷ calls) = answer_before call (answers calls)

abbrev pub told_answers : Option (List Call) → Option (List Waited)
told_answers calls = option_map answers calls

-- the number, from 1, of the last answer Over, or 0 if there is none
abbrev pub over_after : ℕ → Waited → ℕ → ℕ
over_after number (waited.Over now) before = number
over_after number _ before = before

abbrev pub last_over : List Waited → ℕ
last_over [] = 0
last_over (answer ∷ earlier) = over_after (length earlier + 1) answer (last_over earlier)

-- the wait of this number, from 1, was answered Over
pub record IsOverAt (number : ℕ) (told : List Waited) : Type 0 where
  pub later : List Waited
  pub moment : ℕ
  pub earlier : List Waited
  pub parts : told ≡ later ++ waited.Over moment ∷ earlier
  pub count : number ≡ length earlier + 1

-- the marks after one more wait
abbrev pub marked : Waited → WaitMarks → WaitMarks
marked answer marks = record {
  made = marks.made + 1;
  over = over_after (marks.made + 1) answer marks.over;
}

-- the marks after a wait, by its answer, by what it found, and by what a poll answers: one that
-- failed leaves them
abbrev pub marks_after : Waited → WaitMarks → WaitMarks
marks_after waited.Failed marks = marks
marks_after (waited.Reports now count) marks = marked (waited.Reports now count) marks
marks_after (waited.Quiet now) marks = marked (waited.Quiet now) marks
marks_after (waited.Over now) marks = marked (waited.Over now) marks

abbrev pub marks_found : Option Polled → WaitMarks → WaitMarks
marks_found None marks = marks
marks_found (Some polled.Events) marks = record { made = marks.made + 1; over = marks.over }
marks_found (Some polled.Quiet) marks = record { made = marks.made + 1; over = marks.over }
marks_found (Some polled.Over) marks = record { made = marks.made + 1; over = marks.made + 1 }

abbrev pub marks_polled : Result Polled PollRefused → WaitMarks → WaitMarks
marks_polled (Ok found) marks = marks_found (Some found) marks
marks_polled (Err refused) marks = marks

-- The marks stand for a past: as many waits were made as it has entries of them, and the mark is
-- the number of one, or 0. If the net tells its calls, these are as many waits too, and the mark
-- is the number of the last that was answered Over.
pub record AreMarked (marks : WaitMarks) (answers : List Waited) : Type 0 where
  pub made : marks.made ≡ length answers
  pub over : marks.over ≡ last_over answers

pub record MarksStand {N : Type 0} (marks : WaitMarks) (past : List (Entry N))
    (answers : Option (List Waited)) : Type 0 where
  pub made : marks.made ≡ count is_polled past
  pub within : marks.over ≤ marks.made
  pub over : WhereTold (AreMarked marks) answers

-- what an entry does to them
abbrev pub MarksGoOn : {N : Type 0} → Entry N → WaitMarks → Option (List Waited) → WaitMarks
    → Option (List Waited) → Type 0
MarksGoOn (entry.Polled moment) marks answers marks' answers' =
    (answer : Waited) × (marks' ≡ marked answer marks) × (answers' ≡ with_one answers answer)
MarksGoOn _ marks answers marks' answers' = (marks' ≡ marks) × (answers' ≡ answers)
