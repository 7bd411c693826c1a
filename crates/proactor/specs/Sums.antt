-- What an end counts. Its counts stand still at 2^64 - 1.
use Rattle.std.specs.Prelude.{◌+◌, ◌^◌, ◌-◌, ◌||◌, ℕ, min, Bool, false}
use Rattle.proactor.specs.declared.note.AsynchNote.{AsynchNote}
use Rattle.proactor.specs.declared.sums.Sums.{Sums}

abbrev pub most_count : ℕ
most_count = 2 ^ 64 - 1

abbrev pub no_sums : Sums
no_sums = record { read = 0; wrote = 0; completed = 0; starved = false }

abbrev pub taken_sums : ℕ → Sums → Sums
taken_sums n s = record s { read = min (s.read + n) most_count }

abbrev pub given_sums : ℕ → Sums → Sums
given_sums n s = record s { wrote = min (s.wrote + n) most_count }

abbrev pub completed_sums : Bool → Sums → Sums
completed_sums starved s = record s {
  completed = min (s.completed + 1) most_count;
  starved = s.starved || starved;
}

abbrev pub note_of : ℕ → ℕ → Sums → AsynchNote
note_of conn cancelled s = record {
  conn = conn;
  read = s.read;
  wrote = s.wrote;
  completed = s.completed;
  cancelled = cancelled;
  no_memory = s.starved;
}
