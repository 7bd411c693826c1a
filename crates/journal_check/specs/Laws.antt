-- What holds of the place at which a journal is refused.
use Rattle.std.specs.Prelude.{ℕ, ◌≡◌, ◌≤◌, ◌<◌, List, take}
use Rattle.reactor_journal.specs.declared.entry.Entry.{Entry}
use Rattle.reactor_journal.specs.Follow.{Legal}
use Rattle.journal_check.specs.Refusal.{RefusesAt}

-- each front up to there is legal
abbrev pub IsLegalBefore : Type 0 → Type 0
IsLegalBefore N = (journal : List (Entry N)) (most at n : ℕ) → RefusesAt journal most at → n ≤ at
    → Legal (take n journal) most

-- none beyond is, nor the journal
abbrev pub IsIllegalBehind : Type 0 → Type 0
IsIllegalBehind N = (journal : List (Entry N)) (most at n : ℕ) → RefusesAt journal most at → at < n
    → ¬ (Legal (take n journal) most)

abbrev pub IsIllegalAsWhole : Type 0 → Type 0
IsIllegalAsWhole N = (journal : List (Entry N)) (most at : ℕ) → RefusesAt journal most at
    → ¬ (Legal journal most)

-- so there is one such place
abbrev pub RefusesOnce : Type 0 → Type 0
RefusesOnce N = (journal : List (Entry N)) (most a b : ℕ) → RefusesAt journal most a
    → RefusesAt journal most b → a ≡ b
