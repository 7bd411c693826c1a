-- Where a journal is refused.
use Rattle.std.specs.Prelude.{ℕ, ◌≡◌, ◌<◌, ◌+◌, ◌⊎◌, List, length, take, Err}
use Rattle.std.specs.declared.result.Result.{Result}
use Rattle.reactor_journal.specs.declared.entry.Entry.{Entry}
use Rattle.reactor_journal.specs.Follow.{Legal}
use Rattle.journal_check.specs.declared.reading.CheckRefused.{CheckRefused}
use Rattle.journal_check.specs.declared.reading.CheckRefused.TheVariants.{NoMemory}

-- the least place at which it is: the first entries up to and with this one are not legal, and
-- those before it are
abbrev pub RefusesAt : {N : Type 0} → List (Entry N) → ℕ → ℕ → Type 0
RefusesAt journal most at = (at < length journal) × Legal (take at journal) most
    × ¬ (Legal (take (at + 1) journal) most)

-- the answer, but for want of memory
abbrev pub IsUnlessNoMemory : Result (Unit {0}) CheckRefused → Result (Unit {0}) CheckRefused
    → Type 0
IsUnlessNoMemory result answer = (result ≡ answer) ⊎ (result ≡ Err NoMemory)
