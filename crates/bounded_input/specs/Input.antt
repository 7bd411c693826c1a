-- What a run took of its input, which may give so many bytes at most. The input told the facts i at
-- the start and tells j now.
use Rattle.std.specs.Prelude.{◌≡◌, ◌≢◌, ◌≤◌, ◌+◌, ℕ, Bool, true, false, List, [], ◌++◌, length}
use Rattle.ev_base.specs.Counts.{Rose}
use Rattle.ev_base.specs.Bytes.{MovesOn, NothingLeft}
use Rattle.ev_base.specs.Source.{SourceFacts}

-- the source's count of faults rose above the one at the start, if a read of it failed, and is
-- the same if none did
abbrev pub FaultsSince : Bool → ℕ → ℕ → Type 0
FaultsSince true start now = Rose start now
FaultsSince false start now = now ≡ start

-- The run took these bytes of the input, whose next is `extra` if one was met past the limit.
-- The input gave so many, and no more than the limit were taken, whether it tells them or not.
pub record TakesInput (limit : ℕ) (failed : Bool) (i : SourceFacts) (j : SourceFacts)
    (taken extra : List ℕ) : Type 0 where
  pub moves : MovesOn i.bytes (taken ++ extra) j.bytes
  pub gave : j.gave ≡ i.gave + length (taken ++ extra)
  pub within : length taken ≤ limit
  pub behind : extra ≢ [] → (length taken ≡ limit) × (length extra ≡ 1)
  pub faults : FaultsSince failed i.faults j.faults

-- a read found the end of the input
pub record IsReadToEnd (j : SourceFacts) : Type 0 where
  pub over : j.over ≡ true
  pub nothing_left : NothingLeft j.bytes
