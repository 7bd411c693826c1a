-- The order of an index of timers.
use Rattle.std.specs.Prelude.{◌<◌, List, AllPairs}
use Rattle.timer_index.specs.declared.index.Numbered.{Numbered}

-- the entries rise by number
abbrev pub IsRising : List Numbered → Type 0
IsRising index = AllPairs (λ e f. e.timer < f.timer) index
