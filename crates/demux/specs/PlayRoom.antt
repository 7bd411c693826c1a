-- How the net in memory keeps its lists.
use Rattle.std.specs.Prelude.{◌≡◌, ◌≤◌, ◌+◌, ℕ, true, List, ◌++◌, length, take, drop, Vec, vec_len}
use Rattle.std.specs.Prelude.{vec_capacity}
use Rattle.std.specs.declared.alloc.Global.{Global}
use Rattle.ev_base.specs.declared.net.Report.{Report}
use Rattle.demux.specs.PlayNet.{do_not_fall, are_bounded}
use Rattle.demux.specs.declared.play_end.PlayEnd.{PlayEnd}
use Rattle.demux.specs.declared.watched.Watched.{Watched}
use Rattle.demux.specs.declared.watched.Retired.{Retired}

-- The moments rise and there are at most 256 reports. The first reports, `left` of them, are still
-- to be given.
pub record IsPlay (moments : List ℕ) (waits : ℕ) (planned : List (ℕ × Report)) (left : ℕ) : Type 0
  where
    pub rising : do_not_fall 0 moments ≡ true
    pub bounded : are_bounded moments ≡ true
    pub within : waits ≤ length moments
    pub few : length planned ≤ 256
    pub waiting : left ≤ length planned

-- each list has the spare places, and that of retired ends one more for each end that is attached
pub record HasRoom (watched : Vec Watched Global) (retired : Vec Retired Global)
    (turned_away : Vec PlayEnd Global) (spare : ℕ) : Type 0 where
  pub to_watch : vec_len watched + spare ≤ vec_capacity watched
  pub to_retire : vec_len retired + vec_len watched + spare ≤ vec_capacity retired
  pub to_turn_away : vec_len turned_away + spare ≤ vec_capacity turned_away

-- a list that begins at place k, with what stands before that place at its end
abbrev pub rotated : {X : Type 0} → ℕ → List X → List X
rotated k xs = drop k xs ++ take k xs
