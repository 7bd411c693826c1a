-- How a net that plays a script keeps it.
use Rattle.std.specs.Prelude.{◌≤◌, ◌+◌, ℕ, List, length, Vec, vec_capacity}
use Rattle.std.specs.declared.alloc.Global.{Global}
use Rattle.ev_base.specs.Net.{Call}
use Rattle.ev_base.specs.Playing.{played, Plays}
use Rattle.script_net.specs.declared.player.Player.{Player}
use Rattle.script_net.specs.declared.end.ScriptEnd.{ScriptEnd}
use Rattle.script_net.specs.Scripts.{group_views}
use Rattle.script_net.specs.Player.{Stands}

-- It has played its script by its calls, with the answers of the rules; and each list of ends has
-- the spare places, that of retired ends one more for each end that is attached.
pub record IsNet (player : Player) (calls : List Call) (retired : Vec (ℕ × ScriptEnd) Global)
    (turned_away : Vec ScriptEnd Global) (spare : ℕ) : Type 0 where
  pub stands : Stands player (played (group_views player.groups.items) calls)
  pub plays : Plays (group_views player.groups.items) calls
  pub to_attach : player.seats.made + spare ≤ player.seats.room
  pub to_retire : length retired.items + length player.seats.seats + spare ≤ vec_capacity retired
  pub to_turn_away : length turned_away.items + spare ≤ vec_capacity turned_away
