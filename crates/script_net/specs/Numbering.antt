-- The numbers of the connections that a listener offers.
use Rattle.std.specs.Prelude.{Option, Some, None}
use Rattle.ev_base.specs.Story.{Offering, AreNumbered}
use Rattle.script_net.specs.Playable.{many_offered}

-- if a listener tells its story, the connections that did not come yet have the numbers after
-- those that came
abbrev pub IsNumbered : Option Offering → Type 0
IsNumbered None = Unit {0}
IsNumbered (Some o) = AreNumbered (many_offered o.given) o.left
