-- What holds of every script, whatever its text: a net and its ends rest on it.
use Rattle.std.specs.Prelude.{◌≡◌, ℕ, List}
use Rattle.ev_base.specs.Story.{AreNumbered}
use Rattle.script_net.specs.event_script.specs.Script.{ScriptGroup, groups_told, steps_of, opened}
use Rattle.script_net.specs.event_script.specs.Stories.{story, offers}
use Rattle.script_net.specs.Playable.{AreInOrder, AreFilled, many_offered}

-- The groups come in order; each piece has a byte; and the listener offers each connection that
-- comes, by rising number from 0.
pub record ArePlayable (groups : List ScriptGroup) : Type 0 where
  pub in_order : AreInOrder 0 (groups_told groups)
  pub filled : (c : ℕ) → AreFilled (story c (steps_of groups))
  pub numbered : AreNumbered 0 (offers (steps_of groups))
  pub all_offered : many_offered (offers (steps_of groups)) ≡ opened (steps_of groups)
