-- What the player of a script stands for.
use Rattle.std.specs.Prelude.{◌≡◌, ◌≤◌, ◌+◌, ℕ, false, Option, List, [], ◌++◌, length, drop}
use Rattle.std.specs.Prelude.{vec_capacity}
use Rattle.ev_base.specs.Terms.{Group}
use Rattle.ev_base.specs.Playing.{Playing, given, left, without, waited, most_reports}
use Rattle.ev_base.specs.declared.net.Waited.{Waited}
use Rattle.script_net.specs.declared.player.Player.{Player}
use Rattle.script_net.specs.declared.script.End.{End}
use Rattle.script_net.specs.Scripts.{steps_at, group_views}
use Rattle.event_script.specs.Grammar.{last_moment}
use Rattle.script_net.specs.Playable.{AreInOrder, AreWithin, AllWithin, many_steps}
use Rattle.script_net.specs.Sorting.{AreMarks}

-- how many connections the script has
abbrev pub connections_of : Player → ℕ
connections_of player = length player.seats.marks.connections

-- the steps that are held back, with some whose ends are gone: those that nobody wanted, and those
-- that are still to be looked at
abbrev pub fresh_of : Player → List End
fresh_of player = drop player.first player.held.items

abbrev pub held_of : Player → List End
held_of player = player.unwanted.items ++ fresh_of player

-- It has played the script so far. The moments that are left come in order, the steps are at ends
-- of the script, and there is room for all that may have to be held back. While no end was attached
-- and no mask set since, nobody wants the steps that nobody wanted.
pub record Stands (player : Player) (p : Playing) : Type 0 where
  pub moment : player.now ≡ p.moment
  pub groups : drop player.next (group_views player.groups.items) ≡ p.groups
  pub held : without p.gone (steps_at (held_of player)) ≡ p.held
  pub seats : player.seats.seats ≡ p.seats
  pub marks : AreMarks player.seats.marks p.gone
  pub order : AreInOrder p.moment p.groups
  pub last : p.moment ≤ last_moment
  pub within : AllWithin (connections_of player) p.groups
  pub held_within : AreWithin (connections_of player) (steps_at (held_of player))
  pub unwanted : player.changed ≡ false
      → given p.seats most_reports (without p.gone (steps_at player.unwanted.items)) ≡ []
  pub behind : length player.unwanted.items ≤ player.first
  pub unwanted_room : length (held_of player) + many_steps p.groups ≤ vec_capacity player.unwanted
  pub first : player.first ≤ length player.held.items
  pub room : length player.held.items + many_steps p.groups ≤ vec_capacity player.held
  pub passed_room : length (held_of player) + many_steps p.groups ≤ vec_capacity player.passed
  pub none_passed : player.passed.items ≡ []
  pub report_room : most_reports ≤ vec_capacity player.reports

-- held steps were reported, as many as a wait reports
pub record GivesHeld (p : Playing) (new : Player) : Type 0 where
  pub reports : new.reports.items ≡ given p.seats most_reports p.held
  pub stands : Stands new (record p { held = left p.seats most_reports p.held })

-- the next group came
pub record GivesGroup (p : Playing) (group : Group) (groups : List Group) (new : Player) : Type 0
  where
    pub reports : new.reports.items ≡ given p.seats most_reports (without p.gone group.steps)
    pub stands : Stands new (record p {
      moment = group.moment;
      groups = groups;
      held = p.held ++ left p.seats most_reports (without p.gone group.steps);
    })

-- a wait has the answer and the reports of the rules
pub record PlayerWaits (p : Playing) (most : Option ℕ) (answer : Waited) (new : Player) : Type 0
  where
    pub answers : answer ≡ (waited most p).answer
    pub reports : new.reports.items ≡ (waited most p).reports
    pub stands : Stands new (waited most p).next
