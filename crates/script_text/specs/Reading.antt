-- What a reader of a script stands for: the lines that it has read, the latest first.
use Rattle.std.specs.Prelude.{◌≡◌, ◌≤◌, ◌<◌, ◌==◌, ℕ, Bool, true, false, not, if◌then◌else◌, List}
use Rattle.std.specs.Prelude.{[], ◌∷◌, ◌++◌, length, get_or}
use Rattle.ev_base.specs.Story as story
use Rattle.ev_base.specs.Terms.{Step, Group}
use Rattle.script_net.specs.event_script.specs.Script.{ScriptStep, opened, is_done, report_step}
use Rattle.script_net.specs.event_script.specs.Stories.{parts_of, offers_of}
use Rattle.script_net.specs.event_script.specs.Grammar.{Line, At, Quiet, Stepping, moment_of}
use Rattle.script_net.specs.event_script.specs.Grammar.{steps_in, is_step, may_stand}
use Rattle.script_net.specs.Content.{ConnectionContent}
use Rattle.script_text.specs.declared.reading.Reading.{Reading}
use Rattle.script_net.specs.Scripts.{steps_at, group_views, offer_views}
use Rattle.script_text.specs.Scripts.{Tells, HasRoom}

-- what the ends have to tell, by the steps so far
abbrev pub told_by : ℕ → List ScriptStep → List story.Part
told_by c [] = []
told_by c (step ∷ past) = told_by c past ++ parts_of c step

abbrev pub offered_by : List ScriptStep → List story.Offer
offered_by [] = []
offered_by (step ∷ past) = offered_by past ++ offers_of step

-- the last group, with one step more
abbrev pub and_step : Step → List Group → List Group
and_step step [] = []
and_step step (group ∷ []) = record group { steps = group.steps ++ step ∷ [] } ∷ []
and_step step (group ∷ more ∷ groups) = group ∷ and_step step (more ∷ groups)

-- the groups as they are played, by the lines so far
abbrev pub played_by : List Line → List Group
played_by [] = []
played_by (At moment ∷ past) = played_by past
played_by (Quiet ∷ past) = played_by past ++ record { moment = moment_of past; steps = [] } ∷ []
played_by (Stepping step ∷ past) =
    if is_step past then and_step (report_step step) (played_by past) else played_by past
    ++ record { moment = moment_of past; steps = report_step step ∷ [] } ∷ []

-- the group that may go on, if it has a step
abbrev pub open_group : ℕ → List Step → List Group
open_group moment [] = []
open_group moment (step ∷ steps) = record { moment = moment; steps = step ∷ steps } ∷ []

abbrev pub is_empty : {A : Type 0} → List A → Bool
is_empty [] = true
is_empty (x ∷ xs) = false

-- of each connection that came it is known whether it was shut or failed
pub record HasDone (flags : List Bool) (past : List ScriptStep) : Type 0 where
  pub opened_are : length flags ≡ opened past
  pub done : (c : ℕ) → c < length flags → get_or flags c true ≡ is_done c past
  pub later : (c : ℕ) → length flags ≤ c → is_done c past ≡ false

-- the connections that came tell what the steps so far say, each with room for so many bytes; the
-- others have nothing to tell
pub record HasTold (connections : List ConnectionContent) (room : ℕ) (past : List ScriptStep) : Type
    0 where
  pub opened_are : length connections ≡ opened past
  pub tells : (c : ℕ) (d : ConnectionContent) → c < length connections
      → Tells (get_or connections c d) (told_by c past)
  pub has_room : (c : ℕ) (d : ConnectionContent) → c < length connections
      → HasRoom (get_or connections c d) room
  pub later : (c : ℕ) → length connections ≤ c → told_by c past ≡ []

-- one connection has so much more to tell, and nothing else changed
pub record IsTold (old : List ConnectionContent) (conn : ℕ) (parts : List story.Part)
    (new : List ConnectionContent) : Type 0 where
  pub many : length new ≡ length old
  pub tells : (c : ℕ) (d : ConnectionContent) → c < length old
      → (get_or new c d).parts ≡ (get_or old c d).parts ++ (if conn == c then parts else [])
  pub room : (c : ℕ) (d : ConnectionContent) → c < length old
      → (get_or new c d).room ≡ (get_or old c d).room

-- one connection more is there, which has nothing to tell, with room for so many bytes
pub record Comes (old : List ConnectionContent) (room : ℕ) (new : List ConnectionContent) : Type 0
  where
    pub one : ConnectionContent
    pub is : new ≡ old ++ one ∷ []
    pub tells_nothing : Tells one []
    pub has_room : HasRoom one room

-- it has read these lines
pub record Reads (r : Reading) (past : List Line) : Type 0 where
  pub moment : r.moment ≡ moment_of past
  pub steps : r.steps ≡ length (steps_in past)
  pub done : HasDone r.done.items (steps_in past)
  pub told : HasTold r.connections.items r.room (steps_in past)
  pub offered : offer_views r.offers.items ≡ offered_by (steps_in past)
  pub groups : group_views r.groups.items ++ open_group r.moment (steps_at r.current.items)
      ≡ played_by past
  pub goes_on : not (is_empty r.current.items) ≡ is_step past

-- P holds of the lines that it has read
abbrev pub ForRead : Reading → (List Line → Type 0) → Type 0
ForRead r P = (past : List Line) → Reads r past → P past

-- a line was taken, or is bad
abbrev pub Takes : Reading → List Line → Line → Bool → Type 0
Takes r past line true = (may_stand past line ≡ true) × Reads r (line ∷ past)
Takes r past line false = may_stand past line ≡ false
