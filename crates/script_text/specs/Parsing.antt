-- The script of a text, and the first bad line.
use Rattle.std.specs.Prelude.{◌≡◌, ◌<◌, ◌≤◌, ◌+◌, ℕ, Bool, true, false, List, ◌∷◌, ◌++◌, length}
use Rattle.std.specs.Prelude.{get_or, reverse, Some}
use Rattle.script_net.specs.event_script.specs.Script.{ScriptGroup, groups_told, steps_of, opened}
use Rattle.script_net.specs.event_script.specs.Stories.{story, offers}
use Rattle.script_net.specs.event_script.specs.Grammar.{Line, line_of, raw_lines, may_stand, Spells}
use Rattle.script_net.specs.event_script.specs.Grammar.{IsBadBehind, IsBadAt, IsScriptText}
use Rattle.script_net.specs.Content.{ConnectionContent}
use Rattle.script_net.specs.Hosts.{ScriptContent}
use Rattle.script_text.specs.declared.reading.Reading.{Reading}
use Rattle.script_text.specs.declared.refusal.ScriptRefused.{ScriptRefused}
use Rattle.script_text.specs.declared.refusal.ScriptRefused.TheVariants.{BadScript, NoMemory}
use Rattle.script_text.specs.Scripts.{Tells, HasRoom}
use Rattle.script_text.specs.Reading.{Reads}

-- A script has these groups: it plays them; the listener tells what they offer; and there is one
-- connection for each that comes, which tells its story and whose end takes so many bytes.
pub record HasGroups (script : ScriptContent) (room : ℕ) (groups : List ScriptGroup) : Type 0 where
  pub plays : script.groups ≡ groups_told groups
  pub offers_are : script.offers ≡ offers (steps_of groups)
  pub many : length script.connections ≡ opened (steps_of groups)
  pub tells : (c : ℕ) (d : ConnectionContent) → c < length script.connections
      → Tells (get_or script.connections c d) (story c (steps_of groups))
  pub has_room : (c : ℕ) (d : ConnectionContent) → c < length script.connections
      → HasRoom (get_or script.connections c d) room

-- the text is that of a script, and this is that script
pub record IsScriptOf (text : List ℕ) (room : ℕ) (script : ScriptContent) : Type 0 where
  pub groups : List ScriptGroup
  pub is_text : IsScriptText text groups
  pub has : HasGroups script room groups

-- a line is named only if it is the first bad one
abbrev pub RefusesRightly : List ℕ → ScriptRefused → Type 0
RefusesRightly text (BadScript line) = IsBadAt text line
RefusesRightly text NoMemory = Unit {0}

-- ---- on the way

-- a line of the text was taken, or is bad
pub record TakesText (r : Reading) (past : List Line) (raw : List ℕ) : Type 0 where
  pub line : Line
  pub is : line_of raw ≡ Some line
  pub may : may_stand past line ≡ true
  pub reads : Reads r (line ∷ past)

abbrev pub Judges : Reading → List Line → List ℕ → Bool → Type 0
Judges r past raw true = TakesText r past raw
Judges r past raw false = IsBadBehind past (line_of raw)

-- so many lines were read, each good, and this text is left
pub record HasRead (text rest : List ℕ) (line room : ℕ) (r : Reading) : Type 0 where
  pub raws : List (List ℕ)
  pub past : List Line
  pub spells : Spells raws past
  pub reads : Reads r past
  pub are : raw_lines text ≡ reverse raws ++ raw_lines rest
  pub counts : line ≡ length raws
  pub within : line + length rest ≤ length text
  pub has_room : r.room ≡ room
