-- What a reader of scripts makes of a generated text.
use Rattle.std.specs.Prelude.{◌≡◌, ◌≤◌, ℕ}
use Rattle.script_text.specs.script_net.specs.Hosts.{ScriptContent}
use Rattle.script_text.specs.Parsing.{HasGroups, IsScriptOf, RefusesRightly}
use Rattle.script_text.specs.declared.refusal.ScriptRefused.{ScriptRefused}
use Rattle.script_text.specs.declared.refusal.ScriptRefused.TheVariants.{NoMemory}
use Rattle.script_generator.specs.Scripts.{generated}
use Rattle.script_generator.specs.Texts.{generated_text}

-- It has the groups of the generated script, and is refused for want of memory alone.
pub record IsReadAs (n seed : ℕ) : Type 0 where
  pub script : (room : ℕ) (script : ScriptContent) → IsScriptOf (generated_text n seed) room script
      → HasGroups script room (generated n seed)
  pub refused : (why : ScriptRefused) → RefusesRightly (generated_text n seed) why → why ≡ NoMemory

abbrev pub GeneratedTextsAreRead : Type 0
GeneratedTextsAreRead = (n seed : ℕ) → 1 ≤ n → n ≤ 1000 → IsReadAs n seed
