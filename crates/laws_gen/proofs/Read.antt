-- A generated text is read as the generated script.
use Rattle.std.proofs.Common.{◌≡◌, ◌≤◌, ℕ, List, refl, subst}
use Rattle.laws_script_complete.specs.event_script.specs.Script.{ScriptGroup}
use Rattle.script_text.specs.Parsing.{HasGroups, RefusesRightly}
use Rattle.script_text.specs.declared.refusal.ScriptRefused.{ScriptRefused}
use Rattle.script_text.specs.declared.refusal.ScriptRefused.TheVariants as refused
use Rattle.script_text.proofs.Readings.{same_groups, no_bad_line}
use Rattle.script_generator.specs.Scripts.{generated}
use Rattle.script_generator.specs.Texts.{generated_text}
use Rattle.script_generator.proofs.Whole.{is_script_text}
use Rattle.laws_gen.specs.Reading.{IsReadAs}

never_bad : (n seed : ℕ) → 1 ≤ n → n ≤ 1000 → (why : ScriptRefused)
    → RefusesRightly (generated_text n seed) why → why ≡ refused.NoMemory
never_bad n seed least many (refused.BadScript line) bad =
    absurd (no_bad_line (generated_text n seed) (generated n seed) line
    (is_script_text n seed least many) bad)
never_bad n seed least many refused.NoMemory bad = refl

pub is_read_as : (n seed : ℕ) → 1 ≤ n → n ≤ 1000 → IsReadAs n seed
is_read_as n seed least many = record {
  script = λ room script is. subst (λ (groups : List ScriptGroup). HasGroups script room groups)
      (same_groups (generated_text n seed) is.groups (generated n seed) is.is_text
      (is_script_text n seed least many)) is.has;
  refused = never_bad n seed least many;
}
