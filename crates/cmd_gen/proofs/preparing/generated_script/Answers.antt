use Rattle.std.proofs.Common.{◌≡◌, ◌∙◌, ℕ, List, subst}
use Rattle.script_text.specs.Parsing.{IsScriptOf, RefusesRightly}
use Rattle.script_text.specs.declared.refusal.ScriptRefused.{ScriptRefused}
use Rattle.script_text.specs.declared.refusal.ScriptRefused.TheVariants.{BadScript, NoMemory}
use Rattle.laws_gen.proofs.Read.{is_read_as}
use Rattle.cmd_gen.proofs.preparing.generated_script.Goals as goal

pub returns-in-Ok : goal.returns-in-Ok
returns-in-Ok c =
    let read = is_read_as c.args.connections c.args.seed c.requires.some c.requires.within in
    read.script 0 c.in-Ok.script (subst (λ (text : List ℕ). IsScriptOf text 0 c.in-Ok.script)
    (c.as_slice.ensures ∙ c.in_ok-text.ensures) c.in-Ok.ensures.script)

not-both : (line : ℕ) (why : ScriptRefused) → why ≡ BadScript line → why ≡ NoMemory → ⊥
not-both line why bad memory = cc

pub unreachable-requires : goal.unreachable-requires
unreachable-requires c =
    let read = is_read_as c.args.connections c.args.seed c.requires.some c.requires.within in
    let why = c.in-Err-BadScript.field-0 in
    let refuses = subst (λ (text : List ℕ). RefusesRightly text why)
    (c.as_slice.ensures ∙ c.in_ok-text.ensures) c.in-Err-BadScript.ensures.refused in
    not-both c.in-Err-BadScript.field-0-0 why c.in-Err-BadScript.field-0-is
    (read.refused why refuses)
