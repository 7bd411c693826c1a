use Rattle.std.proofs.Common.{ap, ap₂, codes, ◌∙◌, ◌≡◌, true, []}
use Rattle.std.proofs.lemmas.Result.{IfOk-weaker}
use Rattle.clap.specs.Words.{App, app_of, with_rule}
use Rattle.clap.specs.Simple.{app_of_fields}
use Rattle.clap.specs.declared.builder.command.Command.{Command}
use Rattle.clap.specs.declared.builder.command.Command.TheOpen.{Command-F}
use Rattle.cmd_line.specs.Parse.{parser_of}
use Rattle.cmd_pool.proofs.words.parser.Goals as goal

pub returns : goal.returns
returns c =
    let made : app_of c.disable_version_flag.result
    ≡ parser_of (codes "pool") (record { valued = []; flags = [] }) =
    ap app_of_fields (c.disable_version_flag.ensures
    ∙ ap (λ (f : Command-F Command). record f { disable_version_flag = true })
    (c.disable_help_flag.ensures ∙ ap (λ (f : Command-F Command).
    record f { disable_help_flag = true }) c.no_binary_name.ensures))
    ∙ ap (λ (a : App). record a {
      top =
          record a.top {
            no_binary_name = true;
            disable_help_flag = true;
            disable_version_flag = true;
          };
    }) c.new.ensures.app in
    let one = c.in_ok-arg.ensures.shape c.option.ensures.local
    ∙ ap₂ with_rule made c.option.ensures.rule in
    let two = c.in_ok-arg-2.ensures.shape c.option-2.ensures.local
    ∙ ap₂ with_rule one c.option-2.ensures.rule in
    let three = c.in_ok-arg-3.ensures.shape c.option-3.ensures.local
    ∙ ap₂ with_rule two c.option-3.ensures.rule in
    IfOk-weaker c.arg-4.result _ _ (λ command h. h.shape c.option-4.ensures.local
    ∙ ap₂ with_rule three c.option-4.ensures.rule) c.arg-4.ensures
