use Rattle.std.proofs.Common.{◌∙◌, false, ap, map, string_bytes}
use Rattle.cmd_line.specs.Lines.{has_dashes}
use Rattle.program_words.proofs.Dashes.{taken_no_dashes}
use Rattle.program_words.proofs.called.take_off.Goals as goal

pub read_own-requires : goal.read_own-requires
read_own-requires c =
    ap (λ words. has_dashes (map string_bytes words)) c.deref-2.ensures.value
    ∙ ap has_dashes c.in_ok-own.ensures.own
    ∙ taken_no_dashes c.takes_of-takes.result false (map string_bytes c.args.words.items)
