use Rattle.std.proofs.Common.{◌∙◌, sym}
use Rattle.module_stream.proofs.Formats.{formats_record, formats_none}
use Rattle.module_stream.proofs.format.FormatTask.format.Goals as goal

-- the message is a record
pub returns-in-Some : goal.returns-in-Some
returns-in-Some c = c.replace.ensures
    ∙ formats_record c.args.message c.in-Some.block (sym c.in-Some.is ∙ c.in_ok-block.ensures)

-- it is none
pub returns-in-None : goal.returns-in-None
returns-in-None c = formats_none c.args.message (sym c.in-None.is ∙ c.in_ok-block.ensures)
