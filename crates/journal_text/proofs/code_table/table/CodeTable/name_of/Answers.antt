use Rattle.std.proofs.Common.{◌∙◌}
use Rattle.journal_text.proofs.BothWays.{by_code}
use Rattle.journal_text.proofs.code_table.table.CodeTable.name_of.Goals as goal

pub returns : goal.returns
returns g c = c.row_name.ensures ∙ by_code c.args.self.now.rows.now c.args.code
