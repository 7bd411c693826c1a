use Rattle.std.proofs.Common.{◌∙◌}
use Rattle.journal_text.proofs.BothWays.{by_name}
use Rattle.journal_text.proofs.code_table.table.CodeTable.code_of.Goals as goal

pub returns : goal.returns
returns g c = c.row_code.ensures ∙ by_name c.args.self.now.rows.now c.args.name.now
