use Rattle.journal_text.specs.Tables.{names_in}
use Rattle.journal_text.proofs.BothWays.{by_its_name, by_its_code}
use Rattle.journal_text.proofs.code_table.laws.names_and_codes_go_both_ways.Goals as goal

pub returns : goal.returns
returns g c = λ code name. (
  by_its_name (names_in c.args.table.now) c.args.table.now.distinct code name,
  by_its_code (names_in c.args.table.now) c.args.table.now.distinct code name,
)
