-- Tables of codes and their names.
use Rattle.std.specs.Prelude.{ℕ, List}
use Rattle.journal_text.specs.declared.code_table.table.CodeTable.{CodeTable}
use Rattle.journal_text.specs.Rows.{Named, names_of}

abbrev pub names_in : {N : ℕ} → CodeTable N → List Named
names_in table = names_of table.rows.now
