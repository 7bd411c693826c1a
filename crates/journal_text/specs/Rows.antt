-- Rows of codes and their names.
use Rattle.std.specs.Prelude.{ℕ, ◌==◌, Bool, true, not, ◌&&◌, List, [], ◌∷◌, Option, option_map}
use Rattle.std.specs.Prelude.{map}
use Rattle.std.specs.List.{find, list_any}
use Rattle.std.specs.Str.{bytes_eq}
use Rattle.journal_text.specs.declared.code_table.table.Row.{Row}

-- a code and its name
abbrev pub Named : Type 0
Named = ℕ × List ℕ

abbrev pub named : Row → Named
named row = (row.code, row.name.now)

abbrev pub names_of : List Row → List Named
names_of rows = map named rows

abbrev pub has_code : ℕ → Named → Bool
has_code code row = code == row.0

abbrev pub has_name : List ℕ → Named → Bool
has_name name row = bytes_eq row.1 name

-- the name of a code, and the code of a name, by the first row that has it
abbrev pub name_in : List Named → ℕ → Option (List ℕ)
name_in rows code = option_map (λ row. row.1) (find (has_code code) rows)

abbrev pub code_in : List Named → List ℕ → Option ℕ
code_in rows name = option_map (λ row. row.0) (find (has_name name) rows)

-- no code and no name stands in two rows
abbrev pub are_distinct : List Named → Bool
are_distinct [] = true
are_distinct (row ∷ rows) = not (list_any (has_code row.0) rows)
    && not (list_any (has_name row.1) rows) && are_distinct rows
