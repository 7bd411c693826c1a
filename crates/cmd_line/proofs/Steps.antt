-- What one use of an option does.
use Rattle.std.proofs.Common.{◌≡◌, ◌∙◌, Bool, true, false, ◌||◌, cond, List, [], ◌∷◌, ◌++◌, map}
use Rattle.std.proofs.Common.{Some, None, refl, sym, subst, ap, ap₂, codes}
use Rattle.std.specs.List.{list_any}
use Rattle.std.specs.Str.{bytes_eq}
use Rattle.std.proofs.lemmas.List.{map-append, append-nil}
use Rattle.clap.specs.Words.{Kinds, Row, Rule, Text}
use Rattle.clap.specs.Kinds.{or_else}
use Rattle.clap.specs.Walk.{at_row, has_row, more_values, reading_by, used, with_values}
use Rattle.clap.specs.Faults.{use_fault}
use Rattle.clap.specs.declared.parser.matches.ValueSource.TheVariants.{CommandLine}
use Rattle.clap.proofs.WalkLemmas.{list_any-map}
use Rattle.cmd_line.specs.Given.{Entry, is_given, with_entry}
use Rattle.cmd_line.proofs.Rules.{flag_rule, valued_rule}

-- ---- kinds of error

-- there is one
abbrev pub Refused : Kinds → Type 0
Refused [] = ⊥
Refused (kind ∷ kinds) = Unit {0}

pub first_refused : (a b : Kinds) → Refused a → Refused (or_else a b)
first_refused [] b none = absurd none
first_refused (k ∷ a) b some = some

pub then_refused : (a b : Kinds) → Refused b → Refused (or_else a b)
then_refused [] b some = some
then_refused (k ∷ a) b some = tt

pub or_else-nil : (a : Kinds) → or_else a [] ≡ a
or_else-nil [] = refl
or_else-nil (k ∷ a) = refl

pub or_else_assoc : (a b c : Kinds) → or_else (or_else a b) c ≡ or_else a (or_else b c)
or_else_assoc [] b c = refl
or_else_assoc (k ∷ a) b c = refl

-- ---- rows

-- a row's id with its values, and an entry's name with its text
abbrev pub view : Row → Text × List Text
view row = (row.id, row.values)

abbrev pub entry_view : Entry → Text × List Text
entry_view entry = (entry.name, entry.text ∷ [])

-- the rows are those of the entries, in order
abbrev pub Shows : List Row → List Entry → Type 0
Shows rows entries = map view rows ≡ map entry_view entries

pub has_row-given : (rows : List Row) (entries : List Entry) (name : Text) → Shows rows entries
    → has_row name rows ≡ is_given name entries
has_row-given rows entries name shows =
    let named = λ (p : Text × List Text). bytes_eq p.0 name in
    list_any-map named view rows ∙ ap (list_any named) shows
    ∙ sym (list_any-map named entry_view entries)

pub shows_more : (rows : List Row) (entries : List Entry) (row : Row) (name text : Text)
    → Shows rows entries → view row ≡ (name, text ∷ [])
    → Shows (rows ++ row ∷ []) (with_entry name text entries)
shows_more rows entries row name text shows is =
    map-append view rows (row ∷ []) ∙ ap₂ (λ a b. a ++ b ∷ []) shows is
    ∙ sym (map-append entry_view entries (record { name = name; text = text } ∷ []))

-- at an id that no row has
pub fresh_row : (rows : List Row) (id : Text) (change : Row → List Row) (missing : List Row)
    → has_row id rows ≡ false → at_row id change missing rows ≡ rows ++ missing
fresh_row [] id change missing none = refl
fresh_row (r ∷ rows) id change missing none =
    by_first (bytes_eq r.id id) (has_row id rows) none (fresh_row rows id change missing)
  where
    by_first : (here behind : Bool) → (here || behind) ≡ false
        → (behind ≡ false → at_row id change missing rows ≡ rows ++ missing)
        → cond here (change r ++ rows) (r ∷ at_row id change missing rows) ≡ r ∷ (rows ++ missing)
    by_first true behind none rest = absurd (cc none)
    by_first false behind none rest = ap (λ xs. r ∷ xs) (rest none)

-- ---- uses

pub valued_taken : (name text : Text) (rows : List Row) → has_row name rows ≡ false
    → use_fault false (valued_rule name) (text ∷ []) rows ≡ []
valued_taken name text rows none = rw none refl

pub valued_again : (name text : Text) (rows : List Row) → has_row name rows ≡ true
    → Refused (use_fault false (valued_rule name) (text ∷ []) rows)
valued_again name text rows some = rw some tt

pub flag_taken : (name : Text) (rows : List Row) → has_row name rows ≡ false
    → use_fault false (flag_rule name) [] rows ≡ []
flag_taken name rows none = rw none refl

pub flag_again : (name : Text) (rows : List Row) → has_row name rows ≡ true
    → Refused (use_fault false (flag_rule name) [] rows)
flag_again name rows some = rw some tt

abbrev row_by : Rule → Text → Row
row_by rule text = record {
  id = rule.id;
  values = text ∷ [];
  count = None;
  source = Some CommandLine;
  reading = reading_by rule;
}

-- the rows after the first use of an option
with_row : (rule : Rule) (text : Text) (rows : List Row) → has_row rule.id rows ≡ false
    → with_values rule.id (reading_by rule) CommandLine (text ∷ [])
    (at_row rule.id (λ _. []) [] rows) ≡ rows ++ row_by rule text ∷ []
with_row rule text rows none =
    ap (with_values rule.id (reading_by rule) CommandLine (text ∷ []))
    (fresh_row rows rule.id (λ _. []) [] none ∙ append-nil rows)
    ∙ fresh_row rows rule.id (more_values CommandLine (text ∷ [])) (row_by rule text ∷ []) none

pub valued_shows : (name text : Text) (rows : List Row) (entries : List Entry)
    → has_row name rows ≡ false → Shows rows entries
    → Shows (used (valued_rule name) (text ∷ []) rows) (with_entry name text entries)
valued_shows name text rows entries none shows =
    subst (λ (rs : List Row). Shows rs (with_entry name text entries))
    (sym (with_row (valued_rule name) text rows none))
    (shows_more rows entries (row_by (valued_rule name) text) name text shows refl)

pub flag_shows : (name : Text) (rows : List Row) (entries : List Entry) → has_row name rows ≡ false
    → Shows rows entries
    → Shows (used (flag_rule name) [] rows) (with_entry name (codes "true") entries)
flag_shows name rows entries none shows =
    subst (λ (rs : List Row). Shows rs (with_entry name (codes "true") entries))
    (sym (with_row (flag_rule name) (codes "true") rows none))
    (shows_more rows entries (row_by (flag_rule name) (codes "true")) name (codes "true") shows
    refl)
