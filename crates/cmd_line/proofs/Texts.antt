-- What a parser finds when it takes the words, and when it refuses them.
use Rattle.std.proofs.Common.{◌≡◌, ◌∙◌, Bool, true, false, ◌||◌, ◌&&◌, not, cond, List, [], ◌∷◌}
use Rattle.std.proofs.Common.{◌++◌, map, find, fold, option_map, option_and_then, Some, None, refl}
use Rattle.std.proofs.Common.{ap, ap₂, codes}
use Rattle.std.specs.Prelude.{slice_get}
use Rattle.std.specs.List.{list_any}
use Rattle.std.specs.Str.{bytes_eq}
use Rattle.clap.specs.Words.{Kinds, Row, Rule, Text, first_of}
use Rattle.clap.specs.Kinds.{or_else}
use Rattle.clap.specs.Walk.{at_row, has_row, more_values, finished, reading_by, walked}
use Rattle.clap.specs.Walk.{with_default}
use Rattle.clap.specs.Faults.{check_fault, defaults_fault, level_fault, walk_fault}
use Rattle.clap.specs.Takes.{is_given as is_used}
use Rattle.clap.specs.declared.parser.matches.ValueSource.TheVariants.{DefaultValue}
use Rattle.clap.specs.declared.error.kind.ErrorKind.TheVariants.{MissingRequiredArgument}
use Rattle.cmd_line.specs.Given.{Entry, Line, has_flag, has_name, text_of}
use Rattle.cmd_line.proofs.Rules.{flag_rule, rules_of, shape_of, valued_rule}
use Rattle.cmd_line.proofs.Steps.{Shows, entry_view, fresh_row, or_else-nil, view}
use Rattle.cmd_line.proofs.Turns.{held, idle_at, rows_in, settles}
use Rattle.cmd_line.proofs.Readings.{faults}
use Rattle.cmd_line.proofs.Letters.{neither}

-- ---- faults after the walk: there are none

either_way : {X : Type 0} (b : Bool) (x : X) → cond b x x ≡ x
either_way true x = refl
either_way false x = refl

no_default_fault : (rows : List Row) (valued flags : List Text)
    → defaults_fault rows (map valued_rule valued ++ map flag_rule flags) ≡ []
unfolding defaults_fault
no_default_fault rows [] [] = refl
no_default_fault rows [] (f ∷ flags) =
    ap₂ or_else (either_way (has_row f rows || false) [])
    (no_default_fault (with_default rows (flag_rule f)) [] flags)
no_default_fault rows (v ∷ valued) flags =
    ap₂ or_else (either_way (has_row v rows || true) [])
    (no_default_fault (with_default rows (valued_rule v)) valued flags)

none_required : (rows : List Row) (valued flags : List Text)
    → list_any (λ (a : Rule). a.required && not (is_used a.id rows))
    (map valued_rule valued ++ map flag_rule flags) ≡ false
none_required rows [] [] = refl
none_required rows [] (f ∷ flags) = none_required rows [] flags
none_required rows (v ∷ valued) flags = none_required rows valued flags

no_check_fault : (top : Text) (line : Line) (rows : List Row)
    → check_fault (shape_of top line) rows false ≡ []
no_check_fault top line rows = ap (λ (b : Bool). cond b (MissingRequiredArgument ∷ []) [])
    (none_required rows line.valued line.flags)

-- the faults of a parse are those of its walk
pub level_faults : (top : Text) (line : Line) (words : List Text)
    → level_fault (shape_of top line) [] (held [] None) words false []
    ≡ faults top line (idle_at [] None) words
level_faults top line words =
    let end = fold (walked (rules_of line) []) (idle_at [] None) words in
    let walk = walk_fault (shape_of top line) [] (idle_at [] None) words in
    ap (λ (k : Kinds). or_else walk (or_else (settles line end.held) k))
    (ap₂ or_else (no_default_fault (rows_in line end.held) line.valued line.flags)
    (no_check_fault top line (finished (rules_of line) end.held)))
    ∙ ap (or_else walk) (or_else-nil (settles line end.held))

-- ---- texts

-- a row shows its entry's text
pub first_of-text : (rows : List Row) (entries : List Entry) (name : Text) → Shows rows entries
    → first_of name rows ≡ text_of entries name
first_of-text [] [] name shows = refl
first_of-text [] (e ∷ entries) name shows = absurd (cc shows)
first_of-text (r ∷ rows) [] name shows = absurd (cc shows)
first_of-text (r ∷ rows) (e ∷ entries) name shows =
    let rest : Shows rows entries = cc shows in
    let same : view r ≡ entry_view e = cc shows in
    let named : bytes_eq r.id name ≡ bytes_eq e.name name =
    ap (λ (p : Text × List Text). bytes_eq p.0 name) same in
    let text : slice_get r.values 0 ≡ Some e.text =
    ap (λ (p : Text × List Text). slice_get p.1 0) same in
    go (bytes_eq r.id name) (first_of-text rows entries name rest) text
    ∙ ap (λ (b : Bool). option_map (λ e. e.text)
    (cond b (Some e) (find (λ e. bytes_eq e.name name) entries))) named
  where
    go : (here : Bool) → first_of name rows ≡ text_of entries name
        → slice_get r.values 0 ≡ Some e.text
        → option_and_then (λ r. slice_get r.values 0)
        (cond here (Some r) (find (λ r. bytes_eq r.id name) rows))
        ≡ option_map (λ e. e.text) (cond here (Some e)
        (find (λ e. bytes_eq e.name name) entries))
    go true rest text = text
    go false rest text = rest

-- the row of a flag that was not given
abbrev false_row : Text → Row
false_row name = record {
  id = name;
  values = codes "false" ∷ [];
  count = None;
  source = Some DefaultValue;
  reading = reading_by (flag_rule name);
}

pub first_of-more : (rows : List Row) (row : Row) (name : Text) → bytes_eq row.id name ≡ false
    → first_of name (rows ++ row ∷ []) ≡ first_of name rows
first_of-more [] row name other = rw other refl
first_of-more (r ∷ rows) row name other =
    go (bytes_eq r.id name) (first_of-more rows row name other)
  where
    go : (here : Bool) → first_of name (rows ++ row ∷ []) ≡ first_of name rows
        → option_and_then (λ r. slice_get r.values 0)
        (cond here (Some r) (find (λ r. bytes_eq r.id name) (rows ++ row ∷ [])))
        ≡ option_and_then (λ r. slice_get r.values 0)
        (cond here (Some r) (find (λ r. bytes_eq r.id name) rows))
    go true rest = refl
    go false rest = rest

pub has_flag-more : (rows : List Row) (flag name : Text)
    → has_flag (first_of name (rows ++ false_row flag ∷ [])) ≡ has_flag (first_of name rows)
has_flag-more [] flag name = go (bytes_eq flag name)
  where
    go : (here : Bool) → has_flag (option_and_then (λ r. slice_get r.values 0)
        (cond here (Some (false_row flag)) None)) ≡ false
    go true = refl
    go false = refl
has_flag-more (r ∷ rows) flag name = go (bytes_eq r.id name) (has_flag-more rows flag name)
  where
    go : (here : Bool) → has_flag (first_of name (rows ++ false_row flag ∷ []))
        ≡ has_flag (first_of name rows)
        → has_flag (option_and_then (λ r. slice_get r.values 0)
        (cond here (Some r) (find (λ r. bytes_eq r.id name) (rows ++ false_row flag ∷ []))))
        ≡ has_flag (option_and_then (λ r. slice_get r.values 0)
        (cond here (Some r) (find (λ r. bytes_eq r.id name) rows)))
    go true rest = refl
    go false rest = rest

-- ---- defaults

-- what is looked at stays if the rows of these flags come after
abbrev pub Keeps : {X : Type 0} → (List Row → X) → List Text → Type 0
Keeps look [] = Unit {0}
Keeps look (flag ∷ flags) = ((rows : List Row) → look (rows ++ false_row flag ∷ []) ≡ look rows)
    × Keeps look flags

default_keeps : {X : Type 0} (look : List Row → X) (flag : Text) (rows : List Row)
    → look (rows ++ false_row flag ∷ []) ≡ look rows
    → look (with_default rows (flag_rule flag)) ≡ look rows
default_keeps look flag rows same = go (has_row flag rows) refl
  where
    go : (has : Bool) → has_row flag rows ≡ has
        → look (cond has rows (at_row flag (more_values DefaultValue (codes "false" ∷ []))
        (false_row flag ∷ []) rows)) ≡ look rows
    go true has = refl
    go false none = ap look (fresh_row rows flag (more_values DefaultValue (codes "false" ∷ []))
        (false_row flag ∷ []) none) ∙ same

pub finished_keeps : {X : Type 0} (look : List Row → X) (valued flags : List Text)
    → Keeps look flags → (rows : List Row)
    → look (fold with_default rows (map valued_rule valued ++ map flag_rule flags)) ≡ look rows
finished_keeps look [] [] keeps rows = refl
finished_keeps look [] (f ∷ flags) keeps rows =
    finished_keeps look [] flags keeps.1 (with_default rows (flag_rule f))
    ∙ default_keeps look f rows (keeps.0 rows)
finished_keeps look (v ∷ valued) flags keeps rows =
    finished_keeps look valued flags keeps (with_default rows (valued_rule v))
    ∙ ap look (either_way (has_row v rows) rows)

pub flags_kept : (name : Text) (flags : List Text)
    → Keeps (λ rows. has_flag (first_of name rows)) flags
flags_kept name [] = tt
flags_kept name (f ∷ flags) = (λ rows. has_flag-more rows f name, flags_kept name flags)

pub texts_kept : (name : Text) (flags : List Text) → has_name name flags ≡ false
    → Keeps (first_of name) flags
texts_kept name [] none = tt
texts_kept name (f ∷ flags) none =
    let each = neither (bytes_eq f name) (has_name name flags) none in
    (λ rows. first_of-more rows (false_row f) name each.0, texts_kept name flags each.1)
