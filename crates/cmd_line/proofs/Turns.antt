-- What one word does to a walk, and to the reading of options.
use Rattle.std.proofs.Common.{◌≡◌, ◌∙◌, ℕ, Bool, true, false, cond, List, [], ◌∷◌, Option, Some}
use Rattle.std.proofs.Common.{None, refl, sym, subst, ap, ap₂, codes}
use Rattle.std.specs.Prelude.{slice_get}
use Rattle.std.specs.Option.{option_map_or}
use Rattle.std.specs.Str.{chars}
use Rattle.std.proofs.lemmas.Str.{chars-nil}
use Rattle.clap.specs.Lexer.{short_of}
use Rattle.clap.specs.Words.{Kinds, Row, Rule, Text}
use Rattle.clap.specs.Kinds.{or_else}
use Rattle.clap.specs.Walk.{Held, Waiting, Walk, after_flag, after_step, has_row, idle, long_met}
use Rattle.clap.specs.Walk.{long_or_other, option, settled, short_or_plain, used, walk_from}
use Rattle.clap.specs.Faults.{bundle_fault, flag_word_fault, flags_fault, long_fault, settle_fault}
use Rattle.clap.specs.Faults.{step_fault}
use Rattle.cmd_line.specs.Given.{Entry, Line, Reading, flag_read, has_name, is_given, option_read}
use Rattle.cmd_line.specs.Given.{valued_read, with_entry}
use Rattle.cmd_line.proofs.Rules.{by_index, by_long, by_short, flag_rule, rules_of, shape_of}
use Rattle.cmd_line.proofs.Rules.{valued_rule}
use Rattle.cmd_line.proofs.Steps.{Refused, Shows, first_refused, flag_again, flag_shows, flag_taken}
use Rattle.cmd_line.proofs.Steps.{has_row-given, or_else-nil, then_refused, valued_again}
use Rattle.cmd_line.proofs.Steps.{valued_shows, valued_taken}

-- ---- states

abbrev pub held : List Row → Option (Text × List Text) → Held
held rows pending = record { rows = rows; pending = pending; skip = 0 }

abbrev pub settles : Line → Held → Kinds
settles line h = settle_fault (rules_of line) false h

abbrev pub rows_in : Line → Held → List Row
rows_in line h = (settled (rules_of line) h).rows

-- no option waits for its text, and the rows are those of the entries
pub record IsIdle (line : Line) (rows : List Row) (pending : Option (Text × List Text))
    (entries : List Entry) : Type 0 where
  pub settles : settles line (held rows pending) ≡ []
  pub shows : Shows (rows_in line (held rows pending)) entries

abbrev pub idle_at : List Row → Option (Text × List Text) → Walk
idle_at rows pending = walk_from (held rows pending)

-- an option waits for its text
abbrev pub waits_at : Text → List Row → Walk
waits_at name rows = record (walk_from (held rows (Some (name, [])))) { waiting = option name }

-- ---- a word, by the option that it is, if it is one

abbrev pub turn_of : Text → Line → Waiting → Option (Text × Option Text) → Text → Held → Kinds
turn_of top line waiting o word h =
    let met = long_or_other (rules_of line) waiting word o h in
    or_else (flag_word_fault (rules_of line) false o word h)
    (step_fault (shape_of top line) 1 met.0 met.1)

abbrev pub walk_of : Line → Waiting → Option (Text × Option Text) → Text → Held → Walk
walk_of line waiting o word h =
    let met = long_or_other (rules_of line) waiting word o h in
    after_step (rules_of line) word (record (walk_from h) { waiting = waiting }) met.0 met.1

-- each word that follows a hyphen has a first character
abbrev pub IsText : Text → Type 0
IsText word = (flags : Text) → short_of word ≡ Some flags → (char : ℕ)
    × (slice_get (chars flags) 0 ≡ Some char)

-- ---- faults

pub bundle_refused : (line : Line) (flags : Text) (rows : List Row)
    (pending : Option (Text × List Text)) (char : ℕ) → slice_get (chars flags) 0 ≡ Some char
    → Refused (bundle_fault (rules_of line) false flags (held rows pending))
unfolding flags_fault
bundle_refused line [] rows pending char is =
    let none : slice_get (chars []) 0 ≡ None = ap (λ (cs : List ℕ). slice_get cs 0) chars-nil in
    absurd (cc (none, is))
bundle_refused line (x ∷ flags) rows pending char is = rw (is, by_short line char) tt

-- if the option that is settled has a fault, so has each option word
pub long_refused : (top : Text) (line : Line) (waiting : Waiting) (name : Text) (text : Option Text)
    (word : Text) (h : Held) → Refused (settles line h)
    → Refused (turn_of top line waiting (Some (name, text)) word h)
long_refused top line waiting name text word h fault =
    let T : Option Rule → Type 0 = λ found.
    let met = after_flag (rules_of line) waiting word (long_met (rules_of line) found text h).0
    (long_met (rules_of line) found text h).1 in
    Refused (or_else (long_fault (rules_of line) false found text h)
    (step_fault (shape_of top line) 1 met.0 met.1)) in
    subst T (sym (by_long line name)) (go (has_name name line.valued) (has_name name line.flags)
    text)
  where
    go : (valued flag : Bool) (text : Option Text)
        → let found = cond valued (Some (valued_rule name)) (cond flag (Some (flag_rule name)) None)
        in
        let met = after_flag (rules_of line) waiting word (long_met (rules_of line) found text h).0
        (long_met (rules_of line) found text h).1 in
        Refused (or_else (long_fault (rules_of line) false found text h)
        (step_fault (shape_of top line) 1 met.0 met.1))
    go true flag (Some text) = first_refused _ [] (first_refused (settles line h) _ fault)
    go true flag None = first_refused (settles line h) [] fault
    go false true (Some text) = tt
    go false true None = first_refused _ [] (first_refused (settles line h) _ fault)
    go false false text = tt

-- if nothing waits, a word that is no option is no word of the line
pub plain_refused : (top : Text) (line : Line) (word : Text) (rows : List Row)
    (pending : Option (Text × List Text)) → IsText word
    → Refused (turn_of top line idle None word (held rows pending))
plain_refused top line word rows pending letters = go (short_of word) letters
  where
    go : (short : Option Text) → ((flags : Text) → short ≡ Some flags → (char : ℕ)
        × (slice_get (chars flags) 0 ≡ Some char))
        → let met = short_or_plain (rules_of line) idle word short (held rows pending) in
        Refused (or_else (option_map_or (λ flags.
        bundle_fault (rules_of line) false flags (held rows pending)) short [])
        (step_fault (shape_of top line) 1 met.0 met.1))
    go (Some flags) letters = first_refused _ _
        (bundle_refused line flags rows pending (letters flags refl).0 (letters flags refl).1)
    go None letters = rw (by_index line 1) tt

-- ---- a word when no option waits

-- what the word does to the walk, with what it does to the reading
pub data Turned (line : Line) (fault : Kinds) (now : Walk) (before : List Entry) (next : Reading)
    (read : Option (List Entry)) : Type 0 where
  refused : Refused fault → read ≡ None → Turned line fault now before next read
  stays : (rows : List Row) (entries : List Entry) → fault ≡ [] → now ≡ idle_at rows None
      → IsIdle line rows None entries → read ≡ next entries None
      → Turned line fault now before next read
  waits : (name : Text) (rows : List Row) → fault ≡ [] → now ≡ waits_at name rows
      → has_name name line.valued ≡ true → Shows rows before
      → read ≡ cond (is_given name before) None (next before (Some name))
      → Turned line fault now before next read

none_either : (b : Bool) → ◌≡◌ {A = Option (List Entry)} (cond b None None) None
none_either true = refl
none_either false = refl

pub idle_long : (top : Text) (line : Line) (name : Text) (text : Option Text) (word : Text)
    (rows : List Row) (pending : Option (Text × List Text)) (before : List Entry) (next : Reading)
    → IsIdle line rows pending before
    → Turned line (turn_of top line idle (Some (name, text)) word (held rows pending))
    (walk_of line idle (Some (name, text)) word (held rows pending)) before next
    (option_read line (Some (name, text)) before next)
idle_long top line name text word rows pending before next is_idle =
    let h = held rows pending in
    let X : Option Rule → Type 0 = λ found.
    let met = after_flag (rules_of line) idle word (long_met (rules_of line) found text h).0
    (long_met (rules_of line) found text h).1 in
    Turned line (or_else (long_fault (rules_of line) false found text h)
    (step_fault (shape_of top line) 1 met.0 met.1))
    (after_step (rules_of line) word (walk_from (held rows pending)) met.0 met.1) before next
    (option_read line (Some (name, text)) before next) in
    subst X (sym (by_long line name)) (go (is_given name before) (has_name name line.valued)
    (has_name name line.flags) refl refl text)
  where
    same : has_row name (rows_in line (held rows pending)) ≡ is_given name before
    same = has_row-given (rows_in line (held rows pending)) before name is_idle.shows

    go : (given valued flag : Bool) → is_given name before ≡ given
        → has_name name line.valued ≡ valued → (text : Option Text)
        → let h = held rows pending in
        let found = cond valued (Some (valued_rule name)) (cond flag (Some (flag_rule name)) None)
        in
        let met = after_flag (rules_of line) idle word (long_met (rules_of line) found text h).0
        (long_met (rules_of line) found text h).1 in
        Turned line (or_else (long_fault (rules_of line) false found text h)
        (step_fault (shape_of top line) 1 met.0 met.1))
        (after_step (rules_of line) word (walk_from h) met.0 met.1) before next
        (cond given None (cond valued (valued_read name text before next)
        (cond flag (flag_read name text before next) None)))
    go true true flag given has (Some text) =
        refused (first_refused _ [] (then_refused (settles line (held rows pending)) _
        (valued_again name text (rows_in line (held rows pending)) (same ∙ given)))) refl
    go false true flag given has (Some text) =
        stays (used (valued_rule name) (text ∷ []) (rows_in line (held rows pending)))
        (with_entry name text before)
        (ap₂ (λ (a b : Kinds). or_else (or_else a b) []) is_idle.settles
        (valued_taken name text (rows_in line (held rows pending)) (same ∙ given)))
        refl (record {
          settles = refl;
          shows = valued_shows name text (rows_in line (held rows pending)) before (same ∙ given)
              is_idle.shows;
        }) refl
    go given true flag is has None =
        waits name (rows_in line (held rows pending)) (or_else-nil _ ∙ is_idle.settles) refl has
        is_idle.shows (ap (λ b. cond b None (next before (Some name))) (sym is))
    go given false true is has (Some text) = refused tt (none_either given)
    go true false true given has None =
        refused (first_refused _ [] (then_refused (settles line (held rows pending)) _
        (flag_again name (rows_in line (held rows pending)) (same ∙ given)))) refl
    go false false true given has None =
        stays (used (flag_rule name) [] (rows_in line (held rows pending)))
        (with_entry name (codes "true") before)
        (ap₂ (λ (a b : Kinds). or_else (or_else a b) []) is_idle.settles
        (flag_taken name (rows_in line (held rows pending)) (same ∙ given)))
        refl (record {
          settles = refl;
          shows = flag_shows name (rows_in line (held rows pending)) before (same ∙ given)
              is_idle.shows;
        }) refl
    go given false false is has text = refused tt (none_either given)
