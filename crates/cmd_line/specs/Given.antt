-- What options a list of words gives: in any order, each at most once, `--name TEXT` or
-- `--name=TEXT`, and `--name` for a flag.
use Rattle.std.specs.Prelude.{ℕ, ◌==◌, Bool, true, false, not, if◌then◌else◌, List, [], ◌∷◌, ◌++◌}
use Rattle.std.specs.Prelude.{find, Option, Some, None, option_map, option_and_then, codes}
use Rattle.std.specs.List.{list_any, before_first, after_first}
use Rattle.std.specs.Option.{option_map_or}
use Rattle.std.specs.Str.{bytes_eq}

-- the bytes of a word
abbrev pub Text : Type 0
Text = List ℕ

-- the options that a command has, by their names: those with a text, and the flags
pub record Line : Type 0 where
  pub valued : List Text
  pub flags : List Text

-- the name is one of these
abbrev pub has_name : Text → List Text → Bool
has_name name names = list_any (λ n. bytes_eq n name) names

-- an option that was given. The text of a flag is `true`
pub record Entry : Type 0 where
  pub name : Text
  pub text : Text

-- ---- words

-- what stands after a first byte
abbrev pub behind : ℕ → Text → Option Text
behind byte [] = None
behind byte (b ∷ rest) = if b == byte then Some rest else None

-- what stands before the first `=` (61), and what stands after it, if there is one
abbrev pub name_and_text : Text → Text × Option Text
name_and_text word = (
  before_first (λ b. b == 61) word,
  if list_any (λ b. b == 61) word then Some (after_first (λ b. b == 61) word) else None,
)

-- the name in `--name` and in `--name=TEXT`, with the text; 45 is the hyphen
abbrev pub option_of : Text → Option (Text × Option Text)
option_of word = option_map name_and_text (option_and_then (behind 45) (behind 45 word))

-- a word that may be an option's text: it does not begin with a hyphen, or is a hyphen alone
abbrev pub may_be_text : Text → Bool
may_be_text [] = true
may_be_text (b ∷ []) = true
may_be_text (b ∷ c ∷ rest) = not (b == 45)

-- ---- lists of words

-- the option was given
abbrev pub is_given : Text → List Entry → Bool
is_given name entries = list_any (λ e. bytes_eq e.name name) entries

-- one option more
abbrev pub with_entry : Text → Text → List Entry → List Entry
with_entry name text entries = entries ++ record { name = name; text = text } ∷ []

-- how the words after a place are read: by the options that were given before it, and the option
-- that waits there for its text, if one does
abbrev pub Reading : Type 0
Reading = List Entry → Option Text → Option (List Entry)

-- an option with a text: its own, or the next word
abbrev pub valued_read : Text → Option Text → List Entry → Reading → Option (List Entry)
valued_read name (Some text) before next = next (with_entry name text before) None
valued_read name None before next = next before (Some name)

-- a flag, which has no text of its own
abbrev pub flag_read : Text → Option Text → List Entry → Reading → Option (List Entry)
flag_read name (Some text) before next = None
flag_read name None before next = next (with_entry name (codes "true") before) None

-- a word when no option waits: an option of the line that was not given before
abbrev pub option_read : Line → Option (Text × Option Text) → List Entry → Reading
    → Option (List Entry)
option_read line None before next = None
option_read line (Some option) before next =
    if is_given option.0 before then None
    else if has_name option.0 line.valued then valued_read option.0 option.1 before next
    else if has_name option.0 line.flags then flag_read option.0 option.1 before next
    else None

-- the options that were given at the end of the words. If an option waits, the next word is its
-- text
unfoldable pub given_behind : Line → List Text → Reading
given_behind line [] before None = Some before
given_behind line [] before (Some name) = None
given_behind line (word ∷ rest) before None =
    option_read line (option_of word) before (given_behind line rest)
given_behind line (word ∷ rest) before (Some name) =
    if may_be_text word then given_behind line rest (with_entry name word before) None else None

-- the options that the words give, if the words are options of this line and nothing else
abbrev pub given : Line → List Text → Option (List Entry)
given line words = given_behind line words [] None

-- the text of an option, if it was given
abbrev pub text_of : List Entry → Text → Option Text
text_of entries name = option_map (λ e. e.text) (find (λ e. bytes_eq e.name name) entries)

-- the flag was given
abbrev pub has_flag : Option Text → Bool
has_flag text = option_map_or (λ t. bytes_eq t (codes "true")) text false
