-- How `clap` reads the words after `replay` and `serve`. Only clauses of this crate's own
-- functions speak of it.
use Rattle.std.specs.Prelude.{◌≡◌, true, false, Bool, List, [], ◌∷◌, ◌++◌, map, codes, Option, Some}
use Rattle.std.specs.Prelude.{MatchOption}
use Rattle.clap.specs.Words.{App, Row, Rule, fault_of, first_of, found_of, matches_of, new_rule}
use Rattle.clap.specs.Words.{rows_of}
use Rattle.clap.specs.Walk.{is_empty}
use Rattle.clap.specs.Simple.{new_shape}
use Rattle.clap.specs.declared.builder.action.ArgAction.TheVariants.{Set, SetTrue}
use Rattle.clap.specs.declared.parser.matches.ArgMatches.{ArgMatches}
use Rattle.cmd_line.specs.Given.{Line, Text}

-- an option with one value, and one without a value
abbrev pub valued : Text → Rule
valued name = record (new_rule name) { long = Some name; action = Some Set }

abbrev pub flag : Text → Rule
flag name = record (new_rule name) { long = Some name; action = Some SetTrue }

-- the parser of a command with these options alone, without help and version
abbrev pub parser_of : Text → Line → App
parser_of name line = record {
  top = record (new_shape name) {
    rules = map valued line.valued ++ map flag line.flags;
    no_binary_name = true;
    disable_help_flag = true;
    disable_version_flag = true;
  };
  subs = [];
}

-- the options that both commands have
abbrev pub shared_line : Line
shared_line = record {
  valued = codes "workers" ∷ codes "most" ∷ codes "idle" ∷ codes "until" ∷ codes "timers" ∷ [];
  flags = [];
}

-- the parse has no fault
unfoldable pub are_taken : App → List Text → Bool
are_taken app words = is_empty (fault_of app words)

-- what the parse finds
unfoldable pub rows_on : App → List Text → List Row
rows_on app words = matches_of app words

abbrev pub Parses : App → List Text → Option ArgMatches → Type 0
Parses app words parsed = MatchOption parsed (are_taken app words ≡ false)
    (λ matches. (are_taken app words ≡ true) × (rows_of (found_of matches) ≡ rows_on app words))

-- the texts of the options that a parse found
abbrev pub text_in : ArgMatches → Text → Option Text
text_in matches name = first_of name (rows_of (found_of matches))
