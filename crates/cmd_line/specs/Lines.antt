-- Which command a list of words calls.
use Rattle.std.specs.Prelude.{ℕ, Bool, if◌then◌else◌, List, [], ◌∷◌, Option, Some, None, codes}
use Rattle.std.specs.List.{list_any}
use Rattle.std.specs.Str.{bytes_eq}
use Rattle.cmd_line.specs.Numbers.{number_in}
use Rattle.cmd_line.specs.Given.{Line, Text, given, has_flag, text_of}
use Rattle.cmd_line.specs.Options.{◌>>=◌, form_of, options_of}
use Rattle.cmd_line.specs.declared.command.Command.{Command}
use Rattle.cmd_line.specs.declared.command.Command.TheVariants.{One, Replay, Serve, Display, Audit}
use Rattle.cmd_line.specs.declared.command.Command.TheVariants.{Generate}
use Rattle.cmd_line.specs.declared.options.Form.{Form}
use Rattle.cmd_line.specs.declared.options.Form.TheVariants.{Plain}
use Rattle.cmd_line.specs.declared.options.Options.{Options}

-- a command that takes no words
abbrev pub alone : Command → List Text → Option Command
alone command [] = Some command
alone command (word ∷ rest) = None

-- ---- commands with options

-- the texts of options by their names
abbrev pub Texts : Type 0
Texts = Text → Option Text

-- the options that both commands have
abbrev pub shared : Texts → Form → Option Options
shared text form = options_of (text (codes "workers")) (text (codes "most")) (text (codes "idle"))
    (text (codes "until")) (text (codes "timers")) form

-- `replay`: its options, what they say, and the words that give them
abbrev pub replay_line : Line
replay_line = record {
  valued = codes "workers" ∷ codes "most" ∷ codes "idle" ∷ codes "until" ∷ codes "timers" ∷ [];
  flags = codes "grouped" ∷ codes "journal" ∷ [];
}

abbrev pub replay_by : Texts → Option Command
replay_by text = do
  form ← form_of (has_flag (text (codes "grouped"))) (has_flag (text (codes "journal")))
  options ← shared text form
  Some (Replay options)

unfoldable pub replay_of : List Text → Option Command
replay_of words = given replay_line words >>= λ entries. replay_by (text_of entries)

-- `serve` in the same way. It has a port, and writes plain lines
abbrev pub serve_line : Line
serve_line = record {
  valued = codes "workers" ∷ codes "most" ∷ codes "idle" ∷ codes "until" ∷ codes "timers"
      ∷ codes "port" ∷ [];
  flags = [];
}

-- the port, which must be given
abbrev pub port_of : Option Text → Option ℕ
port_of None = None
port_of (Some text) = number_in 1 65535 text

abbrev pub serve_by : Texts → Option Command
serve_by text = do
  port ← port_of (text (codes "port"))
  options ← shared text Plain
  Some (Serve port options)

unfoldable pub serve_of : List Text → Option Command
serve_of words = given serve_line words >>= λ entries. serve_by (text_of entries)

-- ---- all commands

-- `gen` has two numbers
abbrev pub generate_of : List Text → Option Command
generate_of (connections ∷ seed ∷ []) = do
  connections ← number_in 1 1000 connections
  seed ← number_in 0 4294967295 seed
  Some (Generate connections seed)
generate_of _ = None

-- the command that the first word names, with the words after it
abbrev pub command_named : Text → List Text → Option Command
command_named name words =
    if bytes_eq name (codes "one") then alone One words
    else if bytes_eq name (codes "replay") then replay_of words
    else if bytes_eq name (codes "serve") then serve_of words
    else if bytes_eq name (codes "display") then alone Display words
    else if bytes_eq name (codes "audit") then alone Audit words
    else if bytes_eq name (codes "gen") then generate_of words
    else None

-- without words no command is called
abbrev pub command_from : List Text → Option Command
command_from [] = None
command_from (name ∷ words) = command_named name words

-- the word `--`, and that it is one of these
abbrev pub is_dashes : Text → Bool
is_dashes word = bytes_eq word (codes "--")

abbrev pub has_dashes : List Text → Bool
has_dashes words = list_any is_dashes words

-- the command that the words after the program's name call. The word `--` is in none
unfoldable pub command_of : List Text → Option Command
command_of words = if has_dashes words then None else command_from words
