-- Which words call the command, and what they ask for.
use Rattle.std.specs.Prelude.{if◌then◌else◌, List, [], ◌∷◌, Option, Some, None, codes, IfSome}
use Rattle.std.specs.Str.{bytes_eq}
use Rattle.cmd_line.specs.Given.{Line, Text, given, text_of}
use Rattle.cmd_line.specs.Lines.{Texts, has_dashes, port_of}
use Rattle.cmd_line.specs.Numbers.{number_in}
use Rattle.cmd_line.specs.Options.{◌>>=◌, value_if, value_or}
use Rattle.cmd_line.specs.Ranges.{IsWithin}
use Rattle.cmd_pool.specs.declared.words.PoolOptions.{PoolOptions}

-- the options of the command
abbrev pub pool_line : Line
pool_line = record {
  valued = codes "port" ∷ codes "workers" ∷ codes "writers" ∷ codes "until" ∷ [];
  flags = [];
}

-- what they say by their texts: the ranges, and what stands if one was not given
abbrev pub options_by : Texts → Option PoolOptions
options_by text = do
  port ← port_of (text (codes "port"))
  workers ← value_or 1 (number_in 1 64) (text (codes "workers"))
  writers ← value_or 2 (number_in 1 16) (text (codes "writers"))
  until ← value_if (number_in 1 4294967295) (text (codes "until"))
  Some (record { port = port; workers = workers; writers = writers; until = until })

-- what the words after the command's name ask for
unfoldable pub options_of : List Text → Option PoolOptions
options_of words = given pool_line words >>= λ entries. options_by (text_of entries)

abbrev pub pool_from : List Text → Option PoolOptions
pool_from [] = None
pool_from (name ∷ words) = if bytes_eq name (codes "pool") then options_of words else None

-- what the words after the program's name ask for, if they call the command. The word `--` is in
-- none
unfoldable pub pool_of : List Text → Option PoolOptions
pool_of words = if has_dashes words then None else pool_from words

pub record AreInRange (options : PoolOptions) : Type 0 where
  pub port : IsWithin 1 65535 options.port
  pub workers : IsWithin 1 64 options.workers
  pub writers : IsWithin 1 16 options.writers
  pub until : IfSome options.until (IsWithin 1 4294967295)
