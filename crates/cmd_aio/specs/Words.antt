-- Which words call the command, and what they ask for.
use Rattle.std.specs.Prelude.{ℕ, if◌then◌else◌, List, [], ◌∷◌, Option, None, codes}
use Rattle.std.specs.Str.{bytes_eq}
use Rattle.aio_words.specs.Words.{aio_of}
use Rattle.aio_words.specs.declared.words.AioWords.{AioWords}

-- what the words after the program's name ask for, if they call the command
abbrev pub called : List (List ℕ) → Option AioWords
called [] = None
called (name ∷ words) = if bytes_eq name (codes "aio") then aio_of words else None
