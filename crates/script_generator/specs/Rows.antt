-- Worked rows of the generator.
use Rattle.std.specs.Prelude.{◌≡◌, ℕ, List, ◌++◌, codes}
use Rattle.script_generator.specs.Texts.{generated_text}
use Rattle.event_script.specs.Script.{steps_of}
use Rattle.script_generator.specs.Scripts.{generated}
use Rattle.script_generator.specs.Laws.{bytes_of_connections}

-- The first record of one connection and seed 0 is big-endian, with padding 0 and a payload of 21
-- bytes.
abbrev pub first_lines : List ℕ
first_lines = codes "open 0\nat 0\ndata 0 0000000000\n"

pub record HasRows : Type 0 where
  pub begins : (rest : List ℕ) × (generated_text 1 0 ≡ first_lines ++ rest)
  pub bytes_of_one : bytes_of_connections (steps_of (generated 1 0)) ≡ 6035
  pub bytes_of_forty : bytes_of_connections (steps_of (generated 40 7)) ≡ 242500
  pub bytes_of_eighty : bytes_of_connections (steps_of (generated 80 7)) ≡ 485000
