-- The two pieces in which a record is brought.
use Rattle.std.specs.Prelude.{ℕ}
use Rattle.event_script.specs.Script.{ScriptStep}
use Rattle.script_generator.specs.Scripts.{front_piece, rest_piece}
use Rattle.script_generator.specs.declared.generator.Piece.{Piece}
use Rattle.script_generator.specs.declared.generator.Piece.TheVariants.{Front, Rest}

-- the step that brings this piece of the record of a round and a connection
abbrev pub piece_of : Piece → ℕ → ℕ → ℕ → ScriptStep
piece_of Front seed r c = front_piece seed r c
piece_of Rest seed r c = rest_piece seed r c
