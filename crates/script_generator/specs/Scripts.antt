-- The script that the generator makes of n connections and a seed (this project's own).
use Rattle.std.specs.Prelude.{ℕ, ◌+◌, List, [], ◌∷◌, ◌++◌, take, drop, map, flat_map}
use Rattle.std.specs.List.{range_with_len}
use Rattle.event_script.specs.Script.{ScriptStep, Opens, Brings, Shuts, ScriptGroup}
use Rattle.event_script.specs.Grammar.{Line, At, Stepping}
use Rattle.script_generator.specs.Records.{bytes_of}

-- the rounds run from 0 to this one
unfoldable pub last_round : ℕ
last_round = 124

-- each connection comes, and each is shut
abbrev pub openings : ℕ → List ScriptStep
openings n = map Opens (range_with_len 0 n)

abbrev pub shuttings : ℕ → List ScriptStep
shuttings n = map Shuts (range_with_len 0 n)

-- in a round each connection brings the first five bytes of its record, and then each brings the
-- rest of it
abbrev pub front_piece : ℕ → ℕ → ℕ → ScriptStep
front_piece seed r c = Brings c (take 5 (bytes_of seed r c))

abbrev pub rest_piece : ℕ → ℕ → ℕ → ScriptStep
rest_piece seed r c = Brings c (drop 5 (bytes_of seed r c))

abbrev pub pieces : ℕ → ℕ → ℕ → List ScriptStep
pieces n seed r = map (front_piece seed r) (range_with_len 0 n)
    ++ map (rest_piece seed r) (range_with_len 0 n)

-- the lines, in order
abbrev pub round_lines : ℕ → ℕ → ℕ → List Line
round_lines n seed r = At r ∷ map Stepping (pieces n seed r)

abbrev pub lines : ℕ → ℕ → List Line
lines n seed =
    map Stepping (openings n) ++ flat_map (round_lines n seed) (range_with_len 0 (last_round + 1))
    ++ map Stepping (shuttings n)

-- The groups: the connections come at moment 0, each round r is at moment r, after an `at` of its
-- own, and the connections are shut at the moment of the last round, in the same group.
abbrev pub round_group : ℕ → ℕ → ℕ → ScriptGroup
round_group n seed r = record { moment = r; steps = pieces n seed r }

unfoldable pub generated : ℕ → ℕ → List ScriptGroup
generated n seed =
    record { moment = 0; steps = openings n }
    ∷ map (round_group n seed) (range_with_len 0 last_round)
    ++ record { moment = last_round; steps = pieces n seed last_round ++ shuttings n } ∷ []
