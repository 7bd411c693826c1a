use Rattle.std.proofs.Common.{[], ◌∷◌}
use Rattle.leader_token.specs.Passes.{first_view}
use Rattle.leader_token.proofs.pass.Token.new.Given as goal

abbrev pub ghosts-started : goal.ghosts-started
ghosts-started g a = record { views = first_view g.start.0 g.start.1 (g.T.Kept.marks a.value) ∷ [] }
