-- A pass of a token that holds nothing.
use Rattle.std.specs.Prelude.{◌≡◌, None, true}
use Rattle.leader_token.specs.declared.kept.Kept.{Ghosts as Keeping}
use Rattle.leader_token.specs.declared.pass.Pass.{Pass}
use Rattle.leader_token.specs.declared.pass.Token.{Token}
use Rattle.leader_token.specs.Words.{id_of, token_of, view_of}

abbrev pub IsFree : {T E Q : Type 0} {kept : Keeping T E Q} → Token T E Q → Pass T E Q kept → Type 0
IsFree token pass = (token_of pass ≡ id_of token) × ((view_of pass).base ≡ None)

-- The root pass of a token, which made no other pass yet.
pub record IsRoot {T E Q : Type 0} {kept : Keeping T E Q} (token : Token T E Q)
    (pass : Pass T E Q kept) : Type 0 where
  pub free : IsFree token pass
  pub root : (view_of pass).root ≡ true
  pub alone : (view_of pass).children ≡ 0
