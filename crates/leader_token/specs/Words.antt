-- What contracts name of a token, of a pass and of a value that is out.
use Rattle.std.specs.Box.{with_value}
use Rattle.atomic_table.specs.Seated.{TableId}
use Rattle.leader_token.specs.declared.held.Held.{Held}
use Rattle.leader_token.specs.declared.kept.Kept.{Ghosts as Keeping}
use Rattle.leader_token.specs.declared.kept.View.{View}
use Rattle.leader_token.specs.declared.pass.Pass.{Pass}
use Rattle.leader_token.specs.declared.pass.Token.{Token}

module _ {T E Q : Type 0} where
  -- The token's name, which no other token has.
  abbrev pub id_of : Token T E Q → TableId
  id_of token = token.table.shared.table_id

  -- The name of the token that a pass belongs to.
  abbrev pub token_of : {kept : Keeping T E Q} → Pass T E Q kept → TableId
  token_of pass = pass.seat.table_id

  -- What a pass knows.
  abbrev pub view_of : {kept : Keeping T E Q} → Pass T E Q kept → View E Q
  view_of pass = pass.seat.me.0

-- The value that a pass got.
abbrev pub value_of : {T : Type 0} → Held T → T
value_of held = held.value.value

-- The same with another value.
abbrev pub held_with : {T : Type 0} → Held T → T → Held T
held_with held value = record held { value = with_value held.value value }
