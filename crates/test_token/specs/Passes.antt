-- What a pass knows before and after a call.
use Rattle.std.specs.Prelude.{◌≡◌, None}
use Rattle.leader_token.specs.declared.kept.View.{View}

module _ {E Q : Type 0} where
  -- It does not hold the value, and has no event open.
  abbrev pub IsFree : View E Q → Type 0
  IsFree pass = (pass.base ≡ None) × (pass.mine ≡ None)

  -- The second is of the same root, and has as many children as the first.
  abbrev pub HasKinOf : View E Q → View E Q → Type 0
  HasKinOf first second = (second.root ≡ first.root) × (second.children ≡ first.children)
