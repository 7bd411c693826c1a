-- The value lies in a box, so that a hold moves a pointer and not the value.
use Rattle.std.specs.Prelude.{ℕ, List, Option}
use Rattle.std.specs.Global.{Box}
use Rattle.atomic_table.specs.Table.{State, Me}
use Rattle.leader_token.specs.Passes.{IsGot, IsPut, MayPut}
use Rattle.leader_token.specs.Rule.{Claimed, OwnEventsDiffer, Released, RuleHolds}
use Rattle.leader_token.specs.declared.kept.View.{View}

-- A box stands for what its value stands for.
abbrev pub boxed : {E Q T : Type 0} → (Q → ℕ → T → List E → Type 0) → Q → ℕ → Box T → List E
    → Type 0
boxed stands terms first box list = stands terms first box.value list

-- The marks of a box are those of its value.
abbrev pub boxed_marks : {T : Type 0} → (T → List ℕ) → Box T → List ℕ
boxed_marks marks box = marks box.value

-- What is said of a value, said of a box with a value: the rule, what a claim and a release tell,
-- what a pass gets, may put and puts, and that the own events differ.
module _ {E Q T : Type 0} (stands : Q → ℕ → T → List E → Type 0) (opens : List E → List ℕ)
    (marks : T → List ℕ) where
  abbrev pub RuleHoldsBoxed : Q → State (Option (Box T)) (View E Q) → Type 0
  RuleHoldsBoxed terms state = RuleHolds (boxed stands) opens (boxed_marks marks) terms state

  abbrev pub ClaimedBoxed : Me (Option (Box T)) (View E Q) → ℕ → Me (Option (Box T)) (View E Q)
      → Type 0
  ClaimedBoxed m found n = Claimed (boxed stands) opens (boxed_marks marks) m found n

  abbrev pub ReleasedBoxed : Me (Option (Box T)) (View E Q) → Me (Option (Box T)) (View E Q)
      → Type 0
  ReleasedBoxed m n = Released (boxed stands) opens (boxed_marks marks) m n

  abbrev pub IsGotBoxed : View E Q → Box T → View E Q → Type 0
  IsGotBoxed v box w = IsGot (boxed stands) opens (boxed_marks marks) v box w

  abbrev pub MayPutBoxed : View E Q → Box T → Type 0
  MayPutBoxed v box = MayPut (boxed stands) opens (boxed_marks marks) v box

  abbrev pub IsPutBoxed : View E Q → Box T → View E Q → Type 0
  IsPutBoxed v box w = IsPut (boxed stands) opens (boxed_marks marks) v box w

  abbrev pub OwnEventsDifferBoxed : Type 0
  OwnEventsDifferBoxed = OwnEventsDiffer (boxed stands) opens (boxed_marks marks)
