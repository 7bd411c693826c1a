-- The events that a list of notes leaves open.
use Rattle.std.specs.Prelude.{◌≡◌, ◌≤◌, ◌==◌, ℕ, List, [], ◌∷◌, ◌++◌, cond, length}
use Rattle.leader_token.specs.list_lemmas.specs.Times.{times}
use Rattle.test_token.specs.declared.desk.Note.{Note}
use Rattle.test_token.specs.declared.desk.Desk.{Desk}
use Rattle.test_token.specs.declared.desk.Note.TheVariants.{Begun, Ended}

-- The list without the first e.
abbrev pub without : ℕ → List ℕ → List ℕ
without e [] = []
without e (x ∷ xs) = cond (e == x) xs (x ∷ without e xs)

-- The events left open by the notes, after those that were open before.
abbrev pub open_events : List ℕ → List Note → List ℕ
open_events os [] = os
open_events os (Begun e ∷ h) = open_events (e ∷ os) h
open_events os (Ended e ∷ h) = open_events (without e os) h

-- The new list is the old one, notes of others, and then the note.
abbrev pub Adds : Note → List Note → List Note → Type 0
Adds e old new = (between : List Note) × (new ≡ (old ++ between) ++ e ∷ [])

abbrev pub desk_opens : List Note → List ℕ
desk_opens = open_events []

abbrev pub desk_marks : Desk → List ℕ
desk_marks desk = desk.faults ∷ []

-- The desk has these notes, no event is open twice, and an open event is the number of a note.
pub record DeskStands (desk : Desk) (list : List Note) : Type 0 where
  pub notes : desk.notes.items ≡ list
  pub once : (e : ℕ) → times e (desk_opens list) ≤ 1
  pub below : (e : ℕ) → length list ≤ e → times e (desk_opens list) ≡ 0
