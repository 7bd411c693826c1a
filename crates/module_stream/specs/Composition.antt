-- What comes out of tasks (C++NPv2 chapter 9: the ACE Streams framework). The meaning of a task is
-- what it gives for a list of messages that is put from now on and then finished.
use Rattle.std.specs.Prelude.{◌≡◌, ◌≤◌, ℕ, List, [], ◌∷◌, ◌++◌, take, drop}
use Rattle.message_block.specs.Messages.{MessageState}

-- messages were put, and these came out: the changed task gives the rest of what the old one gave
-- for the whole
abbrev pub Comes : (List MessageState → List MessageState) → List MessageState → List MessageState
    → (List MessageState → List MessageState) → Type 0
Comes old put out new = (more : List MessageState) → old (put ++ more) ≡ out ++ new more

-- two tasks give the same
abbrev pub GiveTheSame : (List MessageState → List MessageState)
    → (List MessageState → List MessageState) → Type 0
GiveTheSame first second = (messages : List MessageState) → first messages ≡ second messages

-- what tasks that stand one after another give together: each gets what the one before it gives
abbrev pub through : {T : Type 0} → (T → List MessageState → List MessageState) → List T
    → List MessageState → List MessageState
through gives [] messages = messages
through gives (task ∷ tasks) messages = through gives tasks (gives task messages)

-- The part of a row of tasks from one place up to another gives what it gets: the row before it
-- gives as much as the row up to its end, and the row from its beginning on as much as the row
-- after it.
pub record IsPassedBy {T : Type 0} (gives : T → List MessageState → List MessageState)
    (tasks : List T) (from to : ℕ) : Type 0 where
  pub order : from ≤ to
  pub front : GiveTheSame (through gives (take to tasks)) (through gives (take from tasks))
  pub rest : GiveTheSame (through gives (drop from tasks)) (through gives (drop to tasks))
