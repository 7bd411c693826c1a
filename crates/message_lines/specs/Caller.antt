-- The caller's side of the two lines.
use Rattle.std.specs.Prelude.{◌≡◌, List, [], ◌∷◌, ◌++◌}
use Rattle.crossbeam_queue.specs.Passes.{view}
use Rattle.message_block.specs.Messages.{MessageState}
use Rattle.message_lines.specs.declared.line.Item.{Item}
use Rattle.message_lines.specs.declared.line.Item.TheVariants.{Stop}
use Rattle.message_lines.specs.declared.lines.Lines.{Lines}
use Rattle.message_lines.specs.Boxes.{ones, singly, IsIn}

-- the lines are the same two
abbrev pub AreSame : Lines → Lines → Type 0
AreSame old new = (new.feed.value ≡ old.feed.value) × (new.came.value ≡ old.came.value)

-- one more item was sent
abbrev pub HasSent : Lines → Item → Lines → Type 0
HasSent old item new = (view new.puts).sent ≡ (view old.puts).sent ++ item ∷ []

-- what came in between is in the inbox
abbrev pub KeepsWhatCame : Lines → Lines → Type 0
KeepsWhatCame old new = (answered : List MessageState)
    → IsIn (singly (view old.takes).got) answered old.inbox
    → IsIn (singly (view new.takes).got) answered new.inbox

-- what came in between is in the inbox, nothing was lost, and nothing was put
pub record Keeps (old new : Lines) : Type 0 where
  pub came : KeepsWhatCame old new
  pub lost : new.inbox.lost ≡ old.inbox.lost
  pub sent : (view new.puts).sent ≡ (view old.puts).sent
  pub same : AreSame old new

-- one more item was sent, and nothing was taken in
pub record HasPut (old : Lines) (item : Item) (new : Lines) : Type 0 where
  pub sent : HasSent old item new
  pub came : KeepsWhatCame old new
  pub lost : new.inbox.lost ≡ old.inbox.lost
  pub same : AreSame old new

-- These messages were sent and then the end, and what came back is the messages that were answered
-- and those in the inbox, to the end.
pub record HasStopped (put answered : List MessageState) (lines : Lines) : Type 0 where
  pub sent : singly (view lines.puts).sent ≡ ones put ++ Stop ∷ []
  pub came : IsIn (singly (view lines.takes).got) answered lines.inbox
