-- What is put of the records that an upcall read.
use Rattle.std.specs.Prelude.{◌≡◌, ◌≤◌, ◌+◌, ℕ, List, [], ◌∷◌, ◌++◌, slice_get, Some}
use Rattle.cdr_record.specs.declared.record.LogRecord.{LogRecord}
use Rattle.server_run.specs.log_handler.specs.declared.note.ServerNote.{ServerNote}
use Rattle.server_run.specs.log_handler.specs.declared.note.ServerNote.TheVariants as note
use Rattle.task_server.specs.Calls.{put_log}
use Rattle.task_server.specs.declared.item.Item.{Item}
use Rattle.task_server.specs.declared.rule.Log.{Log}
use Rattle.task_server.specs.declared.rule.Numbered.{Numbered}
use Rattle.cmd_pool.specs.declared.putter.RecordPutter.{RecordPutter}

-- what was put so far
abbrev pub log_of : {R : Type 0} → RecordPutter R → Log Item
log_of putter = put_log putter.putter

-- the item has the record of its number among these, with the numbers of their event and connection
pub record IsItemOf (conn event : ℕ) (records : List LogRecord) (item : Item) : Type 0 where
  pub conn_is : item.conn ≡ conn
  pub event_is : item.event ≡ event
  pub rec_is : slice_get records item.index ≡ Some item.rec

-- items of these records, whose numbers rise from `least` on and are less than `end`
abbrev pub AreItemsOf : ℕ → ℕ → List LogRecord → ℕ → ℕ → List (Numbered Item) → Type 0
AreItemsOf conn event records least end [] = least ≤ end
AreItemsOf conn event records least end (e ∷ es) = IsItemOf conn event records e.item
    × (least ≤ e.item.index) × AreItemsOf conn event records (e.item.index + 1) end es

-- items of the first so many of these records were put, each at most once and in order, and nothing
-- else
abbrev pub PutsBefore : ℕ → ℕ → List LogRecord → ℕ → Log Item → Log Item → Type 0
PutsBefore conn event records end old new = (more : List (Numbered Item))
    × (new ≡ record old { own = old.own ++ more }) × AreItemsOf conn event records 0 end more

-- items of these records were put, each at most once and in order, and nothing else
abbrev pub PutsSome : ℕ → ℕ → List LogRecord → Log Item → Log Item → Type 0
PutsSome conn event records old new = (end : ℕ) × PutsBefore conn event records end old new

-- what is put of an upcall's note: items of its records; of another note, nothing
abbrev pub PutsOf : ServerNote → ℕ → Log Item → Log Item → Type 0
PutsOf (note.Piece conn took records) event old new = PutsSome conn event records old new
PutsOf _ event old new = new ≡ old
