-- What becomes of a writer that a thread runs.
use Rattle.std.specs.Prelude.{◌≡◌, List, Option, Some, None}
use Rattle.task_server.specs.declared.item.Item.{Item}
use Rattle.pool_writers.specs.Writers.{HasServed}
use Rattle.pool_writers.specs.declared.seat.Seat.{Seat}
use Rattle.pool_writers.specs.declared.seat.Seat.TheVariants as seat
use Rattle.pool_writers.specs.declared.seat.Serves.{Serves}
use Rattle.pool_writers.specs.declared.writer.Ended.{Ended}
use Rattle.pool_writers.specs.declared.writer.Writer.{Writer}

-- the writer for which a thread makes its promise
abbrev pub promised : {S : Type 0} → Serves S → Writer S
promised promise = promise.writer.value

-- a thread runs this writer, or none could be started, and the writer is gone
abbrev pub RunsOrLeft : {S : Type 0} → Writer S → Seat S → Type 0
RunsOrLeft writer (seat.Ready other) = ⊥
RunsOrLeft writer (seat.Running child) = promised child.promise ≡ writer
RunsOrLeft writer seat.Left = Unit {0}

-- the writer of a seat was started; a seat whose writer had been started before is as it was
abbrev pub StartsSo : {S : Type 0} → Seat S → Seat S → Type 0
StartsSo (seat.Ready writer) new = RunsOrLeft writer new
StartsSo (seat.Running child) new = new ≡ seat.Running child
StartsSo seat.Left new = new ≡ seat.Left

-- The writer that a thread ran has served what it took. Without a thread there is nothing to tell
-- of.
abbrev pub FinishesSo : {S : Type 0} → (S → List Item) → Seat S → Option (Ended S) → Type 0
FinishesSo served (seat.Ready writer) result = result ≡ None
FinishesSo served (seat.Running child) (Some ended) =
    HasServed served (promised child.promise) ended
FinishesSo served (seat.Running child) None = ⊥
FinishesSo served seat.Left result = result ≡ None
