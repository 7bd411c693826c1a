use Rattle.std.proofs.Common.{◌≡◌, drop, length}
use Rattle.cmd_pool.specs.PutItems.{PutsBefore, log_of}
use Rattle.cmd_pool.proofs.putter.RecordPutter.put_records.Given as goal

-- the items so far, and what is left from the next on
abbrev pub invariant-loop-entry : goal.invariant-loop-entry
invariant-loop-entry g l = (drop l.index l.records ≡ l.rest)
    × PutsBefore l.conn l.event l.records l.index (log_of l.fn.self) (log_of l.self)

abbrev pub decreases-loop-entry : goal.decreases-loop-entry
decreases-loop-entry g l = length l.rest
