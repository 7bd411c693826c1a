use Rattle.std.proofs.Common.{◌≡◌, ◌∙◌, ap, arith, drop, subst, suc, sym, ℕ}
use Rattle.cdr_record.specs.Borrowed.{owned}
use Rattle.cmd_pool.specs.PutItems.{PutsBefore, log_of}
use Rattle.cmd_pool.proofs.PutItems.{first_left}
use Rattle.cmd_pool.proofs.putter.RecordPutter.put_records.Goals as goal

pub loop-entry-preserved : goal.loop-entry-preserved
loop-entry-preserved g c =
    let left = first_left c.args.records.now c.next.new.self c.loop-entry.index
    (owned c.in-Some.entry) (c.loop-entry.invariant.0 ∙ c.in-Some.ensures.steps) in
    let more : c.in-Some-checked_add.next ≡ suc c.loop-entry.index =
    grind (arith, c.in-Some-checked_add.ensures) in (
      ap (λ (n : ℕ). drop n c.args.records.now) more ∙ left.1,
      subst (λ (n : ℕ). PutsBefore c.args.conn c.args.event c.args.records.now n
          (log_of c.args.self.now) (log_of c.put_record.new.self))
          (sym c.in-Some-checked_add.ensures.1)
          (c.put_record.ensures c.args.records.now left.0 _ c.loop-entry.invariant.1),
    )
