use Rattle.std.proofs.Common.{Some, ap, refl, sym, ◌∙◌}
use Rattle.cmd_pool.proofs.PutItems.{puts_maybe, puts_no_more}
use Rattle.cmd_pool.proofs.putter.RecordPutter.put_record.Goals as goal

pub returns-in-Ok : goal.returns-in-Ok
returns-in-Ok g c records at first before =
    puts_maybe c.args.conn c.args.event records first _ _ _ before
    (record { conn_is = refl; event_is = refl; rec_is = at ∙ ap Some (sym c.in-Ok.ensures) })
    c.put.ensures

pub returns-in_default : goal.returns-in_default
returns-in_default g c records at first before =
    puts_no_more c.args.conn c.args.event records c.args.index first _ before
