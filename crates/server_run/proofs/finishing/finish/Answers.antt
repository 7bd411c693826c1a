use Rattle.std.proofs.Common.{refl}
use Rattle.server_run.proofs.Winding.{finished, stopped}
use Rattle.server_run.proofs.finishing.finish.Goals as goal

pub into_parts-requires : goal.into_parts-requires
into_parts-requires g c =
    let o = c.requires in
    let s = stopped _ o.0 o.1 o.2 _ _ o.4 refl (c.stop.ensures.stands o.0 o.1 o.2 o.3) in
    record { stands = (o.0, o.1, s.journal, s.stands, s.over) }

pub returns-clause-stands : goal.returns-clause-stands
returns-clause-stands g c t first list stands none =
    let s = stopped _ t first list c.stop.new.self _ none refl
    (c.stop.ensures.stands t first list stands) in
    finished _ g.Q.TimerQueue.timers t first list c.args.core c.stop.new.self c.into_parts.result
    c.leave.result.parts s c.stop.ensures.rest.marks
    (c.into_parts.ensures.stands t first s.journal s.stands) c.into_parts.ensures.net
    c.leave.ensures.parts g.met.W.Watch.broke
