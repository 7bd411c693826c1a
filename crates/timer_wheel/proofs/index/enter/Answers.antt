use Rattle.std.proofs.Common.{sym, subst}
use Rattle.timer_wheel.specs.Spokes.{timers_of}
use Rattle.timer_wheel.specs.Index.{Covers}
use Rattle.timer_wheel.proofs.Kept.{covers_put}
use Rattle.timer_wheel.proofs.index.enter.Goals as goal
use Rattle.timer_wheel.proofs.index.enter.Goals.{then-len-capacity, else-len-capacity}

pub returns-clause-covers : goal.returns-clause-covers
returns-clause-covers c =
    let timers = timers_of c.args.places.now in
    let covers : Covers c.if-len-capacity.index.items timers =
    elim c.if-len-capacity.branch [
      | then-len-capacity w ↦ subst (λ v. Covers v.items timers) (sym w.index-is)
          w.renew.ensures.covers
      | else-len-capacity w ↦ subst (λ v. Covers v.items timers) (sym w.index-is) c.requires.covers
    ] in
    covers_put c.if-len-capacity.index.items c.put.new.index.items timers c.args.t.now
    c.entry_of_timer.result c.entry_of_timer.ensures covers c.requires.fresh
    c.put.ensures.others
