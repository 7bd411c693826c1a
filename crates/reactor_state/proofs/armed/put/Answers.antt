use Rattle.std.proofs.Common.{◌≤◌, ◌∙◌, ap, length, arith}
use Rattle.reactor_summary.specs.reactor_journal.specs.Past.{count}
use Rattle.reactor_state.specs.declared.armed.Owner.{Owner}
use Rattle.reactor_state.specs.Rises.{RisesIn}
use Rattle.reactor_state.specs.Tables.{timer_of}
use Rattle.reactor_state.proofs.Lists.{count-insert}
use Rattle.reactor_state.proofs.Rising.{rises-insert}
use Rattle.reactor_state.proofs.armed.put.Goals as goal

pub returns-clause-rising : goal.returns-clause-rising
returns-clause-rising c hi rising less absent =
    let there : RisesIn timer_of 0 hi c.deref.result.now = rw c.deref.ensures.value rising in
    let within : c.owner_from-place.result ≤ length c.args.owners.now.items =
    rw c.deref.ensures.value at c.owner_from-place.ensures.bound in
    rw c.in-Ok.ensures.items
    (rises-insert timer_of 0 hi c.owner_from-place.result c.args.owners.now.items c.args.owner
    (omega arith) less within rising
    (rw c.deref.ensures.value at (c.owner_from-place.ensures.below hi there))
    (rw c.deref.ensures.value at (c.owner_from-place.ensures.above hi there)) absent)

pub returns-clause-counts : goal.returns-clause-counts
returns-clause-counts c p =
    let within : c.owner_from-place.result ≤ length c.args.owners.now.items =
    rw c.deref.ensures.value at c.owner_from-place.ensures.bound in
    ap (count (λ (o : Owner). p o.timer o.handle.0)) c.in-Ok.ensures.items
    ∙ count-insert (λ (o : Owner). p o.timer o.handle.0) c.args.owners.now.items
    c.owner_from-place.result c.args.owner within
