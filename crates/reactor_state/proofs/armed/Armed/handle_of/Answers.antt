use Rattle.std.proofs.Common.{◌≡◌, ◌∙◌, ◌==◌, sym, ap, subst, List, Some, false}
use Rattle.std.specs.Option.{option_map}
use Rattle.std.specs.List.{list_any}
use Rattle.reactor_summary.specs.declared.parts.ArmedTimer.{ArmedTimer}
use Rattle.reactor_state.specs.declared.armed.Owner.{Owner}
use Rattle.reactor_state.specs.Rises.{RisesIn}
use Rattle.reactor_state.specs.Tables.{timer_of}
use Rattle.reactor_state.proofs.Rising.{find_at, IsPlaceIn}
use Rattle.reactor_state.proofs.Owners.{owner_handle, no_handle}
use Rattle.reactor_state.proofs.armed.Armed.handle_of.Goals as goal

pub returns-in-Some : goal.returns-in-Some
returns-in-Some g c armed has once =
    let at : IsPlaceIn timer_of c.args.timer c.args.self.now.owners.items c.in-Some.place =
    subst (λ os. IsPlaceIn timer_of c.args.timer os c.in-Some.place) c.deref.ensures.value
    c.in-Some.ensures in
    owner_handle c.args.self.now.owners.items armed c.args.timer c.index.result.now has.owners once
    (find_at timer_of 0 has.owners.bound c.args.timer c.in-Some.place c.args.self.now.owners.items
    c.index.result.now has.owners.rising at.0 (at.1 c.index.result.now)
    ∙ ap Some (sym c.index.ensures))

pub returns-in-None : goal.returns-in-None
returns-in-None g c armed has once =
    sym (ap (option_map (λ (a : ArmedTimer). a.handle))
    (no_handle c.args.self.now.owners.items armed c.args.timer has.owners
    (subst (λ (os : List Owner). list_any (λ (o : Owner). o.timer == c.args.timer) os ≡ false)
    c.deref.ensures.value (c.in-None.ensures has.owners.bound
    (subst (RisesIn timer_of 0 has.owners.bound) (sym c.deref.ensures.value)
    has.owners.rising)))))
