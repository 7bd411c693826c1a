use Rattle.std.proofs.Common.{◌≡◌, ◌==◌, drop}
use Rattle.std.specs.List.{find}
use Rattle.reactor_summary.specs.declared.parts.OpenEvent.{OpenEvent}
use Rattle.reactor_state.proofs.opens.find_open.Given as goal

abbrev pub invariant-loop-o : goal.invariant-loop-o
invariant-loop-o l = find (λ (o : OpenEvent). o.event == l.event) l.opens
    ≡ find (λ (o : OpenEvent). o.event == l.event) (drop l.o-index l.opens)
