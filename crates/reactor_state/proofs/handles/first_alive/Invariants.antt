use Rattle.std.proofs.Common.{◌≡◌, drop}
use Rattle.std.specs.List.{find}
use Rattle.reactor_summary.specs.declared.parts.LiveHandle.{LiveHandle}
use Rattle.reactor_state.proofs.handles.first_alive.Given as goal

abbrev pub invariant-loop-h : goal.invariant-loop-h
invariant-loop-h l = find (λ (h : LiveHandle). h.alive) l.handles
    ≡ find (λ (h : LiveHandle). h.alive) (drop l.h-index l.handles)
