-- If an event is not open, its close ends no life.
use Rattle.std.proofs.Common.{◌≡◌, List, [], ◌∷◌, map, refl, ap, None}
use Rattle.reactor_summary.specs.declared.parts.LiveHandle.{LiveHandle}
use Rattle.reactor_summary.specs.declared.parts.WaitingEvent.{WaitingEvent}
use Rattle.reactor_summary.specs.Summary as S

pub with_no_end : (hs : List LiveHandle) → map (S.with_end None) hs ≡ hs
with_no_end [] = refl
with_no_end (h ∷ hs) = ap (λ rest. h ∷ rest) (with_no_end hs)

pub without_none : (ws : List WaitingEvent) → S.without_events_of None ws ≡ ws
without_none [] = refl
without_none (w ∷ ws) = ap (λ rest. w ∷ rest) (without_none ws)

pub ruleset no_owner = (with_no_end, without_none)
