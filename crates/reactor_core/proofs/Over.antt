-- When no handle is live any more.
use Rattle.std.proofs.Common.{◌≡◌, Bool, true, false, not, ◌&&◌, ◌||◌, ◌==◌, List, [], ◌∷◌, refl}
use Rattle.std.specs.List.{list_any}
use Rattle.reactor_summary.specs.declared.parts.LiveHandle.{LiveHandle}
use Rattle.reactor_summary.specs.declared.parts.OpenEvent.{OpenEvent}

-- if no event is open, no handle is alive and none waits for its close, none is live
pub none_live : (hs : List LiveHandle) (opens : List OpenEvent) → opens ≡ []
    → list_any (λ (h : LiveHandle). h.alive) hs ≡ false
    → list_any (λ (h : LiveHandle). not h.alive
    && not (list_any (λ (o : OpenEvent). o.handle.0 == h.handle.0) opens)) hs ≡ false → hs ≡ []
none_live [] opens none dead waits = refl
none_live (a ∷ hs) [] none dead waits = by_cases _ _ a.alive dead waits
  where
    by_cases : (p q b : Bool) → (b || p) ≡ false → ((not b && not false) || q) ≡ false → a ∷ hs ≡ []
    by_cases p q true dead waits = cc
    by_cases p q false dead waits = cc
none_live (a ∷ hs) (o ∷ opens) none dead waits = cc
