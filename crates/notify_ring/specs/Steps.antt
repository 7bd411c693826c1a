-- The steps on the ring's words. Each relates a seat before the step (m) to the same seat after it
-- (n); r is what the step found in its word. That a claim keeps what it found, and that a look
-- does, is said here and nowhere else, so these definitions have to be believed. What a claim found
-- is tied to the postings that were drawn, by the rule. What a look at an empty gate found is tied
-- to nothing, since the gate may be stored right after the look.
use Rattle.std.specs.Prelude.{◌≡◌, ℕ, ◌+◌, List, [], ◌∷◌, ◌++◌, false, true}
use Rattle.atomic_table.specs.Table.{Me}
use Rattle.ev_types.specs.declared.upcall.Handle.{Handle}
use Rattle.ev_types.specs.declared.upcall.Kind.{Kind}
use Rattle.notify_ring.specs.declared.posting.Posting.{Posting}
use Rattle.notify_ring.specs.declared.view.Flight.{Flight}
use Rattle.notify_ring.specs.declared.view.Flight.TheVariants.{Idle, Claimed, Drawn, Written}
use Rattle.notify_ring.specs.declared.view.Stage.{Stage}
use Rattle.notify_ring.specs.declared.view.Stage.TheVariants.{Resting, Seen, Cleared}
use Rattle.notify_ring.specs.declared.view.View.{View}
use Rattle.notify_ring.specs.Postings.{code}
use Rattle.notify_ring.specs.Passes.{blank, posting_of, IsNext}

-- What a seat has: its view, and the slots that are out with it, of which a ring has none.
abbrev pub Mine : Type 0
Mine = Me (Unit {0}) View

-- A poster's seat, and the drainer's.
abbrev pub IsPosterSeat : Mine → Type 0
IsPosterSeat m = (m.1 ≡ []) × (m.0.posts ≡ true)

abbrev pub IsDrainerSeat : Mine → Type 0
IsDrainerSeat m = (m.0.drains ≡ true) × (m.1 ≡ [])

-- A poster's claim found r places held or in flight. The view counts it and keeps what it found.
abbrev pub claimed_view : View → ℕ → View
claimed_view v r = record v { claims = v.claims + 1; found = r; flight = Claimed r }

abbrev pub ClaimMade : Mine → ℕ → Mine → Type 0
ClaimMade m r n = n ≡ (claimed_view m.0 r, [])

-- A poster gave its claim back, stored the handle of the number that it drew, or stored the gate.
-- Only its flight goes on.
abbrev pub next_flight : Flight → Flight
next_flight Idle = Idle
next_flight (Claimed r) = Idle
next_flight (Drawn x) = Written x
next_flight (Written x) = Idle

abbrev pub next_view : View → View
next_view v = record v { flight = next_flight v.flight }

abbrev pub FlightMoved : Mine → Mine → Type 0
FlightMoved m n = n ≡ (next_view m.0, [])

-- A poster drew the number that it found, for this handle and kind. The posting stands at the end
-- of its list.
abbrev pub drawn_view : View → ℕ → Handle → Kind → View
drawn_view v n handle kind = record v {
  posted = v.posted ++ posting_of v n handle kind ∷ [];
  flight = Drawn (posting_of v n handle kind);
}

abbrev pub NumberDrawn : Handle → Kind → Mine → ℕ → Mine → Type 0
NumberDrawn handle kind m r n = n ≡ (drawn_view m.0 r handle kind, [])

-- The drainer looked at the gate of the next number and found r: 0 for an empty gate, or the code
-- of the next posting. The view counts the look and keeps what it found.
abbrev pub loaded_view : View → ℕ → Stage → View
loaded_view v r t = record v { loads = v.loads + 1; gate = r; stage = t }

abbrev pub GateLoaded : Mine → ℕ → Mine → Type 0
GateLoaded m r n = (r ≡ 0 → n ≡ (loaded_view m.0 r Resting, []))
    × (¬ (r ≡ 0) → (x : Posting) × (r ≡ code x) × IsNext m.0.got x
    × (n ≡ (loaded_view m.0 r (Seen x), [])))

-- The drainer looked at that gate, found r, and took nothing. The view counts the look and keeps
-- what it found.
abbrev pub GatePeeked : Mine → ℕ → Mine → Type 0
GatePeeked m r n = n ≡ (loaded_view m.0 r Resting, [])

-- The drainer found that posting's handle in the handle word. No view changes.
abbrev pub HandleLoaded : Mine → ℕ → Mine → Type 0
HandleLoaded m r n = (n ≡ m) × ((x : Posting) → m.0.stage ≡ Seen x → r ≡ x.handle.0)

-- The drainer cleared the gate. The posting that it had seen stands at the end of its list.
abbrev pub got_after : Stage → List Posting → List Posting
got_after Resting got = got
got_after (Seen x) got = got ++ x ∷ []
got_after Cleared got = got

abbrev pub cleared_view : View → View
cleared_view v = record v { got = got_after v.stage v.got; stage = Cleared }

abbrev pub GateCleared : Mine → Mine → Type 0
GateCleared m n = n ≡ (cleared_view m.0, [])

-- The drainer gave the place back, and has taken the posting.
abbrev pub released_view : View → View
released_view v = record v { stage = Resting }

abbrev pub PlaceReleased : Mine → Mine → Type 0
PlaceReleased m n = n ≡ (released_view m.0, [])

-- A new ring's one view is split into the poster's part and the drainer's.
abbrev pub poster_part : View → View
poster_part v = record v { drains = false; got = []; loads = 0; gate = 0; stage = Resting }

abbrev pub drainer_part : View → View
drainer_part v = record blank {
  drains = v.drains;
  got = v.got;
  loads = v.loads;
  gate = v.gate;
  stage = v.stage;
}

-- At the end the drainer's part comes back to the root's view.
abbrev pub with_drainer : View → View → View
with_drainer v u = record v {
  drains = u.drains;
  got = u.got;
  loads = u.loads;
  gate = u.gate;
  stage = u.stage;
}
