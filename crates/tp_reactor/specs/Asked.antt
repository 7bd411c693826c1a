-- What a worker knows once it asked something of the reactor.
use Rattle.std.specs.Prelude.{ℕ, ◌≡◌, ◌↔◌, false, not, List, [], ◌∷◌, ◌++◌, Option, Result, Ok, Err}
use Rattle.std.specs.Prelude.{IsErr}
use Rattle.ev_base.specs.ev_types.specs.declared.upcall.Handle.{Handle}
use Rattle.ev_base.specs.ev_types.specs.declared.upcall.Mask.{Mask}
use Rattle.leader_token.specs.declared.kept.View.{View}
use Rattle.reactor_model.specs.reactor_journal.specs.declared.entry.Entry.{Entry}
use Rattle.reactor_model.specs.reactor_journal.specs.declared.entry.Entry.TheVariants.{Removed}
use Rattle.reactor_model.specs.reactor_journal.specs.Past.{past_of}
use Rattle.reactor_model.specs.Handling.{Handling}
use Rattle.reactor_core.specs.reactor_summary.specs.Summary.{Summary, summary, is_alive, is_busy}
use Rattle.ev_base.specs.Terms.{Terms}
use Rattle.reactor_model.specs.reactor_journal.specs.Event.{Origin}
use Rattle.reactor_core.specs.Acting.{StopAppends}
use Rattle.reactor_core.specs.Offering.{RegisterGives}
use Rattle.reactor_core.specs.Refusals.{LeavesOffer}
use Rattle.reactor_core.specs.Registering.{registered}
use Rattle.reactor_core.specs.Settling.{IsClosing}
use Rattle.reactor_core.specs.Stands.{Meaning}
use Rattle.reactor_core.specs.declared.reactor.Core.{Core}
use Rattle.reactor_core.specs.declared.registering.RegisterRefused.{RegisterRefused}
use Rattle.reactor_core.specs.declared.removing.NotLive.{NotLive}
use Rattle.reactor_desk.specs.Desks.{core_of}
use Rattle.reactor_desk.specs.declared.terms.DeskTerms.{DeskTerms}
use Rattle.reactor_desk.specs.declared.desk.Desk.{Desk}
use Rattle.tp_reactor.specs.Led.{Finds, LeavesDesk}

-- A request of a caller that knew v and knows w from then on: the desk that was found under the
-- token stood for the history, and was left standing for it and these entries, of which P holds.
-- The caller's own event is what it was.
pub record HasAsked {H M Q W V N E : Type 0} (m : Meaning H M Q W V N E)
    (v : View (Entry N) DeskTerms) (P : List (Entry N) → Desk H M Q W V N E → Desk H M Q W V N E
    → List (Entry N) → Type 0) (w : View (Entry N) DeskTerms) : Type 0 where
  pub found : Desk H M Q W V N E
  pub left : Desk H M Q W V N E
  pub first : ℕ
  pub history : List (Entry N)
  pub entries : List (Entry N)
  pub finds : Finds m v first history found
  pub gives : P history found left entries
  pub leaves : LeavesDesk m v found left (history ++ entries) v.mine w

-- the entry of a request that was met, and none else
abbrev pub entries_asked : {A X N : Type 0} → (A → Entry N) → Result A X → List (Entry N)
entries_asked e (Ok a) = e a ∷ []
entries_asked e (Err refused) = []

-- The request was answered on the history: its entry is there if it was met, C is its cause, and
-- R what it leaves of the core.
pub record Asks {H M Q W V N E A X : Type 0} (e : Summary → A → Entry N) (result : Result A X)
    (C : Summary → Result A X → Type 0)
    (R : Core H M Q W V N E → Result A X → Core H M Q W V N E → Type 0)
    (h : List (Entry N)) (found left : Desk H M Q W V N E) (entries : List (Entry N)) : Type 0 where
  pub are : entries ≡ entries_asked (e (summary (past_of h))) result
  pub cause : C (summary (past_of h)) result
  pub leaves : R (core_of found) result (core_of left)

-- A handler fits no turns, whatever its origin: it may be offered wherever the history stands by
-- then.
abbrev pub IsOfferedAnywhere : {H E N : Type 0} → Handling H E N → Terms → H → Type 0
IsOfferedAnywhere {N = N} means t handler =
    (origin : Option (Origin N)) → means.fits t origin handler []

-- the entries of a registration
abbrev pub entries_offered : {H N : Type 0} → List (Entry N) → Mask → Option (ℕ × ℕ)
    → Result Handle (H × RegisterRefused) → List (Entry N)
entries_offered h mask timer (Ok handle) = registered (summary (past_of h)) handle mask timer
entries_offered h mask timer (Err refused) = []

pub record Registers {H M Q W V N E : Type 0} (m : Meaning H M Q W V N E) (t : Terms) (F : ℕ)
    (handler : H) (mask : Mask) (timer : Option (ℕ × ℕ))
    (result : Result Handle (H × RegisterRefused)) (h : List (Entry N))
    (found left : Desk H M Q W V N E) (entries : List (Entry N)) : Type 0 where
  pub are : entries ≡ entries_offered h mask timer result
  pub gives : RegisterGives m t F h mask timer (core_of found) result (core_of left)
  pub leaves : LeavesOffer m handler (core_of found) result (core_of left)

-- A registration. How much of the history was handed over is left open.
abbrev pub RegistersAt : {H M Q W V N E : Type 0} → Meaning H M Q W V N E → Terms → H → Mask
    → Option (ℕ × ℕ) → Result Handle (H × RegisterRefused) → List (Entry N)
    → Desk H M Q W V N E → Desk H M Q W V N E → List (Entry N) → Type 0
RegistersAt m t handler mask timer result h found left entries =
    (F : ℕ) × Registers m t F handler mask timer result h found left entries

-- the entries of a removal
abbrev pub AreRemoved : {N : Type 0} → Summary → Handle → Result (Unit {0}) NotLive → List (Entry N)
    → Type 0
AreRemoved {N} s handle (Ok done) entries =
    (closing : List (Entry N)) × IsClosing (not (is_busy s handle.0)) handle closing
    × (entries ≡ Removed handle ∷ closing)
AreRemoved s handle (Err refused) entries = entries ≡ []

pub record RemovesHandle {H M Q W V N E : Type 0} (handle : Handle)
    (result : Result (Unit {0}) NotLive) (h : List (Entry N)) (found left : Desk H M Q W V N E)
    (entries : List (Entry N)) : Type 0 where
  pub are : AreRemoved (summary (past_of h)) handle result entries
  pub cause : IsErr result ↔ (is_alive (summary (past_of h)) handle.0 ≡ false)

-- the entries of a stop
abbrev pub StopsReactor : {H M Q W V N E : Type 0} → List (Entry N) → Desk H M Q W V N E
    → Desk H M Q W V N E → List (Entry N) → Type 0
StopsReactor h found left entries =
    StopAppends (summary (past_of h)) (summary (past_of h)).ended entries
