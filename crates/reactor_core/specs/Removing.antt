-- What `remove` and `stop` append.
use Rattle.std.specs.Prelude.{ℕ, ◌≡◌, Bool, true, false, not, List, [], ◌∷◌, ◌++◌, filter, length}
use Rattle.reactor_summary.specs.ev_types.specs.declared.upcall.Handle.{Handle}
use Rattle.ev_base.specs.Terms.{Terms}
use Rattle.reactor_model.specs.reactor_journal.specs.declared.entry.Entry.{Entry}
use Rattle.reactor_model.specs.reactor_journal.specs.declared.entry.Entry.TheVariants.{Removed}
use Rattle.reactor_model.specs.reactor_journal.specs.declared.entry.Entry.TheVariants.{Ended}
use Rattle.reactor_model.specs.reactor_journal.specs.Past.{past_of}
use Rattle.reactor_summary.specs.declared.parts.LiveHandle.{LiveHandle}
use Rattle.reactor_summary.specs.Summary.{Summary, summary, is_busy}
use Rattle.reactor_core.specs.Stands.{Meaning, StandsQuiet, Stands}
use Rattle.reactor_core.specs.Settling.{IsClosing}
use Rattle.reactor_core.specs.declared.reactor.Core.{Core}

-- a handle that was alive was removed, and its handler closed if it was at home
pub record RemovesQuietly {H M Q W V N E : Type 0} (m : Meaning H M Q W V N E) (t : Terms) (F : ℕ)
    (h : List (Entry N)) (handle : Handle) (new : Core H M Q W V N E) : Type 0 where
  pub entries : List (Entry N)
  pub closing : IsClosing (not (is_busy (summary (past_of h)) handle.0)) handle entries
  pub stands : StandsQuiet m t new F ((h ++ Removed handle ∷ []) ++ entries)

pub record Removes {H M Q W V N E : Type 0} (m : Meaning H M Q W V N E) (t : Terms) (F : ℕ)
    (h : List (Entry N)) (handle : Handle) (new : Core H M Q W V N E) : Type 0 where
  pub entries : List (Entry N)
  pub closing : IsClosing (not (is_busy (summary (past_of h)) handle.0)) handle entries
  pub stands : Stands m t new F ((h ++ Removed handle ∷ []) ++ entries)

-- For each of the handles, in order, its `Removed`, and its `Closed` if it is not busy.
abbrev pub AreRemovals : {N : Type 0} → (ℕ → Bool) → List LiveHandle → List (Entry N) → Type 0
AreRemovals busy [] es = es ≡ []
AreRemovals {N} busy (h ∷ hs) es =
    (closing : List (Entry N)) × (rest : List (Entry N))
    × IsClosing (not (busy h.handle.0)) h.handle closing × AreRemovals busy hs rest
    × (es ≡ Removed h.handle ∷ (closing ++ rest))

-- the handles that are alive, in rising order
abbrev pub alive_handles : Summary → List LiveHandle
alive_handles s = filter (λ h. h.alive) s.handles

-- what `stop` does if the reactor was not stopped: `Ended`, and the removal of each handle that
-- is alive, in rising order
pub record Stops {H M Q W V N E : Type 0} (m : Meaning H M Q W V N E) (t : Terms) (F : ℕ)
    (h : List (Entry N)) (new : Core H M Q W V N E) : Type 0 where
  pub entries : List (Entry N)
  pub removals : AreRemovals (is_busy (summary (past_of h))) (alive_handles (summary (past_of h)))
      entries
  pub stands : Stands m t new F ((h ++ Ended ∷ []) ++ entries)

-- if it was stopped before, nothing
abbrev pub StopsOnce : {H M Q W V N E : Type 0} → Meaning H M Q W V N E → Terms → ℕ → List (Entry N)
    → Core H M Q W V N E → Bool → Type 0
StopsOnce m t F h new true = Stands m t new F h
StopsOnce m t F h new false = Stops m t F h new

-- one handle was removed: the first that is alive
pub record RemovesFirst {H M Q W V N E : Type 0} (m : Meaning H M Q W V N E) (t : Terms) (F : ℕ)
    (h : List (Entry N)) (new : Core H M Q W V N E) : Type 0 where
  pub first : LiveHandle
  pub rest : List LiveHandle
  pub are : alive_handles (summary (past_of h)) ≡ first ∷ rest
  pub removes : RemovesQuietly m t F h first.handle new
  pub left : alive_handles (summary (past_of ((h ++ Removed first.handle ∷ []) ++ removes.entries)))
      ≡ rest
  pub busy : (y : ℕ) → is_busy (summary
      (past_of ((h ++ Removed first.handle ∷ []) ++ removes.entries))) y
      ≡ is_busy (summary (past_of h)) y
  pub ended : (summary (past_of ((h ++ Removed first.handle ∷ []) ++ removes.entries))).ended
      ≡ (summary (past_of h)).ended

-- all were removed
pub record RemovesAll {H M Q W V N E : Type 0} (m : Meaning H M Q W V N E) (t : Terms) (F : ℕ)
    (h : List (Entry N)) (new : Core H M Q W V N E) : Type 0 where
  pub entries : List (Entry N)
  pub removals : AreRemovals (is_busy (summary (past_of h))) (alive_handles (summary (past_of h)))
      entries
  pub stands : StandsQuiet m t new F (h ++ entries)
  pub none_alive : alive_handles (summary (past_of (h ++ entries))) ≡ []

-- so many of them were removed, and the others are left
pub record RemovesSome {H M Q W V N E : Type 0} (m : Meaning H M Q W V N E) (count : ℕ) (t : Terms)
    (F : ℕ) (h : List (Entry N)) (new : Core H M Q W V N E) : Type 0 where
  pub entries : List (Entry N)
  pub done : List LiveHandle
  pub left : List LiveHandle
  pub split : alive_handles (summary (past_of h)) ≡ done ++ left
  pub many : length done ≡ count
  pub removals : AreRemovals (is_busy (summary (past_of h))) done entries
  pub stands : StandsQuiet m t new F (h ++ entries)
  pub are_left : alive_handles (summary (past_of (h ++ entries))) ≡ left
  pub busy : (y : ℕ) → is_busy (summary (past_of (h ++ entries))) y
      ≡ is_busy (summary (past_of h)) y
