-- How a desk begins.
use Rattle.std.specs.Prelude.{ℕ, ◌≡◌, List, [], filter, length, Some}
use Rattle.ev_base.specs.Terms.{Terms}
use Rattle.notify_ring.specs.Passes.{new_drainer}
use Rattle.notify_ring.specs.Words.{drainer_ring, drainer_view}
use Rattle.notify_ring.specs.declared.parts.Drainer.{Drainer}
use Rattle.reactor_model.specs.reactor_journal.specs.declared.entry.Entry.{Entry}
use Rattle.reactor_model.specs.Entries.{is_notice}
use Rattle.reactor_desk.specs.declared.terms.DeskTerms.{DeskTerms}

-- The drainer of a ring has taken nothing, the history of the reactor has no notification, and
-- if the terms name the entry from which on it goes by turns, that is the next.
pub record CanShare {N : Type 0} (t : Terms) (h : List (Entry N)) (drainer : Drainer) : Type 0 where
  pub fresh : drainer_view drainer ≡ new_drainer
  pub no_notice : filter is_notice h ≡ []
  pub turns : (b : ℕ) → t.by_turn ≡ Some b → b ≡ length h

-- the terms of the desk: those of the run, the ring of its drainer, the entries found, and the size
-- of a volume
abbrev pub desk_terms : {N : Type 0} → Terms → List (Entry N) → ℕ → Drainer → DeskTerms
desk_terms t h volume drainer =
    record { found = length h; volume = volume; run = t; ring = drainer_ring drainer }
