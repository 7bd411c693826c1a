-- What the registration of a handler appends (C++NPv2 chapter 3, `register_handler`).
use Rattle.std.specs.Prelude.{ℕ, ◌≡◌, ◌<◌, ◌+◌, ◌⊎◌, false, List, [], ◌∷◌, Option, Some, None}
use Rattle.reactor_summary.specs.ev_types.specs.declared.upcall.Handle.{Handle}
use Rattle.reactor_summary.specs.ev_types.specs.declared.upcall.Mask.{Mask}
use Rattle.ev_base.specs.Terms.{Terms}
use Rattle.reactor_model.specs.reactor_journal.specs.declared.entry.Entry.{Entry}
use Rattle.reactor_model.specs.reactor_journal.specs.declared.entry.Entry.TheVariants.{Opened}
use Rattle.reactor_model.specs.reactor_journal.specs.declared.entry.Entry.TheVariants.{Scheduled}
use Rattle.reactor_model.specs.reactor_journal.specs.Past.{offered_here}
use Rattle.reactor_model.specs.reactor_journal.specs.Follow.{most_handles}
use Rattle.reactor_summary.specs.Summary.{Summary}
use Rattle.reactor_summary.specs.Rules.{live}
use Rattle.reactor_model.specs.Handling.{Handling}

-- a new timer of the handle: its first delay and its period in milliseconds
abbrev pub scheduled : {N : Type 0} → Summary → Handle → Option (ℕ × ℕ) → List (Entry N)
scheduled s handle None = []
scheduled s handle (Some timer) = Scheduled s.scheduled handle (s.moment + timer.0) timer.1 ∷ []

-- a new handle, and its timer if one is given
abbrev pub registered : {N : Type 0} → Summary → Handle → Mask → Option (ℕ × ℕ) → List (Entry N)
registered s handle mask timer = Opened handle mask ∷ scheduled s handle timer

-- no handler can be taken: as many are live as may be, or as many were opened as may ever be
abbrev pub IsFull : ℕ → Summary → Type 0
IsFull most s = (live s ≡ most) ⊎ (s.opened ≡ most_handles)

-- one more can be taken
pub record HasPlaceFor (most : ℕ) (s : Summary) : Type 0 where
  pub running : s.ended ≡ false
  pub live : live s < most
  pub opened : s.opened < most_handles

-- a handler that is offered fits no turns, with the origin that its place gives
abbrev pub IsOffered : {H E N : Type 0} → Handling H E N → Terms → List (Entry N) → H → Type 0
IsOffered means t past handler = means.fits t (offered_here past) handler []
