-- What the handlers of a reactor have to do with its journal (C++NPv2 chapter 3,
-- `ACE_Event_Handler` and the handler repository of `ACE_Select_Reactor`). A past is a journal read
-- backwards.
use Rattle.std.specs.Prelude.{ℕ, ◌≡◌, ◌==◌, Bool, true, false, List, Option, Some, None}
use Rattle.std.specs.List.{list_any}
use Rattle.ev_base.specs.Terms.{Terms}
use Rattle.reactor_model.specs.reactor_journal.specs.declared.entry.Entry.{Entry}
use Rattle.reactor_model.specs.reactor_journal.specs.Past.{had, origin_of}
use Rattle.reactor_summary.specs.Summary.{Summary, summary, is_busy}
use Rattle.reactor_model.specs.Handling.{Handling}
use Rattle.handler_repo.specs.Seats as R
use Rattle.handler_repo.specs.declared.seat.Seat.{Seat}
use Rattle.handler_repo.specs.declared.seat.Seat.TheVariants.{Home, Out}

-- whether the handle is live: it was opened and is not closed
abbrev pub is_live : Summary → ℕ → Bool
is_live s x = list_any (λ h. h.handle.0 == x) s.handles

-- the seat of a handle whose handler is out for an upcall
pub record IsOut {N : Type 0} (past : List (Entry N)) (x : ℕ) : Type 0 where
  pub live : is_live (summary past) x ≡ true
  pub busy : is_busy (summary past) x ≡ true

-- the seat of a handle whose handler is at home: it fits what it had
pub record IsHome {H E N : Type 0} (means : Handling H E N) (t : Terms) (past : List (Entry N))
    (x : ℕ) (handler : H) : Type 0 where
  pub live : is_live (summary past) x ≡ true
  pub busy : is_busy (summary past) x ≡ false
  pub fits : means.fits t (origin_of past x) handler (had past x)

-- The repository has exactly the live handles: out those that are busy, and the others at home.
abbrev pub SeatStands : {H E N : Type 0} → Handling H E N → Terms → List (Entry N) → ℕ
    → Option (Seat H) → Type 0
SeatStands means t past x None = is_live (summary past) x ≡ false
SeatStands means t past x (Some Out) = IsOut past x
SeatStands means t past x (Some (Home handler)) = IsHome means t past x handler

-- while a call has the handler of one handle in hand, its seat is out, whatever its event is
abbrev pub is_in_hand : Option ℕ → ℕ → Bool
is_in_hand None x = false
is_in_hand (Some y) x = y == x

pub record IsInHand {H N : Type 0} (past : List (Entry N)) (x : ℕ) (seat : Option (Seat H)) : Type 0
  where
    pub live : is_live (summary past) x ≡ true
    pub out : seat ≡ Some Out

abbrev pub SeatBy : {H E N : Type 0} → Bool → Handling H E N → Terms → List (Entry N) → ℕ
    → Option (Seat H) → Type 0
SeatBy true means t past x seat = IsInHand past x seat
SeatBy false means t past x seat = SeatStands means t past x seat

abbrev pub RepositoryStands : {H E N : Type 0} → Handling H E N → Terms → List (Entry N) → Option ℕ
    → List (R.Entry H) → Type 0
RepositoryStands means t past hand entries =
    (x : ℕ) → SeatBy (is_in_hand hand x) means t past x (R.seat_of x entries)
