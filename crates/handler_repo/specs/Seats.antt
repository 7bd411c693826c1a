-- What a contract sees of a handler repository: the map of handles to event handlers (C++NPv2
-- section 3.3, `ACE_Select_Reactor_Handler_Repository`; POSA2, Reactor, "demultiplexing table").
use Rattle.std.specs.Prelude.{ℕ, not, ◌==◌, nat_lt, List, [], ◌∷◌, if◌then◌else◌, filter, Option}
use Rattle.std.specs.Prelude.{Some, None}
use Rattle.handler_repo.specs.declared.seat.Seat.{Seat}
use Rattle.handler_repo.specs.declared.seat.Seat.TheVariants.{Home, Out}

-- one entry of the map: a handle, and its event handler at home or out
pub record Entry (H : Type 0) : Type 0 where
  pub handle : ℕ
  pub seat : Seat H

-- the entries in rising order of handle, and how many more fit without taking memory
pub record Content (H : Type 0) : Type 0 where
  pub entries : List (Entry H)
  pub spare : ℕ

module _ {H : Type 0} where
  -- what the map has at a handle
  abbrev pub seat_of : ℕ → List (Entry H) → Option (Seat H)
  seat_of handle [] = None
  seat_of handle (e ∷ rest) = if e.handle == handle then Some e.seat else seat_of handle rest

  -- the event handler, if it is there and at home
  abbrev pub home_of : Option (Seat H) → Option H
  home_of None = None
  home_of (Some (Home h)) = Some h
  home_of (Some Out) = None

  -- the map with one entry more, in its place by handle
  abbrev pub with_entry : Entry H → List (Entry H) → List (Entry H)
  with_entry e [] = e ∷ []
  with_entry e (f ∷ rest) = if nat_lt e.handle f.handle then e ∷ f ∷ rest else f ∷ with_entry e rest

  -- the map with another seat at a handle that it has
  abbrev pub with_seat : ℕ → Seat H → List (Entry H) → List (Entry H)
  with_seat handle seat [] = []
  with_seat handle seat (e ∷ rest) =
      if e.handle == handle then record e { seat = seat } ∷ rest else e ∷ with_seat handle seat rest

  -- the map without a handle
  abbrev pub without_handle : ℕ → List (Entry H) → List (Entry H)
  without_handle handle entries = filter (λ e. not (e.handle == handle)) entries
