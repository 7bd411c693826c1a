-- The ends that a net watches: the places in which they were attached, one after the other.
use Rattle.std.specs.Prelude.{◌≡◌, ℕ, zero, suc, Bool, true, false, ◌&&◌, if◌then◌else◌, List, []}
use Rattle.std.specs.Prelude.{◌∷◌, length, slice_get, slice_set, Option, Some, None, unwrap_or}
use Rattle.std.specs.Prelude.{replicate}
use Rattle.ev_base.specs.ev_types.specs.declared.upcall.Kind.TheVariants.{Read}
use Rattle.ev_base.specs.Terms.{StepEnd, AtListener, AtConnection}
use Rattle.ev_base.specs.Playing.{Seat, is_end}
use Rattle.ev_base.specs.declared.net.Report.{Report}
use Rattle.script_net.specs.Scripts.{end_view}
use Rattle.script_net.specs.Playable.{IsWithin}
use Rattle.script_net.specs.declared.seats.Place.{Place}

-- ---- the ends that are attached

-- the end in a place, if it is still attached
abbrev pub seat_of : Place → Seat
seat_of p = record { handle = p.handle; mask = p.mask; end = end_view p.end }

abbrev pub and_seat : Option Place → List Seat → List Seat
and_seat None seats = seats
and_seat (Some p) seats = if p.attached then seat_of p ∷ seats else seats

-- those of the first n places that are still attached, the latest first
abbrev pub seats_to : List Place → ℕ → List Seat
seats_to places zero = []
seats_to places (suc n) = and_seat (slice_get places n) (seats_to places n)

abbrev pub seats_of : List Place → List Seat
seats_of places = seats_to places (length places)

-- ---- the places of one end

abbrev pub is_place_of : Option Place → StepEnd → Bool
is_place_of None end = false
is_place_of (Some p) end = is_end (end_view p.end) end

-- the last of the first n places in which an end was attached
abbrev pub last_to : List Place → StepEnd → ℕ → Option ℕ
last_to places end zero = None
last_to places end (suc n) = if is_place_of (slice_get places n) end then Some n else last_to places
    end n

-- the report of a place whose end is attached with Read in its mask
abbrev pub own_report : Place → Option Report
own_report p = if p.attached && p.mask.read then Some
    (record { handle = record { 0 = p.handle }; kind = Read }) else None

-- the same, if it is a place of this end
abbrev pub report_of : Option Place → StepEnd → Option Report
report_of None end = None
report_of (Some p) end = if is_end (end_view p.end) end then own_report p else None

abbrev pub or_else : {A : Type 0} → Option A → Option A → Option A
or_else (Some x) other = Some x
or_else None other = other

-- the report of an end by the first n places: that of the latest place that has one
abbrev pub found_to : List Place → StepEnd → ℕ → Option Report
found_to places end zero = None
found_to places end (suc n) = or_else (report_of (slice_get places n) end) (found_to places end n)

-- ---- what is known of each end of the script

-- the last place of the listener and of each connection, by number
pub record Latest : Type 0 where
  pub listener : Option ℕ
  pub connections : List (Option ℕ)

abbrev pub latest_of : Latest → StepEnd → Option ℕ
latest_of l AtListener = l.listener
latest_of l (AtConnection serial) = unwrap_or (slice_get l.connections serial) None

-- an end of the script has this last place; any other is not noted
abbrev pub with_latest : StepEnd → ℕ → Latest → Latest
with_latest AtListener place l = record l { listener = Some place }
with_latest (AtConnection serial) place l =
    record l { connections = slice_set l.connections serial (Some place) }

-- whether the listener, and each connection by number, is gone for good
pub record Marks : Type 0 where
  pub listener : Bool
  pub connections : List Bool

abbrev pub is_marked : Marks → StepEnd → Bool
is_marked m AtListener = m.listener
is_marked m (AtConnection serial) = unwrap_or (slice_get m.connections serial) false

-- an end is marked as gone; one that is none of the script's is not noted
abbrev pub with_mark : StepEnd → Marks → Marks
with_mark AtListener m = record m { listener = true }
with_mark (AtConnection serial) m = record m { connections = slice_set m.connections serial true }

-- ---- what contracts see of it

-- The ends that are attached, the latest first; those that are gone; how many were attached in all,
-- and for how many there is room.
pub record SeatsContent : Type 0 where
  pub seats : List Seat
  pub marks : Marks
  pub made : ℕ
  pub room : ℕ

abbrev pub handles_of : List Seat → List ℕ
handles_of [] = []
handles_of (seat ∷ seats) = seat.handle ∷ handles_of seats

-- no two places that are attached have the same handle
abbrev pub AreOnce : List Place → Type 0
AreOnce places =
    (i j : ℕ) (p q : Place) → slice_get places i ≡ Some p → slice_get places j ≡ Some q
    → p.attached ≡ true → q.attached ≡ true → p.handle ≡ q.handle → i ≡ j

-- each place of an end of the script knows the one before it
abbrev pub AreChained : ℕ → List Place → Type 0
AreChained many places = (k : ℕ) (p : Place) → slice_get places k ≡ Some p
    → IsWithin many (end_view p.end) → p.earlier ≡ last_to places (end_view p.end) k

pub record IsSeating (places : List Place) (latest : Latest) (marks : Marks) : Type 0 where
  pub once : AreOnce places
  pub chained : AreChained (length latest.connections) places
  pub latest_are : (e : StepEnd) → IsWithin (length latest.connections) e
      → latest_of latest e ≡ last_to places e (length places)
  pub same : length marks.connections ≡ length latest.connections

-- a place in which an end is attached under this handle
pub record IsPlaceOf (places : List Place) (handle at : ℕ) : Type 0 where
  pub place : Place
  pub there : slice_get places at ≡ Some place
  pub attached : place.attached ≡ true
  pub handle_is : place.handle ≡ handle

-- no end was attached, and none is gone, of a script with so many connections
abbrev pub new_seats : ℕ → SeatsContent
new_seats connections = record {
  seats = [];
  marks = record { listener = false; connections = replicate connections false };
  made = 0;
  room = 0;
}
