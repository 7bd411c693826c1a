-- Stories: what an end has to tell from its first call on, if a script or a test lays it down.
use Rattle.std.specs.Prelude.{◌≡◌, ℕ, suc, ◌+◌, ◌-◌, nat_lt, min, if◌then◌else◌, List, [], ◌∷◌}
use Rattle.std.specs.Prelude.{◌++◌, length, take, drop, Option, Some, None}
use Rattle.ev_base.specs.declared.source.Got.{Got}
use Rattle.ev_base.specs.declared.source.Got.TheVariants.{Bytes, Pause, Over, Failed}

-- One part of a connection's story: a piece of bytes, a moment at which nothing is there, the end
-- of the input, which is told from then on, or a failure, which is told from then on too.
pub data Part : Type 0 where
  Piece : (bytes : List ℕ) → Part
  Pausing : Part
  Ending : Part
  Failing : Part

-- One item of a listener's story: the connection of a serial number, a moment at which none waits,
-- or one failure.
pub data Offer : Type 0 where
  Connection : (serial : ℕ) → Offer
  NoneThere : Offer
  OneFailure : Offer

-- A connection's story: its bytes, if nobody said how they are cut, or its parts.
pub data Story : Type 0 where
  OfBytes : (bytes : List ℕ) → Story
  OfParts : (parts : List Part) → Story

-- How far a connection's story was told: the parts that were told whole, those that are left, and
-- how many bytes of the first of those were given.
pub record Telling : Type 0 where
  pub given : List Part
  pub at : ℕ
  pub left : List Part

-- how far a listener's story was told
pub record Offering : Type 0 where
  pub given : List Offer
  pub left : List Offer

-- the connections of a listener's story have the serial numbers from this one on, in order
abbrev pub AreNumbered : ℕ → List Offer → Type 0
AreNumbered next [] = Unit {0}
AreNumbered next (Connection serial ∷ offers) = (serial ≡ next) × AreNumbered (suc next) offers
AreNumbered next (NoneThere ∷ offers) = AreNumbered next offers
AreNumbered next (OneFailure ∷ offers) = AreNumbered next offers

-- if a listener tells its story, the connections left there have the serial numbers from this
-- one on
abbrev pub NumbersFrom : ℕ → Option Offering → Type 0
NumbersFrom next None = Unit {0}
NumbersFrom next (Some offering) = AreNumbered next offering.left

-- what a read with room for so many bytes answers
abbrev pub read_answer : ℕ → ℕ → List Part → Got
read_answer room at [] = Pause
read_answer room at (Piece bytes ∷ left) = Bytes (min room (length bytes - at))
read_answer room at (Pausing ∷ left) = Pause
read_answer room at (Ending ∷ left) = Over
read_answer room at (Failing ∷ left) = Failed

-- the bytes that it gives
abbrev pub read_bytes : ℕ → ℕ → List Part → List ℕ
read_bytes room at (Piece bytes ∷ left) = take (min room (length bytes - at)) (drop at bytes)
read_bytes room at _ = []

-- how far the story is told after it: a piece is given from its front, and what there is no room
-- for stays
abbrev pub told_after : ℕ → List Part → ℕ → List Part → Telling
told_after room given at [] = record { given = given; at = 0; left = [] }
told_after room given at (Piece bytes ∷ left) =
    if nat_lt (at + room) (length bytes)
    then record { given = given; at = at + room; left = Piece bytes ∷ left }
    else record { given = given ++ Piece bytes ∷ []; at = 0; left = left }
told_after room given at (Pausing ∷ left) =
    record { given = given ++ Pausing ∷ []; at = 0; left = left }
told_after room given at (Ending ∷ left) = record { given = given; at = 0; left = Ending ∷ left }
told_after room given at (Failing ∷ left) = record { given = given; at = 0; left = Failing ∷ left }

-- if the story is told, a read with this room gave the next of it
abbrev pub TellsNext : Option Telling → ℕ → Got → List ℕ → Option Telling → Type 0
TellsNext None room got bytes None = Unit {0}
TellsNext None room got bytes (Some new) = ⊥
TellsNext (Some old) room got bytes None = ⊥
TellsNext (Some old) room got bytes (Some new) =
    (got ≡ read_answer room old.at old.left) × (bytes ≡ read_bytes room old.at old.left)
    × (new ≡ told_after room old.given old.at old.left)

-- if the listener's story is told, an accept took this offer, or found none
abbrev pub TakesOffer : Option Offering → Offer → Option Offering → Type 0
TakesOffer None offer None = Unit {0}
TakesOffer None offer (Some new) = ⊥
TakesOffer (Some old) offer None = ⊥
TakesOffer (Some old) offer (Some new) =
    (old.left ≡ offer ∷ new.left) × (new.given ≡ old.given ++ offer ∷ [])

abbrev pub NoOfferLeft : Option Offering → Option Offering → Type 0
NoOfferLeft None None = Unit {0}
NoOfferLeft None (Some new) = ⊥
NoOfferLeft (Some old) None = ⊥
NoOfferLeft (Some old) (Some new) = (old.left ≡ []) × (new ≡ old)
