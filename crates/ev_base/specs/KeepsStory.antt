-- What an end keeps of the story that the terms have of it.
use Rattle.std.specs.Prelude.{◌≡◌, ℕ, true, false, List, ◌++◌, Option, Some, None}
use Rattle.ev_base.specs.Bytes.{ReaderBytes}
use Rattle.ev_base.specs.Story.{Part, Offer, Story, OfBytes, OfParts, Telling, Offering}
use Rattle.ev_base.specs.Terms.{Terms, story_of}
use Rattle.ev_base.specs.End.{EndFacts}

-- it tells its parts, and those given, followed by those left, are the story
abbrev pub IsTelling : Option Telling → List Part → Type 0
IsTelling None parts = ⊥
IsTelling (Some t) parts = t.given ++ t.left ≡ parts

abbrev pub IsOffering : Option Offering → List Offer → Type 0
IsOffering None offers = ⊥
IsOffering (Some o) offers = o.given ++ o.left ≡ offers

-- it tells its bytes, and those given, followed by those left, are all
abbrev pub IsReading : Option ReaderBytes → List ℕ → Type 0
IsReading None all = ⊥
IsReading (Some b) all = b.given ++ b.left ≡ all

abbrev pub IsStory : EndFacts → Story → Type 0
IsStory e (OfBytes bytes) = IsReading e.bytes bytes
IsStory e (OfParts parts) = IsTelling e.telling parts

-- A connection's end of a serial number keeps that what it has given, followed by what it has left,
-- is the story that the terms have of that number, and a listener the same of the listener's story;
-- such a listener has no number itself.
pub record KeepsStory (t : Terms) (e : EndFacts) : Type 0 where
  pub connection : (serial : ℕ) (story : Story) → e.listener ≡ false → e.serial ≡ Some serial
      → story_of t serial ≡ Some story → IsStory e story
  pub listener : (offers : List Offer) → e.listener ≡ true → t.offers ≡ Some offers
      → IsOffering e.offering offers
  pub unnumbered : (offers : List Offer) → e.listener ≡ true → t.offers ≡ Some offers
      → e.serial ≡ None
