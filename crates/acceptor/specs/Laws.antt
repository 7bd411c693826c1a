-- What the turns of an acceptor come to, all in all.
use Rattle.std.specs.Prelude.{◌≡◌, ◌≤◌, ◌<◌, ℕ, zero, suc, List, [], ◌∷◌, ◌++◌, length, flat_map}
use Rattle.std.specs.Prelude.{Option, Some, None}
use Rattle.std.specs.List.{count_by}
use Rattle.ev_base.specs.Story.{Offer, Connection, NoneThere, OneFailure, Offering}
use Rattle.reactor_model.specs.reactor_journal.specs.Event.{Item}
use Rattle.log_handler.specs.declared.note.ServerNote.{ServerNote}
use Rattle.log_handler.specs.declared.note.ServerNote.TheVariants as note
use Rattle.log_handler.specs.Laws.{on_input, asks_again}
use Rattle.acceptor.specs.Accepting.{Progress, Course, at_start, most_connections}
use Rattle.ev_base.specs.Story.{AreNumbered}

-- the number of the connection that a turn noted as accepted, if it did
abbrev pub number_accepted : ServerNote → List ℕ
number_accepted (note.Accepted conn) = conn ∷ []
number_accepted _ = []

abbrev pub number_in : Item ServerNote → List ℕ
number_in item = number_accepted item.note

-- so many numbers from the first on
abbrev pub numbers_from : ℕ → ℕ → List ℕ
numbers_from first zero = []
numbers_from first (suc many) = first ∷ numbers_from (suc first) many

-- the serial numbers of the connections among these offers, in order
abbrev pub serials_of : List Offer → List ℕ
serials_of [] = []
serials_of (Connection serial ∷ offers) = serial ∷ serials_of offers
serials_of (NoneThere ∷ offers) = serials_of offers
serials_of (OneFailure ∷ offers) = serials_of offers

-- A front of the offers that were left was taken, with so many connections. If the story numbers
-- its connections from this one on, these have the numbers from it on.
pub record TakesFront (start now : Offering) (first many : ℕ) : Type 0 where
  pub front : List Offer
  pub left : start.left ≡ front ++ now.left
  pub given : now.given ≡ start.given ++ front
  pub ends : length (serials_of front) ≡ many
  pub numbered : AreNumbered first start.left → serials_of front ≡ numbers_from first many

abbrev pub TakesOffers : Option Offering → Option Offering → ℕ → ℕ → Type 0
TakesOffers None None first many = Unit {0}
TakesOffers None (Some now) first many = ⊥
TakesOffers (Some start) None first many = ⊥
TakesOffers (Some start) (Some now) first many = TakesFront start now first many

-- what the turns of an acceptor come to that has had them from its start on
pub record Accounts (offering : Option Offering) (had : List (Item ServerNote))
    (p : Progress) : Type 0 where
  -- the connections are noted with the numbers 0, 1, 2 and so on, and no more than it may take
  pub notes : flat_map number_in had ≡ numbers_from 0 p.taken
  pub most : p.taken ≤ most_connections
  -- each answer Again took one
  pub again : count_by asks_again had ≡ p.taken
  -- each turn of input made one accept while it might take one more, and no other turn did
  pub accepts : p.taken < most_connections → p.accepts ≡ count_by on_input had
  pub no_others : p.accepts ≤ count_by on_input had
  -- the ends that it took are a front of the listener's story, if that is told, and connection c
  -- is that of number c
  pub offers : TakesOffers offering p.offering 0 p.taken

abbrev pub CoursesAccount : Type 0
CoursesAccount = (offering : Option Offering) (had : List (Item ServerNote)) (p : Progress)
    → Course (at_start offering) had p → Accounts offering had p
