-- What the acceptor of the logging server did in the turns that it had (C++NPv2 chapter 4,
-- `Logging_Acceptor`; POSA2, Acceptor-Connector).
use Rattle.std.specs.Prelude.{◌≡◌, ◌⊎◌, ℕ, suc, nat_lt, Bool, true, false, List, [], ◌∷◌, Option}
use Rattle.std.specs.Prelude.{Some, None}
use Rattle.ev_base.specs.ev_types.specs.declared.upcall.Answer.TheVariants.{Keep, Again}
use Rattle.ev_base.specs.ev_types.specs.declared.upcall.Upcall.{Upcall}
use Rattle.ev_base.specs.ev_types.specs.declared.upcall.Upcall.TheVariants.{Input, Output, Except}
use Rattle.ev_base.specs.ev_types.specs.declared.upcall.Upcall.TheVariants.{Timeout, Notice}
use Rattle.ev_base.specs.Story.{Offering, NoneThere, OneFailure, TakesOffer, NoOfferLeft}
use Rattle.ev_base.specs.End.{Try, Accepted, Paused, Faulted, TakesSerial}
use Rattle.reactor_model.specs.reactor_journal.specs.Event.{Item}
use Rattle.log_handler.specs.declared.note.ServerNote.{ServerNote}
use Rattle.log_handler.specs.declared.note.ServerNote.TheVariants as note

-- how many connections an acceptor takes at most
abbrev pub most_connections : ℕ
most_connections = 4294967294

-- how far an acceptor has come
pub record Progress : Type 0 where
  -- how many connections it took
  pub taken : ℕ
  -- how many accepts it made, and what the last came to
  pub accepts : ℕ
  pub last_accept : Option Try
  -- whether one of them failed
  pub failed : Bool
  -- how far the story of its listener was told, if that is told
  pub offering : Option Offering

-- at the start
abbrev pub at_start : Option Offering → Progress
at_start offering = record {
  taken = 0;
  accepts = 0;
  last_accept = None;
  failed = false;
  offering = offering;
}

-- one more accept, which came to this
abbrev pub after_accept : Try → Option Offering → Progress → Progress
after_accept came_to offering p = record p {
  accepts = suc p.accepts;
  last_accept = Some came_to;
  offering = offering;
}

-- What an accept gives: the end of a connection, with its serial number if it tells one, none, or a
-- failure.
pub data Gives : Type 0 where
  OneEnd : (serial : Option ℕ) → Gives
  NoEnd : Gives
  Failure : Gives

-- An accept gave an end: the connection is numbered by how many were taken before.
pub record TakesConnection (before : Progress) (serial : Option ℕ) (item : Item ServerNote)
    (after : Progress) : Type 0 where
  pub offer : TakesSerial before.offering serial after.offering
  pub notes : item.note ≡ note.Accepted before.taken
  pub answers : item.answer ≡ Again
  pub leaves : after ≡ record (after_accept Accepted after.offering before) {
    taken = suc before.taken;
  }

-- an accept found no connection waiting
pub record FindsNone (before : Progress) (item : Item ServerNote) (after : Progress) : Type 0 where
  pub offer : NoOfferLeft before.offering after.offering
      ⊎ TakesOffer before.offering NoneThere after.offering
  pub notes : item.note ≡ note.NoneWaiting
  pub answers : item.answer ≡ Keep
  pub leaves : after ≡ after_accept Paused after.offering before

-- an accept failed
pub record FailsOnce (before : Progress) (item : Item ServerNote) (after : Progress) : Type 0 where
  pub offer : TakesOffer before.offering OneFailure after.offering
  pub notes : item.note ≡ note.ListenerFailed
  pub answers : item.answer ≡ Keep
  pub leaves : after ≡ record (after_accept Faulted after.offering before) { failed = true }

-- what a turn with an accept is, by what that gave
abbrev pub ServesAccept : Gives → Progress → Item ServerNote → Progress → Type 0
ServesAccept (OneEnd serial) before item after = TakesConnection before serial item after
ServesAccept NoEnd before item after = FindsNone before item after
ServesAccept Failure before item after = FailsOnce before item after

-- the turn makes one accept, which takes the next of the listener's story if that is told
pub record AcceptsOnce (before : Progress) (item : Item ServerNote) (after : Progress) : Type 0
  where
    pub gave : Gives
    pub serves : ServesAccept gave before item after

-- the turn makes no accept
pub record MakesNoAccept (before : Progress) (item : Item ServerNote) (after : Progress) : Type 0
  where
    pub notes : item.note ≡ note.NoneWaiting
    pub answers : item.answer ≡ Keep
    pub leaves : after ≡ before

-- at input it accepts while it may take one more connection
abbrev pub ServesInput : Bool → Progress → Item ServerNote → Progress → Type 0
ServesInput true before item after = AcceptsOnce before item after
ServesInput false before item after = MakesNoAccept before item after

-- One turn of an acceptor, by its upcall. None ends it.
abbrev pub ServesUpcall : Upcall → Progress → Item ServerNote → Progress → Type 0
ServesUpcall Input before item after =
    ServesInput (nat_lt before.taken most_connections) before item after
ServesUpcall Output before item after = MakesNoAccept before item after
ServesUpcall Except before item after = MakesNoAccept before item after
ServesUpcall (Timeout timer) before item after = MakesNoAccept before item after
ServesUpcall (Notice kind) before item after = MakesNoAccept before item after

abbrev pub Turns : Progress → Item ServerNote → Progress → Type 0
Turns before item after = ServesUpcall item.upcall before item after

-- turns one after another, each from where the one before left it
abbrev pub Course : Progress → List (Item ServerNote) → Progress → Type 0
Course start [] p = p ≡ start
Course start (item ∷ items) p = (next : Progress) × Turns start item next × Course next items p
