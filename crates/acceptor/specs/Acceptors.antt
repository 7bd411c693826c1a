-- What the acceptor of the logging server means by its turns: which turns it has had, and what it
-- leaves.
use Rattle.std.specs.Prelude.{◌≡◌, ◌≤◌, ℕ, Bool, true, false, List, [], Option, Some, None}
use Rattle.ev_base.specs.ev_types.specs.declared.upcall.Why.{Why}
use Rattle.ev_base.specs.Counts.{Counts}
use Rattle.ev_base.specs.Story.{Offer, Offering, NumbersFrom}
use Rattle.ev_base.specs.Terms.{Terms}
use Rattle.ev_base.specs.End.{EndFacts}
use Rattle.ev_base.specs.declared.end.PeerEnd.{Ghosts}
use Rattle.reactor_model.specs.reactor_journal.specs.Event.{Item, Origin}
use Rattle.log_handler.specs.declared.note.ServerNote.{ServerNote}
use Rattle.log_handler.specs.declared.note.ServerNote.TheVariants as note
use Rattle.acceptor.specs.declared.acceptor.Acceptor.{Acceptor}
use Rattle.acceptor.specs.Accepting.{Progress, at_start, Course}

-- at the start the whole of the listener's story was left, if the terms have it
abbrev pub BeginsOffers : Terms → Option Offering → Type 0
BeginsOffers t offering = (offers : List Offer) → t.offers ≡ Some offers
    → offering ≡ Some (record { given = []; left = offers })

-- no call of the listener failed, unless an accept did
abbrev pub HasFaults : Bool → ℕ → Type 0
HasFaults true faults = 1 ≤ faults
HasFaults false faults = faults ≡ 0

-- what the listener of an acceptor tells that has come so far
pub record HasListened (p : Progress) (e : EndFacts) : Type 0 where
  pub listener : e.listener ≡ true
  pub accepts : Counts e.reads p.accepts
  pub last_accept : e.last_read ≡ p.last_accept
  pub offering : e.offering ≡ p.offering
  pub faults : HasFaults p.failed e.faults

-- An acceptor had these turns, and its listener tells this. Its connections have this idle time.
-- If the listener's story is told, the acceptor was registered and no turn installed it, and its
-- listener has no serial number.
pub record Listened {E : Type 0} (tells : E → EndFacts) (keeps : Terms → E → Type 0) (t : Terms)
    (origin : Option (Origin ServerNote)) (idle : Option ℕ)
    (had : List (Item ServerNote)) (e : EndFacts) : Type 0 where
  pub offering : Option Offering
  pub now : Progress
  pub course : Course (at_start offering) had now
  pub comes_from : (offers : List Offer) → t.offers ≡ Some offers → origin ≡ None
  pub unnumbered : (offers : List Offer) → t.offers ≡ Some offers → e.serial ≡ None
  pub waits : (time : Option ℕ) → t.idle ≡ Some time → idle ≡ time
  pub story : BeginsOffers t offering
  pub numbered : NumbersFrom 0 offering
  pub end : HasListened now e

-- its listener
abbrev pub listener_of : {E : Type 0} {G : Ghosts E} → Acceptor E G → E
listener_of handler = handler.listener.end

-- how many connections it took, and their idle time
abbrev pub count_taken : {E : Type 0} {G : Ghosts E} → Acceptor E G → ℕ
count_taken handler = handler.taken

abbrev pub idle_of_acceptor : {E : Type 0} {G : Ghosts E} → Acceptor E G → Option ℕ
idle_of_acceptor handler = handler.idle.time

-- the acceptor has had these turns
pub record AcceptorFits {E : Type 0} {G : Ghosts E} (tells : E → EndFacts)
    (keeps : Terms → E → Type 0) (t : Terms) (origin : Option (Origin ServerNote))
    (handler : Acceptor E G) (had : List (Item ServerNote)) : Type 0 where
  pub listened : Listened tells keeps t origin (idle_of_acceptor handler) had
      (tells (listener_of handler))
  pub taken : count_taken handler ≡ listened.now.taken
  pub kept_end : keeps t (listener_of handler)

-- what an acceptor leaves that had these turns: its listener, and the note that this was closed
pub record AcceptorGone {E : Type 0} (tells : E → EndFacts) (keeps : Terms → E → Type 0) (t : Terms)
    (origin : Option (Origin ServerNote))
    (end : E) (had : List (Item ServerNote)) (reason : Why) (said : ServerNote) : Type 0 where
  pub idle : Option ℕ
  pub listened : Listened tells keeps t origin idle had (tells end)
  pub notes : said ≡ note.ListenerShut
  pub kept_end : keeps t end
