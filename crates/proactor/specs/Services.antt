-- The handlers of an echo service made of operations: the acceptor, and the connections that it
-- takes.
use Rattle.std.specs.Prelude.{◌≡◌, ◌⊎◌, Bool, true, false, List, map, Option, Some, None}
use Rattle.ev_base.specs.ev_types.specs.declared.upcall.Upcall.{Upcall}
use Rattle.ev_base.specs.ev_types.specs.declared.upcall.Upcall.TheVariants.{Input, Output, Notice}
use Rattle.ev_base.specs.ev_types.specs.declared.upcall.Why.{Why}
use Rattle.ev_base.specs.ev_types.specs.declared.upcall.Why.TheVariants.{Own}
use Rattle.ev_base.specs.Terms.{Terms}
use Rattle.ev_base.specs.End.{EndFacts}
use Rattle.ev_base.specs.declared.end.PeerEnd.{Ghosts}
use Rattle.reactor_model.specs.reactor_journal.specs.Event.{Item, Origin}
use Rattle.reactor_model.specs.Handling.{EndsInClose, Handling, Deed, Installing, Masking, Stopping}
use Rattle.reactor_model.specs.declared.handler.Act.{Act}
use Rattle.reactor_model.specs.declared.handler.Act.TheVariants.{
  Install,
  MaskMine,
  CancelMine,
  Stop,
}
use Rattle.reactor_model.specs.declared.handler.Turn.{Turn}
use Rattle.proactor.specs.declared.asynch_end.AsynchEnd.{AsynchEnd}
use Rattle.proactor.specs.declared.echo.EchoCompletions.{EchoCompletions}
use Rattle.proactor.specs.declared.note.AsynchNote.{AsynchNote}
use Rattle.proactor.specs.declared.service.AioHandler.{AioHandler}
use Rattle.proactor.specs.declared.service.AioHandler.TheVariants.{Listen, Talk}
use Rattle.proactor.specs.declared.service.AioNote.{AioNote}
use Rattle.proactor.specs.declared.service.AioNote.TheVariants as note
use Rattle.proactor.specs.Acceptors.{ListenerFits, ListenerGone, ServesListener}
use Rattle.proactor.specs.Acceptors.{follows_echo, listener_of}
use Rattle.proactor.specs.Echo.{WritesBack}
use Rattle.proactor.specs.Ends.{AsynchFits, AsynchGone, MakesTurn, mask_by}
use Rattle.proactor.specs.Parts.{end_of, number_of}

-- ---- a connection as one of the handlers

-- an act that a connection's turn may carry
abbrev pub AsksMaskAtMost : {H N E : Type 0} → Option (Act H N E) → Type 0
AsksMaskAtMost None = Unit {0}
AsksMaskAtMost (Some (MaskMine mask)) = Unit {0}
AsksMaskAtMost (Some (Install handler mask timer)) = ⊥
AsksMaskAtMost (Some (CancelMine timer)) = ⊥
AsksMaskAtMost (Some Stop) = ⊥

-- the same act of another handler
abbrev pub IsSameAct : {H N E I O : Type 0} → Option (Act H N E) → Option (Act I O E) → Type 0
IsSameAct None act = act ≡ None
IsSameAct (Some (MaskMine mask)) act = act ≡ Some (MaskMine mask)
IsSameAct (Some (Install handler mask timer)) act = ⊥
IsSameAct (Some (CancelMine timer)) act = ⊥
IsSameAct (Some Stop) act = ⊥

pub record WrapsTurn {E : Type 0} {G : Ghosts E}
    (turn : Turn (AsynchEnd E EchoCompletions G) AsynchNote E)
    (wrapped : Turn (AioHandler E G) AioNote E) : Type 0 where
  pub answers : wrapped.answer ≡ turn.answer
  pub notes : wrapped.note ≡ note.End turn.note
  pub acts : IsSameAct turn.act wrapped.act

abbrev pub wrapped_item : Item AsynchNote → Item AioNote
wrapped_item item = record {
  upcall = item.upcall;
  moment = item.moment;
  answer = item.answer;
  note = note.End item.note;
}

abbrev pub wrapped_items : List (Item AsynchNote) → List (Item AioNote)
wrapped_items items = map wrapped_item items

-- ---- turns

-- one turn of a connection
pub record ServesEnd {E : Type 0} {G : Ghosts E} (tells : E → EndFacts)
    (keeps : Terms → E → Type 0) (up : Upcall) (old new : AsynchEnd E EchoCompletions G)
    (turn : Turn (AioHandler E G) AioNote E) : Type 0 where
  pub made : Turn (AsynchEnd E EchoCompletions G) AsynchNote E
  pub makes : MakesTurn tells keeps follows_echo up old new made
  pub wraps : WrapsTurn made turn

abbrev pub ServesService : {E : Type 0} {G : Ghosts E} → (E → EndFacts) → (Terms → E → Type 0)
    → Upcall → AioHandler E G → AioHandler E G → Turn (AioHandler E G) AioNote E → Type 0
ServesService tells keeps up (Listen old) (Listen new) turn =
    ServesListener tells keeps up old new turn
ServesService tells keeps up (Talk old) (Talk new) turn = ServesEnd tells keeps up old new turn
ServesService tells keeps up (Listen old) (Talk new) turn = ⊥
ServesService tells keeps up (Talk old) (Listen new) turn = ⊥

abbrev pub end_of_service : {E : Type 0} {G : Ghosts E} → AioHandler E G → E
end_of_service (Listen acceptor) = listener_of acceptor
end_of_service (Talk end) = end_of end

-- A connection has had these turns. The turn that offered it accepted the connection of its number.
pub record TalkFits {E : Type 0} {G : Ghosts E} (tells : E → EndFacts)
    (keeps : Terms → E → Type 0) (t : Terms) (origin : Option (Origin AioNote))
    (end : AsynchEnd E EchoCompletions G) (had : List (Item AioNote)) : Type 0 where
  pub offer : Origin AioNote
  pub offered : origin ≡ Some offer
  pub accepted : offer.note ≡ note.Accepted (number_of end)
  pub items : List (Item AsynchNote)
  pub are : had ≡ wrapped_items items
  pub fits : AsynchFits tells keeps follows_echo t end items

-- What a connection leaves: what came of its operations, and that it wrote back what it read.
pub record TalkGone {E : Type 0} (tells : E → EndFacts) (keeps : Terms → E → Type 0) (t : Terms)
    (origin : Option (Origin AioNote)) (end : E) (had : List (Item AioNote)) (reason : Why)
    (said : AioNote) : Type 0 where
  pub told : AsynchNote
  pub notes : said ≡ note.End told
  pub offer : Origin AioNote
  pub offered : origin ≡ Some offer
  pub accepted : offer.note ≡ note.Accepted told.conn
  pub items : List (Item AsynchNote)
  pub are : had ≡ wrapped_items items
  pub gone : AsynchGone tells keeps follows_echo t end items reason told
  pub back : WritesBack gone.all

abbrev pub ServiceFits : {E : Type 0} {G : Ghosts E} → (E → EndFacts) → (Terms → E → Type 0) → Terms
    → Option (Origin AioNote) → AioHandler E G → List (Item AioNote) → Type 0
ServiceFits tells keeps t origin (Listen acceptor) had = ListenerFits tells keeps t acceptor had
ServiceFits tells keeps t origin (Talk end) had = TalkFits tells keeps t origin end had

abbrev pub ServiceGone : {E : Type 0} → (E → EndFacts) → (Terms → E → Type 0) → Terms
    → Option (Origin AioNote) → E → List (Item AioNote) → Why → AioNote → Type 0
ServiceGone tells keeps t origin end had reason said =
    ListenerGone tells keeps t end had said
    ⊎ TalkGone tells keeps t origin end had reason said

-- a connection was closed
pub record ClosesEnd {E : Type 0} {G : Ghosts E} (tells : E → EndFacts)
    (keeps : Terms → E → Type 0) (reason : Why) (end : AsynchEnd E EchoCompletions G)
    (left : E × AioNote) : Type 0 where
  pub told : AsynchNote
  pub notes : left.1 ≡ note.End told
  pub its_end : left.0 ≡ end_of end
  pub number : told.conn ≡ number_of end
  pub gone : (t : Terms) (items : List (Item AsynchNote)) → (reason ≡ Own → EndsInClose items)
      → AsynchFits tells keeps follows_echo t end items
      → AsynchGone tells keeps follows_echo t left.0 items reason told

-- which acts a turn may carry: at input a connection is installed to be read, and at input and
-- output a mask is asked for; a notice stops the reactor
abbrev pub ServiceMay : Upcall → Deed → Type 0
ServiceMay Input (Installing mask timer) = (mask ≡ mask_by false) × (timer ≡ None)
ServiceMay Input Masking = Unit {0}
ServiceMay Output Masking = Unit {0}
ServiceMay (Notice kind) Stopping = Unit {0}
ServiceMay up deed = ⊥

abbrev pub is_accepted : AioNote → Bool
is_accepted (note.Accepted conn) = true
is_accepted _ = false

abbrev pub services : {E : Type 0} {G : Ghosts E} → (E → EndFacts) → (Terms → E → Type 0)
    → Handling (AioHandler E G) E AioNote
services tells keeps = record {
  fits = ServiceFits tells keeps;
  gone = ServiceGone tells keeps;
  may = λ t up deed. ServiceMay up deed;
  installs = is_accepted;
  serial = λ t origin. None;
}
