-- The acceptor of an echo service made of operations (C++NPv2 chapter 4; POSA2,
-- Acceptor-Connector).
use Rattle.std.specs.Prelude.{◌≡◌, ◌+◌, ℕ, zero, suc, nat_lt, Bool, true, false, List, [], ◌∷◌}
use Rattle.std.specs.Prelude.{◌++◌, Option, Some, None}
use Rattle.std.specs.List.{flat_map}
use Rattle.ev_base.specs.ev_types.specs.declared.upcall.Answer.{Answer}
use Rattle.ev_base.specs.ev_types.specs.declared.upcall.Answer.TheVariants.{Keep, Again}
use Rattle.ev_base.specs.ev_types.specs.declared.upcall.Upcall.{Upcall}
use Rattle.ev_base.specs.ev_types.specs.declared.upcall.Upcall.TheVariants.{Input, Output, Except}
use Rattle.ev_base.specs.ev_types.specs.declared.upcall.Upcall.TheVariants.{Timeout, Notice}
use Rattle.ev_base.specs.Terms.{Terms}
use Rattle.ev_base.specs.End.{EndFacts, Accepts, KeptByGiven}
use Rattle.ev_base.specs.declared.end.PeerEnd.{Ghosts}
use Rattle.ev_base.specs.declared.end.Taken.{Taken}
use Rattle.ev_base.specs.declared.end.Taken.TheVariants as taken
use Rattle.reactor_model.specs.reactor_journal.specs.Event.{Item}
use Rattle.reactor_model.specs.declared.handler.Act.{Act}
use Rattle.reactor_model.specs.declared.handler.Act.TheVariants.{Install, Stop}
use Rattle.reactor_model.specs.declared.handler.Turn.{Turn}
use Rattle.proactor.specs.declared.acceptor.AsynchAcceptor.{AsynchAcceptor}
use Rattle.proactor.specs.declared.asynch_end.AsynchEnd.{AsynchEnd}
use Rattle.proactor.specs.declared.echo.EchoCompletions.{EchoCompletions}
use Rattle.proactor.specs.declared.service.AioHandler.{AioHandler}
use Rattle.proactor.specs.declared.service.AioHandler.TheVariants.{Talk}
use Rattle.proactor.specs.declared.service.AioNote.{AioNote}
use Rattle.proactor.specs.declared.service.AioNote.TheVariants as note
use Rattle.proactor.specs.Operations.{Told}
use Rattle.proactor.specs.Echo.{FollowsEcho}
use Rattle.proactor.specs.Ends.{AsynchFits, mask_by}
use Rattle.proactor.specs.Parts.{end_of, number_of}
use Rattle.proactor.specs.declared.operation.Op.{Op}

abbrev pub follows_echo : EchoCompletions → Op → List Told → Type 0
follows_echo handler first list = FollowsEcho first list

-- how many connections an acceptor takes at most
abbrev pub most_connections : ℕ
most_connections = 4294967294

abbrev pub listener_of : {E : Type 0} {G : Ghosts E} → AsynchAcceptor E G → E
listener_of acceptor = acceptor.listener.end

abbrev pub count_taken : {E : Type 0} {G : Ghosts E} → AsynchAcceptor E G → ℕ
count_taken acceptor = acceptor.taken

-- a turn of these parts
pub record IsTurn {E : Type 0} {G : Ghosts E} (answer : Answer) (said : AioNote)
    (act : Option (Act (AioHandler E G) AioNote E))
    (turn : Turn (AioHandler E G) AioNote E) : Type 0
  where
    pub answers : turn.answer ≡ answer
    pub notes : turn.note ≡ said
    pub acts : turn.act ≡ act

-- a turn that offers the handler of the connection of this number over this end, to be read
pub record OffersEnd {E : Type 0} {G : Ghosts E} (tells : E → EndFacts)
    (keeps : Terms → E → Type 0) (conn : ℕ) (end : E) (turn : Turn (AioHandler E G) AioNote E)
    : Type 0 where
  pub handler : AsynchEnd E EchoCompletions G
  pub its_end : end_of handler ≡ end
  pub number : number_of handler ≡ conn
  pub fits : (t : Terms) → keeps t end → AsynchFits tells keeps follows_echo t handler []
  pub turns : IsTurn Again (note.Accepted conn)
      (Some (Install (Talk handler) (mask_by false) None)) turn

-- what comes of an accept, by an acceptor that took so many connections before
abbrev pub TakesAccept : {E : Type 0} {G : Ghosts E} → (E → EndFacts) → (Terms → E → Type 0)
    → AsynchAcceptor E G → AsynchAcceptor E G → Taken E → Turn (AioHandler E G) AioNote E → Type 0
TakesAccept tells keeps old new (taken.One end) turn =
    OffersEnd tells keeps (count_taken old) end turn × (count_taken new ≡ count_taken old + 1)
TakesAccept tells keeps old new taken.Pause turn =
    IsTurn Keep note.Listening None turn × (count_taken new ≡ count_taken old)
TakesAccept tells keeps old new taken.Failed turn =
    IsTurn Keep note.Listening None turn × (count_taken new ≡ count_taken old)

-- it makes one accept
pub record AcceptsOnce {E : Type 0} {G : Ghosts E} (tells : E → EndFacts)
    (keeps : Terms → E → Type 0) (old new : AsynchAcceptor E G)
    (turn : Turn (AioHandler E G) AioNote E) : Type 0 where
  pub came : Taken E
  pub accepts : Accepts tells (tells (listener_of old)) came (tells (listener_of new))
  pub given : (t : Terms) → keeps t (listener_of old) → KeptByGiven (keeps t) came
  pub takes : TakesAccept tells keeps old new came turn

-- at input it accepts while it may take one more connection
abbrev pub AcceptsWhile : {E : Type 0} {G : Ghosts E} → (E → EndFacts) → (Terms → E → Type 0)
    → Bool → AsynchAcceptor E G → AsynchAcceptor E G → Turn (AioHandler E G) AioNote E → Type 0
AcceptsWhile tells keeps true old new turn = AcceptsOnce tells keeps old new turn
AcceptsWhile tells keeps false old new turn = IsTurn Keep note.Listening None turn × (new ≡ old)

-- one turn of an acceptor: it accepts at input, and a notice stops the reactor
abbrev pub ServesListener : {E : Type 0} {G : Ghosts E} → (E → EndFacts) → (Terms → E → Type 0)
    → Upcall → AsynchAcceptor E G → AsynchAcceptor E G → Turn (AioHandler E G) AioNote E → Type 0
ServesListener tells keeps Input old new turn =
    AcceptsWhile tells keeps (nat_lt (count_taken old) most_connections) old new turn
ServesListener tells keeps (Notice kind) old new turn =
    IsTurn Keep note.Listening (Some Stop) turn × (new ≡ old)
ServesListener tells keeps Output old new turn =
    IsTurn Keep note.Listening None turn × (new ≡ old)
ServesListener tells keeps Except old new turn =
    IsTurn Keep note.Listening None turn × (new ≡ old)
ServesListener tells keeps (Timeout timer) old new turn =
    IsTurn Keep note.Listening None turn × (new ≡ old)

-- its listener keeps what it kept
abbrev pub KeepsListener : {E : Type 0} {G : Ghosts E} → (Terms → E → Type 0)
    → AsynchAcceptor E G → AsynchAcceptor E G → Type 0
KeepsListener keeps old new = (t : Terms) → keeps t (listener_of old) → keeps t (listener_of new)

-- ---- all turns

-- the number of the connection that a turn took
abbrev pub accepted_by : AioNote → List ℕ
accepted_by (note.Accepted conn) = conn ∷ []
accepted_by _ = []

abbrev pub accepted_in : List (Item AioNote) → List ℕ
accepted_in had = flat_map (λ item. accepted_by item.note) had

-- the numbers below this one, in order
abbrev pub below : ℕ → List ℕ
below zero = []
below (suc n) = below n ++ n ∷ []

-- an acceptor that had these turns numbered its connections from 0, in their order
pub record ListenerFits {E : Type 0} {G : Ghosts E} (tells : E → EndFacts)
    (keeps : Terms → E → Type 0) (t : Terms) (acceptor : AsynchAcceptor E G)
    (had : List (Item AioNote)) : Type 0 where
  pub listener : (tells (listener_of acceptor)).listener ≡ true
  pub numbers : accepted_in had ≡ below (count_taken acceptor)
  pub kept_end : keeps t (listener_of acceptor)

-- what it leaves
pub record ListenerGone {E : Type 0} (tells : E → EndFacts) (keeps : Terms → E → Type 0)
    (t : Terms) (end : E) (had : List (Item AioNote)) (said : AioNote) : Type 0 where
  pub listener : (tells end).listener ≡ true
  pub taken : ℕ
  pub numbers : accepted_in had ≡ below taken
  pub notes : said ≡ note.Listening
  pub kept_end : keeps t end
