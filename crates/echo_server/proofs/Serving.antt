-- That the turns of the handlers are what their relations say.
use Rattle.std.proofs.Common.{ℕ, ◌≡◌, ◌∙◌, Bool, true, false, List, [], ◌∷◌, ◌++◌, refl, sym, ap}
use Rattle.std.proofs.Common.{subst, Option, Some, None}
use Rattle.reactor.specs.ev_types.specs.declared.upcall.Answer.{Answer}
use Rattle.reactor.specs.ev_types.specs.declared.upcall.Answer.TheVariants.{Keep, Again, Close}
use Rattle.reactor.specs.ev_types.specs.declared.upcall.Mask.{Mask}
use Rattle.reactor.specs.ev_types.specs.declared.upcall.Upcall.{Upcall}
use Rattle.reactor.specs.ev_types.specs.declared.upcall.Upcall.TheVariants.{Input, Output, Except}
use Rattle.reactor.specs.ev_types.specs.declared.upcall.Upcall.TheVariants.{Timeout, Notice}
use Rattle.reactor.specs.ev_base.specs.Terms.{Terms}
use Rattle.reactor.specs.ev_base.specs.End.{EndFacts, Accepts, IsFresh, KeptByGiven}
use Rattle.reactor.specs.ev_base.specs.declared.end.PeerEnd.{Ghosts}
use Rattle.reactor.specs.ev_base.specs.declared.end.Taken.{Taken}
use Rattle.reactor.specs.ev_base.specs.declared.end.Taken.TheVariants as taken
use Rattle.reactor.specs.reactor_journal.specs.Event.{Item, Origin}
use Rattle.reactor.specs.reactor_model.specs.Handling.{NoClose}
use Rattle.reactor.specs.reactor_model.specs.Turns.{TakesTurn, MayAct}
use Rattle.reactor.specs.reactor_model.specs.declared.handler.Turn.{Turn}
use Rattle.reactor.specs.reactor_model.specs.declared.handler.Act.{Act}
use Rattle.echo_server.specs.declared.note.EchoNote.{EchoNote}
use Rattle.echo_server.specs.declared.connection.EchoConnection.{EchoConnection}
use Rattle.echo_server.specs.declared.acceptor.EchoAcceptor.{EchoAcceptor}
use Rattle.echo_server.specs.declared.handler.EchoHandler.{EchoHandler}
use Rattle.echo_server.specs.declared.handler.EchoHandler.TheVariants.{Listen, Talk}
use Rattle.echo_server.specs.Echo.{State, Serves, ServesTimeout, Echoes, at_start, some_wait}
use Rattle.echo_server.specs.Connections.{ConnectionFits, end_of_connection, state_of, waiting_in}
use Rattle.echo_server.specs.Handlers.{KeepsListener, ListenerFits, ServesConnection}
use Rattle.echo_server.specs.Handlers.{ServesListener, TakesAccept, handlers, idle_of, idle_timer}
use Rattle.echo_server.specs.Handlers.{listener_of}
use Rattle.echo_server.specs.Handlers.{mask_after, masking}
use Rattle.echo_server.proofs.Echoing.{echoes_more, echoes_none}

none_asked : (answer : Answer) (b : Bool) → mask_after answer b b ≡ None
none_asked Keep true = refl
none_asked Keep false = refl
none_asked Again true = refl
none_asked Again false = refl
none_asked Close b = refl

-- only at input and output does it change which bytes wait
same_bytes : (up : Upcall) (before : State) (answer : Answer) (read written : ℕ) (after : State)
    → (up ≡ Input → ⊥) → (up ≡ Output → ⊥) → Serves up before answer read written after
    → after.waiting ≡ before.waiting
same_bytes Input before answer read written after no_input no_output s = absurd (no_input refl)
same_bytes Output before answer read written after no_input no_output s = absurd (no_output refl)
same_bytes (Timeout timer) before answer read written after no_input no_output s = by before.moved s
  where
    by : (b : Bool) → ServesTimeout b before answer read written after
        → after.waiting ≡ before.waiting
    by true s = ap (λ (x : State). x.waiting) s.leaves
    by false s = ap (λ (x : State). x.waiting) s.leaves
same_bytes Except before answer read written after no_input no_output s =
    ap (λ (x : State). x.waiting) s.leaves
same_bytes (Notice kind) before answer read written after no_input no_output s =
    ap (λ (x : State). x.waiting) s.leaves

same_time : {a b : ℕ} → Some a ≡ Some b → b ≡ a
same_time is = cc

some_none : (m : Mask) → Some m ≡ None → ⊥
some_none m is = cc

module _ {E : Type 0} {G : Ghosts E} (tells : E → EndFacts) (keeps : Terms → E → Type 0) where
  -- ---- a new connection

  pub fits_new : (t : Terms) (handler : EchoConnection E G) (end : E) → IsFresh (tells end)
      → end_of_connection handler ≡ end → state_of tells handler ≡ at_start (tells end)
      → keeps t end → ConnectionFits tells keeps t handler []
  fits_new t handler end fresh its_end state keeping = record {
    echoes = subst (λ (s : State). Echoes [] s) (sym state) (echoes_none (tells end) fresh);
    kept_end = subst (keeps t) (sym its_end) keeping;
  }

  -- ---- turns of a connection

  -- the act of a turn may be done, whatever mask it asks for
  may_mask : (t : Terms) (up : Upcall) (origin : Origin EchoNote)
      (act : Option (Act (EchoHandler E G) EchoNote E)) (mask : Option Mask) → act ≡ masking mask
      → ((up ≡ Input → ⊥) → (up ≡ Output → ⊥) → mask ≡ None) →
      MayAct (handlers {E = E} {G = G} tells keeps) t up origin act
  may_mask t up origin act None is other =
      subst (MayAct (handlers {E = E} {G = G} tells keeps) t up origin) (sym is) tt
  may_mask t Input origin act (Some m) is other =
      subst (MayAct (handlers {E = E} {G = G} tells keeps) t Input origin) (sym is) tt
  may_mask t Output origin act (Some m) is other =
      subst (MayAct (handlers {E = E} {G = G} tells keeps) t Output origin) (sym is) tt
  may_mask t Except origin act (Some m) is other = absurd (some_none m (other (λ q. cc) (λ q. cc)))
  may_mask t (Timeout timer) origin act (Some m) is other =
      absurd (some_none m (other (λ q. cc) (λ q. cc)))
  may_mask t (Notice kind) origin act (Some m) is other =
      absurd (some_none m (other (λ q. cc) (λ q. cc)))

  pub connection_turn : (t : Terms) (origin : Option (Origin EchoNote)) (up : Upcall) (now : ℕ)
      (had : List (Item EchoNote)) (old new : EchoConnection E G)
      (turn : Turn (EchoHandler E G) EchoNote E) → NoClose had →
      ServesConnection tells keeps up old new turn → ConnectionFits tells keeps t old had
      → TakesTurn (handlers {E = E} {G = G} tells keeps) t origin up now had (Talk new) turn
  connection_turn t origin up now had old new turn open_ s h = record {
    fits = record {
      echoes = subst (λ (n : EchoNote). Echoes
          (had ++ record { upcall = up; moment = now; answer = turn.answer; note = n } ∷ [])
          (state_of tells new)) (sym s.notes)
          (echoes_more had (state_of tells old) (state_of tells new) up now turn.answer s.read
          s.written open_ h.echoes s.serves);
      kept_end = s.end t h.kept_end;
    };
    act = may_mask t up (record { note = turn.note; moment = now }) turn.act
        (mask_after turn.answer (some_wait (waiting_in old)) (some_wait (waiting_in new))) s.masks
        (λ no_input no_output. ap (λ (bytes : List ℕ).
        mask_after turn.answer (some_wait (waiting_in old)) (some_wait bytes))
        (same_bytes up (state_of tells old) turn.answer s.read s.written (state_of tells new)
        no_input no_output s.serves)
        ∙ none_asked turn.answer (some_wait (waiting_in old)));
  }

  -- ---- turns of an acceptor

  quiet_act : (t : Terms) (up : Upcall) (origin : Origin EchoNote)
      (turn : Turn (EchoHandler E G) EchoNote E) → turn.act ≡ None
      → MayAct (handlers {E = E} {G = G} tells keeps) t up origin turn.act
  quiet_act t up origin turn none = subst
      (MayAct (handlers {E = E} {G = G} tells keeps) t up origin) (sym none) tt

  pub listener_act : (t : Terms) (up : Upcall) (origin : Origin EchoNote)
      (old new : EchoAcceptor E G) (turn : Turn (EchoHandler E G) EchoNote E)
      → ServesListener tells keeps up old new turn → ListenerFits tells keeps t old →
      MayAct (handlers {E = E} {G = G} tells keeps) t up origin turn.act
  listener_act t Input origin old new turn s h =
      by s.came s.accepts (s.given t h.kept_end) s.takes
    where
      by : (came : Taken E) → Accepts tells (tells (listener_of old)) came (tells (listener_of new))
          → KeptByGiven (keeps t) came → TakesAccept tells (idle_of old) came turn
          → MayAct (handlers {E = E} {G = G} tells keeps) t Input origin turn.act
      by (taken.One end) a k o = subst (MayAct (handlers {E = E} {G = G} tells keeps) t Input
          origin) (sym o.turns.acts) (
            record {
              reads = refl;
              timed = refl;
              waits = λ time named.
                  ap (λ (n : ℕ). Some (idle_timer n)) (same_time (h.waits (Some time) named));
            },
            fits_new t o.handler end a.fresh o.its_end o.state k,
          )
      by taken.Pause a k i = quiet_act t Input origin turn i.acts
      by taken.Failed a k i = quiet_act t Input origin turn i.acts
  listener_act t (Notice kind) origin old new turn s h =
      subst (MayAct (handlers {E = E} {G = G} tells keeps) t (Notice kind) origin) (sym s.0.acts) tt
  listener_act t Output origin old new turn s h = quiet_act t Output origin turn s.0.acts
  listener_act t Except origin old new turn s h = quiet_act t Except origin turn s.0.acts
  listener_act t (Timeout timer) origin old new turn s h =
      quiet_act t (Timeout timer) origin turn s.0.acts

  pub listener_turn : (t : Terms) (origin : Option (Origin EchoNote)) (up : Upcall) (now : ℕ)
      (had : List (Item EchoNote)) (old new : EchoAcceptor E G)
      (turn : Turn (EchoHandler E G) EchoNote E) → (tells (listener_of new)).listener ≡ true →
      ServesListener tells keeps up old new turn → KeepsListener keeps old new
      → ListenerFits tells keeps t old → TakesTurn (handlers {E = E} {G = G} tells keeps) t
      origin up now had (Listen new) turn
  listener_turn t origin up now had old new turn listens s k h = record {
    fits = record {
      listener = listens;
      waits = λ time named. h.waits time named ∙ ap Some (sym k.idle);
      kept_end = k.kept t h.kept_end;
    };
    act = listener_act t up (record { note = turn.note; moment = now }) old new turn s h;
  }

  -- a listener that was shown to a net
  pub fits_attached : (t : Terms) (old new : EchoAcceptor E G)
      → tells (listener_of new) ≡ tells (listener_of old) → idle_of new ≡ idle_of old
      → (keeps t (listener_of old) → keeps t (listener_of new)) → ListenerFits tells keeps t old
      → ListenerFits tells keeps t new
  fits_attached t old new same idle kept h = record {
    listener = ap (λ (e : EndFacts). e.listener) same ∙ h.listener;
    waits = λ time named. h.waits time named ∙ ap Some (sym idle);
    kept_end = kept h.kept_end;
  }
