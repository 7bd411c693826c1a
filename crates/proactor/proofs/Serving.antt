-- Turns of the handlers of an echo service.
use Rattle.std.proofs.Common.{◌≡◌, ◌∙◌, ◌+◌, inr, ℕ, suc, arith, Bool, true, false}
use Rattle.std.proofs.Common.{List, [], ◌∷◌, ◌++◌, refl, sym, ap, subst, Option, Some, None}
use Rattle.std.specs.Prelude.{nat_lt}
use Rattle.std.proofs.lemmas.Grind.{flat_map-append}
use Rattle.std.proofs.lemmas.List.{append-nil, map-append}
use Rattle.ev_base.specs.ev_types.specs.declared.upcall.Answer.{Answer}
use Rattle.ev_base.specs.ev_types.specs.declared.upcall.Answer.TheVariants as answers
use Rattle.ev_base.specs.ev_types.specs.declared.upcall.Upcall.{Upcall}
use Rattle.ev_base.specs.ev_types.specs.declared.upcall.Upcall.TheVariants.{Input, Output, Except}
use Rattle.ev_base.specs.ev_types.specs.declared.upcall.Upcall.TheVariants.{Timeout, Notice}
use Rattle.ev_base.specs.ev_types.specs.declared.upcall.Why.{Why}
use Rattle.ev_base.specs.ev_types.specs.declared.upcall.Why.TheVariants.{Own}
use Rattle.ev_base.specs.Terms.{Terms}
use Rattle.ev_base.specs.End.{EndFacts, KeptByGiven}
use Rattle.ev_base.specs.declared.end.PeerEnd.{Ghosts}
use Rattle.ev_base.specs.declared.end.Taken.{Taken}
use Rattle.ev_base.specs.declared.end.Taken.TheVariants as taken
use Rattle.reactor_model.specs.reactor_journal.specs.Event.{Item, Origin}
use Rattle.reactor_model.specs.Handling.{EndsInClose, NoClose}
use Rattle.reactor_model.specs.Turns.{MayAct, TakesTurn}
use Rattle.reactor_model.specs.declared.handler.Act.{Act}
use Rattle.reactor_model.specs.declared.handler.Act.TheVariants.{
  CancelMine,
  Install,
  MaskMine,
  Stop,
}
use Rattle.reactor_model.specs.declared.handler.Turn.{Turn}
use Rattle.proactor.specs.declared.acceptor.AsynchAcceptor.{AsynchAcceptor}
use Rattle.proactor.specs.declared.asynch_end.AsynchEnd.{AsynchEnd}
use Rattle.proactor.specs.declared.echo.EchoCompletions.{EchoCompletions}
use Rattle.proactor.specs.declared.note.AsynchNote.{AsynchNote}
use Rattle.proactor.specs.declared.service.AioHandler.{AioHandler}
use Rattle.proactor.specs.declared.service.AioHandler.TheVariants.{Listen, Talk}
use Rattle.proactor.specs.declared.service.AioNote.{AioNote}
use Rattle.proactor.specs.declared.service.AioNote.TheVariants as note
use Rattle.proactor.specs.Acceptors.{AcceptsWhile, IsTurn, KeepsListener, ListenerFits}
use Rattle.proactor.specs.Acceptors.{ServesListener, TakesAccept, accepted_by, accepted_in, below}
use Rattle.proactor.specs.Acceptors.{count_taken, follows_echo, listener_of, most_connections}
use Rattle.proactor.specs.Ends.{AsynchFits, asynch_ends}
use Rattle.proactor.specs.Parts.{number_of}
use Rattle.proactor.specs.Services.{ClosesEnd, IsSameAct, ServesEnd, ServiceGone}
use Rattle.proactor.specs.Services.{TalkFits, services, wrapped_item}
use Rattle.proactor.specs.Services.{wrapped_items}
use Rattle.proactor.proofs.Echoing.{writes_back}
use Rattle.proactor.proofs.Turning.{takes_turn}

-- ---- an acceptor

numbers_same : (had : List (Item AioNote)) (item : Item AioNote) (n m : ℕ)
    → accepted_by item.note ≡ [] → m ≡ n → accepted_in had ≡ below n
    → accepted_in (had ++ item ∷ []) ≡ below m
numbers_same had item n m none same h =
    flat_map-append (λ (i : Item AioNote). accepted_by i.note) had (item ∷ [])
    ∙ ap (λ (xs : List ℕ). accepted_in had ++ (xs ++ [])) none ∙ append-nil (accepted_in had) ∙ h
    ∙ ap below (sym same)

numbers_more : (had : List (Item AioNote)) (item : Item AioNote) (n m : ℕ)
    → accepted_by item.note ≡ n ∷ [] → m ≡ n + 1 → accepted_in had ≡ below n
    → accepted_in (had ++ item ∷ []) ≡ below m
numbers_more had item n m one more h =
    let next : m ≡ suc n = omega (arith, more) in
    flat_map-append (λ (i : Item AioNote). accepted_by i.note) had (item ∷ [])
    ∙ ap (λ (xs : List ℕ). accepted_in had ++ (xs ++ [])) one
    ∙ ap (λ (xs : List ℕ). xs ++ n ∷ []) h ∙ ap below (sym next)

-- what a turn of an acceptor has for each term
record Listens {E : Type 0} {G : Ghosts E} (tells : E → EndFacts) (keeps : Terms → E → Type 0)
    (t : Terms) (up : Upcall) (origin : Origin AioNote) (had : List (Item AioNote))
    (item : Item AioNote) (old new : AsynchAcceptor E G) (turn : Turn (AioHandler E G) AioNote E)
    : Type 0 where
  numbers : accepted_in (had ++ item ∷ []) ≡ below (count_taken new)
  act : MayAct (services {E = E} {G = G} tells keeps) t up origin turn.act

module _ {E : Type 0} {G : Ghosts E} (tells : E → EndFacts) (keeps : Terms → E → Type 0)
    (t : Terms) (had : List (Item AioNote)) (item : Item AioNote) (old new : AsynchAcceptor E G)
    (turn : Turn (AioHandler E G) AioNote E) where
  -- one that carries none
  quiet_turn : (up : Upcall) (origin : Origin AioNote) → item.note ≡ turn.note
      → accepted_in had ≡ below (count_taken old) → IsTurn answers.Keep note.Listening None turn
      → count_taken new ≡ count_taken old → Listens tells keeps t up origin had item old new turn
  quiet_turn up origin same h i count = record {
    numbers = numbers_same had item (count_taken old) (count_taken new)
        (ap accepted_by (same ∙ i.notes)) count h;
    act = subst (MayAct (services {E = E} {G = G} tells keeps) t up origin) (sym i.acts) tt;
  }

  accepting : (origin : Origin AioNote) → item.note ≡ turn.note → origin.note ≡ turn.note
      → accepted_in had ≡ below (count_taken old) → keeps t (listener_of old)
      → (came : Taken E) → KeptByGiven (keeps t) came → TakesAccept tells keeps old new came turn
      → Listens tells keeps t Input origin had item old new turn
  accepting origin same from h kept (taken.One end) given takes = record {
    numbers = numbers_more had item (count_taken old) (count_taken new)
        (ap accepted_by (same ∙ takes.0.turns.notes)) takes.1 h;
    act = subst (MayAct (services {E = E} {G = G} tells keeps) t Input origin)
        (sym takes.0.turns.acts) (
          (refl, refl),
          record {
            offer = origin;
            offered = refl;
            accepted = from ∙ takes.0.turns.notes
                ∙ ap (λ (n : ℕ). note.Accepted n) (sym takes.0.number);
            items = [];
            are = refl;
            fits = takes.0.fits t given;
          },
        );
  }
  accepting origin same from h kept taken.Pause given takes =
      quiet_turn Input origin same h takes.0 takes.1
  accepting origin same from h kept taken.Failed given takes =
      quiet_turn Input origin same h takes.0 takes.1

  listens_so : (up : Upcall) (origin : Origin AioNote) → item.note ≡ turn.note
      → origin.note ≡ turn.note → accepted_in had ≡ below (count_taken old)
      → keeps t (listener_of old) → ServesListener tells keeps up old new turn
      → Listens tells keeps t up origin had item old new turn
  listens_so Input origin same from h kept s =
      by (nat_lt (count_taken old) most_connections) s
    where
      by : (b : Bool) → AcceptsWhile tells keeps b old new turn
          → Listens tells keeps t Input origin had item old new turn
      by true s = accepting origin same from h kept s.came (s.given t kept) s.takes
      by false s = quiet_turn Input origin same h s.0 (ap count_taken s.1)
  listens_so (Notice kind) origin same from h kept s = record {
    numbers = numbers_same had item (count_taken old) (count_taken new)
        (ap accepted_by (same ∙ s.0.notes)) (ap count_taken s.1) h;
    act = subst (MayAct (services {E = E} {G = G} tells keeps) t (Notice kind) origin)
        (sym s.0.acts) tt;
  }
  listens_so Output origin same from h kept s =
      quiet_turn Output origin same h s.0 (ap count_taken s.1)
  listens_so Except origin same from h kept s =
      quiet_turn Except origin same h s.0 (ap count_taken s.1)
  listens_so (Timeout timer) origin same from h kept s =
      quiet_turn (Timeout timer) origin same h s.0 (ap count_taken s.1)

pub listener_turn : {E : Type 0} {G : Ghosts E} (tells : E → EndFacts) (keeps : Terms → E → Type 0)
    (t : Terms) (origin : Option (Origin AioNote)) (up : Upcall) (now : ℕ)
    (had : List (Item AioNote)) (old new : AsynchAcceptor E G)
    (turn : Turn (AioHandler E G) AioNote E) → (tells (listener_of new)).listener ≡ true
    → ServesListener tells keeps up old new turn → KeepsListener keeps old new
    → ListenerFits tells keeps t old had
    → TakesTurn (services {E = E} {G = G} tells keeps) t origin up now had (Listen new) turn
listener_turn tells keeps t origin up now had old new turn listens s k h =
    let both = listens_so tells keeps t had
    (record { upcall = up; moment = now; answer = turn.answer; note = turn.note }) old new turn up
    (record { note = turn.note; moment = now }) refl refl h.numbers h.kept_end s in record {
      fits = record {
        listener = listens;
        numbers = both.numbers;
        kept_end = k t h.kept_end;
      };
      act = both.act;
    }

-- ---- a connection

going_on : (items : List (Item AsynchNote)) → NoClose (wrapped_items items) → NoClose items
going_on [] going = tt
going_on (item ∷ items) going = (going.0, going_on items going.1)

closing : (items : List (Item AsynchNote)) → EndsInClose (wrapped_items items) → EndsInClose items
closing [] closes = closes
closing (item ∷ []) closes = closes
closing (item ∷ next ∷ items) closes = closing (next ∷ items) closes

module _ {E : Type 0} {G : Ghosts E} (tells : E → EndFacts) (keeps : Terms → E → Type 0) where
  mask_act : (t : Terms) (up : Upcall) (from : Origin AsynchNote) (origin : Origin AioNote)
      (a : Option (Act (AsynchEnd E EchoCompletions G) AsynchNote E))
      (b : Option (Act (AioHandler E G) AioNote E)) → IsSameAct a b
      → MayAct (asynch_ends {E = E} {C = EchoCompletions} {G = G} tells keeps follows_echo) t up
      from
      a → MayAct (services {E = E} {G = G} tells keeps) t up origin b
  mask_act t up from origin None b same may =
      subst (MayAct (services {E = E} {G = G} tells keeps) t up origin) (sym same) tt
  mask_act t Input from origin (Some (MaskMine mask)) b same may =
      subst (MayAct (services {E = E} {G = G} tells keeps) t Input origin) (sym same) tt
  mask_act t Output from origin (Some (MaskMine mask)) b same may =
      subst (MayAct (services {E = E} {G = G} tells keeps) t Output origin) (sym same) tt
  mask_act t Except from origin (Some (MaskMine mask)) b same may = absurd may
  mask_act t (Timeout timer) from origin (Some (MaskMine mask)) b same may = absurd may
  mask_act t (Notice kind) from origin (Some (MaskMine mask)) b same may = absurd may
  mask_act t up from origin (Some (Install handler mask timer)) b same may = absurd same
  mask_act t up from origin (Some (CancelMine timer)) b same may = absurd same
  mask_act t up from origin (Some Stop) b same may = absurd same

  pub connection_turn : (t : Terms) (origin : Option (Origin AioNote)) (up : Upcall) (now : ℕ)
      (had : List (Item AioNote)) (old new : AsynchEnd E EchoCompletions G)
      (turn : Turn (AioHandler E G) AioNote E) → NoClose had
      → ServesEnd tells keeps up old new turn → TalkFits tells keeps t origin old had
      → TakesTurn (services {E = E} {G = G} tells keeps) t origin up now had (Talk new) turn
  connection_turn t origin up now had old new turn going s h =
      let one = takes_turn tells keeps follows_echo t None up now h.items old new s.made s.makes
      (going_on h.items (subst NoClose h.are going)) h.fits in record {
        fits = record {
          offer = h.offer;
          offered = h.offered;
          accepted = h.accepted ∙ ap (λ (n : ℕ). note.Accepted n) (sym s.makes.number);
          items = h.items ++ record {
            upcall = up;
            moment = now;
            answer = s.made.answer;
            note = s.made.note;
          } ∷ [];
          are = ap (λ (a : Answer). had
              ++ record { upcall = up; moment = now; answer = a; note = turn.note } ∷ [])
              s.wraps.answers
              ∙ ap (λ (n : AioNote). had
              ++ record { upcall = up; moment = now; answer = s.made.answer; note = n } ∷ [])
              s.wraps.notes
              ∙ ap (λ (items : List (Item AioNote)). items ++ wrapped_item (record {
                upcall = up;
                moment = now;
                answer = s.made.answer;
                note = s.made.note;
              }) ∷ []) h.are
              ∙ sym (map-append wrapped_item h.items _);
          fits = one.fits;
        };
        act = mask_act t up (record { note = s.made.note; moment = now })
            (record { note = turn.note; moment = now }) s.made.act turn.act
            s.wraps.acts one.act;
      }

  pub talk_gone : (t : Terms) (origin : Option (Origin AioNote)) (had : List (Item AioNote))
      (reason : Why) (end : AsynchEnd E EchoCompletions G) (left : E × AioNote)
      → (reason ≡ Own → EndsInClose had) → ClosesEnd tells keeps reason end left
      → TalkFits tells keeps t origin end had
      → ServiceGone tells keeps t origin left.0 had reason left.1
  talk_gone t origin had reason end left own c h =
      let gone = c.gone t h.items (λ is. closing h.items (subst EndsInClose h.are (own is))) h.fits
      in
      inr (record {
        told = c.told;
        notes = c.notes;
        offer = h.offer;
        offered = h.offered;
        accepted = h.accepted ∙ ap (λ (n : ℕ). note.Accepted n) (sym c.number);
        items = h.items;
        are = h.are;
        gone = gone;
        back = writes_back gone.conn gone.first gone.turns.start h.items gone.all gone.closing
            gone.last
            gone.told_so.reads gone.told_so.echoes gone.turns.course;
      })

  -- one whose end was attached
  pub talk_attached : (t : Terms) (origin : Option (Origin AioNote)) (had : List (Item AioNote))
      (old new : AsynchEnd E EchoCompletions G) → number_of new ≡ number_of old
      → ((items : List (Item AsynchNote)) → AsynchFits tells keeps follows_echo t old items
      → AsynchFits tells keeps follows_echo t new items) → TalkFits tells keeps t origin old had
      → TalkFits tells keeps t origin new had
  talk_attached t origin had old new number fits h = record {
    offer = h.offer;
    offered = h.offered;
    accepted = h.accepted ∙ ap (λ (n : ℕ). note.Accepted n) (sym number);
    items = h.items;
    are = h.are;
    fits = fits h.items h.fits;
  }
