-- Steps of an acceptor.
use Rattle.std.proofs.Common.{◌≡◌, ◌<◌, ◌≤◌, ◌+◌, ◌∙◌, ◌⊎◌, arith, ℕ, suc, Bool, true, false, List}
use Rattle.std.proofs.Common.{[], ◌∷◌, ◌++◌, Option, Some, None, refl, sym, subst, ap}
use Rattle.std.specs.Prelude.{nat_lt}
use Rattle.std.proofs.lemmas.Bool.Decides.{nat_tests}
use Rattle.ev_base.specs.ev_types.specs.declared.upcall.Answer.TheVariants.{Keep}
use Rattle.ev_base.specs.ev_types.specs.declared.upcall.Upcall.{Upcall}
use Rattle.ev_base.specs.ev_types.specs.declared.upcall.Upcall.TheVariants.{Input, Output, Except}
use Rattle.ev_base.specs.ev_types.specs.declared.upcall.Upcall.TheVariants.{Timeout, Notice}
use Rattle.ev_base.specs.Counts.{Counts, Rose, counted}
use Rattle.ev_base.specs.Story.{Offer, Offering, NoneThere, OneFailure, NumbersFrom, TakesOffer}
use Rattle.ev_base.specs.Story.{NoOfferLeft}
use Rattle.ev_base.specs.Terms.{Terms}
use Rattle.ev_base.specs.KeepsStory.{KeepsStory, IsOffering}
use Rattle.ev_base.specs.End.{EndFacts, Try, Accepted, Paused, Faulted, IsFresh, GaveNoOffer}
use Rattle.ev_base.specs.End.{CountsAccept, AcceptsEnd, AcceptsNone, FailsToAccept, TakesSerial}
use Rattle.ev_base.specs.declared.end.PeerEnd.{Ghosts}
use Rattle.reactor_model.specs.reactor_journal.specs.Event.{Item, Origin}
use Rattle.reactor_model.specs.Turns.{MayAct}
use Rattle.reactor_model.specs.declared.handler.Turn.{Turn}
use Rattle.reactor_model.specs.declared.handler.Act.{Act}
use Rattle.reactor_model.specs.declared.handler.Act.TheVariants.{Install, Stop}
use Rattle.log_handler.specs.declared.note.ServerNote.{ServerNote}
use Rattle.log_handler.specs.declared.note.ServerNote.TheVariants as note
use Rattle.log_handler.specs.declared.connection.LogConnection.{LogConnection}
use Rattle.log_handler.specs.Connections.{MayComeFrom}
use Rattle.log_handler.specs.Steps.{item_of}
use Rattle.acceptor.specs.declared.acceptor.Acceptor.{Acceptor}
use Rattle.acceptor.specs.declared.server.ServerHandler.{ServerHandler}
use Rattle.acceptor.specs.declared.server.ServerHandler.TheVariants.{Talk}
use Rattle.acceptor.specs.Idle.{idle_timer}
use Rattle.acceptor.specs.Accepting.{Progress, Turns, ServesUpcall, ServesInput, OneEnd, NoEnd}
use Rattle.acceptor.specs.Accepting.{Failure, after_accept, at_start, most_connections}
use Rattle.acceptor.specs.Acceptors.{HasFaults, HasListened, AcceptorFits, BeginsOffers}
use Rattle.acceptor.specs.Acceptors.{listener_of, count_taken, idle_of_acceptor}
use Rattle.acceptor.specs.Servers.{servers, read_alone}
use Rattle.acceptor.specs.Steps.{TakesAcceptorTurn, OffersConnection}
use Rattle.acceptor.proofs.Courses.{course-more, course-one, numbers-course, told-serial}
use Rattle.acceptor.proofs.Courses.{next-serial}

-- an act that installs a connection, with this timer
abbrev pub installing : {E : Type 0} {G : Ghosts E} → LogConnection E G → Option (ℕ × ℕ)
    → Option (Act (ServerHandler E G) ServerNote E)
installing handler timer = Some (Install (Talk handler) read_alone timer)

pub with-timer : {E : Type 0} {G : Ghosts E} (handler : LogConnection E G) (a b : Option (ℕ × ℕ))
    → a ≡ b → installing handler a ≡ installing handler b
with-timer handler a b is = ap (λ (timer : Option (ℕ × ℕ)). installing handler timer) is

abbrev origin-at : ServerNote → ℕ → Option (Origin ServerNote)
origin-at said moment = Some (record { note = said; moment = moment })

abbrev offering-of : List Offer → List Offer → Option Offering
offering-of given left = Some (record { given = given; left = left })

-- ---- what a listener tells after an accept

counts-more : (n accepts : ℕ) → Counts n accepts → Counts (counted n) (suc accepts)
counts-more n accepts h = omega arith

rose-faults : (failed : Bool) (n m : ℕ) → HasFaults failed n → Rose n m → 1 ≤ m
rose-faults failed n m h rose = omega arith

listened-more : (p : Progress) (e f : EndFacts) (came_to : Try) (taken : ℕ) (failed : Bool)
    → HasListened p e → CountsAccept e came_to f → HasFaults failed f.faults →
    HasListened (record {
      taken = taken;
      accepts = suc p.accepts;
      last_accept = Some came_to;
      failed = failed;
      offering = f.offering;
    }) f
listened-more p e f came_to taken failed h counts faults = record {
  listener = counts.counts.listener ∙ h.listener;
  accepts = subst (λ (n : ℕ). Counts n (suc p.accepts)) (sym counts.counts.reads)
      (counts-more e.reads p.accepts h.accepts);
  last_accept = counts.counts.last_read;
  offering = refl;
  faults = faults;
}

same-faults : (failed : Bool) (n m : ℕ) → m ≡ n → HasFaults failed n → HasFaults failed m
same-faults failed n m is h = subst (λ (k : ℕ). HasFaults failed k) (sym is) h

-- the connection that an accept gave may come from the turn of the accept
comes-from : {E : Type 0} (tells : E → EndFacts) (keeps : Terms → E → Type 0) (t : Terms) (conn : ℕ)
    (idle : Option ℕ) (now : ℕ) (said : ServerNote) (e f : EndFacts) (given : E)
    → said ≡ note.Accepted conn → KeepsStory t e → e.listener ≡ true →
    NumbersFrom conn e.offering → AcceptsEnd e (tells given) f → keeps t given
    → ((time : Option ℕ) → t.idle ≡ Some time → idle ≡ time) →
    MayComeFrom t (Some (record { note = said; moment = now })) conn idle now (tells given).serial
comes-from tells keeps t conn idle now said e f given notes story listens numbered took keeping
    waits = record {
      offered = λ offers is. (
        ap (λ (n : ServerNote). origin-at n now) notes,
        told-serial conn e.offering f.offering (tells given).serial offers numbered took.offering
            (story.listener offers listens is),
      );
      waits = waits;
      numbered = next-serial conn e.offering f.offering (tells given).serial numbered took.offering;
    }

-- ---- one turn more

may-more : (n m : ℕ) → n ≡ m → n < most_connections → nat_lt m most_connections ≡ true
may-more n m is few = grind (arith, nat_tests)

no-more : (n m : ℕ) → n ≡ m → most_connections ≤ n → nat_lt m most_connections ≡ false
no-more n m is many = grind (arith, nat_tests)

module _ {E : Type 0} {G : Ghosts E} (tells : E → EndFacts) (keeps : Terms → E → Type 0) where
  fits-more : (t : Terms) (origin : Option (Origin ServerNote)) (old new : Acceptor E G)
      (had : List (Item ServerNote)) (item : Item ServerNote) (next : Progress) →
      (h : AcceptorFits tells keeps t origin old had) → Turns h.listened.now item next
      → idle_of_acceptor new ≡ idle_of_acceptor old →
      (tells (listener_of new)).serial ≡ (tells (listener_of old)).serial
      → HasListened next (tells (listener_of new)) →
      count_taken new ≡ next.taken → keeps t (listener_of new)
      → AcceptorFits tells keeps t origin new (had ++ item ∷ [])
  fits-more t origin old new had item next h turn idle serial stands taken keeping =
      let l = h.listened in record {
        listened = record {
          offering = l.offering;
          now = next;
          course = course-more (at_start l.offering) had (item ∷ []) l.now next l.course
              (course-one item l.now next turn);
          comes_from = l.comes_from;
          unnumbered = λ offers is. serial ∙ l.unnumbered offers is;
          waits = λ time is. idle ∙ l.waits time is;
          story = l.story;
          numbered = l.numbered;
          end = stands;
        };
        taken = taken;
        kept_end = keeping;
      }

  -- an upcall that makes no accept
  abbrev StaysSo : Upcall → ℕ → Acceptor E G → Turn (ServerHandler E G) ServerNote E → Type 0
  StaysSo up now old turn = (before : Progress) → count_taken old ≡ before.taken
      → ServesUpcall up before (item_of up now turn) before

  stays : (up : Upcall) (now : ℕ) (old : Acceptor E G)
      (turn : Turn (ServerHandler E G) ServerNote E) → StaysSo up now old turn →
      (t : Terms) (origin : Option (Origin ServerNote)) (had : List (Item ServerNote))
      → AcceptorFits tells keeps t origin old had →
      AcceptorFits tells keeps t origin old (had ++ item_of up now turn ∷ [])
  stays up now old turn serves t origin had h =
      fits-more t origin old old had (item_of up now turn) h.listened.now h
      (serves h.listened.now h.taken) refl refl h.listened.end h.taken h.kept_end

  -- a turn without an act
  quiet : (up : Upcall) (now : ℕ) (t : Terms) (turn : Turn (ServerHandler E G) ServerNote E)
      → turn.act ≡ None →
      MayAct (servers {E = E} {G = G} tells keeps) t up (record { note = turn.note; moment = now })
      turn.act
  quiet up now t turn none = subst (λ (a : Option (Act (ServerHandler E G) ServerNote E)).
      MayAct (servers {E = E} {G = G} tells keeps) t up (record { note = turn.note; moment = now })
      a) (sym none) tt

  -- input at which it may take no more
  pub turn-full : (now : ℕ) (old : Acceptor E G) (turn : Turn (ServerHandler E G) ServerNote E)
      → most_connections ≤ count_taken old → turn.answer ≡ Keep → turn.note ≡ note.NoneWaiting →
      turn.act ≡ None → TakesAcceptorTurn tells keeps Input now old old turn
  turn-full now old turn many answers notes none = record {
    fits = stays Input now old turn (λ before is.
        subst (λ (more : Bool). ServesInput more before (item_of Input now turn) before)
        (sym (no-more (count_taken old) before.taken is many))
        (record { notes = notes; answers = answers; leaves = refl }));
    act = λ t origin had h. quiet Input now t turn none;
  }

  other : (up : Upcall) (now : ℕ) (old : Acceptor E G)
      (turn : Turn (ServerHandler E G) ServerNote E) → (up ≡ Input → ⊥) → turn.answer ≡ Keep
      → turn.note ≡ note.NoneWaiting → StaysSo up now old turn
  other Input now old turn no_input answers notes = absurd (no_input refl)
  other Output now old turn no_input answers notes =
      λ before is. record { notes = notes; answers = answers; leaves = refl }
  other Except now old turn no_input answers notes =
      λ before is. record { notes = notes; answers = answers; leaves = refl }
  other (Timeout timer) now old turn no_input answers notes =
      λ before is. record { notes = notes; answers = answers; leaves = refl }
  other (Notice kind) now old turn no_input answers notes =
      λ before is. record { notes = notes; answers = answers; leaves = refl }

  -- an upcall other than input and a notice
  pub turn-other : (up : Upcall) (now : ℕ) (old : Acceptor E G)
      (turn : Turn (ServerHandler E G) ServerNote E) → (up ≡ Input → ⊥) → turn.answer ≡ Keep
      → turn.note ≡ note.NoneWaiting →
      turn.act ≡ None → TakesAcceptorTurn tells keeps up now old old turn
  turn-other up now old turn no_input answers notes none = record {
    fits = stays up now old turn (other up now old turn no_input answers notes);
    act = λ t origin had h. quiet up now t turn none;
  }

  -- a notice
  pub turn-notice : (kind : _) (now : ℕ) (old : Acceptor E G)
      (turn : Turn (ServerHandler E G) ServerNote E) → turn.answer ≡ Keep
      → turn.note ≡ note.NoneWaiting →
      turn.act ≡ Some Stop → TakesAcceptorTurn tells keeps (Notice kind) now old old turn
  turn-notice kind now old turn answers notes stop = record {
    fits = stays (Notice kind) now old turn
        (λ before is. record { notes = notes; answers = answers; leaves = refl });
    act = λ t origin had h. subst (λ (a : Option (Act (ServerHandler E G) ServerNote E)).
        MayAct (servers {E = E} {G = G} tells keeps) t (Notice kind)
        (record { note = turn.note; moment = now }) a) (sym stop) tt;
  }

  -- ---- turns with an accept

  -- the accept paused
  pub turn-pause : (now : ℕ) (old new : Acceptor E G) (turn : Turn (ServerHandler E G) ServerNote E)
      → count_taken old < most_connections →
      AcceptsNone (tells (listener_of old)) (tells (listener_of new))
      → ((t : Terms) → keeps t (listener_of old) → keeps t (listener_of new)) →
      count_taken new ≡ count_taken old → idle_of_acceptor new ≡ idle_of_acceptor old →
      turn.answer ≡ Keep → turn.note ≡ note.NoneWaiting → turn.act ≡ None
      → TakesAcceptorTurn tells keeps Input now old new turn
  turn-pause now old new turn few none kept taken idle answers notes quiet_ = record {
    fits = λ t origin had h.
        let p = h.listened.now in
        let f = tells (listener_of new) in
        let next = after_accept Paused f.offering p in
        fits-more t origin old new had (item_of Input now turn) next h
        (subst (λ (more : Bool). ServesInput more p (item_of Input now turn) next)
        (sym (may-more (count_taken old) p.taken h.taken few))
        (record {
          gave = NoEnd;
          serves = record {
            offer = subst (λ (o : Option Offering). NoOfferLeft o f.offering
                ⊎ TakesOffer o NoneThere f.offering) h.listened.end.offering none.offering;
            notes = notes;
            answers = answers;
            leaves = refl;
          };
        }))
        idle none.counts.counts.serial
        (listened-more p (tells (listener_of old)) f Paused p.taken p.failed h.listened.end
        none.counts (same-faults p.failed _ _ none.faults h.listened.end.faults))
        (taken ∙ h.taken) (kept t h.kept_end);
    act = λ t origin had h. quiet Input now t turn quiet_;
  }

  -- the accept failed
  pub turn-failed : (now : ℕ) (old new : Acceptor E G)
      (turn : Turn (ServerHandler E G) ServerNote E) → count_taken old < most_connections →
      FailsToAccept (tells (listener_of old)) (tells (listener_of new))
      → ((t : Terms) → keeps t (listener_of old) → keeps t (listener_of new)) →
      count_taken new ≡ count_taken old → idle_of_acceptor new ≡ idle_of_acceptor old →
      turn.answer ≡ Keep → turn.note ≡ note.ListenerFailed → turn.act ≡ None
      → TakesAcceptorTurn tells keeps Input now old new turn
  turn-failed now old new turn few failed kept taken idle answers notes quiet_ = record {
    fits = λ t origin had h.
        let p = h.listened.now in
        let f = tells (listener_of new) in
        let next = record (after_accept Faulted f.offering p) { failed = true } in
        fits-more t origin old new had (item_of Input now turn) next h
        (subst (λ (more : Bool). ServesInput more p (item_of Input now turn) next)
        (sym (may-more (count_taken old) p.taken h.taken few))
        (record {
          gave = Failure;
          serves = record {
            offer = subst (λ (o : Option Offering). TakesOffer o OneFailure f.offering)
                h.listened.end.offering failed.offering;
            notes = notes;
            answers = answers;
            leaves = refl;
          };
        }))
        idle failed.counts.counts.serial
        (listened-more p (tells (listener_of old)) f Faulted p.taken true h.listened.end
        failed.counts (rose-faults p.failed _ _ h.listened.end.faults failed.rose))
        (taken ∙ h.taken) (kept t h.kept_end);
    act = λ t origin had h. quiet Input now t turn quiet_;
  }

  -- the accept gave the end of a connection
  pub turn-one : (now : ℕ) (old new : Acceptor E G) (end : E)
      (turn : Turn (ServerHandler E G) ServerNote E) → count_taken old < most_connections →
      AcceptsEnd (tells (listener_of old)) (tells end) (tells (listener_of new))
      → ((t : Terms) → keeps t (listener_of old) → keeps t (listener_of new)) →
      ((t : Terms) → keeps t (listener_of old) → keeps t end)
      → ((t : Terms) (kept : E) → keeps t kept → KeepsStory t (tells kept)) →
      count_taken new ≡ count_taken old + 1 → idle_of_acceptor new ≡ idle_of_acceptor old →
      OffersConnection tells keeps (count_taken old) (idle_of_acceptor old) now end turn
      → TakesAcceptorTurn tells keeps Input now old new turn
  turn-one now old new end turn few took kept given stories taken idle offers = record {
    fits = λ t origin had h.
        let p = h.listened.now in
        let f = tells (listener_of new) in
        let next = record (after_accept Accepted f.offering p) { taken = suc p.taken } in
        fits-more t origin old new had (item_of Input now turn) next h
        (subst (λ (more : Bool). ServesInput more p (item_of Input now turn) next)
        (sym (may-more (count_taken old) p.taken h.taken few))
        (record {
          gave = OneEnd (tells end).serial;
          serves = record {
            offer = subst (λ (o : Option Offering). TakesSerial o (tells end).serial f.offering)
                h.listened.end.offering took.offering;
            notes = offers.notes ∙ ap (λ (n : ℕ). note.Accepted n) h.taken;
            answers = offers.answers;
            leaves = refl;
          };
        }))
        idle took.counts.counts.serial
        (listened-more p (tells (listener_of old)) f Accepted (suc p.taken) p.failed h.listened.end
        took.counts (same-faults p.failed _ _ took.faults h.listened.end.faults))
        (taken-more (count_taken old) (count_taken new) p.taken taken h.taken) (kept t h.kept_end);
    act = λ t origin had h.
        let p = h.listened.now in
        let e = tells (listener_of old) in
        let rest : NumbersFrom (count_taken old) e.offering =
        numbers-now (count_taken old) p.taken t e.offering p.offering h.taken
        h.listened.end.offering
        (numbers-course (at_start h.listened.offering) p had h.listened.course h.listened.numbered)
        in
        subst (λ (a : Option (Act (ServerHandler E G) ServerNote E)).
        MayAct (servers {E = E} {G = G} tells keeps) t Input
        (record { note = turn.note; moment = now }) a) (sym offers.installs) (
          (refl, λ time is. ap (λ (i : Option ℕ). idle_timer i) (h.listened.waits time is)),
          offers.fits t _ (given t h.kept_end)
              (comes-from tells keeps t (count_taken old) (idle_of_acceptor old) now turn.note e
              (tells (listener_of new)) end offers.notes
              (stories t (listener_of old) h.kept_end) h.listened.end.listener rest took
              (given t h.kept_end) h.listened.waits),
        );
  }
    where
      taken-more : (n m k : ℕ) → m ≡ n + 1 → n ≡ k → m ≡ suc k
      taken-more n m k is same = omega arith

      numbers-now : (n m : ℕ) (t : Terms) (a b : Option Offering) → n ≡ m → a ≡ b → NumbersFrom m b
          → NumbersFrom n a
      numbers-now n m t a b is same h = subst (λ (k : ℕ). NumbersFrom k a) (sym is)
          (subst (λ (o : Option Offering). NumbersFrom m o) (sym same) h)

-- ---- the start

-- the whole story was left at the start
begins : (t : Terms) (e : EndFacts) → e.listener ≡ true → KeepsStory t e → GaveNoOffer e.offering
    → BeginsOffers t e.offering
begins t e listens keeps fresh offers is =
    left-all e.offering offers fresh (keeps.listener offers listens is)
  where
    left-all : (offering : Option Offering) (offers : List Offer) → GaveNoOffer offering
        → IsOffering offering offers → offering ≡ Some (record { given = []; left = offers })
    left-all None offers fresh told = absurd told
    left-all (Some o) offers fresh told =
        let left : o.left ≡ offers = subst (λ (given : List Offer). given ++ o.left ≡ offers) fresh
        told in
        ap (λ (xs : List Offer). offering-of xs o.left) fresh
        ∙ ap (λ (ys : List Offer). offering-of [] ys) left

pub fits-new : {E : Type 0} {G : Ghosts E} (tells : E → EndFacts) (keeps : Terms → E → Type 0)
    (t : Terms) (origin : Option (Origin ServerNote)) (new : Acceptor E G) →
    ((u : Terms) (end : E) → keeps u end → KeepsStory u (tells end))
    → (tells (listener_of new)).listener ≡ true → IsFresh (tells (listener_of new))
    → count_taken new ≡ 0 →
    keeps t (listener_of new) → ((offers : List Offer) → t.offers ≡ Some offers → origin ≡ None)
    → ((time : Option ℕ) → t.idle ≡ Some time → idle_of_acceptor new ≡ time) →
    NumbersFrom 0 (tells (listener_of new)).offering → AcceptorFits tells keeps t origin new []
fits-new tells keeps t origin new stories listens fresh none keeping comes waits numbered =
    let e = tells (listener_of new) in record {
      listened = record {
        offering = e.offering;
        now = at_start e.offering;
        course = refl;
        comes_from = comes;
        unnumbered = λ offers is. (stories t (listener_of new) keeping).unnumbered offers listens
            is;
        waits = waits;
        story = begins t e listens (stories t (listener_of new) keeping) fresh.offering;
        numbered = numbered;
        end = record {
          listener = listens;
          accepts = fresh.reads;
          last_accept = fresh.last_read;
          offering = refl;
          faults = fresh.faults;
        };
      };
      taken = none;
      kept_end = keeping;
    }

-- its listener was attached
pub fits-attached : {E : Type 0} {G : Ghosts E} (tells : E → EndFacts) (keeps : Terms → E → Type 0)
    (t : Terms) (origin : Option (Origin ServerNote)) (old new : Acceptor E G)
    (had : List (Item ServerNote)) → AcceptorFits tells keeps t origin old had
    → count_taken new ≡ count_taken old → idle_of_acceptor new ≡ idle_of_acceptor old →
    tells (listener_of new) ≡ tells (listener_of old) → keeps t (listener_of new)
    → AcceptorFits tells keeps t origin new had
fits-attached tells keeps t origin old new had h taken idle told keeping =
    let l = h.listened in record {
      listened = record {
        offering = l.offering;
        now = l.now;
        course = l.course;
        comes_from = l.comes_from;
        unnumbered = λ offers is. ap (λ (e : EndFacts). e.serial) told ∙ l.unnumbered offers is;
        waits = λ time is. idle ∙ l.waits time is;
        story = l.story;
        numbered = l.numbered;
        end = subst (λ (e : EndFacts). HasListened l.now e) (sym told) l.end;
      };
      taken = taken ∙ h.taken;
      kept_end = keeping;
    }
