-- That the turns of a connector are what its relations say.
use Rattle.std.proofs.Common.{◌≡◌, ◌∙◌, ℕ, suc, arith, List, [], ◌∷◌, ◌++◌, Bool, true, false}
use Rattle.std.proofs.Common.{Option, Some, None, refl, sym, subst, ap}
use Rattle.ev_base.specs.ev_types.specs.declared.upcall.Answer.{Answer}
use Rattle.ev_base.specs.ev_types.specs.declared.upcall.Upcall.{Upcall}
use Rattle.ev_base.specs.ev_types.specs.declared.upcall.Upcall.TheVariants.{Input, Output, Except}
use Rattle.ev_base.specs.ev_types.specs.declared.upcall.Upcall.TheVariants.{Timeout, Notice}
use Rattle.ev_base.specs.Counts.{Counts, counted}
use Rattle.ev_base.specs.Terms.{Terms}
use Rattle.ev_base.specs.End.{EndFacts, EndFinishes, FaultsAfter, WroteNothing}
use Rattle.ev_base.specs.declared.dial.Finish.{Finish}
use Rattle.ev_base.specs.declared.dial.Finish.TheVariants as finish
use Rattle.ev_base.specs.declared.end.PeerEnd.{Ghosts}
use Rattle.reactor_model.specs.reactor_journal.specs.Event.{Item, Origin}
use Rattle.reactor_model.specs.Handling.{NoClose}
use Rattle.reactor_model.specs.Turns.{TakesTurn, MayAct}
use Rattle.reactor_model.specs.declared.handler.Turn.{Turn}
use Rattle.reactor_model.specs.declared.handler.Act.{Act}
use Rattle.connector.specs.declared.note.ConnectNote.{ConnectNote}
use Rattle.connector.specs.declared.note.ConnectNote.TheVariants as note
use Rattle.connector.specs.declared.connector.Connector.{Connector}
use Rattle.connector.specs.Serving.{IsSameDial}
use Rattle.connector.specs.Connecting.{Progress, Turns, TurnsBy, at_start, asked, is_done}
use Rattle.connector.specs.Connectors.{HasDialled, HasFailed, ConnectorFits, connectors, AsksEnd}
use Rattle.connector.specs.Connectors.{LetsServe, DoesTurn, DoesWaiting, DoesConnected, end_of}
use Rattle.connector.specs.Connectors.{service_of, is_connected}
use Rattle.connector.proofs.Courses.{course_more, course_one, course_open}

-- ---- what an end tells after a question, and after a turn of the service

counts_more : (n tries : ℕ) → Counts n tries → Counts (counted n) (suc tries)
counts_more n tries h = omega arith

made_by : (came : Finish) → is_done came ≡ true → Some came ≡ Some finish.Done
made_by finish.Done is = refl
made_by finish.Pause is = cc
made_by finish.Failed is = cc

failed_by : (came : Finish) (before now : ℕ) → FaultsAfter came before now
    → HasFailed (Some came) now
failed_by finish.Done before now h = tt
failed_by finish.Pause before now h = tt
failed_by finish.Failed before now h = omega (arith, h)

dialled_more : {N : Type 0} (p : Progress N) (e f : EndFacts) (came : Finish) → p.connected ≡ false
    → HasDialled p e → EndFinishes e came f → HasDialled (asked came p) f
dialled_more p e f came waits h done =
    let none = h.unused waits in record {
      no_listener = done.counts.listener ∙ h.no_listener;
      finishes = subst (λ (n : ℕ). Counts n (suc p.tries)) (sym done.counts.finishes)
          (counts_more e.finishes p.tries h.finishes);
      last_finish = done.counts.last_finish;
      made = made_by came;
      failed = failed_by came e.faults f.faults done.faults;
      unused = λ _. record {
        reads = done.counts.reads ∙ none.reads;
        gave = done.counts.gave ∙ none.gave;
        writes = done.counts.writes ∙ none.writes;
        last_write = done.counts.last_write ∙ none.last_write;
        written = subst WroteNothing (sym done.counts.written) none.written;
      };
    }

true_false : true ≡ false → ⊥
true_false q = cc

dialled_on : {N : Type 0} (p : Progress N) (live : List (Item N)) (e f : EndFacts)
    → p.connected ≡ true → HasDialled p e → IsSameDial e f → HasDialled (record p { live = live }) f
dialled_on p live e f made h same = record {
  no_listener = same.listener ∙ h.no_listener;
  finishes = subst (λ (n : ℕ). Counts n p.tries) (sym same.finishes) h.finishes;
  last_finish = same.last_finish ∙ h.last_finish;
  made = h.made;
  failed = subst (λ (o : Option Finish). HasFailed o f.faults) (sym (h.made made)) tt;
  unused = λ waits. absurd (true_false (sym made ∙ waits));
}

-- ---- one turn

abbrev item_of : {N : Type 0} → Upcall → ℕ → Answer × ConnectNote N → Item (ConnectNote N)
item_of up now turn = record { upcall = up; moment = now; answer = turn.0; note = turn.1 }

-- no question whether the connection is made changes what a service stands for
abbrev Finished : {E V N : Type 0} → (E → EndFacts) → (Terms → E → Type 0)
    → (Terms → V → E → List (Item N) → Type 0) → Terms → Type 0
Finished {E} {V} {N} tells keeps serves t =
    (service : V) (old new : E) (answer : Finish) (had : List (Item N))
    → EndFinishes (tells old) answer (tells new) → keeps t new → serves t service old had
    → serves t service new had

by_service : {N : Type 0} (up : Upcall) (p : Progress N) (item : Item (ConnectNote N)) (said : N)
    → item.upcall ≡ up → item.note ≡ note.Live said → ((timer : ℕ) → up ≡ Timeout timer → ⊥) →
    TurnsBy true up p item (record p {
      live =
          p.live ++ record {
            upcall = item.upcall;
            moment = item.moment;
            answer = item.answer;
            note = said;
          } ∷ [];
    })
by_service Input p item said up notes other = record { said = said; notes = notes; leaves = refl }
by_service Output p item said up notes other = record { said = said; notes = notes; leaves = refl }
by_service Except p item said up notes other = record { said = said; notes = notes; leaves = refl }
by_service (Timeout timer) p item said up notes other = absurd (other timer refl)
by_service (Notice kind) p item said up notes other =
    record { said = said; notes = notes; leaves = refl }

module _ {E V N : Type 0} {G : Ghosts E} (tells : E → EndFacts) (keeps : Terms → E → Type 0)
    (serves : Terms → V → E → List (Item N) → Type 0) (t : Terms) where
  -- one turn more, which leads to where it is now
  more : (old new : Connector E V G) (had : List (Item (ConnectNote N)))
      (item : Item (ConnectNote N)) (next : Progress N)
      → (h : ConnectorFits tells keeps serves t old had) → Turns h.now item next →
      is_connected new ≡ next.connected → HasDialled next (tells (end_of new))
      → serves t (service_of new) (end_of new) next.live → keeps t (end_of new)
      → ConnectorFits tells keeps serves t new (had ++ item ∷ [])
  more old new had item next h turn connected dialled has_served kept_end = record {
    now = next;
    course = course_more at_start had (item ∷ []) h.now next h.course
        (course_one item h.now next turn);
    connected = connected;
    dialled = dialled;
    has_served = has_served;
    kept_end = kept_end;
  }

  -- a turn that changes nothing
  same : (old new : Connector E V G) (had : List (Item (ConnectNote N)))
      (item : Item (ConnectNote N)) → (h : ConnectorFits tells keeps serves t old had)
      → Turns h.now item h.now → new ≡ old
      → ConnectorFits tells keeps serves t new (had ++ item ∷ [])
  same old new had item h turn is =
      subst (λ (c : Connector E V G). ConnectorFits tells keeps serves t c (had ++ item ∷ []))
      (sym is) (more old old had item h.now h turn h.connected h.dialled h.has_served
      h.kept_end)

  asks : (now : ℕ) (old new : Connector E V G) (had : List (Item (ConnectNote N)))
      (turn : Answer × ConnectNote N) → Finished tells keeps serves t
      → (h : ConnectorFits tells keeps serves t old had) → h.now.connected ≡ false
      → AsksEnd tells old new turn → keeps t (end_of new) →
      ConnectorFits tells keeps serves t new (had ++ item_of Output now turn ∷ [])
  asks now old new had turn finished h waits a kept =
      more old new had (item_of Output now turn) (asked a.came h.now) h
      (subst (λ (b : Bool). TurnsBy b Output h.now (item_of Output now turn) (asked a.came h.now))
      (sym waits)
      (record {
        came = a.came;
        turn = record {
          answers = ap (λ (x : Answer × ConnectNote N). x.0) a.turns;
          notes = ap (λ (x : Answer × ConnectNote N). x.1) a.turns;
          leaves = refl;
        };
      }))
      a.connected (dialled_more h.now (tells (end_of old)) (tells (end_of new)) a.came waits
      h.dialled a.finishes)
      (subst (λ (v : V). serves t v (end_of new) h.now.live) (sym a.service)
      (finished (service_of old) (end_of old) (end_of new) a.came h.now.live a.finishes kept
      h.has_served)) kept

  lets : (up : Upcall) (now : ℕ) (old new : Connector E V G) (had : List (Item (ConnectNote N)))
      (turn : Answer × ConnectNote N) → ((timer : ℕ) → up ≡ Timeout timer → ⊥) → NoClose had
      → (h : ConnectorFits tells keeps serves t old had) →
      h.now.connected ≡ true → LetsServe tells keeps serves up now old new turn
      → keeps t (end_of new) → ConnectorFits tells keeps serves t new
      (had ++ item_of up now turn ∷ [])
  lets up now old new had turn other open_ h made l kept =
      let live = h.now.live ++ record { upcall = up; moment = now; answer = turn.0; note = l.said }
      ∷ [] in
      more old new had (item_of up now turn) (record h.now { live = live }) h
      (subst (λ (b : Bool). TurnsBy b up h.now (item_of up now turn) (record h.now { live = live }))
      (sym made) (by_service up h.now (item_of up now turn) l.said refl l.notes other))
      (l.connected ∙ h.connected) (dialled_on h.now live (tells (end_of old)) (tells (end_of new))
      made h.dialled l.same)
      (l.adds t h.now.live (course_open at_start h.now had tt h.course open_) h.kept_end
      h.has_served) kept

  waiting : (up : Upcall) (now : ℕ) (old new : Connector E V G) (had : List (Item (ConnectNote N)))
      (turn : Answer × ConnectNote N) → Finished tells keeps serves t
      → (h : ConnectorFits tells keeps serves t old had) → h.now.connected ≡ false →
      DoesWaiting tells up now old new turn → keeps t (end_of new)
      → ConnectorFits tells keeps serves t new (had ++ item_of up now turn ∷ [])
  waiting Output now old new had turn finished h waits d kept =
      asks now old new had turn finished h waits d kept
  waiting (Timeout timer) now old new had turn finished h waits d kept =
      same old new had (item_of (Timeout timer) now turn) h
      (subst (λ (b : Bool). TurnsBy b (Timeout timer) h.now (item_of (Timeout timer) now turn)
      h.now) (sym waits)
      (record {
        answers = ap (λ (x : Answer × ConnectNote N). x.0) d.0;
        notes = ap (λ (x : Answer × ConnectNote N). x.1) d.0;
        leaves = refl;
      })) d.1
  waiting Input now old new had turn finished h waits d kept =
      same old new had (item_of Input now turn) h
      (subst (λ (b : Bool). TurnsBy b Input h.now (item_of Input now turn) h.now) (sym waits)
      (record {
        answers = ap (λ (x : Answer × ConnectNote N). x.0) d.0;
        notes = ap (λ (x : Answer × ConnectNote N). x.1) d.0;
        leaves = refl;
      })) d.1
  waiting Except now old new had turn finished h waits d kept =
      same old new had (item_of Except now turn) h
      (subst (λ (b : Bool). TurnsBy b Except h.now (item_of Except now turn) h.now) (sym waits)
      (record {
        answers = ap (λ (x : Answer × ConnectNote N). x.0) d.0;
        notes = ap (λ (x : Answer × ConnectNote N). x.1) d.0;
        leaves = refl;
      })) d.1
  waiting (Notice kind) now old new had turn finished h waits d kept =
      same old new had (item_of (Notice kind) now turn) h
      (subst (λ (b : Bool). TurnsBy b (Notice kind) h.now (item_of (Notice kind) now turn)
      h.now) (sym waits)
      (record {
        answers = ap (λ (x : Answer × ConnectNote N). x.0) d.0;
        notes = ap (λ (x : Answer × ConnectNote N). x.1) d.0;
        leaves = refl;
      })) d.1

  talking : (up : Upcall) (now : ℕ) (old new : Connector E V G) (had : List (Item (ConnectNote N)))
      (turn : Answer × ConnectNote N) → NoClose had
      → (h : ConnectorFits tells keeps serves t old had) → h.now.connected ≡ true →
      DoesConnected tells keeps serves up now old new turn → keeps t (end_of new)
      → ConnectorFits tells keeps serves t new (had ++ item_of up now turn ∷ [])
  talking (Timeout timer) now old new had turn open_ h made d kept =
      same old new had (item_of (Timeout timer) now turn) h
      (subst (λ (b : Bool). TurnsBy b (Timeout timer) h.now (item_of (Timeout timer) now turn)
      h.now) (sym made)
      (record {
        answers = ap (λ (x : Answer × ConnectNote N). x.0) d.0;
        notes = ap (λ (x : Answer × ConnectNote N). x.1) d.0;
        leaves = refl;
      })) d.1
  talking Input now old new had turn open_ h made d kept =
      lets Input now old new had turn (λ timer q. cc) open_ h made d kept
  talking Output now old new had turn open_ h made d kept =
      lets Output now old new had turn (λ timer q. cc) open_ h made d kept
  talking Except now old new had turn open_ h made d kept =
      lets Except now old new had turn (λ timer q. cc) open_ h made d kept
  talking (Notice kind) now old new had turn open_ h made d kept =
      lets (Notice kind) now old new had turn (λ timer q. cc) open_ h made d kept

  by_state : (b : Bool) (up : Upcall) (now : ℕ) (old new : Connector E V G)
      (had : List (Item (ConnectNote N))) (turn : Answer × ConnectNote N)
      → Finished tells keeps serves t → NoClose had
      → (h : ConnectorFits tells keeps serves t old had) → h.now.connected ≡ b →
      DoesTurn tells keeps serves b up now old new turn → keeps t (end_of new)
      → ConnectorFits tells keeps serves t new (had ++ item_of up now turn ∷ [])
  by_state true up now old new had turn finished open_ h is d kept =
      talking up now old new had turn open_ h is d kept
  by_state false up now old new had turn finished open_ h is d kept =
      waiting up now old new had turn finished h is d kept

  -- a turn of a connector is one more
  pub takes_turn : (origin : Option (Origin (ConnectNote N))) (up : Upcall) (now : ℕ)
      (old new : Connector E V G) (had : List (Item (ConnectNote N)))
      (turn : Turn (Connector E V G) (ConnectNote N) E) → Finished tells keeps serves t
      → NoClose had →
      (h : ConnectorFits tells keeps serves t old had)
      → DoesTurn tells keeps serves (is_connected old) up now old new (turn.answer, turn.note)
      → keeps t (end_of new) → turn.act ≡ None →
      TakesTurn (connectors {E = E} {V = V} {N = N} {G = G} tells keeps serves) t origin up now had
      new turn
  takes_turn origin up now old new had turn finished open_ h d kept quiet = record {
    fits = by_state (is_connected old) up now old new had (turn.answer, turn.note) finished open_ h
        (sym h.connected) d kept;
    act = subst (λ (a : Option (Act _ (ConnectNote N) _)).
        MayAct (connectors {E = E} {V = V} {N = N} {G = G} tells keeps serves) t up
        (record { note = turn.note; moment = now }) a) (sym quiet) tt;
  }
