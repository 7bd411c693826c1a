-- What the settling of an upcall leaves, but for its act.
use Rattle.std.proofs.Common.{ℕ, ◌≡◌, ◌≤◌, ◌+◌, ◌-◌, Bool, true, false, not, List, [], ◌∷◌, ◌++◌}
use Rattle.std.proofs.Common.{length, refl, sym, ap, ◌∙◌, subst, arith, Some, None}
use Rattle.std.proofs.lemmas.List.{append-nil}
use Rattle.std.specs.List.{list_any}
use Rattle.reactor_summary.specs.ev_types.specs.declared.upcall.Answer.{Answer}
use Rattle.reactor_summary.specs.ev_types.specs.declared.upcall.Handle.{Handle}
use Rattle.reactor_summary.specs.ev_types.specs.declared.upcall.Why.{Why}
use Rattle.ev_base.specs.Terms.{Terms}
use Rattle.reactor_model.specs.reactor_journal.specs.declared.entry.Entry.{Entry}
use Rattle.reactor_model.specs.reactor_journal.specs.declared.entry.Entry.TheVariants.{Returned}
use Rattle.reactor_model.specs.reactor_journal.specs.declared.entry.Entry.TheVariants.{Closed}
use Rattle.reactor_model.specs.reactor_journal.specs.Past.{past_of}
use Rattle.reactor_model.specs.reactor_journal.specs.Follow.{is_legal}
use Rattle.reactor_model.specs.reactor_journal.proofs.Turning.{past_of-more}
use Rattle.reactor_summary.specs.declared.parts.LiveHandle.{LiveHandle}
use Rattle.reactor_summary.specs.declared.parts.OpenEvent.{OpenEvent}
use Rattle.reactor_summary.specs.Summary.{Summary, summary, is_alive}
use Rattle.reactor_state.specs.State.{owed, no_places, IsFewer}
use Rattle.reactor_state.specs.declared.places.Places.{Places}
use Rattle.reactor_state.specs.declared.state.ReactorState.{ReactorState}
use Rattle.reactor_core.specs.Handlers.{is_live}
use Rattle.reactor_core.specs.Stands.{Meaning, Tracks, Stands, HasRoom, IsSettled, StandsWithRoom}
use Rattle.reactor_core.specs.Stands.{places_for}
use Rattle.reactor_core.specs.Settling.{why_of, IsClosing, IsSettling, IsReturned, act_places}
use Rattle.reactor_core.specs.Settles.{TakesBack, SettlesEvent}
use Rattle.reactor_core.specs.Steps.{MayClose, MayTakeBack}
use Rattle.reactor_core.specs.declared.reactor.Core.{Core}
use Rattle.reactor_core.proofs.Returned.{is_returned, closable, GivesBack, given_back}
use Rattle.reactor_core.proofs.SettledHistory.{IsSettledBut, settled_returned, settled_closed}
use Rattle.reactor_core.proofs.SettledHistory.{settled_at_last, alive_waits_not, alive_returned}
use Rattle.reactor_core.proofs.Owed.{opens_returned, owed_returned, owed_closed}

-- fewer places
abbrev pub Weakens : {H M Q W V N E : Type 0} → Meaning H M Q W V N E → Type 0
Weakens {Q = Q} m = (state : ReactorState Q) (few many : Places) → IsFewer few many
    → m.places many state → m.places few state

-- after the `Returned` the handler is one whose upcall was settled
pub returned_at : {H M Q W V N E : Type 0} (m : Meaning H M Q W V N E) (t : Terms)
    (mid : Core H M Q W V N E) (F : ℕ) (h : List (Entry N)) (o : OpenEvent) (answer : Answer)
    (note : N) (handler : H) (alive : Bool) (why : Why)
    → IsSettling m.means t (past_of h) o answer note handler
    → is_alive (summary (past_of h)) o.handle.0 ≡ alive → why ≡ why_of alive
    → Tracks m t mid F (h ++ Returned o.event answer note ∷ []) (Some o.handle.0) []
    → IsReturned m.means t (past_of (h ++ Returned o.event answer note ∷ [])) o.handle.0 handler why
returned_at m t mid F h o answer note handler alive why s was reason k =
    let same : past_of (h ++ Returned o.event answer note ∷ [])
    ≡ Returned o.event answer note ∷ past_of h =
    past_of-more h (Returned o.event answer note) in
    let legal : is_legal t.most (Returned o.event answer note ∷ past_of h) ≡ true =
    subst (λ past. is_legal t.most past ≡ true) same k.legal in
    subst (λ past. IsReturned m.means t past o.handle.0 handler why) (sym same)
    (subst (λ w. IsReturned m.means t (Returned o.event answer note ∷ past_of h) o.handle.0 handler
    w) (sym reason)
    (is_returned m.means t t.most (past_of h) o answer note handler alive legal s was))

-- how the room went on
pub record SettlesRoom {H M Q W V N E : Type 0} (m : Meaning H M Q W V N E)
    (old mid new : Core H M Q W V N E) : Type 0 where
  pub journal : mid.journal.spare + 1 ≡ old.journal.spare
  pub places : (p : Places) → m.places p old.state
      → m.places (record p { timeouts = p.timeouts - 1; events = p.events - 1 }) new.state
  pub seats : old.repo.spare ≤ new.repo.spare
  pub net : (m.facts old.net).spare ≤ (m.facts new.net).spare

module _ {H M Q W V N E : Type 0} (m : Meaning H M Q W V N E) (weak : Weakens m) (t : Terms)
    (old mid new : Core H M Q W V N E) (F : ℕ) (h : List (Entry N)) (o : OpenEvent)
    (answer : Answer) (note : N) where
  -- the room that is left
  room_left : (s : Summary) (spent : ℕ) → length s.opens + 1 ≤ length (summary (past_of h)).opens
      → owed s + (4 + spent) ≤ owed (summary (past_of h))
      → s.entries ≡ (summary (past_of h)).entries + spent
      → old.journal.spare ≤ new.journal.spare + spent → SettlesRoom m old mid new
      → HasRoom m 0 no_places old (summary (past_of h)) → HasRoom m 4 act_places new s
  room_left s spent opens owes entries journal d r = record {
    journal = omega (arith, r.journal, owes, journal);
    numbers = omega (arith, r.numbers, owes, entries);
    state = weak new.state (places_for (length s.opens) act_places)
        (record (places_for (length (summary (past_of h)).opens) no_places) {
          timeouts = length (summary (past_of h)).opens + 0 - 1;
          events = length (summary (past_of h)).opens + 0 - 1;
        })
        (record {
          handles = omega (arith, opens);
          timers = omega (arith, opens);
          timeouts = omega (arith, opens);
          events = omega (arith, opens);
          opens = omega arith;
        })
        (d.places (places_for (length (summary (past_of h)).opens) no_places) r.state);
    repository = omega (arith, r.repository, opens, d.seats);
    net = omega (arith, r.net, opens, d.net);
  }

  pub settled_event : (handler : H) → Stands m t old F h
      → IsSettling m.means t (past_of h) o answer note handler → SettlesRoom m old mid new
      → Tracks m t mid F (h ++ Returned o.event answer note ∷ []) (Some o.handle.0) []
      → is_live (summary (Returned o.event answer note ∷ past_of h)) o.handle.0 ≡ true
      → TakesBack m t F (h ++ Returned o.event answer note ∷ []) o.handle mid new
      → SettlesEvent m t F h o answer note new
  settled_event handler st s d k live b =
      record {
        entries = b.entries;
        closing = closing;
        stands =
            finish (is_alive (summary past1) o.handle.0) refl b.entries closing b.tracks b.journal;
      }
    where
      past : List (Entry N)
      past = past_of h

      e : Entry N
      e = Returned o.event answer note

      past1 : List (Entry N)
      past1 = e ∷ past_of h

      same : past_of (h ++ e ∷ []) ≡ past1
      same = past_of-more h e

      legal : is_legal t.most past1 ≡ true
      legal = subst (λ ps. is_legal t.most ps ≡ true) same k.legal

      closing : IsClosing (not (is_alive (summary past1) o.handle.0)) o.handle b.entries
      closing = subst (λ ps. IsClosing (not (is_alive (summary ps) o.handle.0)) o.handle b.entries)
          same b.closing

      but : IsSettledBut o.handle.0 (summary past1)
      but = settled_returned t.most past o.event answer note o legal s.event st.settled

      none_alive : (summary past1).ended ≡ true
          → list_any (λ (x : LiveHandle). x.alive) (summary past1).handles ≡ false
      none_alive q = alive_returned (summary past) o.event answer note (st.settled.none_alive q)

      opens : length (summary past1).opens + 1 ≤ length (summary past).opens
      opens = opens_returned (summary past) o.event answer note o s.event

      owes : owed (summary past1) + 5 ≤ owed (summary past)
      owes = owed_returned (summary past) o.event answer note o s.event

      finish : (alive : Bool) → is_alive (summary past1) o.handle.0 ≡ alive
          → (entries : List (Entry N)) → IsClosing (not alive) o.handle entries
          → Tracks m t new F ((h ++ e ∷ []) ++ entries) None []
          → mid.journal.spare ≤ new.journal.spare + length entries
          → StandsWithRoom m 4 act_places t new F ((h ++ e ∷ []) ++ entries)
      finish true q entries c kept journal =
          subst (λ es. StandsWithRoom m 4 act_places t new F ((h ++ e ∷ []) ++ es)) (sym c)
          (subst (λ hs. StandsWithRoom m 4 act_places t new F hs) (sym (append-nil (h ++ e ∷ [])))
          (record {
            tracks = subst (λ hs. Tracks m t new F hs None [])
                (ap (λ es. (h ++ e ∷ []) ++ es) c ∙ append-nil (h ++ e ∷ [])) kept;
            settled = subst (λ ps. IsSettled (summary ps)) (sym same)
                (settled_at_last o.handle.0 (summary past1) but
                (alive_waits_not t.most past1 o.handle.0 legal q) none_alive);
            room = subst (λ ps. HasRoom m 4 act_places new (summary ps)) (sym same)
                (room_left (summary past1) 1 opens (omega (arith, owes)) (omega arith)
                (let none : length entries ≡ 0 = ap length c in
                omega (arith, journal, none, d.journal)) d st.room);
          }))
      finish false q entries c kept journal =
          let es : entries ≡ Closed o.handle c.0 ∷ [] = c.1 in
          let last : past_of ((h ++ e ∷ []) ++ Closed o.handle c.0 ∷ [])
          ≡ Closed o.handle c.0 ∷ past1 = past_of-more (h ++ e ∷ []) (Closed o.handle c.0)
          ∙ ap (λ ps. Closed o.handle c.0 ∷ ps) same in
          let gone : owed (summary (Closed o.handle c.0 ∷ past1)) + 1 ≤ owed (summary past1) =
          owed_closed (summary past1) o.handle c.0 live in
          subst (λ es. StandsWithRoom m 4 act_places t new F ((h ++ e ∷ []) ++ es)) (sym es)
          (record {
            tracks = subst (λ es. Tracks m t new F ((h ++ e ∷ []) ++ es) None []) es kept;
            settled = subst (λ ps. IsSettled (summary ps)) (sym last)
                (settled_closed past1 o.handle c.0 but none_alive);
            room = subst (λ ps. HasRoom m 4 act_places new (summary ps)) (sym last)
                (room_left (summary (Closed o.handle c.0 ∷ past1)) 2 opens
                (omega (arith, owes, gone)) (omega arith) (let one : length entries ≡ 1 =
                ap length es in omega (arith, journal, one, d.journal)) d st.room);
          })

-- the handler in hand is closed if its handle is not alive any more
pub may_close : {H M Q W V N E : Type 0} (m : Meaning H M Q W V N E) (t : Terms)
    (core : Core H M Q W V N E) (F : ℕ) (h : List (Entry N)) (handle : Handle) (handler : H)
    (why : Why)
    → is_alive (summary (past_of h)) handle.0 ≡ false → MayTakeBack m handle handler why t core F h
    → MayClose m handle handler why t core F h
may_close m t core F h handle handler why dead o =
    record {
      tracks = o.tracks;
      closable =
          closable m.means t t.most (past_of h) handle.0 handler why o.tracks.legal o.back dead;
      number = o.number;
    }

-- the handler in hand went home, or was closed
pub took_home : {H M Q W V N E : Type 0} (m : Meaning H M Q W V N E) (t : Terms)
    (old new : Core H M Q W V N E) (F : ℕ) (h : List (Entry N)) (handle : Handle) (handler : H)
    (why : Why)
    → GivesBack old new handle.0 handler → is_alive (summary (past_of h)) handle.0 ≡ true
    → IsReturned m.means t (past_of h) handle.0 handler why
    → Tracks m t old F h (Some handle.0) [] → TakesBack m t F h handle old new
took_home {N = N} m t old new F h handle handler why d alive r k = record {
  entries = [];
  closing = subst (λ (b : Bool). IsClosing {N = N} (not b) handle []) (sym alive) refl;
  tracks = subst (λ hs. Tracks m t new F hs None []) (sym (append-nil h))
      (given_back m t old new F h handle.0 handler why d r k);
  journal = let same = ap (λ j. j.spare) d.journal in omega (arith, same);
}

pub took_closed : {H M Q W V N E : Type 0} (m : Meaning H M Q W V N E) (t : Terms)
    (old new : Core H M Q W V N E) (F : ℕ) (h : List (Entry N)) (handle : Handle) (note : N)
    → is_alive (summary (past_of h)) handle.0 ≡ false
    → Tracks m t new F (h ++ Closed handle note ∷ []) None []
    → old.journal.spare ≤ new.journal.spare + 1 → TakesBack m t F h handle old new
took_closed {N = N} m t old new F h handle note dead k journal = record {
  entries = Closed handle note ∷ [];
  closing = subst (λ (b : Bool). IsClosing {N = N} (not b) handle (Closed handle note ∷ []))
      (sym dead) (note, refl);
  tracks = k;
  journal = journal;
}
