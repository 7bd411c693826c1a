-- What a settled upcall leaves.
use Rattle.std.proofs.Common.{ℕ, ◌≡◌, ◌≤◌, ◌==◌, Bool, true, false, List, [], ◌∷◌, ◌++◌, refl, sym}
use Rattle.std.proofs.Common.{ap, ◌∙◌, subst, Some, None, ⊎_elim}
use Rattle.std.proofs.lemmas.Bool.{cases_Bool, and_parts, both_ways, eq-eqb}
use Rattle.reactor_summary.specs.ev_types.specs.declared.upcall.Answer.{Answer}
use Rattle.reactor_summary.specs.ev_types.specs.declared.upcall.Answer.TheVariants.{Keep, Again}
use Rattle.reactor_summary.specs.ev_types.specs.declared.upcall.Answer.TheVariants.{Close}
use Rattle.reactor_summary.specs.ev_types.specs.declared.upcall.Why.{Why}
use Rattle.reactor_summary.specs.ev_types.specs.declared.upcall.Why.TheVariants.{Own}
use Rattle.reactor_summary.specs.ev_types.specs.declared.upcall.Why.TheVariants.{
  Removed as ByRemoval,
}
use Rattle.ev_base.specs.Terms.{Terms}
use Rattle.reactor_model.specs.reactor_journal.specs.Event.{Item}
use Rattle.reactor_model.specs.reactor_journal.specs.declared.entry.Entry.{Entry}
use Rattle.reactor_model.specs.reactor_journal.specs.declared.entry.Entry.TheVariants.{Returned}
use Rattle.reactor_model.specs.reactor_journal.specs.Past as P
use Rattle.reactor_model.specs.reactor_journal.specs.Past.{past_of, had, origin_of, reason_of}
use Rattle.reactor_model.specs.reactor_journal.specs.Past.{event_at, belongs_to}
use Rattle.reactor_model.specs.reactor_journal.specs.Follow.{is_legal, may_follow, follows_due}
use Rattle.reactor_model.specs.reactor_journal.specs.Follow.{follows_ready}
use Rattle.reactor_model.specs.reactor_journal.proofs.Alive.{alive_not_removed, dead_was_removed}
use Rattle.reactor_summary.specs.declared.parts.OpenEvent.{OpenEvent}
use Rattle.reactor_summary.specs.Summary.{Summary, summary, step, is_alive, is_busy, open_event}
use Rattle.reactor_summary.proofs.Told.{told}
use Rattle.reactor_summary.proofs.Opened.{open_opened}
use Rattle.reactor_summary.proofs.Reading.{alive_is}
use Rattle.laws_turns.proofs.Turns.{ended_idle}
use Rattle.reactor_model.specs.Handling.{Handling, EndsInClose, IsClose}
use Rattle.reactor_state.specs.State.{HasNumber}
use Rattle.reactor_core.specs.Handlers.{is_live, RepositoryStands}
use Rattle.reactor_core.specs.Stands.{Meaning, Tracks, NetStands, VolumesStand}
use Rattle.reactor_core.specs.Settling.{why_of, IsSettling, IsReturned}
use Rattle.reactor_core.specs.Closing.{IsClosable}
use Rattle.reactor_core.specs.declared.reactor.Core.{Core}
use Rattle.reactor_core.proofs.Moves.{IsOpenAs, found_open, seats_given_back}
use Rattle.reactor_core.proofs.Dispatch.{seats_returned, open_is_live, had_returned, idle_behind}
use Rattle.reactor_core.proofs.Ends.{net_quiet}
use Rattle.reactor_core.proofs.Steps.{may_by, Appends, tracks_by}
use Rattle.reactor_core.proofs.Owed.{find_any}
use Rattle.reactor_core.proofs.Dispatch.{live_returned}
use Rattle.reactor_core.proofs.SettledHistory.{waits_now}
use Rattle.handler_repo.specs.Seats as R
use Rattle.handler_repo.specs.declared.seat.Seat.TheVariants.{Home}
use Rattle.reactor_core.proofs.WaitNumbers.{marks_kept}

not_from : (b : Bool) → (b ≡ true → ⊥) → b ≡ false
not_from b f = ⊎_elim (λ (t : b ≡ true). absurd (f t)) (λ (n : b ≡ false). n) (cases_Bool b)

-- ---- the entry

pub record Returns {H M Q W V N E : Type 0} (m : Meaning H M Q W V N E)
    (old new : Core H M Q W V N E) (event : ℕ) (answer : Answer) (note : N) : Type 0 where
  pub appends : Appends m old new (Returned event answer note)
  pub state : (s : Summary) → m.shows old.state s → HasNumber s
      → m.shows new.state (step s (Returned event answer note))
  pub repo : new.repo ≡ old.repo
  pub net : new.net ≡ old.net

pub may_return : {N : Type 0} (most : ℕ) (h : List (Entry N)) (event : ℕ) (answer : Answer)
    (note : N) (o : OpenEvent) → is_legal most (past_of h) ≡ true
    → open_event (summary (past_of h)) event ≡ Some o
    → may_follow most (past_of h) (Returned event answer note) ≡ true
may_return most h event answer note o legal found =
    may_by most h (Returned event answer note) (follows_due (past_of h)) (follows_ready (past_of h))
    legal refl refl
    (find_any (λ (a : OpenEvent). a.event == event) (summary (past_of h)).opens o found)

pub returned_on : {H M Q W V N E : Type 0} (m : Meaning H M Q W V N E) (t : Terms)
    (old new : Core H M Q W V N E) (F : ℕ) (h : List (Entry N)) (event : ℕ) (answer : Answer)
    (note : N) (o : OpenEvent)
    → Returns m old new event answer note → open_event (summary (past_of h)) event ≡ Some o
    → HasNumber (summary (past_of h)) → Tracks m t old F h None []
    → Tracks m t new F (h ++ Returned event answer note ∷ []) (Some o.handle.0) []
returned_on m t old new F h event answer note o d found number k =
    let past = past_of h in
    let e = Returned event answer note in
    tracks_by m t old new F h e None (Some o.handle.0) [] [] k d.appends
    (may_return t.most h event answer note o k.legal found)
    (d.state (summary past) k.state number)
    (subst (λ repo. RepositoryStands m.means t (e ∷ past) (Some o.handle.0) repo.entries)
    (sym d.repo) (seats_returned m.means t t.most past event answer note o old.repo.entries
    k.legal found k.repository))
    (subst (λ net. NetStands m.means t (e ∷ past) [] (m.facts net)) (sym d.net)
    (net_quiet m.means t e past [] (m.facts old.net) refl k.net))
    (subst (λ net. m.keeps t net) (sym d.net) k.keeps)

-- ---- the handler

ends_in_close : {N : Type 0} (items : List (Item N)) (item : Item N) → IsClose item.answer
    → EndsInClose (items ++ item ∷ [])
ends_in_close [] item c = c
ends_in_close (a ∷ []) item c = c
ends_in_close (a ∷ b ∷ items) item c = ends_in_close (b ∷ items) item c

reason_own : {N : Type 0} (past : List (Entry N)) (event : ℕ) (note : N) (x : ℕ)
    → P.was_removed past x ≡ false → belongs_to x (event_at past event) ≡ true
    → reason_of (Returned event Close note ∷ past) x ≡ Own
reason_own past event note x kept mine = rw (kept, P.ended_itself) (rw (mine, P.closes_itself) refl)

reason_removed : {N : Type 0} (e : Entry N) (past : List (Entry N)) (x : ℕ)
    → P.was_removed past x ≡ true → P.ended_itself past x ≡ false
    → reason_of (e ∷ past) x ≡ ByRemoval
reason_removed e past x gone other = rw (gone, P.ended_itself) (rw other refl)

alive_kept : {N : Type 0} (s : Summary) (event : ℕ) (note : N) (x : ℕ) (a : Answer)
    → is_alive s x ≡ true → is_alive (step s (Returned event a note)) x ≡ false → a ≡ Close
alive_kept s event note x Keep p q = absurd (both_ways _ q p)
alive_kept s event note x Again p q = absurd (both_ways _ q p)
alive_kept s event note x Close p q = refl

not_removed_own : ByRemoval ≡ Own → ⊥
not_removed_own q = cc

live_behind : {N : Type 0} (s : Summary) (event : ℕ) (answer : Answer) (note : N) (x : ℕ)
    → is_live s x ≡ true → is_live (step s (Returned event answer note)) x ≡ true
live_behind s event answer note x h = live_returned s event answer note x ∙ h

pub is_returned : {H E N : Type 0} (means : Handling H E N) (t : Terms) (most : ℕ)
    (past : List (Entry N)) (o : OpenEvent) (answer : Answer) (note : N) (handler : H)
    (alive : Bool)
    → is_legal most (Returned o.event answer note ∷ past) ≡ true
    → IsSettling means t past o answer note handler → is_alive (summary past) o.handle.0 ≡ alive
    → IsReturned means t (Returned o.event answer note ∷ past) o.handle.0 handler (why_of alive)
is_returned {N = N} means t most past o answer note handler alive legal s was =
    let before : is_legal most past ≡ true =
    (and_parts (may_follow most past (Returned o.event answer note)) (is_legal most past)
    legal).1 in
    let there : (is_live (summary past) o.handle.0 ≡ true)
    × (is_busy (summary past) o.handle.0 ≡ true) =
    open_is_live most past o.event o before s.event in
    record {
      live = live_behind (summary past) o.event answer note o.handle.0 there.0;
      idle = idle_behind most past o.event answer note o legal s.event;
      fits = subst (λ items. means.fits t (origin_of past o.handle.0) handler items) (sym turns)
          s.fits;
      dead = by_alive alive was;
    }
  where
    turns : had (Returned o.event answer note ∷ past) o.handle.0
        ≡ had past o.handle.0 ++ record {
          upcall = o.upcall;
          moment = o.moment;
          answer = answer;
          note = note;
        } ∷ []
    turns = had_returned most past o.event answer note o
        (and_parts (may_follow most past (Returned o.event answer note)) (is_legal most past)
        legal).1 s.event

    is_now : IsOpenAs past o
    is_now = (found_open most past o.event o
        (and_parts (may_follow most past (Returned o.event answer note)) (is_legal most past)
        legal).1 s.event).0

    mine : belongs_to o.handle.0 (event_at past o.event) ≡ true
    mine = ap (belongs_to o.handle.0) is_now.event ∙ eq-eqb o.handle.0 o.handle.0 refl

    at_p : (b : Bool) → is_alive (summary past) o.handle.0 ≡ b → P.is_alive past o.handle.0 ≡ b
    at_p b q = sym (alive_is most past (summary past) o.handle.0
        (and_parts (may_follow most past (Returned o.event answer note)) (is_legal most past)
        legal).1 (told most past (and_parts (may_follow most past (Returned o.event answer note))
        (is_legal most past) legal).1)) ∙ q

    by_alive : (b : Bool) → is_alive (summary past) o.handle.0 ≡ b
        → is_alive (summary (Returned o.event answer note ∷ past)) o.handle.0 ≡ false
        → (reason_of (Returned o.event answer note ∷ past) o.handle.0 ≡ why_of b)
        × (why_of b ≡ Own → EndsInClose (had (Returned o.event answer note ∷ past) o.handle.0))
    by_alive true q dead =
        let close : answer ≡ Close = alive_kept (summary past) o.event note o.handle.0 answer q dead
        in (
          subst (λ a. reason_of (Returned o.event a note ∷ past) o.handle.0 ≡ Own) (sym close)
              (reason_own past o.event note o.handle.0
              (alive_not_removed past o.handle.0 (at_p true q)) mine),
          λ _. subst EndsInClose (sym turns)
              (ends_in_close (had past o.handle.0) _ (subst IsClose (sym close) tt)),
        )
    by_alive false q dead =
        let opened : P.was_opened past o.handle.0 ≡ true =
        open_opened most past o.event o.handle.0
        (and_parts (may_follow most past (Returned o.event answer note)) (is_legal most past)
        legal).1 is_now.is_open mine in
        let gone : P.was_removed past o.handle.0 ≡ true =
        dead_was_removed past o.handle.0 opened (at_p false q) in
        let other : P.ended_itself past o.handle.0 ≡ false =
        not_from _ (λ k. ended_idle most past o.handle.0
        (and_parts (may_follow most past (Returned o.event answer note)) (is_legal most past)
        legal).1 k o.event is_now.is_open mine) in (
          reason_removed (Returned o.event answer note) past o.handle.0 gone other,
          λ k. absurd (not_removed_own k),
        )

pub closable : {H E N : Type 0} (means : Handling H E N) (t : Terms) (most : ℕ)
    (past : List (Entry N)) (x : ℕ) (handler : H) (why : Why) → is_legal most past ≡ true
    → IsReturned means t past x handler why → is_alive (summary past) x ≡ false
    → IsClosable means t past x handler why
closable means t most past x handler why legal r dead =
    let d : (reason_of past x ≡ why) × (why ≡ Own → EndsInClose (had past x)) = r.dead dead in
    record {
      live = r.live;
      waits = waits_now most past x legal r.live dead r.idle;
      reason = d.0;
      own = d.1;
      fits = r.fits;
    }

-- ---- the handler goes home

pub record GivesBack {H M Q W V N E : Type 0} (old new : Core H M Q W V N E) (x : ℕ)
    (handler : H) : Type 0 where
  pub most : new.most ≡ old.most
  pub first : new.first ≡ old.first
  pub journal : new.journal ≡ old.journal
  pub state : new.state ≡ old.state
  pub repo : new.repo.entries ≡ R.with_seat x (Home handler) old.repo.entries
  pub net : new.net ≡ old.net
  pub watch : new.watch ≡ old.watch
  pub volumes : new.volumes ≡ old.volumes
  pub marks : new.marks ≡ old.marks

pub given_back : {H M Q W V N E : Type 0} (m : Meaning H M Q W V N E) (t : Terms)
    (old new : Core H M Q W V N E) (F : ℕ) (h : List (Entry N)) (x : ℕ) (handler : H) (why : Why)
    → GivesBack old new x handler → IsReturned m.means t (past_of h) x handler why
    → Tracks m t old F h (Some x) [] → Tracks m t new F h None []
given_back m t old new F h x handler why d r k = record {
  most = d.most ∙ k.most;
  few = subst (λ (n : ℕ). n ≤ 4097) (sym d.most) k.few;
  legal = k.legal;
  journal = record {
    first = d.first ∙ k.journal.first;
    within = k.journal.within;
    entries = ap (λ j. j.entries) d.journal ∙ k.journal.entries;
  };
  state = subst (λ state. m.shows state (summary (past_of h))) (sym d.state) k.state;
  repository = subst (λ entries. RepositoryStands m.means t (past_of h) None entries) (sym d.repo)
      (seats_given_back m.means t (past_of h) x handler old.repo.entries r.idle r.fits
      k.repository);
  net = subst (λ net. NetStands m.means t (past_of h) [] (m.facts net)) (sym d.net) k.net;
  keeps = subst (λ net. m.keeps t net) (sym d.net) k.keeps;
  watch = subst (λ w. m.watched t w h) (sym d.watch) k.watch;
  volumes = subst (λ v. VolumesStand t F h (m.volumes v)) (sym d.volumes) k.volumes;
  marks = marks_kept (past_of h) old.marks new.marks (m.facts old.net).calls (m.facts new.net).calls
      d.marks (ap (λ net. (m.facts net).calls) d.net) k.marks;
}
