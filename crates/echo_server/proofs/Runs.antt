-- How a run begins, and what it leaves of the ends of its connections.
use Rattle.std.proofs.Common.{ℕ, ◌≡◌, ◌<◌, ◌≤◌, ◌∙◌, inl, inr, ⊎_elim, Bool, true, false, List, []}
use Rattle.std.proofs.Common.{◌∷◌}
use Rattle.std.proofs.Common.{filter, refl, sym, ap, subst, arith, cond, Option, Some, None}
use Rattle.std.specs.Prelude.{Result, IfOk, Ok, Err, if◌then◌else◌, option_map, slice_index}
use Rattle.std.specs.List.{AllByRecursion}
use mathlib.Core.Logic.{dite}
use native.Mathlib.Decide.{dec_le}
use Rattle.std.proofs.lemmas.Bool.{false≢true}
use Rattle.reactor.specs.ev_types.specs.declared.upcall.Handle.{Handle}
use Rattle.reactor.specs.ev_base.specs.End.{EndFacts}
use Rattle.reactor.specs.ev_base.specs.Net.{NetFacts, IsNew}
use Rattle.reactor.specs.ev_base.specs.Terms.{Terms}
use Rattle.reactor.specs.ev_base.specs.declared.end.PeerEnd.{Ghosts}
use Rattle.reactor.specs.timer_queue.specs.declared.timer.Timer.{Timer}
use Rattle.reactor.specs.ev_types.specs.declared.upcall.Why.{Why}
use Rattle.reactor.specs.reactor_journal.specs.Event.{Item}
use Rattle.reactor.specs.reactor_journal.specs.declared.entry.Entry.{Entry}
use Rattle.reactor.specs.reactor_journal.specs.declared.entry.Entry.TheVariants.{Opened}
use Rattle.reactor.specs.reactor_model.specs.Volumes.{tells_nothing}
use Rattle.reactor.specs.reactor_journal.specs.Follow.{is_legal}
use Rattle.reactor.specs.reactor_journal.specs.Past.{past_of, is_open, event_at}
use Rattle.reactor.specs.reactor_summary.specs.Summary.{summary}
use Rattle.reactor.specs.reactor_summary.specs.Tells.{Each, as_open, open_event}
use Rattle.reactor.specs.reactor_summary.specs.declared.parts.OpenEvent.{OpenEvent}
use Rattle.reactor.specs.reactor_summary.proofs.Told.{told}
use Rattle.reactor.specs.laws_turns.specs.Opens.{open_events, opens_of}
use Rattle.reactor.specs.laws_turns.proofs.Opens.{opens_are}
use Rattle.reactor.specs.leader_token.specs.Lists.{is_event}
use Rattle.reactor.specs.list_lemmas.specs.Times.{times}
use Rattle.reactor.specs.leader_token.specs.declared.kept.View.{View}
use Rattle.reactor.specs.notify_ring.specs.declared.view.View.{View as RingView}
use Rattle.reactor.specs.reactor_desk.specs.declared.terms.DeskTerms.{DeskTerms}
use Rattle.reactor.specs.reactor_desk.specs.Desks.{capped, core_marks}
use Rattle.reactor.specs.tp_reactor.specs.Ends.{IsClosed, IsRoot, MayShare}
use Rattle.reactor.specs.tp_reactor.specs.Led.{over_mark, volumes_mark, waits_mark, watch_mark}
use Rattle.reactor.specs.tp_reactor.specs.Pool.{HasClosed, RanTells, known_postings}
use Rattle.reactor.specs.notify_ring.specs.Passes.{root_poster}
use Rattle.reactor.specs.notify_ring.specs.Words.{drainer_view}
use Rattle.reactor.specs.reactor_desk.specs.Notices.{AreRecorded}
use Rattle.reactor.specs.reactor_model.specs.Entries.{is_notice}
use Rattle.reactor.specs.tp_reactor.proofs.Merged.{none_drained}
use Rattle.reactor.specs.tp_reactor.specs.declared.working.Ran.{Ran}
use Rattle.reactor.specs.tp_reactor.specs.declared.working.Ran.TheVariants as ran
use Rattle.reactor.specs.reactor_core.specs.Views.{net_of, over_of, volumes_of, watch_of}
use Rattle.reactor.specs.ev_base.specs.Counts.{Rose}
use Rattle.reactor.specs.reactor_core.specs.Beginning.{CanBegin}
use Rattle.reactor.specs.reactor_core.specs.Ends.{ThereIs, RetiredBy, AreRetired, closing}
use Rattle.reactor.specs.reactor_core.specs.Offering.{RegisterGives}
use Rattle.reactor.specs.reactor_core.specs.Stands.{Meaning, Stands}
use Rattle.reactor.specs.reactor_core.specs.Upcalls.{HasNoPick}
use Rattle.reactor.specs.reactor_core.specs.declared.reactor.Core.{Core}
use Rattle.reactor.specs.reactor_core.specs.declared.registering.RegisterRefused.{RegisterRefused}
use Rattle.reactor.specs.reactor_core.specs.declared.registering.RegisterRefused.TheVariants
    as register
use Rattle.reactor.specs.core_loop.specs.Idle.{IsIdle}
use Rattle.echo_server.specs.Echo.{EndedSo, WentBack}
use Rattle.echo_server.specs.Handlers.{HandlerGone, handlers, read_alone}
use Rattle.echo_server.specs.Runs.{AreEchoed, HasCause, IsOpened, IsServed, IsUnposted}
use Rattle.reactor.specs.reactor_core.specs.Refusals.{MayRefuseFirst}
use Rattle.echo_server.specs.Runs.{PoolEnds}
use Rattle.echo_server.specs.Runs.{first_entry, most_handlers, echo_refusal, run_terms}
use Rattle.echo_server.specs.declared.note.EchoNote.{EchoNote}
use Rattle.echo_server.specs.declared.opening.OpenRefused.{OpenRefused}
use Rattle.echo_server.specs.declared.note.Ending.{Ending}
use Rattle.echo_server.specs.declared.note.Ending.TheVariants as end

-- ---- open events

-- an event that is not open has no entry among the open ones
not_open : {N : Type 0} (past : List (Entry N)) (i : ℕ) (b : Bool) (o : OpenEvent) → b ≡ false
    → (if b then option_map (as_open past i) (event_at past i) else None) ≡ Some o → ⊥
not_open past i true o is found = cc
not_open past i false o is found = cc

closed_is : (b : Bool) → ◌≡◌ {A = ℕ} (cond b 1 0) 0 → b ≡ false
closed_is true is = absurd (omega (arith, is))
closed_is false is = refl

none_of : {N : Type 0} (past : List (Entry N)) (opens : List OpenEvent)
    → ((i : ℕ) → is_open past i ≡ false)
    → Each (λ (o : OpenEvent). open_event past o.event ≡ Some o) opens → opens ≡ []
none_of past [] closed each = refl
none_of past (o ∷ opens) closed each =
    absurd (not_open past o.event (is_open past o.event) o (closed o.event) each.0)

pub none_open : {N : Type 0} (most : ℕ) (past : List (Entry N)) → is_legal most past ≡ true
    → ((e : ℕ) → times e (open_events past) ≡ 0) → (summary past).opens ≡ []
none_open most past legal closed =
    none_of past (summary past).opens (λ i.
    closed_is (is_open past i) (sym (opens_are most past i legal) ∙ closed i))
    (told most past legal).opens

-- ---- counts

rose_above : (before v w now : ℕ) → v ≡ capped before → Rose v w → w ≤ capped now → Rose before now
rose_above before v w now was rose above = omega (arith, was, rose, above)

-- ---- notifications

none_is : {A : Type 0} {a : A} {X : Type 0} → None ≡ Some a → X
none_is q = cc

-- a root that was asked for no notice knows of no posting
pub none_known : {N : Type 0} (list : List (Entry N)) (p s : RingView) → p ≡ root_poster
    → (known_postings p < known_postings s → HasClosed None list) → known_postings s ≤ 0
none_known list p s was posts = dite (dec_le (known_postings s) 0)
    (λ le. le)
    (λ more. none_is (posts (omega (arith, more, ap known_postings was))).asked)

-- ---- the beginning

pub begins : {E : Type 0} (idle : ℕ) (net : NetFacts E) (keeps : Type 0) (timers : List Timer)
    → IsNew net → keeps → timers ≡ []
    → CanBegin {N = EchoNote} net keeps timers (Unit {0}) tells_nothing (run_terms idle)
    most_handlers
begins idle net keeps timers new keeping none = record {
  terms = refl;
  fresh = new;
  steady = λ q. none_is q;
  keeps = keeping;
  no_timers = none;
  seen = tt;
  taken = tt;
}

is_first : {N : Type 0} (h : Handle) → h.0 ≡ 0
    → ◌≡◌ {A = List (Entry N)} (Opened h read_alone ∷ []) (first_entry ∷ [])
is_first {N} h is = ap entry_at is
  where
    entry_at : ℕ → List (Entry N)
    entry_at n = Opened (record { 0 = n }) read_alone ∷ []

module _ {H M Q W V N E : Type 0} (m : Meaning H M Q W V N E) where
  pub idle_at : (idle : ℕ) (core : Core H M Q W V N E) → Stands m (run_terms idle) core 0 []
      → IsIdle m core
  idle_at idle core stands = record {
    terms = run_terms idle;
    limit = refl;
    first = 0;
    history = [];
    stands = stands;
    none_open = refl;
  }

  pub idle_opened : (idle : ℕ) (core : Core H M Q W V N E) → IsOpened m idle core → IsIdle m core
  idle_opened idle core stands = record {
    terms = run_terms idle;
    limit = refl;
    first = 0;
    history = first_entry ∷ [];
    stands = stands;
    none_open = refl;
  }

  pub opened : (idle : ℕ) (old new : Core H M Q W V N E) (handle : Handle)
      → RegisterGives m (run_terms idle) 0 [] read_alone None old (Ok handle) new
      → IsOpened m idle new
  opened idle old new handle g = subst (λ (h : List (Entry N)). Stands m (run_terms idle) new 0 h)
      (is_first handle g.1) g.2

  -- the idle time that was asked for is that of the acceptor
  pub opened_at : {X : Type 0} (result : Result (Core H M Q W V N E) X) (given asked : ℕ)
      → given ≡ asked → IfOk result (λ core. IsOpened m given core)
      → IfOk result (λ core. IsOpened m asked core)
  opened_at result given asked same opened =
      subst (λ (n : ℕ). IfOk result (λ core. IsOpened m n core)) same opened

  -- the handler came back
  pub refused_for : (idle : ℕ) (old new : Core H M Q W V N E) (back : H) (refused : RegisterRefused)
      → RegisterGives m (run_terms idle) 0 [] read_alone None old (Err (back, refused)) new →
      MayRefuseFirst refused × Stands m (run_terms idle) new 0 []
      × HasCause (echo_refusal refused) (m.facts old.net).failed_attaches
      (m.facts new.net).failed_attaches
  refused_for idle old new back register.Stopped g = absurd (false≢true g.0)
  refused_for idle old new back (register.Full live now) g =
      absurd (⊎_elim (λ q. no_most q) (λ q. no_more q) g.1)
    where
      no_most : ◌≡◌ {A = ℕ} 0 1001 → ⊥
      no_most q = omega (arith, q)

      no_more : ◌≡◌ {A = ℕ} 0 4294967295 → ⊥
      no_more q = omega (arith, q)
  refused_for idle old new back register.NoMemory g = (tt, g.1.stands, tt)
  refused_for idle old new back register.NetFailed g = (tt, g.2.stands, g.1)

  -- it may be shared by a pool
  pub may_share : (idle : ℕ) (core : Core H M Q W V N E) → IsOpened m idle core
      → MayShare m (run_terms idle) (first_entry ∷ []) core
  may_share idle core stands = record {
    first = 0;
    stands = stands;
    filled = λ some. absurd (omega (arith, some));
    closed = refl;
    unposted = refl;
    by_turn = λ b q. none_is q;
  }

  -- nothing is open once a pool gave it back
  abbrev pub idle_closed : (time : ℕ) (core : Core H M Q W V N E) (v : View (Entry N) DeskTerms)
      (s : RingView) → IsClosed m v s core → v.mine ≡ None → v.terms.run ≡ run_terms time
      → IsIdle m core
  idle_closed time core v s closed idle run =
      let none : (e : ℕ) → times e (opens_of v.seen) ≡ 0 =
      λ e. closed.events e ∙ ap (is_event e) idle in
      record {
        terms = v.terms.run;
        limit = ap (λ (t : Terms). t.limit) run;
        first = closed.first;
        history = v.seen;
        stands = closed.stands.core;
        none_open = none_open v.terms.run.most (past_of v.seen) closed.stands.core.tracks.legal
            none;
      }

  -- the marks of the root tell what the answer comes from
  pub pool_ends : (time : ℕ) (old core : Core H M Q W V N E) (v w : View (Entry N) DeskTerms)
      (s : RingView) (list : List (Entry N)) (r : Ran)
      → IsRoot (run_terms time) list (core_marks m old) v
      → RanTells v r w → (r ≡ ran.Over → HasNoPick (past_of w.seen))
      → (closed : IsClosed m w s core)
      → w.mine ≡ None → w.terms.run ≡ run_terms time → PoolEnds m old r core
  pool_ends time old core v w s list ran.NetFault root told rests closed idle run =
      let above : waits_mark w ≤ capped (m.facts (net_of core)).failed_waits = closed.above 1 in
      let before : waits_mark v ≡ capped (m.facts (net_of old)).failed_waits =
      ap (λ marks. slice_index marks 1) root.marks_are in
      rose_above _ _ _ _ before told above
  pool_ends time old core v w s list ran.VolumeFault root told rests closed idle run =
      let above : volumes_mark w ≤ capped (m.volumes (volumes_of core)).faults = closed.above 3 in
      let before : volumes_mark v ≡ capped (m.volumes (volumes_of old)).faults =
      ap (λ marks. slice_index marks 3) root.marks_are in
      rose_above _ _ _ _ before told above
  pool_ends time old core v w s list ran.Broken root told rests closed idle run =
      let above : watch_mark w ≤ m.faults (watch_of core) = closed.above 0 in
      let rose : Rose 0 (watch_mark w) = told 0 (ap (λ (t : Terms). t.output_faults) root.run) in
      omega (arith, above, rose)
  pool_ends time old core v w s list ran.Over root told rests closed idle run =
      let above : over_mark w ≤ over_of core = closed.above 4 in
      let marks = closed.stands.core.tracks.marks in (
        idle_closed time core w s closed idle run,
        omega (arith, above, told, marks.within, marks.made),
        rests refl,
      )
  pool_ends time old core v w s list ran.Stopped root told rests closed idle run =
      (idle_closed time core w s closed idle run, told)
  pool_ends time old core v w s list ran.NoMemory root told rests closed idle run = tt

  -- none was drained yet
  pub unposted_opened : (idle : ℕ) (core back : Core H M Q W V N E) → back ≡ core
      → IsOpened m idle core → IsUnposted m back
  unposted_opened idle core back same stands = subst (IsUnposted m) (sym same)
      (run_terms idle, 0, first_entry ∷ [], stands, refl)

  -- if the root knows of no posting, none was drained
  pub none_recorded : (core : Core H M Q W V N E) (v : View (Entry N) DeskTerms) (s : RingView)
      → IsClosed m v s core → known_postings s ≤ 0 → IsUnposted m core
  none_recorded core v s closed none = (
    v.terms.run,
    closed.first,
    v.seen,
    closed.stands.core,
    unrecorded (filter is_notice v.seen) (subst (AreRecorded (filter is_notice v.seen))
        (none_drained s (drainer_view closed.drainer) closed.posted closed.merged none)
        closed.stands.recorded),
  )
    where
      unrecorded : (es : List (Entry N)) → AreRecorded es [] → es ≡ []
      unrecorded [] r = refl
      unrecorded (e ∷ es) r = absurd r

pub caused : (told refused : OpenRefused) (before between now : ℕ) → told ≡ refused → now ≡ between
    → HasCause refused before between → HasCause told before now
caused told refused before between now is same cause =
    subst (λ (o : OpenRefused). HasCause o before now) (sym is)
    (subst (λ (n : ℕ). HasCause refused before n) (sym same) cause)

-- ---- the end

none_left : (ended : Option Ending) (waiting : List ℕ) (e : EndFacts) → EndedSo ended waiting e
    → e.over ≡ true → waiting ≡ []
none_left None waiting e so over = absurd (false≢true (sym so ∙ over))
none_left (Some end.End) waiting e so over = so.1
none_left (Some end.Failed) waiting e so over = absurd (false≢true (sym so.0 ∙ over))
none_left (Some end.Idle) waiting e so over = absurd (false≢true (sym so ∙ over))
none_left (Some end.Stopped) waiting e so over = absurd so
none_left (Some end.Refused) waiting e so over = absurd so

served : {E : Type 0} (tells : E → EndFacts) (keeps : Terms → E → Type 0) (t : Terms) (end : E)
    (had : List (Item EchoNote)) (why : Why) (said : EchoNote) (handle : ℕ)
    → HandlerGone tells keeps t end had why said → IsServed tells (handle, end)
served tells keeps t end had why said handle gone = ⊎_elim
    (λ l. inl l.listener)
    (λ g. inr (record {
      waiting = g.last.waiting;
      went = subst (λ (e : EndFacts). WentBack g.last.waiting e) g.facts g.echoes.went;
      all = λ over. none_left g.last.ended g.last.waiting (tells end)
          (subst (λ (e : EndFacts). EndedSo g.last.ended g.last.waiting e) g.facts g.echoes.ended)
          over;
    }))
    gone

module _ {E : Type 0} (G : Ghosts E) (tells : E → EndFacts) (keeps : Terms → E → Type 0) where
  retired_served : (t : Terms) (past : List (Entry EchoNote)) (ends : List (ℕ × E))
      → AreRetired (handlers {E = E} {G = G} tells keeps) t past ends
      → AllByRecursion (IsServed tells) ends
  retired_served t [] ends are = subst (AllByRecursion (IsServed tells)) (sym are) tt
  retired_served t (e ∷ past) ends are =
      by (closing e) ends (λ rest. retired_served t past rest) are
    where
      by : (c : Option (ℕ × EchoNote)) (ends : List (ℕ × E))
          → ((rest : List (ℕ × E)) → AreRetired (handlers {E = E} {G = G} tells keeps) t past rest
          → AllByRecursion (IsServed tells) rest) →
          RetiredBy (handlers {E = E} {G = G} tells keeps) t c past ends
          (λ rest. AreRetired (handlers {E = E} {G = G} tells keeps) t past rest)
          → AllByRecursion (IsServed tells) ends
      by None ends more are = more ends are
      by (Some c) [] more are = absurd are
      by (Some c) (r ∷ ends) more are = (
        served tells keeps t r.1 _ _ c.1 r.0 are.0.1,
        more ends are.1,
      )

  pub are_echoed : (t : Terms) (past : List (Entry EchoNote)) (told : Option (List (ℕ × E)))
      → ThereIs (λ ends. AreRetired (handlers {E = E} {G = G} tells keeps) t past ends) told
      → AreEchoed tells told
  are_echoed t past None there = tt
  are_echoed t past (Some ends) there =
      subst (AllByRecursion (IsServed tells)) (sym there.2) (retired_served t past there.0 there.1)
