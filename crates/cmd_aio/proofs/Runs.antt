-- How a run begins, and what it leaves.
use Rattle.std.proofs.Common.{ℕ, zero, suc, ◌≡◌, ◌≤◌, inl, inr, ⊎_elim, Bool, true, false}
use Rattle.std.proofs.Common.{List, [], ◌∷◌, ◌++◌, refl, sym, ap, ◌∙◌, subst, arith}
use Rattle.std.proofs.Common.{Option, Some, None}
use Rattle.std.specs.Prelude.{Ok, Err, if◌then◌else◌}
use Rattle.std.specs.Option.{option_to_list}
use Rattle.std.proofs.lemmas.Bool.{and_from, false≢true}
use Rattle.ev_base.specs.Counts.{Rose}
use Rattle.ev_base.specs.End.{EndFacts}
use Rattle.ev_base.specs.Host.{LeavesHostOpen}
use Rattle.ev_base.specs.Net.{HasNone, IsNew, NetFacts}
use Rattle.ev_base.specs.Sink.{SinkFacts}
use Rattle.ev_base.specs.ev_types.specs.declared.upcall.Handle.{Handle}
use Rattle.ev_base.specs.ev_types.specs.declared.upcall.Mask.{Mask}
use Rattle.ev_base.specs.ev_types.specs.declared.upcall.Upcall.{Upcall}
use Rattle.ev_base.specs.ev_types.specs.declared.upcall.Upcall.TheVariants.{Input, Output, Except}
use Rattle.ev_base.specs.ev_types.specs.declared.upcall.Upcall.TheVariants.{Timeout, Notice}
use Rattle.timer_queue.specs.declared.timer.Timer.{Timer}
use Rattle.reactor_model.specs.Handling.{Installing, Stopping}
use Rattle.reactor_model.specs.Volumes.{tells_nothing}
use Rattle.reactor_model.specs.reactor_journal.specs.Follow.{Legal}
use Rattle.reactor_model.specs.reactor_journal.specs.Past.{all_below, count, opened}
use Rattle.reactor_model.specs.reactor_journal.specs.Past.{past_of, was_closed}
use Rattle.reactor_model.specs.reactor_journal.specs.declared.entry.Entry.{Entry}
use Rattle.reactor_model.specs.reactor_journal.specs.declared.entry.Entry.TheVariants as entry
use Rattle.reactor_model.specs.reactor_journal.proofs.Turning.{count-append, count-past}
use Rattle.reactor_core.specs.Acting.{StopAppends}
use Rattle.reactor_core.specs.Beginning.{CanBegin, IsShutDown}
use Rattle.reactor_core.specs.Calls.{AreCalls}
use Rattle.reactor_core.specs.Ends.{WhereTold}
use Rattle.reactor_core.specs.Marks.{IsOverAt, answers, is_polled}
use Rattle.reactor_core.specs.Offering.{RegisterGives}
use Rattle.reactor_core.specs.Stands.{Meaning, NetStands, Stands}
use Rattle.reactor_core.specs.Views.{net_of, over_of, volumes_of, watch_of}
use Rattle.reactor_core.specs.declared.reactor.Core.{Core}
use Rattle.reactor_core.specs.declared.registering.RegisterRefused.{RegisterRefused}
use Rattle.reactor_core.specs.declared.registering.RegisterRefused.TheVariants as register
use Rattle.reactor_core.specs.reactor_summary.specs.Tells.{listed, live_handle}
use Rattle.reactor_core.specs.reactor_summary.specs.declared.parts.LiveHandle.{LiveHandle}
use Rattle.reactor_core.specs.reactor_summary.proofs.Told.{told}
use Rattle.core_loop.specs.Idle.{EndsSo as LoopEndsSo, IsIdle}
use Rattle.core_loop.specs.Leading.{EndedSo, GoesOn, IsWait, NoneOpen, RunsSo, closed_of}
use Rattle.core_loop.specs.declared.turns.RunEnd.{RunEnd}
use Rattle.core_loop.specs.declared.turns.RunEnd.TheVariants as loop
use Rattle.core_loop.proofs.Keeping.{sum}
use Rattle.core_loop.proofs.Leading.{enough_of}
use Rattle.aio_lines.specs.Lines.{journal_lines}
use Rattle.proactor.specs.Ends.{mask_by}
use Rattle.proactor.specs.Services.{ServiceMay}
use Rattle.proactor.specs.declared.service.AioNote.{AioNote}
use Rattle.cmd_aio.specs.Finishing.{Finishes, MayEnd, TookLines, end_by, named}
use Rattle.cmd_aio.specs.Leaving.{AskedWithoutLimit, LeavesServed, OutputTook, RunsWhereGiven}
use Rattle.cmd_aio.specs.Runs.{EndsRun, EndsSo, GoesByTurns, IsWhole}
use Rattle.cmd_aio.specs.Starting.{IsOpened, aio_refusal, aio_terms, first_entry, terms_bound}
use Rattle.reactor_core.specs.Refusals.{MayRefuseFirst}
use Rattle.reactor_core.specs.Removing.{alive_handles}
use Rattle.reactor_core.specs.reactor_summary.specs.Summary.{is_busy}
use Rattle.cmd_aio.specs.declared.ending.AioEnd.{AioEnd}
use Rattle.cmd_aio.specs.declared.ending.AioEnd.TheVariants as end
use Rattle.cmd_aio.specs.declared.ending.Ran.{Ran}
use Rattle.cmd_aio.specs.declared.top.AioServed.{AioServed}
use Rattle.aio_words.specs.declared.words.AioWords.{AioWords}
use Rattle.cmd_aio.specs.Statuses.{RunsCommand}
use Rattle.cmd_aio.proofs.Lines.{took_nothing}
use Rattle.cmd_aio.proofs.Unstopped.{IsNotice, IsPlain}
use Rattle.cmd_aio.proofs.Waits.{asked_if_told, sets_none}

-- ---- the beginning

some_is : {A : Type 0} {a : A} → Some a ≡ None → ⊥
some_is q = cc

none_is : {A : Type 0} {a : A} {X : Type 0} → None ≡ Some a → X
none_is q = cc

pub open_terms_are : (bound : Option (Option ℕ)) (o : SinkFacts)
    → LeavesHostOpen (terms_bound bound o)
open_terms_are bound o = record { offers = refl; stories = refl; groups = refl; steady = refl }

pub begins : {E : Type 0} (bound : Option (Option ℕ)) (o : SinkFacts) (net : NetFacts E)
    (keeps : Type 0) (timers : List Timer) (seen : Type 0) → IsNew net → keeps → timers ≡ []
    → seen
    → CanBegin {N = AioNote} net keeps timers seen tells_nothing (terms_bound bound o) 1001
begins bound o net keeps timers seen new keeping none saw = record {
  terms = refl;
  fresh = new;
  steady = λ q. none_is q;
  keeps = keeping;
  no_timers = none;
  seen = saw;
  taken = tt;
}

first_is : (h : Handle) → h.0 ≡ 0
    → ◌≡◌ {A = List (Entry AioNote)} (entry.Opened h (mask_by false) ∷ []) (first_entry ∷ [])
first_is h is = ap entry_at is
  where
    entry_at : ℕ → List (Entry AioNote)
    entry_at n = entry.Opened (record { 0 = n }) (mask_by false) ∷ []

-- why the handler came back
abbrev pub RefusedSo : AioEnd → ℕ → ℕ → Type 0
RefusedSo end.NetFault before now = Rose before now
RefusedSo end.NoMemory before now = Unit {0}
RefusedSo end.Done before now = ⊥
RefusedSo end.WriteFault before now = ⊥
RefusedSo end.ListenFault before now = ⊥

module _ {H M Q W V E : Type 0} (m : Meaning H M Q W V AioNote E) (o : SinkFacts) where
  pub idle_at : (core : Core H M Q W V AioNote E) (h : List (Entry AioNote))
      → Stands m (terms_bound None o) core 0 h → NoneOpen h → IsIdle m core
  idle_at core h stands none = record {
    terms = terms_bound None o;
    limit = refl;
    first = 0;
    history = h;
    stands = stands;
    none_open = none;
  }

  pub opens : (old new : Core H M Q W V AioNote E) (handle : Handle)
      → ((bound : Option (Option ℕ))
      → RegisterGives m (terms_bound bound o) 0 [] (mask_by false) None old (Ok handle) new)
      → IsOpened m o new
  opens old new handle g = λ bound.
      subst (λ (h : List (Entry AioNote)). Stands m (terms_bound bound o) new 0 h)
      (first_is handle (g bound).1) (g bound).2

  pub refused_for : (bound : Option (Option ℕ)) (old new : Core H M Q W V AioNote E) (back : H)
      (refused : RegisterRefused)
      → RegisterGives m (terms_bound bound o) 0 [] (mask_by false) None old
      (Err (back, refused)) new
      → MayRefuseFirst refused × Stands m (terms_bound bound o) new 0 []
      × RefusedSo (aio_refusal refused) (m.facts (net_of old)).failed_attaches
      (m.facts (net_of new)).failed_attaches
  refused_for bound old new back register.Stopped g = absurd (false≢true g.0)
  refused_for bound old new back (register.Full live now) g =
      absurd (⊎_elim (λ q. no_most q) (λ q. no_more q) g.1)
    where
      no_most : ◌≡◌ {A = ℕ} 0 1001 → ⊥
      no_most q = omega (arith, q)

      no_more : ◌≡◌ {A = ℕ} 0 4294967295 → ⊥
      no_more q = omega (arith, q)
  refused_for bound old new back register.NoMemory g = (tt, g.1.stands, tt)
  refused_for bound old new back register.NetFailed g = (tt, g.2.stands, g.1)

pub told_refused : (how told : AioEnd) (before now : ℕ) → how ≡ told → RefusedSo told before now
    → RefusedSo how before now
told_refused how told before now is so =
    subst (λ (e : AioEnd). RefusedSo e before now) (sym is) so

-- ---- a new net, over which there was no memory for a reactor

told_none : {A : Type 0} (P : List A → Type 0) (told : Option (List A)) → P [] → HasNone told
    → WhereTold P told
told_none P None p none = tt
told_none P (Some list) p none = subst P (sym none) p

module _ {H M Q W V E : Type 0} (m : Meaning H M Q W V AioNote E) (o : SinkFacts) where
  pub new_stands : (net : NetFacts E) → IsNew net
      → NetStands {N = AioNote} m.means (aio_terms o) [] [] net
  new_stands net new = record {
    retired = ([], refl, told_none (λ ends. ends ≡ []) net.retired refl new.retired);
    turned_away = ([], refl, told_none (λ ends. ends ≡ []) net.turned_away refl new.turned_away);
    attached = new.attached;
    masks = told_none (λ masks. masks ≡ []) net.masks refl new.masks;
    faults = omega arith;
    steady = λ asked. none_is asked;
    calls = told_none (AreCalls {N = AioNote} m.means (aio_terms o) [] []) net.calls refl
        new.calls;
    moment = omega arith;
  }

-- what is left of it
module _ {H M Q W V K E : Type 0} (m : Meaning H M Q W V AioNote E) (tells : E → EndFacts)
    (sink : K → SinkFacts) (output : K) (net : M) (ran : Ran M K) where
  pub leaves_unmade : IsNew (m.facts net) → m.keeps (aio_terms (sink output)) net
      → ran.end ≡ end.NoMemory → ran.net ≡ Some net → ran.journal.entries ≡ []
      → ran.output ≡ output → (until : Option ℕ)
      → LeavesServed m tells sink (sink output) until ran
  leaves_unmade new kept how is_net none same until =
      let o : SinkFacts = sink output in
      let run : RunsWhereGiven m tells o until ran.net 0 ran.end [] =
      subst (λ (n : Option M). RunsWhereGiven m tells o until n 0 ran.end []) (sym is_net)
      (record {
        run = inl (record { ending = how; none = refl });
        stands = new_stands m o (m.facts net) new;
        keeps = kept;
        says = record {
          closed = told_none _ (m.facts net).retired tt new.retired;
          refused = told_none _ (m.facts net).turned_away tt new.turned_away;
        };
        unlimited = told_none AskedWithoutLimit (m.facts net).calls tt new.calls;
      }) in
      let lines : OutputTook ran.end o [] (sink ran.output) =
      subst (λ (e : AioEnd). OutputTook e o [] (sink ran.output)) (sym how)
      (took_nothing o (sink ran.output) (ap sink same)) in
      record {
        leaves = record {
          journal = [];
          first = 0;
          within = omega arith;
          held = none;
          run = run;
          lines = lines;
        };
        given = λ q. some_is (sym is_net ∙ q);
        listened = λ q. no_memory_is (sym how ∙ q);
      }
    where
      no_memory_is : end.NoMemory ≡ end.ListenFault → ⊥
      no_memory_is q = cc

-- ---- a journal that is over is whole

front_none : {A : Type 0} (xs ys : List A) → xs ++ ys ≡ [] → xs ≡ []
front_none [] ys q = refl
front_none (x ∷ xs) ys q = cc

last_none : {A : Type 0} (xs ys : List A) → xs ++ ys ≡ [] → ys ≡ []
last_none [] ys q = q
last_none (x ∷ xs) ys q = absurd cc

closed_by : (b : Bool) (live : LiveHandle) → option_to_list (if b then None else Some live) ≡ []
    → b ≡ true
closed_by true live q = refl
closed_by false live q = absurd cc

all_closed : {N : Type 0} (past : List (Entry N)) (n : ℕ) → listed (live_handle past) n ≡ []
    → all_below n (was_closed past) ≡ true
all_closed past zero q = refl
all_closed past (suc n) q =
    and_from (was_closed past n) (all_below n (was_closed past))
    (closed_by (was_closed past n) _ (last_none (listed (live_handle past) n)
    (option_to_list (live_handle past n)) q))
    (all_closed past n (front_none (listed (live_handle past) n)
    (option_to_list (live_handle past n)) q))

pub whole_of_over : {N : Type 0} (most : ℕ) (journal : List (Entry N)) → Legal journal most
    → IsShutDown (sum journal) → IsWhole most journal
whole_of_over most journal legal over =
    let tells = told most (past_of journal) legal in
    record {
      legal = legal;
      stopped = sym tells.ended ∙ over.ended;
      closed = all_closed (past_of journal) (opened (past_of journal))
          (sym tells.handles ∙ over.none_live);
    }

-- ---- how a run ends

-- with a failed write the watch is broken
abbrev pub BreaksSo : AioEnd → Bool → Type 0
BreaksSo end.WriteFault broken = broken ≡ true
BreaksSo end.ListenFault broken = ⊥
BreaksSo end.Done broken = Unit {0}
BreaksSo end.NetFault broken = Unit {0}
BreaksSo end.NoMemory broken = Unit {0}

took_so : (how : AioEnd) (b : Bool) (o : SinkFacts) (lines : List ℕ) (p : SinkFacts)
    → BreaksSo how b → TookLines b o lines p → OutputTook (named b how) o lines p
took_so how true o lines p breaks took = took
took_so end.WriteFault false o lines p breaks took = absurd (false≢true breaks)
took_so end.ListenFault false o lines p breaks took = absurd breaks
took_so end.Done false o lines p breaks took = took
took_so end.NetFault false o lines p breaks took = took
took_so end.NoMemory false o lines p breaks took = took

not_listening : (how : AioEnd) (b : Bool) → BreaksSo how b → named b how ≡ end.ListenFault → ⊥
not_listening how true breaks q = cc
not_listening end.WriteFault false breaks q = cc
not_listening end.ListenFault false breaks q = breaks
not_listening end.Done false breaks q = cc
not_listening end.NetFault false breaks q = cc
not_listening end.NoMemory false breaks q = cc

module _ {H M Q W V K E : Type 0} (m : Meaning H M Q W V AioNote E) (tells : E → EndFacts)
    (sink : K → SinkFacts) (o : SinkFacts) (until : Option ℕ) (first : ℕ)
    (h : List (Entry AioNote)) (core : Core H M Q W V AioNote E) (how : AioEnd) (ran : Ran M K)
    (f : Finishes m tells sink (aio_terms o) first h core how ran) where
  ends_named : (b : Bool) → EndsSo m.means (aio_terms o) until (m.facts f.net) first how h
      → EndsSo m.means (aio_terms o) until (m.facts f.net) first (named b how) h
  ends_named true ends = tt
  ends_named false ends = ends

  pub leaves : IsPlain h → (sum h).ended ≡ false → GoesByTurns m.means (aio_terms o) h
      → EndsSo m.means (aio_terms o) until (m.facts f.net) first how h → BreaksSo how f.broken
      → LeavesServed m tells sink o until ran
  leaves plain going turns why breaks =
      let st = subst (λ (b : Bool). StopAppends (sum h) b f.more) going f.stops in
      let closes : EndsRun h (h ++ f.more) = record {
        removals = st.0;
        are = st.1;
        is = ap (λ (es : List (Entry AioNote)). h ++ es) st.2;
      } in
      let why_told : EndsSo m.means (aio_terms o) until (m.facts f.net) first ran.end h =
      subst (λ (e : AioEnd). EndsSo m.means (aio_terms o) until (m.facts f.net) first e h)
      (sym f.told) (ends_named f.broken why) in
      let run : RunsWhereGiven m tells o until ran.net first ran.end (h ++ f.more) =
      subst (λ (net : Option M). RunsWhereGiven m tells o until net first ran.end (h ++ f.more))
      (sym f.is_net) (record {
        run = inr (record {
          whole = f.whole;
          run = h;
          closes = closes;
          turns = turns;
          why = why_told;
        });
        stands = f.stands;
        keeps = f.keeps;
        says = f.says;
        unlimited = asked_if_told m.means (aio_terms o) refl 1001 (past_of (h ++ f.more))
            (m.facts f.net).calls f.whole.legal
            (sets_none h f.more st.0 (is_busy (sum h)) (alive_handles (sum h)) plain st.1 st.2)
            f.stands.calls;
      }) in
      let lines : OutputTook ran.end o (journal_lines (h ++ f.more)) (sink ran.output) =
      subst (λ (e : AioEnd). OutputTook e o (journal_lines (h ++ f.more)) (sink ran.output))
      (sym f.told)
      (took_so how f.broken o (journal_lines (h ++ f.more)) (sink ran.output) breaks
      (f.lines o refl refl)) in
      record {
        leaves = record {
          journal = h ++ f.more;
          first = first;
          within = f.within;
          held = f.held;
          run = run;
          lines = lines;
        };
        given = λ q. some_is (sym f.is_net ∙ q);
        listened = λ q. not_listening how f.broken breaks (sym f.told ∙ q);
      }

-- ---- a reactor whose acceptor was refused

rose_from : (before now : ℕ) → before ≡ 0 → Rose before now → Rose 0 now
rose_from before now none rose = subst (λ (n : ℕ). Rose n now) none rose

module _ {H M Q W V K E : Type 0} (m : Meaning H M Q W V AioNote E) (tells : E → EndFacts)
    (sink : K → SinkFacts) (o : SinkFacts) (core : Core H M Q W V AioNote E) (ran : Ran M K) where
  pub leaves_refused : (how : AioEnd) (before : ℕ) → before ≡ 0
      → Finishes m tells sink (aio_terms o) 0 [] core how ran
      → RefusedSo how before (m.facts (net_of core)).failed_attaches
      → (until : Option ℕ) → LeavesServed m tells sink o until ran
  leaves_refused end.NetFault before none f rose until =
      leaves m tells sink o until 0 [] core end.NetFault ran f refl refl (inl refl)
      (λ q. q, inr (subst (Rose 0) (sym f.attaches) (rose_from before _ none rose), refl)) tt
  leaves_refused end.NoMemory before none f rose until =
      leaves m tells sink o until 0 [] core end.NoMemory ran f refl refl (inl refl) (λ q. q) tt
  leaves_refused end.Done before none f rose until = absurd rose
  leaves_refused end.WriteFault before none f rose until = absurd rose
  leaves_refused end.ListenFault before none f rose until = absurd rose

-- ---- a reactor that served

some_polled : {N : Type 0} (before rest : List (Entry N)) (now : ℕ)
    → 1 ≤ count is_polled (past_of (before ++ entry.Polled now ∷ rest))
some_polled before rest now =
    omega (
      arith,
      count-past is_polled (before ++ entry.Polled now ∷ rest),
      count-append is_polled before (entry.Polled now ∷ rest),
    )

some_waited : {N : Type 0} (h before entries : List (Entry N)) → IsWait entries
    → h ≡ before ++ entries → 1 ≤ count is_polled (past_of h)
some_waited h before entries w is =
    subst (λ k. 1 ≤ count is_polled (past_of k)) (sym is)
    (subst (λ es. 1 ≤ count is_polled (past_of (before ++ es))) (sym w.is)
    (some_polled before _ w.now))

-- no timer and no act but that of a notice stops the reactor
pub notice_stops : (up : Upcall) → ServiceMay up Stopping → IsNotice up
notice_stops Input may = may
notice_stops Output may = may
notice_stops Except may = may
notice_stops (Timeout timer) may = may
notice_stops (Notice kind) may = tt

-- and none offers a handler with a timer
pub none_timed : (up : Upcall) (mask : Mask) (timer : Option (ℕ × ℕ))
    → ServiceMay up (Installing mask timer) → timer ≡ None
none_timed Input mask timer may = may.1
none_timed Output mask timer may = absurd may
none_timed Except mask timer may = absurd may
none_timed (Timeout number) mask timer may = absurd may
none_timed (Notice kind) mask timer may = absurd may

module _ {H M Q W V E : Type 0} (m : Meaning H M Q W V AioNote E) (o : SinkFacts)
    (until : Option ℕ) (core : Core H M Q W V AioNote E) (waits faults first : ℕ)
    (h : List (Entry AioNote)) (stands : Stands m (aio_terms o) core first h) where
  pub may_end : (r : RunEnd) → (sum h).ended ≡ false
      → EndedSo m.means (aio_terms o) until (Some r) (over_of core) (first_entry ∷ []) first h
      → LoopEndsSo m until waits faults r core → (m.volumes (volumes_of core)).faults ≡ 0
      → MayEnd r
  may_end loop.Enough going e ends none = tt
  may_end loop.Over going e ends none = tt
  may_end loop.Broken going e ends none = tt
  may_end loop.NetFault going e ends none = tt
  may_end loop.NoMemory going e ends none = tt
  may_end loop.Stopped going e ends none = absurd (false≢true (sym going ∙ e.1))
  may_end loop.VolumeFault going e ends none = absurd (omega (arith, ends, none))

  breaks_so : (r : RunEnd) (broken : Bool) → MayEnd r → LoopEndsSo m until waits faults r core
      → (m.is_broken (watch_of core) ≡ true → broken ≡ true) → BreaksSo (end_by r) broken
  breaks_so loop.Enough broken may ends stays = tt
  breaks_so loop.Over broken may ends stays = tt
  breaks_so loop.Broken broken may ends stays = stays ends.told
  breaks_so loop.NetFault broken may ends stays = tt
  breaks_so loop.NoMemory broken may ends stays = tt
  breaks_so loop.Stopped broken may ends stays = absurd may
  breaks_so loop.VolumeFault broken may ends stays = absurd may

  why_so : (r : RunEnd) (net : NetFacts E) → MayEnd r → Legal h 1001 → NoneOpen h
      → EndedSo m.means (aio_terms o) until (Some r) (over_of core) (first_entry ∷ []) first h
      → LoopEndsSo m until waits faults r core → waits ≡ 0
      → net.failed_waits ≡ (m.facts (net_of core)).failed_waits
      → (1 ≤ over_of core
      → WhereTold (λ calls. IsOverAt (over_of core) (answers calls)) net.calls)
      → EndsSo m.means (aio_terms o) until net first (end_by r) h
  why_so loop.Enough net may legal idle e ends none same marked =
      let enough = enough_of until (closed_of h) e.enough in
      let tells = told 1001 (past_of h) legal in
      inr (record {
        wanted = enough.0;
        asked = enough.1;
        before = e.between;
        entries = e.entries;
        turn = e.turn;
        is = e.is;
        held = e.held;
        few = e.below;
        enough = omega (arith, enough.2, tells.closed, tells.refused);
      })
  why_so loop.Over net may legal idle e ends none same marked =
      inl (record {
        before = e.between;
        entries = e.entries;
        wait = e.wait;
        is = e.is;
        none = e.none;
        idle = idle;
        over = subst (λ (n : ℕ). WhereTold (λ calls. IsOverAt n (answers calls)) net.calls)
            e.over_so (marked (subst (λ (n : ℕ). 1 ≤ n) (sym e.over_so)
            (some_waited h e.between e.entries e.wait e.is)));
        few = e.below;
      })
  why_so loop.Broken net may legal idle e ends none same marked = tt
  why_so loop.NetFault net may legal idle e ends none same marked =
      (e, inl (subst (Rose 0) (sym same) (rose_from waits _ none ends)))
  why_so loop.NoMemory net may legal idle e ends none same marked = e
  why_so loop.Stopped net may legal idle e ends none same marked = absurd may
  why_so loop.VolumeFault net may legal idle e ends none same marked = absurd may

module _ {H M Q W V K E : Type 0} (m : Meaning H M Q W V AioNote E) (tells : E → EndFacts)
    (sink : K → SinkFacts) (o : SinkFacts) (until : Option ℕ) (core : Core H M Q W V AioNote E)
    (waits faults : ℕ) (r : RunEnd) (how : AioEnd) (ran : Ran M K)
    (g : GoesOn m (aio_terms o) (first_entry ∷ [])
    (RunsSo m.means until (Some r) (over_of core) (aio_terms o) (first_entry ∷ [])) core) where
  pub leaves_served : how ≡ end_by r
      → Finishes m tells sink (aio_terms o) g.first g.history core how ran
      → IsPlain g.history → (sum g.history).ended ≡ false
      → LoopEndsSo m until waits faults r core → waits ≡ 0
      → (m.volumes (volumes_of core)).faults ≡ 0 → LeavesServed m tells sink o until ran
  leaves_served is finishes plain going ends none no_faults =
      let f : Finishes m tells sink (aio_terms o) g.first g.history core (end_by r) ran =
      subst (λ (e : AioEnd). Finishes m tells sink (aio_terms o) g.first g.history core e ran) is
      finishes in
      let may : MayEnd r = may_end m o until core waits faults g.first g.history g.stands r going
      g.so.ends ends no_faults in
      leaves m tells sink o until g.first g.history core (end_by r) ran f plain going
      (inr (g.so.steps, g.so.reaches))
      (why_so m o until core waits faults g.first g.history g.stands r (m.facts f.net) may
      g.stands.tracks.legal g.none_open g.so.ends ends none f.waits f.over)
      (breaks_so m o until core waits faults g.first g.history g.stands r f.broken may ends f.stays)

-- ---- what words come to

pub runs_as : {H M Q W V K E : Type 0} (m : Meaning H M Q W V AioNote E) (tells : E → EndFacts)
    (sink : K → SinkFacts) (found said : AioWords) (words : Option AioWords) (o : SinkFacts)
    (faults : ℕ × ℕ) (ports : List ℕ × List ℕ) (served : AioServed M K) → words ≡ Some found
    → words ≡ Some said → RunsCommand m tells sink found o faults ports served
    → RunsCommand m tells sink said o faults ports served
runs_as m tells sink found said words o faults ports served first second runs =
    subst (λ (w : AioWords). RunsCommand m tells sink w o faults ports served)
    (same (sym first ∙ second)) runs
  where
    same : Some found ≡ Some said → found ≡ said
    same q = cc

-- the mark of the last wait that was answered Over
pub marked : {M E : Type 0} (facts : M → NetFacts E) (left net : M) (now before : ℕ) → left ≡ net
    → now ≡ before
    → (1 ≤ now → WhereTold (λ calls. IsOverAt now (answers calls)) (facts net).calls)
    → 1 ≤ before → WhereTold (λ calls. IsOverAt before (answers calls)) (facts left).calls
marked {M} facts left net now before same is told some =
    subst (λ (n : M). WhereTold (λ calls. IsOverAt before (answers calls)) (facts n).calls)
    (sym same) (subst (λ (k : ℕ). WhereTold (λ calls. IsOverAt k (answers calls)) (facts net).calls)
    is (told (subst (λ (k : ℕ). 1 ≤ k) (sym is) some)))
