-- Where a journal of one handler begins, and how it ends.
use Rattle.std.proofs.Common.{ℕ, suc, ◌≡◌, ◌≤◌, ◌+◌, ◌*◌, ◌==◌, Bool, true, false, not, ◌&&◌, List}
use Rattle.std.proofs.Common.{[], ◌∷◌, ◌++◌, map, length, refl, sym, ap, ◌∙◌, subst, arith, ⊎_elim}
use Rattle.std.proofs.Common.{◌⊎◌, inl, inr}
use Rattle.std.specs.List.{list_any, list_all, filter}
use Rattle.std.proofs.lemmas.Bool.{false≢true, and_parts, and_from}
use Rattle.std.proofs.lemmas.List.{length-append, length-map, append-nil, append_assoc}
use Rattle.std.proofs.lemmas.List.Folds.{list_all-append}
use Rattle.ev_base.specs.ev_types.specs.declared.upcall.Kind.TheVariants.{Read}
use Rattle.ev_base.specs.ev_types.specs.declared.upcall.Why.TheVariants.{Removed as ByRemoval}
use Rattle.ev_base.specs.declared.net.Report.{Report}
use Rattle.reactor_model.specs.reactor_journal.specs.declared.entry.Entry.{Entry}
use Rattle.reactor_model.specs.reactor_journal.specs.declared.entry.Entry.TheVariants.{Polled}
use Rattle.reactor_model.specs.reactor_journal.specs.declared.entry.Entry.TheVariants.{Ready}
use Rattle.reactor_model.specs.reactor_journal.specs.declared.entry.Entry.TheVariants.{Started}
use Rattle.reactor_model.specs.reactor_journal.specs.declared.entry.Entry.TheVariants.{Returned}
use Rattle.reactor_model.specs.reactor_journal.specs.declared.entry.Entry.TheVariants.{Removed}
use Rattle.reactor_model.specs.reactor_journal.specs.declared.entry.Entry.TheVariants.{Closed}
use Rattle.reactor_model.specs.reactor_journal.specs.declared.entry.Entry.TheVariants.{Ended}
use Rattle.reactor_model.specs.reactor_journal.specs.Past as P
use Rattle.reactor_model.specs.reactor_journal.specs.Past.{past_of, had, reason_of, count}
use Rattle.reactor_model.specs.reactor_journal.specs.Past.{is_closed, was_removed}
use Rattle.reactor_model.specs.reactor_journal.specs.Follow.{is_legal, may_follow}
use Rattle.reactor_model.specs.reactor_journal.proofs.Turning.{past_of-more}
use Rattle.reactor_model.specs.reactor_journal.proofs.Alive.{alive_not_removed}
use Rattle.reactor_core.specs.reactor_summary.specs.Summary as S
use Rattle.reactor_core.specs.reactor_summary.specs.Summary.{Summary, summary, step, is_alive}
use Rattle.reactor_core.specs.reactor_summary.specs.Summary.{is_busy, is_overdue}
use Rattle.reactor_core.specs.reactor_summary.specs.declared.parts.LiveHandle.{LiveHandle}
use Rattle.reactor_core.specs.reactor_summary.specs.declared.parts.OpenEvent.{OpenEvent}
use Rattle.reactor_core.specs.reactor_summary.proofs.Told.{told}
use Rattle.reactor_core.specs.reactor_summary.proofs.Reading.{alive_is}
use Rattle.reactor_core.specs.reactor_state.specs.State.{after}
use Rattle.reactor_core.specs.Calls.{is_taken}
use Rattle.reactor_core.specs.Polling.{AreDue, due_of, ready_of}
use Rattle.reactor_core.specs.Settling.{IsClosing}
use Rattle.reactor_core.specs.Removing.{AreRemovals, alive_handles}
use Rattle.one_run.specs.Phases.{one_handle, one_live, closed_summary, notes_in, note_of, turns_in}
use Rattle.one_run.specs.Phases.{AllReadOn, is_served, first_entry, served_until_end, IsServedSo}
use Rattle.one_run.specs.Phases.{IsOpened, IsRead, IsShut, IsFinished, ClosesAs, WasShut, CanEnd}
use Rattle.one_run.proofs.Phases.{so_more, notes_more, none_closed}

-- ---- waits

-- if no timer is armed none comes due
none_due : (s : Summary) (timers : List ℕ) → s.armed ≡ [] → AreDue s timers → timers ≡ []
none_due s [] none due = refl
none_due s (timer ∷ rest) none due =
    absurd (no_first (sym (ap (λ armed. S.is_first s.moment timer armed) none) ∙ due.0))
  where
    no_first : false ≡ true → ⊥
    no_first q = cc

-- if no handle is live no report is taken
none_taken : (s : Summary) (reports : List Report) → s.handles ≡ []
    → filter (is_taken s) reports ≡ []
none_taken s [] none = refl
none_taken s (r ∷ reports) none = rw (not_taken r) (none_taken s reports none)
  where
    not_taken : (r : Report) → is_taken s r ≡ false
    not_taken r = ap (λ hs. list_any (λ h. h.handle.0 == r.handle.0
        && (h.alive && P.has_kind h.mask r.kind)) hs) none

one_report : Report
one_report = record { handle = one_handle; kind = Read }

-- the first wait, which reports the handle as ready for reading
pub waits_first : {N : Type 0} (h : List (Entry N)) (timers : List ℕ) → IsOpened h
    → AreDue (after (summary (past_of h)) (Polled 0)) timers
    → IsRead (h ++ Polled 0 ∷ (map due_of timers
    ++ map ready_of (filter (is_taken (summary (past_of h)))
    (record { handle = one_handle; kind = Read } ∷ []))))
waits_first {N} h timers opened due =
    subst (λ (h : List (Entry N)). IsRead
    (h ++ Polled 0 ∷ (map due_of timers
    ++ map ready_of (filter (is_taken (summary (past_of h)))
    (record { handle = one_handle; kind = Read } ∷ []))))) (sym opened)
    (subst (λ (timers : List ℕ). IsRead {N = N}
    (first_entry ∷ Polled 0 ∷ (map due_of timers ++ Ready one_handle Read ∷ []))) (sym none) front)
  where
    none : timers ≡ []
    none = none_due (after (summary (past_of {N = N} (first_entry ∷ []))) (Polled 0)) timers refl
        (subst (λ h. AreDue (after (summary (past_of h)) (Polled 0)) timers) opened due)

    front : IsRead {N = N} (first_entry ∷ Polled 0 ∷ Ready one_handle Read ∷ [])
    front = record {
      event = 2;
      sums = refl;
      so = record { served = Polled 0 ∷ Ready one_handle Read ∷ []; is = refl; kinds = refl };
      notes = refl;
      read_on = tt;
      size = refl;
    }

-- a wait once the handler was closed
pub waits_last : {N : Type 0} (h : List (Entry N)) (now : ℕ) (timers : List ℕ)
    (reports : List Report) (shut : IsShut [] h)
    → AreDue (after (summary (past_of h)) (Polled now)) timers
    → (after : IsShut (now ∷ []) (h ++ Polled now
    ∷ (map due_of timers ++ map ready_of (filter (is_taken (summary (past_of h))) reports))))
    × (after.closed.note ≡ shut.closed.note)
waits_last {N} h now timers reports shut due =
    subst (λ more. (after : IsShut (now ∷ []) (h ++ Polled now ∷ more))
    × (after.closed.note ≡ shut.closed.note)) (sym nothing) (
      record {
        entries = suc shut.entries;
        moment = now;
        sums = ap summary (past_of-more h (Polled now))
            ∙ ap (λ s. step {N = N} s (Polled now)) shut.sums;
        so = so_more h (Polled now) refl shut.so;
        closed = record {
          before = shut.closed.before;
          note = shut.closed.note;
          rest = shut.closed.rest ++ Polled now ∷ [];
          is = ap (λ l. l ++ Polled now ∷ []) shut.closed.is
              ∙ append_assoc (shut.closed.before ++ Closed one_handle shut.closed.note ∷ [])
              shut.closed.rest (Polled now ∷ []);
          quiet = list_all-append _ shut.closed.rest (Polled now ∷ [])
              ∙ and_from _ _ shut.closed.quiet refl;
          none_closed = shut.closed.none_closed;
          reason = shut.closed.reason;
          closed_for = shut.closed.closed_for;
          ends = shut.closed.ends;
          notes = shut.closed.notes;
          size = omega (
            arith,
            shut.closed.size,
            length-append h (Polled now ∷ []),
            length-append shut.closed.rest (Polled now ∷ []),
          );
        };
        own = shut.own;
        waits = ap (λ l. l ++ Polled now ∷ []) shut.waits;
      },
      refl,
    )
  where
    none : timers ≡ []
    none = none_due (after (summary (past_of h)) (Polled now)) timers (ap (λ s. s.armed) shut.sums)
        due

    nothing : map (due_of {N = N}) timers
        ++ map (ready_of {N = N}) (filter (is_taken (summary (past_of h))) reports) ≡ []
    nothing = ap (λ l. map (due_of {N = N}) l
        ++ map (ready_of {N = N}) (filter (is_taken (summary (past_of h))) reports)) none
        ∙ ap (map (ready_of {N = N})) (none_taken (summary (past_of h)) reports
        (ap (λ s. s.handles) shut.sums))

-- ---- the end

-- A journal whose one handler is alive and at home, with nothing but turns at which it read on.
pub record IsGoing {N : Type 0} (h : List (Entry N)) : Type 0 where
  pub alive : alive_handles (summary (past_of h)) ≡ one_live ∷ []
  pub handles : (summary (past_of h)).handles ≡ one_live ∷ []
  pub opens : (summary (past_of h)).opens ≡ []
  pub so : IsServedSo h
  pub notes : notes_in h ≡ map note_of (turns_in h)
  pub read_on : AllReadOn (turns_in h)
  pub size : length h ≤ 3 + 2 * length (turns_in h)
  pub closed : (summary (past_of h)).closed ≡ 0
  pub entries : ℕ
  pub ended : (said : N) → (moment : ℕ)
      × (summary (Closed one_handle said ∷ Removed one_handle ∷ Ended ∷ past_of h)
      ≡ closed_summary entries moment true)

pub opened_goes : {N : Type 0} (h : List (Entry N)) → IsOpened h → IsGoing h
opened_goes {N} h opened = subst IsGoing (sym opened) (record {
  alive = refl;
  handles = refl;
  opens = refl;
  so = record { served = []; is = refl; kinds = refl };
  notes = refl;
  read_on = tt;
  size = omega arith;
  closed = refl;
  entries = 4;
  ended = λ said. (0, refl);
})

pub read_goes : {N : Type 0} (h : List (Entry N)) → IsRead h → IsGoing h
read_goes {N} h r = record {
  alive = ap alive_handles r.sums;
  handles = ap (λ s. s.handles) r.sums;
  opens = ap (λ s. s.opens) r.sums;
  so = r.so;
  notes = r.notes;
  read_on = r.read_on;
  size = omega (arith, r.size);
  closed = ap (λ s. s.closed) r.sums;
  entries = suc (suc (suc (suc r.event)));
  ended = λ said. (
    0,
    ap (λ s. step {N = N}
        (step {N = N} (step {N = N} s Ended) (Removed one_handle)) (Closed one_handle said)) r.sums,
  );
}

-- what is removed at the end if one handler is alive and at home, and if none is
one_removal : {N : Type 0} (busy : ℕ → Bool) (entries : List (Entry N)) → busy 0 ≡ false
    → AreRemovals busy (one_live ∷ []) entries
    → (said : N) × (entries ≡ Removed one_handle ∷ Closed one_handle said ∷ [])
one_removal {N} busy entries free r =
    let closing : IsClosing true one_handle r.0 =
    subst (λ b. IsClosing (not b) one_handle r.0) free r.2 in (
      closing.0,
      r.4 ∙ ap (λ l. Removed one_handle ∷ l)
          (ap (λ c. c ++ r.1) closing.1 ∙ ap (λ rest. Closed one_handle closing.0 ∷ rest) r.3),
    )

ends_served : {N : Type 0} (served more : List (Entry N)) → list_all is_served served ≡ true
    → served_until_end (served ++ Ended ∷ more) ≡ true
ends_served [] more all = refl
ends_served (Polled now ∷ served) more all = ends_served served more all
ends_served (Ready handle kind ∷ served) more all = ends_served served more all
ends_served (Started event ∷ served) more all = ends_served served more all
ends_served (Returned event answer note ∷ served) more all = ends_served served more all
ends_served (Closed handle note ∷ served) more all = ends_served served more all
ends_served (_ ∷ served) more all = absurd (false≢true all)

past_stopped : {N : Type 0} (h : List (Entry N))
    → past_of ((h ++ Ended ∷ []) ++ Removed one_handle ∷ [])
    ≡ Removed one_handle ∷ Ended ∷ past_of h
past_stopped h = past_of-more (h ++ Ended ∷ []) (Removed one_handle)
    ∙ ap (λ past. Removed one_handle ∷ past) (past_of-more h Ended)

-- a handler that is alive is removed by the end
closed_by_removal : {N : Type 0} (most : ℕ) (past : List (Entry N)) → is_legal most past ≡ true
    → is_alive (summary past) 0 ≡ true → reason_of (Removed one_handle ∷ Ended ∷ past) 0 ≡ ByRemoval
closed_by_removal most past legal alive =
    let kept : was_removed past 0 ≡ false =
    alive_not_removed past 0 (sym (alive_is most past (summary past) 0 legal
    (told most past legal)) ∙ alive) in
    rw (kept, P.ended_itself) refl

pub stops_going : {N : Type 0} (most : ℕ) (h entries : List (Entry N)) → IsGoing h
    → is_legal most (past_of ((h ++ Ended ∷ []) ++ entries)) ≡ true
    → AreRemovals (is_busy (summary (past_of h))) (alive_handles (summary (past_of h))) entries
    → IsFinished ((h ++ Ended ∷ []) ++ entries)
stops_going {N} most h entries g legal removals =
    subst (λ entries. IsFinished ((h ++ Ended ∷ []) ++ entries)) (sym is) (record {
      entries = g.entries;
      moment = (g.ended said).0;
      sums = ap summary past_all ∙ (g.ended said).1;
      served = g.so.served ++ Ended ∷ Removed one_handle ∷ Closed one_handle said ∷ [];
      is = all_is;
      kinds = ends_served g.so.served (Removed one_handle ∷ Closed one_handle said ∷ []) g.so.kinds;
      few = omega arith;
      closed = record {
        before = before;
        note = said;
        rest = [];
        is = sym (append_assoc (h ++ Ended ∷ []) (Removed one_handle ∷ [])
            (Closed one_handle said ∷ [])) ∙ sym
            (append-nil (before ++ Closed one_handle said ∷ []));
        quiet = refl;
        none_closed = ap (count is_closed) (past_stopped h)
            ∙ none_closed most (past_of h) legal_before g.closed;
        reason = ByRemoval;
        closed_for = ap (λ past. reason_of past 0) (past_stopped h)
            ∙ closed_by_removal most (past_of h) legal_before
            (ap (λ hs. list_any (λ (l : LiveHandle). l.handle.0 == 0 && l.alive) hs) g.handles);
        ends = subst AllReadOn (sym turns) g.read_on;
        notes = notes_more (h ++ Ended ∷ []) (Removed one_handle)
            ∙ (append-nil (notes_in (h ++ Ended ∷ []))
            ∙ (notes_more h Ended ∙ (append-nil (notes_in h)
            ∙ (g.notes ∙ sym (ap (map note_of) turns)))));
        size = omega (
          arith,
          ap length turns,
          g.size,
          length-append (h ++ Ended ∷ []) (Removed one_handle ∷ Closed one_handle said ∷ []),
          length-append h (Ended ∷ []),
        );
      };
    })
  where
    removed : (said : N) × (entries ≡ Removed one_handle ∷ Closed one_handle said ∷ [])
    removed = one_removal (is_busy (summary (past_of h))) entries
        (ap (λ (os : List OpenEvent). list_any (λ (o : OpenEvent). o.handle.0 == 0) os) g.opens)
        (subst (λ hs. AreRemovals (is_busy (summary (past_of h))) hs entries) g.alive removals)

    said : N
    said = removed.0

    is : entries ≡ Removed one_handle ∷ Closed one_handle said ∷ []
    is = removed.1

    before : List (Entry N)
    before = (h ++ Ended ∷ []) ++ Removed one_handle ∷ []

    past_all : past_of ((h ++ Ended ∷ []) ++ Removed one_handle ∷ Closed one_handle said ∷ [])
        ≡ Closed one_handle said ∷ Removed one_handle ∷ Ended ∷ past_of h
    past_all = ap past_of (sym (append_assoc (h ++ Ended ∷ []) (Removed one_handle ∷ [])
        (Closed one_handle said ∷ []))) ∙ (past_of-more before (Closed one_handle said)
        ∙ ap (λ past. Closed one_handle said ∷ past) (past_stopped h))

    legal_all : is_legal most (Closed one_handle said ∷ Removed one_handle ∷ Ended ∷ past_of h)
        ≡ true
    legal_all = subst (λ past. is_legal most past ≡ true)
        (ap (λ l. past_of ((h ++ Ended ∷ []) ++ l)) is ∙ past_all) legal

    legal_before : is_legal most (past_of h) ≡ true
    legal_before = (and_parts (may_follow most (past_of h) Ended) _
        (and_parts (may_follow most (Ended ∷ past_of h) (Removed one_handle)) _
        (and_parts (may_follow most (Removed one_handle ∷ Ended ∷ past_of h)
        (Closed one_handle said)) _ legal_all).1).1).1

    all_is : (h ++ Ended ∷ []) ++ Removed one_handle ∷ Closed one_handle said ∷ []
        ≡ first_entry ∷ g.so.served ++ Ended ∷ Removed one_handle ∷ Closed one_handle said ∷ []
    all_is = append_assoc h (Ended ∷ []) (Removed one_handle ∷ Closed one_handle said ∷ [])
        ∙ ap (λ l. l ++ Ended ∷ Removed one_handle ∷ Closed one_handle said ∷ []) g.so.is

    turns : turns_in before ≡ turns_in h
    turns = ap (λ past. had past 0) (past_stopped h) ∙ (append-nil _ ∙ append-nil _)

pub stops_shut : {N : Type 0} (moments : List ℕ) (h entries : List (Entry N)) → length moments ≤ 1
    → (shut : IsShut moments h)
    → AreRemovals (is_busy (summary (past_of h))) (alive_handles (summary (past_of h))) entries
    → (finished : IsFinished ((h ++ Ended ∷ []) ++ entries))
    × ClosesAs shut.closed ((h ++ Ended ∷ []) ++ entries) finished
stops_shut {N} moments h entries once shut removals =
    subst (λ entries. (finished : IsFinished ((h ++ Ended ∷ []) ++ entries))
    × ClosesAs shut.closed ((h ++ Ended ∷ []) ++ entries) finished) (sym is)
    (subst (λ l. (finished : IsFinished l) × ClosesAs shut.closed l finished)
    (sym (append-nil (h ++ Ended ∷ []))) (
      record {
        entries = suc shut.entries;
        moment = shut.moment;
        sums = ap summary (past_of-more h Ended) ∙ ap (λ s. step {N = N} s Ended) shut.sums;
        served = shut.so.served ++ Ended ∷ [];
        is = ap (λ l. l ++ Ended ∷ []) shut.so.is;
        kinds = ends_served shut.so.served [] shut.so.kinds;
        few = omega (
          arith,
          once,
          ap length shut.waits
              ∙ length-map moments Polled,
          length-append shut.closed.rest (Ended ∷ []),
        );
        closed = record {
          before = shut.closed.before;
          note = shut.closed.note;
          rest = shut.closed.rest ++ Ended ∷ [];
          is = ap (λ l. l ++ Ended ∷ []) shut.closed.is
              ∙ append_assoc (shut.closed.before ++ Closed one_handle shut.closed.note ∷ [])
              shut.closed.rest (Ended ∷ []);
          quiet = list_all-append _ shut.closed.rest (Ended ∷ [])
              ∙ and_from _ _ shut.closed.quiet refl;
          none_closed = shut.closed.none_closed;
          reason = shut.closed.reason;
          closed_for = shut.closed.closed_for;
          ends = shut.closed.ends;
          notes = shut.closed.notes;
          size = omega (
            arith,
            shut.closed.size,
            length-append h (Ended ∷ []),
            length-append shut.closed.rest (Ended ∷ []),
          );
        };
      },
      record { reason = refl; note = refl; rest = refl },
    ))
  where
    is : entries ≡ []
    is = subst (λ hs. AreRemovals (is_busy (summary (past_of h))) hs entries)
        (ap alive_handles shut.sums) removals

pub was_shut : {N : Type 0} (h : List (Entry N)) → IsShut [] h → WasShut h
was_shut h s = ([], omega arith, s)

pub can_end : {N : Type 0} (h : List (Entry N)) → IsRead h ⊎ IsShut [] h → CanEnd h
can_end h may = ⊎_elim (λ r. inr (inl r)) (λ s. inr (inr (was_shut h s))) may

pub can_end_unserved : {N : Type 0} (h : List (Entry N)) → IsOpened h ⊎ IsShut [] h → CanEnd h
can_end_unserved h may = ⊎_elim (λ opened. inl opened) (λ s. inr (inr (was_shut h s))) may
