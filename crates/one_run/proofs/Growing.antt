-- Histories that grow, and how many upcalls return in what is appended.
use Rattle.std.proofs.Common.{ℕ, ◌≡◌, ◌≤◌, ◌+◌, List, [], ◌∷◌, ◌++◌, map, length, Bool, true, false}
use Rattle.std.proofs.Common.{not, refl, sym, ap, ◌∙◌, arith, append_assoc, append-nil, cond}
use Rattle.std.specs.List.{count_by}
use Rattle.std.proofs.lemmas.List.Sums.{sum_by-append, sum_by-cons}
use Rattle.ev_base.specs.ev_types.specs.declared.upcall.Answer.{Answer}
use Rattle.ev_base.specs.ev_types.specs.declared.upcall.Handle.{Handle}
use Rattle.ev_base.specs.declared.net.Report.{Report}
use Rattle.reactor_model.specs.reactor_journal.specs.declared.entry.Entry.{Entry}
use Rattle.reactor_model.specs.reactor_journal.specs.declared.entry.Entry.TheVariants.{Polled}
use Rattle.reactor_model.specs.reactor_journal.specs.declared.entry.Entry.TheVariants.{Started}
use Rattle.reactor_model.specs.reactor_journal.specs.declared.entry.Entry.TheVariants.{Returned}
use Rattle.reactor_model.specs.reactor_journal.specs.declared.entry.Entry.TheVariants.{Removed}
use Rattle.reactor_model.specs.reactor_journal.specs.declared.entry.Entry.TheVariants.{Closed}
use Rattle.reactor_model.specs.reactor_journal.specs.declared.entry.Entry.TheVariants.{Ended}
use Rattle.reactor_core.specs.reactor_summary.specs.declared.parts.LiveHandle.{LiveHandle}
use Rattle.reactor_core.specs.Polling.{due_of, ready_of}
use Rattle.reactor_core.specs.Removing.{AreRemovals}
use Rattle.reactor_core.specs.Settling.{IsClosing}
use Rattle.one_run.specs.Phases.{is_return, GrowsFrom, IsOpened, first_entry, one_handle}
use Rattle.one_run.specs.Running.{IsWholeUntilLast}

-- ---- returns in what is appended

returns-append : {N : Type 0} (xs ys : List (Entry N))
    → count_by is_return (xs ++ ys) ≡ count_by is_return xs + count_by is_return ys
returns-append xs ys = sum_by-append (λ e. cond (is_return e) 1 0) xs ys

no-return : {N : Type 0} (e : Entry N) (rest : List (Entry N)) → is_return e ≡ false
    → count_by is_return rest ≡ 0 → count_by is_return (e ∷ rest) ≡ 0
no-return e rest other none = let one : ◌≡◌ {A = ℕ} (cond (is_return e) 1 0) 0 =
    ap (λ b. cond b 1 0) other in omega
    (arith, sum_by-cons (λ e. cond (is_return e) 1 0) e rest, one, none)

returns-due : (N : Type 0) (timers : List ℕ) → count_by (is_return {N = N}) (map due_of timers) ≡ 0
returns-due N [] = refl
returns-due N (timer ∷ timers) = no-return (due_of timer) (map due_of timers) refl
    (returns-due N timers)

returns-ready : (N : Type 0) (reports : List Report)
    → count_by (is_return {N = N}) (map ready_of reports) ≡ 0
returns-ready N [] = refl
returns-ready N (report ∷ reports) =
    no-return (ready_of report) (map ready_of reports) refl (returns-ready N reports)

-- a wait
pub returns-waited : (N : Type 0) (now : ℕ) (timers : List ℕ) (reports : List Report)
    → count_by (is_return {N = N}) (Polled now ∷ (map due_of timers ++ map ready_of reports)) ≡ 0
returns-waited N now timers reports =
    no-return (Polled now) (map due_of timers ++ map ready_of reports) refl
    (omega (
      arith,
      returns-append (map (due_of {N = N}) timers) (map (ready_of {N = N}) reports),
      returns-due N timers,
      returns-ready N reports,
    ))

returns-closing : {N : Type 0} (closed : Bool) (handle : Handle) (entries : List (Entry N))
    → IsClosing closed handle entries → count_by is_return entries ≡ 0
returns-closing {N} true handle entries closing =
    ap (count_by is_return) closing.1 ∙ no-return (Closed handle closing.0) [] refl refl
returns-closing false handle entries closing = ap (count_by is_return) closing

-- the end
returns-removed : {N : Type 0} (busy : ℕ → Bool) (handles : List LiveHandle)
    (entries : List (Entry N)) → AreRemovals busy handles entries → count_by is_return entries ≡ 0
returns-removed busy [] entries removals = ap (count_by is_return) removals
returns-removed {N} busy (h ∷ hs) entries removals =
    ap (count_by is_return) removals.4
    ∙ no-return (Removed h.handle) (removals.0 ++ removals.1) refl
    (omega (
      arith,
      returns-append removals.0 removals.1,
      returns-closing (not (busy h.handle.0)) h.handle removals.0 removals.2,
      returns-removed busy hs removals.1 removals.3,
    ))

-- ---- histories

pub grows-none : {N : Type 0} (returns : ℕ) (h : List (Entry N)) → GrowsFrom returns h h
grows-none returns h = record { more = []; is = sym (append-nil h); few = omega arith }

pub grows-waited : {N : Type 0} (h : List (Entry N)) (now : ℕ) (timers : List ℕ)
    (reports : List Report) → GrowsFrom 0 h
    (h ++ Polled now ∷ (map due_of timers ++ map ready_of reports))
grows-waited {N} h now timers reports =
    record {
      more = Polled now ∷ (map due_of timers ++ map ready_of reports);
      is = refl;
      few = omega (arith, returns-waited N now timers reports);
    }

pub grows-returned : {N : Type 0} (h : List (Entry N)) (a b : ℕ) (answer : Answer) (note : N)
    → GrowsFrom 1 h ((h ++ Started a ∷ []) ++ Returned b answer note ∷ [])
grows-returned {N} h a b answer note =
    let one : count_by is_return (Started a ∷ Returned b answer note ∷ []) ≡ 1 = refl in
    record {
      more = Started a ∷ Returned b answer note ∷ [];
      is = append_assoc h (Started a ∷ []) (Returned b answer note ∷ []);
      few = omega (arith, one);
    }

pub grows-closed : {N : Type 0} (h : List (Entry N)) (a b : ℕ) (answer : Answer) (note said : N)
    → GrowsFrom 1 h (((h ++ Started a ∷ []) ++ Returned b answer note ∷ [])
    ++ Closed one_handle said ∷ [])
grows-closed {N} h a b answer note said =
    let one : count_by is_return (Started a ∷ Returned b answer note ∷ Closed one_handle said ∷ [])
    ≡ 1 = refl in
    record {
      more = Started a ∷ Returned b answer note ∷ Closed one_handle said ∷ [];
      is = append_assoc (h ++ Started a ∷ []) (Returned b answer note ∷ [])
          (Closed one_handle said ∷ []) ∙ append_assoc h (Started a ∷ [])
          (Returned b answer note ∷ Closed one_handle said ∷ []);
      few = omega (arith, one);
    }

pub grows-stopped : {N : Type 0} (busy : ℕ → Bool) (handles : List LiveHandle)
    (h entries : List (Entry N)) → AreRemovals busy handles entries
    → GrowsFrom 0 h ((h ++ Ended ∷ []) ++ entries)
grows-stopped busy handles h entries removals = record {
  more = Ended ∷ entries;
  is = append_assoc h (Ended ∷ []) entries;
  few = omega (arith, no-return Ended entries refl (returns-removed busy handles entries removals));
}

-- ---- a watch that saw all entries before the last return

pub whole-so : {N : Type 0} (whole : ℕ) (h : List (Entry N)) → whole ≡ length h
    → IsWholeUntilLast whole h
whole-so whole h all = record { before = h; seen = omega (arith, all); grows = grows-none 1 h }

pub whole-turned : {N : Type 0} (whole : ℕ) (before h : List (Entry N)) → length before ≤ whole
    → GrowsFrom 1 before h → IsWholeUntilLast whole h
whole-turned whole before h seen grows = record { before = before; seen = seen; grows = grows }

pub whole-more : {N : Type 0} (whole now : ℕ) (h more : List (Entry N)) → whole ≤ now
    → IsWholeUntilLast whole h → GrowsFrom 0 h more → IsWholeUntilLast now more
whole-more whole now h more later w g = record {
  before = w.before;
  seen = omega (arith, later, w.seen);
  grows = record {
    more = w.grows.more ++ g.more;
    is = g.is ∙ (ap (λ entries. entries ++ g.more) w.grows.is
        ∙ append_assoc w.before w.grows.more g.more);
    few = omega (arith, w.grows.few, g.few, returns-append w.grows.more g.more);
  };
}

-- the first wait made no upcall
pub whole-first : {N : Type 0} (whole : ℕ) (h more : List (Entry N)) → IsOpened h
    → GrowsFrom 0 h more → IsWholeUntilLast whole more
whole-first {N} whole h more opened g = record {
  before = [];
  seen = omega arith;
  grows = record {
    more = more;
    is = refl;
    few = omega (
      arith,
      ap (count_by is_return) g.is
          ∙ returns-append h g.more,
      ap (count_by is_return) opened
          ∙ no-return (first_entry {N = N}) [] refl refl,
      g.few,
    );
  };
}
