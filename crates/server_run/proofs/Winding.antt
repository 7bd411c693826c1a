-- What the stop of a reactor appends, and what is over then.
use Rattle.std.proofs.Common.{ℕ, zero, suc, ◌≡◌, Bool, true, false, not, List, [], ◌∷◌, ◌++◌, refl}
use Rattle.std.proofs.Common.{sym, ap, ◌∙◌, subst, arith, Some, None, if◌then◌else◌}
use Rattle.std.proofs.lemmas.Bool.{and_from}
use Rattle.std.proofs.lemmas.List.{append-nil, append_assoc}
use Rattle.std.specs.Option.{option_to_list}
use Rattle.ev_base.specs.ev_types.specs.declared.upcall.Handle.{Handle}
use Rattle.ev_base.specs.Counts.{Rose}
use Rattle.ev_base.specs.Terms.{Terms}
use Rattle.tp_reactor.specs.timer_queue.specs.declared.timer.Timer.{Timer}
use Rattle.log_handler.specs.reactor_journal.specs.declared.entry.Entry.{Entry}
use Rattle.log_handler.specs.reactor_journal.specs.declared.entry.Entry.TheVariants.{Removed}
use Rattle.log_handler.specs.reactor_journal.specs.declared.entry.Entry.TheVariants.{Closed}
use Rattle.log_handler.specs.reactor_journal.specs.declared.entry.Entry.TheVariants.{Ended}
use Rattle.log_handler.specs.reactor_journal.specs.Follow.{Legal}
use Rattle.log_handler.specs.reactor_journal.specs.Past.{past_of, opened}
use Rattle.log_handler.specs.reactor_journal.specs.Past.{was_closed, all_below}
use Rattle.log_handler.specs.reactor_journal.proofs.Turning.{past_of-more}
use Rattle.tp_reactor.specs.reactor_summary.specs.Summary.{Summary, step}
use Rattle.tp_reactor.specs.reactor_summary.specs.Summary.{summary}
use Rattle.tp_reactor.specs.reactor_summary.specs.Tells.{listed, live_handle}
use Rattle.tp_reactor.specs.reactor_summary.specs.declared.parts.LiveHandle.{LiveHandle}
use Rattle.tp_reactor.specs.reactor_summary.proofs.Told.{told}
use Rattle.tp_reactor.specs.reactor_core.specs.Acting.{StopAppends}
use Rattle.tp_reactor.specs.reactor_core.specs.Beginning.{IsShutDown, PartsStand}
use Rattle.tp_reactor.specs.reactor_core.specs.Ends.{WhereTold}
use Rattle.tp_reactor.specs.reactor_core.specs.Marks.{IsOverAt, answers}
use Rattle.tp_reactor.specs.reactor_core.specs.Removing.{AreRemovals, StopsOnce}
use Rattle.tp_reactor.specs.reactor_core.specs.Settling.{IsClosing}
use Rattle.tp_reactor.specs.reactor_core.specs.Stands.{Meaning, Stands}
use Rattle.tp_reactor.specs.reactor_core.specs.Views.{marks_of, net_of, over_of}
use Rattle.tp_reactor.specs.reactor_core.specs.declared.marks.WaitMarks.{WaitMarks}
use Rattle.tp_reactor.specs.reactor_core.specs.declared.reactor.Core.{Core}
use Rattle.tp_reactor.specs.reactor_core.specs.declared.reactor.Parts.{Parts}
use Rattle.tp_reactor.specs.reactor_core.proofs.HandOver.{entries_are}
use Rattle.tp_reactor.specs.reactor_core.proofs.WaitNumbers.{marks_over}
use Rattle.tp_reactor.specs.reactor_core.proofs.Over.{none_live}
use Rattle.laws_script_taken.specs.laws_script_runs.specs.Runs.{IsWhole}
use Rattle.server_run.specs.Finishing.{Finishes, NoneOpen}
use Rattle.server_run.specs.Journals.{WindsUp}

abbrev pub sum : {N : Type 0} → List (Entry N) → Summary
sum h = summary (past_of h)

pub sum_more : {N : Type 0} (h : List (Entry N)) (e : Entry N) → sum (h ++ e ∷ []) ≡ step (sum h) e
sum_more h e = ap summary (past_of-more h e)

-- entries that leave the open events of a history, and that it was stopped
record Keeps {N : Type 0} (h es : List (Entry N)) : Type 0 where
  pub opens : (sum (h ++ es)).opens ≡ (sum h).opens
  pub ended : (sum h).ended ≡ true → (sum (h ++ es)).ended ≡ true

keeps_nil : {N : Type 0} (h : List (Entry N)) → Keeps h []
keeps_nil h = record {
  opens = ap (λ k. (sum k).opens) (append-nil h);
  ended = λ q. ap (λ k. (sum k).ended) (append-nil h) ∙ q;
}

keeps_one : {N : Type 0} (h : List (Entry N)) (e : Entry N) → (step (sum h) e).opens ≡ (sum h).opens
    → ((sum h).ended ≡ true → (step (sum h) e).ended ≡ true) → Keeps h (e ∷ [])
keeps_one h e opens ended = record {
  opens = ap (λ (s : Summary). s.opens) (sum_more h e) ∙ opens;
  ended = λ q. ap (λ (s : Summary). s.ended) (sum_more h e) ∙ ended q;
}

keeps_both : {N : Type 0} (h es fs : List (Entry N)) → Keeps h es → Keeps (h ++ es) fs
    → Keeps h (es ++ fs)
keeps_both h es fs k l = record {
  opens = ap (λ k. (sum k).opens) (sym (append_assoc h es fs)) ∙ (l.opens ∙ k.opens);
  ended = λ q. ap (λ k. (sum k).ended) (sym (append_assoc h es fs)) ∙ l.ended (k.ended q);
}

keeps_closing : {N : Type 0} (h : List (Entry N)) (b : Bool) (handle : Handle) (es : List (Entry N))
    → IsClosing b handle es → Keeps h es
keeps_closing h true handle es c =
    subst (Keeps h) (sym c.1) (keeps_one h (Closed handle c.0) refl (λ q. q))
keeps_closing h false handle es c = subst (Keeps h) (sym c) (keeps_nil h)

keeps_removals : {N : Type 0} (h : List (Entry N)) (busy : ℕ → Bool) (hs : List LiveHandle)
    (es : List (Entry N)) → AreRemovals busy hs es → Keeps h es
keeps_removals h busy [] es r = subst (Keeps h) (sym r) (keeps_nil h)
keeps_removals h busy (a ∷ hs) es r =
    subst (Keeps h) (sym r.4)
    (keeps_both h (Removed a.handle ∷ []) (r.0 ++ r.1)
    (keeps_one h (Removed a.handle) refl (λ q. q))
    (keeps_both (h ++ Removed a.handle ∷ []) r.0 r.1
    (keeps_closing (h ++ Removed a.handle ∷ []) (not (busy a.handle.0)) a.handle r.0 r.2)
    (keeps_removals ((h ++ Removed a.handle ∷ []) ++ r.0) busy hs r.1 r.3)))

-- ---- the stop

pub over_of_stands : {H M Q W V N E : Type 0} (m : Meaning H M Q W V N E) (t : Terms)
    (core : Core H M Q W V N E) (F : ℕ) (h : List (Entry N)) → Stands m t core F h → NoneOpen h
    → (sum h).ended ≡ true → IsShutDown (sum h)
over_of_stands m t core F h stands none ended =
    record {
      ended = ended;
      none_live =
          none_live (sum h).handles (sum h).opens none (stands.settled.none_alive ended)
          stands.settled.none_waits;
    }

pub record Stopped {H M Q W V N E : Type 0} (m : Meaning H M Q W V N E) (t : Terms) (F : ℕ)
    (list : List (Entry N)) (core : Core H M Q W V N E) : Type 0 where
  pub journal : List (Entry N)
  pub winds : WindsUp list journal
  pub stands : Stands m t core F journal
  pub over : IsShutDown (sum journal)

pub stopped : {H M Q W V N E : Type 0} (m : Meaning H M Q W V N E) (t : Terms) (F : ℕ)
    (h : List (Entry N)) (new : Core H M Q W V N E) (b : Bool) → NoneOpen h → (sum h).ended ≡ b
    → StopsOnce m t F h new b → Stopped m t F h new
unfolding over_of_stands
stopped {N = N} m t F h new true none q st = record {
  journal = h;
  winds = record {
    more = [];
    stops = subst (λ (b : Bool). StopAppends {N = N} (sum h) b []) (sym q) refl;
    is = sym (append-nil h);
  };
  stands = st;
  over = over_of_stands m t new F h st none q;
}
stopped {N = N} m t F h new false none q st =
    let g : List (Entry N) = h ++ Ended ∷ [] in
    let e : sum g ≡ step {N = N} (sum h) Ended = sum_more h Ended in
    let k : Keeps g st.entries = keeps_removals g _ _ st.entries st.removals in
    record {
      journal = g ++ st.entries;
      winds = record {
        more = Ended ∷ st.entries;
        stops =
            subst (λ (b : Bool). StopAppends (sum h) b (Ended ∷ st.entries)) (sym q)
            (st.entries, st.removals, refl);
        is = append_assoc h (Ended ∷ []) st.entries;
      };
      stands = st.stands;
      over = over_of_stands m t new F (g ++ st.entries) st.stands
          (k.opens ∙ (ap (λ (s : Summary). s.opens) e ∙ none))
          (k.ended (ap (λ (s : Summary). s.ended) e));
    }

-- the law of watches: one that stands for a list and is broken has counted more faults than the
-- output had at the start
abbrev pub Breaks : {H M Q W V N E : Type 0} → Meaning H M Q W V N E → Type 0
Breaks {W = W} {N = N} m = (t : Terms) (watch : W) (h : List (Entry N)) (before : ℕ)
    → m.watched t watch h → m.is_broken watch ≡ true → t.output_faults ≡ Some before
    → Rose before (m.faults watch)

-- what is left of a reactor that was stopped
pub finished : {H M Q W V N E : Type 0} (m : Meaning H M Q W V N E) (armed : Q → List Timer)
    (t : Terms) (first : ℕ) (list : List (Entry N)) (core new : Core H M Q W V N E)
    (taken parts : Parts N M Q W V) (s : Stopped m t first list new)
    → marks_of new ≡ marks_of core → PartsStand m armed t first s.journal taken
    → taken.net ≡ net_of new → parts ≡ taken → Breaks m
    → Finishes m armed t first list core parts
finished {M = M} {Q = Q} {W = W} {V = V} {N = N} m armed t first list core new taken parts s marks
    stand net same broke = record {
      journal = s.journal;
      winds = s.winds;
      legal = s.stands.tracks.legal;
      bound =
          let numbers = s.stands.room.numbers in
          let counted = entries_are t.most s.journal s.stands.tracks.legal in
          omega (arith, numbers, counted);
      over = s.over;
      stand = subst (PartsStand m armed t first s.journal) (sym same) stand;
      marked = λ some.
          let told : WhereTold (λ calls. IsOverAt (over_of new) (answers calls))
          (m.facts (net_of new)).calls = marks_over (marks_of new) (past_of s.journal)
          (m.facts (net_of new)).calls (omega
          (arith, some, ap (λ (marks : WaitMarks). marks.over) marks)) s.stands.tracks.marks in
          subst (λ (n : M). WhereTold (λ calls. IsOverAt (over_of core) (answers calls))
          (m.facts n).calls) (sym net ∙ sym (ap (λ (p : Parts N M Q W V). p.net) same))
          (subst (λ (k : ℕ). WhereTold (λ calls. IsOverAt k (answers calls))
          (m.facts (net_of new)).calls) (ap (λ (marks : WaitMarks). marks.over) marks) told);
      broken = λ before. broke t parts.watch s.journal before
          (subst (λ (p : Parts N M Q W V). m.watched t p.watch s.journal) (sym same) stand.watch);
    }

-- ---- a journal that is over is whole

front_none : {A : Type 0} (xs ys : List A) → xs ++ ys ≡ [] → xs ≡ []
front_none [] ys q = refl
front_none (x ∷ xs) ys q = cc

last_none : {A : Type 0} (xs ys : List A) → xs ++ ys ≡ [] → ys ≡ []
last_none [] ys q = q
last_none (x ∷ xs) ys q = absurd cc

closed_by : (b : Bool) (live : LiveHandle) → option_to_list (if b then None else Some live) ≡ []
    → b ≡ true
closed_by true live q = refl
closed_by false live q = absurd cc

all_closed : {N : Type 0} (past : List (Entry N)) (n : ℕ) → listed (live_handle past) n ≡ []
    → all_below n (was_closed past) ≡ true
all_closed past zero q = refl
all_closed past (suc n) q =
    and_from (was_closed past n) (all_below n (was_closed past))
    (closed_by (was_closed past n) _ (last_none (listed (live_handle past) n)
    (option_to_list (live_handle past n)) q))
    (all_closed past n (front_none (listed (live_handle past) n)
    (option_to_list (live_handle past n)) q))

pub whole_of_over : {N : Type 0} (most : ℕ) (journal : List (Entry N)) → Legal journal most
    → IsShutDown (sum journal) → IsWhole most journal
whole_of_over most journal legal over =
    let tells = told most (past_of journal) legal in
    record {
      legal = legal;
      stopped = sym tells.ended ∙ over.ended;
      closed = all_closed (past_of journal) (opened (past_of journal))
          (sym tells.handles ∙ over.none_live);
    }
