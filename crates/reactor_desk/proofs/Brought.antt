-- The entries of a wait, and of a start.
use Rattle.std.proofs.Common.{ℕ, ◌≡◌, ◌≤◌, ◌+◌, true, List, [], ◌∷◌, ◌++◌, map, filter, drop, refl}
use Rattle.std.proofs.Common.{sym, ap, ◌∙◌, subst, arith, append-nil}
use Rattle.std.proofs.lemmas.Bool.{and_from}
use Rattle.std.proofs.lemmas.List.Elements.{filter-append}
use Rattle.std.proofs.lemmas.List.Folds.{list_all-append}
use Rattle.std.specs.List.{list_all}
use Rattle.ev_base.specs.declared.net.Report.{Report}
use Rattle.notify_ring.specs.Words.{drainer_view}
use Rattle.reactor_model.specs.reactor_journal.specs.declared.entry.Entry.{Entry}
use Rattle.reactor_model.specs.reactor_journal.specs.declared.entry.Entry.TheVariants.{Polled}
use Rattle.reactor_model.specs.reactor_journal.specs.declared.entry.Entry.TheVariants.{Started}
use Rattle.reactor_model.specs.reactor_journal.specs.Past.{count}
use Rattle.reactor_core.specs.Marks.{is_polled}
use Rattle.reactor_core.specs.Polling.{due_of, ready_of}
use Rattle.reactor_core.specs.Stands.{Meaning, Stands}
use Rattle.reactor_core.specs.declared.reactor.Core.{Core}
use Rattle.reactor_desk.specs.Notices.{AreRecorded}
use Rattle.reactor_model.specs.Entries.{is_notice}
use Rattle.reactor_desk.specs.Desks.{DeskStands, is_started}
use Rattle.reactor_desk.specs.declared.terms.DeskTerms.{DeskTerms}
use Rattle.reactor_desk.specs.declared.desk.Desk.{Desk}
use Rattle.reactor_desk.proofs.Counting.{count_append, count_more}
use Rattle.laws_by_turns.specs.ByTurns.{is_dispatching}
use Rattle.laws_by_turns.proofs.Turns.{by_turns_more}

-- entries that leave a journal by turns so, record no notification, and tell of so many waits and
-- starts
pub record Brings {N : Type 0} (es : List (Entry N)) (waits starts : ℕ) : Type 0 where
  pub dispatching : list_all is_dispatching es ≡ true
  pub no_notice : filter is_notice es ≡ []
  pub waited : count is_polled es ≡ waits
  pub began : count is_started es ≡ starts

pub brings_nil : (N : Type 0) → Brings {N = N} [] 0 0
brings_nil N = record { dispatching = refl; no_notice = refl; waited = refl; began = refl }

pub brings_both : {N : Type 0} (es fs : List (Entry N)) (a b c d : ℕ) → Brings es a b
    → Brings fs c d → Brings (es ++ fs) (a + c) (b + d)
brings_both es fs a b c d x y = record {
  dispatching = list_all-append is_dispatching es fs ∙ and_from _ _ x.dispatching y.dispatching;
  no_notice = filter-append is_notice es fs
      ∙ (ap (λ k. k ++ filter is_notice fs) x.no_notice ∙ y.no_notice);
  waited = omega (arith, count_append is_polled es fs, x.waited, y.waited);
  began = omega (arith, count_append is_started es fs, x.began, y.began);
}

pub brings_dues : (N : Type 0) (timers : List ℕ) → Brings {N = N} (map due_of timers) 0 0
brings_dues N [] = brings_nil N
brings_dues N (timer ∷ timers) = let b : Brings {N = N} (map due_of timers) 0 0 =
    brings_dues N timers in record {
      dispatching = b.dispatching;
      no_notice = b.no_notice;
      waited = b.waited;
      began = b.began;
    }

pub brings_readies : (N : Type 0) (reports : List Report)
    → Brings {N = N} (map ready_of reports) 0 0
brings_readies N [] = brings_nil N
brings_readies N (report ∷ reports) = let b : Brings {N = N} (map ready_of reports) 0 0 =
    brings_readies N reports in record {
      dispatching = b.dispatching;
      no_notice = b.no_notice;
      waited = b.waited;
      began = b.began;
    }

pub brings_wait : (N : Type 0) (moment : ℕ) (timers : List ℕ) (reports : List Report)
    → Brings {N = N} (Polled moment ∷ (map due_of timers ++ map ready_of reports)) 1 0
brings_wait N moment timers reports =
    let b : Brings {N = N} (map due_of timers ++ map ready_of reports) 0 0 =
    brings_both (map due_of timers) (map ready_of reports) 0 0 0 0 (brings_dues N timers)
    (brings_readies N reports) in
    record {
      dispatching = b.dispatching;
      no_notice = b.no_notice;
      waited = omega (arith, b.waited);
      began = b.began;
    }

pub brings_start : {N : Type 0} (event : ℕ) → Brings {N = N} (Started event ∷ []) 0 1
brings_start event = record { dispatching = refl; no_notice = refl; waited = refl; began = refl }

module _ {H M Q W V N E : Type 0} (m : Meaning H M Q W V N E) (q : DeskTerms) (F : ℕ)
    (h es : List (Entry N)) (old : Desk H M Q W V N E) (core : Core H M Q W V N E)
    (size : core.volume ≡ old.core.volume) where
  -- the desk stands for the history and these entries, if its core does and its drainer looked
  -- often enough
  pub desk_more : (waits starts : ℕ) → Brings es waits starts → DeskStands m q F old h
      → Stands m q.run core F (h ++ es)
      → count is_polled (drop q.found h) + waits ≤ (drainer_view old.drainer).loads
      → count is_started (drop q.found h) + starts ≤ (drainer_view old.drainer).loads
      → DeskStands m q F (record { core = core; drainer = old.drainer }) (h ++ es)
  desk_more waits starts b o stands enough_waits enough_starts = record {
    core = stands;
    by_turn = λ n named. by_turns_more m.means q.run n h es b.dispatching (o.by_turn n named);
    volume = size ∙ o.volume;
    filled = o.filled;
    ring = o.ring;
    recorded =
        subst (λ k. AreRecorded k (drainer_view old.drainer).got)
        (sym (filter-append is_notice h es
        ∙ (ap (λ k. filter is_notice h ++ k) b.no_notice ∙ append-nil (filter is_notice h))))
        o.recorded;
    waits = omega (arith, count_more is_polled q.found h es, b.waited, enough_waits);
    starts = omega (arith, count_more is_started q.found h es, b.began, enough_starts);
  }
