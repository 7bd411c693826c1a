-- Entries of turns and of what callers ask for: they record no notification, and tell of no wait
-- and no start.
use Rattle.std.proofs.Common.{ℕ, ◌≡◌, true, false, not, List, [], ◌∷◌, ◌++◌, filter, refl, sym, ap}
use Rattle.std.proofs.Common.{◌∙◌, subst, arith, append-nil, Some}
use Rattle.std.proofs.lemmas.Bool.{false≢true, and_parts}
use Rattle.std.proofs.lemmas.List.Elements.{filter-append}
use Rattle.std.specs.List.{list_all}
use Rattle.reactor_model.specs.reactor_journal.specs.declared.entry.Entry.{Entry}
use Rattle.reactor_model.specs.reactor_journal.specs.declared.entry.Entry.TheVariants.{Opened}
use Rattle.reactor_model.specs.reactor_journal.specs.declared.entry.Entry.TheVariants.{Scheduled}
use Rattle.reactor_model.specs.reactor_journal.specs.declared.entry.Entry.TheVariants.{Cancelled}
use Rattle.reactor_model.specs.reactor_journal.specs.declared.entry.Entry.TheVariants.{Polled, Due}
use Rattle.reactor_model.specs.reactor_journal.specs.declared.entry.Entry.TheVariants.{Ready}
use Rattle.reactor_model.specs.reactor_journal.specs.declared.entry.Entry.TheVariants.{Posted}
use Rattle.reactor_model.specs.reactor_journal.specs.declared.entry.Entry.TheVariants.{Stale}
use Rattle.reactor_model.specs.reactor_journal.specs.declared.entry.Entry.TheVariants.{Started}
use Rattle.reactor_model.specs.reactor_journal.specs.declared.entry.Entry.TheVariants.{Returned}
use Rattle.reactor_model.specs.reactor_journal.specs.declared.entry.Entry.TheVariants.{Masked}
use Rattle.reactor_model.specs.reactor_journal.specs.declared.entry.Entry.TheVariants.{Suspended}
use Rattle.reactor_model.specs.reactor_journal.specs.declared.entry.Entry.TheVariants.{Resumed}
use Rattle.reactor_model.specs.reactor_journal.specs.declared.entry.Entry.TheVariants.{Refused}
use Rattle.reactor_model.specs.reactor_journal.specs.declared.entry.Entry.TheVariants.{Removed}
use Rattle.reactor_model.specs.reactor_journal.specs.declared.entry.Entry.TheVariants.{Closed}
use Rattle.reactor_model.specs.reactor_journal.specs.declared.entry.Entry.TheVariants.{Ended}
use Rattle.reactor_model.specs.reactor_journal.specs.Past.{count}
use Rattle.notify_ring.specs.Words.{drainer_view}
use Rattle.reactor_core.specs.Marks.{is_polled}
use Rattle.reactor_core.specs.Stands.{Meaning, Stands}
use Rattle.reactor_core.specs.declared.reactor.Core.{Core}
use Rattle.laws_by_turns.specs.ByTurns.{GoesByTurns, is_dispatching}
use Rattle.reactor_desk.specs.Notices.{AreRecorded}
use Rattle.reactor_model.specs.Entries.{is_notice}
use Rattle.reactor_desk.specs.Desks.{DeskStands, is_started}
use Rattle.reactor_desk.specs.declared.terms.DeskTerms.{DeskTerms}
use Rattle.reactor_desk.specs.declared.desk.Desk.{Desk}
use Rattle.reactor_desk.proofs.Counting.{count_more}

-- none of them is one that a wait, a notification or a start brings
abbrev pub NoneDispatching : {N : Type 0} → List (Entry N) → Type 0
NoneDispatching es = list_all (λ e. not (is_dispatching e)) es ≡ true

record Other {N : Type 0} (e : Entry N) : Type 0 where
  pub notice : is_notice e ≡ false
  pub polled : is_polled e ≡ false
  pub started : is_started e ≡ false

other : {N : Type 0} (e : Entry N) → not (is_dispatching e) ≡ true → Other e
other (Opened handle mask) n = record { notice = refl; polled = refl; started = refl }
other (Scheduled timer handle first every) n =
    record { notice = refl; polled = refl; started = refl }
other (Cancelled timer) n = record { notice = refl; polled = refl; started = refl }
other (Polled moment) n = absurd (false≢true n)
other (Due timer) n = absurd (false≢true n)
other (Ready handle kind) n = absurd (false≢true n)
other (Posted handle kind from seq) n = absurd (false≢true n)
other (Stale handle from seq) n = absurd (false≢true n)
other (Started event) n = absurd (false≢true n)
other (Returned event answer note) n = record { notice = refl; polled = refl; started = refl }
other (Masked handle mask) n = record { notice = refl; polled = refl; started = refl }
other (Suspended handle) n = record { notice = refl; polled = refl; started = refl }
other (Resumed handle) n = record { notice = refl; polled = refl; started = refl }
other (Refused live fault note) n = record { notice = refl; polled = refl; started = refl }
other (Removed handle) n = record { notice = refl; polled = refl; started = refl }
other (Closed handle note) n = record { notice = refl; polled = refl; started = refl }
other Ended n = record { notice = refl; polled = refl; started = refl }

pub no_notices : {N : Type 0} (es : List (Entry N)) → NoneDispatching es → filter is_notice es ≡ []
no_notices [] n = refl
no_notices (e ∷ es) n = let p : (not (is_dispatching e) ≡ true) × NoneDispatching es =
    and_parts _ _ n in rw ((other e p.0).notice) (no_notices es p.1)

pub no_waits : {N : Type 0} (es : List (Entry N)) → NoneDispatching es → count is_polled es ≡ 0
no_waits [] n = refl
no_waits (e ∷ es) n = let p : (not (is_dispatching e) ≡ true) × NoneDispatching es =
    and_parts _ _ n in rw ((other e p.0).polled) (no_waits es p.1)

pub no_starts : {N : Type 0} (es : List (Entry N)) → NoneDispatching es → count is_started es ≡ 0
no_starts [] n = refl
no_starts (e ∷ es) n = let p : (not (is_dispatching e) ≡ true) × NoneDispatching es =
    and_parts _ _ n in rw ((other e p.0).started) (no_starts es p.1)

module _ {H M Q W V N E : Type 0} (m : Meaning H M Q W V N E) (q : DeskTerms) (F : ℕ)
    (h es : List (Entry N)) (old : Desk H M Q W V N E) (core : Core H M Q W V N E)
    (size : core.volume ≡ old.core.volume) where
  -- the desk stands for the history and such entries, when its core does and they go by turns, if
  -- the terms ask for that
  pub desk_asked : NoneDispatching es
      → ((b : ℕ) → q.run.by_turn ≡ Some b → GoesByTurns m.means q.run b (h ++ es))
      → DeskStands m q F old h → Stands m q.run core F (h ++ es)
      → DeskStands m q F (record { core = core; drainer = old.drainer }) (h ++ es)
  desk_asked none turns o stands = record {
    core = stands;
    by_turn = turns;
    volume = size ∙ o.volume;
    filled = o.filled;
    ring = o.ring;
    recorded =
        subst (λ k. AreRecorded k (drainer_view old.drainer).got)
        (sym (filter-append is_notice h es
        ∙ (ap (λ k. filter is_notice h ++ k) (no_notices es none)
        ∙ append-nil (filter is_notice h))))
        o.recorded;
    waits = omega (arith, count_more is_polled q.found h es, no_waits es none, o.waits);
    starts = omega (arith, count_more is_started q.found h es, no_starts es none, o.starts);
  }
