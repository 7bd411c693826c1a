-- One posting taken from the ring is one entry.
use Rattle.std.proofs.Common.{ℕ, ◌≡◌, ◌+◌, Bool, true, false, ◌&&◌, if◌then◌else◌, List, [], ◌∷◌}
use Rattle.std.proofs.Common.{◌++◌, filter, refl, sym, ap, ◌∙◌, subst, arith, Some, None, Result}
use Rattle.std.proofs.Common.{Ok, Err}
use Rattle.std.proofs.lemmas.Bool.{eqb-true}
use Rattle.std.proofs.lemmas.List.Elements.{filter-append}
use Rattle.ev_base.specs.ev_types.specs.declared.refusal.NoMemory.{NoMemory}
use Rattle.reactor_model.specs.reactor_journal.specs.declared.entry.Entry.{Entry}
use Rattle.reactor_model.specs.reactor_journal.specs.declared.entry.Entry.TheVariants.{Posted}
use Rattle.reactor_model.specs.reactor_journal.specs.declared.entry.Entry.TheVariants.{Stale}
use Rattle.reactor_model.specs.reactor_journal.specs.Past.{past_of, count}
use Rattle.reactor_core.specs.reactor_summary.specs.Summary.{summary, is_alive}
use Rattle.notify_ring.specs.Passes.{HasLooked, HasTaken}
use Rattle.notify_ring.specs.Words.{drainer_ring, drainer_view}
use Rattle.notify_ring.specs.declared.parts.Drainer.{Drainer}
use Rattle.notify_ring.specs.declared.posting.Posting.{Posting}
use Rattle.notify_ring.specs.declared.view.View.{View}
use Rattle.reactor_core.specs.Marks.{is_polled}
use Rattle.reactor_core.specs.Postings.{posting}
use Rattle.reactor_core.specs.Stands.{Meaning, Stands}
use Rattle.reactor_core.specs.declared.reactor.Core.{Core}
use Rattle.reactor_desk.specs.Notices.{Records, AreRecorded}
use Rattle.reactor_model.specs.Entries.{is_notice}
use Rattle.reactor_desk.specs.Desks.{DeskStands, is_started}
use Rattle.reactor_desk.specs.Draining.{DrainsOne}
use Rattle.reactor_desk.specs.declared.terms.DeskTerms.{DeskTerms}
use Rattle.reactor_desk.specs.declared.desk.Desk.{Desk}
use Rattle.reactor_desk.proofs.Counting.{count_more}
use Rattle.laws_by_turns.specs.ByTurns.{is_dispatching}
use Rattle.laws_by_turns.proofs.Turns.{by_turns_more}

pub recorded_more : {N : Type 0} (es : List (Entry N)) (xs : List Posting) (e : Entry N)
    (x : Posting) → AreRecorded es xs → Records e x → AreRecorded (es ++ e ∷ []) (xs ++ x ∷ [])
recorded_more [] [] e x h r = (r, tt)
recorded_more [] (y ∷ xs) e x h r = absurd h
recorded_more (f ∷ es) [] e x h r = absurd h
recorded_more (f ∷ es) (y ∷ xs) e x h r = (h.0, recorded_more es xs e x h.1 r)

-- the entry of a posting
record IsEntryOf {N : Type 0} (x : Posting) (e : Entry N) : Type 0 where
  pub notice : is_notice e ≡ true
  pub dispatching : is_dispatching e ≡ true
  pub records : Records e x
  pub polled : is_polled e ≡ false
  pub started : is_started e ≡ false

entry_of : {N : Type 0} (b : Bool) (x : Posting)
    → IsEntryOf {N = N} x (if b then Posted x.handle x.kind x.from x.seq else Stale x.handle x.from
    x.seq)
entry_of true x = record {
  notice = refl;
  dispatching = refl;
  records = (refl, refl, refl, refl);
  polled = refl;
  started = refl;
}
entry_of false x = record {
  notice = refl;
  dispatching = refl;
  records = (refl, refl, refl);
  polled = refl;
  started = refl;
}

module _ {H M Q W V N E : Type 0} (m : Meaning H M Q W V N E) (q : DeskTerms) (F : ℕ)
    (h : List (Entry N)) (old : Desk H M Q W V N E) (core : Core H M Q W V N E) (drainer : Drainer)
    (size : core.volume ≡ old.core.volume)
  where
    pub drained_one : (x : Posting) → DeskStands m q F old h
        → Stands m q.run core F (h ++ posting (summary (past_of h)) x.handle x.kind x.from x.seq
        ∷ [])
        → drainer_ring drainer ≡ drainer_ring old.drainer
        → HasTaken (drainer_view old.drainer) (Some x) (drainer_view drainer)
        → DrainsOne m q F h (Ok true) old (record { core = core; drainer = drainer })
    drained_one x o stands ring taken =
        let e : Entry N = posting (summary (past_of h)) x.handle x.kind x.from x.seq in
        let is : IsEntryOf x e = entry_of (is_alive (summary (past_of h)) x.handle.0) x in
        let loads : (drainer_view drainer).loads ≡ (drainer_view old.drainer).loads + 1 =
        ap (λ (v : View). v.loads) taken.1 in
        let none_polled : count is_polled (e ∷ []) ≡ 0 =
        ap (λ (b : Bool). if b then 1 else 0) is.polled in
        let none_started : count is_started (e ∷ []) ≡ 0 =
        ap (λ (b : Bool). if b then 1 else 0) is.started in (
          omega (arith, loads),
          record {
            notice = e;
            is = is.notice;
            stands = record {
              core = stands;
              by_turn = λ b named. by_turns_more m.means q.run b h (e ∷ [])
                  (ap (λ c. c && true) is.dispatching) (o.by_turn b named);
              volume = size ∙ o.volume;
              filled = o.filled;
              ring = ring ∙ o.ring;
              recorded =
                  subst (AreRecorded (filter is_notice (h ++ e ∷ [])))
                  (sym (ap (λ (v : View). v.got) taken.1))
                  (subst (λ es. AreRecorded es ((drainer_view old.drainer).got ++ x ∷ []))
                  (sym (filter-append is_notice h (e ∷ [])
                  ∙ ap (λ (b : Bool). filter is_notice h ++ (if b then e ∷ [] else []))
                  is.notice))
                  (recorded_more (filter is_notice h) (drainer_view old.drainer).got e x o.recorded
                  is.records));
              waits = omega (
                arith,
                count_more is_polled q.found h (e ∷ []),
                o.waits,
                loads,
                none_polled,
              );
              starts = omega (
                arith,
                count_more is_started q.found h (e ∷ []),
                o.starts,
                loads,
                none_started,
              );
            };
          },
        )

    pub found_empty : DeskStands m q F old h → Stands m q.run core F h
        → drainer_ring drainer ≡ drainer_ring old.drainer
        → HasTaken (drainer_view old.drainer) None (drainer_view drainer)
        → DrainsOne m q F h (Ok false) old (record { core = core; drainer = drainer })
    found_empty o stands ring taken =
        let loads : (drainer_view drainer).loads ≡ (drainer_view old.drainer).loads + 1 =
        ap (λ (v : View). v.loads) taken in (
          omega (arith, loads),
          ap (λ (v : View). v.gate) taken,
          record {
            core = stands;
            by_turn = o.by_turn;
            volume = size ∙ o.volume;
            filled = o.filled;
            ring = ring ∙ o.ring;
            recorded = subst (AreRecorded (filter is_notice h))
                (sym (ap (λ (v : View). v.got) taken))
                o.recorded;
            waits = omega (arith, o.waits, loads);
            starts = omega (arith, o.starts, loads);
          },
        )

    -- the core alone changed, and stands as before
    pub stands_still : DeskStands m q F old h → Stands m q.run core F h
        → DeskStands m q F (record { core = core; drainer = old.drainer }) h
    stands_still o stands = record {
      core = stands;
      by_turn = o.by_turn;
      volume = size ∙ o.volume;
      filled = o.filled;
      ring = o.ring;
      recorded = o.recorded;
      waits = o.waits;
      starts = o.starts;
    }

-- ---- a look that takes nothing

-- one that found the gate empty is that of a `next` that answers None
pub looked_none : (v w : View) → HasLooked v true w → HasTaken v None w
looked_none v w look = look.1 ∙ ap (λ g. record v { loads = v.loads + 1; gate = g })
    (eqb-true w.gate 0 (sym look.0))

module _ {H M Q W V N E : Type 0} (m : Meaning H M Q W V N E) (q : DeskTerms) (F : ℕ)
    (h : List (Entry N)) (old mid : Desk H M Q W V N E) where
  pub has_looked : mid.core ≡ old.core → drainer_ring mid.drainer ≡ drainer_ring old.drainer
      → HasLooked (drainer_view old.drainer) false (drainer_view mid.drainer)
      → DeskStands m q F old h → DeskStands m q F mid h
  has_looked core ring look o = record {
    core = subst (λ c. Stands m q.run c F h) (sym core) o.core;
    by_turn = o.by_turn;
    volume = ap (λ (c : Core H M Q W V N E). c.volume) core ∙ o.volume;
    filled = o.filled;
    ring = ring ∙ o.ring;
    recorded = subst (AreRecorded (filter is_notice h)) (sym (ap (λ (v : View). v.got) look.1))
        o.recorded;
    waits = omega (arith, o.waits, ap (λ (v : View). v.loads) look.1);
    starts = omega (arith, o.starts, ap (λ (v : View). v.loads) look.1);
  }

  pub then_drains : (result : Result Bool NoMemory) (new : Desk H M Q W V N E)
      → HasLooked (drainer_view old.drainer) false (drainer_view mid.drainer)
      → DrainsOne m q F h result mid new → DrainsOne m q F h result old new
  then_drains (Ok true) new look one =
      (omega (arith, one.0, ap (λ (v : View). v.loads) look.1), one.1)
  then_drains (Ok false) new look one =
      (omega (arith, one.0, ap (λ (v : View). v.loads) look.1), one.1, one.2)
  then_drains (Err refused) new look one =
      (omega (arith, one.0, ap (λ (v : View). v.loads) look.1), one.1)
