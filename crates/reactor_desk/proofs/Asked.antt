-- What a caller's requests leave of a desk.
use Rattle.std.proofs.Common.{ℕ, ◌≡◌, Bool, true, false, not, List, [], ◌∷◌, ◌++◌, refl, sym, ap}
use Rattle.std.proofs.Common.{subst, append-nil, Option, Some, None, Result, Ok, Err}
use Rattle.std.proofs.lemmas.Bool.{and_from}
use Rattle.std.proofs.lemmas.List.{append_assoc}
use Rattle.std.specs.List.{list_all}
use Rattle.ev_base.specs.ev_types.specs.declared.upcall.Handle.{Handle}
use Rattle.ev_base.specs.ev_types.specs.declared.upcall.Mask.{Mask}
use Rattle.reactor_model.specs.reactor_journal.specs.declared.entry.Entry.{Entry}
use Rattle.reactor_model.specs.reactor_journal.specs.declared.entry.Entry.TheVariants.{Removed}
use Rattle.reactor_model.specs.reactor_journal.specs.declared.entry.Entry.TheVariants.{Ended}
use Rattle.reactor_model.specs.reactor_journal.specs.Past.{past_of}
use Rattle.reactor_core.specs.reactor_summary.specs.Summary.{Summary, summary}
use Rattle.laws_by_turns.specs.ByTurns.{is_dispatching}
use Rattle.reactor_core.specs.Acting.{StopAppends}
use Rattle.reactor_core.specs.Offering.{RegisterGives}
use Rattle.reactor_core.specs.Registering.{registered}
use Rattle.reactor_core.specs.Removing.{Removes, StopsOnce}
use Rattle.reactor_core.specs.Requests.{GoesOnBy}
use Rattle.reactor_core.specs.Settling.{IsClosing}
use Rattle.reactor_core.specs.Stands.{Meaning, Stands, StandsAsBefore}
use Rattle.reactor_core.specs.declared.reactor.Core.{Core}
use Rattle.reactor_core.specs.declared.registering.RegisterRefused.{RegisterRefused}
use Rattle.reactor_core.specs.declared.registering.RegisterRefused.TheVariants as refused
use Rattle.reactor_desk.specs.Asking.{MayAsk, DeskAsBefore, DeskGoesOnBy, DeskRegisters}
use Rattle.reactor_desk.specs.Asking.{DeskRemoves, DeskStops}
use Rattle.reactor_desk.specs.Desks.{DeskStands}
use Rattle.reactor_desk.specs.declared.terms.DeskTerms.{DeskTerms}
use Rattle.reactor_desk.specs.declared.desk.Desk.{Desk}
use Rattle.reactor_desk.proofs.Dispatched.{desk_same}
use Rattle.reactor_desk.proofs.Requested.{NoneDispatching, desk_asked}
use Rattle.reactor_desk.proofs.Settled.{removals_none}

none_named : {A : Type 0} (o : Option A) (a : A) → o ≡ None → o ≡ Some a → ⊥
none_named o a none some = cc

abbrev none_test : {N : Type 0} → List (Entry N) → Bool
none_test es = list_all (λ e. not (is_dispatching e)) es

closing_none : {N : Type 0} (closes : Bool) (handle : Handle) (es : List (Entry N))
    → IsClosing closes handle es → NoneDispatching (Removed handle ∷ es)
closing_none true handle es is = ap (λ k. none_test (Removed handle ∷ k)) is.1
closing_none false handle es is = ap (λ k. none_test (Removed handle ∷ k)) is

registered_none : (N : Type 0) (s : Summary) (handle : Handle) (mask : Mask)
    (timer : Option (ℕ × ℕ)) → NoneDispatching {N = N} (registered s handle mask timer)
registered_none N s handle mask None = refl
registered_none N s handle mask (Some timer) = refl

module _ {H M Q W V N E : Type 0} (m : Meaning H M Q W V N E) (old : Desk H M Q W V N E)
    (core : Core H M Q W V N E) (size : core.volume ≡ old.core.volume) where
  abbrev new : Desk H M Q W V N E
  new = record { core = core; drainer = old.drainer }

  asked : (q : DeskTerms) (F : ℕ) (h es : List (Entry N)) → NoneDispatching es → MayAsk q
      → DeskStands m q F old h → Stands m q.run core F (h ++ es) → DeskStands m q F new (h ++ es)
  asked q F h es none may o stands =
      desk_asked m q F h es old core size none
      (λ b named. absurd (none_named q.run.by_turn b may named))
      o stands

  -- one entry more
  pub goes_on : (e : Summary → Entry N) → ((s : Summary) → not (is_dispatching (e s)) ≡ true)
      → GoesOnBy m old.core e core → DeskGoesOnBy m old e new
  goes_on e other goes = λ q F h o may.
      asked q F h (e (summary (past_of h)) ∷ [])
      (and_from _ true (other (summary (past_of h))) refl) may o (goes q.run F h o.core)

  pub as_before : StandsAsBefore m old.core core → DeskAsBefore m old new
  as_before stands = λ q F h o. desk_same m q F h old core size o (stands q.run F h o.core)

  pub registers : (q : DeskTerms) (F : ℕ) (h : List (Entry N)) (mask : Mask)
      (timer : Option (ℕ × ℕ)) (result : Result Handle (H × RegisterRefused)) → MayAsk q
      → DeskStands m q F old h → RegisterGives m q.run F h mask timer old.core result core
      → DeskRegisters m q F h mask timer old result new
  registers q F h mask timer (Ok handle) may o g =
      record {
        gives = g;
        stands = asked q F h (registered (summary (past_of h)) handle mask timer)
            (registered_none N (summary (past_of h)) handle mask timer) may o g.2;
      }
  registers q F h mask timer (Err (back, refused.Stopped)) may o g =
      record { gives = g; stands = desk_same m q F h old core size o g.1.stands }
  registers q F h mask timer (Err (back, refused.Full live opened)) may o g =
      record { gives = g; stands = desk_same m q F h old core size o g.4.stands }
  registers q F h mask timer (Err (back, refused.NoMemory)) may o g =
      record { gives = g; stands = desk_same m q F h old core size o g.1.stands }
  registers q F h mask timer (Err (back, refused.NetFailed)) may o g =
      record { gives = g; stands = desk_same m q F h old core size o g.2.stands }

  pub removes : (q : DeskTerms) (F : ℕ) (h : List (Entry N)) (handle : Handle) → MayAsk q
      → DeskStands m q F old h → Removes m q.run F h handle core → DeskRemoves m q F h handle new
  removes q F h handle may o r =
      let joined : (h ++ Removed handle ∷ []) ++ r.entries ≡ h ++ (Removed handle ∷ r.entries) =
      append_assoc h (Removed handle ∷ []) r.entries in
      record {
        entries = r.entries;
        closing = r.closing;
        stands = subst (DeskStands m q F new) (sym joined)
            (asked q F h (Removed handle ∷ r.entries) (closing_none _ handle r.entries r.closing)
            may o (subst (Stands m q.run core F) joined r.stands));
      }

  -- what a stop appends, by whether there was one before
  record Stopping (q : DeskTerms) (F : ℕ) (h : List (Entry N)) (ended : Bool) : Type 0 where
    pub entries : List (Entry N)
    pub appends : StopAppends (summary (past_of h)) ended entries
    pub none : NoneDispatching entries
    pub stands : Stands m q.run core F (h ++ entries)

  stopping : (q : DeskTerms) (F : ℕ) (h : List (Entry N)) (ended : Bool)
      → StopsOnce m q.run F h core ended → Stopping q F h ended
  stopping q F h true s = record {
    entries = [];
    appends = refl;
    none = refl;
    stands = subst (Stands m q.run core F) (sym (append-nil h)) s;
  }
  stopping q F h false s = record {
    entries = Ended ∷ s.entries;
    appends = (s.entries, s.removals, refl);
    none = removals_none _ _ s.entries s.removals;
    stands = subst (Stands m q.run core F) (append_assoc h (Ended ∷ []) s.entries) s.stands;
  }

  pub stops : (q : DeskTerms) (F : ℕ) (h : List (Entry N)) → MayAsk q → DeskStands m q F old h
      → StopsOnce m q.run F h core (summary (past_of h)).ended → DeskStops m q F h new
  stops q F h may o s =
      let p : Stopping q F h (summary (past_of h)).ended =
      stopping q F h (summary (past_of h)).ended s in
      record {
        entries = p.entries;
        appends = p.appends;
        stands = asked q F h p.entries p.none may o p.stands;
      }
