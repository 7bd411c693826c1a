-- The settling of an upcall under the token.
use Rattle.std.proofs.Common.{ℕ, ◌≡◌, Bool, true, false, List, [], ◌∷◌, ◌++◌, refl, sym, ap, ◌∙◌}
use Rattle.std.proofs.Common.{subst, arith, cond, Some, None}
use Rattle.leader_token.specs.Lists.{is_event}
use Rattle.leader_token.specs.declared.kept.View.{View}
use Rattle.reactor_model.specs.reactor_journal.specs.declared.entry.Entry.{Entry}
use Rattle.reactor_model.specs.reactor_journal.specs.Past.{past_of, is_open}
use Rattle.reactor_model.specs.reactor_journal.specs.Follow.{is_legal}
use Rattle.reactor_model.specs.reactor_journal.proofs.Turning.{past_of-append}
use Rattle.reactor_core.specs.Settling.{returned}
use Rattle.reactor_core.specs.Stands.{Meaning}
use Rattle.reactor_core.specs.Upcalls.{DoneFits}
use Rattle.reactor_core.specs.declared.acting.Settled.{Settled}
use Rattle.reactor_core.specs.declared.job.Done.{Done}
use Rattle.reactor_core.proofs.Still.{fits_still}
use Rattle.reactor_desk.specs.Desks.{DeskStands, KeepsMarks}
use Rattle.reactor_core.specs.laws_turns.proofs.Opens.{opens_are}
use Rattle.reactor_desk.specs.Settling.{SettlesDesk}
use Rattle.reactor_desk.specs.declared.terms.DeskTerms.{DeskTerms}
use Rattle.reactor_desk.specs.declared.desk.Desk.{Desk}
use Rattle.reactor_desk.proofs.Settled.{settled_opens, settled_begins}
use Rattle.tp_reactor.specs.Settled.{HasSettled}
use Rattle.tp_reactor.proofs.Turns.{Got, Put, Holds, finds, leaves}

is_open_at : (b : Bool) → cond {A = ℕ} b 1 0 ≡ 1 → b ≡ true
is_open_at true q = refl
is_open_at false q = absurd (omega (arith, q))

module _ {H M Q W V N E : Type 0} (m : Meaning H M Q W V N E) (v mid : View (Entry N) DeskTerms)
    (found : Desk H M Q W V N E) (got : Got m v found mid) (done : Done H N E) where
  -- what fits what the caller saw fits what it found
  pub fits_now : v.mine ≡ Some done.event → DoneFits m.means v.terms.run (past_of v.seen) done
      → DoneFits m.means v.terms.run (past_of got.list) done
  fits_now mine fits =
      let list : past_of got.list ≡ past_of got.seen.0 ++ past_of v.seen =
      ap past_of (sym got.seen.1) ∙ past_of-append v.seen got.seen.0 in
      let legal : is_legal v.terms.run.most (past_of got.list) ≡ true =
      got.stood.core.tracks.legal in
      let open_now : is_open (past_of got.list) done.event ≡ true =
      is_open_at _ (sym (opens_are v.terms.run.most (past_of got.list) done.event legal)
      ∙ (got.own done.event mine)) in
      subst (λ k. DoneFits m.means v.terms.run k done) (sym list)
      (fits_still m.means v.terms.run (past_of got.seen.0) (past_of v.seen) done
      (subst (λ k. is_legal v.terms.run.most k ≡ true) list legal) fits
      (subst (λ k. is_open k done.event ≡ true) list open_now))

module _ {H M Q W V N E : Type 0} (m : Meaning H M Q W V N E) (v mid : View (Entry N) DeskTerms)
    (found lent left : Desk H M Q W V N E) (got : Got m v found mid) (done : Done H N E)
    (settled : Settled) where
  -- what the settling of the desk says
  abbrev pub DeskSettles : Desk H M Q W V N E → Type 0
  DeskSettles old = (q : DeskTerms) (F : ℕ) (h : List (Entry N)) → DeskStands m q F old h
      → DoneFits m.means q.run (past_of h) done → SettlesDesk m q F h done old left settled

  pub settles_of : lent ≡ found → DeskSettles lent → v.mine ≡ Some done.event
      → DoneFits m.means v.terms.run (past_of v.seen) done
      → SettlesDesk m v.terms got.first got.list done found left settled
  settles_of same settles mine fits =
      subst DeskSettles same settles v.terms got.first got.list got.stood
      (fits_now m v mid found got done mine fits)

module _ {H M Q W V N E : Type 0} (m : Meaning H M Q W V N E) (v mid : View (Entry N) DeskTerms)
    (found left : Desk H M Q W V N E) (got : Got m v found mid) (done : Done H N E)
    (settled : Settled) where
  pub held_settle : (s : SettlesDesk m v.terms got.first got.list done found left settled)
      → v.mine ≡ Some done.event → DoneFits m.means v.terms.run (past_of v.seen) done
      → KeepsMarks m found left
      → Holds m v mid found left got (((got.list ++ returned done ∷ []) ++ s.settles.closing)
      ++ s.settles.acted) None
  held_settle s mine fits kept = record {
    first = got.first;
    within = got.stood.core.tracks.journal.within;
    stands = s.stands;
    begins = settled_begins m v.terms got.first got.list done found left.core settled s.settles;
    changes = λ e. omega (
      arith,
      settled_opens m v.terms got.first got.list done found left.core
          settled got.stood (fits_now m v mid found got done mine fits) s.settles
          (got.own done.event mine) e,
      ap (is_event e) mine,
    );
    risen = kept.above;
  }

  pub has_settled : (w : View (Entry N) DeskTerms)
      (s : SettlesDesk m v.terms got.first got.list done found left settled)
      → v.mine ≡ Some done.event → DoneFits m.means v.terms.run (past_of v.seen) done
      → KeepsMarks m found left → Put m mid left w
      → HasSettled m v done settled w
  has_settled w s mine fits kept put = record {
    found = found;
    left = left;
    first = got.first;
    history = got.list;
    finds = finds m v mid found got;
    settles = s;
    leaves = leaves m v mid w found left got _ None (held_settle s mine fits kept) put;
  }
