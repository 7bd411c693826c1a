-- A whole drain.
use Rattle.std.proofs.Common.{ℕ, ◌≡◌, ◌≤◌, ◌<◌, ◌+◌, Bool, true, false, List, [], ◌∷◌, ◌++◌, refl}
use Rattle.std.proofs.Common.{sym, ◌∙◌, subst, arith, append-nil, length-append, inl, inr, Ok, Err}
use Rattle.std.proofs.lemmas.Bool.{and_from, false≢true}
use Rattle.std.proofs.lemmas.List.{append_assoc}
use Rattle.std.proofs.lemmas.List.Folds.{list_all-append}
use Rattle.std.specs.List.{list_all}
use Rattle.ev_base.specs.ev_types.specs.declared.refusal.NoMemory.{NoMemory}
use Rattle.reactor_model.specs.reactor_journal.specs.declared.entry.Entry.{Entry}
use Rattle.notify_ring.specs.Words.{drainer_view}
use Rattle.reactor_core.specs.Marks.{is_polled}
use Rattle.reactor_core.specs.Stands.{Meaning}
use Rattle.reactor_model.specs.Entries.{is_notice}
use Rattle.reactor_desk.specs.Desks.{DeskStands, is_started}
use Rattle.reactor_core.proofs.Frames.{rest_begins, rest_goes_on}
use Rattle.reactor_desk.specs.Draining.{Drains, DrainsOne, DrainsSome, HasLooked, LeavesDrained}
use Rattle.reactor_desk.specs.declared.terms.DeskTerms.{DeskTerms}
use Rattle.reactor_desk.specs.declared.desk.Desk.{Desk}
use Rattle.reactor_desk.proofs.Counting.{count_more}
use Rattle.reactor_desk.proofs.Marks.{reserved_same, reserved_then}
use Rattle.reactor_desk.proofs.Notices.{none_polled, none_started}

module _ {H M Q W V N E : Type 0} (m : Meaning H M Q W V N E) (q : DeskTerms) (F : ℕ)
    (h : List (Entry N)) (old : Desk H M Q W V N E) where
  pub nothing_drained : DeskStands m q F old h → DrainsSome m q F h 0 old old
  nothing_drained o = record {
    notices = [];
    are = refl;
    many = refl;
    stands = subst (DeskStands m q F old) (sym (append-nil h)) o;
    looks = omega arith;
  }

  pub one_more : (taken : ℕ) (found : Bool) (mid new : Desk H M Q W V N E) → found ≡ true
      → (d : DrainsSome m q F h taken old mid) → DrainsOne m q F (h ++ d.notices) (Ok found) mid new
      → DrainsSome m q F h (taken + 1) old new
  one_more taken false mid new is d one = absurd (false≢true is)
  one_more taken true mid new is d one = record {
    notices = d.notices ++ one.1.notice ∷ [];
    are = list_all-append is_notice d.notices (one.1.notice ∷ [])
        ∙ and_from _ _ d.are (and_from _ true one.1.is refl);
    many = omega (arith, length-append d.notices (one.1.notice ∷ []), d.many);
    stands = subst (DeskStands m q F new) (append_assoc h d.notices (one.1.notice ∷ []))
        one.1.stands;
    looks = omega (arith, d.looks, one.0);
  }

  looked : (more : ℕ) (d : List (Entry N)) (new : Desk H M Q W V N E) → list_all is_notice d ≡ true
      → DeskStands m q F old h → (drainer_view old.drainer).loads + more
      ≤ (drainer_view new.drainer).loads → 1 ≤ more → HasLooked q new (h ++ d)
  looked more d new are o looks some = record {
    waits = omega (
      arith,
      count_more is_polled q.found h d,
      none_polled d are,
      o.waits,
      looks,
      some,
    );
    starts = omega (
      arith,
      count_more is_started q.found h d,
      none_started d are,
      o.starts,
      looks,
      some,
    );
  }

  pub drained_all : (taken : ℕ) (new : Desk H M Q W V N E) → taken ≡ 256 → DeskStands m q F old h
      → DrainsSome m q F h taken old new → Drains m q F h (Ok 256) old new
  drained_all taken new all o some =
      let d : DrainsSome m q F h 256 old new =
      subst (λ (n : ℕ). DrainsSome m q F h n old new) all some in
      record {
        taken = 256;
        few = omega arith;
        some = d;
        answer = (refl, inl refl, looked 256 d.notices new d.are o d.looks (omega arith));
      }

  pub drained_empty : (taken : ℕ) (found : Bool) (mid new : Desk H M Q W V N E) → found ≡ false
      → taken < 256 → DeskStands m q F old h → (d : DrainsSome m q F h taken old mid)
      → DrainsOne m q F (h ++ d.notices) (Ok found) mid new
      → Drains m q F h (Ok taken) old new
  drained_empty taken true mid new is low o d one = absurd (false≢true (sym is))
  drained_empty taken false mid new is low o d one =
      let looks : (drainer_view old.drainer).loads + (taken + 1)
      ≤ (drainer_view new.drainer).loads = omega (arith, d.looks, one.0) in
      record {
        taken = taken;
        few = omega arith;
        some = record {
          notices = d.notices;
          are = d.are;
          many = d.many;
          stands = one.2;
          looks = omega (arith, looks);
        };
        answer = (refl, inr one.1, looked (taken + 1) d.notices new d.are o looks (omega arith));
      }

  pub drained_until : (taken : ℕ) (refused : NoMemory) (mid new : Desk H M Q W V N E) → taken < 256
      → (d : DrainsSome m q F h taken old mid)
      → DrainsOne m q F (h ++ d.notices) (Err refused) mid new
      → Drains m q F h (Err refused) old new
  drained_until taken refused mid new low d one = record {
    taken = taken;
    few = omega arith;
    some = record {
      notices = d.notices;
      are = d.are;
      many = d.many;
      stands = one.1;
      looks = omega (arith, d.looks, one.0);
    };
    answer = tt;
  }

-- ---- the rest

module _ {H M Q W V N E : Type 0} (m : Meaning H M Q W V N E) where
  pub leaves_same : (a : Desk H M Q W V N E) → LeavesDrained m a a
  leaves_same a = record { net = reserved_same (m.facts a.core.net); rest = rest_begins m a.core }

  pub leaves_then : (a b c : Desk H M Q W V N E) → LeavesDrained m a b → LeavesDrained m b c
      → LeavesDrained m a c
  leaves_then a b c x y = record {
    net = reserved_then (m.facts a.core.net) (m.facts b.core.net) (m.facts c.core.net) x.net y.net;
    rest = rest_goes_on x.rest y.rest;
  }
