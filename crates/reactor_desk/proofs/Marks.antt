-- Marks that never fall, and the places of a net over several calls.
use Rattle.std.proofs.Common.{ℕ, zero, suc, ◌≡◌, ◌≤◌, [], ◌∷◌, refl, ap, ◌∙◌, arith}
use Rattle.ev_base.specs.Net.{NetFacts, Reserves}
use Rattle.leader_token.specs.Lists.{NoneAbove}
use Rattle.reactor_core.specs.Faults.{HasNotFallen}
use Rattle.reactor_core.specs.HandingOver.{KeepsOthers, HasCause}
use Rattle.reactor_core.specs.Rest.{CountsHold, LeavesButAttaches, LeavesRest}
use Rattle.reactor_core.specs.Stands.{Meaning}
use Rattle.reactor_core.specs.declared.marks.WaitMarks.{WaitMarks}
use Rattle.reactor_core.specs.declared.reactor.Core.{Core}
use Rattle.reactor_core.specs.declared.volumes.HandOverRefused.{HandOverRefused}
use Rattle.reactor_core.specs.declared.volumes.HandOverRefused.TheVariants.{Failed, NoMemory}
use Rattle.reactor_desk.specs.Desks.{capped, core_marks, core_of, KeepsMarks}
use Rattle.reactor_desk.specs.declared.desk.Desk.{Desk}

marks_above : (w w' a a' b b' v v' o o' : ℕ) → w ≤ w' → HasNotFallen a a' → HasNotFallen b b'
    → HasNotFallen v v' → o ≤ o'
    → NoneAbove (w ∷ capped a ∷ capped b ∷ capped v ∷ o ∷ [])
    (w' ∷ capped a' ∷ capped b' ∷ capped v' ∷ o' ∷ [])
marks_above w w' a a' b b' v v' o o' hw ha hb hv ho zero = hw
marks_above w w' a a' b b' v v' o o' hw ha hb hv ho (suc zero) = omega (arith, ha)
marks_above w w' a a' b b' v v' o o' hw ha hb hv ho (suc (suc zero)) = omega (arith, hb)
marks_above w w' a a' b b' v v' o o' hw ha hb hv ho (suc (suc (suc zero))) = omega (arith, hv)
marks_above w w' a a' b b' v v' o o' hw ha hb hv ho (suc (suc (suc (suc zero)))) = ho
marks_above w w' a a' b b' v v' o o' hw ha hb hv ho (suc (suc (suc (suc (suc k))))) = omega arith

-- a count that is the same has not fallen
not_fallen : (before now : ℕ) → now ≡ before → HasNotFallen before now
not_fallen before now same = omega (arith, same)

module _ {H M Q W V N E : Type 0} (m : Meaning H M Q W V N E) where
  -- no mark of the reactor fell
  pub record CoreKeeps (old new : Core H M Q W V N E) : Type 0 where
    pub above : NoneAbove (core_marks m old) (core_marks m new)

  pub core_then : (a b c : Core H M Q W V N E) → CoreKeeps a b → CoreKeeps b c → CoreKeeps a c
  core_then a b c x y = record { above = λ k. omega (arith, x.above k, y.above k) }

  pub core_same : (a : Core H M Q W V N E) → CoreKeeps a a
  core_same a = record { above = λ k. omega arith }

  pub core_rests : (old new : Core H M Q W V N E) → LeavesRest m old new → CoreKeeps old new
  core_rests old new r = record {
    above = marks_above _ _ _ _ _ _ _ _ _ _ r.watch.later (not_fallen _ _ r.wait_faults)
        (not_fallen _ _ r.attach_faults) (not_fallen _ _ (ap (λ v. (m.volumes v).faults) r.volumes))
        (omega (arith, ap (λ (w : WaitMarks). w.over) r.marks));
  }

  pub core_attaches : (old new : Core H M Q W V N E) → LeavesButAttaches m old new
      → CoreKeeps old new
  core_attaches old new r = record {
    above = marks_above _ _ _ _ _ _ _ _ _ _ r.watch.later (not_fallen _ _ r.wait_faults)
        r.attach_faults (not_fallen _ _ (ap (λ v. (m.volumes v).faults) r.volumes))
        (omega (arith, ap (λ (w : WaitMarks). w.over) r.marks));
  }

  pub core_waits : (old new : Core H M Q W V N E) → CountsHold m old new
      → old.marks.over ≤ new.marks.over → new.volumes ≡ old.volumes → CoreKeeps old new
  core_waits old new r over volumes = record {
    above = marks_above _ _ _ _ _ _ _ _ _ _ r.watch.later r.wait_faults
        (not_fallen _ _ r.attach_faults) (not_fallen _ _ (ap (λ v. (m.volumes v).faults) volumes))
        over;
  }

  core_hands : (old new : Core H M Q W V N E) → KeepsOthers old new
      → HasNotFallen (m.volumes old.volumes).faults (m.volumes new.volumes).faults
      → CoreKeeps old new
  core_hands old new k v = record {
    above = marks_above _ _ _ _ _ _ _ _ _ _ (omega (arith, ap m.faults k.watch))
        (not_fallen _ _ (ap (λ n. (m.facts n).failed_waits) k.net))
        (not_fallen _ _ (ap (λ n. (m.facts n).failed_attaches) k.net)) v
        (omega (arith, ap (λ (w : WaitMarks). w.over) k.marks));
  }

  -- if a volume was handed over, or refused
  pub core_hands_same : (old new : Core H M Q W V N E) → KeepsOthers old new
      → (m.volumes new.volumes).faults ≡ (m.volumes old.volumes).faults → CoreKeeps old new
  core_hands_same old new k same = core_hands old new k (not_fallen _ _ same)

  pub core_hands_none : (refused : HandOverRefused) (old new : Core H M Q W V N E)
      → KeepsOthers old new → HasCause m refused old new → CoreKeeps old new
  core_hands_none Failed old new k rose = core_hands old new k (omega (arith, rose))
  core_hands_none NoMemory old new k same = core_hands_same old new k same

  -- the marks of a desk are those of its reactor
  pub desk_keeps : (old new : Desk H M Q W V N E) → CoreKeeps (core_of old) (core_of new)
      → KeepsMarks m old new
  desk_keeps old new k = record { above = k.above }

  pub core_keeps : (old new : Desk H M Q W V N E) → KeepsMarks m old new
      → CoreKeeps (core_of old) (core_of new)
  core_keeps old new k = record { above = k.above }

-- ---- the places of a net

pub reserved_same : {E : Type 0} (net : NetFacts E) → Reserves net net
reserved_same net = record {
  spare = omega arith;
  failed_waits = refl;
  failed_attaches = refl;
  now = refl;
  reports = refl;
  calls = refl;
  steady = refl;
  attached = refl;
  masks = refl;
  retired = refl;
  turned_away = refl;
}

pub reserved_then : {E : Type 0} (a b c : NetFacts E) → Reserves a b → Reserves b c → Reserves a c
reserved_then a b c x y = record {
  spare = omega (arith, x.spare, y.spare);
  failed_waits = y.failed_waits ∙ x.failed_waits;
  failed_attaches = y.failed_attaches ∙ x.failed_attaches;
  now = y.now ∙ x.now;
  reports = y.reports ∙ x.reports;
  calls = y.calls ∙ x.calls;
  steady = y.steady ∙ x.steady;
  attached = y.attached ∙ x.attached;
  masks = y.masks ∙ x.masks;
  retired = y.retired ∙ x.retired;
  turned_away = y.turned_away ∙ x.turned_away;
}
