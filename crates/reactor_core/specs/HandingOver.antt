-- What the handing over of a volume does: a long run cannot keep its whole journal, so the entries
-- that are held are handed over once there are enough of them.
use Rattle.std.specs.Prelude.{ℕ, ◌≡◌, ◌-◌, ◌^◌, nat_le, nat_lt, Bool, true, false, ◌&&◌, List}
use Rattle.std.specs.Prelude.{length}
use Rattle.ev_base.specs.Counts.{Rose}
use Rattle.ev_base.specs.Terms.{Terms}
use Rattle.reactor_model.specs.reactor_journal.specs.declared.entry.Entry.{Entry}
use Rattle.reactor_model.specs.declared.volumes.TakeRefused.{TakeRefused}
use Rattle.reactor_model.specs.declared.volumes.TakeRefused.TheVariants as take
use Rattle.reactor_core.specs.Stands.{Meaning, Stands}
use Rattle.reactor_core.specs.declared.reactor.Core.{Core}
use Rattle.reactor_core.specs.declared.volumes.HandOverRefused.{HandOverRefused}
use Rattle.reactor_core.specs.declared.volumes.HandOverRefused.TheVariants.{Failed, NoMemory}

-- Whether a volume is due: as many entries are held as a volume has at least, and the history is
-- shorter than it may grow.
abbrev pub is_due : {H M Q W V N E : Type 0} → Core H M Q W V N E → ℕ → List (Entry N) → Bool
is_due core F h = nat_le core.volume (length h - F) && nat_lt (length h) (2 ^ 62)

-- all is as it was but the entries that are held, the number of the first of them, and the volumes
pub record KeepsOthers {H M Q W V N E : Type 0} (old new : Core H M Q W V N E) : Type 0 where
  pub most : new.most ≡ old.most
  pub volume : new.volume ≡ old.volume
  pub state : new.state ≡ old.state
  pub repo : new.repo ≡ old.repo
  pub net : new.net ≡ old.net
  pub watch : new.watch ≡ old.watch
  pub marks : new.marks ≡ old.marks

-- if a volume is due all entries that are held are handed over, and else none
abbrev pub HandsDue : {H M Q W V N E : Type 0} → Bool → Meaning H M Q W V N E → Terms → ℕ
    → List (Entry N) → ℕ → Core H M Q W V N E → Core H M Q W V N E → Type 0
HandsDue true m t F h n old new = (n ≡ length h - F) × Stands m t new (length h) h
HandsDue false m t F h n old new = (n ≡ 0) × (new ≡ old)

-- n entries were handed over: those that are held if a volume is due, and else none
pub record HandsOver {H M Q W V N E : Type 0} (m : Meaning H M Q W V N E) (t : Terms) (F : ℕ)
    (h : List (Entry N)) (n : ℕ) (old new : Core H M Q W V N E) : Type 0 where
  pub others : KeepsOthers old new
  pub faults : (m.volumes new.volumes).faults ≡ (m.volumes old.volumes).faults
  pub handed : HandsDue (is_due old F h) m t F h n old new

-- a refusal changes nothing but the volumes, which have taken nothing
pub record HandsNothing {H M Q W V N E : Type 0} (m : Meaning H M Q W V N E)
    (old new : Core H M Q W V N E) : Type 0 where
  pub others : KeepsOthers old new
  pub first : new.first ≡ old.first
  pub journal : new.journal ≡ old.journal
  pub taken : (m.volumes new.volumes).taken ≡ (m.volumes old.volumes).taken
  pub next : (m.volumes new.volumes).next ≡ (m.volumes old.volumes).next

-- the volumes' count of faults rose if they failed, and else stands
abbrev pub IsHandOverCause : HandOverRefused → ℕ → ℕ → Type 0
IsHandOverCause Failed before now = Rose before now
IsHandOverCause NoMemory before now = now ≡ before

abbrev pub HasCause : {H M Q W V N E : Type 0} → Meaning H M Q W V N E → HandOverRefused
    → Core H M Q W V N E → Core H M Q W V N E → Type 0
HasCause m refused old new = IsHandOverCause refused (m.volumes old.volumes).faults
    (m.volumes new.volumes).faults

-- the refusal, by what the volumes answered
abbrev pub hand_over_refusal : TakeRefused → HandOverRefused
hand_over_refusal take.Failed = Failed
hand_over_refusal take.NoMemory = NoMemory
