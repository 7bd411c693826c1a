-- What a call leaves of a reactor: most calls leave the size of a volume, the volumes, the marks of
-- waits and both counts of failed calls of the net. No call lowers a count.
use Rattle.std.specs.Prelude.{ℕ, ◌≡◌, ◌≤◌, Bool, true, false}
use Rattle.ev_base.specs.Counts.{Rose}
use Rattle.reactor_core.specs.Faults.{HasNotFallen}
use Rattle.reactor_core.specs.Stands.{Meaning}
use Rattle.reactor_core.specs.declared.reactor.Core.{Core}

-- A watch went on: its counts of faults and of entries seen without one have not fallen. One that
-- failed stays failed, and it fails only if its count rose.
pub record WatchGoesOn {W : Type 0} (faults : W → ℕ) (is_broken : W → Bool) (whole : W → ℕ)
    (old new : W) : Type 0 where
  pub later : faults old ≤ faults new
  pub stays : is_broken old ≡ true → is_broken new ≡ true
  pub breaks : is_broken old ≡ false → is_broken new ≡ true → Rose (faults old) (faults new)
  pub whole_later : whole old ≤ whole new

-- what a wait leaves: its own failures alone are counted
pub record CountsHold {H M Q W V N E : Type 0} (m : Meaning H M Q W V N E)
    (old new : Core H M Q W V N E) : Type 0 where
  pub volume : new.volume ≡ old.volume
  pub wait_faults : HasNotFallen (m.facts old.net).failed_waits (m.facts new.net).failed_waits
  pub attach_faults : (m.facts new.net).failed_attaches ≡ (m.facts old.net).failed_attaches
  pub watch : WatchGoesOn m.faults m.is_broken m.whole old.watch new.watch

-- what a call leaves that may attach an end: failed attaches alone are counted
pub record LeavesButAttaches {H M Q W V N E : Type 0} (m : Meaning H M Q W V N E)
    (old new : Core H M Q W V N E) : Type 0 where
  pub volume : new.volume ≡ old.volume
  pub marks : new.marks ≡ old.marks
  pub volumes : new.volumes ≡ old.volumes
  pub wait_faults : (m.facts new.net).failed_waits ≡ (m.facts old.net).failed_waits
  pub attach_faults : HasNotFallen (m.facts old.net).failed_attaches
      (m.facts new.net).failed_attaches
  pub watch : WatchGoesOn m.faults m.is_broken m.whole old.watch new.watch

-- what every other call leaves but the handing over
pub record LeavesRest {H M Q W V N E : Type 0} (m : Meaning H M Q W V N E)
    (old new : Core H M Q W V N E) : Type 0 where
  pub volume : new.volume ≡ old.volume
  pub marks : new.marks ≡ old.marks
  pub volumes : new.volumes ≡ old.volumes
  pub wait_faults : (m.facts new.net).failed_waits ≡ (m.facts old.net).failed_waits
  pub attach_faults : (m.facts new.net).failed_attaches ≡ (m.facts old.net).failed_attaches
  pub watch : WatchGoesOn m.faults m.is_broken m.whole old.watch new.watch
