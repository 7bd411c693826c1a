-- The rest that a call leaves, over several calls.
use Rattle.std.proofs.Common.{ℕ, ◌≡◌, Bool, ◌∙◌, refl, arith}
use Rattle.reactor_core.specs.Faults.{HasNotFallen}
use Rattle.reactor_core.specs.Stands.{Meaning}
use Rattle.reactor_core.specs.Rest.{WatchGoesOn, CountsHold, LeavesButAttaches, LeavesRest}
use Rattle.reactor_core.specs.declared.reactor.Core.{Core}
use Rattle.reactor_core.proofs.Watched.{breaks_none, breaks_over}

pub watch_goes_on : {W : Type 0} {faults : W → ℕ} {is_broken : W → Bool} {whole : W → ℕ} {a b c : W}
    → WatchGoesOn faults is_broken whole a b → WatchGoesOn faults is_broken whole b c
    → WatchGoesOn faults is_broken whole a c
watch_goes_on p q = record {
  later = let x = p.later in let y = q.later in omega (arith, x, y);
  stays = λ k. q.stays (p.stays k);
  breaks = breaks_over _ _ _ _ _ _ p.later q.later p.breaks q.breaks;
  whole_later = let x = p.whole_later in let y = q.whole_later in omega (arith, x, y);
}

watch_begins : {W : Type 0} (faults : W → ℕ) (is_broken : W → Bool) (whole : W → ℕ) (a : W)
    → WatchGoesOn faults is_broken whole a a
watch_begins faults is_broken whole a =
    record {
      later = omega arith;
      stays = λ k. k;
      breaks = breaks_none _ _;
      whole_later = omega arith;
    }

-- a count that stands has not fallen
stood : (old new : ℕ) → new ≡ old → HasNotFallen old new
stood old new q = omega (arith, q)

-- ---- the calls that leave all the rest

pub rest_goes_on : {H M Q W V N E : Type 0} {m : Meaning H M Q W V N E} {a b c : Core H M Q W V N E}
    → LeavesRest m a b → LeavesRest m b c → LeavesRest m a c
rest_goes_on p q = record {
  volume = q.volume ∙ p.volume;
  marks = q.marks ∙ p.marks;
  volumes = q.volumes ∙ p.volumes;
  wait_faults = q.wait_faults ∙ p.wait_faults;
  attach_faults = q.attach_faults ∙ p.attach_faults;
  watch = watch_goes_on p.watch q.watch;
}

pub rest_begins : {H M Q W V N E : Type 0} (m : Meaning H M Q W V N E) (a : Core H M Q W V N E)
    → LeavesRest m a a
rest_begins m a = record {
  volume = refl;
  marks = refl;
  volumes = refl;
  wait_faults = refl;
  attach_faults = refl;
  watch = watch_begins m.faults m.is_broken m.whole a.watch;
}

-- ---- those that may attach an end

pub attaching_of : {H M Q W V N E : Type 0} {m : Meaning H M Q W V N E} {a b : Core H M Q W V N E}
    → LeavesRest m a b → LeavesButAttaches m a b
attaching_of k = record {
  volume = k.volume;
  marks = k.marks;
  volumes = k.volumes;
  wait_faults = k.wait_faults;
  attach_faults = stood _ _ k.attach_faults;
  watch = k.watch;
}

pub attaching_goes_on : {H M Q W V N E : Type 0} {m : Meaning H M Q W V N E}
    {a b c : Core H M Q W V N E} → LeavesButAttaches m a b → LeavesButAttaches m b c
    → LeavesButAttaches m a c
attaching_goes_on p q = record {
  volume = q.volume ∙ p.volume;
  marks = q.marks ∙ p.marks;
  volumes = q.volumes ∙ p.volumes;
  wait_faults = q.wait_faults ∙ p.wait_faults;
  attach_faults = let x = p.attach_faults in let y = q.attach_faults in omega (arith, x, y);
  watch = watch_goes_on p.watch q.watch;
}

-- ---- those that wait

pub counts_of : {H M Q W V N E : Type 0} {m : Meaning H M Q W V N E} {a b : Core H M Q W V N E}
    → LeavesRest m a b → CountsHold m a b
counts_of k = record {
  volume = k.volume;
  wait_faults = stood _ _ k.wait_faults;
  attach_faults = k.attach_faults;
  watch = k.watch;
}

pub counts_go_on : {H M Q W V N E : Type 0} {m : Meaning H M Q W V N E} {a b c : Core H M Q W V N E}
    → CountsHold m a b → CountsHold m b c → CountsHold m a c
counts_go_on p q = record {
  volume = q.volume ∙ p.volume;
  wait_faults = let x = p.wait_faults in let y = q.wait_faults in omega (arith, x, y);
  attach_faults = q.attach_faults ∙ p.attach_faults;
  watch = watch_goes_on p.watch q.watch;
}
