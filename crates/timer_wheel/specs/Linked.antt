-- The chains of a wheel, as its calls find and leave them.
use Rattle.std.specs.Prelude.{◌≡◌, ◌<◌, List, length, vec_capacity}
use Rattle.timer_queue.specs.declared.timer.Timer.{Timer}
use Rattle.timer_queue.specs.Timers.{in_order, AreApart}
use Rattle.timer_wheel.specs.declared.chain.Chains.{Chains}
use Rattle.timer_wheel.specs.Chains.{AreChains as EachHas}
use Rattle.timer_wheel.specs.Spokes.{timers_of}

-- the timers that stand in the chains
abbrev pub timers_in : Chains → List Timer
timers_in chains = timers_of chains.places.items

-- the chain of each spoke has those of these timers that stand in it
abbrev pub HaveChains : Chains → List Timer → Type 0
HaveChains chains timers =
    EachHas (length chains.heads.items) chains.resolution chains.heads.items chains.places.items
    timers

-- There is a spoke, a tick has at least a millisecond, no timer stands twice, and each stands in
-- the chain of its spoke.
pub record AreChains (all : Chains) : Type 0 where
  pub spokes : 0 < length all.heads.items
  pub ticks : 0 < all.resolution
  pub apart : AreApart (timers_in all)
  pub chains : HaveChains all (in_order (timers_in all))

-- as many spokes, ticks as long, and room for as many timers
pub record KeepShape (old new : Chains) : Type 0 where
  pub spokes : length new.heads.items ≡ length old.heads.items
  pub ticks : new.resolution ≡ old.resolution
  pub capacity : vec_capacity new.places ≡ vec_capacity old.places
