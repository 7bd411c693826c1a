use Rattle.std.proofs.Common.{take}
use Rattle.timer_wheel.specs.Chains.{heads_of}
use Rattle.timer_wheel.proofs.Firsts.{IsEarliest}
use Rattle.timer_wheel.proofs.chain.Chains.first_of_heads.Given as goal

abbrev pub invariant-loop-head : goal.invariant-loop-head
invariant-loop-head l =
    IsEarliest (heads_of l.self.places.items (take l.head-index l.self.heads.items)) l.first
