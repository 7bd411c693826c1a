use Rattle.std.proofs.Common.{◌≡◌, ◌+◌, take, length, ap, sym, subst, arith}
use Rattle.std.proofs.lemmas.List.{take_all}
use Rattle.timer_wheel.specs.Spokes.{timers_of}
use Rattle.timer_wheel.specs.Chains.{heads_of}
use Rattle.timer_wheel.proofs.Firsts.{IsEarliest, earliest_heads_step, earliest_by_heads}
use Rattle.timer_wheel.proofs.Firsts.{earliest_first}
use Rattle.timer_wheel.proofs.chain.Chains.first_of_heads.Goals as goal

pub loop-head-preserved : goal.loop-head-preserved
loop-head-preserved c =
    subst (λ r. IsEarliest (heads_of c.args.self.now.places.items
    (take (c.loop-head.head-index + 1) c.args.self.now.heads.items)) r) (sym (rw
    c.deref-head-items.ensures.value at
    (rw c.deref.ensures.value at c.earlier_at-first.ensures)))
    (earliest_heads_step c.args.self.now.places.items c.args.self.now.heads.items c.requires.apart
    c.loop-head.head-index
    c.loop-head.first (rw c.deref-head-items.ensures.value at c.loop-head-test.true)
    c.loop-head.invariant)

pub returns : goal.returns
returns c =
    let all : take c.loop-head.head-index c.args.self.now.heads.items
    ≡ c.args.self.now.heads.items =
    take_all c.loop-head.head-index c.args.self.now.heads.items (omega (
      arith,
      ap length
          c.deref-head-items.ensures.value,
    )) in
    earliest_first (timers_of c.args.self.now.places.items) c.loop-head.first c.requires.apart
    (earliest_by_heads c.args.self.now.places.items c.args.self.now.heads.items c.requires.apart
    c.args.self.now.resolution
    c.loop-head.first c.requires.spokes c.requires.chains
    (subst (λ hs. IsEarliest (heads_of c.args.self.now.places.items hs) c.loop-head.first) all
    c.loop-head.invariant))
