use Rattle.std.proofs.Common.{◌≡◌, ◌+◌, ◌≤◌, arith}
use Rattle.std.specs.Vec.{vec_capacity, vec_len}
use Rattle.timer_wheel.proofs.Kept.{kept_grown}
use Rattle.timer_wheel.proofs.wheel.WheelTimersTimerQueue.reserve.Goals as goal

pub invariant_of-self-in_err-reserve-3 : goal.invariant_of-self-in_err-reserve-3
invariant_of-self-in_err-reserve-3 g c =
    let s = c.self.inside in
    kept_grown g.row.SPOKES s.chains.resolution s.chains.heads.items s.chains.places.items
    c.reserve-3.new.self.items
    s.first s.index.items c.reserve-2.new.self.items s.room s.room _ _ _ _ c.self.invariant
    c.in_err-reserve-3.ensures.items c.reserve-2.ensures.items
    c.self.invariant.fits (omega (arith, c.reserve-3.ensures.capacity, c.self.invariant.places_fit))
    (omega (arith, c.reserve-2.ensures.capacity, c.self.invariant.index_fits))

pub invariant_of-self-2 : goal.invariant_of-self-2
invariant_of-self-2 g c =
    let s = c.self.inside in
    let end : c.in-Some.end ≡ c.len-held.result + c.args.n = c.in-Some.ensures.1 in
    let places : vec_len c.reserve-3.new.self + c.args.n ≤ vec_capacity c.reserve-3.new.self =
    c.in_ok-reserve-3.ensures.ok in
    let entries : vec_len c.reserve-2.new.self + c.saturating_sub.result
    ≤ vec_capacity c.reserve-2.new.self = c.in_ok-reserve-2.ensures.ok in
    kept_grown g.row.SPOKES s.chains.resolution s.chains.heads.items s.chains.places.items
    c.reserve-3.new.self.items
    s.first s.index.items c.reserve-2.new.self.items s.room c.min-self-inside.result _ _ _ _
    c.self.invariant c.reserve-3.ensures.items c.reserve-2.ensures.items
    (omega (
      arith,
      end,
      places,
      entries,
      c.in-Some-checked_mul.ensures,
      c.saturating_sub.ensures,
      c.capacity.ensures,
      c.capacity-2.ensures,
      c.min-self-inside.ensures,
      c.reserve-2.ensures.len,
      c.reserve-3.ensures.len,
    ))
    (omega (arith, c.capacity.ensures, c.min-self-inside.ensures))
    (omega (arith, c.capacity-2.ensures, c.min-self-inside.ensures))
