use Rattle.std.proofs.Common.{◌≡◌, ◌+◌, ◌-◌, false, length, ap, sym, ◌∙◌, subst, arith}
use Rattle.timer_queue.specs.Timers.{AreApart, in_order, is_scheduled, with_timer}
use Rattle.timer_wheel.specs.Spokes.{timers_of}
use Rattle.timer_wheel.specs.Chains.{AreChains, IsWheel}
use Rattle.timer_wheel.specs.Index.{Covers}
use Rattle.timer_queue.proofs.Contents.{unscheduled}
use Rattle.timer_wheel.proofs.Firsts.{wheel_added}
use Rattle.timer_wheel.proofs.Kept.{covers_added, one_place_more}
use Rattle.timer_wheel.proofs.wheel.WheelTimersTimerQueue.schedule.Goals as goal

pub enter-requires-clause-covers : goal.enter-requires-clause-covers
enter-requires-clause-covers g c =
    subst (λ ps. Covers c.self.inside.index.items (timers_of ps)) (sym c.deref.ensures.value)
    c.self.invariant.covers

pub enter-requires-clause-apart : goal.enter-requires-clause-apart
enter-requires-clause-apart g c = subst (λ ps. AreApart (timers_of ps)) (sym c.deref.ensures.value)
    c.self.invariant.wheel.apart

pub enter-requires-clause-fresh : goal.enter-requires-clause-fresh
enter-requires-clause-fresh g c =
    subst (λ ps. is_scheduled c.args.t.timer (timers_of ps) ≡ false) (sym c.deref.ensures.value)
    (unscheduled c.args.t.timer (timers_of c.self.inside.chains.places.items)
    (ap (λ q. is_scheduled c.args.t.timer (in_order (timers_of q.places))) c.self.view_is
    ∙ c.requires.fresh))

pub enter-requires-clause-room : goal.enter-requires-clause-room
enter-requires-clause-room g c =
    let spare : c.self.inside.room - length c.self.inside.chains.places.items
    ≡ c.args.self.now.spare =
    ap (λ q. q.spare) c.self.view_is in
    omega (
      arith,
      spare,
      c.requires.room,
      c.self.invariant.index_fits,
      ap length c.deref.ensures.value,
    )

pub add-requires-clause-fresh : goal.add-requires-clause-fresh
add-requires-clause-fresh g c =
    unscheduled c.args.t.timer (timers_of c.self.inside.chains.places.items)
    (ap (λ q. is_scheduled c.args.t.timer (in_order (timers_of q.places))) c.self.view_is
    ∙ c.requires.fresh)

pub invariant_of-self : goal.invariant_of-self
invariant_of-self g c =
    let s = c.self.inside in
    let fresh : is_scheduled c.args.t.timer (in_order (timers_of s.chains.places.items)) ≡ false =
    ap (λ q. is_scheduled c.args.t.timer (in_order (timers_of q.places))) c.self.view_is
    ∙ c.requires.fresh in
    let spare : s.room - length s.chains.places.items ≡ c.args.self.now.spare =
    ap (λ q. q.spare) c.self.view_is in
    let n : length c.add.new.self.places.items ≡ length s.chains.places.items + 1 =
    one_place_more c.args.t s.chains.places.items c.add.new.self.places.items c.add.ensures.timers
    in
    let new = c.add.new.self in
    let added = wheel_added g.row.SPOKES s.chains.resolution s.chains.heads.items new.heads.items
    s.chains.places.items new.places.items s.first c.args.t c.self.invariant.wheel fresh
    c.add.ensures.timers c.add.ensures.shape.spokes
    (subst (λ r. AreChains (length new.heads.items) r new.heads.items new.places.items
    (with_timer c.args.t (in_order (timers_of s.chains.places.items)))) c.add.ensures.shape.ticks
    c.add.ensures.chains) in
    record {
      wheel = subst (λ r. IsWheel g.row.SPOKES r new.heads.items new.places.items
          c.earlier-self-inside.result) (sym c.add.ensures.shape.ticks)
          (subst (λ f. IsWheel g.row.SPOKES s.chains.resolution new.heads.items new.places.items f)
          (sym c.earlier-self-inside.ensures) added.1);
      rising = c.enter.ensures.rising;
      covers = covers_added c.enter.new.index.items (timers_of s.chains.places.items)
          (timers_of c.add.new.self.places.items) c.args.t c.add.ensures.timers
          (subst (λ ps. Covers c.enter.new.index.items (timers_of ps)) c.deref.ensures.value
          c.enter.ensures.covers) c.enter.ensures.there;
      fits = omega (arith, n, spare, c.requires.room);
      places_fit = omega (arith, c.add.ensures.shape.capacity, c.self.invariant.places_fit);
      index_fits = omega (arith, c.enter.ensures.capacity, c.self.invariant.index_fits);
    }

pub returns-clause-timers : goal.returns-clause-timers
returns-clause-timers g c =
    let s = c.self.inside in
    let fresh : is_scheduled c.args.t.timer (in_order (timers_of s.chains.places.items)) ≡ false =
    ap (λ q. is_scheduled c.args.t.timer (in_order (timers_of q.places))) c.self.view_is
    ∙ c.requires.fresh in
    let new = c.add.new.self in
    let added = wheel_added g.row.SPOKES s.chains.resolution s.chains.heads.items new.heads.items
    s.chains.places.items new.places.items s.first c.args.t c.self.invariant.wheel fresh
    c.add.ensures.timers c.add.ensures.shape.spokes
    (subst (λ r. AreChains (length new.heads.items) r new.heads.items new.places.items
    (with_timer c.args.t (in_order (timers_of s.chains.places.items)))) c.add.ensures.shape.ticks
    c.add.ensures.chains) in
    added.0
    ∙ ap (λ q. with_timer c.args.t (in_order (timers_of q.places))) c.self.view_is

pub returns-clause-spare : goal.returns-clause-spare
returns-clause-spare g c =
    let s = c.self.inside in
    let spare : s.room - length s.chains.places.items ≡ c.args.self.now.spare =
    ap (λ q. q.spare) c.self.view_is in
    let n : length c.add.new.self.places.items ≡ length s.chains.places.items + 1 =
    one_place_more c.args.t s.chains.places.items c.add.new.self.places.items c.add.ensures.timers
    in
    omega (arith, n, spare, c.requires.room)
