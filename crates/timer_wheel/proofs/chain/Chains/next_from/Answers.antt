use Rattle.std.proofs.Common.{ℕ, ◌≡◌, ◌+◌, ◌<◌, ◌≤◌, ◌/◌, ◌%◌, length, sym, ap, ◌∙◌, subst, arith}
use Rattle.std.proofs.Common.{None, get_or}
use Rattle.std.proofs.lemmas.List.{get_or_read}
use Rattle.std.proofs.Math.Nat.{mod_self, mod-eq_of_lt}
use Rattle.timer_queue.specs.declared.timer.Timer.{Timer}
use Rattle.timer_queue.proofs.Members.{Among, among_at}
use Rattle.timer_wheel.specs.Chains.{head_timer, in_tick}
use Rattle.timer_wheel.specs.Spokes.{timers_of}
use Rattle.timer_wheel.proofs.Ticks.{tick_rises, found_some, found_none, next_spoke}
use Rattle.timer_wheel.proofs.chain.Chains.next_from.Goals as goal
use Rattle.timer_wheel.proofs.chain.Chains.next_from.Goals.{then-at-spokes, else-at-spokes}

pub loop-turn-init : goal.loop-turn-init
loop-turn-init c =
    let many : c.len-spokes.result ≡ length c.args.self.now.heads.items = omega arith in
    let n : c.args.from / c.args.self.now.resolution + 0
    ≡ c.args.from / c.args.self.now.resolution = omega arith in
    record {
      within = rw many at c.spoke-at.ensures.within;
      spoke = (rw many at c.spoke-at.ensures.is)
          ∙ ap (λ k. k % length c.args.self.now.heads.items) (sym n);
      later = λ u a.
          let m = among_at u (timers_of c.args.self.now.places.items) a in
          let e : c.args.from ≤ u.deadline =
          subst (λ (v : Timer). c.args.from ≤ v.deadline) m.2 (c.requires.from m.0 u m.1) in
          subst (λ k. k ≤ u.deadline / c.args.self.now.resolution) (sym n)
          (tick_rises c.args.from u.deadline c.args.self.now.resolution c.requires.chains.ticks e);
    }

pub returns-then-is_some : goal.returns-then-is_some
returns-then-is_some c =
    let heads = c.args.self.now.heads.items in
    let places = c.args.self.now.places.items in
    let here : c.head_of_tick-found.result ≡ in_tick c.args.self.now.resolution
    (c.args.from / c.args.self.now.resolution) c.loop-turn.turn
    (head_timer places (get_or heads c.loop-turn.at None)) =
    (rw c.deref.ensures.value at c.head_of_tick-found.ensures)
    ∙ ap (λ h. in_tick c.args.self.now.resolution (c.args.from / c.args.self.now.resolution)
    c.loop-turn.turn (head_timer places h))
    (get_or_read heads c.loop-turn.at _ c.loop-turn.invariant.within c.index.ensures None) in
    found_some c.args.self.now.heads.items c.args.self.now.places.items c.args.self.now.resolution
    c.requires.chains.ticks
    c.requires.chains.apart c.requires.chains.chains (c.args.from / c.args.self.now.resolution)
    c.loop-turn.turn
    c.loop-turn.at c.loop-turn.invariant.within c.loop-turn.invariant.spoke
    c.loop-turn.invariant.later c.head_of_tick-found.result here
    c.if-is_some.ensures

pub loop-turn-preserved : goal.loop-turn-preserved
loop-turn-preserved c =
    let heads = c.args.self.now.heads.items in
    let places = c.args.self.now.places.items in
    let here : c.head_of_tick-found.result ≡ in_tick c.args.self.now.resolution
    (c.args.from / c.args.self.now.resolution) c.loop-turn.turn
    (head_timer places (get_or heads c.loop-turn.at None)) =
    (rw c.deref.ensures.value at c.head_of_tick-found.ensures)
    ∙ ap (λ h. in_tick c.args.self.now.resolution (c.args.from / c.args.self.now.resolution)
    c.loop-turn.turn (head_timer places h))
    (get_or_read heads c.loop-turn.at _ c.loop-turn.invariant.within c.index.ensures None) in
    let tick : ℕ = c.args.from / c.args.self.now.resolution in
    let spokes : ℕ = length c.args.self.now.heads.items in
    let n : tick + c.loop-turn.turn + 1 ≡ tick + (c.loop-turn.turn + 1) = omega arith in
    let next : (c.loop-turn.at + 1) % spokes ≡ (tick + (c.loop-turn.turn + 1)) % spokes =
    next_spoke c.loop-turn.at (tick + c.loop-turn.turn) spokes c.loop-turn.invariant.spoke
    ∙ ap (λ k. k % spokes) n in
    let later : (u : Timer) → Among u (timers_of c.args.self.now.places.items)
    → tick + (c.loop-turn.turn + 1) ≤ u.deadline / c.args.self.now.resolution =
    found_none c.args.self.now.heads.items c.args.self.now.places.items c.args.self.now.resolution
    c.requires.chains.ticks
    c.requires.chains.apart c.requires.chains.chains tick c.loop-turn.turn c.loop-turn.at
    c.loop-turn.invariant.within c.loop-turn.invariant.spoke c.loop-turn.invariant.later
    c.head_of_tick-found.result here c.if-is_some.ensures in
    elim c.if-at-spokes.branch [
      | then-at-spokes w ↦
          let full : c.loop-turn.at + 1 ≡ spokes =
          omega (arith, w.if-at-spokes.true, c.len-spokes.ensures) in
          record {
            within = omega (arith, w.at-is, c.requires.chains.spokes);
            spoke = w.at-is ∙ sym (mod_self spokes) ∙ ap (λ k. k % spokes) (sym full) ∙ next;
            later = later;
          }
      | else-at-spokes w ↦
          let less : c.loop-turn.at + 1 < spokes =
          omega (arith, w.if-at-spokes.false, c.len-spokes.ensures, c.loop-turn.invariant.within) in
          record {
            within = omega (arith, w.at-is, less);
            spoke = w.at-is ∙ sym (mod-eq_of_lt less) ∙ next;
            later = later;
          }
    ]
