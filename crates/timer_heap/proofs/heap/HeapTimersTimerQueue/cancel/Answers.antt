use Rattle.std.proofs.Common.{◌≡◌, ◌-◌, List, ℕ, length, false, ap, sym, ◌∙◌, subst, arith}
use Rattle.std.proofs.Common.{Contains}
use Rattle.timer_queue.specs.declared.timer.Timer.{Timer}
use Rattle.timer_queue.specs.Timers.{in_order, is_scheduled, without_timer}
use Rattle.timer_queue.proofs.Schedules.{without_timer-fresh}
use Rattle.timer_queue.proofs.Members.{is_scheduled-same, members_in_order}
use Rattle.timer_index.specs.declared.index.Numbered.{Numbered}
use Rattle.timer_queue.proofs.Contents.{in_order-removed, was_scheduled, length_removed}
use Rattle.timer_heap.proofs.Removals.{unlisted, led_nowhere, found_from, sound_taken}
use Rattle.timer_heap.proofs.heap.HeapTimersTimerQueue.cancel.Goals as goal

listed_nowhere : (number : ℕ) (slots : List Timer) → is_scheduled number slots ≡ false
    → is_scheduled number (in_order slots) ≡ false
listed_nowhere number slots h = sym
    (is_scheduled-same number slots (in_order slots) (members_in_order slots)) ∙ h

absent : (c : goal.In_default) → is_scheduled c.args.timer (in_order c.args.self.now.slots) ≡ false
absent c =
    let s = c.self.inside in
    sym (ap (λ q. is_scheduled c.args.timer (in_order q.slots)) c.self.view_is)
    ∙ listed_nowhere c.args.timer s.tree.slots.items
    (unlisted s.index.items s.tree.slots.items s.tree.keys.items c.args.timer
    c.self.invariant.indexed (rw c.deref.ensures.value at c.in_default.ensures))

pub returns-in_default-clause-found : goal.returns-in_default-clause-found
returns-in_default-clause-found c = sym (absent c)

pub returns-in_default-clause-timers : goal.returns-in_default-clause-timers
returns-in_default-clause-timers c =
    sym (without_timer-fresh c.args.timer (in_order c.args.self.now.slots) (absent c))

led_away : (c : goal.In_default-place_of)
    → is_scheduled c.args.timer (in_order c.args.self.now.slots) ≡ false
led_away c =
    let s = c.self.inside in
    let e : Numbered = c.in-Some.entry in
    let timer : e.timer ≡ c.args.timer = c.in-Some.ensures.0 in
    let only : (key : ℕ) → Contains s.index.items (record { timer = c.args.timer; key = key })
    → key ≡ e.key = rw c.deref.ensures.value at c.in-Some.ensures.1 in
    sym (ap (λ q. is_scheduled c.args.timer (in_order q.slots)) c.self.view_is)
    ∙ listed_nowhere c.args.timer s.tree.slots.items
    (subst (λ n. is_scheduled n s.tree.slots.items ≡ false) timer
    (led_nowhere s.index.items s.tree.slots.items s.tree.keys.items s.tree.places.items e
    c.self.invariant.indexed c.self.invariant.keyed
    (λ key has. only key (subst (λ n. Contains s.index.items (let g : Numbered =
    record { timer = n; key = key } in g)) timer has)) (sym c.in_default-place_of.ensures)))

pub returns-in_default-place_of-clause-found : goal.returns-in_default-place_of-clause-found
returns-in_default-place_of-clause-found c = sym (led_away c)

pub returns-in_default-place_of-clause-timers : goal.returns-in_default-place_of-clause-timers
returns-in_default-place_of-clause-timers c =
    sym (without_timer-fresh c.args.timer (in_order c.args.self.now.slots) (led_away c))

pub take_out-requires-clause-within : goal.take_out-requires-clause-within
take_out-requires-clause-within c =
    (found_from c.self.inside.tree.slots.items c.self.inside.tree.places.items c.in-Some.entry
    c.in-Some-place_of.place (sym c.in-Some-place_of.ensures)).0

-- the timer that was taken out has the number
number : (c : goal.After-take_out) → c.take_out.result.timer ≡ c.args.timer
number c =
    let f = found_from c.self.inside.tree.slots.items c.self.inside.tree.places.items
    c.in-Some.entry c.in-Some-place_of.place (sym c.in-Some-place_of.ensures) in
    ap (λ t. t.timer) (c.take_out.ensures.taken c.take_out.result) ∙ f.1 c.take_out.result
    ∙ c.in-Some.ensures.0

pub invariant_of-self : goal.invariant_of-self
invariant_of-self c =
    sound_taken c.take_out.result c.self.inside.tree.slots.items _ c.self.inside.tree.keys.items _
    c.self.inside.tree.places.items _ _ _ _ _ c.self.invariant c.take_out.ensures.slots
    c.take_out.ensures.heap c.take_out.ensures.pairs
    c.take_out.ensures.keyed c.take_out.ensures.room.places c.take_out.ensures.keys
    c.take_out.ensures.room.capacity

pub returns-clause-found : goal.returns-clause-found
returns-clause-found c =
    sym (ap (λ n. is_scheduled n (in_order c.self.inside.tree.slots.items)) (sym (number c))
    ∙ was_scheduled c.take_out.result c.self.inside.tree.slots.items
    c.take_out.new.self.slots.items c.self.invariant.apart c.take_out.ensures.slots)
    ∙ ap (λ q. is_scheduled c.args.timer (in_order q.slots)) c.self.view_is

pub returns-clause-timers : goal.returns-clause-timers
returns-clause-timers c =
    in_order-removed c.take_out.result c.self.inside.tree.slots.items
    c.take_out.new.self.slots.items c.self.invariant.apart c.take_out.ensures.slots
    ∙ ap (λ n. without_timer n (in_order c.self.inside.tree.slots.items)) (number c)
    ∙ ap (λ q. without_timer c.args.timer (in_order q.slots)) c.self.view_is

pub returns-clause-spare : goal.returns-clause-spare
returns-clause-spare c =
    let spare : length c.self.inside.tree.keys.items - length c.self.inside.tree.slots.items
    ≡ c.args.self.now.spare = ap (λ q. q.spare) c.self.view_is in
    omega (
      arith,
      length_removed c.take_out.result c.self.inside.tree.slots.items
          c.take_out.new.self.slots.items c.self.invariant.apart c.take_out.ensures.slots,
      c.take_out.ensures.keys,
      c.self.invariant.keyed.fits,
    )
