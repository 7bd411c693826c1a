use Rattle.std.proofs.Common.{◌≡◌, ◌<◌, ◌-◌, ◌++◌, ◌∷◌, [], List, length, get_or, false, ap, sym}
use Rattle.std.proofs.Common.{◌∙◌, arith}
use Rattle.std.proofs.lemmas.List.{get_or_read, length_push}
use Rattle.timer_queue.specs.declared.timer.Timer.{Timer}
use Rattle.timer_queue.specs.Timers.{in_order, is_scheduled, with_timer}
use Rattle.timer_heap.proofs.Moves.{apart_moved, length_moved}
use Rattle.timer_queue.proofs.Contents.{apart_push, in_order-added, permutation_pushed, unscheduled}
use Rattle.timer_heap.proofs.Removals.{index_added}
use Rattle.timer_heap.proofs.heap.HeapTimers.insert.Goals as goal

pub add-requires-clause-apart : goal.add-requires-clause-apart
add-requires-clause-apart c =
    apart_push c.args.t c.self.inside.tree.slots.items c.self.invariant.apart
    (ap (λ q. is_scheduled c.args.t.timer (in_order q.slots)) c.self.view_is ∙ c.requires.fresh)

pub invariant_of-self : goal.invariant_of-self
invariant_of-self c =
    let tree = c.self.inside.tree in
    let slots : List Timer = tree.slots.items in
    let fresh : is_scheduled c.args.t.timer (in_order slots) ≡ false =
    ap (λ q. is_scheduled c.args.t.timer (in_order q.slots)) c.self.view_is
    ∙ c.requires.fresh in
    let key : c.index.result.now ≡ get_or tree.keys.items (length slots) 0 =
    let spare : length tree.keys.items - length slots ≡ c.args.self.now.spare =
    ap (λ q. q.spare) c.self.view_is in
    let within : length slots < length tree.keys.items = omega (arith, c.requires.room) in
    let at : c.len.result ≡ length slots = omega arith in
    get_or_read tree.keys.items (length slots) c.index.result.now within (rw at at c.index.ensures)
    0 in
    record {
      heap = c.add.ensures.heap;
      apart = apart_moved _ _ _ _ c.add.ensures.moved
          (apart_push c.args.t slots c.self.invariant.apart fresh);
      keyed = c.add.ensures.keyed;
      each_key = c.add.ensures.room.places ∙ c.self.invariant.each_key
          ∙ sym c.add.ensures.moved.keys;
      indexed = index_added c.make_room.new.index.items c.put.new.index.items slots
          c.add.new.self.slots.items tree.keys.items c.add.new.self.keys.items c.args.t
          c.index.result.now
          c.make_room.ensures.sound c.put.ensures.rising c.put.ensures.there c.put.ensures.others
          key (unscheduled c.args.t.timer slots fresh) c.add.ensures.moved.pairs;
      slots_fit = omega (arith, c.self.invariant.slots_fit, c.add.ensures.moved.keys);
      index_fits = omega (arith, c.self.invariant.index_fits, c.add.ensures.moved.keys);
    }

pub returns-clause-timers : goal.returns-clause-timers
returns-clause-timers c =
    let slots : List Timer = c.self.inside.tree.slots.items in
    let fresh : is_scheduled c.args.t.timer (in_order slots) ≡ false =
    ap (λ q. is_scheduled c.args.t.timer (in_order q.slots)) c.self.view_is
    ∙ c.requires.fresh in
    in_order-added c.args.t slots c.add.new.self.slots.items c.self.invariant.apart fresh
    (permutation_pushed c.args.t slots c.add.new.self.slots.items c.add.ensures.moved.slots)
    ∙ ap (λ q. with_timer c.args.t (in_order q.slots)) c.self.view_is

pub returns-clause-spare : goal.returns-clause-spare
returns-clause-spare c =
    let slots : List Timer = c.self.inside.tree.slots.items in
    let spare : length c.self.inside.tree.keys.items - length slots ≡ c.args.self.now.spare =
    ap (λ q. q.spare) c.self.view_is in
    let n : length c.add.new.self.slots.items ≡ length (slots ++ c.args.t ∷ []) =
    length_moved _ _ _ _ c.add.ensures.moved in
    omega (arith, length_push slots c.args.t, c.add.ensures.moved.keys)
