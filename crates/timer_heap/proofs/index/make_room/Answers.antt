use Rattle.std.proofs.Common.{◌≡◌, ◌≤◌, ap, sym, subst, rules, arith, length, is_some}
use Rattle.std.proofs.lemmas.Fn.{filter_same}
use Rattle.std.proofs.lemmas.List.Elements.{filter_passes}
use Rattle.std.specs.List.{filter}
use Rattle.timer_index.specs.declared.index.Numbered.{Numbered}
use Rattle.timer_heap.specs.Tree.{IsIndex, place_in}
use Rattle.timer_heap.proofs.Removals.{leads, index_filtered, length-leading}
use Rattle.timer_heap.proofs.index.make_room.Goals as goal

kept : (c : goal.After-retain) → c.retain.new.self.items
    ≡ filter (leads c.args.tree.now.slots.items c.args.tree.now.keys.items
    c.args.tree.now.places.items) c.args.index.now.items
kept c = filter_same _ (λ (e : Numbered).
    is_some (place_in c.args.tree.now.slots.items c.args.tree.now.places.items e)) _
    (λ x b f' k. search rules) _ _ c.retain.ensures.filtered

pub returns-clause-sound : goal.returns-clause-sound
returns-clause-sound c =
    let tree = c.args.tree.now in
    subst (λ i. IsIndex i tree.slots.items tree.keys.items) (sym (kept c))
    (index_filtered tree.slots.items tree.keys.items tree.places.items c.args.index.now.items
    c.requires.sound c.requires.keyed)

pub returns-clause-room : goal.returns-clause-room
returns-clause-room c =
    let tree = c.args.tree.now in
    let q = leads tree.slots.items tree.keys.items tree.places.items in
    let sound = index_filtered tree.slots.items tree.keys.items tree.places.items
    c.args.index.now.items c.requires.sound c.requires.keyed in
    let few : length (filter q c.args.index.now.items) ≤ length tree.slots.items =
    length-leading tree.slots.items tree.keys.items tree.places.items
    (filter q c.args.index.now.items) sound.rising (filter_passes q c.args.index.now.items) in
    let n : length c.retain.new.self.items ≡ length (filter q c.args.index.now.items) =
    ap length (kept c) in
    omega (arith, c.retain.ensures.capacity)
