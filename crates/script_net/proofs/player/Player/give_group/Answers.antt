use Rattle.std.proofs.Common.{◌∙◌, ◌++◌, ◌-◌, List, length, take, drop, sym, ap, subst, arith}
use Rattle.std.proofs.lemmas.List.{take_rest, length-drop, length-append}
use Rattle.script_net.specs.declared.script.End.{End}
use Rattle.script_net.specs.Scripts.{steps_at}
use Rattle.script_net.specs.Playable.{AreWithin}
use Rattle.script_net.specs.Player.{connections_of}
use Rattle.script_net.specs.Sorting.{WaitSorts}
use Rattle.script_net.proofs.PlayerLemmas.{next_group, gives_group}
use Rattle.script_net.proofs.player.Player.give_group.Goals as goal

pub sort_out-stop-requires-clause-within : goal.sort_out-stop-requires-clause-within
sort_out-stop-requires-clause-within c =
    let n = next_group c.args.self.now c.requires.stands.0 c.index-group.result.now
    c.requires.stands.1 c.requires.some c.index-group.ensures in
    subst (λ (es : List End). AreWithin (connections_of c.args.self.now) (steps_at es))
    (sym c.deref.ensures.value) n.within

pub sort_out-stop-requires-clause-room : goal.sort_out-stop-requires-clause-room
sort_out-stop-requires-clause-room c =
    let n = next_group c.args.self.now c.requires.stands.0 c.index-group.result.now
    c.requires.stands.1 c.requires.some c.index-group.ensures in
    omega (arith, n.passed_room, ap length c.deref.ensures.value)

pub hold-requires : goal.hold-requires
hold-requires c =
    let n = next_group c.args.self.now c.requires.stands.0 c.index-group.result.now
    c.requires.stands.1 c.requires.some c.index-group.ensures in
    omega (
      arith,
      n.room,
      ap length c.deref.ensures.value,
      ap length c.deref-2.ensures.value,
      c.sort_out-stop.ensures.few,
      c.sort_out-stop.ensures.stops,
    )

pub hold-requires-2 : goal.hold-requires-2
hold-requires-2 c =
    let n = next_group c.args.self.now c.requires.stands.0 c.index-group.result.now
    c.requires.stands.1 c.requires.some c.index-group.ensures in
    let long = ap length (take_rest c.deref-3.result.now c.sort_out-stop.result) in
    let behind = length-drop c.sort_out-stop.result c.deref-3.result.now in
    let both = length-append c.args.self.now.held.items c.deref-2.result.now in
    omega (
      arith,
      n.room,
      long,
      behind,
      both,
      ap length c.hold.ensures.held,
      c.hold.ensures.room,
      ap length c.deref.ensures.value,
      ap length c.deref-2.ensures.value,
      ap length c.deref-3.ensures.value,
      c.sort_out-stop.ensures.few,
      c.sort_out-stop.ensures.stops,
    )

pub returns-clause-gives : goal.returns-clause-gives
returns-clause-gives c p group groups s are =
    let self = c.args.self.now in
    let g = c.index-group.result.now in
    let steps = c.deref.ensures.value in
    let passed = c.sort_out-stop.new.passed.items in
    let n = next_group self p g s c.requires.some c.index-group.ensures in
    let rest = take_rest c.deref-3.result.now c.sort_out-stop.result
    ∙ ap (drop c.sort_out-stop.result) c.deref-3.ensures.value in
    gives_group p self g c.sort_out-stop.result passed c.hold-2.new.held c.clear.new.self
    c.sort_out-stop.new.reports s n
    (record {
      sorted = subst (λ (es : List End).
          WaitSorts self.seats es c.sort_out-stop.new.reports.items passed
          (drop c.sort_out-stop.result es)) steps c.sort_out-stop.ensures.sorted;
      within = c.sort_out-stop.ensures.within;
      few = omega (arith, c.sort_out-stop.ensures.few);
      stops = omega (arith, c.sort_out-stop.ensures.stops, ap length steps);
      held = c.hold-2.ensures.held ∙ ap (λ (es : List End). es
          ++ take (length c.deref-3.result.now - c.sort_out-stop.result)
          (drop c.sort_out-stop.result c.deref-3.result.now)) c.hold.ensures.held
          ∙ ap (λ (es : List End). (self.held.items ++ c.deref-2.result.now) ++ es) rest
          ∙ ap (λ (es : List End). (self.held.items ++ es)
          ++ drop c.sort_out-stop.result g.steps.items) c.deref-2.ensures.value;
      room = omega (arith, c.hold.ensures.room, c.hold-2.ensures.room);
      empty = c.clear.ensures.items;
      passed_room = omega (arith, c.sort_out-stop.ensures.passed_room, c.clear.ensures.capacity);
      report_room = c.sort_out-stop.ensures.report_room;
    }) group groups are
