use Rattle.std.proofs.Common.{◌∙◌, ◌++◌, List, length, drop, sym, ap, subst, arith}
use Rattle.script_net.specs.declared.script.End.{End}
use Rattle.script_net.specs.Sorting.{WaitSorts}
use Rattle.script_net.specs.Scripts.{steps_at}
use Rattle.script_net.specs.Playable.{AreWithin}
use Rattle.script_net.specs.Player.{connections_of, fresh_of}
use Rattle.script_net.proofs.PlayerLemmas.{gives_held, within_behind}
use Rattle.script_net.proofs.player.Player.give_fresh.Goals as goal

pub sort_out-stop-requires-clause-within : goal.sort_out-stop-requires-clause-within
sort_out-stop-requires-clause-within c =
    let self = c.args.self.now in
    subst (λ (hs : List End). AreWithin (connections_of self) (steps_at (drop self.first hs)))
    (sym c.deref.ensures.value)
    (within_behind (connections_of self) self.unwanted.items (fresh_of self)
    c.requires.stands.1.held_within)

pub returns-clause-gives : goal.returns-clause-gives
returns-clause-gives c p s =
    let self = c.args.self.now in
    let passed = c.sort_out-stop.new.passed.items in
    let held = c.deref.ensures.value in
    gives_held p self c.sort_out-stop.result passed c.hold.new.held c.clear.new.self
    c.sort_out-stop.new.reports s c.requires.fresh
    (record {
      sorted = subst (λ (hs : List End).
          WaitSorts self.seats (drop self.first hs) c.sort_out-stop.new.reports.items passed
          (drop c.sort_out-stop.result hs)) held c.sort_out-stop.ensures.sorted;
      within = c.sort_out-stop.ensures.within;
      few = c.sort_out-stop.ensures.few;
      stops = omega (arith, c.sort_out-stop.ensures.stops, ap length held);
      unwanted = c.hold.ensures.held ∙ ap (λ (es : List End). self.unwanted.items ++ es)
          c.deref-2.ensures.value;
      room = c.hold.ensures.room;
      empty = c.clear.ensures.items;
      passed_room = omega (arith, c.sort_out-stop.ensures.passed_room, c.clear.ensures.capacity);
      report_room = c.sort_out-stop.ensures.report_room;
    })
