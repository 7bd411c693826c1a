use Rattle.std.proofs.Common.{◌∙◌, ◌++◌, ◌-◌, List, length, drop, ap, arith}
use Rattle.std.specs.Vec.{with_items}
use Rattle.std.proofs.lemmas.List.{with_items_is}
use Rattle.script_net.specs.declared.script.End.{End}
use Rattle.script_net.proofs.PlayerLemmas.{looks_again}
use Rattle.script_net.proofs.player.Player.look_again.Goals as goal

pub returns-clause-stands : goal.returns-clause-stands
returns-clause-stands c p s =
    let self = c.args.self.now in
    let items = with_items_is self.held c.put_back-self.new.held
    (c.put_back-self.auto.held ∙ c.deref_mut.ensures.len) in
    looks_again p self (with_items self.held c.put_back-self.new.held) c.put_back-self.result
    c.clear.new.self s
    (record {
      first = c.put_back-self.ensures.first
          ∙ ap (λ (es : List End). self.first - length es) c.deref.ensures.value;
      held = ap (drop c.put_back-self.result) items ∙ c.put_back-self.ensures.held
          ∙ ap (λ (es : List End). es ++ drop self.first c.deref_mut.result.now)
          c.deref.ensures.value ∙ ap (λ (es : List End). self.unwanted.items ++ drop self.first es)
          c.deref_mut.ensures.value;
      many = ap length items ∙ c.put_back-self.auto.held ∙ ap length c.deref_mut.ensures.value;
      room = omega arith;
      empty = c.clear.ensures.items;
      unwanted_room = omega (arith, c.clear.ensures.capacity);
    })
