use Rattle.std.proofs.Common.{rules, ap, sym, ◌∙◌}
use Rattle.std.proofs.lemmas.Fn.{filter_same}
use Rattle.ev_base.specs.Net.{without}
use Rattle.test_sockets.proofs.rig.Rig.retire.Goals as goal

pub invariant_of-self : goal.invariant_of-self
invariant_of-self c = record {
  same = c.retire.ensures.retires.attached ∙ ap (without c.args.handle) c.args.self.now.same
      ∙ sym (filter_same _ _ _ (λ x b f' k. search rules) _ _ c.retain.ensures.filtered);
}
