use Rattle.std.proofs.Common.{arith, rules, refl}
use Rattle.std.proofs.lemmas.Fn.{filter_same}
use Rattle.test_nets.proofs.round_robin.RoundRobinNetNet.retire.Goals as goal

pub returns-clause-retires : goal.returns-clause-retires
returns-clause-retires c = record {
  attached = filter_same _ _ _ (λ x b f' k. search rules) _ _ c.retain.ensures.filtered;
  masks = refl;
  retired = refl;
  calls = refl;
  spare = omega arith;
  failed_waits = refl;
  failed_attaches = refl;
  now = refl;
  reports = refl;
  steady = refl;
  turned_away = refl;
}
