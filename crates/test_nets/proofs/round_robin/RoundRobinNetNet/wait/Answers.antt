use Rattle.std.proofs.Common.{arith, refl}
use Rattle.test_nets.proofs.InTurn.{length_in_turn}
use Rattle.test_nets.proofs.round_robin.RoundRobinNetNet.wait.Goals as goal

pub returns-clause-waits : goal.returns-clause-waits
returns-clause-waits c =
    let len = length_in_turn c.args.self.now.handles c.handle_at-self.result c.min-count.result in (
      record {
        now = refl;
        later = omega arith;
        bounded = omega arith;
        few = omega (arith, len);
        wanted = tt;
        calls = refl;
        failed_waits = refl;
        failed_attaches = refl;
        steady = refl;
        attached = refl;
        spare = omega arith;
        masks = refl;
        retired = refl;
        turned_away = refl;
      },
      len,
      omega arith,
    )
