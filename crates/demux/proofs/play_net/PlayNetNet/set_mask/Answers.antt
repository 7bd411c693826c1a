use Rattle.std.proofs.Common.{arith, sym, subst}
use Rattle.std.proofs.lemmas.Grind.{common_steps}
use Rattle.ev_base.specs.Net.{SetsMaskOf}
use Rattle.demux.specs.PlayNet.{play_net_facts}
use Rattle.demux.proofs.Playing.{sets_mask}
use Rattle.demux.proofs.play_net.PlayNetNet.set_mask.Goals as goal

pub returns-clause-plays : goal.returns-clause-plays
returns-clause-plays c = grind (arith, common_steps)

pub returns-clause-sets : goal.returns-clause-sets
returns-clause-sets c =
    subst (λ n. SetsMaskOf (play_net_facts c.args.self.now) c.args.handle.0 c.args.mask
    (play_net_facts n)) (sym (returns-clause-plays c))
    (sets_mask c.args.self.now c.args.handle.0 c.args.mask)
