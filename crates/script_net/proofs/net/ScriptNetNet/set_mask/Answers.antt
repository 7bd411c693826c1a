use Rattle.std.proofs.Common.{sym, subst, arith}
use Rattle.std.proofs.lemmas.Grind.{common_steps}
use Rattle.ev_base.specs.Net.{SetsMaskOf}
use Rattle.script_net.specs.NetContent.{NetContent, script_net_facts}
use Rattle.script_net.proofs.NetLemmas.{sets_mask}
use Rattle.script_net.proofs.net.ScriptNetNet.set_mask.Goals as goal

pub returns-clause-exactly : goal.returns-clause-exactly
returns-clause-exactly c = grind (arith, common_steps)

pub returns-clause-sets : goal.returns-clause-sets
returns-clause-sets c =
    subst (λ (n : NetContent). SetsMaskOf (script_net_facts c.args.self.now) c.args.handle.0
    c.args.mask (script_net_facts n)) (sym (returns-clause-exactly c))
    (sets_mask c.args.self.now c.args.handle.0 c.args.mask)
