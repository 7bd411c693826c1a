use Rattle.std.proofs.Common.{subst}
use Rattle.script_net.specs.Host.{KeepsScript}
use Rattle.script_net.proofs.script_host.ScriptHost.new.Goals as goal

pub returns-clause-keeps : goal.returns-clause-keeps
returns-clause-keeps c t keeps = c.of_script.ensures.keeps t
    (subst (KeepsScript t) c.in-Some.is keeps)
