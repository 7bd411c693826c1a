use Rattle.std.proofs.Common.{subst}
use Rattle.script_net.specs.ScriptEnd.{RoleKeeps}
use Rattle.script_net.proofs.KeepsEnds.{keeps_read}
use Rattle.script_net.proofs.end.ScriptEndPeerEnd.read.Goals as goal

pub returns-clause-kept : goal.returns-clause-kept
returns-clause-kept c t keeps = keeps_read t c.in-Connection.peer c.read.new.self c.read.new.buf
    c.read.result c.read.ensures.reads (subst (RoleKeeps t) c.in-Connection.is keeps)
