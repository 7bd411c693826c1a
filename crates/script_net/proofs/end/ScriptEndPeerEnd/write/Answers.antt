use Rattle.std.proofs.Common.{subst}
use Rattle.script_net.specs.ScriptEnd.{RoleKeeps}
use Rattle.script_net.proofs.KeepsEnds.{keeps_write}
use Rattle.script_net.proofs.end.ScriptEndPeerEnd.write.Goals as goal

pub returns-clause-kept : goal.returns-clause-kept
returns-clause-kept c t keeps = keeps_write t c.in-Connection.peer c.write.new.self c.args.piece.now
    c.write.ensures.after (subst (RoleKeeps t) c.in-Connection.is keeps)
