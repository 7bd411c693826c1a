use Rattle.std.proofs.Common.{subst}
use Rattle.script_net.specs.ScriptEnd.{RoleKeeps}
use Rattle.script_net.proofs.KeepsEnds.{keeps_one, keeps_given, keeps_none, keeps_failed}
use Rattle.script_net.proofs.end.ScriptEndPeerEnd.accept.Goals as goal

pub returns-in-One-clause-kept : goal.returns-in-One-clause-kept
returns-in-One-clause-kept c t keeps =
    keeps_one t c.in-Listener.listener c.accept.new.self c.in-One.peer c.in-One.ensures.next
    c.in-One.ensures.accepts.offering (subst (RoleKeeps t) c.in-Listener.is keeps)

pub returns-in-One-clause-given : goal.returns-in-One-clause-given
returns-in-One-clause-given c t keeps =
    keeps_given t c.in-Listener.listener c.accept.new.self c.in-One.peer c.in-One.ensures.next
    (subst (RoleKeeps t) c.in-Listener.is keeps)

pub returns-in-Pause-clause-kept : goal.returns-in-Pause-clause-kept
returns-in-Pause-clause-kept c t keeps =
    keeps_none t c.in-Listener.listener c.accept.new.self c.in-Pause.ensures.next
    c.in-Pause.ensures.accepts.offering (subst (RoleKeeps t) c.in-Listener.is keeps)

pub returns-in-Failed-clause-kept : goal.returns-in-Failed-clause-kept
returns-in-Failed-clause-kept c t keeps =
    keeps_failed t c.in-Listener.listener c.accept.new.self c.in-Failed.ensures.next
    c.in-Failed.ensures.accepts.offering (subst (RoleKeeps t) c.in-Listener.is keeps)
