use Rattle.std.proofs.Common.{List, subst}
use Rattle.std.specs.List.{Contains}
use Rattle.ev_base.specs.Playing.{Seat}
use Rattle.script_net.specs.Seating.{handles_of}
use Rattle.script_net.specs.NetContent.{NetContent, playing_of}
use Rattle.script_net.proofs.net.ScriptNetNet.attach.Goals as goal

pub attach-requires-clause-absent : goal.attach-requires-clause-absent
attach-requires-clause-absent c = λ h.
    c.requires.absent (subst (λ (n : NetContent).
    Contains (handles_of (playing_of n).seats) c.args.handle.0) c.self.view_is
    (subst (λ (ss : List Seat). Contains (handles_of ss) c.args.handle.0)
    c.self.invariant.stands.seats h))
