use Rattle.std.proofs.Common.{sym}
use Rattle.reactor_model.specs.reactor_journal.specs.Past.{past_of}
use Rattle.reactor_summary.specs.Summary.{summary}
use Rattle.reactor_core.proofs.Suspension.{suspension_none, suspension_dead, suspension_alive}
use Rattle.reactor_core.proofs.reactor.Core.suspension.Goals as goal

pub returns-in_default : goal.returns-in_default
returns-in_default g c t F h o = suspension_none (summary (past_of h)) c.args.handle.0
    (sym (c.in_default.ensures (summary (past_of h)) o.tracks.state))

pub returns-then-live : goal.returns-then-live
returns-then-live g c t F h o = suspension_alive t.most (past_of h) c.args.handle.0 c.in-Some.live
    o.tracks.legal (sym (c.in-Some.ensures (summary (past_of h)) o.tracks.state)) c.if-live.true

pub returns-else-live : goal.returns-else-live
returns-else-live g c t F h o = suspension_dead t.most (past_of h) c.args.handle.0 c.in-Some.live
    o.tracks.legal (sym (c.in-Some.ensures (summary (past_of h)) o.tracks.state)) c.if-live.false
