use Rattle.std.proofs.Common.{◌∙◌}
use Rattle.reactor_model.specs.reactor_journal.specs.Past.{past_of}
use Rattle.reactor_summary.specs.Summary.{summary}
use Rattle.reactor_core.proofs.Cancelling.{armed_found, timeout_found, pending_armed, pending_waits}
use Rattle.reactor_core.proofs.reactor.Core.is_pending.Goals as goal

pub returns-then-is_some : goal.returns-then-is_some
returns-then-is_some g c t F h o =
    pending_armed (summary (past_of h)) c.args.timer c.is_some.result
    (c.is_some.ensures ∙ armed_found (summary (past_of h)) c.args.timer c.armed_handle.result
    (c.armed_handle.ensures (summary (past_of h)) o.tracks.state)) c.if-is_some.true

pub returns-else-is_some : goal.returns-else-is_some
returns-else-is_some g c t F h o =
    pending_waits (summary (past_of h)) c.args.timer c.is_some.result c.is_some-else-is_some.result
    (c.is_some.ensures ∙ armed_found (summary (past_of h)) c.args.timer c.armed_handle.result
    (c.armed_handle.ensures (summary (past_of h)) o.tracks.state))
    c.if-is_some.false
    (c.is_some-else-is_some.ensures ∙ timeout_found (summary (past_of h)) c.args.timer
    c.timeout_handle.result (c.timeout_handle.ensures (summary (past_of h)) o.tracks.state))
