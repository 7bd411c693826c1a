use Rattle.std.proofs.Common.{sym, ◌∙◌}
use Rattle.reactor_model.specs.reactor_journal.specs.Past.{past_of}
use Rattle.reactor_summary.specs.Summary.{summary}
use Rattle.reactor_core.proofs.reactor.Core.post.Goals as goal

pub returns-clause-ok : goal.returns-clause-ok
returns-clause-ok g c t F h o =
    c.post_reserved.ensures.stands t F h (c.in-Ok.ensures.stands t F h o)
    (c.in-Ok.ensures.room t F h o) (sym
    (c.is_ended.ensures (summary (past_of h)) o.tracks.state) ∙ c.if-is_ended.false)
