use Rattle.std.proofs.Common.{sym, ◌∙◌}
use Rattle.reactor_model.specs.reactor_journal.specs.Past.{past_of}
use Rattle.reactor_summary.specs.Summary.{summary}
use Rattle.reactor_core.proofs.Stopped.{removes, quiet_of}
use Rattle.reactor_core.proofs.reactor.Core.remove.Goals as goal

pub returns-clause-ok : goal.returns-clause-ok
returns-clause-ok g c t F h st =
    let alive = sym (c.is_alive.ensures (summary (past_of h)) st.tracks.state)
    ∙ c.if-not-is_alive.false in
    removes _ t c.args.self.now _ F h c.args.handle st alive
    (c.remove_alive.ensures.stands t F h (quiet_of _ t c.args.self.now F h st) alive)
