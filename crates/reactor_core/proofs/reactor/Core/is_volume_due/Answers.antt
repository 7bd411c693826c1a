use Rattle.std.proofs.Common.{◌^◌, ◌&&◌, sym, ap, ◌∙◌}
use Rattle.std.specs.Prelude.{nat_lt}
use Rattle.std.proofs.lemmas.Bool.{le-leb}
use Rattle.reactor_model.specs.reactor_journal.specs.Past.{past_of}
use Rattle.reactor_summary.specs.Summary.{summary}
use Rattle.reactor_core.proofs.HandOver.{due_is}
use Rattle.reactor_core.proofs.reactor.Core.is_volume_due.Goals as goal

pub returns-then-len-self : goal.returns-then-len-self
returns-then-len-self g c t F h o =
    sym (ap (λ b. b && nat_lt c.entries.result (2 ^ 62)) (le-leb _ _ c.if-len-self.true))
    ∙ due_is _ t c.args.self.now F h c.len.result c.entries.result c.len.ensures
    (c.entries.ensures (summary (past_of h)) o.tracks.state) o
