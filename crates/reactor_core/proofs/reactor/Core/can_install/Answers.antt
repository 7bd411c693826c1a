use Rattle.std.proofs.Common.{sym, ◌∙◌, inl}
use Rattle.reactor_model.specs.reactor_journal.specs.Past.{past_of}
use Rattle.reactor_summary.specs.Summary.{summary}
use Rattle.reactor_core.proofs.Registered.{can_by}
use Rattle.reactor_core.proofs.reactor.Core.can_install.Goals as goal

pub returns-then-is_ended : goal.returns-then-is_ended
returns-then-is_ended g c t F h k =
    inl (sym (c.is_ended.ensures (summary (past_of h)) k.state) ∙ c.if-is_ended.true)

pub returns : goal.returns
returns g c t F h k =
    let s = summary (past_of h) in
    can_by t.most (past_of h) c.args.self.now.most c.live.result c.opened.result k.legal
    k.state.sound.opened k.most (c.live.ensures s k.state) (c.opened.ensures s k.state)
    (sym (c.is_ended.ensures s k.state) ∙ c.if-is_ended.false) _ c.has_place.ensures
