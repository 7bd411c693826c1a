use Rattle.std.proofs.Common.{sym, ◌∙◌}
use Rattle.reactor_desk.proofs.Dispatched.{lead_gives}
use Rattle.reactor_desk.proofs.desk.Desk.lead_on.Goals as goal

pub returns-clause-gives : goal.returns-clause-gives
returns-clause-gives g c q F h o fits =
    let running = sym (c.is_ended.ensures q.run F h o.core) ∙ c.if-is_ended.false in
    lead_gives _ q F h c.args.most_ms c.args.self.now _ c.go_on.result
    (record { running = running; whole = sym c.is_broken.ensures.told ∙ c.if-is_broken.false })
    (c.go_on.ensures.gives q F h o running fits)
