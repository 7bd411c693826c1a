use Rattle.std.proofs.Common.{◌≡◌, ◌∙◌, length, rules}
use Rattle.reactor_state.proofs.Owners.{same_length}
use Rattle.reactor_state.proofs.armed.Armed.len.Goals as goal

pub returns : goal.returns
returns g c armed has =
    let counted : c.len.result ≡ length c.args.self.now.owners.items = search rules in
    counted ∙ same_length c.args.self.now.owners.items armed has.owners
