use Rattle.std.proofs.Common.{◌∙◌, ◌≡◌, length, sym, ap, arith}
use Rattle.number_map.proofs.Held.{values_length}
use Rattle.number_map.proofs.place_list.Places.len.Goals as goal

pub returns : goal.returns
returns g c =
    let same : length c.args.self.now ≡ length c.self.inside.leads.items =
    ap length (sym c.self.view_is) ∙ values_length c.self.inside.held.items 0
    c.self.inside.leads.items in
    let count = c.len.ensures in
    omega arith
