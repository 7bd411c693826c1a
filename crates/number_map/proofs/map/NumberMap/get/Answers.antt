use Rattle.std.proofs.Common.{sym, ap, ◌∙◌}
use Rattle.number_map.specs.Content.{Content, found}
use Rattle.number_map.proofs.Places.{looked_up}
use Rattle.number_map.proofs.map.NumberMap.get.Goals as goal

pub returns : goal.returns
returns g c =
    record {
      value = c.get.ensures ∙ (sym (looked_up c.self.inside.places c.args.number)
          ∙ ap (λ (m : Content g.row.V.Denot). found m c.args.number) c.self.view_is);
    }
