use Rattle.std.proofs.Common.{◌∙◌, ap, sym, subst}
use Rattle.std.proofs.lemmas.List.{map_push}
use Rattle.script_net.specs.Scripts.{part_view, part_views}
use Rattle.script_net.specs.Playable.{AreFilled}
use Rattle.script_net.proofs.Reading.{filled_push}
use Rattle.script_net.proofs.script.Connection.add.Goals as goal

pub invariant_of-self-2 : goal.invariant_of-self-2
invariant_of-self-2 c =
    let parts = part_views c.self.inside.parts.items in
    let more = ap part_views c.in_ok-push.ensures.items
    ∙ map_push part_view c.self.inside.parts.items c.args.part in (
      subst AreFilled (sym more) (filled_push parts (part_view c.args.part) c.self.invariant.0
          c.requires),
      c.self.invariant.1,
      c.self.invariant.2,
    )
