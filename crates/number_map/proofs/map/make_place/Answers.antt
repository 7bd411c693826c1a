use Rattle.std.proofs.Common.{◌-◌, length, ap, ◌∙◌}
use Rattle.number_map.specs.Content.{entries_from}
use Rattle.number_map.proofs.Places.{longer}
use Rattle.number_map.proofs.map.make_place.Goals as goal

pub returns-clause-entries : goal.returns-clause-entries
returns-clause-entries g c = ap (entries_from 0) c.in_ok-lengthen.ensures.ok
    ∙ longer (c.in-Some.len - length c.args.places.now) c.args.places.now
