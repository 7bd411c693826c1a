use Rattle.std.proofs.Common.{◌≡◌, ◌≤◌, ◌∙◌, List, ℕ, Some, length, refl, sym, ap, arith}
use Rattle.std.proofs.lemmas.Option.{slice_get_read}
use Rattle.std.specs.List.{slice_get}
use Rattle.number_map.specs.Held.{own}
use Rattle.number_map.proofs.Held.{read, nothing_there}
use Rattle.number_map.proofs.place_list.Places.get.Goals as goal

pub returns-in-Some : goal.returns-in-Some
returns-in-Some g c =
    let leading : slice_get c.self.inside.leads.items c.args.place ≡ Some c.in-Some.lead.now =
    ap (λ (leads : List ℕ). slice_get leads c.args.place) (sym c.deref.ensures.value)
    ∙ slice_get_read c.deref.result.now (length c.deref.result.now) c.args.place c.in-Some.lead.now
    refl c.in-Some.ensures.lookup.3.0 c.in-Some.ensures.lookup.1
    in
    c.own.ensures
    ∙ (ap (λ (held : List (ℕ × g.row.V.Denot)).
    own c.args.place (slice_get held c.in-Some.lead.now)) c.deref-in-Some.ensures.value
    ∙ read c.self.inside.held.items c.self.inside.leads.items c.args.self.now c.args.place
    c.in-Some.lead.now c.self.view_is leading)

pub returns-in-None : goal.returns-in-None
returns-in-None g c =
    let past : length c.self.inside.leads.items ≤ c.args.place =
    omega (arith, c.in-None.ensures.lookup.3, c.deref.ensures.len) in
    nothing_there c.self.inside.held.items c.self.inside.leads.items c.args.self.now c.args.place
    c.self.view_is past
