use Rattle.std.proofs.Common.{ℕ, List, Option, Some, sym, ap, subst, ◌∙◌}
use Rattle.std.specs.BTreeMap.{insert_entry}
use Rattle.std.specs.Ordering.{nat_cmp}
use Rattle.number_map.specs.Content.{Content, Updates, entries_from, found}
use Rattle.number_map.proofs.Places.{in_order, inserted, looked_up, nothing_past, updates_same}
use Rattle.number_map.proofs.Places.{refused}
use Rattle.number_map.proofs.map.NumberMap.insert.Goals as goal

pub returns-in_err-make_place-clause-absent : goal.returns-in_err-make_place-clause-absent
returns-in_err-make_place-clause-absent g c =
    refused c.from_residual.result
    (nothing_past c.self.inside.places c.args.number c.args.self.now.entries
    c.in_err-make_place.ensures.full (ap (λ (m : Content g.row.V.Denot). m.entries)
    c.self.view_is))

pub returns-in_err-make_place-clause-ordered : goal.returns-in_err-make_place-clause-ordered
returns-in_err-make_place-clause-ordered g c = in_order 0 c.make_place.new.places

pub returns-in_err-put-clause-absent : goal.returns-in_err-put-clause-absent
returns-in_err-put-clause-absent g c =
    refused c.from_residual-in_err-put.result
    (ap (λ (es : List (ℕ × g.row.V.Denot)). found (record { entries = es }) c.args.number)
    (sym (c.make_place.ensures.entries
    ∙ ap (λ (m : Content g.row.V.Denot). m.entries) c.self.view_is))
    ∙ (looked_up c.make_place.new.places c.args.number ∙ c.in_err-put.ensures.absent))

pub returns-in_err-put-clause-err : goal.returns-in_err-put-clause-err
returns-in_err-put-clause-err g c =
    refused c.from_residual-in_err-put.result
    (ap (entries_from 0) c.in_err-put.ensures.err
    ∙ (c.make_place.ensures.entries ∙ ap (λ (m : Content g.row.V.Denot). m.entries)
    c.self.view_is))

pub returns-in_err-put-clause-ordered : goal.returns-in_err-put-clause-ordered
returns-in_err-put-clause-ordered g c = in_order 0 c.put.new.self

pub returns-clause-entries : goal.returns-clause-entries
returns-clause-entries g c =
    ap (entries_from 0) c.in_ok-put.ensures.ok
    ∙ (inserted c.make_place.new.places c.args.number c.args.value c.in_ok-make_place.ensures.there
    ∙ ap (λ es. insert_entry nat_cmp es c.args.number c.args.value)
    (c.make_place.ensures.entries ∙ ap (λ (m : Content g.row.V.Denot). m.entries)
    c.self.view_is))

pub returns-clause-updates : goal.returns-clause-updates
returns-clause-updates g c =
    subst (λ (places : List (Option g.row.V.Denot)).
    Updates (record { entries = c.args.self.now.entries })
    (record { entries = entries_from 0 places }) c.args.number (Some c.args.value))
    (sym c.in_ok-put.ensures.ok)
    (updates_same c.make_place.new.places c.args.number (Some c.args.value) c.args.self.now.entries
    c.in_ok-make_place.ensures.there
    (c.make_place.ensures.entries ∙ ap (λ (m : Content g.row.V.Denot). m.entries) c.self.view_is))

pub returns-clause-ordered : goal.returns-clause-ordered
returns-clause-ordered g c = in_order 0 c.put.new.self
