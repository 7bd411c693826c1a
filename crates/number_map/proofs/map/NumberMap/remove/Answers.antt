use Rattle.std.proofs.Common.{◌<◌, List, Option, None, length, sym, ap, ◌∙◌, subst, arith}
use Rattle.std.specs.BTreeMap.{is_at}
use Rattle.std.specs.Map.{remove_entry, keys_of}
use Rattle.std.specs.List.Sorted.{IsStrictlySortedBy}
use Rattle.std.specs.Ordering.{nat_cmp}
use Rattle.number_map.specs.Content.{Content, Updates, entries_from, found}
use Rattle.number_map.proofs.Places.{in_order, removed, some_there, unmoved, updates_same, within}
use Rattle.number_map.proofs.map.NumberMap.remove.Goals as goal

pub returns-in_err-value-clause-entries : goal.returns-in_err-value-clause-entries
returns-in_err-value-clause-entries g c =
    unmoved c.args.number c.args.self.now.entries (sym c.in_err-value.ensures.value)

pub returns-in_err-value-clause-ordered : goal.returns-in_err-value-clause-ordered
returns-in_err-value-clause-ordered g c =
    subst (λ (m : Content g.row.V.Denot). IsStrictlySortedBy nat_cmp (keys_of m.entries))
    c.self.view_is (in_order 0 c.self.inside.places)

pub take-requires-clause-there : goal.take-requires-clause-there
take-requires-clause-there g c =
    let there : c.args.number < length c.self.inside.places =
    within c.self.inside.places c.args.number c.in_ok-value.value
    (ap (λ (m : Content g.row.V.Denot). found m c.args.number) c.self.view_is
    ∙ sym c.in_ok-value.ensures.value)
    in
    omega arith

pub take-requires-clause-held : goal.take-requires-clause-held
take-requires-clause-held g c =
    some_there c.self.inside.places c.args.number c.in_ok-value.value
    (ap (λ (m : Content g.row.V.Denot). found m c.args.number) c.self.view_is
    ∙ sym c.in_ok-value.ensures.value)

pub returns-clause-entries : goal.returns-clause-entries
returns-clause-entries g c =
    ap (entries_from 0) c.take.ensures
    ∙ (removed c.self.inside.places c.args.number
    (within c.self.inside.places c.args.number c.in_ok-value.value
    (ap (λ (m : Content g.row.V.Denot). found m c.args.number) c.self.view_is
    ∙ sym c.in_ok-value.ensures.value))
    ∙ ap (λ (m : Content g.row.V.Denot). remove_entry (is_at (nat_cmp c.args.number)) m.entries)
    c.self.view_is)

pub returns-clause-updates : goal.returns-clause-updates
returns-clause-updates g c =
    subst (λ (places : List (Option g.row.V.Denot)).
    Updates (record { entries = c.args.self.now.entries })
    (record { entries = entries_from 0 places }) c.args.number None)
    (sym c.take.ensures)
    (updates_same c.self.inside.places c.args.number None c.args.self.now.entries
    (within c.self.inside.places c.args.number c.in_ok-value.value
    (ap (λ (m : Content g.row.V.Denot). found m c.args.number) c.self.view_is
    ∙ sym c.in_ok-value.ensures.value))
    (ap (λ (m : Content g.row.V.Denot). m.entries) c.self.view_is))

pub returns-clause-ordered : goal.returns-clause-ordered
returns-clause-ordered g c = in_order 0 c.take.new.self
