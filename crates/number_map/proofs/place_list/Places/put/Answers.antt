use Rattle.std.proofs.Common.{◌≡◌, ◌<◌, ◌++◌, ◌∷◌, [], ◌∙◌, List, Option, Some, ℕ, length, set}
use Rattle.std.proofs.Common.{refl, sym, ap, subst, arith}
use Rattle.std.proofs.lemmas.Option.{slice_get_within, slice_get_read}
use Rattle.std.specs.List.{slice_get}
use Rattle.number_map.specs.Held.{is_own, values_from, IsLed}
use Rattle.number_map.proofs.Held.{within_leads, held_there, not_held, absent, overwritten}
use Rattle.number_map.proofs.Held.{led_overwritten, pushed, led_pushed}
use Rattle.number_map.proofs.Places.{refused}
use Rattle.number_map.proofs.place_list.Places.put.Goals as goal

pub index-requires : goal.index-requires
index-requires g c =
    let there : c.args.place < length c.self.inside.leads.items =
    within_leads c.self.inside.held.items c.self.inside.leads.items c.args.self.now c.args.place
    c.self.view_is c.requires in
    omega arith

pub index_mut-requires : goal.index_mut-requires
index_mut-requires g c =
    let h =
    held_there c.self.inside.held.items c.args.place c.index.result.now c.is_own.result
    (c.is_own.ensures ∙ ap (λ (xs : List (ℕ × g.row.V.Denot)).
    is_own c.args.place (slice_get xs c.index.result.now)) c.deref.ensures.value)
    c.if-is_own.true
    in
    let below : c.index.result.now < length c.self.inside.held.items =
    slice_get_within c.self.inside.held.items c.index.result.now h.0 h.1 in
    omega arith

pub invariant_of-self : goal.invariant_of-self
invariant_of-self g c =
    let there : c.args.place < length c.self.inside.leads.items =
    within_leads c.self.inside.held.items c.self.inside.leads.items c.args.self.now c.args.place
    c.self.view_is c.requires in
    let h =
    held_there c.self.inside.held.items c.args.place c.index.result.now c.is_own.result
    (c.is_own.ensures ∙ ap (λ (xs : List (ℕ × g.row.V.Denot)).
    is_own c.args.place (slice_get xs c.index.result.now)) c.deref.ensures.value)
    c.if-is_own.true
    in
    led_overwritten c.self.inside.held.items c.self.inside.leads.items c.args.place
    c.index.result.now h.0 c.args.value c.self.invariant
    (slice_get_read c.self.inside.leads.items (length c.self.inside.leads.items) c.args.place
    c.index.result.now refl there c.index.ensures) h.1

pub returns-then-is_own-clause-ok : goal.returns-then-is_own-clause-ok
returns-then-is_own-clause-ok g c =
    let there : c.args.place < length c.self.inside.leads.items =
    within_leads c.self.inside.held.items c.self.inside.leads.items c.args.self.now c.args.place
    c.self.view_is c.requires in
    let h =
    held_there c.self.inside.held.items c.args.place c.index.result.now c.is_own.result
    (c.is_own.ensures ∙ ap (λ (xs : List (ℕ × g.row.V.Denot)).
    is_own c.args.place (slice_get xs c.index.result.now)) c.deref.ensures.value)
    c.if-is_own.true
    in
    overwritten c.self.inside.held.items c.self.inside.leads.items c.args.place c.index.result.now
    h.0 c.args.value
    (slice_get_read c.self.inside.leads.items (length c.self.inside.leads.items) c.args.place
    c.index.result.now refl there c.index.ensures) h.1 h.2
    ∙ ap (λ (values : List (Option g.row.V.Denot)). set values c.args.place (Some c.args.value))
    c.self.view_is

pub returns-in_default-clause-absent : goal.returns-in_default-clause-absent
returns-in_default-clause-absent g c =
    let there : c.args.place < length c.self.inside.leads.items =
    within_leads c.self.inside.held.items c.self.inside.leads.items c.args.self.now c.args.place
    c.self.view_is c.requires in
    absent c.self.inside.held.items c.self.inside.leads.items c.args.self.now c.args.place
    c.self.view_is
    (not_held c.self.inside.held.items c.self.inside.leads.items c.args.place c.index.result.now
    c.is_own.result
    (c.is_own.ensures ∙ ap (λ (xs : List (ℕ × g.row.V.Denot)).
    is_own c.args.place (slice_get xs c.index.result.now)) c.deref.ensures.value)
    c.if-is_own.false
    (slice_get_read c.self.inside.leads.items (length c.self.inside.leads.items) c.args.place
    c.index.result.now refl there c.index.ensures))

pub returns-in_err-push-clause-absent : goal.returns-in_err-push-clause-absent
returns-in_err-push-clause-absent g c =
    let there : c.args.place < length c.self.inside.leads.items =
    within_leads c.self.inside.held.items c.self.inside.leads.items c.args.self.now c.args.place
    c.self.view_is c.requires in
    refused c.from_residual.result
    (absent c.self.inside.held.items c.self.inside.leads.items c.args.self.now c.args.place
    c.self.view_is
    (not_held c.self.inside.held.items c.self.inside.leads.items c.args.place c.index.result.now
    c.is_own.result
    (c.is_own.ensures ∙ ap (λ (xs : List (ℕ × g.row.V.Denot)).
    is_own c.args.place (slice_get xs c.index.result.now)) c.deref.ensures.value)
    c.if-is_own.false
    (slice_get_read c.self.inside.leads.items (length c.self.inside.leads.items) c.args.place
    c.index.result.now refl there c.index.ensures)))

pub index_mut-requires-2 : goal.index_mut-requires-2
index_mut-requires-2 g c =
    let there : c.args.place < length c.self.inside.leads.items =
    within_leads c.self.inside.held.items c.self.inside.leads.items c.args.self.now c.args.place
    c.self.view_is c.requires in
    omega arith

pub invariant_of-self-2 : goal.invariant_of-self-2
invariant_of-self-2 g c =
    let there : c.args.place < length c.self.inside.leads.items =
    within_leads c.self.inside.held.items c.self.inside.leads.items c.args.self.now c.args.place
    c.self.view_is c.requires in
    let same : length c.self.inside.held.items ≡ c.in-Ok.lead =
    omega (arith, c.in-Ok.ensures.1, c.len.ensures) in
    subst (λ (xs : List (ℕ × g.row.V.Denot)).
    IsLed (set c.self.inside.leads.items c.args.place c.in-Ok.lead) xs)
    (sym c.in_ok-push.ensures.items)
    (subst (λ (k : ℕ). IsLed (set c.self.inside.leads.items c.args.place k)
    (c.self.inside.held.items ++ (c.args.place, c.args.value) ∷ [])) same
    (led_pushed c.self.inside.held.items c.self.inside.leads.items c.args.place c.args.value
    c.self.invariant there
    (not_held c.self.inside.held.items c.self.inside.leads.items c.args.place c.index.result.now
    c.is_own.result
    (c.is_own.ensures ∙ ap (λ (xs : List (ℕ × g.row.V.Denot)).
    is_own c.args.place (slice_get xs c.index.result.now)) c.deref.ensures.value)
    c.if-is_own.false
    (slice_get_read c.self.inside.leads.items (length c.self.inside.leads.items) c.args.place
    c.index.result.now refl there c.index.ensures))))

pub returns-clause-ok : goal.returns-clause-ok
returns-clause-ok g c =
    let there : c.args.place < length c.self.inside.leads.items =
    within_leads c.self.inside.held.items c.self.inside.leads.items c.args.self.now c.args.place
    c.self.view_is c.requires in
    let same : length c.self.inside.held.items ≡ c.in-Ok.lead =
    omega (arith, c.in-Ok.ensures.1, c.len.ensures) in
    ap (λ (xs : List (ℕ × g.row.V.Denot)).
    values_from xs 0 (set c.self.inside.leads.items c.args.place c.in-Ok.lead))
    c.in_ok-push.ensures.items
    ∙ (ap (λ (k : ℕ). values_from (c.self.inside.held.items ++ (c.args.place, c.args.value) ∷ []) 0
    (set c.self.inside.leads.items c.args.place k)) (sym same)
    ∙ (pushed c.self.inside.held.items c.self.inside.leads.items c.args.place c.args.value there
    ∙ ap (λ (values : List (Option g.row.V.Denot)). set values c.args.place (Some c.args.value))
    c.self.view_is))
