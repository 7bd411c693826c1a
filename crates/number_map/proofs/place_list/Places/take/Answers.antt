use Rattle.std.proofs.Common.{◌≡◌, ◌<◌, ◌≤◌, ◌++◌, ◌∷◌, [], length, refl, subst, arith}
use Rattle.std.proofs.lemmas.Option.{slice_get_within, slice_get_read}
use Rattle.number_map.specs.Held.{IsLed}
use Rattle.number_map.proofs.Held.{get_push, within_leads, led_cut, led_moved, taken, taken_last}
use Rattle.number_map.proofs.Held.{none_stands}
use Rattle.number_map.proofs.place_list.Places.take.Goals as goal

pub index-lead-requires : goal.index-lead-requires
index-lead-requires g c =
    let there : c.args.place < length c.self.inside.leads.items =
    within_leads c.self.inside.held.items c.self.inside.leads.items c.args.self.now c.args.place
    c.self.view_is c.requires.there in
    omega arith

pub index_mut-requires-then-lead-len : goal.index_mut-requires-then-lead-len
index_mut-requires-then-lead-len g c =
    let led : IsLed c.self.inside.leads.items (c.pop.new.self.items ++ c.in-Some.last ∷ []) =
    subst (IsLed c.self.inside.leads.items) c.in-Some.ensures.items c.self.invariant in
    let below : c.in-Some.last.0 < length c.self.inside.leads.items =
    slice_get_within c.self.inside.leads.items c.in-Some.last.0 (length c.pop.new.self.items)
    (led.led (length c.pop.new.self.items) c.in-Some.last
    (get_push c.pop.new.self.items c.in-Some.last))
    in
    omega arith

pub invariant_of-self : goal.invariant_of-self
invariant_of-self g c =
    let within : c.index-lead.result.now < length c.pop.new.self.items = omega arith in
    led_moved c.pop.new.self.items c.in-Some.last c.self.inside.leads.items c.index-lead.result.now
    (subst (IsLed c.self.inside.leads.items) c.in-Some.ensures.items c.self.invariant) within

pub invariant_of-self-else-lead-len : goal.invariant_of-self-else-lead-len
invariant_of-self-else-lead-len g c =
    led_cut c.pop.new.self.items c.in-Some.last c.self.inside.leads.items
    (subst (IsLed c.self.inside.leads.items) c.in-Some.ensures.items c.self.invariant)

pub returns-then-lead-len : goal.returns-then-lead-len
returns-then-lead-len g c =
    let there : c.args.place < length c.self.inside.leads.items =
    within_leads c.self.inside.held.items c.self.inside.leads.items c.args.self.now c.args.place
    c.self.view_is c.requires.there in
    let within : c.index-lead.result.now < length c.pop.new.self.items = omega arith in
    taken c.self.inside.held.items c.pop.new.self.items c.in-Some.last c.self.inside.leads.items
    c.args.self.now c.args.place c.index-lead.result.now c.self.invariant c.self.view_is
    c.requires.held c.in-Some.ensures.items
    (slice_get_read c.self.inside.leads.items (length c.self.inside.leads.items) c.args.place
    c.index-lead.result.now refl there c.index-lead.ensures) within

pub returns-else-lead-len : goal.returns-else-lead-len
returns-else-lead-len g c =
    let there : c.args.place < length c.self.inside.leads.items =
    within_leads c.self.inside.held.items c.self.inside.leads.items c.args.self.now c.args.place
    c.self.view_is c.requires.there in
    let past : length c.pop.new.self.items ≤ c.index-lead.result.now = omega arith in
    taken_last c.self.inside.held.items c.pop.new.self.items c.in-Some.last
    c.self.inside.leads.items c.args.self.now c.args.place c.index-lead.result.now
    c.self.view_is c.requires.held c.in-Some.ensures.items
    (slice_get_read c.self.inside.leads.items (length c.self.inside.leads.items) c.args.place
    c.index-lead.result.now refl there c.index-lead.ensures) past

pub returns-in_default : goal.returns-in_default
returns-in_default g c =
    let there : c.args.place < length c.self.inside.leads.items =
    within_leads c.self.inside.held.items c.self.inside.leads.items c.args.self.now c.args.place
    c.self.view_is c.requires.there in
    let empty : length c.self.inside.held.items ≡ 0 = omega (arith, c.in_default.ensures.cases.0) in
    absurd
    (none_stands c.self.inside.held.items c.self.inside.leads.items c.args.self.now c.args.place
    c.index-lead.result.now c.self.view_is c.requires.held
    (slice_get_read c.self.inside.leads.items (length c.self.inside.leads.items) c.args.place
    c.index-lead.result.now refl there c.index-lead.ensures) empty)
