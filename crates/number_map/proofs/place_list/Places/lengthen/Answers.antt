use Rattle.std.proofs.Common.{◌≡◌, ◌≤◌, ◌-◌, ◌++◌, ◌∙◌, List, Option, None, ℕ, length, replicate}
use Rattle.std.proofs.Common.{sym, ap, subst, arith, vec_len}
use Rattle.std.proofs.lemmas.List.{take_all}
use Rattle.number_map.specs.Held.{IsLed, values_from}
use Rattle.number_map.proofs.Held.{values_length, lengthened, led_lengthened}
use Rattle.number_map.proofs.place_list.Places.lengthen.Goals as goal

pub invariant_of-self-2 : goal.invariant_of-self-2
invariant_of-self-2 g c =
    let same : length c.args.self.now ≡ length c.self.inside.leads.items =
    ap length (sym c.self.view_is) ∙ values_length c.self.inside.held.items 0
    c.self.inside.leads.items in
    let all : length c.self.inside.leads.items ≤ c.args.len = omega arith in
    subst (λ (leads : List ℕ). IsLed leads c.self.inside.held.items)
    (sym (c.in_ok-resize.ensures.items
    ∙ ap (λ (leads : List ℕ). leads ++ replicate (c.args.len - vec_len c.self.inside.leads) 0)
    (take_all c.args.len c.self.inside.leads.items all)))
    (led_lengthened c.self.inside.held.items c.self.inside.leads.items
    (c.args.len - vec_len c.self.inside.leads) c.self.invariant)

pub returns-clause-ok : goal.returns-clause-ok
returns-clause-ok g c =
    let same : length c.args.self.now ≡ length c.self.inside.leads.items =
    ap length (sym c.self.view_is) ∙ values_length c.self.inside.held.items 0
    c.self.inside.leads.items in
    let all : length c.self.inside.leads.items ≤ c.args.len = omega arith in
    let count : vec_len c.self.inside.leads ≡ length c.args.self.now = omega arith in
    ap (λ (leads : List ℕ). values_from c.self.inside.held.items 0 leads)
    (c.in_ok-resize.ensures.items ∙ ap
    (λ (leads : List ℕ). leads ++ replicate (c.args.len - vec_len c.self.inside.leads) 0)
    (take_all c.args.len c.self.inside.leads.items all))
    ∙ (lengthened c.self.inside.held.items c.self.inside.leads.items
    (c.args.len - vec_len c.self.inside.leads) c.self.invariant
    ∙ (ap (λ (values : List (Option g.row.V.Denot)). values
    ++ replicate (c.args.len - vec_len c.self.inside.leads) None) c.self.view_is
    ∙ ap (λ (n : ℕ). c.args.self.now ++ replicate (c.args.len - n) None) count))
