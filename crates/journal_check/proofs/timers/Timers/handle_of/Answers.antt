use Rattle.std.proofs.Common.{◌≡◌, ◌==◌, false, Some, option_map, sym, ap, ◌∙◌}
use Rattle.std.specs.BTreeMap.{is_at}
use Rattle.std.specs.BTreeSet.{contains}
use Rattle.std.specs.List.{list_any, find}
use Rattle.std.specs.Map.{values_of}
use Rattle.std.specs.Option.{option_copied}
use Rattle.reactor_summary.specs.declared.parts.ArmedTimer.{ArmedTimer}
use Rattle.number_map.specs.Content.{found}
use Rattle.journal_check.specs.Fronts as K
use Rattle.journal_check.specs.Index.{pair_cmp}
use Rattle.journal_check.proofs.Keyed.{find_looked_up, find_none}
use Rattle.journal_check.proofs.Timed.{led_agrees, unled_none}
use Rattle.journal_check.proofs.timers.Timers.handle_of.Goals as goal

pub returns-in-None : goal.returns-in-None
returns-in-None c =
    let none : list_any (λ (b : ArmedTimer). b.timer == c.args.timer)
    (values_of c.self.inside.order.entries) ≡ false =
    unled_none (found c.self.inside.numbered) (contains pair_cmp c.self.inside.owned) c.args.timer
    c.self.inside.order.entries (sym c.get.ensures.value ∙ c.in-None.is) c.self.invariant
    in
    ap (option_map K.timer_handle) (sym
    (find_none (λ (b : ArmedTimer). b.timer == c.args.timer) c.args.self.now
    (ap (list_any (λ (b : ArmedTimer). b.timer == c.args.timer)) (sym c.self.view_is) ∙ none)))

pub returns-in-None-get : goal.returns-in-None-get
returns-in-None-get c =
    let led : found c.self.inside.numbered c.args.timer ≡ Some c.in-Some.a =
    sym c.get.ensures.value ∙ c.in-Some.is in
    ap (option_map K.timer_handle)
    (ap option_copied (sym c.in-None-get.is)
    ∙ (c.get-in-Some.ensures.value
    ∙ (sym (find_looked_up (is_at (pair_cmp (c.in-Some.a.deadline, c.args.timer)))
    (λ (b : ArmedTimer). b.timer == c.args.timer) c.self.inside.order.entries
    (led_agrees (found c.self.inside.numbered) (contains pair_cmp c.self.inside.owned) c.args.timer
    c.in-Some.a c.self.inside.order.entries led c.self.invariant))
    ∙ ap (find (λ (b : ArmedTimer). b.timer == c.args.timer)) c.self.view_is)))

pub returns-in-Some-get : goal.returns-in-Some-get
returns-in-Some-get c =
    let led : found c.self.inside.numbered c.args.timer ≡ Some c.in-Some.a =
    sym c.get.ensures.value ∙ c.in-Some.is in
    ap (option_map K.timer_handle)
    (ap option_copied (sym c.in-Some-get.is)
    ∙ (c.get-in-Some.ensures.value
    ∙ (sym (find_looked_up (is_at (pair_cmp (c.in-Some.a.deadline, c.args.timer)))
    (λ (b : ArmedTimer). b.timer == c.args.timer) c.self.inside.order.entries
    (led_agrees (found c.self.inside.numbered) (contains pair_cmp c.self.inside.owned) c.args.timer
    c.in-Some.a c.self.inside.order.entries led c.self.invariant))
    ∙ ap (find (λ (b : ArmedTimer). b.timer == c.args.timer)) c.self.view_is)))
