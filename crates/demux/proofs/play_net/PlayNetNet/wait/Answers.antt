use Rattle.std.proofs.Common.{arith, sym, ap, refl, ◌≡◌, ◌∙◌, ◌-◌, take, drop, length, Some, None}
use Rattle.std.proofs.lemmas.List.{take_rest, length-take}
use Rattle.std.proofs.lemmas.Grind.{common_steps}
use Rattle.std.proofs.lemmas.Option.{slice_get_read}
use Rattle.std.specs.List.{slice_get}
use Rattle.ev_base.specs.declared.net.Waited.TheVariants.{Over}
use Rattle.ev_base.specs.Calls.{reports_of}
use Rattle.demux.specs.PlayNet.{kept_at, given_at, left_at, given_by_wait, left_by_wait, reached}
use Rattle.demux.specs.PlayNet.{answer_at, do_not_fall, are_bounded}
use Rattle.demux.proofs.Playing.{sorted_parts, drop-take_none, take-take_same, none_past}
use Rattle.demux.proofs.Playing.{plays_over, plays_some, net_waits}
use Rattle.demux.proofs.play_net.PlayNetNet.wait.Goals as goal

pub returns-then-self-len-clause-plays : goal.returns-then-self-len-clause-plays
returns-then-self-len-clause-plays c =
    let over : slice_get c.args.self.now.moments c.args.self.now.waits ≡ None =
    ap (λ n. slice_get n.moments n.waits) (sym c.self.view_is)
    ∙ none_past c.self.inside.moments.items c.self.inside.waits (omega arith) in
    plays_over c.args.self.now c.args.most_ms _ _ over
    (ap Over (c.reached.ensures ∙ ap (reached c.self.inside.waits) c.deref.ensures.value
    ∙ ap (λ n. reached n.waits n.moments) c.self.view_is))
    (let given = ap reports_of (ap (drop c.self.inside.waiting) c.truncate.ensures.items
    ∙ drop-take_none c.self.inside.waiting c.self.inside.planned.items) in
    let left = ap (take c.self.inside.waiting) c.truncate.ensures.items
    ∙ take-take_same c.self.inside.waiting c.self.inside.planned.items in
    grind (arith, common_steps, given, left))

parts : (c : goal.After-add-2) → (take c.sort_out-self-inside.result
    c.sort_out-self-inside.new.planned.items
    ≡ left_at c.self.inside.waits c.self.inside.watched.items
    (kept_at c.self.inside.waits c.self.inside.watched.items c.self.inside.retired.items
    (take c.self.inside.waiting c.self.inside.planned.items)))
    × (drop c.sort_out-self-inside.result c.sort_out-self-inside.new.planned.items
    ≡ given_at c.self.inside.waits c.self.inside.watched.items
    (kept_at c.self.inside.waits c.self.inside.watched.items c.self.inside.retired.items
    (take c.self.inside.waiting c.self.inside.planned.items)))
parts c =
    sorted_parts c.self.inside.waits c.self.inside.watched.items c.deref-2.result.now
    c.self.inside.retired.items c.deref-3.result.now
    (take c.self.inside.waiting c.self.inside.planned.items) c.truncate.new.self.items
    c.sort_out-self-inside.new.planned.items c.sort_out-self-inside.result
    c.deref-2.ensures.value c.deref-3.ensures.value c.truncate.ensures.items
    c.sort_out-self-inside.ensures.left c.sort_out-self-inside.ensures.parted

shown : (c : goal.After-add-2) → reports_of
    (take (length c.deref-4.result.now - c.sort_out-self-inside.result)
    (drop c.sort_out-self-inside.result c.deref-4.result.now)) ≡ given_by_wait c.args.self.now
shown c =
    ap reports_of (take_rest c.deref-4.result.now c.sort_out-self-inside.result)
    ∙ ap (λ ps. reports_of (drop c.sort_out-self-inside.result ps)) c.deref-4.ensures.value
    ∙ ap reports_of (parts c).1 ∙ ap given_by_wait c.self.view_is

moment : (c : goal.After-add-2) → slice_get c.args.self.now.moments c.args.self.now.waits
    ≡ Some c.index-now.result.now
moment c =
    ap (λ n. slice_get n.moments n.waits) (sym c.self.view_is)
    ∙ slice_get_read c.self.inside.moments.items (length c.self.inside.moments.items)
    c.self.inside.waits c.index-now.result.now refl (omega arith) c.index-now.ensures

pub returns-clause-plays : goal.returns-clause-plays
returns-clause-plays c =
    let given = ap reports_of (parts c).1 ∙ ap given_by_wait c.self.view_is in
    let left = (parts c).0 ∙ ap left_by_wait c.self.view_is in
    plays_some c.args.self.now c.args.most_ms _ _ c.index-now.result.now (moment c)
    (c.answer_at-answer.ensures ∙ ap (answer_at c.index-now.result.now) (shown c))
    (grind (arith, common_steps, given, left, shown c))

pub returns-clause-waits : goal.returns-clause-waits
returns-clause-waits c =
    let waits : c.self.inside.waits ≡ c.args.self.now.waits = ap (λ n. n.waits) c.self.view_is in
    let moments = ap (λ n. length n.moments) c.self.view_is in
    let waiting = ap (λ n. length n.waiting) c.self.view_is in
    let front = length-take c.self.inside.waiting c.self.inside.planned.items in
    let sound = c.self.invariant.0 in
    net_waits c.args.self.now c.args.most_ms _ _
    (ap (λ n. do_not_fall 0 n.moments) (sym c.self.view_is) ∙ sound.rising)
    (ap (λ n. are_bounded n.moments) (sym c.self.view_is) ∙ sound.bounded)
    (omega (arith, sound.few)) c.index-now.result.now (omega arith) (moment c)
    (returns-clause-plays c)
