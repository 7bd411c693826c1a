use Rattle.std.proofs.Common.{◌≡◌, ◌≤◌, length, Some, sym, ap, ◌∙◌, subst, arith}
use Rattle.std.proofs.lemmas.Option.{slice_get-get_or, slice_get_past}
use Rattle.std.specs.List.{slice_get}
use Rattle.timer_wheel.specs.Spokes.{Follows}
use Rattle.timer_wheel.specs.Chains.{Walked}
use Rattle.timer_wheel.proofs.Walks.{walk_on, is_there, ended, gap_end, gap_stop, gap_full}
use Rattle.timer_wheel.proofs.chain.gap_of.Goals as goal

pub chain-init : goal.chain-init
chain-init c = λ timers h few rising start.
    let w = c.start_of-begin.ensures c.args.t.now timers h rising start in (w, omega arith)

pub returns-in_default : goal.returns-in_default
returns-in_default c = λ timers h few rising start.
    let w = c.chain.invariant timers h few rising start in
    gap_end c.args.places.now c.args.head c.args.t.now timers c.chain.last c.chain.at w.0
    (ended c.args.places.now w.0.back (subst (λ a. Follows c.args.places.now a w.0.back)
    c.in_default.is w.0.follows))

pub returns-in_default-get : goal.returns-in_default-get
returns-in_default-get c = λ timers h few rising start.
    let w = c.chain.invariant timers h few rising start in
    absurd (is_there c.args.places.now c.in-Some.k w.0.back
    (subst (λ a. Follows c.args.places.now a w.0.back) c.in-Some.is w.0.follows)
    (slice_get_past c.args.places.now c.in-Some.k c.in_default-get.ensures.lookup.3))

at_place : (c : goal.Then-not-comes_before)
    → slice_get c.args.places.now c.in-Some.k ≡ Some c.in-Some-get.place.now
at_place c =
    let l = c.in-Some-get.ensures.lookup.3 in
    slice_get-get_or c.args.places.now c.in-Some.k c.in-Some-get.place.now l.0
    ∙ ap Some (sym (l.1 c.in-Some-get.place.now))

pub returns-then-not-comes_before : goal.returns-then-not-comes_before
returns-then-not-comes_before c = λ timers h few rising start.
    let w = c.chain.invariant timers h few rising start in
    let v : Walked c.args.places.now c.args.head c.args.t.now timers c.chain.last
    (Some c.in-Some.k) = subst (λ a. Walked c.args.places.now c.args.head c.args.t.now timers
    c.chain.last a) c.in-Some.is w.0 in
    gap_stop c.args.places.now c.args.head c.args.t.now timers c.chain.last c.in-Some.k
    c.in-Some-get.place.now v (at_place c) (sym c.if-not-comes_before.ensures) rising

at_place_on : (c : goal.After-at-in-chain-1)
    → slice_get c.args.places.now c.in-Some.k ≡ Some c.in-Some-get.place.now
at_place_on c =
    let l = c.in-Some-get.ensures.lookup.3 in
    slice_get-get_or c.args.places.now c.in-Some.k c.in-Some-get.place.now l.0
    ∙ ap Some (sym (l.1 c.in-Some-get.place.now))

pub chain-preserved : goal.chain-preserved
chain-preserved c = λ timers h few rising start.
    let w = c.chain.invariant timers h few rising start in
    let v : (x : Walked c.args.places.now c.args.head c.args.t.now timers c.chain.last
    (Some c.in-Some.k)) × (c.chain.counter ≤ length x.front) =
    subst (λ a. (x : Walked c.args.places.now c.args.head c.args.t.now timers c.chain.last a)
    × (c.chain.counter ≤ length x.front)) c.in-Some.is w in
    walk_on c.args.places.now c.args.head c.args.t.now timers c.chain.last c.in-Some.k
    c.in-Some-get.place.now c.chain.counter v.0 v.1 (at_place_on c)
    (sym c.if-not-comes_before.ensures)

pub returns : goal.returns
returns c = λ timers h few rising start.
    let w = c.chain.invariant timers h few rising start in
    gap_full c.args.places.now c.args.head c.args.t.now timers c.chain.last c.chain.at
    (length c.args.places.now) w.0 (omega (arith, w.1)) few
