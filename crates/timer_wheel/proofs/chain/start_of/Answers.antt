use Rattle.std.proofs.Common.{◌≡◌, Some, sym, ap, ◌∙◌}
use Rattle.std.proofs.lemmas.Option.{slice_get-get_or}
use Rattle.std.specs.List.{slice_get}
use Rattle.timer_queue.proofs.Members.{among_from}
use Rattle.timer_wheel.proofs.Walks.{walk_start}
use Rattle.timer_wheel.proofs.Hints.{walk_behind}
use Rattle.timer_wheel.proofs.chain.start_of.Goals as goal

pub returns-in_default : goal.returns-in_default
returns-in_default c = λ t timers h rising start.
    walk_start c.args.places.now c.args.head t timers h

pub returns-in_default-get : goal.returns-in_default-get
returns-in_default-get c = λ t timers h rising start.
    walk_start c.args.places.now c.args.head t timers h

pub returns : goal.returns
returns c = λ t timers h rising start.
    let l = c.in-Some-get.ensures.lookup.3 in
    let here : slice_get c.args.places.now c.in-Some.k ≡ Some c.in-Some-get.place.now =
    slice_get-get_or c.args.places.now c.in-Some.k c.in-Some-get.place.now l.0
    ∙ ap Some (sym (l.1 c.in-Some-get.place.now)) in
    let s = start c.in-Some.k c.in-Some-get.place.now c.in-Some.is here in
    walk_behind c.args.places.now t c.in-Some.k c.in-Some-get.place.now c.requires here s.1
    c.args.head timers h rising (among_from c.in-Some-get.place.now.timer timers s.0)
