use Rattle.std.proofs.Common.{◌≡◌, ◌-◌, length, take, drop, ap, ◌∙◌, sym, subst, true}
use Rattle.std.specs.List.{insert}
use Rattle.timer_queue.specs.Timers.{is_rising, with_timer}
use Rattle.timer_queue.proofs.Rows.{from_place, insert_behind}
use Rattle.timer_queue.proofs.row.put_in.Goals as goal

pub place_for-place-requires : goal.place_for-place-requires
place_for-place-requires c =
    let e = from_place c.args.timers.now.items c.args.head in
    let v = c.deref.ensures.value in
    subst (λ xs. is_rising (take (length xs - c.args.head) (drop c.args.head xs)) ≡ true) (sym v)
    (ap is_rising e ∙ c.requires.rising)

pub returns-clause-items : goal.returns-clause-items
returns-clause-items c =
    let xs = c.args.timers.now.items in
    let e = from_place xs c.args.head in
    let p : insert (drop c.args.head xs) c.place_for-place.result c.args.t
    ≡ with_timer c.args.t (drop c.args.head xs) =
    rw e at (rw c.deref.ensures.value at c.place_for-place.ensures.place) in
    ap (λ ys. drop c.args.head ys) c.in-Ok.ensures.items
    ∙ insert_behind xs c.args.head c.place_for-place.result c.args.t c.requires.within ∙ p
