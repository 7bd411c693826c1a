use Rattle.std.proofs.Common.{not, ap, ◌∙◌, sym}
use Rattle.timer_queue.specs.Timers.{comes_before}
use Rattle.timer_queue.proofs.Rows.{rising_insert, put_last}
use Rattle.timer_queue.proofs.row.place_for.Goals as goal

pub returns-then-comes_before-clause-place : goal.returns-then-comes_before-clause-place
returns-then-comes_before-clause-place c =
    rising_insert c.args.t.now c.args.timers.now c.count_before.result
    c.count_before.ensures.within (
      λ k d l m. ap not (c.count_before.ensures.front k d l m),
      λ k d l m. ap not (c.count_before.ensures.back k d l m),
    )

pub returns-clause-place : goal.returns-clause-place
returns-clause-place c =
    let l = c.in-Some.ensures.item.3 in
    put_last c.args.t.now c.args.timers.now c.requires
    (λ d pos. ap (λ u. comes_before c.args.t.now u) (sym (l.1 d))
    ∙ sym c.if-comes_before.ensures)
