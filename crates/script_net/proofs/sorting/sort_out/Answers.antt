use Rattle.std.proofs.Common.{◌≡◌, ◌+◌, Bool, List, [], ℕ, length, drop, get_or, sym, ap, subst}
use Rattle.std.proofs.Common.{arith}
use Rattle.std.proofs.lemmas.List.{drop_more, drop_all}
use Rattle.ev_base.specs.Playing.{report_at}
use Rattle.script_net.specs.declared.script.End.{End}
use Rattle.script_net.specs.declared.script.End.TheVariants.{Listener}
use Rattle.script_net.specs.Scripts.{end_view, step_at, steps_at}
use Rattle.script_net.specs.Playable.{AreWithin}
use Rattle.script_net.specs.Seating.{is_marked}
use Rattle.script_net.specs.Sorting.{TakesStep, AreSorted}
use Rattle.script_net.proofs.SortingLemmas.{sorted_none, sorted_more, sorted_all, sorted_full}
use Rattle.script_net.proofs.SortingLemmas.{not_taken, passes_on, next_within}
use Rattle.script_net.proofs.sorting.sort_out.Goals as goal

pub take_step-requires-clause-within : goal.take_step-requires-clause-within
take_step-requires-clause-within c =
    (next_within (length c.args.seats.now.marks.connections) c.args.steps.now c.loop-at.at Listener
    c.loop-at-test.true c.loop-at.invariant.within_rest).0

pub loop-at-init : goal.loop-at-init
loop-at-init c = record {
  sorted = sorted_none c.args.seats.now (drop c.args.from c.args.steps.now) c.args.reports.now.items
      c.args.passed.now.items c.requires.no_report c.requires.none_passed;
  within_passed = subst (λ (es : List End).
      AreWithin (length c.args.seats.now.marks.connections) (steps_at es))
      (sym c.requires.none_passed) tt;
  within_rest = c.requires.within;
  few = omega (arith, ap length c.requires.none_passed);
  report_room_left = omega arith;
  room_left = omega arith;
}

pub loop-at-preserved : goal.loop-at-preserved
loop-at-preserved c =
    let i = c.loop-at.invariant in
    let seats = c.args.seats.now in
    let steps = c.args.steps.now in
    let end = get_or steps c.loop-at.at Listener in
    let next = next_within (length seats.marks.connections) steps c.loop-at.at Listener
    c.loop-at-test.true i.within_rest in
    let takes = subst (λ (b : Bool). TakesStep (is_marked seats.marks (end_view end))
    (report_at seats.seats (step_at end)) end c.loop-at.reports.items c.loop-at.passed.items b
    c.take_step.new.reports.items c.take_step.new.passed.items) c.if-not-take_step.false
    c.take_step.ensures.taken in
    let on = passes_on (length seats.marks.connections) _ _ end _ _ c.loop-at.passed.items
    c.take_step.new.passed.items takes next.0 i.within_passed in
    let here = subst (λ (es : List End).
    AreSorted seats (drop c.args.from steps) c.loop-at.reports.items c.loop-at.passed.items es)
    (drop_more steps c.loop-at.at Listener c.loop-at-test.true) i.sorted in
    record {
      sorted = sorted_more seats (drop c.args.from steps) end (drop (c.loop-at.at + 1) steps)
          c.loop-at.reports.items c.take_step.new.reports.items c.loop-at.passed.items
          c.take_step.new.passed.items next.0 takes here;
      within_passed = on.within;
      within_rest = next.1;
      few = omega (arith, i.few, on.few);
      report_room_left = omega (arith, i.report_room_left, c.take_step.ensures.report_room);
      room_left = omega (arith, i.room_left, c.take_step.ensures.passed_room);
    }

pub returns-then-not-take_step : goal.returns-then-not-take_step
returns-then-not-take_step c =
    let i = c.loop-at.invariant in
    let seats = c.args.seats.now in
    let steps = c.args.steps.now in
    let end = get_or steps c.loop-at.at Listener in
    let takes = subst (λ (b : Bool). TakesStep (is_marked seats.marks (end_view end))
    (report_at seats.seats (step_at end)) end c.loop-at.reports.items c.loop-at.passed.items b
    c.take_step.new.reports.items c.take_step.new.passed.items) c.if-not-take_step.true
    c.take_step.ensures.taken in
    let full = not_taken _ _ end c.loop-at.reports.items c.take_step.new.reports.items
    c.loop-at.passed.items c.take_step.new.passed.items takes in
    record {
      sorted = sorted_full seats (drop c.args.from steps) c.loop-at.reports.items
          c.take_step.new.reports.items c.loop-at.passed.items c.take_step.new.passed.items
          (drop c.loop-at.at steps) full i.sorted;
      within = subst (λ (es : List End). AreWithin (length seats.marks.connections) (steps_at es))
          (sym full.same_passed) i.within_passed;
      few = omega (arith, i.few, ap length full.same_passed);
      stops = omega arith;
      passed_room = omega (arith, i.room_left, c.take_step.ensures.passed_room);
      report_room = omega (arith, i.report_room_left, c.take_step.ensures.report_room);
    }

pub returns : goal.returns
returns c =
    let i = c.loop-at.invariant in
    let steps = c.args.steps.now in
    let none : drop (length steps) steps ≡ [] = drop_all (length steps) steps (omega arith) in
    let at : c.loop-at.at ≡ length steps = omega arith in
    let here = subst (λ (k : ℕ). AreSorted c.args.seats.now (drop c.args.from steps)
    c.loop-at.reports.items c.loop-at.passed.items (drop k steps)) at i.sorted in
    record {
      sorted = sorted_all c.args.seats.now (drop c.args.from steps) c.loop-at.reports.items
          c.loop-at.passed.items (drop (length steps) steps) none here;
      within = i.within_passed;
      few = omega (arith, i.few);
      stops = omega arith;
      passed_room = omega (arith, i.room_left);
      report_room = omega (arith, i.report_room_left);
    }
