use Rattle.std.proofs.Common.{ℕ, ◌≡◌, not, List, None, refl, sym, ap, ◌∙◌, subst}
use Rattle.std.specs.BTreeMap.{is_at}
use Rattle.std.specs.BTreeSet.{contains}
use Rattle.std.specs.Map.{values_of, lookup}
use Rattle.std.specs.Ordering.{nat_cmp}
use Rattle.reactor_summary.specs.Tells.{Each}
use Rattle.reactor_summary.specs.declared.parts.WaitingEvent.{WaitingEvent}
use Rattle.journal_check.specs.Index.{pair_cmp}
use Rattle.journal_check.specs.Queue.{lane_key, timer_key, Finds}
use Rattle.std.proofs.lemmas.Map.Lookups.{exact_unsigned}
use Rattle.journal_check.proofs.Keyed.{each_inserted}
use Rattle.journal_check.proofs.Queue.{IsOwn, IsNarrowAt, narrow_from, finds_more, inserted_last}
use Rattle.journal_check.proofs.Queue.{absent_from}
use Rattle.journal_check.proofs.waiting.put_in.Goals as goal

pub returns-clause-queued : goal.returns-clause-queued
returns-clause-queued c =
    let absent : lookup (is_at (nat_cmp c.args.w.event)) c.args.events.now.entries ≡ None =
    absent_from c.args.w.event c.args.events.now.entries c.requires.queued.own c.requires.absent
    in
    record {
      ordered = c.in_ok-insert.ensures.ordered;
      own = subst (Each IsOwn) (sym c.in_ok-insert.ensures.entries)
          (each_inserted IsOwn nat_cmp c.args.events.now.entries c.args.w.event c.args.w
          (exact_unsigned c.args.w.event) c.requires.queued.own refl);
      by_lane = subst (λ (es : List (ℕ × WaitingEvent)).
          Finds lane_key (contains pair_cmp c.enlist.new.lanes) (values_of es))
          (sym c.in_ok-insert.ensures.entries)
          (finds_more lane_key (contains pair_cmp c.args.lanes.now)
          (contains pair_cmp c.enlist.new.lanes) c.args.w c.args.events.now.entries absent
          c.requires.queued.by_lane c.in_ok-enlist.ensures.0);
      by_timer = subst (λ (es : List (ℕ × WaitingEvent)).
          Finds timer_key (contains pair_cmp c.enlist.new.timers) (values_of es))
          (sym c.in_ok-insert.ensures.entries)
          (finds_more timer_key (contains pair_cmp c.args.timers.now)
          (contains pair_cmp c.enlist.new.timers) c.args.w c.args.events.now.entries absent
          c.requires.queued.by_timer c.in_ok-enlist.ensures.1);
      narrow = subst (Each IsNarrowAt) (sym c.in_ok-insert.ensures.entries)
          (each_inserted IsNarrowAt nat_cmp c.args.events.now.entries c.args.w.event c.args.w
          (exact_unsigned c.args.w.event) c.requires.queued.narrow
          (narrow_from c.args.w c.first_lane.result c.first_lane.ensures.lane
          (c.is_none.ensures ∙ ap not c.if-is_none.false)));
    }

pub returns-clause-last : goal.returns-clause-last
returns-clause-last c below = ap values_of c.in_ok-insert.ensures.entries
    ∙ inserted_last c.args.w c.args.events.now.entries c.requires.queued.own below
