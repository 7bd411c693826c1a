use Rattle.std.proofs.Common.{ℕ, ◌==◌, List, Some, refl, sym, ap, ◌∙◌, subst}
use Rattle.std.proofs.lemmas.Bool.{cond-false}
use Rattle.std.specs.BTreeMap.{is_at}
use Rattle.std.specs.BTreeSet.{contains}
use Rattle.std.specs.List.{list_any}
use Rattle.std.specs.Map.{values_of, lookup}
use Rattle.std.specs.Ordering.{nat_cmp}
use Rattle.reactor_summary.specs.Summary as S
use Rattle.reactor_summary.specs.declared.parts.ArmedTimer.{ArmedTimer}
use Rattle.number_map.specs.Content.{found}
use Rattle.journal_check.specs.Index.{pair_cmp, IsIndexed, IsArmedAt}
use Rattle.journal_check.proofs.Keyed.{each_inserted}
use Rattle.journal_check.proofs.Timed.{armed_inserted, kept_indexed, more_owned, pair_exact}
use Rattle.journal_check.proofs.Timed.{num_other}
use Rattle.journal_check.proofs.timers.Timers.insert.Goals as goal

pub invariant_of-self-in_err-insert-2 : goal.invariant_of-self-in_err-insert-2
invariant_of-self-in_err-insert-2 c =
    kept_indexed (found c.self.inside.numbered) (found c.insert-2.new.self)
    (contains pair_cmp c.self.inside.owned) (contains pair_cmp c.insert.new.self) c.args.a.timer
    c.self.inside.order.entries
    (λ q n. ap (lookup (is_at (nat_cmp q))) c.in_err-insert-2.ensures.err)
    (more_owned (contains pair_cmp c.self.inside.owned) (contains pair_cmp c.insert.new.self)
    (c.args.a.handle.0, c.args.a.timer) c.in_ok-insert.ensures.updates.0)
    (ap (list_any (λ (b : ArmedTimer). b.timer == c.args.a.timer)) c.self.view_is ∙ c.requires)
    c.self.invariant

pub invariant_of-self-in_err-insert-3 : goal.invariant_of-self-in_err-insert-3
invariant_of-self-in_err-insert-3 c =
    subst (λ (es : List ((ℕ × ℕ) × ArmedTimer)).
    IsIndexed es (found c.insert-2.new.self) (contains pair_cmp c.insert.new.self))
    (sym c.in_err-insert-3.ensures.err)
    (kept_indexed (found c.self.inside.numbered) (found c.insert-2.new.self)
    (contains pair_cmp c.self.inside.owned) (contains pair_cmp c.insert.new.self) c.args.a.timer
    c.self.inside.order.entries
    (λ q n. c.in_ok-insert-2.ensures.updates.0 q
    ∙ cond-false _ (Some c.args.a) _ (num_other c.args.a.timer q n))
    (more_owned (contains pair_cmp c.self.inside.owned) (contains pair_cmp c.insert.new.self)
    (c.args.a.handle.0, c.args.a.timer) c.in_ok-insert.ensures.updates.0)
    (ap (list_any (λ (b : ArmedTimer). b.timer == c.args.a.timer)) c.self.view_is ∙ c.requires)
    c.self.invariant)

pub invariant_of-self-2 : goal.invariant_of-self-2
invariant_of-self-2 c =
    subst (λ (es : List ((ℕ × ℕ) × ArmedTimer)).
    IsIndexed es (found c.insert-2.new.self) (contains pair_cmp c.insert.new.self))
    (sym c.in_ok-insert-3.ensures.entries)
    (each_inserted (IsArmedAt (found c.insert-2.new.self) (contains pair_cmp c.insert.new.self))
    pair_cmp c.self.inside.order.entries (c.args.a.deadline, c.args.a.timer) c.args.a
    (pair_exact (c.args.a.deadline, c.args.a.timer))
    (kept_indexed (found c.self.inside.numbered) (found c.insert-2.new.self)
    (contains pair_cmp c.self.inside.owned) (contains pair_cmp c.insert.new.self) c.args.a.timer
    c.self.inside.order.entries
    (λ q n. c.in_ok-insert-2.ensures.updates.0 q
    ∙ cond-false _ (Some c.args.a) _ (num_other c.args.a.timer q n))
    (more_owned (contains pair_cmp c.self.inside.owned) (contains pair_cmp c.insert.new.self)
    (c.args.a.handle.0, c.args.a.timer) c.in_ok-insert.ensures.updates.0)
    (ap (list_any (λ (b : ArmedTimer). b.timer == c.args.a.timer)) c.self.view_is ∙ c.requires)
    c.self.invariant)
    (record {
      key = refl;
      led = c.in_ok-insert-2.ensures.updates.1;
      owned = c.in_ok-insert.ensures.updates.1;
    }))

pub returns : goal.returns
returns c =
    ap values_of c.in_ok-insert-3.ensures.entries
    ∙ (armed_inserted (found c.self.inside.numbered) (contains pair_cmp c.self.inside.owned)
    c.args.a c.self.inside.order.entries c.self.invariant
    (ap (list_any (λ (b : ArmedTimer). b.timer == c.args.a.timer)) c.self.view_is ∙ c.requires)
    ∙ ap (S.with_timer c.args.a) c.self.view_is)
