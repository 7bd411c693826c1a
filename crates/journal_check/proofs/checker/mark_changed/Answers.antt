use Rattle.std.proofs.Common.{rules, ◌≡◌, true, false, sym, ap, ◌∙◌, ⊎_elim}
use Rattle.std.proofs.lemmas.Bool.{cases_Bool, cond-true, cond-false, eqb-true}
use Rattle.std.specs.BTreeSet.{contains}
use Rattle.std.specs.Ordering.{nat_cmp, is_eq}
use Rattle.journal_check.proofs.Lanes.{num_test}
use Rattle.journal_check.proofs.checker.mark_changed.Goals as goal

pub returns-then-before-after : goal.returns-then-before-after
returns-then-before-after c is = λ x.
    let unchanged : c.args.before ≡ c.args.after = search rules in
    ⊎_elim
    (λ (t : is_eq (nat_cmp c.args.handle.0 x) ≡ true).
    let same : c.args.handle.0 ≡ x = eqb-true c.args.handle.0 x (num_test c.args.handle.0 x ∙ t) in
    ap (contains nat_cmp c.args.handles.now) (sym same)
    ∙ (is ∙ (unchanged ∙ sym (cond-true (is_eq (nat_cmp c.args.handle.0 x)) c.args.after
    (contains nat_cmp c.args.handles.now x) t))))
    (λ (f : is_eq (nat_cmp c.args.handle.0 x) ≡ false).
    sym (cond-false (is_eq (nat_cmp c.args.handle.0 x)) c.args.after
    (contains nat_cmp c.args.handles.now x) f))
    (cases_Bool (is_eq (nat_cmp c.args.handle.0 x)))
