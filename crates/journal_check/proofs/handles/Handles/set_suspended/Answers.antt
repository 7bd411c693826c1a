use Rattle.std.proofs.Common.{ℕ, ◌==◌, map, refl, ap, ◌∙◌, cond}
use Rattle.std.specs.List.{list_any}
use Rattle.reactor_summary.specs.declared.parts.LiveHandle.{LiveHandle}
use Rattle.journal_check.specs.Numbered.{handle_number}
use Rattle.journal_check.proofs.Numbered.{changed, unchanged}
use Rattle.journal_check.proofs.handles.Handles.set_suspended.Goals as goal

pub put-requires : goal.put-requires
put-requires c = ap (λ (n : ℕ). list_any (λ (g : LiveHandle). n == g.handle.0) c.args.self.now)
    c.in-Some.ensures.found.number ∙ c.in-Some.ensures.found.there

pub returns-in-Some : goal.returns-in-Some
returns-in-Some c =
    c.put.ensures
    ∙ (ap (λ (n : ℕ). map (λ (g : LiveHandle).
    cond (n == g.handle.0) (record c.in-Some.h { suspended = c.args.suspended }) g)
    c.args.self.now) c.in-Some.ensures.found.number
    ∙ changed handle_number c.args.handle.0
    (λ (g : LiveHandle). record g { suspended = c.args.suspended }) c.in-Some.h
    (record c.in-Some.h { suspended = c.args.suspended }) c.args.self.now
    c.in-Some.ensures.found.one refl)

pub returns-in_default : goal.returns-in_default
returns-in_default c = unchanged handle_number c.args.handle.0
    (λ (g : LiveHandle). record g { suspended = c.args.suspended }) c.args.self.now
    (c.get.ensures.none c.in_default.is)
