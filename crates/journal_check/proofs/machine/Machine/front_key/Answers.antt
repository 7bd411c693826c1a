use Rattle.std.proofs.Common.{ℕ, List, Some, None, option_map, sym, ap, ◌∙◌, subst}
use Rattle.std.proofs.lemmas.Bool.{cond-false}
use Rattle.reactor_summary.specs.declared.parts.WaitingEvent.{WaitingEvent}
use Rattle.reactor_summary.specs.Summary as S
use Rattle.journal_check.specs.Fronts as K
use Rattle.journal_check.specs.Queue.{IsFront}
use Rattle.journal_check.proofs.Best.{front_found}
use Rattle.journal_check.proofs.Upkeep.{key_from, no_key}
use Rattle.journal_check.proofs.machine.Machine.front_key.Goals as goal

pub returns-in-None : goal.returns-in-None
returns-in-None c sound =
    let front : IsFront c.args.handle.0 c.args.self.now.waiting c.front_of.result =
    subst (λ (ws : List WaitingEvent). IsFront c.args.handle.0 ws c.front_of.result)
    (ap (λ (s : S.Summary). s.waiting) c.self.view_is) c.front_of.ensures in
    no_key c.args.self.now c.args.handle.0
    (sym (front_found sound.event sound.bound c.args.handle.0 c.args.self.now.waiting
    c.front_of.result sound.listed sound.own front) ∙ c.in-None.is)

pub returns-in-Some : goal.returns-in-Some
returns-in-Some c sound =
    let front : IsFront c.args.handle.0 c.args.self.now.waiting c.front_of.result =
    subst (λ (ws : List WaitingEvent). IsFront c.args.handle.0 ws c.front_of.result)
    (ap (λ (s : S.Summary). s.waiting) c.self.view_is) c.front_of.ensures in
    ap (λ (n : ℕ). Some (n, c.in-Some.w.event)) c.class_of.ensures
    ∙ sym (key_from c.args.self.now c.args.handle.0 c.in-Some.w
    (sym c.is_free.ensures ∙ c.if-not-is_free.false)
    (sym (front_found sound.event sound.bound c.args.handle.0 c.args.self.now.waiting
    c.front_of.result sound.listed sound.own front) ∙ c.in-Some.is))

pub returns-then-not-is_free : goal.returns-then-not-is_free
returns-then-not-is_free c sound =
    sym (cond-false (S.is_free c.args.self.now c.args.handle.0)
    (option_map K.key_of (K.front c.args.self.now.waiting c.args.handle.0)) None
    (sym c.is_free.ensures ∙ c.if-not-is_free.true))
