use Rattle.std.proofs.Common.{◌≡◌, ◌+◌, arith, vec_len, List, ◌∷◌, [], ◌++◌, sym, ◌∙◌, subst, ap}
use Rattle.std.proofs.Common.{append_assoc}
use Rattle.message_block.specs.Messages.{MessageState}
use Rattle.cmd_display.specs.declared.window.Window.{Window}
use Rattle.cmd_display.specs.Shown.{HasCut}
use Rattle.cmd_display.proofs.Lists.{where-ok}
use Rattle.cmd_display.proofs.showing.cut_records.Goals as goal

pub returns-then-is_err-clause-cut : goal.returns-then-is_err-clause-cut
returns-then-is_err-clause-cut g c =
    λ i put h. subst (λ (l : List MessageState).
    HasCut g.S.Source.facts i (put ++ l) c.loop-alloc.window) (sym c.reserve.ensures.items)
    (c.loop-alloc.invariant.0 i put h)

pub returns-then-is_err-clause-shows : goal.returns-then-is_err-clause-shows
returns-then-is_err-clause-shows g c = c.loop-alloc.invariant.1

pub returns-in-More-clause-cut : goal.returns-in-More-clause-cut
returns-in-More-clause-cut g c = λ i put h.
    subst (λ (l : List MessageState). HasCut g.S.Source.facts i (put ++ l) c.loop-alloc.window)
    (sym c.reserve.ensures.items) (c.loop-alloc.invariant.0 i put h)

pub returns-in-More-clause-shows : goal.returns-in-More-clause-shows
returns-in-More-clause-shows g c = c.loop-alloc.invariant.1

pub returns-in-Bad-clause-cut : goal.returns-in-Bad-clause-cut
returns-in-Bad-clause-cut g c = λ i put h.
    subst (λ (l : List MessageState). HasCut g.S.Source.facts i (put ++ l) c.loop-alloc.window)
    (sym c.reserve.ensures.items) (c.loop-alloc.invariant.0 i put h)

pub returns-in-Bad-clause-shows : goal.returns-in-Bad-clause-shows
returns-in-Bad-clause-shows g c = c.loop-alloc.invariant.1

pub returns-in-Err-clause-cut : goal.returns-in-Err-clause-cut
returns-in-Err-clause-cut g c = λ i put h.
    subst (λ (l : List MessageState). HasCut g.S.Source.facts i (put ++ l) c.cut_record.new.window)
    (sym c.reserve.ensures.items)
    (subst (λ (w : Window g.row.S.Denot).
    HasCut g.S.Source.facts i (put ++ c.loop-alloc.messages.items) w)
    (sym c.in-Err.ensures.unchanged) (c.loop-alloc.invariant.0 i put h))

pub returns-in-Err-clause-shows : goal.returns-in-Err-clause-shows
returns-in-Err-clause-shows g c = λ first second o put h.
    c.cut_record.ensures.shows first second o put (c.loop-alloc.invariant.1 first second o put h)

pub returns-clause-cut : goal.returns-clause-cut
returns-clause-cut g c = c.loop-alloc.invariant.0

pub returns-clause-shows : goal.returns-clause-shows
returns-clause-shows g c = c.loop-alloc.invariant.1

pub loop-alloc-preserved : goal.loop-alloc-preserved
loop-alloc-preserved g c =
    let before = c.loop-alloc.messages.items in
    let items : c.push.new.self.items ≡ c.reserve.new.self.items ++ c.in-Ok.message ∷ [] =
    where-ok _ _ _ _ c.unwrap.ensures c.push.ensures.items in
    let len : vec_len c.push.new.self ≡ vec_len c.reserve.new.self + 1 =
    where-ok _ _ _ _ c.unwrap.ensures c.push.ensures.len in (
      λ i put h. subst (λ (l : List MessageState).
          HasCut g.S.Source.facts i l c.cut_record.new.window)
          (append_assoc put before (c.in-Ok.message ∷ [])
          ∙ ap (λ (l : List MessageState). put ++ l)
          (ap (λ (l : List MessageState). l ++ c.in-Ok.message ∷ [])
          (sym c.reserve.ensures.items) ∙ sym items))
          (c.in-Ok.ensures.cut i (put ++ before) (c.loop-alloc.invariant.0 i put h)),
      λ first second o put h. c.cut_record.ensures.shows first second o put
          (c.loop-alloc.invariant.1 first second o put h),
      c.cut_record.ensures.input ∙ c.loop-alloc.invariant.2,
      omega (arith, len, c.reserve.ensures.len, c.loop-alloc-test.true),
      omega (arith, len, c.reserve.ensures.len, c.in-Ok.ensures.shorter, c.loop-alloc.invariant.4),
    )
