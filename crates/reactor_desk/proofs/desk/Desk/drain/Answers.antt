use Rattle.std.proofs.Common.{◌≡◌, ◌++◌, refl, ◌∙◌, arith}
use Rattle.reactor_desk.proofs.Drains.{nothing_drained, one_more, drained_all, drained_empty}
use Rattle.reactor_desk.proofs.Drains.{drained_until, leaves_same, leaves_then}
use Rattle.reactor_desk.proofs.Notices.{notices_ended}
use Rattle.reactor_desk.proofs.desk.Desk.drain.Goals as goal

pub loop-taken-init : goal.loop-taken-init
loop-taken-init g c = record {
  some = λ q F h o running. nothing_drained _ q F h _ o;
  ring = refl;
  rest = leaves_same _ _;
}

pub drain_one-requires-clause-stands : goal.drain_one-requires-clause-stands
drain_one-requires-clause-stands g c =
    let o = c.requires.stands in
    let d = c.loop-taken.invariant.some o.0 o.1 o.2 o.3 o.4 in
    (o.0, o.1, o.2 ++ d.notices, d.stands, notices_ended o.2 d.notices d.are ∙ o.4)

pub drain_one-requires-clause-ring : goal.drain_one-requires-clause-ring
drain_one-requires-clause-ring g c = c.loop-taken.invariant.ring ∙ c.requires.ring

pub returns-in-Ok-false-clause-drains : goal.returns-in-Ok-false-clause-drains
returns-in-Ok-false-clause-drains g c q F h o running =
    let d = c.loop-taken.invariant.some q F h o running in
    drained_empty _ q F h _ c.loop-taken.taken _ _ _ c.in-Ok-false.field-0-test
    c.loop-taken-test.true o d (c.in-Ok-false.ensures.drains q F (h ++ d.notices) d.stands
    (notices_ended h d.notices d.are ∙ running))

pub returns-in-Ok-false-clause-rest : goal.returns-in-Ok-false-clause-rest
returns-in-Ok-false-clause-rest g c =
    leaves_then _ _ _ _ c.loop-taken.invariant.rest c.drain_one.ensures.rest

pub returns-in-Err-clause-drains : goal.returns-in-Err-clause-drains
returns-in-Err-clause-drains g c q F h o running =
    let d = c.loop-taken.invariant.some q F h o running in
    drained_until _ q F h _ c.loop-taken.taken _ _ _ c.loop-taken-test.true d
    (c.in-Err.ensures.drains q F (h ++ d.notices) d.stands
    (notices_ended h d.notices d.are ∙ running))

pub returns-in-Err-clause-rest : goal.returns-in-Err-clause-rest
returns-in-Err-clause-rest g c = leaves_then _ _ _ _ c.loop-taken.invariant.rest
    c.drain_one.ensures.rest

pub loop-taken-preserved : goal.loop-taken-preserved
loop-taken-preserved g c = record {
  some = λ q F h o running.
      let d = c.loop-taken.invariant.some q F h o running in
      one_more _ q F h _ c.loop-taken.taken _ _ _ c.in-Ok-true.field-0-test d
      (c.in-Ok-true.ensures.drains q F (h ++ d.notices) d.stands
      (notices_ended h d.notices d.are ∙ running));
  ring = c.drain_one.ensures.ring ∙ c.loop-taken.invariant.ring;
  rest = leaves_then _ _ _ _ c.loop-taken.invariant.rest c.drain_one.ensures.rest;
}

pub returns-clause-drains : goal.returns-clause-drains
returns-clause-drains g c q F h o running =
    let d = c.loop-taken.invariant.some q F h o running in
    let test = c.loop-taken-test.false in
    let all : c.loop-taken.taken ≡ 256 = omega (arith, test, c.loop-taken.auto.taken-end) in
    drained_all _ q F h _ _ _ all o d
