use Rattle.std.proofs.Common.{◌≡◌, ◌∙◌, ◌-◌, ◌==◌, length, reverse, false, ap, arith}
use Rattle.std.proofs.lemmas.List.{take_all}
use Rattle.std.proofs.lemmas.Bool.Decides.{nat_tests}
use Rattle.script_net.specs.NetContent.{retired_of}
use Rattle.script_net.proofs.Made.{last_here, last_before}
use Rattle.script_net.proofs.net.last_of.Goals as goal

pub loop-left-init : goal.loop-left-init
loop-left-init c = (
  omega arith,
  ap (λ es. retired_of c.args.handle (reverse es))
      (take_all (length c.args.retired.now) c.args.retired.now (omega arith)),
)

pub loop-left-preserved : goal.loop-left-preserved
loop-left-preserved c =
    let x = c.index-retired-left.result in
    let other : (x.0 == c.args.handle) ≡ false = grind (arith, nat_tests) in
    let i = c.loop-left.invariant in (
      omega (arith, i.0),
      last_before c.args.retired.now c.loop-left.left (c.loop-left.left - 1)
          c.args.handle x (omega arith) (omega (arith, i.0)) c.index-retired-left.is other ∙ i.1,
    )

pub returns-then-entry-handle : goal.returns-then-entry-handle
returns-then-entry-handle c =
    let x = c.index-retired-left.result in
    let i = c.loop-left.invariant in
    last_here c.args.retired.now c.loop-left.left (c.loop-left.left - 1) c.args.handle x
    (omega arith) (omega (arith, i.0)) c.index-retired-left.is (omega arith) ∙ i.1
