use Rattle.std.proofs.Common.{◌≤◌, ◌<◌, ◌+◌, length, arith}
use Rattle.std.proofs.lemmas.List.{length-set}
use Rattle.ace7_input.proofs.Passing.{none_passed, passed_on, taken_on}
use Rattle.ace7_input.proofs.place.Place.pass_on.Goals as goal

pub loop-at-preserved-then-passing-gt0 : goal.loop-at-preserved-then-passing-gt0
loop-at-preserved-then-passing-gt0 c =
    let within : c.loop-at.at + c.pass-passing.result ≤ length c.loop-at.bytes =
    omega (arith, c.pass-passing.ensures.within, c.loop-at.invariant.within) in
    record {
      within = within;
      passes = passed_on c.args.bytes.now c.loop-at.bytes c.args.self.now c.loop-at.self
          c.pass-passing.new.self c.loop-at.at c.pass-passing.result within
          c.pass-passing.ensures.passes c.loop-at.invariant.passes;
    }

pub loop-at-preserved : goal.loop-at-preserved
loop-at-preserved c =
    let within : c.loop-at.at < length c.loop-at.bytes = omega arith in
    record {
      within = omega (arith, length-set c.loop-at.bytes c.loop-at.at c.take.result);
      passes = taken_on c.args.bytes.now c.loop-at.bytes c.args.self.now c.pass-passing.new.self
          c.take.new.self c.loop-at.at c.take.result within c.take.ensures
          (none_passed c.args.bytes.now c.loop-at.bytes c.args.self.now c.loop-at.self
          c.pass-passing.new.self c.loop-at.at c.pass-passing.result (omega arith)
          c.pass-passing.ensures.passes c.loop-at.invariant.passes);
    }
