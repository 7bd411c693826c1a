use Rattle.std.proofs.Common.{arith, rules, sym, ap, ◌∙◌, ◌≡◌, ◌≤◌, ◌+◌, ◌-◌, length, drop, take}
use Rattle.std.specs.List.{prefix_len}
use Rattle.std.proofs.lemmas.List.{take_rest, length-drop}
use Rattle.std.proofs.Common.{not, ◌==◌}
use Rattle.log_lines.proofs.Runs.{run_next}
use Rattle.log_lines.proofs.message.length_before_zero.Goals as goal

pub loop-at-preserved : goal.loop-at-preserved
loop-at-preserved c =
    let xs = c.args.message.now in
    let at = c.loop-at.at in
    let long : length (drop at xs) ≡ length xs - at = length-drop at xs in
    let same : at + 16 - at ≡ 16 = omega arith in
    let room : 16 ≤ length xs - at = search rules in (
      omega (arith, room),
      run_next (λ byte. not (byte == 0)) xs _ at 16 c.loop-at.invariant.1
          (omega (arith, long, room)) (ap (λ n. take n (drop at xs)) same)
          (sym c.are_nonzero.ensures ∙ c.if-are_nonzero.true),
    )

pub returns : goal.returns
returns c =
    let xs = c.args.message.now in
    let at = c.loop-at.at in
    omega (
      arith,
      c.loop-at.invariant.1,
      c.run_before_zero.ensures.length,
      ap (prefix_len (λ byte. not (byte == 0))) (take_rest xs at),
    )
