use Rattle.std.proofs.Common.{arith, rules, sym, ap, ◌∙◌, ◌≡◌, ◌≤◌, ◌+◌, ◌-◌, length, drop, take}
use Rattle.std.specs.List.{prefix_len}
use Rattle.std.proofs.lemmas.List.{take_rest, length-drop}
use Rattle.log_lines.specs.Texts.{is_plain}
use Rattle.log_lines.proofs.Runs.{run_next}
use Rattle.log_lines.proofs.message.length_of_plain.Goals as goal

pub loop-at-preserved : goal.loop-at-preserved
loop-at-preserved c =
    let xs = c.args.bytes.now in
    let at = c.loop-at.at in
    let long : length (drop at xs) ≡ length xs - at = length-drop at xs in
    let same : at + 16 - at ≡ 16 = omega arith in
    let room : 16 ≤ length xs - at = search rules in (
      omega (arith, room),
      run_next is_plain xs _ at 16 c.loop-at.invariant.1
          (omega (arith, long, room)) (ap (λ n. take n (drop at xs)) same)
          (sym c.are_plain.ensures ∙ c.if-are_plain.true),
    )

pub returns-clause-length : goal.returns-clause-length
returns-clause-length c =
    let xs = c.args.bytes.now in
    let at = c.loop-at.at in
    omega (
      arith,
      c.loop-at.invariant.1,
      c.run_of_plain.ensures.length,
      ap (prefix_len is_plain) (take_rest xs at),
    )
