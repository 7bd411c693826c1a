use Rattle.std.proofs.Common.{◌≡◌, ◌≤◌, ◌∙◌, ℕ, List, ◌++◌, ◌+◌, ◌-◌, length, take, drop, ap, sym}
use Rattle.std.proofs.Common.{subst, arith, append_assoc}
use Rattle.std.specs.Prelude.{flat_map}
use Rattle.std.proofs.lemmas.List.{take_rest, length-drop}
use Rattle.log_lines.specs.Texts.{byte_text}
use Rattle.log_lines.proofs.Escapes.{escaped_next}
use Rattle.log_lines.proofs.message.put_escaped.Goals as goal

pub loop-at-preserved : goal.loop-at-preserved
loop-at-preserved g c =
    let xs = c.args.bytes.now in
    let at = c.loop-at.at in
    let plain = c.length_of_plain-plain.result in
    let n = c.put_first.result in
    let rest = take (length xs - at) (drop at xs) in
    let behind = take (length rest - plain) (drop plain rest) in
    let next = escaped_next xs rest behind at plain n (take_rest xs at)
    c.length_of_plain-plain.ensures.length (take_rest rest plain) in
    let here : length rest ≡ length xs - at = ap length (take_rest xs at) ∙ length-drop at xs in
    let there : length behind ≡ length rest - plain =
    ap length (take_rest rest plain) ∙ length-drop plain rest in
    let inside : plain ≤ length rest = c.length_of_plain-plain.ensures.within in
    let first : n ≤ length behind = c.put_first.ensures.within in
    let before : at ≤ length xs = c.loop-at.invariant.0 in (
      omega arith,
      λ faults text h.
          let all = c.put_first.ensures.text faults _
          (c.put.ensures faults _ (c.loop-at.invariant.1 faults text h)) in
          let join : ((text ++ flat_map byte_text (take at xs)) ++ take plain rest)
          ++ flat_map byte_text (take n behind)
          ≡ text ++ flat_map byte_text (take (at + (plain + n)) xs) =
          append_assoc (text ++ flat_map byte_text (take at xs)) (take plain rest)
          (flat_map byte_text (take n behind))
          ∙ append_assoc text (flat_map byte_text (take at xs))
          (take plain rest ++ flat_map byte_text (take n behind))
          ∙ ap (λ ys. text ++ ys) (sym next) in
          subst (λ (whole : List ℕ). g.T.TextOut.stands faults c.put_first.new.out whole) join all,
    )
