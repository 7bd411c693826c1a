use Rattle.std.proofs.Common.{◌≡◌, ◌≤◌, ◌++◌, ◌-◌, ◌∙◌, List, ℕ, arith, length, take, drop, ap, sym}
use Rattle.std.proofs.Common.{subst, append-nil, append_assoc}
use Rattle.hex.specs.Hex.{encode_lower}
use Rattle.journal_text.proofs.Digits.{encode-none, encode-further}
use Rattle.journal_text.proofs.words.put_digits.Goals as goal

pub loop-at-init : goal.loop-at-init
loop-at-init g c = (
  omega arith,
  λ since text h. subst (λ (whole : List ℕ). g.T.TextOut.stands since c.args.out.now whole)
      (sym (ap (λ (digits : List ℕ). text ++ digits) encode-none ∙ append-nil text)) h,
)

pub loop-at-preserved : goal.loop-at-preserved
loop-at-preserved g c =
    let xs = c.args.message.now in
    let at = c.loop-at.at in
    let end = c.min-end.result in
    let inside : at ≤ length xs = c.loop-at.invariant.0 in
    let up : at ≤ end = omega (arith, c.min-end.ensures) in
    let few = encode_lower (take (end - at) (drop at xs)) in (
      omega (arith, c.min-end.ensures),
      λ since text h.
          let all = c.put_few.ensures since _ (c.loop-at.invariant.1 since text h) in
          let join : (text ++ encode_lower (take at xs)) ++ few
          ≡ text ++ encode_lower (take end xs) =
          append_assoc text (encode_lower (take at xs)) few
          ∙ ap (λ (digits : List ℕ). text ++ digits) (sym (encode-further xs at end up)) in
          subst (λ (whole : List ℕ). g.T.TextOut.stands since c.put_few.new.out whole) join all,
    )
