use Rattle.std.proofs.Common.{subst, sym, ◌∙◌, ℕ, List, take}
use Rattle.std.specs.Prelude.{flat_map}
use Rattle.sink_buffer.specs.Texts.{Puts}
use Rattle.log_lines.specs.Texts.{message_text, byte_text}
use Rattle.log_lines.proofs.Escapes.{plain_text}
use Rattle.log_lines.proofs.message.put_message.Goals as goal

pub returns-then-length_of_plain-message : goal.returns-then-length_of_plain-message
returns-then-length_of_plain-message g c =
    let same = plain_text c.args.message.now
    (sym c.length_of_plain.ensures.length ∙ c.if-length_of_plain-message.true) in
    subst (λ (text : List ℕ). Puts g.T.TextOut.stands c.args.out.now text c.put.new.self) (sym same)
    c.put.ensures

pub returns-else-length_of_plain-message : goal.returns-else-length_of_plain-message
unfolding message_text
returns-else-length_of_plain-message g c =
    subst (λ (n : ℕ). Puts g.T.TextOut.stands c.args.out.now
    (flat_map byte_text (take n c.args.message.now)) c.put_escaped.new.out)
    c.length_before_zero.ensures c.put_escaped.ensures
