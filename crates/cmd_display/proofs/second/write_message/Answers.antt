use Rattle.std.proofs.Common.{rules, ◌∙◌, subst, ap, append_assoc, ◌++◌, take, List, ℕ}
use Rattle.sink_buffer.specs.Gathers.{Gathers, Told}
use Rattle.message_block.specs.Messages.{bytes_in}
use Rattle.cmd_display.proofs.Lists.{flat-next}
use Rattle.cmd_display.proofs.second.write_message.Goals as goal

pub loop-block-preserved : goal.loop-block-preserved
loop-block-preserved g c = λ o put h.
    let items = c.blocks-block-items.result.now in
    subst (λ (text : List ℕ). Gathers g.K.Sink.facts o c.put.new.self text)
    (ap (λ bytes. (put ++ bytes_in (take c.loop-block.block-index items)) ++ bytes) c.bytes.ensures
    ∙ append_assoc put (bytes_in (take c.loop-block.block-index items))
    c.block-item.result.bytes ∙ ap (λ xs. put ++ xs)
    (flat-next (λ block. block.bytes) items c.loop-block.block-index c.block-item.result
    (search rules) c.block-item.is))
    (c.put.ensures (Told o) (put ++ bytes_in (take c.loop-block.block-index items))
    (c.loop-block.invariant o put h))
