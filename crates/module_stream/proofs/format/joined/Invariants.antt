use Rattle.std.proofs.Common.{◌≡◌, take}
use Rattle.message_block.specs.Messages.{bytes_in}
use Rattle.module_stream.proofs.format.joined.Given as goal

abbrev pub invariant-loop-block : goal.invariant-loop-block
invariant-loop-block l = l.bytes.items ≡ bytes_in (take l.block-index l.blocks)
