-- What the format task gives, by the text that was made.
use Rattle.std.proofs.Common.{◌≡◌, [], ◌∷◌, Option, Some, None, refl}
use Rattle.std.specs.Option.{option_map}
use Rattle.message_block.specs.Messages.{BlockState, MessageState, bytes_of}
use Rattle.cdr_record.specs.declared.record.LogRecord.{LogRecord}
use Rattle.cdr_record.specs.Decoding.{only_record}
use Rattle.module_stream.specs.Tasks.{formatted, text_or, text_block}

-- what was found, by the block of its text
formats : (message : MessageState) (found : Option LogRecord) (block : BlockState)
    → Some block ≡ option_map text_block found
    → ◌≡◌ {A = MessageState} (record { priority = message.priority; blocks = block ∷ [] })
    (text_or message found)
formats message None block e = absurd (cc e)
formats message (Some entry) block e = cc e

keeps : (message : MessageState) (found : Option LogRecord)
    → ◌≡◌ {A = Option BlockState} None (option_map text_block found)
    → message ≡ text_or message found
keeps message None e = refl
keeps message (Some entry) e = absurd (cc e)

-- the message is a record, whose text is this block
pub formats_record : (message : MessageState) (block : BlockState)
    → Some block ≡ option_map text_block (only_record (bytes_of message))
    → ◌≡◌ {A = MessageState} (record { priority = message.priority; blocks = block ∷ [] })
    (formatted message)
unfolding formatted
formats_record message block e = formats message (only_record (bytes_of message)) block e

-- it is none
pub formats_none : (message : MessageState)
    → ◌≡◌ {A = Option BlockState} None (option_map text_block (only_record (bytes_of message)))
    → message ≡ formatted message
unfolding formatted
formats_none message e = keeps message (only_record (bytes_of message)) e
