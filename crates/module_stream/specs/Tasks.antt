-- What the tasks of this crate give for a message.
use Rattle.std.specs.Prelude.{ℕ, nat_lt, if◌then◌else◌, [], ◌∷◌, ◌++◌, length, Option, Some, None}
use Rattle.message_block.specs.Messages.{BlockState, MessageState, block_of, bytes_of}
use Rattle.cdr_record.specs.declared.record.LogRecord.{LogRecord}
use Rattle.cdr_record.specs.Decoding.{only_record}
use Rattle.log_lines.specs.Texts.{record_text}

-- the text of a record as a block
abbrev pub text_block : LogRecord → BlockState
text_block entry = block_of (record_text entry)

-- the text of a record as a message of one block
abbrev pub text_message : ℕ → LogRecord → MessageState
text_message priority entry = record { priority = priority; blocks = text_block entry ∷ [] }

-- the text of a record, with the priority of the message that it was; a message that is no record
-- stays as it is
abbrev pub text_or : MessageState → Option LogRecord → MessageState
text_or message None = message
text_or message (Some entry) = text_message message.priority entry

unfoldable pub formatted : MessageState → MessageState
formatted message = text_or message (only_record (bytes_of message))

-- A message of fewer than 1,024 blocks gets one more, a line feed. One that has as many stays as it
-- is.
abbrev pub separated : MessageState → MessageState
separated message =
    if nat_lt (length message.blocks) 1024 then record message {
      blocks = message.blocks ++ block_of (10 ∷ []) ∷ [];
    }
    else message
