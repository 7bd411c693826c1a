-- What a formatting task does, by what a record is.
use Rattle.std.specs.Prelude.{◌≡◌}
use Rattle.message_block.specs.Messages.{MessageState, bytes_of}
use Rattle.cdr_record.specs.declared.record.LogRecord.{LogRecord}
use Rattle.cdr_record.specs.Grammar.{Spells}
use Rattle.module_stream.specs.Tasks.{formatted, text_message}

-- a message whose bytes spell a record becomes its text
abbrev pub FormatsRecords : Type 0
FormatsRecords = (message : MessageState) (entry : LogRecord) → Spells (bytes_of message) entry
    → formatted message ≡ text_message message.priority entry

-- any other message stays as it is
abbrev pub LeavesOthers : Type 0
LeavesOthers = (message : MessageState) → ((entry : LogRecord) → ¬ Spells (bytes_of message) entry)
    → formatted message ≡ message
