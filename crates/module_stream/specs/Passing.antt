-- What comes out of a task for one message.
use Rattle.std.specs.Prelude.{List, [], ◌∷◌}
use Rattle.message_block.specs.Messages.{MessageState}
use Rattle.module_stream.specs.declared.passed.Passed.{Passed}
use Rattle.module_stream.specs.declared.passed.Passed.TheVariants.{One, Many}

-- the messages that come out, in order
abbrev pub passed_on : Passed → List MessageState
passed_on (One message) = message ∷ []
passed_on (Many messages) = messages
