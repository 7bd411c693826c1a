use Rattle.std.proofs.Common.{[]}
use Rattle.message_block.proofs.Priority.{filter-filled, falls-filled}
use Rattle.message_block.proofs.laws.equal_messages_leave_in_order_of_arrival.Goals as goal

pub returns-clause-falls : goal.returns-clause-falls
returns-clause-falls c = λ arrivals. falls-filled [] arrivals tt

pub returns-clause-equal : goal.returns-clause-equal
returns-clause-equal c = λ arrivals priority. filter-filled priority [] arrivals
