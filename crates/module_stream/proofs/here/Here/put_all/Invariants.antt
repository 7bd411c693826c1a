use Rattle.std.proofs.Common.{◌≡◌, ◌++◌, List}
use Rattle.message_block.specs.Messages.{MessageState}
use Rattle.module_stream.specs.Progress.{Gives, Progress}
use Rattle.module_stream.proofs.here.Here.put_all.Given as goal

-- the messages so far were put
abbrev pub invariant-loop-message : goal.invariant-loop-message
invariant-loop-message g l =
    ((first : Gives) (put answered : List MessageState)
    → Progress first put (answered ++ l.fn.self.held.items) l.fn.self.lost
    (g.T.Task.gives l.fn.self.task)
    → Progress first (put ++ l.yielded) (answered ++ l.self.held.items) l.self.lost
    (g.T.Task.gives l.self.task))
    × (l.yielded ++ l.message-iterator.rest.items ≡ l.fn.messages.items)
