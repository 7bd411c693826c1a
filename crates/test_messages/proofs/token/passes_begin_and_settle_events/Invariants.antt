use Rattle.std.proofs.Common.{[]}
use Rattle.test_messages.proofs.token.passes_begin_and_settle_events.Given as goal

abbrev pub ghost-new : goal.ghost-new
ghost-new g a = (tt, [])
