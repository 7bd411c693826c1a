use Rattle.std.proofs.Common.{[]}
use Rattle.bench_parts.proofs.holds.token_with.Given as goal

abbrev pub ghost-new : goal.ghost-new
ghost-new g a = (tt, [])
