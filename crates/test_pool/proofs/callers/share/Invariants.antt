use Rattle.std.proofs.Common.{[]}
use Rattle.ev_base.specs.Terms.{open_terms}
use Rattle.test_pool.proofs.callers.share.Given as goal

abbrev pub ghost-new : goal.ghost-new
ghost-new g a = (open_terms a.core.most, [])
