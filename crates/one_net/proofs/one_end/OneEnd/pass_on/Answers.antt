use Rattle.std.proofs.Common.{rules}
use Rattle.one_net.proofs.Ends.{faults_rose}
use Rattle.one_net.proofs.one_end.OneEnd.pass_on.Goals as goal

pub returns-in-Failed-clause-kept : goal.returns-in-Failed-clause-kept
returns-in-Failed-clause-kept g c t kept = record {
  limit = search rules;
  within = search rules;
  moved = search rules;
  never_pauses = search rules;
  too_long = search rules;
  sound = search rules;
  cause = search rules;
  took = search rules;
  source_faults = λ f told. faults_rose c.args.self.now.failed f _ _ (kept.source_faults f told)
      c.in-Failed.ensures.rose;
  bytes = search rules;
  counts = search rules;
  at_end = search rules;
  story = search rules;
}
