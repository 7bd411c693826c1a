use Rattle.std.proofs.Common.{◌≡◌, None}
use Rattle.leader_token.specs.Words.{token_of, view_of}
use Rattle.test_token.specs.Logs.{HasInOrder}
use Rattle.test_token.proofs.log.add_many.Given as goal

abbrev pub invariant-loop-seq : goal.invariant-loop-seq
invariant-loop-seq g l = record {
  token : token_of l.pass ≡ token_of l.fn.pass;
  base : (view_of l.pass).base ≡ None;
  mine : (view_of l.pass).mine ≡ None;
  root : (view_of l.pass).root ≡ (view_of l.fn.pass).root;
  children : (view_of l.pass).children ≡ (view_of l.fn.pass).children;
  seen : HasInOrder l.by l.seq (view_of l.pass).seen;
}
