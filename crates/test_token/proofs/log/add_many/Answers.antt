use Rattle.std.proofs.Common.{◌≡◌, rules, true, ◌∙◌}
use Rattle.test_token.proofs.Counts.{adds-counted}
use Rattle.test_token.proofs.log.add_many.Goals as goal

pub loop-seq-preserved : goal.loop-seq-preserved
loop-seq-preserved g c =
    let i = c.loop-seq.invariant in
    let a = c.add.ensures in
    let yes : c.add.result ≡ true = search rules in
    record {
      token = a.token ∙ i.token;
      base = a.free.0;
      mine = a.free.1;
      root = a.kin.0 ∙ i.root;
      children = a.kin.1 ∙ i.children;
      seen = adds-counted _ _ _ _ (a.seen yes) i.seen;
    }
