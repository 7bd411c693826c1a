use Rattle.std.proofs.Common.{◌≡◌, length, take, arith}
use Rattle.ace7_input.proofs.Telling.{end_ends, end_gives, end_rest}
use Rattle.ace7_input.proofs.end.Ace7EndPeerEnd.read.Goals as goal

pub invariant_of-self : goal.invariant_of-self
invariant_of-self g c =
    let same : length c.pass_on.new.bytes ≡ length (take c.in-Bytes.count c.read-got.new.buf) =
    omega arith in
    record {
      placed = end_ends (g.E.PeerEnd.tells c.args.self.now.inner)
          (g.E.PeerEnd.tells c.read-got.new.self) c.read-got.new.buf c.pass_on.new.bytes
          c.in-Bytes.count c.args.self.now.place c.pass_on.new.self same c.args.self.now.placed
          c.pass_on.ensures c.in-Bytes.ensures.reads;
    }

pub returns-in-Bytes-clause-reads : goal.returns-in-Bytes-clause-reads
returns-in-Bytes-clause-reads g c =
    let same : length c.pass_on.new.bytes ≡ length (take c.in-Bytes.count c.read-got.new.buf) =
    omega arith in
    end_gives (g.E.PeerEnd.tells c.args.self.now.inner) (g.E.PeerEnd.tells c.read-got.new.self)
    c.read-got.new.buf c.pass_on.new.bytes c.in-Bytes.count c.args.self.now.place
    c.pass_on.new.self same c.args.self.now.placed c.pass_on.ensures
    c.in-Bytes.ensures.reads

pub returns-in_default : goal.returns-in_default
returns-in_default g c = record {
  reads = end_rest (g.E.PeerEnd.tells c.args.self.now.inner) (g.E.PeerEnd.tells c.read-got.new.self)
      c.read-got.new.buf c.read-got.result c.in_default.not-Bytes c.read-got.ensures.reads;
  kept = λ t keeps. record {
    within = c.read-got.ensures.kept t keeps.within;
    stories = keeps.stories;
  };
}
