use Rattle.std.proofs.Common.{◌≡◌, length, take, arith}
use Rattle.ace7_input.proofs.Telling.{source_ends, source_gives, source_rest}
use Rattle.ace7_input.proofs.source.Ace7SourceSource.read.Goals as goal

pub invariant_of-self : goal.invariant_of-self
invariant_of-self g c =
    let same : length c.pass_on.new.bytes ≡ length (take c.in-Bytes.count c.read-got.new.buf) =
    omega arith in
    record {
      placed = source_ends (g.S.Source.facts c.args.self.now.inner)
          (g.S.Source.facts c.read-got.new.self) c.read-got.new.buf c.pass_on.new.bytes
          c.in-Bytes.count c.args.self.now.place c.pass_on.new.self same c.args.self.now.placed
          c.pass_on.ensures c.in-Bytes.ensures;
    }

pub returns-in-Bytes : goal.returns-in-Bytes
returns-in-Bytes g c =
    let same : length c.pass_on.new.bytes ≡ length (take c.in-Bytes.count c.read-got.new.buf) =
    omega arith in
    source_gives (g.S.Source.facts c.args.self.now.inner) (g.S.Source.facts c.read-got.new.self)
    c.read-got.new.buf c.pass_on.new.bytes c.in-Bytes.count c.args.self.now.place
    c.pass_on.new.self same c.args.self.now.placed c.pass_on.ensures c.in-Bytes.ensures

pub returns-in_default : goal.returns-in_default
returns-in_default g c =
    source_rest (g.S.Source.facts c.args.self.now.inner) (g.S.Source.facts c.read-got.new.self)
    c.read-got.new.buf c.read-got.result c.in_default.not-Bytes c.read-got.ensures
