use Rattle.std.proofs.Common.{sym, ◌∙◌}
use Rattle.write_behind.specs.Modes.{writer_of}
use Rattle.write_behind.proofs.Texts.{none_refused, true_before}
use Rattle.write_behind.proofs.sink.WriteBehind.finish.Goals as goal

pub returns-clause-refused : goal.returns-clause-refused
returns-clause-refused g c = λ whole.
    let told = sym c.into_sink.ensures.told ∙ whole in
    let last = true_before c.end-writer.result.whole _ c.drain.ensures.failed told in
    rw (← c.self.view_is) (none_refused (writer_of c.self.inside.mode) c.end-writer.result
    c.self.inside.refused c.self.invariant.2 c.end-writer.ensures last)
