use Rattle.std.proofs.Common.{subst, sym, ap, ◌∙◌, take}
use Rattle.rtrb.specs.Ring.{received}
use Rattle.sink_buffer.specs.Written.{WritesAll}
use Rattle.write_behind.proofs.Ends.{consumer_later}
use Rattle.write_behind.proofs.Texts.{written_more}
use Rattle.write_behind.proofs.writer.Writer.write_next.Goals as goal

pub invariant_of-self-then-self : goal.invariant_of-self-then-self
invariant_of-self-then-self g c =
    let i = c.self.invariant in
    let popped = c.dequeue-count in
    let o = g.S.Start.facts in
    let old = g.K.Sink.facts c.self.inside.sink in
    let new = g.K.Sink.facts c.write_all-self-inside.new.output in
    let bytes = ap (λ l. take popped.result l) c.deref.ensures.value in
    let wrote = subst (λ l. WritesAll old l c.write_all-self-inside.result new) bytes
    c.write_all-self-inside.ensures.writes in
    let before = subst (λ w. WritesAll o (received c.self.inside.consumer) w old) c.if-self.true i.1
    in (
      consumer_later g.S.Start.consumer c.self.inside.consumer popped.new.consumer i.0
          popped.ensures.consumer,
      subst (λ r. WritesAll o r c.write_all-self-inside.result new) (sym popped.ensures.received)
          (written_more o old new _ _ c.write_all-self-inside.result before wrote),
      popped.ensures.room ∙ i.2,
    )
