use Rattle.std.proofs.Common.{refl, ap, not}
use Rattle.sink_buffer.proofs.Gathering.{gathers-flushed}
use Rattle.sink_buffer.proofs.buffer.SinkBuffer.flush.Goals as goal

pub returns-clause-text : goal.returns-clause-text
returns-clause-text g c = λ start put h.
    gathers-flushed g.K.Sink.facts start c.args.self.now _ put c.write_all-done.result
    c.if-self.false c.write_all-done.ensures.writes refl (λ e. ap not e) (λ e. ap not e) h
