use Rattle.sink_buffer.proofs.Gathering.{holds-none}
use Rattle.sink_buffer.proofs.buffer.SinkBuffer.new.Goals as goal

pub returns-clause-text : goal.returns-clause-text
returns-clause-text g c = record {
  whole = λ _. holds-none (g.K.Sink.facts c.args.output);
  front = λ e. absurd (cc);
}
