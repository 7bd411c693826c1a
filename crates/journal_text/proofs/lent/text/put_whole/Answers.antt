use Rattle.std.proofs.Common.{◌∙◌, refl, []}
use Rattle.journal_text.proofs.Gathering.{wrote}
use Rattle.journal_text.proofs.lent.text.put_whole.Goals as goal

pub returns-clause-same_reference : goal.returns-clause-same_reference
returns-clause-same_reference g c =
    let put = c.put_into.ensures (record {
      lent = c.args.buffer.now.sink.ghost_name;
      start = c.requires.0;
    }) [] (record { same_reference = refl; gathers = c.requires.1 }) in
    c.flush.ensures.same_reference ∙ put.same_reference

pub returns-clause-text : goal.returns-clause-text
returns-clause-text g c = λ start h.
    let put = c.put_into.ensures (record {
      lent = c.args.buffer.now.sink.ghost_name;
      start = start;
    }) [] (record { same_reference = refl; gathers = h }) in
    wrote g.K.Sink.facts start c.flush.new.self (g.P.PutText.text c.args.text.now)
    c.flush.new.self.broken refl c.flush.ensures.held
    (c.flush.ensures.text start (g.P.PutText.text c.args.text.now) put.gathers)
