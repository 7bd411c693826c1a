use Rattle.std.proofs.Common.{sym, ◌∙◌, refl}
use Rattle.line_sink.proofs.Lines.{saw-broken, saw-whole, saw-failed, later-more, breaks-more}
use Rattle.line_sink.proofs.sink.LineSinkWatchNote.saw.Goals as goal

pub returns-then-is_broken-clause-stands : goal.returns-then-is_broken-clause-stands
returns-then-is_broken-clause-stands g c t h p =
    saw-broken g.P.JournalLines.lines g.K.Sink.facts t c.args.self.now h c.args.entry.now p
    (sym c.is_broken.ensures ∙ c.if-is_broken.true)

pub returns-then-is_broken-2-clause-stands : goal.returns-then-is_broken-2-clause-stands
returns-then-is_broken-2-clause-stands g c t h p =
    saw-failed g.P.JournalLines.lines g.K.Sink.facts t c.args.self.now h c.args.entry.now p _
    (sym c.is_broken.ensures ∙ c.if-is_broken.false) c.put.ensures
    (sym c.is_broken-2.ensures ∙ c.if-is_broken-2.true) refl

pub returns-then-is_broken-2-clause-later : goal.returns-then-is_broken-2-clause-later
returns-then-is_broken-2-clause-later g c =
    later-more g.K.Sink.facts c.args.self.now.output c.put.new.out _ _
    (sym c.is_broken.ensures ∙ c.if-is_broken.false) refl c.put.ensures

pub returns-then-is_broken-2-clause-breaks : goal.returns-then-is_broken-2-clause-breaks
returns-then-is_broken-2-clause-breaks g c = λ sound broken.
    breaks-more g.K.Sink.facts c.args.self.now.output c.put.new.out _ sound broken
    c.put.ensures

pub returns-clause-stands : goal.returns-clause-stands
returns-clause-stands g c t h p =
    saw-whole g.P.JournalLines.lines g.K.Sink.facts t c.args.self.now h c.args.entry.now p _
    (sym c.is_broken.ensures ∙ c.if-is_broken.false) c.put.ensures
    (sym c.is_broken-2.ensures ∙ c.if-is_broken-2.false) c.add.ensures

pub returns-clause-later : goal.returns-clause-later
returns-clause-later g c =
    later-more g.K.Sink.facts c.args.self.now.output c.put.new.out _ _
    (sym c.is_broken.ensures ∙ c.if-is_broken.false) refl c.put.ensures
