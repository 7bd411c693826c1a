use Rattle.std.proofs.Common.{rules, refl, sym, ◌∙◌}
use Rattle.sink_buffer.specs.Gathers.Since.{Told}
use Rattle.journal_text.proofs.Sinking.{saw-broken, saw-whole, saw-failed, later-whole}
use Rattle.journal_text.proofs.Sinking.{later-failed, breaks-now}
use Rattle.journal_text.proofs.journal_sink.JournalSinkWatchServerNote.saw.Goals as goal

pub returns-then-is_broken-clause-stands : goal.returns-then-is_broken-clause-stands
returns-then-is_broken-clause-stands g c t h p =
    saw-broken g.K.Sink.facts t c.args.self.now h c.args.entry.now p
    (sym c.is_broken.ensures ∙ c.if-is_broken.true)

pub returns-then-not-is_broken-clause-stands : goal.returns-then-not-is_broken-clause-stands
returns-then-not-is_broken-clause-stands g c t h p =
    saw-whole g.K.Sink.facts t c.args.self.now h c.args.entry.now p _
    (sym c.is_broken.ensures ∙ c.if-is_broken.false)
    (λ start put gathers. c.flush.ensures.text start _
    (c.put_next.ensures (Told start) put gathers)) c.flush.ensures.held refl refl
    (search rules) c.add.ensures

pub returns-then-not-is_broken-clause-later : goal.returns-then-not-is_broken-clause-later
returns-then-not-is_broken-clause-later g c =
    later-whole g.K.Sink.facts c.args.self.now.output c.flush.new.self _
    (sym c.is_broken.ensures ∙ c.if-is_broken.false)
    (λ start put gathers. c.flush.ensures.text start _
    (c.put_next.ensures (Told start) put gathers)) (search rules)

pub returns-else-not-is_broken-clause-stands : goal.returns-else-not-is_broken-clause-stands
returns-else-not-is_broken-clause-stands g c t h p =
    saw-failed g.K.Sink.facts t c.args.self.now h c.args.entry.now p _
    (sym c.is_broken.ensures ∙ c.if-is_broken.false)
    (λ start put gathers. c.flush.ensures.text start _
    (c.put_next.ensures (Told start) put gathers)) c.flush.ensures.held refl refl
    (search rules) refl

pub returns-else-not-is_broken-clause-later : goal.returns-else-not-is_broken-clause-later
returns-else-not-is_broken-clause-later g c =
    later-failed g.K.Sink.facts c.args.self.now.output c.flush.new.self _
    (sym c.is_broken.ensures ∙ c.if-is_broken.false)
    (λ start put gathers. c.flush.ensures.text start _
    (c.put_next.ensures (Told start) put gathers)) (search rules)

pub returns-else-not-is_broken-clause-breaks : goal.returns-else-not-is_broken-clause-breaks
returns-else-not-is_broken-clause-breaks g c = λ sound broken.
    breaks-now g.K.Sink.facts c.args.self.now.output c.flush.new.self _ sound
    (λ start put gathers. c.flush.ensures.text start _
    (c.put_next.ensures (Told start) put gathers)) broken
