use Rattle.std.proofs.Common.{◌++◌, ◌∷◌, [], ◌+◌, ◌∙◌, List, sym, ap, subst}
use Rattle.reactor_model.specs.reactor_journal.specs.declared.entry.Entry.{Entry}
use Rattle.log_handler.specs.declared.note.ServerNote.{ServerNote}
use Rattle.journal_reader.specs.FirstLines.{ReadsEntry}
use Rattle.journal_reader.proofs.JournalRead.{HasRead, begins, goes_on, shorter}
use Rattle.journal_reader.proofs.reading.read_journal.Goals as goal

pub loop-rest-init : goal.loop-rest-init
loop-rest-init c =
    let read = c.in-Some.ensures in
    subst (HasRead c.args.bytes.now c.in-Some.behind.now 1 c.in-Some.most)
    (sym c.new-journal.ensures) (begins c.args.bytes.now c.in-Some.behind.now c.in-Some.most
    read.0 read.1)

pub loop-rest-smaller : goal.loop-rest-smaller
loop-rest-smaller c =
    let read = subst (ReadsEntry c.loop-rest.rest.now) c.in-Some-2.is c.in_ok-entry.ensures in
    shorter c.loop-rest.rest.now c.in-Some-2.behind.now c.in-Some-2.entry read.0

pub loop-rest-preserved : goal.loop-rest-preserved
loop-rest-preserved c =
    let read = subst (ReadsEntry c.loop-rest.rest.now) c.in-Some-2.is c.in_ok-entry.ensures in
    subst (HasRead c.args.bytes.now c.in-Some-2.behind.now (c.loop-rest.line + 1) c.in-Some.most)
    (sym (c.append.ensures.entries ∙ ap
    (λ (es : List (Entry ServerNote)). es ++ c.in-Some-2.entry ∷ [])
    c.in_ok-reserve.ensures.entries))
    (goes_on c.args.bytes.now c.loop-rest.rest.now c.in-Some-2.behind.now c.loop-rest.line
    c.in-Some.most c.loop-rest.journal.entries c.in-Some-2.entry c.loop-rest.invariant read.0
    read.1)
