use Rattle.std.proofs.Common.{◌≡◌, ◌<◌, ℕ, length, refl, sym, subst, Option, Some, slice_get}
use Rattle.std.proofs.lemmas.Option.{slice_get_read}
use Rattle.sink_buffer.specs.Texts.{Puts}
use Rattle.reactor_journal.specs.declared.entry.Entry.{Entry}
use Rattle.log_handler.specs.declared.note.ServerNote.{ServerNote}
use Rattle.journal_picture.specs.Layouts.{across}
use Rattle.journal_picture.specs.Marks.{bad_mark}
use Rattle.journal_picture.specs.Pictures.{bad_part, bad_entry_mark}
use Rattle.journal_picture.proofs.picture.put_bad.Goals as goal

pub returns-in-Some : goal.returns-in-Some
returns-in-Some g c =
    let s = g.T.TextOut.stands in
    let layout = c.args.layout in
    let journal = c.args.journal.now in
    let at = c.in-Some.at in
    let e = c.index-journal-at.result in
    let within : at < length journal = c.requires at c.in-Some.is in
    let here : slice_get journal at ≡ Some e =
    slice_get_read journal (length journal) at e refl within c.index-journal-at.is in
    let placed = subst (λ (low : ℕ). Puts s c.args.out.now (bad_mark (across layout at) low at e)
    c.put_bad_mark.new.out) c.bottom.ensures
    (subst (λ (x : ℕ). Puts s c.args.out.now (bad_mark x c.bottom.result at e)
    c.put_bad_mark.new.out) c.across.ensures c.put_bad_mark.ensures) in
    subst (λ (bad : Option ℕ). Puts s c.args.out.now (bad_part layout journal bad)
    c.put_bad_mark.new.out) (sym c.in-Some.is)
    (subst (λ (found : Option (Entry ServerNote)).
    Puts s c.args.out.now (bad_entry_mark layout at found) c.put_bad_mark.new.out) (sym here)
    placed)
