use Rattle.std.proofs.Common.{◌≡◌, ◌∙◌, ℕ, List, sym, ap, ap₂, subst}
use Rattle.std.specs.Prelude.{flat_map}
use Rattle.sink_buffer.specs.Texts.{Puts}
use Rattle.reactor_journal.specs.declared.entry.Entry.{Entry}
use Rattle.reactor_journal.specs.Past.{past_of}
use Rattle.log_handler.specs.declared.note.ServerNote.{ServerNote}
use Rattle.journal_picture.specs.declared.layout.Layout.{Layout}
use Rattle.journal_picture.specs.Layouts.{layout_of}
use Rattle.journal_picture.specs.Marks.{marks, text_of}
use Rattle.journal_picture.specs.Pictures.{good_part, bad_part, page, layout_for}
use Rattle.journal_picture.proofs.Chains.{next}
use Rattle.journal_picture.proofs.picture.put_picture.Goals as goal

pub returns : goal.returns
returns g c =
    let s = g.T.TextOut.stands in
    let journal = c.args.journal.now in
    let bad = c.args.bad in
    let layout = c.of-layout.result in
    let handles : c.args.seen.handles ≡ layout.handles =
    sym c.handles.ensures ∙ sym (ap (λ (l : Layout). l.handles) c.of-layout.ensures) in
    let is : layout ≡ layout_for journal bad =
    c.of-layout.ensures ∙ ap₂ layout_of c.drawn_count.ensures
    (c.handles.ensures ∙ c.requires.handles) in
    let marked = subst (λ (n : ℕ). Puts s c.put_header.new.out
    (flat_map (text_of layout) (marks n (past_of (good_part journal bad)))) c.put_marks.new.out)
    handles
    (subst (λ (good : List (Entry ServerNote)).
    Puts s c.put_header.new.out (flat_map (text_of layout)
    (marks c.args.seen.handles (past_of good))) c.put_marks.new.out) c.good_part.ensures
    c.put_marks.ensures) in
    let put = next s (next s (next s c.put_header.ensures marked) c.put_bad.ensures) c.put.ensures
    in
    subst (λ (l : Layout). Puts s c.args.out.now
    (page l (good_part journal bad) (bad_part l journal bad)) c.put.new.self) is put
