-- The numbers of a journal, entry by entry.
use Rattle.std.proofs.Common.{◌≡◌, ◌∙◌, ℕ, ◌+◌, ◌<◌, min, List, [], ◌∷◌, length, take, get_or, refl}
use Rattle.std.proofs.Common.{sym, ap, ap₂, arith}
use Rattle.std.proofs.lemmas.List.Sums.{sum_by-cons, sum_by_more}
use Rattle.reactor_journal.specs.declared.entry.Entry.{Entry}
use Rattle.log_handler.specs.declared.note.ServerNote.{ServerNote}
use Rattle.log_handler.specs.Notes.{note_lines, entry_lines, journal_lines}
use Rattle.reactor_journal.specs.declared.entry.Entry.TheVariants as entry
use Rattle.log_handler.specs.cdr_record.specs.declared.record.LogRecord.{LogRecord}
use Rattle.log_lines.specs.declared.end_kind.EndKind.{EndKind}
use Rattle.log_lines.specs.Texts.{record_lines, closing_line}
use Rattle.log_handler.specs.declared.note.ServerNote.TheVariants as note
use Rattle.log_handler.specs.Laws.{took_of, records_of_note}
use Rattle.run_summary.specs.declared.summary.Summary.{Summary}
use Rattle.run_summary.specs.Summaries.{of_note, in_notes, acceptances, line_feeds, lines_of_note}
use Rattle.run_summary.specs.Summaries.{lines_in, told, Tells, Summarizes}
use Rattle.run_summary.specs.Adding.{Adds, AddsEntry}
use Rattle.run_summary.proofs.Feeds.{feeds-append, record_lines_feeds, closing_line_feeds}

entry_feeds : (e : Entry ServerNote) → line_feeds (entry_lines e) ≡ of_note lines_of_note e
entry_feeds (entry.Returned event answer said) = refl
entry_feeds (entry.Refused live fault said) = refl
entry_feeds (entry.Closed handle said) = refl
entry_feeds _ = refl

-- the lines of a journal are those of its notes
pub lines_are : (entries : List (Entry ServerNote))
    → lines_in entries ≡ in_notes lines_of_note entries
lines_are [] = refl
lines_are (e ∷ entries) =
    feeds-append (entry_lines e) (journal_lines entries)
    ∙ ap₂ ◌+◌ (entry_feeds e) (lines_are entries)
    ∙ sym (sum_by-cons (of_note lines_of_note) e entries)

-- ---- one note more

saturated : (old n more new : ℕ) → old ≡ told n → new ≡ min (old + more) 18446744073709551615
    → new ≡ told (n + more)
saturated old n more new is sum = omega (arith, is, sum)

unmoved : (old n more : ℕ) → old ≡ told n → more ≡ 0 → old ≡ told (n + more)
unmoved old n more is none = omega (arith, is, none)

pub adds_acceptance : (old : Summary) (conn new : ℕ)
    → new ≡ min (old.connections + 1) 18446744073709551615
    → Adds old (note.Accepted conn) (record old { connections = new })
adds_acceptance old conn new sum = λ c r b l t. record {
  connections = saturated old.connections c 1 new t.connections sum;
  records = unmoved old.records r 0 t.records refl;
  bytes = unmoved old.bytes b 0 t.bytes refl;
  lines = unmoved old.lines l 0 t.lines refl;
}

pub adds_piece : (old : Summary) (conn took : ℕ) (records : List LogRecord)
    (many new_records new_bytes new_lines : ℕ) → many ≡ length records
    → new_records ≡ min (old.records + many) 18446744073709551615
    → new_bytes ≡ min (old.bytes + took) 18446744073709551615
    → new_lines ≡ min (old.lines + many) 18446744073709551615
    → Adds old (note.Piece conn took records)
    (record old { records = new_records; bytes = new_bytes; lines = new_lines })
adds_piece old conn took records many new_records new_bytes new_lines count sum_records sum_bytes
    sum_lines = λ c r b l t. record {
      connections = unmoved old.connections c 0 t.connections refl;
      records = saturated old.records r (length records) new_records t.records
          (sum_records ∙ ap (λ (n : ℕ). min (old.records + n) 18446744073709551615) count);
      bytes = saturated old.bytes b took new_bytes t.bytes sum_bytes;
      lines = saturated old.lines l (line_feeds (record_lines conn records)) new_lines t.lines
          (sum_lines ∙ ap (λ (n : ℕ). min (old.lines + n) 18446744073709551615)
          (count ∙ sym (record_lines_feeds conn records)));
    }

pub adds_closing : (old : Summary) (conn : ℕ) (word : EndKind) (new : ℕ)
    → new ≡ min (old.lines + 1) 18446744073709551615
    → Adds old (note.Finished conn word) (record old { lines = new })
adds_closing old conn word new sum = λ c r b l t. record {
  connections = unmoved old.connections c 0 t.connections refl;
  records = unmoved old.records r 0 t.records refl;
  bytes = unmoved old.bytes b 0 t.bytes refl;
  lines = saturated old.lines l (line_feeds (closing_line conn word)) new t.lines
      (sum ∙ ap (λ (n : ℕ). min (old.lines + n) 18446744073709551615)
      (sym (closing_line_feeds conn word)));
}

nothing : (old : Summary) (said : ServerNote) → acceptances said ≡ 0
    → length (records_of_note said) ≡ 0 → took_of said ≡ 0 → line_feeds (note_lines said) ≡ 0
    → Adds old said old
nothing old said ec er eb el = λ c r b l t. record {
  connections = unmoved old.connections c (acceptances said) t.connections ec;
  records = unmoved old.records r (length (records_of_note said)) t.records er;
  bytes = unmoved old.bytes b (took_of said) t.bytes eb;
  lines = unmoved old.lines l (line_feeds (note_lines said)) t.lines el;
}

pub adds_nothing : (old : Summary) (said : ServerNote)
    → ((conn : ℕ) → said ≡ note.Accepted conn → ⊥)
    → ((conn took : ℕ) (records : List LogRecord) → said ≡ note.Piece conn took records → ⊥)
    → ((conn : ℕ) (word : EndKind) → said ≡ note.Finished conn word → ⊥) → Adds old said old
adds_nothing old (note.Accepted conn) a p f = absurd (a conn refl)
adds_nothing old note.NoneWaiting a p f = nothing old note.NoneWaiting refl refl refl refl
adds_nothing old note.ListenerFailed a p f = nothing old note.ListenerFailed refl refl refl refl
adds_nothing old note.ListenerShut a p f = nothing old note.ListenerShut refl refl refl refl
adds_nothing old (note.Piece conn took records) a p f = absurd (p conn took records refl)
adds_nothing old (note.Finished conn word) a p f = absurd (f conn word refl)

-- ---- one entry more

pub adds_no_note : (old : Summary) (e : Entry ServerNote)
    → ((number : ServerNote → ℕ) → of_note number e ≡ 0) → AddsEntry old e old
adds_no_note old e none = λ c r b l t. record {
  connections = unmoved old.connections c (of_note acceptances e) t.connections (none acceptances);
  records = unmoved old.records r (of_note (λ said. length (records_of_note said)) e) t.records
      (none (λ said. length (records_of_note said)));
  bytes = unmoved old.bytes b (of_note took_of e) t.bytes (none took_of);
  lines = unmoved old.lines l (of_note lines_of_note e) t.lines (none lines_of_note);
}

-- the numbers of the entries so far
abbrev pub TellsFirst : Summary → List (Entry ServerNote) → Type 0
TellsFirst summary entries = Tells summary (in_notes acceptances entries)
    (in_notes (λ said. length (records_of_note said)) entries) (in_notes took_of entries)
    (in_notes lines_of_note entries)

same_tells : (summary : Summary) (c c' r r' b b' l l' : ℕ) → c ≡ c' → r ≡ r' → b ≡ b' → l ≡ l'
    → Tells summary c r b l → Tells summary c' r' b' l'
same_tells summary c c' r r' b b' l l' ec er eb el t = rw (← ec, ← er, ← eb, ← el) t

pub tells_more : (old new : Summary) (entries : List (Entry ServerNote)) (i : ℕ)
    (e : Entry ServerNote) → i < length entries → e ≡ get_or entries i e
    → TellsFirst old (take i entries) → AddsEntry old e new → TellsFirst new (take (i + 1) entries)
tells_more old new entries i e lt is first adds =
    same_tells new _ _ _ _ _ _ _ _ (more acceptances) (more (λ said. length (records_of_note said)))
    (more took_of) (more lines_of_note) (adds _ _ _ _ first)
  where
    more : (number : ServerNote → ℕ) → in_notes number (take i entries) + of_note number e
        ≡ in_notes number (take (i + 1) entries)
    more number = sym (sum_by_more (of_note number) entries i e lt
        ∙ ap (λ (x : Entry ServerNote). in_notes number (take i entries) + of_note number x)
        (sym is))

pub summarizes : (summary : Summary) (entries : List (Entry ServerNote))
    → TellsFirst summary entries → Summarizes summary entries
summarizes summary entries t = same_tells summary _ _ _ _ _ _ _ _ refl refl refl
    (sym (lines_are entries)) t
