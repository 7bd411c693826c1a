-- What a watch or a buffer wrote is what a run writes.
use Rattle.std.proofs.Common.{◌≡◌, ◌∙◌, ℕ, Bool, true, false, List, [], ◌++◌, Option, Some, None}
use Rattle.std.proofs.Common.{refl, sym, ap, subst}
use Rattle.std.proofs.lemmas.List.{append-nil}
use Rattle.ev_base.specs.Counts.{counted}
use Rattle.ev_base.specs.Sink.{SinkFacts, GrowsBy}
use Rattle.ev_base.specs.Terms.{Terms}
use Rattle.server_run.specs.sink_buffer.specs.Written.{TakesAll, BreaksOff, TookAll, TookFront}
use Rattle.server_run.specs.sink_buffer.specs.Gathers.{HoldsBack}
use Rattle.server_run.specs.reactor_journal.specs.declared.entry.Entry.{Entry}
use Rattle.server_run.specs.log_handler.specs.declared.note.ServerNote.{ServerNote}
use Rattle.server_run.specs.log_handler.specs.LineSink.{LineSink}
use Rattle.server_run.specs.log_handler.specs.LineSink as lines
use Rattle.server_run.specs.log_handler.specs.Notes.{journal_lines}
use Rattle.journal_text.specs.declared.journal_sink.JournalSink.{JournalSink}
use Rattle.journal_text.specs.JournalSink as journals
use Rattle.server_run.specs.declared.ending.Ending.{Ending}
use Rattle.server_run.specs.declared.ending.Ending.TheVariants as ending
use Rattle.cmd_replay.specs.Outputs.{WritesAlong}
use Rattle.cmd_replay.specs.Replays.{end_by}

grown : (bytes start : List ℕ) (a b : Option (List ℕ)) → a ≡ Some start → GrowsBy a bytes b
    → b ≡ Some (start ++ bytes)
grown bytes start a b is grows = from-start b
    (subst (λ (a : Option (List ℕ)). GrowsBy a bytes b) is grows)
  where
    from-start : (b : Option (List ℕ)) → GrowsBy (Some start) bytes b → b ≡ Some (start ++ bytes)
    from-start None grows = absurd grows
    from-start (Some new) grows = ap Some grows

-- the text and the count of a sink at the start are those of an output that told o
pub record StartsAs (o start : SinkFacts) : Type 0 where
  pub text : (text : List ℕ) → o.text ≡ Some text → start.text ≡ Some text
  pub faults : start.faults ≡ o.faults

pub same_start : (o : SinkFacts) → StartsAs o o
same_start o = record { text = λ text told. told; faults = refl }

pub took-all : (o start p : SinkFacts) (bytes : List ℕ) → StartsAs o start → TakesAll start bytes p
    → TookAll o bytes p
took-all o start p bytes s takes =
    record {
      text = λ text told. grown bytes text start.text p.text (s.text text told) takes.text;
      faults = takes.faults ∙ s.faults;
    }

pub took-front : (o start p : SinkFacts) (bytes : List ℕ) → StartsAs o start
    → BreaksOff start bytes p → TookFront o bytes p
took-front o start p bytes s breaks = record {
  front = breaks.front;
  is_front = breaks.is_front;
  text = λ text told. grown breaks.front text start.text p.text (s.text text told) breaks.text;
  one_failed = breaks.rose ∙ ap counted s.faults;
}

-- all was taken of what a watch put that did not break, and else a front
pub record TookBy (broken : Bool) (o : SinkFacts) (bytes : List ℕ) (p : SinkFacts) : Type 0 where
  pub all : broken ≡ false → TookAll o bytes p
  pub front : broken ≡ true → TookFront o bytes p

pub by-lines : {K : Type 0} (facts : K → SinkFacts) (t : Terms) (o : SinkFacts) (sink : LineSink K)
    (h : List (Entry ServerNote)) → t.opening ≡ o.text → t.output_faults ≡ Some o.faults
    → lines.PutsLines facts t sink h → TookBy (lines.is_broken sink) o (journal_lines h)
    (facts (lines.sink_of sink))
by-lines facts t o sink h opening faults puts =
    let s : StartsAs o puts.start = record {
      text = λ text told. puts.opening text (opening ∙ told);
      faults = puts.faults o.faults faults;
    } in
    record {
      all = λ whole. took-all o puts.start _ _ s (puts.put.whole whole);
      front = λ broken. took-front o puts.start _ _ s (puts.put.front broken);
    }

held-none : (start p : SinkFacts) (held put : List ℕ) → held ≡ [] → HoldsBack start held put p
    → TakesAll start put p
held-none start p held put none holds =
    subst (λ (bytes : List ℕ). TakesAll start bytes p)
    (sym (append-nil holds.written) ∙ ap (λ (held : List ℕ). holds.written ++ held) (sym none)
    ∙ holds.all) holds.takes

pub by-journal : {K : Type 0} (facts : K → SinkFacts) (t : Terms) (o : SinkFacts)
    (sink : JournalSink K) (h : List (Entry ServerNote)) → t.opening ≡ o.text
    → t.output_faults ≡ Some o.faults
    → journals.PutsJournal facts t sink h
    → TookBy (journals.is_broken sink) o (journals.text_so_far t.most h)
    (facts (journals.sink_of sink))
by-journal facts t o sink h opening faults puts =
    let s : StartsAs o puts.start = record {
      text = λ text told. puts.opening text (opening ∙ told);
      faults = puts.faults o.faults faults;
    } in
    record {
      all = λ whole. took-all o puts.start _ _ s
          (held-none puts.start _ _ _ puts.held (puts.put.whole whole));
      front = λ broken. took-front o puts.start _ _ s (puts.put.front broken);
    }

-- a run that wrote as it went
pub writes-along : (broken : Bool) (how : Ending) (o : SinkFacts) (bytes : List ℕ) (p : SinkFacts)
    → TookBy broken o bytes p → WritesAlong (end_by broken how) o bytes p
writes-along true how o bytes p took = took.front refl
writes-along false ending.Over o bytes p took = took.all refl
writes-along false ending.Notified o bytes p took = took.all refl
writes-along false ending.VolumeFault o bytes p took = took.all refl
writes-along false ending.NoMemory o bytes p took = took.all refl
writes-along false ending.Broken o bytes p took = took.all refl
writes-along false ending.NotAttached o bytes p took = took.all refl
writes-along false ending.NetFault o bytes p took = took.all refl
