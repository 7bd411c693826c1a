-- What a sink took whose watch writes the lines of connections.
use Rattle.std.proofs.Common.{◌≡◌, ℕ, Bool, true, false, List, [], ◌++◌, Option, Some, None}
use Rattle.std.proofs.Common.{sym, ap, ◌∙◌, subst, append-nil}
use Rattle.ev_base.specs.Counts.{counted}
use Rattle.ev_base.specs.Sink.{SinkFacts, GrowsBy}
use Rattle.ev_base.specs.Terms.{Terms}
use Rattle.sink_buffer.specs.Written.{TookAll}
use Rattle.reactor_model.specs.reactor_journal.specs.declared.entry.Entry.{Entry}
use Rattle.aio_lines.specs.Lines.{journal_lines}
use Rattle.aio_lines.specs.Watch.{ConnectionLines, PutsLines, is_broken, sink_of}
use Rattle.proactor.specs.declared.service.AioNote.{AioNote}
use Rattle.cmd_aio.specs.Finishing.{TookLines}

grown : (start now : Option (List ℕ)) (bytes opening : List ℕ) → start ≡ Some opening
    → GrowsBy start bytes now → now ≡ Some (opening ++ bytes)
grown start now bytes opening is grows =
    by_now now (subst (λ (s : Option (List ℕ)). GrowsBy s bytes now) is grows)
  where
    by_now : (now : Option (List ℕ)) → GrowsBy (Some opening) bytes now
        → now ≡ Some (opening ++ bytes)
    by_now None grows = absurd grows
    by_now (Some text) grows = ap Some grows

module _ {K : Type 0} (facts : K → SinkFacts) (t : Terms) (sink : ConnectionLines K)
    (h : List (Entry AioNote)) (p : PutsLines facts t sink h) (o : SinkFacts)
    (opens : t.opening ≡ o.text) (faults : t.output_faults ≡ Some o.faults) where
  pub took_lines : (b : Bool) → is_broken sink ≡ b
      → TookLines b o (journal_lines h) (facts (sink_of sink))
  took_lines true is =
      let off = p.put.front is in
      record {
        front = off.front;
        is_front = off.is_front;
        text = λ opening told. grown p.start.text (facts (sink_of sink)).text off.front opening
            (p.opening opening (opens ∙ told)) off.text;
        one_failed = off.rose ∙ ap counted (p.faults o.faults faults);
      }
  took_lines false is =
      let all = p.put.whole is in
      record {
        text = λ opening told. grown p.start.text (facts (sink_of sink)).text (journal_lines h)
            opening (p.opening opening (opens ∙ told)) all.text;
        faults = all.faults ∙ p.faults o.faults faults;
      }

-- nothing was written
pub took_nothing : (o p : SinkFacts) → p ≡ o → TookAll o [] p
took_nothing o p same = record {
  text = λ opening told. ap (λ (s : SinkFacts). s.text) same ∙ (told
      ∙ ap Some (sym (append-nil opening)));
  faults = ap (λ (s : SinkFacts). s.faults) same;
}

-- the same of a sink that is this one
pub same_sink : {K : Type 0} (facts : K → SinkFacts) (b : Bool) (o : SinkFacts) (lines : List ℕ)
    (k l : K) → k ≡ l → TookLines b o lines (facts l) → TookLines b o lines (facts k)
same_sink {K} facts b o lines k l same took =
    subst (λ (x : K). TookLines b o lines (facts x)) (sym same) took
