-- From what an output that wrote behind was given to what the output below has.
use Rattle.std.proofs.Common.{◌≡◌, ℕ, Bool, true, false, List, [], ◌++◌, Option, Some, None}
use Rattle.std.proofs.Common.{refl, sym, ap, ◌∙◌, subst, append-nil, append_assoc, ◌<◌}
use Rattle.std.proofs.Common.{inl, inr, ⊎_elim}
use Rattle.std.proofs.lemmas.List.{append_cancel_left}
use Rattle.ev_base.specs.Sink.{SinkFacts, GrowsBy}
use Rattle.ev_base.specs.Net.{NetFacts}
use Rattle.ev_base.specs.Terms.{Terms}
use Rattle.server_run.specs.sink_buffer.specs.Written.{IsPrefixOf, TakesAll, BreaksOff, WritesAll}
use Rattle.server_run.specs.sink_buffer.specs.Written.{TookAll, TookFront}
use Rattle.server_run.specs.log_handler.specs.Notes.{journal_lines}
use Rattle.server_run.specs.log_handler.specs.LineSink.{LineSink}
use Rattle.server_run.specs.log_handler.specs.declared.note.ServerNote.{ServerNote}
use Rattle.server_run.specs.reactor_journal.specs.declared.entry.Entry.{Entry}
use Rattle.server_run.specs.reactor_model.specs.Handling.{Handling}
use Rattle.server_run.specs.reactor_model.specs.Volumes.{VolumesFacts}
use Rattle.server_run.specs.reactor_core.specs.Stands.{Meaning, meaning}
use Rattle.server_run.specs.reactor_state.specs.declared.places.Places.{Places}
use Rattle.server_run.specs.reactor_state.specs.declared.places.Pick.{Pick}
use Rattle.server_run.specs.reactor_state.specs.declared.state.ReactorState.{ReactorState}
use Rattle.server_run.specs.reactor_summary.specs.Summary.{Summary}
use Rattle.write_behind.specs.Facts.{Taken, grown, counted_on, behind_facts}
use Rattle.server_run.specs.Journals.{IsRun}
use Rattle.server_run.specs.Served.{CameSo}
use Rattle.server_run.specs.declared.asked.Asked.{Asked}
use Rattle.server_run.proofs.Came.{came_as}
use Rattle.cmd_serve.specs.Leading.{LedSo, behind}
use Rattle.cmd_serve.specs.declared.ending.HostEnd.{HostEnd}
use Rattle.cmd_serve.specs.declared.ending.HostEnd.TheVariants as end
use Rattle.cmd_serve.specs.declared.ending.HostServed.{HostServed}
use Rattle.cmd_serve.specs.Leaving.{LeavesHost, OutputTook, RunsOverNet, RunsWhereGiven, told_end}
use Rattle.cmd_serve.proofs.Leaves.{grown as grown_from}

abbrev facts_of : ℕ → Option (List ℕ) → SinkFacts
facts_of faults text = record { faults = faults; text = text }

-- nothing was put
grown_none : (text : Option (List ℕ)) → grown text [] ≡ text
grown_none None = refl
grown_none (Some text) = ap Some (append-nil text)

pub starts_so : (facts : SinkFacts) → behind_facts facts (record { put = []; refused = 0 }) ≡ facts
starts_so facts = ap (facts_of facts.faults) (grown_none facts.text)

-- all was taken, and is told
grown_text : (text new : Option (List ℕ)) (put : List ℕ) → GrowsBy text put new
    → new ≡ grown text put
grown_text None None put g = refl
grown_text None (Some new) put g = absurd g
grown_text (Some text) None put g = absurd g
grown_text (Some text) (Some new) put g = ap Some g

told_whole : (facts now : SinkFacts) (w : Taken) → w.refused ≡ 0 → TakesAll facts w.put now
    → now ≡ behind_facts facts w
told_whole facts now w none t =
    ap (facts_of now.faults) (grown_text facts.text now.text w.put t.text)
    ∙ ap (λ (n : ℕ). facts_of n (grown facts.text w.put))
    (t.faults ∙ ap (counted_on facts.faults) (sym none))

-- ---- a front was taken

some_same : (a b : List ℕ) → ◌≡◌ {A = Option (List ℕ)} (Some a) (Some b) → a ≡ b
some_same a b q = cc

prefix_twice : (a b c : List ℕ) → IsPrefixOf a b → IsPrefixOf b c → IsPrefixOf a c
prefix_twice a b c p q =
    (p.0 ++ q.0, q.1 ∙ ap (λ l. l ++ q.0) p.1 ∙ append_assoc a p.0 q.0)

module _ (facts : SinkFacts) (w : Taken) (lines start : List ℕ) (told : facts.text ≡ Some start)
  where
    text_is : grown facts.text w.put ≡ Some (start ++ w.put)
    text_is = ap (λ (t : Option (List ℕ)). grown t w.put) told

    by-all : TookAll facts lines (behind_facts facts w) → IsPrefixOf w.put lines
    by-all t =
        let same = some_same _ _ (sym (t.text start told) ∙ text_is) in
        ([], append_cancel_left start lines w.put same ∙ sym (append-nil w.put))

    by-front : TookFront facts lines (behind_facts facts w) → IsPrefixOf w.put lines
    by-front t =
        let same = some_same _ _ (sym (t.text start told) ∙ text_is) in
        subst (λ (put : List ℕ). IsPrefixOf put lines)
        (append_cancel_left start t.front w.put same) t.is_front

    put_first : (how : HostEnd) → OutputTook how facts lines (behind_facts facts w)
        → IsPrefixOf w.put lines
    put_first end.WriteFault t = by-front t
    put_first end.Done t = by-all t
    put_first end.NetFault t = by-all t
    put_first end.NoMemory t = by-all t
    put_first end.ListenFault t = by-all t
    put_first end.VolumeFault t = by-all t

module _ (facts now : SinkFacts) (w : Taken) (lines : List ℕ) (how : HostEnd)
    (t : OutputTook how facts lines (behind_facts facts w)) (b : BreaksOff facts w.put now) where
  took_front : (text : Option (List ℕ)) → facts.text ≡ text → TookFront facts lines now
  took_front None none = record {
    front = [];
    is_front = (lines, refl);
    text = λ start told. absurd (let q = sym none ∙ told in cc);
    one_failed = b.rose;
  }
  took_front (Some first) is = record {
    front = b.front;
    is_front = prefix_twice b.front w.put lines b.is_front (put_first facts w lines first is how t);
    text = λ start told. grown_from facts.text now.text b.front start told b.text;
    one_failed = b.rose;
  }

  broke_off : TookFront facts lines now
  broke_off = took_front facts.text refl

-- ---- what is left

module _ {H M Q W V E : Type 0} (means : Handling H E ServerNote) (net_facts : M → NetFacts E)
    (keeps : Terms → M → Type 0) (shows : ReactorState Q → Summary → Type 0)
    (places : Places → ReactorState Q → Type 0) (placed : ReactorState Q → Pick → Type 0)
    (watched : Terms → W → List (Entry ServerNote) → Type 0) (faults : W → ℕ) (broken : W → Bool)
    (count : W → ℕ) (volumes : V → VolumesFacts ServerNote) where
  abbrev m2 : Meaning H M Q W V ServerNote E
  m2 = meaning means net_facts keeps shows places placed watched faults broken count volumes

  abbrev m1 : SinkFacts → Meaning H M Q (LineSink Taken) V ServerNote E
  m1 o = behind m2 o

  -- the run is the same, also if a failed write is told in place of its end
  run_below : (t : Terms) (asked : Asked) (o : SinkFacts) → 1 < asked.workers → (whole : Bool)
      (net : M) (how : HostEnd) (journal : List (Entry ServerNote))
      → RunsOverNet (m1 o) t asked o net how journal
      → RunsOverNet m2 t asked o net (told_end whole how) journal
  run_below t asked o several whole net how journal r = by-whole whole
    where
      came : CameSo r.ending journal (IsRun means t asked.until (net_facts net) r.ending journal)
          (LedSo m2 t asked o r.ending journal)
      came = came_as r.ending journal (λ run. run)
          (λ led. inr (several, ⊎_elim (λ one. one) (λ more. more.1) led)) r.came

      by-whole : (whole : Bool) → RunsOverNet m2 t asked o net (told_end whole how) journal
      by-whole true = record {
        ending = r.ending;
        named = r.named;
        came = came;
        stands = r.stands;
        keeps = r.keeps;
        failed = r.failed;
      }
      by-whole false = record {
        ending = r.ending;
        named = inl refl;
        came = came;
        stands = r.stands;
        keeps = r.keeps;
        failed = tt;
      }

  given_below : (t : Terms) (asked : Asked) (o : SinkFacts) → 1 < asked.workers → (whole : Bool)
      (net : Option M) (how : HostEnd) (journal : List (Entry ServerNote)) → (net ≡ None → ⊥)
      → RunsWhereGiven (m1 o) t asked o net how journal
      → RunsWhereGiven m2 t asked o net (told_end whole how) journal
  given_below t asked o several whole None how journal given r = absurd (given refl)
  given_below t asked o several whole (Some net) how journal given r =
      run_below t asked o several whole net how journal r

  module _ {K : Type 0} (sink : K → SinkFacts) (facts : SinkFacts) (old : HostServed M Taken V)
      (output : K) (given : old.net ≡ None → ⊥) where
    lines_below : (whole : Bool) (lines : List ℕ)
        → WritesAll facts old.output.put whole (sink output)
        → (whole ≡ true → old.output.refused ≡ 0)
        → OutputTook old.end facts lines (behind_facts facts old.output)
        → OutputTook (told_end whole old.end) facts lines (sink output)
    lines_below true lines w none took =
        subst (λ (f : SinkFacts). OutputTook old.end facts lines f)
        (sym (told_whole facts (sink output) old.output (none refl) w)) took
    lines_below false lines w none took =
        broke_off facts (sink output) old.output lines old.end took w

    abbrev left_below : HostEnd → HostServed M K V
    left_below how = record {
      end = how;
      journal = old.journal;
      first = old.first;
      net = old.net;
      output = output;
      volumes = old.volumes;
    }

    leaves_below : (t : Terms) (asked : Asked) → 1 < asked.workers → (whole : Bool)
        → WritesAll facts old.output.put whole (sink output)
        → (whole ≡ true → old.output.refused ≡ 0)
        → LeavesHost (m1 facts) (behind_facts facts) t asked facts old
        → LeavesHost m2 sink t asked facts (left_below (told_end whole old.end))
    leaves_below t asked several whole w none l = record {
      journal = l.journal;
      is = record { within = l.is.within; held = l.is.held; taken = l.is.taken };
      filled = l.filled;
      run = given_below t asked facts several whole old.net old.end l.journal given l.run;
      lines = lines_below whole (journal_lines l.journal) w none l.lines;
    }

    -- the same, for an output that told `o` at the start, and the one that wrote behind `first`
    pub leaves_from : (terms : SinkFacts → Terms) (asked : Asked) (first o : SinkFacts)
        (whole : Bool) (how : HostEnd) → first ≡ facts → o ≡ facts → how ≡ told_end whole old.end
        → 1 < asked.workers → WritesAll facts old.output.put whole (sink output)
        → (whole ≡ true → old.output.refused ≡ 0)
        → LeavesHost (m1 facts) (behind_facts facts) (terms first) asked first old
        → LeavesHost m2 sink (terms o) asked o (left_below how)
    leaves_from terms asked first o whole how began is ends several w none l =
        let below = subst (λ (x : SinkFacts).
        LeavesHost (m1 facts) (behind_facts facts) (terms x) asked x old) began l in
        subst (λ (x : SinkFacts). LeavesHost m2 sink (terms x) asked x (left_below how)) (sym is)
        (subst (λ (e : HostEnd). LeavesHost m2 sink (terms facts) asked facts (left_below e))
        (sym ends) (leaves_below (terms facts) asked several whole w none below))
