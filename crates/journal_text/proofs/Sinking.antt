-- A journal's sink that sees one more entry.
use Rattle.std.proofs.Common.{◌≡◌, ◌≤◌, ◌+◌, ◌-◌, ◌^◌, ℕ, min, arith, List, [], ◌∷◌, ◌++◌, take}
use Rattle.std.proofs.Common.{Bool, true, false, refl, sym, ap, ◌∙◌, subst, append-nil}
use Rattle.std.proofs.Common.{append_assoc, length-append}
use Rattle.std.proofs.lemmas.List.{take-append-le}
use Rattle.std.proofs.Math.Seq.{take-append_seam}
use Rattle.std.proofs.lemmas.Grind.{flat_map-append}
use Rattle.ev_base.specs.Counts.{Rose, counted}
use Rattle.ev_base.specs.Sink.{SinkFacts}
use Rattle.ev_base.specs.Terms.{Terms}
use Rattle.reactor_model.specs.reactor_journal.specs.declared.entry.Entry.{Entry}
use Rattle.sink_buffer.specs.Written.{IsPrefixOf, TakesAll}
use Rattle.sink_buffer.specs.Gathers.{Gathers, held_of, output_of}
use Rattle.sink_buffer.specs.declared.buffer.SinkBuffer.{SinkBuffer}
use Rattle.sink_buffer.proofs.Texts.{grows-none, grows-twice, prefix-behind, prefix-more}
use Rattle.log_handler.specs.declared.note.ServerNote.{ServerNote}
use Rattle.journal_text.specs.declared.journal_sink.JournalSink.{JournalSink}
use Rattle.journal_text.specs.Texts.{entry_line, entry_lines, most_line}
use Rattle.journal_text.specs.JournalSink.{PutsJournal, is_broken, text_so_far, has_begun}
use Rattle.journal_text.specs.JournalSink.{next_text}

-- ---- the text with one more entry

begun-more : (h : List (Entry ServerNote)) (e : Entry ServerNote) → has_begun (h ++ e ∷ []) ≡ true
begun-more [] e = refl
begun-more (x ∷ rest) e = refl

so_far-more : (most : ℕ) (h : List (Entry ServerNote)) (e : Entry ServerNote)
    → text_so_far most (h ++ e ∷ []) ≡ text_so_far most h ++ next_text most (has_begun h) e
so_far-more most [] e = ap (λ (lines : List ℕ). most_line most ++ lines) (append-nil (entry_line e))
so_far-more most (x ∷ rest) e =
    ap (λ (lines : List ℕ). most_line most ++ lines)
    (flat_map-append entry_line (x ∷ rest) (e ∷ [])
    ∙ ap (λ (lines : List ℕ). entry_lines (x ∷ rest) ++ lines) (append-nil (entry_line e)))
    ∙ sym (append_assoc (most_line most) (entry_lines (x ∷ rest)) (entry_line e))

-- ---- what the sink below took

-- nothing is held back: the sink took all that was put
taken : {K : Type 0} (facts : K → SinkFacts) (start : SinkFacts) (buffer : SinkBuffer K)
    (put : List ℕ) → Gathers facts start buffer put → held_of buffer ≡ [] →
    buffer.broken ≡ false → TakesAll start put (facts (output_of buffer))
taken facts start buffer put gathers held sound =
    let whole = gathers.whole sound in
    subst (λ (text : List ℕ). TakesAll start text (facts (output_of buffer)))
    (sym (append-nil whole.written) ∙ ap (λ (back : List ℕ). whole.written ++ back) (sym held)
    ∙ whole.all) whole.takes

-- nothing was put since its sink told what it tells, if no write failed and nothing is held back
gathers-here : {K : Type 0} (facts : K → SinkFacts) (buffer : SinkBuffer K) → held_of buffer ≡ []
    → buffer.broken ≡ false → Gathers facts (facts (output_of buffer)) buffer []
gathers-here facts buffer held sound = record {
  whole = λ _. record {
    written = [];
    takes = record { text = grows-none (facts (output_of buffer)).text; faults = refl };
    all = held;
  };
  front = λ broken. absurd (cc (sound, broken));
}

-- ---- one more entry

module _ {K : Type 0} (facts : K → SinkFacts) (t : Terms) (old : JournalSink K)
    (h : List (Entry ServerNote)) (e : Entry ServerNote) (p : PutsJournal facts t old h) where
  -- a sink that failed before
  pub saw-broken : is_broken old ≡ true → PutsJournal facts t old (h ++ e ∷ [])
  saw-broken was = record {
    start = p.start;
    opening = p.opening;
    faults = p.faults;
    most = p.most;
    put = record {
      whole = λ sound. absurd (cc (was, sound));
      front = λ broken. record {
        front = (p.put.front broken).front;
        is_front = subst (λ (text : List ℕ). IsPrefixOf (p.put.front broken).front text)
            (sym (so_far-more t.most h e))
            (prefix-more (p.put.front broken).front (text_so_far t.most h)
            (next_text t.most (has_begun h) e) (p.put.front broken).is_front);
        text = (p.put.front broken).text;
        rose = (p.put.front broken).rose;
      };
    };
    held = p.held;
    begun = λ sound. absurd (cc (was, sound));
    all_whole = λ sound. absurd (cc (was, sound));
    seen = omega (arith, p.seen, length-append h (e ∷ []));
    kept = λ broken. subst (λ (entries : List (Entry ServerNote)).
        IsPrefixOf (text_so_far t.most entries) (p.put.front broken).front)
        (sym (take-append-le old.whole h (e ∷ []) p.seen)) (p.kept broken);
  }

  module _ (new : JournalSink K) (sound : is_broken old ≡ false)
      (goes : (start : SinkFacts) (put : List ℕ) → Gathers facts start old.output put
      → Gathers facts start new.output (put ++ next_text old.most old.begun e))
      (held : held_of new.output ≡ []) (most : new.most ≡ old.most) (begun : new.begun ≡ true) where
    next-is : next_text old.most old.begun e ≡ next_text t.most (has_begun h) e
    next-is = ap (λ (n : ℕ). next_text n old.begun e) p.most
        ∙ ap (λ (b : Bool). next_text t.most b e) (p.begun sound)

    -- its line was written
    pub saw-whole : is_broken new ≡ false → new.whole ≡ old.whole + 1
        → PutsJournal facts t new (h ++ e ∷ [])
    saw-whole now count = record {
      start = p.start;
      opening = p.opening;
      faults = p.faults;
      most = most ∙ p.most;
      put = subst (λ (text : List ℕ). Gathers facts p.start new.output text)
          (ap (λ (line : List ℕ). text_so_far t.most h ++ line) next-is
          ∙ sym (so_far-more t.most h e)) (goes p.start (text_so_far t.most h) p.put);
      held = held;
      begun = λ _. begun ∙ sym (begun-more h e);
      all_whole = λ _. omega (arith, count, p.all_whole sound, length-append h (e ∷ []));
      seen = omega (arith, count, p.all_whole sound, length-append h (e ∷ []));
      kept = λ broken. absurd (cc (now, broken));
    }

    -- a write of it failed
    pub saw-failed : is_broken new ≡ true → new.whole ≡ old.whole
        → PutsJournal facts t new (h ++ e ∷ [])
    saw-failed now count =
        let before = taken facts p.start old.output (text_so_far t.most h) p.put p.held sound in
        let last = (goes (facts (output_of old.output)) []
        (gathers-here facts old.output p.held sound)).front now in
        record {
          start = p.start;
          opening = p.opening;
          faults = p.faults;
          most = most ∙ p.most;
          put = record {
            whole = λ whole. absurd (cc (now, whole));
            front = λ broken. record {
              front = text_so_far t.most h ++ last.front;
              is_front = subst (λ (text : List ℕ).
                  IsPrefixOf (text_so_far t.most h ++ last.front) text)
                  (ap (λ (line : List ℕ). text_so_far t.most h ++ line) next-is
                  ∙ sym (so_far-more t.most h e))
                  (prefix-behind (text_so_far t.most h) last.front (next_text old.most old.begun e)
                  last.is_front);
              text = grows-twice p.start.text (facts (output_of old.output)).text
                  (facts (output_of new.output)).text (text_so_far t.most h) last.front before.text
                  last.text;
              rose = last.rose ∙ ap counted before.faults;
            };
          };
          held = held;
          begun = λ _. begun ∙ sym (begun-more h e);
          all_whole = λ whole. absurd (cc (now, whole));
          seen = omega (arith, count, p.all_whole sound, length-append h (e ∷ []));
          kept = λ broken. subst (λ (entries : List (Entry ServerNote)).
              IsPrefixOf (text_so_far t.most entries) (text_so_far t.most h ++ last.front))
              (sym (ap (λ (n : ℕ). take n (h ++ e ∷ [])) (count ∙ p.all_whole sound)
              ∙ take-append_seam h (e ∷ []))) (last.front, refl);
        }

-- ---- the count of faults

-- what is held back was put since its sink told what it tells, if no write failed
gathers-now : {K : Type 0} (facts : K → SinkFacts) (buffer : SinkBuffer K) → buffer.broken ≡ false
    → Gathers facts (facts (output_of buffer)) buffer (held_of buffer)
gathers-now facts buffer sound = record {
  whole = λ _. record {
    written = [];
    takes = record { text = grows-none (facts (output_of buffer)).text; faults = refl };
    all = refl;
  };
  front = λ broken. absurd (cc (sound, broken));
}

module _ {K : Type 0} (facts : K → SinkFacts) (old new : SinkBuffer K) (text : List ℕ)
    (sound : old.broken ≡ false)
    (goes : (start : SinkFacts) (put : List ℕ) → Gathers facts start old put
    → Gathers facts start new (put ++ text)) where
  -- no write failed
  pub later-whole : new.broken ≡ false
      → min (facts (output_of old)).faults (2 ^ 64 - 1)
      ≤ min (facts (output_of new)).faults (2 ^ 64 - 1)
  later-whole now =
      let same : (facts (output_of new)).faults ≡ (facts (output_of old)).faults =
      ((goes (facts (output_of old)) (held_of old) (gathers-now facts old sound)).whole
      now).takes.faults in omega arith

  -- a write failed
  pub breaks-now : new.broken ≡ true
      → Rose (min (facts (output_of old)).faults (2 ^ 64 - 1))
      (min (facts (output_of new)).faults (2 ^ 64 - 1))
  breaks-now now =
      let rose : (facts (output_of new)).faults
      ≡ min ((facts (output_of old)).faults + 1) (2 ^ 64 - 1) =
      ((goes (facts (output_of old)) (held_of old) (gathers-now facts old sound)).front
      now).rose in omega arith

  pub later-failed : new.broken ≡ true
      → min (facts (output_of old)).faults (2 ^ 64 - 1)
      ≤ min (facts (output_of new)).faults (2 ^ 64 - 1)
  later-failed now =
      let rose : (facts (output_of new)).faults
      ≡ min ((facts (output_of old)).faults + 1) (2 ^ 64 - 1) =
      ((goes (facts (output_of old)) (held_of old) (gathers-now facts old sound)).front
      now).rose in omega arith
