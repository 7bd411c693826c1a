-- What a sink of lines wrote, entry by entry, and its count of faults.
use Rattle.std.proofs.Common.{◌≡◌, ◌≤◌, ◌+◌, ◌-◌, ◌^◌, ℕ, min, arith, List, [], ◌∷◌, ◌++◌, take}
use Rattle.std.proofs.Common.{flat_map, Bool, true, false, refl, sym, ap, ◌∙◌, subst, append-nil}
use Rattle.std.proofs.Common.{length-append}
use Rattle.std.proofs.lemmas.List.{take-append-le}
use Rattle.std.proofs.Math.Seq.{take-append_seam}
use Rattle.std.proofs.lemmas.Grind.{flat_map-append}
use Rattle.ev_base.specs.Counts.{Rose, counted}
use Rattle.ev_base.specs.Sink.{SinkFacts}
use Rattle.ev_base.specs.Terms.{Terms}
use Rattle.reactor_model.specs.reactor_journal.specs.declared.entry.Entry.{Entry}
use Rattle.sink_buffer.specs.Texts.{Puts}
use Rattle.sink_buffer.specs.Written.{IsPrefixOf}
use Rattle.sink_buffer.specs.Direct.{HasWritten, is_broken, output_of}
use Rattle.sink_buffer.specs.declared.direct.DirectSink.{DirectSink}
use Rattle.sink_buffer.proofs.Texts.{grows-none, grows-twice, prefix-behind, prefix-more}
use Rattle.line_sink.specs.declared.sink.LineSink.{LineSink}
use Rattle.line_sink.specs.LineSink.{PutsLines}

-- nothing was put since its sink told what it tells, if no write failed
written-here : {K : Type 0} (facts : K → SinkFacts) (sink : DirectSink K) → is_broken sink ≡ false
    → HasWritten facts (facts (output_of sink)) sink []
written-here facts sink sound = record {
  whole = λ b. record { text = grows-none (facts (output_of sink)).text; faults = refl };
  front = λ b. absurd (cc (sound, b));
}

-- ---- one more entry

lines-more : {N : Type 0} (lines : Entry N → List ℕ) (h : List (Entry N)) (e : Entry N)
    → flat_map lines (h ++ e ∷ []) ≡ flat_map lines h ++ lines e
lines-more lines h e = flat_map-append lines h (e ∷ [])
    ∙ ap (λ (text : List ℕ). flat_map lines h ++ text) (append-nil (lines e))

module _ {N K P : Type 0} (lines : Entry N → List ℕ) (facts : K → SinkFacts) (t : Terms)
    (old : LineSink K P) (h : List (Entry N)) (e : Entry N)
    (p : PutsLines lines facts t old h) where
  -- a sink that failed before
  pub saw-broken : is_broken old.output ≡ true → PutsLines lines facts t old (h ++ e ∷ [])
  saw-broken was = record {
    start = p.start;
    opening = p.opening;
    faults = p.faults;
    put = record {
      whole = λ sound. absurd (cc (was, sound));
      front = λ broken. record {
        front = (p.put.front broken).front;
        is_front = subst (λ (text : List ℕ). IsPrefixOf (p.put.front broken).front text)
            (sym (lines-more lines h e)) (prefix-more (p.put.front broken).front (flat_map lines h)
            (lines e) (p.put.front broken).is_front);
        text = (p.put.front broken).text;
        rose = (p.put.front broken).rose;
      };
    };
    all_whole = λ sound. absurd (cc (was, sound));
    seen = omega (arith, p.seen, length-append h (e ∷ []));
    kept = λ broken. subst (λ (entries : List (Entry N)).
        IsPrefixOf (flat_map lines entries) (p.put.front broken).front)
        (sym (take-append-le old.whole h (e ∷ []) p.seen)) (p.kept broken);
  }

  module _ (new : LineSink K P) (sound : is_broken old.output ≡ false)
      (puts : Puts (HasWritten facts) old.output (lines e) new.output) where
    -- its lines were written
    pub saw-whole : is_broken new.output ≡ false → new.whole ≡ old.whole + 1
        → PutsLines lines facts t new (h ++ e ∷ [])
    saw-whole now count = record {
      start = p.start;
      opening = p.opening;
      faults = p.faults;
      put = subst (λ (text : List ℕ). HasWritten facts p.start new.output text)
          (sym (lines-more lines h e)) (puts p.start (flat_map lines h) p.put);
      all_whole = λ _. omega (arith, count, p.all_whole sound, length-append h (e ∷ []));
      seen = omega (arith, count, p.all_whole sound, length-append h (e ∷ []));
      kept = λ broken. absurd (cc (now, broken));
    }

    -- a write of them failed
    pub saw-failed : is_broken new.output ≡ true → new.whole ≡ old.whole
        → PutsLines lines facts t new (h ++ e ∷ [])
    saw-failed now count =
        let before = p.put.whole sound in
        let last = (puts (facts (output_of old.output)) []
        (written-here facts old.output sound)).front now in
        record {
          start = p.start;
          opening = p.opening;
          faults = p.faults;
          put = record {
            whole = λ whole. absurd (cc (now, whole));
            front = λ broken. record {
              front = flat_map lines h ++ last.front;
              is_front = subst (λ (text : List ℕ).
                  IsPrefixOf (flat_map lines h ++ last.front) text) (sym (lines-more lines h e))
                  (prefix-behind (flat_map lines h) last.front (lines e) last.is_front);
              text = grows-twice p.start.text (facts (output_of old.output)).text
                  (facts (output_of new.output)).text (flat_map lines h) last.front before.text
                  last.text;
              rose = last.rose ∙ ap counted before.faults;
            };
          };
          all_whole = λ whole. absurd (cc (now, whole));
          seen = omega (arith, count, p.all_whole sound, length-append h (e ∷ []));
          kept = λ broken. subst (λ (entries : List (Entry N)).
              IsPrefixOf (flat_map lines entries) (flat_map lines h ++ last.front))
              (sym (ap (λ (n : ℕ). take n (h ++ e ∷ [])) (count ∙ p.all_whole sound)
              ∙ take-append_seam h (e ∷ []))) (last.front, refl);
        }

-- ---- the count of faults

-- the count of faults after text was put
pub later-more : {K : Type 0} (facts : K → SinkFacts) (old new : DirectSink K) (text : List ℕ)
    (broken : Bool) → is_broken old ≡ false → is_broken new ≡ broken →
    Puts (HasWritten facts) old text new
    → min (facts (output_of old)).faults (2 ^ 64 - 1)
    ≤ min (facts (output_of new)).faults (2 ^ 64 - 1)
later-more facts old new text false sound is puts =
    let same : (facts (output_of new)).faults ≡ (facts (output_of old)).faults =
    ((puts (facts (output_of old)) [] (written-here facts old sound)).whole is).faults in
    omega arith
later-more facts old new text true sound is puts =
    let rose : (facts (output_of new)).faults
    ≡ min ((facts (output_of old)).faults + 1) (2 ^ 64 - 1) =
    ((puts (facts (output_of old)) [] (written-here facts old sound)).front is).rose in
    omega arith

pub breaks-more : {K : Type 0} (facts : K → SinkFacts) (old new : DirectSink K) (text : List ℕ)
    → is_broken old ≡ false → is_broken new ≡ true →
    Puts (HasWritten facts) old text new
    → Rose (min (facts (output_of old)).faults (2 ^ 64 - 1))
    (min (facts (output_of new)).faults (2 ^ 64 - 1))
breaks-more facts old new text sound is puts =
    let rose : (facts (output_of new)).faults
    ≡ min ((facts (output_of old)).faults + 1) (2 ^ 64 - 1) =
    ((puts (facts (output_of old)) [] (written-here facts old sound)).front is).rose in
    omega arith
