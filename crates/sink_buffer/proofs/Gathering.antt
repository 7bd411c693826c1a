-- Steps of a buffered sink.
use Rattle.std.proofs.Common.{◌≡◌, ◌≤◌, ◌<◌, ◌+◌, arith, ℕ, List, [], ◌++◌, length, Bool, true}
use Rattle.std.proofs.Common.{false, refl, sym, ◌∙◌, ap, append_assoc, append-nil, subst}
use Rattle.std.proofs.Common.{length-append}
use Rattle.ev_base.specs.Sink.{SinkFacts, GrowsBy}
use Rattle.sink_buffer.specs.Written.{IsPrefixOf, TakesAll, BreaksOff, WritesAll}
use Rattle.sink_buffer.specs.Gathers.{Gathers, HoldsBack, Since, Told, Held, HasPut, held_of}
use Rattle.sink_buffer.specs.Gathers.{is_broken, output_of}
use Rattle.sink_buffer.specs.declared.buffer.SinkBuffer.{SinkBuffer}
use Rattle.sink_buffer.proofs.Texts.{grows-none, grows-twice, prefix-behind, prefix-more}

-- nothing was written yet
pub holds-none : (now : SinkFacts) → HoldsBack now [] [] now
holds-none now = record {
  written = [];
  takes = record { text = grows-none now.text; faults = refl };
  all = refl;
}

-- more is held back
holds-more : (start now : SinkFacts) (held more put : List ℕ) → HoldsBack start held put now
    → HoldsBack start (held ++ more) (put ++ more) now
holds-more start now held more put h =
    record {
      written = h.written;
      takes = h.takes;
      all = sym (append_assoc h.written held more) ∙ ap (λ xs. xs ++ more) h.all;
    }

breaks-more : (start now : SinkFacts) (more put : List ℕ) → BreaksOff start put now
    → BreaksOff start (put ++ more) now
breaks-more start now more put b =
    record {
      front = b.front;
      is_front = prefix-more b.front put more b.is_front;
      text = b.text;
      rose = b.rose;
    }

-- more is held back, and the sink below is as it was
pub gathers-more : {K : Type 0} (facts : K → SinkFacts) (start : SinkFacts) (old new : SinkBuffer K)
    (put more : List ℕ) →
    held_of new ≡ held_of old ++ more → output_of new ≡ output_of old
    → is_broken new ≡ is_broken old →
    Gathers facts start old put → Gathers facts start new (put ++ more)
gathers-more facts start old new put more held output broken g =
    let same : facts (output_of new) ≡ facts (output_of old) = ap facts output in
    record {
      whole = λ b. rw (same, held) (holds-more start (facts (output_of old)) (held_of old) more put
          (g.whole (sym broken ∙ b)));
      front = λ b. rw same (breaks-more start (facts (output_of old)) more put
          (g.front (sym broken ∙ b)));
    }

-- what was held back was written
pub written-all : (start old new : SinkFacts) (held put : List ℕ) → HoldsBack start held put old
    → TakesAll old held new → HoldsBack start [] put new
written-all start old new held put h w = record {
  written = put;
  takes = record {
    text = subst (λ (bytes : List ℕ). GrowsBy start.text bytes new.text) h.all
        (grows-twice start.text old.text new.text h.written held h.takes.text w.text);
    faults = w.faults ∙ h.takes.faults;
  };
  all = append-nil put;
}

-- a front of it was
pub written-front : (start old new : SinkFacts) (held put : List ℕ) → HoldsBack start held put old
    → BreaksOff old held new → BreaksOff start put new
written-front start old new held put h b = record {
  front = h.written ++ b.front;
  is_front = subst (λ (whole : List ℕ). IsPrefixOf (h.written ++ b.front) whole) h.all
      (prefix-behind h.written b.front held b.is_front);
  text = grows-twice start.text old.text new.text h.written b.front h.takes.text b.text;
  rose = rw (← h.takes.faults) b.rose;
}

-- a flush of a buffer that is not broken
pub gathers-flushed : {K : Type 0} (facts : K → SinkFacts) (start : SinkFacts)
    (old new : SinkBuffer K) (put : List ℕ) (done : Bool) →
    is_broken old ≡ false → WritesAll (facts (output_of old)) (held_of old) done
    (facts (output_of new)) →
    held_of new ≡ [] → (done ≡ true → is_broken new ≡ false) → (done ≡ false → is_broken new ≡ true)
    →
    Gathers facts start old put → Gathers facts start new put
gathers-flushed facts start old new put true sound writes held whole front g = record {
  whole = λ b. rw held (written-all start (facts (output_of old)) (facts (output_of new))
      (held_of old) put (g.whole sound) writes);
  front = λ b. absurd (cc (whole refl));
}
gathers-flushed facts start old new put false sound writes held whole front g = record {
  whole = λ b. absurd (cc (front refl));
  front = λ b. written-front start (facts (output_of old)) (facts (output_of new)) (held_of old) put
      (g.whole sound) writes;
}

-- what was held back has its length
held-length : (now held put : List ℕ) → now ≡ held ++ put → length now ≡ length held + length put
held-length now held put h = ap length h ∙ length-append held put

-- bytes were put, room was made, and more were copied
pub stands-more : {K : Type 0} (facts : K → SinkFacts) (old room new : SinkBuffer K)
    (put more : List ℕ) (since : Since K) → 1 ≤ length more →
    ((start : SinkFacts) (text : List ℕ) → Gathers facts start old text
    → Gathers facts start room text) →
    (length (held_of old) < 8192 → held_of room ≡ held_of old)
    → (length (held_of old) < 8192 → output_of room ≡ output_of old) →
    held_of new ≡ held_of room ++ more → output_of new ≡ output_of room
    → is_broken new ≡ is_broken room →
    HasPut facts since old put → HasPut facts since new (put ++ more)
stands-more facts old room new put more (Told start) some text held output copied below broken h =
    gathers-more facts start room new put more copied below broken (text start put h)
stands-more facts old room new put more (Held first front) some text held output copied below broken
    h = record {
      fits = λ (fits : length front + length (put ++ more) ≤ 8192).
          let before = h.fits (omega (arith, fits, length-append put more)) in
          let free : length (held_of old) < 8192 =
          omega (
            arith,
            fits,
            some,
            length-append put more,
            held-length (held_of old) front put before.0,
          ) in (
            copied ∙ ap (λ xs. xs ++ more) (held free ∙ before.0) ∙ append_assoc front put more,
            below ∙ output free ∙ before.1,
          );
    }

-- nothing was put
pub stands-none : {K : Type 0} (facts : K → SinkFacts) (buffer : SinkBuffer K)
    → (since : Since K) (put : List ℕ) → HasPut facts since buffer put
    → HasPut facts since buffer (put ++ [])
stands-none facts buffer since put h =
    subst (λ (text : List ℕ). HasPut facts since buffer text) (sym (append-nil put)) h

-- if nothing is held back and no write failed, the sink below took all that was put
pub takes-all : {K : Type 0} (facts : K → SinkFacts) (o : SinkFacts) (sink : SinkBuffer K)
    (text : List ℕ) → Gathers facts o sink text → held_of sink ≡ [] → is_broken sink ≡ false
    → TakesAll o text (facts (output_of sink))
takes-all facts o sink text g none sound =
    let h = g.whole sound in
    subst (λ t. TakesAll o t (facts (output_of sink)))
    (sym (append-nil h.written) ∙ ap (λ xs. h.written ++ xs) (sym none) ∙ h.all) h.takes
