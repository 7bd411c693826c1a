-- Steps of a buffer before a lent sink.
use Rattle.std.proofs.Common.{◌≡◌, ◌∙◌, ℕ, List, [], ◌++◌, Bool, true, false, not, sym, ap, subst}
use Rattle.std.proofs.Common.{append_assoc, append-nil}
use Rattle.ev_base.specs.Sink.{SinkFacts}
use Rattle.sink_buffer.specs.Written.{BreaksOff, WritesAll}
use Rattle.sink_buffer.specs.Gathers.{HoldsBack}
use Rattle.sink_buffer.proofs.Texts.{prefix-more}
use Rattle.sink_buffer.proofs.Gathering.{holds-none, written-all, written-front}
use Rattle.journal_text.specs.Held.{held_in}
use Rattle.journal_text.specs.Lent.{Gathers}
use Rattle.journal_text.specs.declared.lent.buffer.LentBuffer.{LentBuffer}

-- nothing was put yet
pub nothing_put : {K : Type 0} (facts : K → SinkFacts) (buffer : LentBuffer K)
    → held_in buffer.held ≡ [] → buffer.broken ≡ false
    → Gathers facts (facts buffer.sink.now) buffer []
nothing_put facts buffer none sound = record {
  whole = λ _. rw none (holds-none (facts buffer.sink.now));
  front = λ broken. absurd (cc (sound, broken));
}

more_held : (start now : SinkFacts) (held more put : List ℕ) → HoldsBack start held put now
    → HoldsBack start (held ++ more) (put ++ more) now
more_held start now held more put h =
    record {
      written = h.written;
      takes = h.takes;
      all = sym (append_assoc h.written held more) ∙ ap (λ (xs : List ℕ). xs ++ more) h.all;
    }

more_lost : (start now : SinkFacts) (more put : List ℕ) → BreaksOff start put now
    → BreaksOff start (put ++ more) now
more_lost start now more put b = record {
  front = b.front;
  is_front = prefix-more b.front put more b.is_front;
  text = b.text;
  rose = b.rose;
}

-- more is held back
pub holds_more : {K : Type 0} (facts : K → SinkFacts) (start : SinkFacts) (old new : LentBuffer K)
    (put more : List ℕ) → held_in new.held ≡ held_in old.held ++ more
    → facts new.sink.now ≡ facts old.sink.now
    → new.broken ≡ old.broken → Gathers facts start old put → Gathers facts start new (put ++ more)
holds_more facts start old new put more held same broken g = record {
  whole = λ b. rw (same, held) (more_held start (facts old.sink.now) (held_in old.held) more put
      (g.whole (sym broken ∙ b)));
  front = λ b. rw same (more_lost start (facts old.sink.now) more put (g.front (sym broken ∙ b)));
}

-- what was held back was written, or a write failed
pub wrote_held : {K : Type 0} (facts : K → SinkFacts) (start : SinkFacts) (old new : LentBuffer K)
    (put : List ℕ) (done : Bool) → old.broken ≡ false
    → WritesAll (facts old.sink.now) (held_in old.held) done (facts new.sink.now)
    → held_in new.held ≡ [] → new.broken ≡ not done → Gathers facts start old put
    → Gathers facts start new put
wrote_held facts start old new put true sound writes none is g = record {
  whole = λ b. rw none (written-all start (facts old.sink.now) (facts new.sink.now)
      (held_in old.held) put (g.whole sound) writes);
  front = λ b. absurd (cc (is, b));
}
wrote_held facts start old new put false sound writes none is g = record {
  whole = λ b. absurd (cc (is, b));
  front = λ b. written-front start (facts old.sink.now) (facts new.sink.now) (held_in old.held) put
      (g.whole sound) writes;
}

-- bytes were written when nothing was held back
pub wrote_more : {K : Type 0} (facts : K → SinkFacts) (start : SinkFacts) (old new : LentBuffer K)
    (put more : List ℕ) (done : Bool) → old.broken ≡ false
    → WritesAll (facts old.sink.now) more done (facts new.sink.now)
    → held_in old.held ≡ [] → held_in new.held ≡ [] → new.broken ≡ not done
    → Gathers facts start old put → Gathers facts start new (put ++ more)
wrote_more facts start old new put more true sound writes before none is g =
    let h = subst (λ (held : List ℕ). HoldsBack start (held ++ more) (put ++ more)
    (facts old.sink.now)) before (more_held start (facts old.sink.now) (held_in old.held) more
    put (g.whole sound)) in
    record {
      whole = λ b. rw none (written-all start (facts old.sink.now) (facts new.sink.now) more
          (put ++ more) h writes);
      front = λ b. absurd (cc (is, b));
    }
wrote_more facts start old new put more false sound writes before none is g =
    let h = subst (λ (held : List ℕ). HoldsBack start (held ++ more) (put ++ more)
    (facts old.sink.now)) before (more_held start (facts old.sink.now) (held_in old.held) more
    put (g.whole sound)) in
    record {
      whole = λ b. absurd (cc (is, b));
      front = λ b. written-front start (facts old.sink.now) (facts new.sink.now) more (put ++ more)
          h writes;
    }

-- a buffer that is broken loses what is put
pub loses_more : {K : Type 0} (facts : K → SinkFacts) (start : SinkFacts) (buffer : LentBuffer K)
    (put more : List ℕ) → buffer.broken ≡ true → Gathers facts start buffer put
    → Gathers facts start buffer (put ++ more)
loses_more facts start buffer put more broken g = record {
  whole = λ b. absurd (cc (broken, b));
  front = λ b. more_lost start (facts buffer.sink.now) more put (g.front b);
}

-- all was written, or a write failed
pub wrote : {K : Type 0} (facts : K → SinkFacts) (start : SinkFacts) (buffer : LentBuffer K)
    (put : List ℕ) (broken : Bool) → buffer.broken ≡ broken → held_in buffer.held ≡ []
    → Gathers facts start buffer put
    → WritesAll start put (not broken) (facts buffer.sink.now)
wrote facts start buffer put true is none g = g.front is
wrote facts start buffer put false is none g =
    let h = g.whole is in
    subst (λ (text : List ℕ). WritesAll start text true (facts buffer.sink.now))
    (sym (append-nil h.written) ∙ ap (λ (held : List ℕ). h.written ++ held) (sym none) ∙ h.all)
    h.takes
