-- What a read and a write of the service leave.
use Rattle.std.proofs.Common.{◌≡◌, ◌+◌, ◌==◌, ◌&&◌, ◌∙◌, ◌⊎◌, inl, inr, ℕ, zero, suc}
use Rattle.std.proofs.Common.{Bool, true, false, not, List, [], ◌∷◌, ◌++◌, length, take, drop}
use Rattle.std.proofs.Common.{Option, Some, None, refl, sym, ap, subst, arith, if◌then◌else◌}
use Rattle.std.specs.Prelude.{is_none}
use Rattle.std.proofs.lemmas.Bool.Decides.{nat_tests}
use Rattle.std.proofs.lemmas.Grind.{flat_map-append}
use Rattle.std.proofs.lemmas.List.{append_assoc, take-append-drop, length-append, length-take}
use Rattle.ev_base.specs.Bytes.{ReaderBytes, HasGiven, MovesOn}
use Rattle.ev_base.specs.Counts.{Counts, counted}
use Rattle.ev_base.specs.Sink.{GrowsBy}
use Rattle.ev_base.specs.End.{EndFacts, EndReads, EndWrites, EndGives, EndTakes, Paused, Faulted}
use Rattle.ev_base.specs.declared.source.Got.{Got}
use Rattle.ev_base.specs.declared.source.Got.TheVariants as got
use Rattle.ev_base.specs.declared.end.Sent.{Sent}
use Rattle.ev_base.specs.declared.end.Sent.TheVariants as sent
use Rattle.cdr_record.specs.declared.bad.Bad.{Bad as BadRecord}
use Rattle.cdr_record.specs.declared.decoder.Fed.{Fed}
use Rattle.cdr_record.specs.declared.grammar.First.{First}
use Rattle.cdr_record.specs.declared.grammar.First.TheVariants.{More, Bad, One}
use Rattle.cdr_record.specs.Grammar.{first_of}
use Rattle.cdr_record.specs.Decoding.{DecoderState, StandsFor, Malformed, Partial, decode}
use Rattle.cdr_record.specs.Decoding.{records_of}
use Rattle.cdr_record.specs.Decoding.{left_of, taken_of, bad_at, bad_of, stop_at, unfinished}
use Rattle.cdr_record.specs.Feeding.{Feeds}
use Rattle.cdr_record.proofs.Cutting.{goes_on}
use Rattle.cdr_record.proofs.Taking.{keeps_left}
use Rattle.forwarder.specs.Feeding.{sent_as, sent_all, feed}
use Rattle.forwarder.specs.Readings.{stop_of, stop_at_end}
use Rattle.forwarder.specs.Forwarding.{State, more, none_wait, may_read}
use Rattle.forwarder.specs.Forwarding.{TakesRead, ReadsOnce, Reads, may_write}
use Rattle.forwarder.specs.Forwarding.{TakesWrite, WritesOnce, WritesIf}
use Rattle.forwarder.specs.Forwarded.{IsWritten, HasStopped, IfSo}
use Rattle.forwarder.specs.Forwarded.{GoesOnFrom, UnlessWanting, HasForwarded}
use Rattle.forwarder.specs.declared.note.ForwardEnding.{ForwardEnding}
use Rattle.forwarder.specs.declared.note.ForwardEnding.TheVariants as end
use Rattle.forwarder.specs.Asking.{if_more, stopped_as}

-- ---- bytes and counts

gives : (old new : Option ReaderBytes) (before more : List ℕ) → HasGiven old before
    → MovesOn old more new → HasGiven new (before ++ more)
gives None None before more given moves = tt
gives None (Some new) before more given moves = absurd moves
gives (Some old) None before more given moves = absurd moves
gives (Some old) (Some new) before more given moves =
    moves.1 ∙ ap (λ (xs : List ℕ). xs ++ more) given

grows : (old new : Option (List ℕ)) (sent more : List ℕ) → IsWritten old sent
    → GrowsBy old more new → IsWritten new (sent ++ more)
grows None None sent more w g = tt
grows None (Some new) sent more w g = absurd g
grows (Some old) None sent more w g = absurd g
grows (Some old) (Some new) sent more w g = g ∙ ap (λ (xs : List ℕ). xs ++ more) w

counts_more : (total n many : ℕ) → Counts total n → Counts (more total many) (n + many)
counts_more total n many h = omega (arith, h)

pub counts_one : (count n : ℕ) → Counts count n → Counts (counted count) (suc n)
counts_one count n h = omega (arith, h)

pub none_there : (waiting : List ℕ) → (length waiting == 0) ≡ true → waiting ≡ []
none_there [] none = refl
none_there (x ∷ xs) none = let empty : length (x ∷ xs) ≡ 0 = grind (arith, nat_tests) in
    absurd (omega (arith, empty))

-- ---- what is said of one ending, or of none

pub unless : (o : Option ForwardEnding) (P : Type 0) → P → UnlessWanting o P
unless None P p = p
unless (Some end.End) P p = p
unless (Some (end.BadRecord at)) P p = p
unless (Some end.ReadFailed) P p = p
unless (Some end.PeerFailed) P p = p
unless (Some end.NoMemory) P p = tt

pub going_of : (o : Option ForwardEnding) (P : Type 0) → o ≡ None → UnlessWanting o P → P
going_of o P is h = subst (λ (x : Option ForwardEnding). UnlessWanting x P) is h

if_none : (o : Option ForwardEnding) (holds : ForwardEnding → Type 0) → o ≡ None → IfSo o holds
if_none o holds is = subst (λ (x : Option ForwardEnding). IfSo x holds) (sym is) tt

pub some_none : (how : ForwardEnding) → Some how ≡ None → ⊥
some_none how is = cc

-- ---- reading

may_both : (b : Bool) (o : Option ForwardEnding) → (b && is_none o) ≡ true → (b ≡ true) × (o ≡ None)
may_both true None is = (refl, refl)
may_both true (Some how) is = cc
may_both false None is = cc
may_both false (Some how) is = cc

may_not : (b : Bool) (o : Option ForwardEnding) → (b && is_none o) ≡ false → b ≡ true → o ≡ None → ⊥
may_not true None is b o = cc
may_not true (Some how) is b o = cc
may_not false None is b o = cc
may_not false (Some how) is b o = cc

-- what is forwarded of more bytes
feed_more : (t piece : List ℕ) → feed (t ++ piece)
    ≡ feed t ++ sent_all (records_of (left_of t ++ piece))
feed_more t piece = ap sent_all (goes_on t piece).records
    ∙ flat_map-append sent_as (records_of t) (records_of (left_of t ++ piece))

-- a bad record stands where reading stops
bad_there : (place left : ℕ) (v : First) (bad : BadRecord) → Some bad ≡ bad_at place v
    → stop_at place left v ≡ Malformed bad.at
bad_there place left More bad is = cc
bad_there place left (One n) bad is = cc
bad_there place left (Bad w) bad is = cc

stops_so : (t : List ℕ) (e : EndFacts) (bad : Option BadRecord) → bad ≡ bad_of t
    → IfSo (stop_of bad) (λ how. HasStopped how t e)
stops_so t e None is = tt
stops_so t e (Some bad) is =
    inl (bad_there (taken_of t) (length (left_of t)) (first_of (left_of t)) bad is)

sound_so : (t : List ℕ) (bad : Option BadRecord) → bad ≡ bad_of t → stop_of bad ≡ None
    → bad_of t ≡ None
sound_so t None is none = sym is
sound_so t (Some bad) is none = absurd (some_none (end.BadRecord bad.at) none)

-- if no bad record stands, reading stops with what is left
no_bad : (place left : ℕ) (v : First) → bad_at place v ≡ None
    → stop_at place left v ≡ unfinished left
no_bad place left More is = refl
no_bad place left (One n) is = refl
no_bad place left (Bad w) is = cc

is_zero : (n : ℕ) → (n == 0) ≡ true → n ≡ 0
is_zero n is = grind (arith, nat_tests)

some_left : (n : ℕ) → (n == 0) ≡ false → unfinished n ≡ Partial n
some_left zero is = cc
some_left (suc n) is = refl

ends_so : (d : DecoderState) (t : List ℕ) (e : EndFacts) → StandsFor d t → bad_of t ≡ None
    → e.over ≡ true → HasStopped (stop_at_end d) t e
ends_so d t e stands none over =
    let rest = keeps_left d t stands (stands.bad ∙ none) in
    let stop = no_bad (taken_of t) (length (left_of t)) (first_of (left_of t)) none
    ∙ ap (λ (left : List ℕ). unfinished (length left)) (sym rest) in
    by (length d.rest == 0) refl stop
  where
    by : (b : Bool) → (length d.rest == 0) ≡ b → (decode t).stop ≡ unfinished (length d.rest)
        → HasStopped (if b then end.End else end.BadRecord d.offset) t e
    by true is stop = (over, stop ∙ ap unfinished (is_zero (length d.rest) is))
    by false is stop =
        inr (over, (length d.rest, stop ∙ some_left (length d.rest) is, stands.offset))

-- what a read leaves: if it gave nothing, and nothing waits, it reads no more
pub record LeavesRead (s : State) (gave : Bool) (r : State) : Type 0 where
  pub forwarded : HasForwarded r
  pub writes : r.facts.writes ≡ s.facts.writes
  pub stopped : gave ≡ false → none_wait r ≡ true → r.stop ≡ None → ⊥

pub true_false : true ≡ false → ⊥
true_false is = cc

-- the state after a piece was taken
abbrev with_piece : State → EndFacts → DecoderState → Fed → State
with_piece s f d fed = record s {
  facts = f;
  decoder = d;
  waiting = s.waiting ++ sent_all fed.records;
  stop = stop_of fed.bad;
  records = more s.records (length fed.records);
}

takes_piece : (s : State) (f : EndFacts) (buffer : List ℕ) (n : ℕ) (d : DecoderState) (fed : Fed)
    → s.ended ≡ None → HasForwarded s → EndGives s.facts buffer n f
    → Feeds s.decoder (take n buffer) fed d → HasForwarded (with_piece s f d fed)
takes_piece s f buffer n d fed open_ h g feeds =
    let piece = take n buffer in
    let going = going_of s.ended (GoesOnFrom h.taken h.rest s) open_ h.going in
    let records = feeds.records h.taken going.stands in
    record {
      taken = h.taken ++ piece;
      given = gives s.facts.bytes f.bytes h.taken piece h.given g.bytes;
      gave = omega (
        arith,
        g.gave,
        h.gave,
        length-append h.taken piece,
        length-take n buffer,
        g.within,
      );
      sent = h.sent;
      written = subst (λ (t : Option (List ℕ)). IsWritten t h.sent) (sym g.counts.written)
          h.written;
      bytes = h.bytes;
      rest = h.rest ++ sent_all fed.records;
      whole = ap sent_all records ∙ flat_map-append sent_as (decode h.taken).records fed.records
          ∙ ap (λ (xs : List ℕ). xs ++ sent_all fed.records) h.whole
          ∙ append_assoc h.sent h.rest (sent_all fed.records);
      going = unless s.ended _ (record {
        stands = feeds.stands h.taken going.stands;
        waits = ap (λ (xs : List ℕ). xs ++ sent_all fed.records) going.waits;
        records = subst (λ (k : ℕ). Counts (more s.records (length fed.records)) k)
            (sym (ap length records ∙ length-append (decode h.taken).records fed.records))
            (counts_more s.records (length (decode h.taken).records) (length fed.records)
            going.records);
        sound = sound_so (h.taken ++ piece) fed.bad (feeds.bad h.taken going.stands);
      });
      stop = stops_so (h.taken ++ piece) f fed.bad (feeds.bad h.taken going.stands);
      ended = if_none s.ended _ open_;
    }

lacks_memory : (s : State) (f : EndFacts) (buffer : List ℕ) (n : ℕ) (d : DecoderState)
    → s.stop ≡ None → HasForwarded s → EndGives s.facts buffer n f
    → HasForwarded (record s { facts = f; decoder = d; ended = Some end.NoMemory })
lacks_memory s f buffer n d none h g =
    let piece = take n buffer in
    let new = sent_all (records_of (left_of h.taken ++ piece)) in
    record {
      taken = h.taken ++ piece;
      given = gives s.facts.bytes f.bytes h.taken piece h.given g.bytes;
      gave = omega (
        arith,
        g.gave,
        h.gave,
        length-append h.taken piece,
        length-take n buffer,
        g.within,
      );
      sent = h.sent;
      written = subst (λ (t : Option (List ℕ)). IsWritten t h.sent) (sym g.counts.written)
          h.written;
      bytes = h.bytes;
      rest = h.rest ++ new;
      whole = feed_more h.taken piece ∙ ap (λ (xs : List ℕ). xs ++ new) h.whole
          ∙ append_assoc h.sent h.rest new;
      going = tt;
      stop = if_none s.stop _ none;
      ended = tt;
    }

-- a read that gave nothing, after which it reads no more
stops_reading : (s : State) (f : EndFacts) (how : ForwardEnding) → s.ended ≡ None
    → (h : HasForwarded s) → f.bytes ≡ s.facts.bytes → f.gave ≡ s.facts.gave
    → f.written ≡ s.facts.written → HasStopped how h.taken f
    → HasForwarded (record s { facts = f; stop = Some how })
stops_reading s f how open_ h bytes gave written stop =
    let going = going_of s.ended (GoesOnFrom h.taken h.rest s) open_ h.going in
    record {
      taken = h.taken;
      given = subst (λ (b : Option ReaderBytes). HasGiven b h.taken) (sym bytes) h.given;
      gave = gave ∙ h.gave;
      sent = h.sent;
      written = subst (λ (t : Option (List ℕ)). IsWritten t h.sent) (sym written) h.written;
      bytes = h.bytes;
      rest = h.rest;
      whole = h.whole;
      going = unless s.ended _ (record {
        stands = going.stands;
        waits = going.waits;
        records = going.records;
        sound = λ none. absurd (some_none how none);
      });
      stop = stop;
      ended = if_none s.ended _ open_;
    }

reads_once : (s : State) (gave : Bool) (r : State) → s.ended ≡ None → s.stop ≡ None
    → HasForwarded s → ReadsOnce s gave r → LeavesRead s gave r
reads_once s gave r open_ none h once = by once.came once.facts once.reads once.takes
  where
    by : (came : Got) (f : EndFacts) → EndReads s.facts once.buffer came f
        → TakesRead came once.buffer (record s { facts = f }) gave r → LeavesRead s gave r
    by (got.Bytes n) f g (gave_some, inl piece) = record {
      forwarded = subst HasForwarded (sym piece.leaves)
          (takes_piece s f once.buffer n r.decoder piece.fed open_ h g piece.feeds);
      writes = ap (λ (x : State). x.facts.writes) piece.leaves ∙ g.counts.writes;
      stopped = λ none_came. absurd (true_false (sym gave_some ∙ none_came));
    }
    by (got.Bytes n) f g (gave_some, inr lacks) = record {
      forwarded = subst HasForwarded (sym lacks)
          (lacks_memory s f once.buffer n r.decoder none h g);
      writes = ap (λ (x : State). x.facts.writes) lacks ∙ g.counts.writes;
      stopped = λ none_came. absurd (true_false (sym gave_some ∙ none_came));
    }
    by got.Pause f g t = absurd t
    by got.Over f g t =
        let going = going_of s.ended (GoesOnFrom h.taken h.rest s) open_ h.going in
        record {
          forwarded = subst HasForwarded (sym t.1) (stops_reading s f (stop_at_end s.decoder) open_
              h g.bytes g.gave g.counts.written
              (ends_so s.decoder h.taken f going.stands (going.sound none) g.over));
          writes = ap (λ (x : State). x.facts.writes) t.1 ∙ g.counts.writes;
          stopped = λ none_came waits stop. absurd (some_none (stop_at_end s.decoder)
              (sym (ap (λ (x : State). x.stop) t.1) ∙ stop));
        }
    by got.Failed f g t =
        let going = going_of s.ended (GoesOnFrom h.taken h.rest s) open_ h.going in
        record {
          forwarded = subst HasForwarded (sym t.1) (stops_reading s f end.ReadFailed open_ h g.bytes
              g.gave g.counts.written (g.counts.last_read, going.sound none));
          writes = ap (λ (x : State). x.facts.writes) t.1 ∙ g.counts.writes;
          stopped = λ none_came waits stop. absurd (some_none end.ReadFailed
              (sym (ap (λ (x : State). x.stop) t.1) ∙ stop));
        }

pub reads_on : (s : State) (gave : Bool) (r : State) → s.ended ≡ None → HasForwarded s
    → Reads (may_read s) s gave r → LeavesRead s gave r
reads_on s gave r open_ h reads = by (may_read s) refl reads
  where
    by : (b : Bool) → may_read s ≡ b → Reads b s gave r → LeavesRead s gave r
    by true is once =
        reads_once s gave r open_ (may_both (none_wait s) s.stop is).1 h once
    by false is same = record {
      forwarded = subst HasForwarded (sym same.1) h;
      writes = ap (λ (x : State). x.facts.writes) same.1;
      stopped = λ none_came waits stop. may_not (none_wait s) s.stop is
          (sym (ap none_wait same.1) ∙ waits) (sym (ap (λ (x : State). x.stop) same.1) ∙ stop);
    }

-- ---- writing

-- What a write leaves: if nothing was taken and it goes on, either nothing waited, or the write
-- paused.
pub record LeavesWrite (r : State) (took : Bool) (w : State) : Type 0 where
  pub forwarded : HasForwarded w
  pub writes : (w.facts.writes ≡ r.facts.writes) ⊎ (w.facts.writes ≡ counted r.facts.writes)
  pub rests : took ≡ false → w.ended ≡ None → ((none_wait r ≡ true) × (w ≡ r))
      ⊎ ((w.facts.last_write ≡ Some Paused) × (w.facts.writes ≡ counted r.facts.writes))

-- a write that took nothing
writes_none : (r : State) (f : EndFacts) → r.ended ≡ None → HasForwarded r
    → f.over ≡ r.facts.over → f.last_read ≡ r.facts.last_read → f.bytes ≡ r.facts.bytes
    → f.gave ≡ r.facts.gave → f.written ≡ r.facts.written
    → HasForwarded (record r { facts = f })
writes_none r f open_ h over last bytes gave written =
    let going = going_of r.ended (GoesOnFrom h.taken h.rest r) open_ h.going in
    record {
      taken = h.taken;
      given = subst (λ (b : Option ReaderBytes). HasGiven b h.taken) (sym bytes) h.given;
      gave = gave ∙ h.gave;
      sent = h.sent;
      written = subst (λ (t : Option (List ℕ)). IsWritten t h.sent) (sym written) h.written;
      bytes = h.bytes;
      rest = h.rest;
      whole = h.whole;
      going = unless r.ended _ (record {
        stands = going.stands;
        waits = going.waits;
        records = going.records;
        sound = going.sound;
      });
      stop = if_more r.stop _ _
          (λ how so. stopped_as how h.taken r.facts f over last so) h.stop;
      ended = if_none r.ended _ open_;
    }

writes_some : (r : State) (f : EndFacts) (n : ℕ) → r.ended ≡ None → HasForwarded r
    → EndTakes r.facts r.waiting n f
    → HasForwarded (record r { facts = f; waiting = drop n r.waiting; bytes = more r.bytes n })
writes_some r f n open_ h g =
    let going = going_of r.ended (GoesOnFrom h.taken h.rest r) open_ h.going in
    let c = g.counts in
    let went = take n r.waiting in
    record {
      taken = h.taken;
      given = subst (λ (b : Option ReaderBytes). HasGiven b h.taken) (sym c.bytes) h.given;
      gave = c.gave ∙ h.gave;
      sent = h.sent ++ went;
      written = grows r.facts.written f.written h.sent went h.written g.written;
      bytes = subst (λ (k : ℕ). Counts (more r.bytes n) k)
          (omega (arith, length-append h.sent went, length-take n r.waiting, g.within))
          (counts_more r.bytes (length h.sent) n h.bytes);
      rest = drop n r.waiting;
      whole = h.whole ∙ ap (λ (xs : List ℕ). h.sent ++ xs)
          (going.waits ∙ sym (take-append-drop n r.waiting))
          ∙ sym (append_assoc h.sent went (drop n r.waiting));
      going = unless r.ended _ (record {
        stands = going.stands;
        waits = refl;
        records = going.records;
        sound = going.sound;
      });
      stop = if_more r.stop _ _
          (λ how so. stopped_as how h.taken r.facts f c.over c.last_read so) h.stop;
      ended = if_none r.ended _ open_;
    }

-- a write that failed
writes_fail : (r : State) (f : EndFacts) → r.ended ≡ None → HasForwarded (record r { facts = f })
    → f.last_write ≡ Some Faulted
    → HasForwarded (record r { facts = f; ended = Some end.PeerFailed })
writes_fail r f open_ h last =
    let going = going_of r.ended (GoesOnFrom h.taken h.rest (record r { facts = f })) open_ h.going
    in
    record {
      taken = h.taken;
      given = h.given;
      gave = h.gave;
      sent = h.sent;
      written = h.written;
      bytes = h.bytes;
      rest = h.rest;
      whole = h.whole;
      going = record {
        stands = going.stands;
        waits = going.waits;
        records = going.records;
        sound = going.sound;
      };
      stop = h.stop;
      ended = last;
    }

writes_once : (r : State) (took : Bool) (w : State) → r.ended ≡ None → HasForwarded r
    → WritesOnce r took w → LeavesWrite r took w
writes_once r took w open_ h once = by once.came once.facts once.writes once.takes
  where
    by : (came : Sent) (f : EndFacts) → EndWrites r.facts r.waiting came f
        → TakesWrite came (record r { facts = f }) took w → LeavesWrite r took w
    by (sent.Bytes n) f g t = record {
      forwarded = subst HasForwarded (sym t.1) (writes_some r f n open_ h g);
      writes = inr (ap (λ (x : State). x.facts.writes) t.1 ∙ g.counts.writes);
      rests = λ none_came. absurd (true_false (sym t.0 ∙ none_came));
    }
    by sent.Pause f g t = let c = g.counts in record {
      forwarded = subst HasForwarded (sym t.1) (writes_none r f open_ h c.over c.last_read c.bytes
          c.gave g.written);
      writes = inr (ap (λ (x : State). x.facts.writes) t.1 ∙ c.writes);
      rests = λ none_came goes. inr (
        ap (λ (x : State). x.facts.last_write) t.1 ∙ c.last_write,
        ap (λ (x : State). x.facts.writes) t.1 ∙ c.writes,
      );
    }
    by sent.Failed f g t = let c = g.counts in record {
      forwarded = subst HasForwarded (sym t.1) (writes_fail r f open_
          (writes_none r f open_ h c.over c.last_read c.bytes c.gave g.written) c.last_write);
      writes = inr (ap (λ (x : State). x.facts.writes) t.1 ∙ c.writes);
      rests = λ none_came goes. absurd (some_none end.PeerFailed
          (sym (ap (λ (x : State). x.ended) t.1) ∙ goes));
    }

-- if it may not write and goes on, nothing waits
may_write_not : (b : Bool) (o : Option ForwardEnding) → (not b && is_none o) ≡ false → o ≡ None
    → b ≡ true
may_write_not true o is none = refl
may_write_not false None is none = cc
may_write_not false (Some how) is none = cc

may_write_goes : (b : Bool) (o : Option ForwardEnding) → (not b && is_none o) ≡ true → o ≡ None
may_write_goes b None is = refl
may_write_goes true (Some how) is = cc
may_write_goes false (Some how) is = cc

pub writes_on : (r : State) (took : Bool) (w : State) → HasForwarded r
    → WritesIf (may_write r) r took w → LeavesWrite r took w
writes_on r took w h writes = by (may_write r) refl writes
  where
    by : (b : Bool) → may_write r ≡ b → WritesIf b r took w → LeavesWrite r took w
    by true is once = writes_once r took w (may_write_goes (none_wait r) r.ended is) h once
    by false is same = record {
      forwarded = subst HasForwarded (sym same.1) h;
      writes = inl (ap (λ (x : State). x.facts.writes) same.1);
      rests = λ none_came goes. inl (
        may_write_not (none_wait r) r.ended is
            (sym (ap (λ (x : State). x.ended) same.1) ∙ goes),
        same.1,
      );
    }
