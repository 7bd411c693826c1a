-- How a run ends: what was written, and what its status says.
use Rattle.std.proofs.Common.{ℕ, ◌≤◌, ◌+◌, ◌-◌, length, take, append_assoc, ◌≡◌, ◌≢◌, ◌⊎◌, inl, inr}
use Rattle.std.proofs.Common.{Bool, true, false, List, [], ◌∷◌, ◌++◌, refl, sym, ap, ◌∙◌, subst}
use Rattle.std.proofs.Common.{arith, Option, Some, None}
use Rattle.std.specs.Option.{option_to_list}
use Rattle.std.proofs.lemmas.Bool.{false≢true}
use Rattle.std.specs.List.{count_by}
use Rattle.std.proofs.lemmas.List.{append-nil}
use Rattle.std.proofs.lemmas.Grind.{flat_map-append}
use Rattle.std.proofs.Math.Seq.{drop-length, take-append-add}
use Rattle.ev_base.specs.Counts.{counted}
use Rattle.ev_base.specs.Bytes.{ReaderBytes, MovesOn, NothingLeft}
use Rattle.ev_base.specs.Source.{SourceFacts}
use Rattle.ev_base.specs.Sink.{SinkFacts, GrowsBy}
use Rattle.ev_base.specs.Terms.{Terms}
use Rattle.log_handler.specs.cdr_record.specs.Decoding.{Stop, Clean, Partial, Malformed, decode}
use Rattle.log_handler.specs.cdr_record.proofs.Runs.{bad_ends}
use Rattle.log_handler.specs.log_lines.specs.declared.end_kind.EndKind.{EndKind}
use Rattle.log_handler.specs.log_lines.specs.declared.end_kind.EndKind.TheVariants as kind
use Rattle.reactor_model.specs.reactor_journal.specs.declared.entry.Entry.{Entry}
use Rattle.reactor_model.specs.reactor_journal.specs.declared.entry.Entry.TheVariants.{Polled}
use Rattle.reactor_model.specs.reactor_journal.specs.declared.entry.Entry.TheVariants.{Ended}
use Rattle.reactor_model.specs.reactor_journal.specs.Past.{past_of, reason_of}
use Rattle.ev_base.specs.ev_types.specs.declared.upcall.Why.TheVariants.{Own}
use Rattle.reactor_model.specs.reactor_journal.specs.Follow.{Legal}
use Rattle.reactor_model.specs.Volumes.{VolumesFacts}
use Rattle.log_handler.specs.declared.note.ServerNote.{ServerNote}
use Rattle.log_handler.specs.declared.note.ServerNote.TheVariants as note
use Rattle.log_handler.specs.Notes.{entry_lines, journal_lines}
use Rattle.log_handler.specs.Connection.{end_of}
use Rattle.log_handler.specs.LineSink.{LineSink, PutsLines, is_broken, sink_of, whole_of}
use Rattle.one_run.specs.one_net.specs.OneKeeps.{most_input}
use Rattle.log_handler.specs.sink_buffer.specs.Written.{IsPrefixOf, TookAll, TookFront}
use Rattle.one_run.specs.Phases.{first_entry, IsFinished, is_return}
use Rattle.one_run.specs.Running.{VolumesSince, IsWholeUntilLast, is_lost}
use Rattle.one_run.specs.Opening.{CountsWrite, LeavesUnopened}
use Rattle.one_run.specs.declared.opening.Unopened.{Unopened}
use Rattle.one_run.specs.declared.serving.Halt.{Halt}
use Rattle.one_run.specs.declared.serving.Halt.TheVariants as halt
use Rattle.cmd_one.specs.Outcome.{lines_of, IsClosedWith, ComesTo, IsMalformed, EndsAsRead}
use Rattle.one_run.specs.bounded_input.specs.Input.{IsReadToEnd, TakesInput}
use Rattle.cmd_one.specs.Journals.{IsTold, IsTakenAndHeld, IsWholeRun, WroteUntilLast, BreaksLate}
use Rattle.cmd_one.specs.Journals.{HasWritten, StandsFor, SomeJournal}
use Rattle.cmd_one.specs.Statuses.{DecodesLeft, HasLines, IsDone, IsReadFault, IsNoMemory}
use Rattle.cmd_one.specs.Statuses.{IsTooLong, IsVolumeFault, EndsSo, code_by}
use Rattle.cmd_one.specs.Ran.{RunsOne, end_without_fault, end_by}
use Rattle.cmd_one.specs.declared.ending.OneEnding.{OneEnding}
use Rattle.cmd_one.specs.declared.ending.OneEnding.TheVariants as one
use Rattle.cmd_one.proofs.Journals.{finished_is_over, finished_refuses_none, none_handed_over}
use Rattle.cmd_one.proofs.Journals.{end_is_over}

-- ---- what was written

grows : (old new : Option (List ℕ)) (bytes start : List ℕ) → old ≡ Some start
    → GrowsBy old bytes new → new ≡ Some (start ++ bytes)
grows old new bytes start told by =
    by_new new (subst (λ (old : Option (List ℕ)). GrowsBy old bytes new) told by)
  where
    by_new : (new : Option (List ℕ)) → GrowsBy (Some start) bytes new → new ≡ Some (start ++ bytes)
    by_new None by = absurd by
    by_new (Some text) by = ap Some by

-- the lines of the first entries, if those of as many or more are in a text
front-of : (before more : List (Entry ServerNote)) (whole : ℕ) (text : List ℕ)
    → length before ≤ whole → IsPrefixOf (journal_lines (take whole (before ++ more))) text
    → IsPrefixOf (journal_lines before) text
front-of before more whole text seen p =
    let count : whole ≡ length before + (whole - length before) = omega (arith, seen) in
    let first : take whole (before ++ more) ≡ before ++ take (whole - length before) more =
    ap (λ (n : ℕ). take n (before ++ more)) count
    ∙ take-append-add before more (whole - length before) in (
      journal_lines (take (whole - length before) more) ++ p.0,
      p.1 ∙ (ap (λ (entries : List (Entry ServerNote)). journal_lines entries ++ p.0) first
          ∙ (ap (λ (lines : List ℕ). lines ++ p.0)
          (flat_map-append entry_lines before (take (whole - length before) more))
          ∙ append_assoc (journal_lines before) (journal_lines (take (whole - length before) more))
          p.0)),
    )

module _ {K : Type 0} (facts : K → SinkFacts) (t : Terms) (o : SinkFacts)
    (opening : t.opening ≡ o.text) (faults : t.output_faults ≡ Some o.faults) (sink : LineSink K)
    (h : List (Entry ServerNote)) (puts : PutsLines facts t sink h)
    (late : IsWholeUntilLast (whole_of sink) h) where
  wrote_all : is_broken sink ≡ false → TookAll o (journal_lines h) (facts (sink_of sink))
  wrote_all whole =
      let w = puts.put.whole whole in
      record {
        text = λ start told. grows puts.start.text (facts (sink_of sink)).text (journal_lines h)
            start (puts.opening start (opening ∙ told)) w.text;
        faults = w.faults ∙ puts.faults o.faults faults;
      }

  wrote_front : is_broken sink ≡ true → BreaksLate o h (facts (sink_of sink))
  wrote_front broken =
      let b = puts.put.front broken in (
        record {
          front = b.front;
          is_front = b.is_front;
          text = λ start told. grows puts.start.text (facts (sink_of sink)).text b.front start
              (puts.opening start (opening ∙ told)) b.text;
          one_failed = b.rose ∙ ap counted (puts.faults o.faults faults);
        },
        record {
          before = late.before;
          rest = late.grows.more;
          is = late.grows.is;
          few = late.grows.few;
          written = front-of late.before late.grows.more (whole_of sink) b.front late.seen
              (subst (λ (entries : List (Entry ServerNote)).
              IsPrefixOf (journal_lines (take (whole_of sink) entries)) b.front) late.grows.is
              (puts.kept broken));
        },
      )

  pub wrote : (broken : Bool) → broken ≡ is_broken sink
      → HasWritten broken o h (facts (sink_of sink))
  wrote true is = wrote_front (sym is)
  wrote false is = wrote_all (sym is)

-- ---- what a status says

-- after a malformed record no byte counts
same_stop : (taken more : List ℕ) (s : Stop) → (decode taken).stop ≡ s → IsMalformed s
    → decode taken ≡ decode (taken ++ more)
same_stop taken more Clean e m = absurd m
same_stop taken more (Partial n) e m = absurd m
same_stop taken more (Malformed at) e m = sym (bad_ends taken more at e)

-- the bytes taken are read as all that were left
by_bytes : (a b : Option ReaderBytes) (taken : List ℕ) → MovesOn a (taken ++ []) b
    → IsMalformed (decode taken).stop ⊎ NothingLeft b → DecodesLeft a taken
by_bytes None b taken p q = tt
by_bytes (Some a) None taken p q = absurd p
by_bytes (Some a) (Some b) taken p (inl bad) =
    same_stop taken b.left (decode taken).stop refl bad
    ∙ ap decode (ap (λ (xs : List ℕ). xs ++ b.left) (sym (append-nil taken)) ∙ sym p.0)
by_bytes (Some a) (Some b) taken p (inr none) =
    ap decode (sym (append-nil taken) ∙ (sym (append-nil (taken ++ []))
    ∙ (ap (λ (xs : List ℕ). (taken ++ []) ++ xs) (sym none) ∙ sym p.0)))

decodes-left : (a : Option ReaderBytes) (j : SourceFacts) (taken : List ℕ)
    → MovesOn a (taken ++ []) j.bytes → IsMalformed (decode taken).stop ⊎ IsReadToEnd j
    → DecodesLeft a taken
decodes-left a j taken p (inl bad) = by_bytes a j.bytes taken p (inl bad)
decodes-left a j taken p (inr read) = by_bytes a j.bytes taken p (inr read.nothing_left)

-- the word of a connection whose input failed
abbrev IsFailing : List ℕ → List ℕ → EndKind → Type 0
IsFailing taken decoded word = (word ≡ kind.Failed) × (decoded ≡ taken)

failed_word : (j : SourceFacts) (failed : Bool) (taken extra decoded : List ℕ) (word : EndKind)
    → IsClosedWith j failed taken extra decoded word → ((failed ≡ false) × (extra ≡ []) → ⊥)
    → IsFailing taken decoded word
failed_word j failed taken extra decoded kind.End closed unsound = absurd (unsound closed.3)
failed_word j failed taken extra decoded (kind.Partial n) closed unsound = absurd (unsound closed.3)
failed_word j failed taken extra decoded (kind.Malformed at) closed unsound =
    absurd (unsound closed.2)
failed_word j failed taken extra decoded kind.Failed closed unsound = (refl, closed.0)
failed_word j failed taken extra decoded kind.NoMemory closed unsound = absurd (unsound closed.1)
failed_word j failed taken extra decoded kind.Stopped closed unsound = absurd (unsound closed.1)
failed_word j failed taken extra decoded kind.Idle closed unsound = absurd closed
failed_word j failed taken extra decoded kind.Refused closed unsound = absurd closed

-- a connection that ended itself, with memory and without a fault, ended as reading stopped
record StopsAsRead (j : SourceFacts) (taken decoded : List ℕ) (word : EndKind) : Type 0 where
  same : decoded ≡ taken
  word_is : word ≡ end_of (decode taken).stop
  all : IsMalformed (decode taken).stop ⊎ IsReadToEnd j

done_word : (j : SourceFacts) (taken decoded : List ℕ) (word : EndKind)
    → IsClosedWith j false taken [] decoded word → (word ≡ kind.Stopped → ⊥)
    → is_lost (note.Finished 0 word) ≡ false → StopsAsRead j taken decoded word
done_word j taken decoded kind.End closed own kept =
    record { same = closed.0; word_is = ap end_of (sym closed.1); all = inr closed.2 }
done_word j taken decoded (kind.Partial n) closed own kept =
    record { same = closed.0; word_is = ap end_of (sym closed.1); all = inr closed.2 }
done_word j taken decoded (kind.Malformed at) closed own kept =
    record {
      same = closed.0;
      word_is = ap end_of (sym closed.1);
      all = inl (subst IsMalformed (sym closed.1) tt);
    }
done_word j taken decoded kind.Failed closed own kept = absurd (none_of closed.1)
  where
    none_of : (false ≡ true) ⊎ (◌≢◌ {A = List ℕ} [] []) → ⊥
    none_of (inl q) = false≢true q
    none_of (inr some) = some refl
done_word j taken decoded kind.NoMemory closed own kept = absurd (false≢true (sym kept))
done_word j taken decoded kind.Stopped closed own kept = absurd (own refl)
done_word j taken decoded kind.Idle closed own kept = absurd closed
done_word j taken decoded kind.Refused closed own kept = absurd closed

one_more : (extra : Option ℕ) → option_to_list extra ≢ [] → (more : ℕ)
    × (option_to_list extra ≡ more ∷ [])
one_more None some = absurd (some refl)
one_more (Some more) some = (more, refl)

-- The connection closed itself, and a wait was made after that.
pub record ClosesItself {failed : Bool} {i j : SourceFacts} {h : List (Entry ServerNote)}
    (run : ComesTo most_input failed i j h) (lost : Bool) : Type 0 where
  pub own : reason_of (past_of run.closes.before) 0 ≡ Own
  pub not_stopped : run.word ≡ kind.Stopped → ⊥
  pub lost_is : lost ≡ is_lost (note.Finished 0 run.word)
  pub moment : ℕ
  pub rest : run.closes.rest ≡ Polled moment ∷ Ended ∷ []

-- What is known of a run that was not begun in vain: the connection's outcome, what was written,
-- why the run was halted, and whether its connection was closed for want of memory.
pub record Known (i : SourceFacts) (o : SinkFacts) (j : SourceFacts) (p : SinkFacts)
    (h : List (Entry ServerNote)) (before now : ℕ) (extra : Option ℕ)
    (failed broken too_long lost : Bool) (why : Option Halt) : Type 0 where
  pub run : ComesTo most_input failed i j h
  pub extra_is : run.extra ≡ option_to_list extra
  pub written : HasWritten broken o h p
  pub closed : why ≡ None → ClosesItself run lost
  pub volumes : VolumesSince why before now
  pub halted : why ≡ Some halt.Broken → broken ≡ true
  pub met : too_long ≡ true → option_to_list extra ≢ []
  pub not_met : too_long ≡ false → option_to_list extra ≡ []

-- which number a run has that had no fault of input or output, and where
data CodeOf (too_long lost : Bool) (why : Option Halt) (n : ℕ) : Type 0 where
  WithoutMemory : n ≡ 6 → CodeOf too_long lost why n
  TooLong : n ≡ 11 → too_long ≡ true → CodeOf too_long lost why n
  Done : n ≡ 0 → too_long ≡ false → lost ≡ false → why ≡ None → CodeOf too_long lost why n
  Halted : n ≡ 12 → CodeOf too_long lost why n

code_cases : (too_long lost : Bool) (why : Option Halt)
    → CodeOf too_long lost why (code_by most_input (end_without_fault too_long lost why))
code_cases too_long true why = WithoutMemory refl
code_cases too_long false (Some halt.NoMemory) = WithoutMemory refl
code_cases true false None = TooLong refl refl
code_cases true false (Some halt.VolumesFailed) = TooLong refl refl
code_cases true false (Some halt.Broken) = TooLong refl refl
code_cases false false None = Done refl refl refl refl
code_cases false false (Some halt.VolumesFailed) = Halted refl
code_cases false false (Some halt.Broken) = Halted refl

module _ (i : SourceFacts) (o : SinkFacts) (j : SourceFacts) (p : SinkFacts)
    (h : List (Entry ServerNote)) (before now : ℕ) (extra : Option ℕ) where
  abbrev Knows : Bool → Bool → Bool → Bool → Option Halt → Type 0
  Knows = Known i o j p h before now extra

  abbrev due : (broken too_long lost : Bool) (why : Option Halt)
      → Knows false broken too_long lost why → HasLines most_input i j (journal_lines h)
  due broken too_long lost why k = record {
    taken = k.run.taken;
    extra = k.run.extra;
    decoded = k.run.decoded;
    word = k.run.word;
    takes = k.run.takes;
    closed = k.run.closed;
    is = k.run.lines;
  }

  read_fault : (broken too_long lost : Bool) (why : Option Halt)
      → Knows true broken too_long lost why → IsReadFault most_input i o j p
  read_fault broken too_long lost why k =
      record {
        taken = k.run.taken;
        extra = k.run.extra;
        takes = k.run.takes;
        written = by broken k.written;
      }
    where
      failing : IsFailing k.run.taken k.run.decoded k.run.word
      failing = failed_word j true k.run.taken k.run.extra k.run.decoded k.run.word k.run.closed
          (λ sound. false≢true (sym sound.0))

      text : journal_lines h ≡ lines_of k.run.taken kind.Failed
      text = k.run.lines ∙ (ap (λ (word : EndKind). lines_of k.run.decoded word) failing.0
          ∙ ap (λ (bytes : List ℕ). lines_of bytes kind.Failed) failing.1)

      by : (broken : Bool) → HasWritten broken o h p
          → TookAll o (lines_of k.run.taken kind.Failed) p
          ⊎ TookFront o (lines_of k.run.taken kind.Failed) p
      by false w = inl (subst (λ (text : List ℕ). TookAll o text p) text w)
      by true w = inr (subst (λ (text : List ℕ). TookFront o text p) text w.0)

  no_memory : (too_long lost : Bool) (why : Option Halt) → Knows false false too_long lost why
      → IsNoMemory most_input i o j p
  no_memory too_long lost why k = record {
    text = journal_lines h;
    due = inl (due false too_long lost why k);
    written = k.written;
  }

  too_much : (lost : Bool) (why : Option Halt) → Knows false false true lost why
      → IsTooLong most_input i o j p
  too_much lost why k =
      let behind = one_more extra (k.met refl) in
      let is : k.run.extra ≡ behind.0 ∷ [] = k.extra_is ∙ behind.1 in
      let failing = failed_word j false k.run.taken k.run.extra k.run.decoded k.run.word
      k.run.closed (λ sound. k.met refl (sym k.extra_is ∙ sound.1)) in
      let text : journal_lines h ≡ lines_of k.run.taken kind.Failed =
      k.run.lines ∙ (ap (λ (word : EndKind). lines_of k.run.decoded word) failing.0
      ∙ ap (λ (bytes : List ℕ). lines_of bytes kind.Failed) failing.1) in
      record {
        taken = k.run.taken;
        more = behind.0;
        takes = subst (λ (extra : List ℕ). TakesInput most_input false i j k.run.taken extra) is
            k.run.takes;
        written = subst (λ (text : List ℕ). TookAll o text p) text k.written;
      }

  ends_as_read : (too_long lost : Bool) (why : Option Halt)
      (k : Knows false false too_long lost why) → too_long ≡ false → lost ≡ false → why ≡ None
      → EndsAsRead k.run
  ends_as_read too_long lost why k not_long kept none_halted =
      let none : k.run.extra ≡ [] = k.extra_is ∙ k.not_met not_long in
      let closed = subst (λ (extra : List ℕ).
      IsClosedWith j false k.run.taken extra k.run.decoded k.run.word) none k.run.closed in
      let itself = k.closed none_halted in
      let ends = done_word j k.run.taken k.run.decoded k.run.word closed itself.not_stopped
      (sym itself.lost_is ∙ kept) in
      record {
        own = itself.own;
        word_is = ends.word_is;
        decodes = ends.same;
        all = ends.all;
        none_behind = none;
        moment = itself.moment;
        rest = itself.rest;
      }

  done : Knows false false false false None → IsDone most_input i o j p before now
  done k =
      let ends = ends_as_read false false None k refl refl refl in
      let takes = subst (λ (extra : List ℕ). TakesInput most_input false i j k.run.taken extra)
      ends.none_behind k.run.takes in
      let text : journal_lines h ≡ lines_of k.run.taken (end_of (decode k.run.taken).stop) =
      k.run.lines ∙ (ap (λ (word : EndKind). lines_of k.run.decoded word) ends.word_is
      ∙ ap (λ (bytes : List ℕ). lines_of bytes (end_of (decode k.run.taken).stop)) ends.decodes)
      in
      record {
        taken = k.run.taken;
        takes = takes;
        all = ends.all;
        decodes = decodes-left i.bytes j k.run.taken takes.moves ends.all;
        written = subst (λ (text : List ℕ). TookAll o text p) text k.written;
        volumes = k.volumes;
      }

  volume_fault : Knows false false false false (Some halt.VolumesFailed)
      → IsVolumeFault most_input i o j p before now
  volume_fault k = record {
    text = journal_lines h;
    due = due false false false (Some halt.VolumesFailed) k;
    none_behind = k.extra_is ∙ k.not_met refl;
    written = k.written;
    rose = k.volumes;
  }

  without_fault : (too_long lost : Bool) (why : Option Halt) → Knows false false too_long lost why
      → EndsSo most_input i o j p before now (end_without_fault too_long lost why)
  without_fault too_long true why k = no_memory too_long true why k
  without_fault too_long false (Some halt.NoMemory) k =
      no_memory too_long false (Some halt.NoMemory) k
  without_fault true false None k = too_much false None k
  without_fault true false (Some halt.VolumesFailed) k = too_much false (Some halt.VolumesFailed) k
  without_fault too_long false (Some halt.Broken) k = absurd (false≢true (k.halted refl))
  without_fault false false None k = done k
  without_fault false false (Some halt.VolumesFailed) k = volume_fault k

  pub has_status : (failed broken too_long lost : Bool) (why : Option Halt)
      → Knows failed broken too_long lost why
      → EndsSo most_input i o j p before now (end_by failed broken too_long lost why)
  has_status true broken too_long lost why k = read_fault broken too_long lost why k
  has_status false true too_long lost why k =
      record {
        text = journal_lines h;
        due = inl (due true too_long lost why k);
        written = k.written.0;
      }
  has_status false false too_long lost why k = without_fault too_long lost why k

  -- ---- what the journal says

  not_four : (too_long lost : Bool) (why : Option Halt)
      → code_by most_input (end_without_fault too_long lost why) ≡ 4 → ⊥
  not_four too_long lost why q = elim (code_cases too_long lost why) [
    | WithoutMemory e ↦ omega (arith, q, e)
    | TooLong e long ↦ omega (arith, q, e)
    | Done e short
        kept none ↦ omega (arith, q, e)
    | Halted e ↦ omega (arith, q, e)
  ]

  not_three : (too_long lost : Bool) (why : Option Halt)
      → code_by most_input (end_without_fault too_long lost why) ≡ 3 → ⊥
  not_three too_long lost why q = elim (code_cases too_long lost why) [
    | WithoutMemory e ↦ omega (arith, q, e)
    | TooLong e long ↦ omega (arith, q, e)
    | Done e short
        kept none ↦ omega (arith, q, e)
    | Halted e ↦ omega (arith, q, e)
  ]

  -- with status 0 it ended as reading stops
  at_zero : (failed broken too_long lost : Bool) (why : Option Halt)
      (k : Knows failed broken too_long lost why)
      → code_by most_input (end_by failed broken too_long lost why) ≡ 0 → EndsAsRead k.run
  at_zero true broken too_long lost why k q = absurd (omega (arith, q))
  at_zero false true too_long lost why k q = absurd (omega (arith, q))
  at_zero false false too_long lost why k q =
      elim (code_cases too_long lost why) [
        | WithoutMemory e ↦ absurd (omega (arith, q, e))
        | TooLong e long ↦ absurd (omega (arith, q, e))
        | Done e short kept none ↦ ends_as_read too_long lost why k short kept none
        | Halted e ↦ absurd (omega (arith, q, e))
      ]

  -- with status 11 a byte was met past the limit
  at_eleven : (failed broken too_long lost : Bool) (why : Option Halt)
      (k : Knows failed broken too_long lost why)
      → code_by most_input (end_by failed broken too_long lost why) ≡ 11 → k.run.extra ≢ []
  at_eleven true broken too_long lost why k q = absurd (omega (arith, q))
  at_eleven false true too_long lost why k q = absurd (omega (arith, q))
  at_eleven false false too_long lost why k q =
      elim (code_cases too_long lost why) [
        | WithoutMemory e ↦ absurd (omega (arith, q, e))
        | TooLong e long ↦ λ none. k.met long (sym k.extra_is ∙ none)
        | Done e short kept none ↦ absurd (omega (arith, q, e))
        | Halted e ↦ absurd (omega (arith, q, e))
      ]

  -- a read failed with status 3 and with no other
  at_three : (failed broken too_long lost : Bool) (why : Option Halt)
      → code_by most_input (end_by failed broken too_long lost why) ≡ 3 → failed ≡ true
  at_three true broken too_long lost why q = refl
  at_three false true too_long lost why q = absurd (omega (arith, q))
  at_three false false too_long lost why q = absurd (not_three too_long lost why q)

  at_others : (failed broken too_long lost : Bool) (why : Option Halt)
      → code_by most_input (end_by failed broken too_long lost why) ≢ 3 → failed ≡ false
  at_others true broken too_long lost why other = absurd (other refl)
  at_others false broken too_long lost why other = refl

  not_empty : {A : Type 0} (e : A) (xs ys : List A) → xs ≡ e ∷ ys → xs ≢ []
  not_empty e xs ys is none = cc

  pub stands_for : (f : IsFinished h) → Legal h 1
      → (failed broken too_long lost : Bool) (why : Option Halt)
      → Knows failed broken too_long lost why
      → StandsFor most_input i o j p (code_by most_input (end_by failed broken too_long lost why)) h
  stands_for f legal failed broken too_long lost why k = record {
    over = inr (finished_is_over h legal f);
    some = λ code. not_empty first_entry h f.served f.is;
    run = inr (record {
      one = record {
        served = f.served;
        is = f.is;
        kinds = f.kinds;
        none_refused = finished_refuses_none h legal f;
      };
      failed = failed;
      run = k.run;
      done = λ code. at_zero failed broken too_long lost why k code;
      read_fault = λ code. at_three failed broken too_long lost why code;
      no_read_fault = λ other. at_others failed broken too_long lost why other;
      too_long = λ code. at_eleven failed broken too_long lost why k code;
    });
    written = either broken k.written;
    whole = λ not_three not_four. all failed broken k.written not_three not_four;
    broken = λ code. front failed broken k.written code;
  }
    where
      either : (broken : Bool) → HasWritten broken o h p → HasWritten false o h p
          ⊎ HasWritten true o h p
      either true w = inr w
      either false w = inl w

      all : (failed broken : Bool) → HasWritten broken o h p
          → code_by most_input (end_by failed broken too_long lost why) ≢ 3
          → code_by most_input (end_by failed broken too_long lost why) ≢ 4 → TookAll o (journal_lines h) p
      all failed false w a b = w
      all true true w a b = absurd (a refl)
      all false true w a b = absurd (b refl)

      front : (failed broken : Bool) → HasWritten broken o h p
          → code_by most_input (end_by failed broken too_long lost why) ≡ 4 → BreaksLate o h p
      front failed true w code = w
      front true false w code = absurd (omega (arith, code))
      front false false w code = absurd (not_four too_long lost why code)

-- ---- a run that could not begin

-- its status: whether a write failed
abbrev pub end_unbegun : Bool → OneEnding
end_unbegun true = one.WriteFault
end_unbegun false = one.NoMemory

abbrev IsSame : Option (List ℕ) → Option (List ℕ) → Type 0
IsSame old new = (start : List ℕ) → old ≡ Some start → new ≡ Some start

nothing_whole : (o p : SinkFacts) → IsSame o.text p.text → p.faults ≡ o.faults → TookAll o [] p
nothing_whole o p same faults = record {
  text = λ start told. same start told ∙ ap Some (sym (append-nil start));
  faults = faults;
}

nothing_broken : (o p : SinkFacts) → IsSame o.text p.text → p.faults ≡ counted o.faults
    → TookFront o [] p
nothing_broken o p same one_failed =
    record {
      front = [];
      is_front = ([], refl);
      text = λ start told. same start told ∙ ap Some (sym (append-nil start));
      one_failed = one_failed;
    }

-- all of these bytes were written or, if a write failed, a front of them
abbrev IsWritten : Bool → SinkFacts → List ℕ → SinkFacts → Type 0
IsWritten false o bytes p = TookAll o bytes p
IsWritten true o bytes p = TookFront o bytes p

nothing_written : (o p : SinkFacts) (broken : Bool) → IsSame o.text p.text
    → CountsWrite broken o.faults p.faults → IsWritten broken o [] p
nothing_written o p true same faults = nothing_broken o p same faults
nothing_written o p false same faults = nothing_whole o p same faults

unbegun_status : (i : SourceFacts) (o : SinkFacts) (j : SourceFacts) (p : SinkFacts)
    (before now : ℕ) (broken : Bool) → j.bytes ≡ i.bytes → j.gave ≡ i.gave → j.faults ≡ i.faults
    → IsWritten broken o [] p
    → EndsSo most_input i o j p before now (end_unbegun broken)
unbegun_status i o j p before now true bytes gave faults written =
    record {
      text = [];
      due = inr (record {
        bytes = bytes;
        gave = gave;
        faults = faults;
        is = refl;
      });
      written = written;
    }
unbegun_status i o j p before now false bytes gave faults written =
    record {
      text = [];
      due = inr (record {
        bytes = bytes;
        gave = gave;
        faults = faults;
        is = refl;
      });
      written = written;
    }

no_lines : (journal : List (Entry ServerNote)) → (journal ≡ []) ⊎ (journal ≡ Ended ∷ [])
    → journal_lines journal ≡ []
no_lines journal (inl none) = ap journal_lines none
no_lines journal (inr ended) = ap journal_lines ended

over_at_once : (journal : List (Entry ServerNote)) → (journal ≡ []) ⊎ (journal ≡ Ended ∷ [])
    → (journal ≡ []) ⊎ IsWholeRun journal
over_at_once journal (inl none) = inl none
over_at_once journal (inr ended) = inr (subst IsWholeRun (sym ended) end_is_over)

none_returned : (journal : List (Entry ServerNote)) → (journal ≡ []) ⊎ (journal ≡ Ended ∷ [])
    → (text : List ℕ) → WroteUntilLast journal text
none_returned journal (inl none) text = let count : count_by is_return journal ≡ 0 =
    ap (count_by is_return) none in record {
      before = [];
      rest = journal;
      is = refl;
      few = omega (arith, count);
      written = (text, refl);
    }
none_returned journal (inr ended) text = let count : count_by is_return journal ≡ 0 =
    ap (count_by is_return) ended in record {
      before = [];
      rest = journal;
      is = refl;
      few = omega (arith, count);
      written = (text, refl);
    }

unbegun_stands : (i : SourceFacts) (o : SinkFacts) (j : SourceFacts) (p : SinkFacts)
    (journal : List (Entry ServerNote)) (broken : Bool) → j.bytes ≡ i.bytes → j.gave ≡ i.gave
    → j.faults ≡ i.faults → IsWritten broken o [] p
    → (journal ≡ []) ⊎ (journal ≡ Ended ∷ [])
    → StandsFor most_input i o j p (code_by most_input (end_unbegun broken)) journal
unbegun_stands i o j p journal broken bytes gave faults written entries =
    by broken (subst (λ (text : List ℕ). IsWritten broken o text p) (sym (no_lines journal entries))
    written)
  where
    by : (broken : Bool) → IsWritten broken o (journal_lines journal) p
        → StandsFor most_input i o j p (code_by most_input (end_unbegun broken)) journal
    by true w = record {
      over = over_at_once journal entries;
      some = λ code. absurd (omega (arith, code));
      run = inl (record {
        entries = entries;
        bytes = bytes;
        gave = gave;
        faults = faults;
        code_is = inl refl;
      });
      written = inr (w, none_returned journal entries w.front);
      whole = λ not_three not_four. absurd (not_four refl);
      broken = λ code. (w, none_returned journal entries w.front);
    }
    by false w = record {
      over = over_at_once journal entries;
      some = λ code. absurd (omega (arith, code));
      run = inl (record {
        entries = entries;
        bytes = bytes;
        gave = gave;
        faults = faults;
        code_is = inr refl;
      });
      written = inl w;
      whole = λ not_three not_four. w;
      broken = λ code. absurd (omega (arith, code));
    }

-- nothing was handed over
pub held_is : (v : VolumesFacts ServerNote) (held journal : List (Entry ServerNote))
    → IsTold v v 0 held journal → journal ≡ held
held_is v held journal (inr by) = by.1
held_is v held journal (inl by) = by_taken v.taken by
  where
    by_taken : (taken : Option (List (Entry ServerNote))) → IsTakenAndHeld taken taken held journal
        → journal ≡ held
    by_taken None by = absurd by
    by_taken (Some taken) by = by ∙ ap (λ (entries : List (Entry ServerNote)). entries ++ held)
        (drop-length taken)

pub unbegun : {S K V : Type 0} (source : S → SourceFacts) (sink : K → SinkFacts)
    (volumes : V → VolumesFacts ServerNote) (input : S) (output : K) (left : Unopened S K V)
    (end : OneEnding) → end ≡ end_unbegun left.broken
    → LeavesUnopened source sink input output left
    → RunsOne source sink volumes most_input (source input) (sink output) (volumes left.volumes)
    (record {
      end = end;
      journal = left.journal;
      first = 0;
      input = left.input;
      output = left.output;
      volumes = left.volumes;
    })
unbegun source sink volumes input output left end is leaves = record {
  status = subst (λ (end : OneEnding).
      EndsSo most_input (source input) (sink output) (source left.input) (sink left.output)
      (volumes left.volumes).faults (volumes left.volumes).faults end) (sym is)
      (unbegun_status (source input) (sink output) (source left.input) (sink left.output)
      (volumes left.volumes).faults (volumes left.volumes).faults left.broken leaves.bytes
      leaves.gave leaves.faults written);
  journal = λ journal told. subst (λ (end : OneEnding).
      StandsFor most_input (source input) (sink output) (source left.input) (sink left.output)
      (code_by most_input end) journal) (sym is)
      (subst (λ (entries : List (Entry ServerNote)).
      StandsFor most_input (source input) (sink output) (source left.input) (sink left.output)
      (code_by most_input (end_unbegun left.broken)) entries)
      (sym (held_is (volumes left.volumes) left.journal.entries journal told))
      (unbegun_stands (source input) (sink output) (source left.input) (sink left.output)
      left.journal.entries left.broken leaves.bytes leaves.gave leaves.faults written
      leaves.journal));
  some_journal = subst (λ (end : OneEnding).
      SomeJournal most_input (source input) (sink output) (source left.input) (sink left.output)
      (code_by most_input end) 0 left.journal.entries) (sym is) (record {
        journal = left.journal.entries;
        within = omega arith;
        is_held = refl;
        stands = unbegun_stands (source input) (sink output) (source left.input) (sink left.output)
            left.journal.entries left.broken leaves.bytes leaves.gave leaves.faults written
            leaves.journal;
      });
  first = none_handed_over (volumes left.volumes).taken;
}
  where
    written : IsWritten left.broken (sink output) [] (sink left.output)
    written = nothing_written (sink output) (sink left.output) left.broken leaves.text
        leaves.output_faults

-- ---- other words
