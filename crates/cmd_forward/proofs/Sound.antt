-- That a run in which nothing goes wrong sends all.
use Rattle.std.proofs.Common.{ℕ, ◌≡◌, ◌≢◌, ◌≤◌, ◌<◌, ◌+◌, ◌⊎◌, inl, inr, Bool, true, false, arith}
use Rattle.std.proofs.Common.{List, [], ◌∷◌, ◌++◌, length, Option, Some, None, refl, sym, ap, subst}
use Rattle.std.proofs.Common.{◌∙◌, append_assoc, length-append, ⊎_elim}
use Rattle.std.proofs.lemmas.List.{append-nil}
use Rattle.ev_base.specs.Bytes.{MovesOn, NothingLeft, ReaderBytes}
use Rattle.ev_base.specs.Counts.{Rose}
use Rattle.ev_base.specs.End.{EndFacts}
use Rattle.ev_base.specs.Net.{NetFacts}
use Rattle.ev_base.specs.Sink.{SinkFacts}
use Rattle.ev_base.specs.Source.{SourceFacts}
use Rattle.cmd_line.specs.Given.{Text}
use Rattle.connector_run.specs.Leaving.{LastWaitWasOver}
use Rattle.reactor_core.specs.Ends.{WhereTold}
use Rattle.forwarder.specs.cdr_record.specs.Decoding.{Clean, Malformed, Partial, decode}
use Rattle.forwarder.specs.cdr_record.proofs.Runs.{bad_ends}
use Rattle.forwarder.specs.one_net.specs.bounded_input.specs.Input.{FaultsSince}
use Rattle.forwarder.specs.one_net.specs.bounded_input.specs.Input.{TakesInput}
use Rattle.exit_status.specs.Statuses.{code_of}
use Rattle.cmd_forward.specs.Answers.{HasBegun, HasOutcome, most_input}
use Rattle.cmd_forward.specs.Laws.{HaveNoFaults, IsClean, IsSound, IsSoundNet}
use Rattle.cmd_forward.specs.Runs.{HasRun, WasAnsweredAt}
use Rattle.cmd_forward.specs.Statuses.{StopsAtRecord, status_by}
use Rattle.cmd_forward.specs.declared.command.Forwarded.{Forwarded}
use Rattle.cmd_forward.specs.declared.outcome.Outcome.{Outcome}
use Rattle.cmd_forward.specs.declared.outcome.Outcome.TheVariants as outcome
use Rattle.cmd_forward.specs.declared.words.ForwardOptions.{ForwardOptions}

-- ---- what is told

at_told : {A : Type 0} (P : A → Type 0) (told : Option A) (a : A) → told ≡ Some a
    → WhereTold P told → P a
at_told {A} P told a is h = subst (λ (o : Option A). WhereTold P o) is h

same_options : (a b : ForwardOptions) → ◌≡◌ {A = Option ForwardOptions} (Some a) (Some b) → a ≡ b
same_options a b q = cc

no_words : {X : Type 0} (a : ForwardOptions) → ◌≡◌ {A = Option ForwardOptions} None (Some a) → X
no_words a q = cc

risen : (failed : Bool) (before now : ℕ) → failed ≡ true → FaultsSince failed before now
    → Rose before now
risen true before now is h = h
risen false before now is h = cc

none_some : {X : Type 0} {n : ℕ} → n ≡ 0 → 1 ≤ n → X
none_some none some = absurd (omega (arith, none, some))

-- ---- the input

malformed_clean : {X : Type 0} (at : ℕ) → Malformed at ≡ Clean → X
malformed_clean at q = cc

partial_clean : {X : Type 0} (n : ℕ) → Partial n ≡ Clean → X
partial_clean n q = cc

module _ (i j : SourceFacts) (failed : Bool) (taken extra : List ℕ)
    (takes : TakesInput most_input failed i j taken extra) where
  -- what is left of clean bytes
  few_more : (b : Option ReaderBytes) → MovesOn b (taken ++ extra) j.bytes → IsClean b
      → length taken + length extra ≤ most_input
  few_more None moves clean = absurd clean
  few_more (Some bytes) moves clean = by j.bytes moves
    where
      by : (now : Option ReaderBytes) → MovesOn (Some bytes) (taken ++ extra) now
          → length taken + length extra ≤ most_input
      by None moves = absurd moves
      by (Some new) moves = omega (
        arith,
        clean.1,
        ap length moves.0,
        length-append (taken ++ extra) new.left,
        length-append taken extra,
      )

  none_behind : IsClean i.bytes → extra ≢ [] → ⊥
  none_behind clean some =
      let b = takes.behind some in
      omega (arith, few_more i.bytes takes.moves clean, b.0, b.1)

  no_extra : IsClean i.bytes → extra ≡ []
  unfolding none_behind
  no_extra clean = by extra refl
    where
      by : (xs : List ℕ) → extra ≡ xs → xs ≡ []
      by [] is = refl
      by (x ∷ xs) is = absurd (none_behind clean (λ none. no_empty (sym is ∙ none)))
        where
          no_empty : x ∷ xs ≡ [] → ⊥
          no_empty q = cc

  no_stop : (at : ℕ) → IsClean i.bytes → StopsAtRecord j taken at → ⊥
  unfolding no_extra
  no_stop at clean stops = by i.bytes j.bytes refl refl takes.moves clean stops
    where
      by : (old now : Option ReaderBytes) → i.bytes ≡ old → j.bytes ≡ now
          → MovesOn old (taken ++ extra) now → IsClean old → StopsAtRecord j taken at → ⊥
      by None now was is moves clean_ stops = absurd clean_
      by (Some old) None was is moves clean_ stops = absurd moves
      by (Some old) (Some new) was is moves clean_ (inl bad) =
          let all : old.left ≡ taken ++ (extra ++ new.left) =
          moves.0 ∙ append_assoc taken extra new.left in
          malformed_clean at (sym bad ∙ (sym (ap (λ d. d.stop) (bad_ends taken (extra ++ new.left)
          at bad)) ∙ (ap (λ (xs : List ℕ). (decode xs).stop) (sym all) ∙ clean_.0)))
      by (Some old) (Some new) was is moves clean_ (inr short) =
          let none : new.left ≡ [] =
          subst (λ (o : Option ReaderBytes). NothingLeft o) is short.0.nothing_left in
          let all : old.left ≡ taken =
          moves.0 ∙ (ap (λ (xs : List ℕ). (taken ++ extra) ++ xs) none
          ∙ (append-nil (taken ++ extra)
          ∙ (ap (λ (xs : List ℕ). taken ++ xs) (no_extra clean) ∙ append-nil taken))) in
          partial_clean short.1.0 (sym short.1.1 ∙ (ap (λ (xs : List ℕ). (decode xs).stop) (sym all)
          ∙ clean_.0))

-- ---- the statuses

module _ {M S K E : Type 0} (tells : E → EndFacts) (facts : M → NetFacts E)
    (source : S → SourceFacts) (sink : K → SinkFacts) (words : List Text) (before now : ℕ)
    (input : S) (output : K) (left : Forwarded M S K)
    (is : IsSound tells facts source sink words before now input output left) where
  -- the net of a run, on the options of the words
  net_of : (P : ForwardOptions → M → Type 0) (b : HasBegun words before now left P)
      → IsSoundNet tells b.options.wait (facts b.net)
  net_of P b = subst (λ (o : ForwardOptions). IsSoundNet tells o.wait (facts b.net))
      (same_options is.options b.options (sym is.called ∙ b.called)) (is.net b.net b.net_is)

  no_faults : (n : NetFacts E) (wait : ℕ) → IsSoundNet tells wait n
      → (run : HasRun tells most_input (source input) (source left.input) n)
      → (tells run.end).faults ≡ 0
  no_faults n wait s run =
      let ends = at_told (λ ends. ends ≡ (0, run.end) ∷ []) n.retired s.ends s.told_ends
      run.took_back.retired in
      (subst (HaveNoFaults tells) ends s.no_faults).0

  pub sound : (told : Outcome) → left.status ≡ code_of (status_by most_input told)
      → HasOutcome tells facts source sink words before now input output left told
      → (left.status ≡ 0) ⊎ (left.status ≡ 6)
  unfolding net_of no_faults
  sound (outcome.Done records bytes) code means = inl code
  sound outcome.Usage code means = no_words is.options (sym means.refused ∙ is.called)
  sound outcome.ReadFault code means =
      let run = means.so.1.0 in
      absurd (is.read (risen run.failed (source input).faults (source left.input).faults
      means.so.1.1.rose run.takes.faults))
  sound outcome.WriteFault code means = absurd (is.wrote means.so.4.one_failed)
  sound outcome.NetFault code means =
      let net = net_of _ means in
      ⊎_elim (λ failed. none_some net.waits failed.1) (λ failed. none_some net.attaches failed.1)
      means.so.1
  sound outcome.NoMemory code means = inr code
  sound (outcome.BadRecord at) code means =
      let run = means.so.1.0 in
      absurd (no_stop (source input) (source left.input) run.failed run.taken run.extra run.takes
      at is.clean means.so.1.1.stops)
  sound outcome.TooLong code means =
      let run = means.so.1.0 in
      absurd (none_behind (source input) (source left.input) run.failed run.taken run.extra
      run.takes is.clean means.so.1.1.more)
  sound outcome.PeerFault code (inl failed) = absurd (is.dialled failed.rose)
  sound outcome.PeerFault code (inr b) =
      none_some (no_faults (facts b.net) b.options.wait (net_of _ b) b.so.1.0) b.so.1.1.failed
  sound (outcome.ConnectTimeout at) code means =
      let net = net_of _ means in
      absurd (both (net.early at (at_told (WasAnsweredAt at) (facts means.net).calls net.calls
      net.told_calls means.so.1.1.waited)) means.so.1.1.late)
    where
      both : {n k : ℕ} → n < k → k ≤ n → ⊥
      both less more = omega (arith, less, more)
  sound outcome.Unfinished code means =
      let net = net_of _ means in
      absurd (net.goes_on (at_told LastWaitWasOver (facts means.net).calls net.calls net.told_calls
      means.so.1.1.over))
