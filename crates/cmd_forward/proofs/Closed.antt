-- What the status says of a run whose connector closed itself.
use Rattle.std.proofs.Common.{ℕ, ◌≡◌, ◌≤◌, ◌^◌, inl, inr, ⊎_elim, Bool, true, false}
use Rattle.std.proofs.Common.{List, [], ◌∷◌, ◌++◌, length, Option, Some, None, refl, sym, ap, subst}
use Rattle.std.proofs.Common.{◌∙◌, arith}
use Rattle.std.specs.Prelude.{IsSome}
use Rattle.std.proofs.lemmas.Bool.{and_parts, false≢true}
use Rattle.std.proofs.lemmas.List.{append-nil}
use Rattle.ev_base.specs.Counts.{Counts}
use Rattle.ev_base.specs.End.{EndFacts}
use Rattle.ev_base.specs.Net.{NetFacts}
use Rattle.ev_base.specs.Source.{SourceFacts}
use Rattle.ev_base.specs.Terms.{Terms}
use Rattle.ev_base.specs.declared.end.PeerEnd.{Ghosts}
use Rattle.ev_base.specs.ev_types.specs.declared.upcall.Answer.TheVariants.{Close}
use Rattle.ev_base.specs.ev_types.specs.declared.upcall.Why.{Why}
use Rattle.reactor_model.specs.Handling.{EndsInClose, NoClose}
use Rattle.reactor_model.specs.Turns.{IsTimeout}
use Rattle.reactor_model.specs.reactor_journal.specs.Event.{Item}
use Rattle.reactor_core.specs.Ends.{WhereTold}
use Rattle.forwarder.specs.connector.specs.Connecting.{served}
use Rattle.forwarder.specs.connector.specs.declared.note.ConnectNote.{ConnectNote}
use Rattle.forwarder.specs.cdr_record.specs.Decoding.{Clean, bad_at, bad_of, decode, left_of}
use Rattle.forwarder.specs.cdr_record.specs.Decoding.{stop_at, taken_of, told}
use Rattle.forwarder.specs.cdr_record.specs.Grammar.{first_of}
use Rattle.forwarder.specs.cdr_record.proofs.Cutting.{first_nil}
use Rattle.forwarder.specs.cdr_record.specs.declared.grammar.First.{First}
use Rattle.forwarder.specs.cdr_record.specs.declared.grammar.First.TheVariants as first
use Rattle.forwarder.specs.Feeding.{feed}
use Rattle.forwarder.specs.Forwarded.{EndedSo, GoesOnFrom, HasForwarded, HasStopped, IfSo}
use Rattle.forwarder.specs.Forwarded.{LastIs, LeavesTurn, UnlessWanting}
use Rattle.forwarder.specs.Forwarding.{State, note_of}
use Rattle.forwarder.specs.ForwardEnds.{input_end, peer_of}
use Rattle.forwarder.specs.Laws.{TotalsAreExact}
use Rattle.forwarder.specs.Services.{state_of}
use Rattle.forwarder.specs.declared.forward_end.ForwardEnd.{ForwardEnd}
use Rattle.forwarder.specs.declared.note.ForwardEnding.{ForwardEnding}
use Rattle.forwarder.specs.declared.note.ForwardEnding.TheVariants as ending
use Rattle.forwarder.specs.declared.note.ForwardNote.{ForwardNote}
use Rattle.forwarder.specs.one_net.specs.OneEnd.{failed_of, input_of}
use Rattle.forwarder.specs.one_net.specs.OneEnd.{one_end_facts}
use Rattle.forwarder.specs.one_net.specs.bounded_input.specs.Input.{IsReadToEnd}
use Rattle.cmd_forward.specs.Answers.{most_input}
use Rattle.cmd_forward.specs.Endings.{Closes, cause_of, cause_when_failed, outcome_closed}
use Rattle.cmd_forward.specs.Endings.{outcome_ended, outcome_for}
use Rattle.cmd_forward.specs.Runs.{HasRun, HasWaited, TookBack, WasAnsweredAt, WroteNone}
use Rattle.cmd_forward.specs.declared.outcome.Outcome.{Outcome}
use Rattle.cmd_forward.specs.Statuses.{HasSentAll, RunEnds, StopsAtRecord}
use Rattle.cmd_forward.proofs.Courses.{HasAsked, LastTurn, Refused, Served, TimedOut, ends_in_close}
use Rattle.cmd_forward.proofs.Courses.{last_turn}
use Rattle.cmd_forward.proofs.Runs.{Left, has_run, no_bytes}

-- ---- how reading stops

clean_first : (place left : ℕ) (f : First) → stop_at place left f ≡ Clean → bad_at place f ≡ None
clean_first place left (first.Bad why) q = cc
clean_first place left _ q = refl

clean_none : (t : List ℕ) → (decode t).stop ≡ Clean → bad_of t ≡ None
clean_none t q = clean_first (taken_of t) (length (left_of t)) (first_of (left_of t)) q

bad_nothing : bad_of [] ≡ None
unfolding left_of
bad_nothing = ap (bad_at 0) first_nil

told_place : (t : List ℕ) → length t ≤ 2 ^ 40 → told (taken_of t) ≡ taken_of t
told_place t few = omega (arith, few)

-- ---- lists

pub last_is : (P : Item ForwardNote → Type 0) (front : List (Item ForwardNote))
    (item : Item ForwardNote) → LastIs P (front ++ item ∷ []) → P item
last_is P [] item h = h
last_is P (x ∷ []) item h = h
last_is P (x ∷ y ∷ front) item h = last_is P (y ∷ front) item h

module _ {E S : Type 0} {G : Ghosts E} (tells : E → EndFacts) (keeps : Terms → E → Type 0)
    (source : S → SourceFacts) (i : SourceFacts) (wait : ℕ) (exact : TotalsAreExact)
    (end : ForwardEnd E S G) (turns : List (Item (ConnectNote ForwardNote))) (why : Why)
    (said : ConnectNote ForwardNote) (n : NetFacts E)
    (left : Left tells keeps source i end turns why said) (took : TookBack (peer_of end) n) where
  abbrev j : SourceFacts
  j = source (input_of (input_end end))

  abbrev run : HasRun tells most_input i j n
  run = has_run tells keeps source i end turns why said n left took

  abbrev s : State
  s = state_of tells source left.service end

  abbrev f : HasForwarded s
  f = left.has_served.turned.forwarded

  abbrev failed : Bool
  failed = failed_of (input_end end)

  abbrev Ends : Outcome → Type 0
  Ends outcome = RunEnds tells most_input wait i j n outcome

  within : length f.taken ≤ 2 ^ 40
  within = omega (arith, left.kept_end.input.within, left.kept_end.input.limit, f.gave)

  -- the input was read to its end
  read_to_end : (one_end_facts source (input_end end)).over ≡ true → IsReadToEnd j
  read_to_end over = record {
    over = (and_parts _ _ (and_parts _ _ over).1).1;
    nothing_left = (left.kept_end.input.at_end over).0;
  }

  -- ---- the service ended for something that is no fault of its peer

  done_status : (b : Bool) → failed ≡ b → f.rest ≡ [] → HasStopped ending.End f.taken s.facts
      → GoesOnFrom f.taken f.rest s → left.now.connected ≡ true
      → Ends (outcome_for ending.End b s.records s.bytes)
  unfolding within read_to_end
  done_status true is none stopped going connected =
      (run, record { rose = is; all = inl none })
  done_status false is none stopped going connected =
      let whole : feed f.taken ≡ f.sent =
      f.whole ∙ (ap (λ (rest : List ℕ). f.sent ++ rest) none ∙ append-nil f.sent) in
      let totals = exact f.taken s.records s.bytes within going.records
      (subst (λ (xs : List ℕ). Counts s.bytes (length xs)) (sym whole) f.bytes) in (
        run,
        record {
          sound = is;
          none_behind = (left.kept_end.input.at_end stopped.0).1;
          over = read_to_end stopped.0;
          clean = stopped.1;
          all = none;
          made = left.dialled.last_finish ∙ left.dialled.made connected;
          records = totals.0;
          bytes = totals.1;
        },
      )

  stops_at : (at : ℕ) → HasStopped (ending.BadRecord at) f.taken s.facts
      → StopsAtRecord j f.taken at
  unfolding within read_to_end
  stops_at at (inl bad) = inl bad
  stops_at at (inr short) =
      inr (read_to_end short.0, (short.1.0, short.1.1, short.1.2 ∙ told_place f.taken within))

  bad_status : (at : ℕ) (b : Bool) → failed ≡ b → HasSentAll run
      → HasStopped (ending.BadRecord at) f.taken s.facts
      → Ends (outcome_for (ending.BadRecord at) b s.records s.bytes)
  unfolding stops_at
  bad_status at true is all stopped = (run, record { rose = is; all = all })
  bad_status at false is all stopped =
      (run, record { sound = is; stops = stops_at at stopped; all = all })

  read_status : (b : Bool) → failed ≡ b → HasSentAll run
      → HasStopped ending.ReadFailed f.taken s.facts
      → Ends (outcome_for ending.ReadFailed b s.records s.bytes)
  read_status true is all stopped = (run, record { rose = is; all = all })
  read_status false is all stopped = (
    run,
    record {
      sound = is;
      more =
          ⊎_elim (λ fault. absurd (false≢true (sym is ∙ fault))) (λ more. more)
          (left.kept_end.input.cause (left.kept_end.read_fault stopped.0));
      none_bad = stopped.1;
      all = all;
    },
  )

  -- ---- the service ended

  module _ (is : left.service.ended ≡ Some ending.PeerFailed) where
    peer_failed : 1 ≤ (tells (peer_of end)).faults
    peer_failed =
        left.kept_end.write_fault (subst (λ (o : Option ForwardEnding).
        IfSo o (λ how. EndedSo how f.taken f.rest s.facts)) is f.ended)

    by_stop : (o : Option ForwardEnding) → s.stop ≡ o
        → Ends (outcome_for (cause_when_failed o) failed s.records s.bytes)
    unfolding peer_failed
    by_stop None q =
        let going = subst (λ (o : Option ForwardEnding).
        UnlessWanting o (GoesOnFrom f.taken f.rest s)) is f.going in
        (run, record { failed = peer_failed; none_bad = going.sound q })
    by_stop (Some ending.End) q =
        let stopped = subst (λ (o : Option ForwardEnding).
        IfSo o (λ how. HasStopped how f.taken s.facts)) q f.stop in
        (run, record { failed = peer_failed; none_bad = clean_none f.taken stopped.1 })
    by_stop (Some (ending.BadRecord at)) q =
        bad_status at failed refl (inr peer_failed) (subst (λ (o : Option ForwardEnding).
        IfSo o (λ how. HasStopped how f.taken s.facts)) q f.stop)
    by_stop (Some ending.ReadFailed) q =
        read_status failed refl (inr peer_failed) (subst (λ (o : Option ForwardEnding).
        IfSo o (λ how. HasStopped how f.taken s.facts)) q f.stop)
    by_stop (Some ending.PeerFailed) q = absurd (subst (λ (o : Option ForwardEnding).
        IfSo o (λ how. HasStopped how f.taken s.facts)) q f.stop)
    by_stop (Some ending.NoMemory) q = absurd (subst (λ (o : Option ForwardEnding).
        IfSo o (λ how. HasStopped how f.taken s.facts)) q f.stop)

  by_how : (how : ForwardEnding) → s.ended ≡ Some how → left.now.connected ≡ true
      → Ends (outcome_for (cause_of s.stop how) failed s.records s.bytes)
  unfolding by_stop
  by_how ending.End is connected =
      let e = subst (λ (o : Option ForwardEnding).
      IfSo o (λ how. EndedSo how f.taken f.rest s.facts)) is f.ended in
      let going = subst (λ (o : Option ForwardEnding).
      UnlessWanting o (GoesOnFrom f.taken f.rest s)) is f.going in
      done_status failed refl e.0 e.1 going connected
  by_how (ending.BadRecord at) is connected =
      let e = subst (λ (o : Option ForwardEnding).
      IfSo o (λ how. EndedSo how f.taken f.rest s.facts)) is f.ended in
      bad_status at failed refl (inl e.0) e.1
  by_how ending.ReadFailed is connected =
      let e = subst (λ (o : Option ForwardEnding).
      IfSo o (λ how. EndedSo how f.taken f.rest s.facts)) is f.ended in
      read_status failed refl (inl e.0) e.1
  by_how ending.PeerFailed is connected = by_stop is s.stop refl
  by_how ending.NoMemory is connected = inl run

  by_ended : (o : Option ForwardEnding) → s.ended ≡ o → IsSome o → left.now.connected ≡ true
      → Ends (outcome_ended o (note_of s) failed)
  by_ended None is some connected = absurd (false≢true some)
  by_ended (Some how) is some connected = by_how how is connected

  -- ---- the connector closed itself

  -- a timeout was late enough, at the moment of a wait
  abbrev WasLate : ℕ → Type 0
  WasLate at = (wait ≤ at) × WhereTold (WasAnsweredAt at) n.calls × (at ≤ n.now)

  unused : left.now.connected ≡ false → (f.taken ≡ []) × WroteNone (tells (peer_of end))
  unused none =
      let u = left.dialled.unused none in (
        no_bytes f.taken (sym f.gave ∙ u.gave),
        record { writes = u.writes; last_write = u.last_write; written = u.written },
      )

  waited : HasAsked left.now → HasWaited (tells (peer_of end))
  waited (inl none) =
      inl (count_none left.dialled.finishes none.0, left.dialled.last_finish ∙ none.1)
    where
      count_none : {count many : ℕ} → Counts count many → many ≡ 0 → count ≡ 0
      count_none is none = omega (arith, is, none)
  waited (inr paused) = inr (left.dialled.last_finish ∙ paused)

  none_bad : f.taken ≡ [] → bad_of f.taken ≡ None
  none_bad none = ap bad_of none ∙ bad_nothing

  module _ (item : Item (ConnectNote ForwardNote)) (late : IsTimeout item.upcall
      → WasLate item.moment) where
    by_turn : LastTurn item left.now → item.answer ≡ Close
        → Ends (outcome_closed item.note failed)
    unfolding by_ended unused waited none_bad
    by_turn (Served spoke front notes live connected) close =
        let turned = left.has_served.turned in
        let ends : EndsInClose left.now.live =
        subst (λ (xs : List (Item ForwardNote)). EndsInClose xs) (sym live)
        (ends_in_close front (served item spoke) close) in
        let last = last_is (LeavesTurn s) front (served item spoke)
        (subst (λ (xs : List (Item ForwardNote)). LastIs (LeavesTurn s) xs) live turned.last) in
        subst (λ (x : ConnectNote ForwardNote). Ends (outcome_closed x failed)) (sym notes)
        (subst (λ (x : ForwardNote). Ends (outcome_ended x.ended x failed)) (sym last.notes)
        (by_ended s.ended refl (turned.closed ends) connected))
    by_turn (Refused notes asked connected) close =
        subst (λ (x : ConnectNote ForwardNote). Ends (outcome_closed x failed)) (sym notes) (
          run,
          record {
            failed = left.kept_end.finish_fault (left.dialled.last_finish ∙ asked);
            none_bad = none_bad (unused connected).0;
          },
        )
    by_turn (TimedOut notes timed connected asked) close =
        let u = unused connected in
        let l = late timed in
        subst (λ (x : ConnectNote ForwardNote). Ends (outcome_closed x failed)) (sym notes) (
          run,
          record {
            late = l.0;
            waited = l.1;
            reached = l.2;
            unmade = waited asked;
            unused = u.1;
            none_taken = u.0;
          },
        )

    closes : LastTurn item left.now → item.answer ≡ Close → Closes item.note
    closes (Served spoke front notes live connected) close =
        let turned = left.has_served.turned in
        let ends : EndsInClose left.now.live =
        subst (λ (xs : List (Item ForwardNote)). EndsInClose xs) (sym live)
        (ends_in_close front (served item spoke) close) in
        let last = last_is (LeavesTurn s) front (served item spoke)
        (subst (λ (xs : List (Item ForwardNote)). LastIs (LeavesTurn s) xs) live turned.last) in
        subst (λ (x : ConnectNote ForwardNote). Closes x) (sym notes)
        (subst (λ (x : ForwardNote). IsSome x.ended) (sym last.notes) (turned.closed ends))
    closes (Refused notes asked connected) close =
        subst (λ (x : ConnectNote ForwardNote). Closes x) (sym notes) tt
    closes (TimedOut notes timed connected asked) close =
        subst (λ (x : ConnectNote ForwardNote). Closes x) (sym notes) tt

-- the status of a run whose connector closed itself in its last turn
module _ {E S : Type 0} {G : Ghosts E} (tells : E → EndFacts) (keeps : Terms → E → Type 0)
    (source : S → SourceFacts) (i : SourceFacts) (wait : ℕ) (exact : TotalsAreExact)
    (end : ForwardEnd E S G) (earlier : List (Item (ConnectNote ForwardNote)))
    (item : Item (ConnectNote ForwardNote)) (why : Why) (said : ConnectNote ForwardNote)
    (n : NetFacts E) (left : Left tells keeps source i end (earlier ++ item ∷ []) why said)
    (took : TookBack (peer_of end) n) (goes_on : NoClose earlier) (close : item.answer ≡ Close)
    (late : IsTimeout item.upcall → (wait ≤ item.moment)
    × WhereTold (WasAnsweredAt item.moment) n.calls × (item.moment ≤ n.now)) where
  pub ends_closed : RunEnds tells most_input wait i (source (input_of (input_end end))) n
      (outcome_closed item.note (failed_of (input_end end)))
  ends_closed = by_turn tells keeps source i wait exact end (earlier ++ item ∷ []) why said n left
      took item late (last_turn earlier item left.now left.course goes_on close) close

  pub notes_closing : Closes item.note
  notes_closing = closes tells keeps source i wait exact end (earlier ++ item ∷ []) why said n left
      took item late (last_turn earlier item left.now left.course goes_on close) close
