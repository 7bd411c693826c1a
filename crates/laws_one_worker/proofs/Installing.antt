-- What is registered, refused and timed in a run over a script: after each turn that accepted a
-- connection its handler, and its timer after that, and nothing else.
use Rattle.std.proofs.Common.{ℕ, zero, suc, ◌≡◌, ◌∙◌, ◌+◌, ◌≤◌, ◌<◌, ◌==◌, Bool, true, false, not}
use Rattle.std.proofs.Common.{◌&&◌, ◌||◌, List, [], ◌∷◌, ◌++◌, length, reverse, Option, Some, None}
use Rattle.std.proofs.Common.{refl, sym, subst, ap, arith, append_assoc}
use Rattle.std.specs.Prelude.{nat_lt}
use Rattle.std.specs.List.{list_any, AllByRecursion}
use Rattle.std.proofs.lemmas.Bool.{false≢true, and_parts, and_from, both_ways, ne_eqb, ltb-true}
use Rattle.laws_script_calls.specs.ev_types.specs.declared.upcall.Answer.{Answer}
use Rattle.laws_script_calls.specs.ev_types.specs.declared.upcall.Answer.TheVariants.{Again}
use Rattle.laws_script_calls.specs.ev_types.specs.declared.upcall.Handle.{Handle}
use Rattle.laws_script_calls.specs.ev_types.specs.declared.upcall.Mask.{Mask}
use Rattle.laws_script_calls.specs.ev_types.specs.declared.upcall.Upcall.{Upcall}
use Rattle.laws_script_calls.specs.ev_types.specs.declared.upcall.Upcall.TheVariants.{Input, Output}
use Rattle.laws_script_calls.specs.ev_types.specs.declared.upcall.Upcall.TheVariants.{Except}
use Rattle.laws_script_calls.specs.ev_types.specs.declared.upcall.Upcall.TheVariants.{Timeout}
use Rattle.laws_script_calls.specs.ev_types.specs.declared.upcall.Upcall.TheVariants.{Notice}
use Rattle.laws_script_calls.specs.ev_base.specs.Terms.{Terms}
use Rattle.laws_script_calls.specs.reactor_journal.specs.Event.{Item}
use Rattle.laws_script_calls.specs.reactor_journal.specs.declared.entry.Entry.{Entry}
use Rattle.laws_script_calls.specs.reactor_journal.specs.declared.entry.Entry.TheVariants.{Opened}
use Rattle.laws_script_calls.specs.reactor_journal.specs.declared.entry.Entry.TheVariants.{
  Scheduled,
}
use Rattle.laws_script_calls.specs.reactor_journal.specs.declared.entry.Entry.TheVariants.{
  Cancelled,
}
use Rattle.laws_script_calls.specs.reactor_journal.specs.declared.entry.Entry.TheVariants.{Posted}
use Rattle.laws_script_calls.specs.reactor_journal.specs.declared.entry.Entry.TheVariants.{Stale}
use Rattle.laws_script_calls.specs.reactor_journal.specs.declared.entry.Entry.TheVariants.{Returned}
use Rattle.laws_script_calls.specs.reactor_journal.specs.declared.entry.Entry.TheVariants.{Masked}
use Rattle.laws_script_calls.specs.reactor_journal.specs.declared.entry.Entry.TheVariants.{
  Suspended,
}
use Rattle.laws_script_calls.specs.reactor_journal.specs.declared.entry.Entry.TheVariants.{Resumed}
use Rattle.laws_script_calls.specs.reactor_journal.specs.declared.entry.Entry.TheVariants.{Refused}
use Rattle.laws_script_calls.specs.reactor_journal.specs.declared.entry.Entry.TheVariants.{Closed}
use Rattle.laws_script_calls.specs.reactor_journal.specs.declared.entry.Entry.TheVariants.{Ended}
use Rattle.laws_script_calls.specs.reactor_journal.specs.declared.entry.Entry.TheVariants.{Removed}
use Rattle.laws_script_calls.specs.reactor_journal.specs.Past.{past_of, had, now, live, opened}
use Rattle.laws_script_calls.specs.reactor_journal.specs.Past.{ended, is_ended}
use Rattle.laws_script_calls.specs.reactor_journal.specs.Follow.{is_legal, may_follow, most_handles}
use Rattle.laws_script_calls.specs.reactor_journal.proofs.Alive.{dead_was_removed}
use Rattle.laws_script_calls.specs.reactor_journal.proofs.Basics.{may_fits}
use Rattle.laws_script_calls.specs.reactor_journal.proofs.Closing.{closing}
use Rattle.laws_script_calls.specs.reactor_journal.proofs.Turning.{is_legal-front}
use Rattle.laws_script_calls.specs.reactor_model.specs.Handling.{Handling, Deed, Installing}
use Rattle.laws_script_calls.specs.reactor_model.specs.Handling.{Masking, Cancelling}
use Rattle.laws_script_calls.specs.acceptor.specs.Accepting as accepting
use Rattle.laws_script_calls.specs.acceptor.specs.Idle.{idle_timer}
use Rattle.laws_script_calls.specs.acceptor.specs.Servers.{ServerMay, read_alone}
use Rattle.laws_script_calls.specs.acceptor.specs.Servers.{is_accepted as says_accepted}
use Rattle.laws_script_calls.specs.laws_by_turns.specs.ByTurns.{GoesByTurn, MayHere, TimerBehind}
use Rattle.laws_script_calls.specs.laws_by_turns.specs.ByTurns.{IsRegisteredHere, OffersBehind}
use Rattle.laws_script_calls.specs.event_script.specs.Script.{ScriptGroup, steps_of}
use Rattle.laws_script_calls.specs.log_handler.specs.declared.note.ServerNote.{ServerNote}
use Rattle.laws_script_calls.specs.log_handler.specs.declared.note.ServerNote.TheVariants as note
use Rattle.laws_one_worker.specs.Alone.{RunsAlone}
use Rattle.laws_script_calls.specs.reactor_core.specs.Stands.{Meaning}
use Rattle.tp_reactor.specs.reactor_desk.specs.declared.terms.DeskTerms.{DeskTerms}
use Rattle.tp_reactor.specs.declared.working.Ran.{Ran}
use Rattle.laws_script_calls.specs.laws_script_runs.specs.Runs.{first_handle, note_settled}
use Rattle.laws_script_calls.specs.laws_script_runs.specs.Runs.{is_accepted}
use Rattle.laws_script_calls.specs.reactor_model.specs.Entries.{is_fault, is_notice}
use Rattle.laws_script_calls.specs.laws_script_runs.specs.Steps.{EachStep}
use Rattle.laws_script_calls.specs.laws_script_runs.proofs.Handles.{IsBegun}
use Rattle.laws_script_calls.specs.laws_script_runs.proofs.Notes.{all_last}
use Rattle.laws_script_calls.specs.laws_script_runs.proofs.Numbering.{IsNumbered}
use Rattle.laws_script_calls.specs.laws_script_runs.proofs.Settling as settling
use Rattle.laws_script_calls.specs.laws_script_runs.proofs.Settling.{each_front}
use Rattle.laws_script_calls.specs.laws_script_runs.proofs.Turns as turns
use Rattle.laws_one_worker.proofs.Ends as ends
use Rattle.laws_script_calls.specs.laws_script_runs.proofs.Winding as winding
use Rattle.laws_script_calls.specs.laws_script_runs.proofs.Winding.{no_masking, no_cancelling}
use Rattle.laws_script_serial.specs.Serial.{IsSettledAtOnce, OnlyClosesUp, InstallsOnly}
use Rattle.laws_script_serial.specs.Serial.{IsInstalled, IsTimedBy, is_installing, is_foreign}
use Rattle.laws_script_serial.specs.Serial.{has_room}
use Rattle.laws_script_serial.proofs.Quiet.{EndsLast, ends_last}
use Rattle.laws_one_worker.proofs.Pushing.{each_place}

-- ---- the acceptor asks again after each connection that it accepts

abbrev pub AsksAgain : Item ServerNote → Type 0
AsksAgain item = says_accepted item.note ≡ true → item.answer ≡ Again

silent : (item : Item ServerNote) (said : ServerNote) → item.note ≡ said
    → says_accepted said ≡ false → AsksAgain item
silent item said is none = λ h. absurd
    (both_ways (says_accepted item.note) (ap says_accepted is ∙ none) h)

again_by : (gave : accepting.Gives) (before after : accepting.Progress) (item : Item ServerNote)
    → accepting.ServesAccept gave before item after → AsksAgain item
again_by (accepting.OneEnd serial) before after item h = λ a. h.answers
again_by accepting.NoEnd before after item h = silent item note.NoneWaiting h.notes refl
again_by accepting.Failure before after item h = silent item note.ListenerFailed h.notes refl

again_input : (b : Bool) (before after : accepting.Progress) (item : Item ServerNote)
    → accepting.ServesInput b before item after → AsksAgain item
again_input true before after item h = again_by h.gave before after item h.serves
again_input false before after item h = silent item note.NoneWaiting h.notes refl

again_turn : (up : Upcall) (before after : accepting.Progress) (item : Item ServerNote)
    → accepting.ServesUpcall up before item after → AsksAgain item
again_turn Input before after item h = again_input _ before after item h
again_turn Output before after item h = silent item note.NoneWaiting h.notes refl
again_turn Except before after item h = silent item note.NoneWaiting h.notes refl
again_turn (Timeout timer) before after item h = silent item note.NoneWaiting h.notes refl
again_turn (Notice kind) before after item h = silent item note.NoneWaiting h.notes refl

course_again : (start p : accepting.Progress) (had : List (Item ServerNote))
    → accepting.Course start had p → AllByRecursion AsksAgain had
course_again start p [] course = tt
course_again start p (item ∷ had) course =
    (again_turn item.upcall start course.0 item course.1, course_again course.0 p had course.2)

-- ---- what a turn may ask for

may_install : (t : Terms) (u : Upcall) (mask : Mask) (timer : Option (ℕ × ℕ)) (idle : Option ℕ)
    → t.idle ≡ Some idle → ServerMay t u (Installing mask timer) → timer ≡ idle_timer idle
may_install t Input mask timer idle is h = h.1 idle is
may_install t Output mask timer idle is h = absurd h
may_install t Except mask timer idle is h = absurd h
may_install t (Timeout timer') mask timer idle is h = absurd h
may_install t (Notice kind) mask timer idle is h = absurd h

-- ---- timers

none_some : {A : Type 0} (a : A) → ◌≡◌ {A = Option A} None (Some a) → ⊥
none_some {A} a q = none q
  where
    none : ◌≡◌ {A = Option A} None (Some a) → ⊥
    none q = cc

some_pair : (a b c d : ℕ) → ◌≡◌ {A = Option (ℕ × ℕ)} (Some (a, b)) (Some (c, d)) → (a ≡ c) × (b ≡ d)
some_pair a b c d q = (
  ap (λ (o : Option (ℕ × ℕ)). elim o [ None ↦ a | Some p ↦ p.0 ]) q,
  ap (λ (o : Option (ℕ × ℕ)). elim o [ None ↦ b | Some p ↦ p.1 ]) q,
)

timed_by : (i x : ℕ) (past : List (Entry ServerNote)) (e : Entry ServerNote)
    (rest : List (Entry ServerNote)) (timer : Option (ℕ × ℕ)) → timer ≡ Some (i, i)
    → TimerBehind (now past) (e ∷ rest) timer
    → ((n : ℕ) (handle : Handle) (first every : ℕ) → e ≡ Scheduled n handle first every
    → handle.0 ≡ x) → IsTimedBy (Some i) x past e
timed_by i x past (Scheduled n handle first every) rest timer is b of =
    let same = some_pair i i b.0 every (sym is ∙ b.2) in
    (of n handle first every refl, b.1 ∙ ap (λ (d : ℕ). now past + d) (sym same.0), sym same.1)
timed_by i x past _ rest timer is b of = absurd (none_some (i, i) (sym b ∙ is))

-- ---- room

lt_ne : (a b : ℕ) → nat_lt a b ≡ true → (a == b) ≡ false
lt_ne a b h = ne_eqb a b (not_same (ltb-true a b h))
  where
    not_same : a < b → a ≡ b → ⊥
    not_same lt e = omega arith

no_room : (a b f o : Bool) → (a || (b || (f || o))) ≡ true → f ≡ false → o ≡ false
    → (not a && not b) ≡ false
no_room true b f o h x y = refl
no_room false true f o h x y = refl
no_room false false true o h x y = absurd (false≢true (sym x))
no_room false false false true h x y = absurd (false≢true (sym y))
no_room false false false false h x y = absurd (false≢true h)

-- no handler was removed before, and the reactor was not stopped
pub closes_nothing : (past : List (Entry ServerNote)) (e : Entry ServerNote)
    → list_any winding.removes past ≡ false → ended past ≡ false → OnlyClosesUp past e
closes_nothing [] e none going = λ over. absurd (both_ways (ended {N = ServerNote} []) going over)
closes_nothing (Removed handle ∷ past) e none going = absurd (false≢true (sym none))
closes_nothing (d ∷ past) e none going = λ over. absurd (both_ways _ going over)

module _ {H M Q W V E : Type 0} (m : Meaning H M Q W V ServerNote E) (q : DeskTerms) (ran : Ran)
    (idle : Option ℕ) (groups : List ScriptGroup) (journal : List (Entry ServerNote))
    (r : RunsAlone m q ran idle groups journal) where
  abbrev t : Terms
  t = q.run

  abbrev means : Handling H E ServerNote
  means = m.means

  abbrev run : List (Entry ServerNote)
  run = past_of r.run

  abbrev all : List (Entry ServerNote)
  all = ends.all m q ran idle groups journal r

  -- ---- an entry of the run, by its place

  legal_at : (later : List (Entry ServerNote)) (e : Entry ServerNote)
      (past : List (Entry ServerNote)) → run ≡ later ++ e ∷ past → is_legal t.most (e ∷ past) ≡ true
  legal_at later e past is = is_legal-front t.most later (e ∷ past)
      (sym (ap (is_legal t.most) is) ∙ ends.legal_run m q ran idle groups journal r)

  may_at : (later : List (Entry ServerNote)) (e : Entry ServerNote) (past : List (Entry ServerNote))
      → run ≡ later ++ e ∷ past → may_follow t.most past e ≡ true
  may_at later e past is = (and_parts (may_follow t.most past e) (is_legal t.most past)
      (legal_at later e past is)).0

  pub going_at : (later past : List (Entry ServerNote)) → run ≡ later ++ past → ended past ≡ false
  going_at later past is = winding.any_right is_ended later past
      (sym (ap (list_any is_ended) is) ∙ ends.going m q ran idle groups journal r)

  numbered_at : (later : List (Entry ServerNote)) (e : Entry ServerNote)
      (past : List (Entry ServerNote)) → run ≡ later ++ e ∷ past → IsNumbered past e
  numbered_at later e past is = (each_front IsNumbered later (e ∷ past)
      (subst (EachStep IsNumbered) is (ends.numbered m q ran idle groups journal r))).0

  begun_at : (later : List (Entry ServerNote)) (e : Entry ServerNote)
      (past : List (Entry ServerNote)) → run ≡ later ++ e ∷ past → IsBegun past e
  begun_at later e past is = (each_front IsBegun later (e ∷ past)
      (subst (EachStep IsBegun) is (ends.begun_run m q ran idle groups journal r))).0

  in_all : (later past : List (Entry ServerNote)) → run ≡ later ++ past
      → all ≡ ((ends.wound m q ran idle groups journal r ++ Ended ∷ []) ++ later) ++ past
  in_all later past is =
      ends.whole_run m q ran idle groups journal r
      ∙ ap (λ (l : List (Entry ServerNote)).
      (ends.wound m q ran idle groups journal r ++ Ended ∷ []) ++ l) is
      ∙ sym (append_assoc (ends.wound m q ran idle groups journal r ++ Ended ∷ []) later past)

  -- it goes by turns, before those after it, and so does the entry before it
  goes : (later : List (Entry ServerNote)) (e : Entry ServerNote) (past : List (Entry ServerNote))
      → run ≡ later ++ e ∷ past → 1 ≤ length past → GoesByTurn means t 1 past e (reverse later)
  goes later e past is long = ends.goes means t r.run (ends.turned m q ran idle groups journal r)
      later e past is long

  goes_before : (later : List (Entry ServerNote)) (e d : Entry ServerNote)
      (past : List (Entry ServerNote)) → run ≡ later ++ e ∷ (d ∷ past) → 1 ≤ length past
      → GoesByTurn means t 1 past d (e ∷ reverse later)
  goes_before later e d past is long =
      ends.goes_before means t r.run (ends.turned m q ran idle groups journal r) later e d past is
      long

  shift : (later : List (Entry ServerNote)) (e : Entry ServerNote) (past : List (Entry ServerNote))
      → run ≡ later ++ e ∷ past → run ≡ (later ++ e ∷ []) ++ past
  shift later e past is = is ∙ sym (append_assoc later (e ∷ []) past)

  asks : (past : List (Entry ServerNote)) (deed : Deed) (may : MayHere means t past deed)
      → ServerMay t may.event.upcall deed
  asks past deed may = r.acts.asks may.event.upcall deed may.may

  -- ---- the turn that accepts a connection

  accept_again : (later past : List (Entry ServerNote)) (event : ℕ) (answer : Answer) (conn : ℕ)
      → run ≡ later ++ Returned event answer (note.Accepted conn) ∷ past → answer ≡ Again
  accept_again later past event answer conn is = by_handle turn.x refl
    where
      most : ℕ
      most = t.most

      there : all ≡ ((ends.wound m q ran idle groups journal r ++ Ended ∷ []) ++ later)
          ++ Returned event answer (note.Accepted conn) ∷ past
      there = in_all later (Returned event answer (note.Accepted conn) ∷ past) is

      turn : settling.TurnOf t.most all (ends.legal m q ran idle groups journal r) event answer
          (note.Accepted conn) past
      turn = settling.turn_of t.most all (ends.legal m q ran idle groups journal r)
          ((ends.wound m q ran idle groups journal r ++ Ended ∷ []) ++ later) past event answer
          (note.Accepted conn) there

      at_first : settling.Turn t.most all (ends.legal m q ran idle groups journal r) event answer
          (note.Accepted conn) past 0 → answer ≡ Again
      at_first u =
          let listens = turns.acceptor t.most (steps_of groups) idle all
          (ends.legal m q ran idle groups journal r) (ends.begun m q ran idle groups journal r)
          (ends.left m q ran idle groups journal r) (ends.closed m q ran idle groups journal r)
          (ends.first m q ran idle groups journal r) in
          sym u.answers
          ∙ all_last AsksAgain (had past 0) u.item u.more
          (subst (AllByRecursion AsksAgain) u.among
          (course_again _ listens.now (had all 0) listens.course)) (ap says_accepted u.notes)

      at_other : (c : ℕ) → settling.Turn t.most all (ends.legal m q ran idle groups journal r) event
          answer (note.Accepted conn) past (suc c) → answer ≡ Again
      at_other c u =
          let o = turns.opened_all t.most (steps_of groups) idle all
          (ends.legal m q ran idle groups journal r) (ends.begun m q ran idle groups journal r)
          (ends.left m q ran idle groups journal r) (ends.closed m q ran idle groups journal r)
          ((ends.wound m q ran idle groups journal r ++ Ended ∷ []) ++ later) past
          (Returned event answer (note.Accepted conn)) (suc c) there u.opened_now in
          let piece = turns.conn_note t.most (steps_of groups) idle all
          (ends.legal m q ran idle groups journal r) (ends.begun m q ran idle groups journal r)
          (ends.left m q ran idle groups journal r) (ends.closed m q ran idle groups journal r)
          c event answer (note.Accepted conn)
          ((ends.wound m q ran idle groups journal r ++ Ended ∷ []) ++ later) past there u o in
          absurd (false≢true (sym (ap says_accepted piece.2) ∙ ap says_accepted u.notes))

      by_handle : (x : ℕ) → turn.x ≡ x → answer ≡ Again
      by_handle zero e = at_first (subst
          (settling.Turn t.most all (ends.legal m q ran idle groups journal r) event answer
          (note.Accepted conn) past) e turn.turn)
      by_handle (suc c) e = at_other c (subst
          (settling.Turn t.most all (ends.legal m q ran idle groups journal r) event answer
          (note.Accepted conn) past) e turn.turn)

  pub removes_at : (later : List (Entry ServerNote)) (e : Entry ServerNote)
      (before : List (Entry ServerNote)) → run ≡ later ++ e ∷ before → winding.removes e ≡ false
  removes_at later e before is = winding.none_at winding.removes later e before
      (sym (ap (list_any winding.removes) is) ∙ ends.keeps m q ran idle groups journal r)

  removed_before : (later before : List (Entry ServerNote)) → run ≡ later ++ before
      → list_any winding.removes before ≡ false
  removed_before later before is = winding.any_right winding.removes later before
      (sym (ap (list_any winding.removes) is) ∙ ends.keeps m q ran idle groups journal r)

  settles : EachStep IsSettledAtOnce run
  settles = ends.settled m q ran idle groups journal r

  -- only the winding up closes after a removal
  pub closes : EachStep OnlyClosesUp run
  closes = each_place OnlyClosesUp run [] run refl (λ later e before is.
      let placed = is ∙ sym (append_assoc later (e ∷ []) before) in
      closes_nothing before e (removed_before (later ++ e ∷ []) before placed)
      (going_at (later ++ e ∷ []) before placed))

  -- it closes nothing
  not_closed : (later past : List (Entry ServerNote)) (handle : Handle) (said : ServerNote)
      (event : ℕ) (answer : Answer) (conn : ℕ)
      → run ≡ later ++ Closed handle said ∷ (Returned event answer (note.Accepted conn) ∷ past) → ⊥
  not_closed later past handle said event answer conn is =
      let before : List (Entry ServerNote) = Returned event answer (note.Accepted conn) ∷ past in
      let w = closing before handle.0 (may_fits t.most before (Closed handle said)
      (may_at later (Closed handle said) before is)) in
      let placed = shift later (Closed handle said) before is in
      let ends = ends_last before handle.0
      (each_front IsSettledAtOnce (later ++ Closed handle said ∷ []) before
      (subst (EachStep IsSettledAtOnce) placed settles))
      (each_front OnlyClosesUp (later ++ Closed handle said ∷ []) before
      (subst (EachStep OnlyClosesUp) placed closes)) (dead_was_removed before handle.0 w.0 w.1)
      w.3 in
      subst (λ (a : Answer). EndsLast (Returned event a (note.Accepted conn) ∷ past) handle.0)
      (accept_again (later ++ Closed handle said ∷ []) past event answer conn placed) ends

  -- ---- after it

  room_opened : (later past : List (Entry ServerNote)) (handle : Handle) (mask : Mask)
      → run ≡ later ++ Opened handle mask ∷ past → has_room t.most past ≡ true
  room_opened later past handle mask is =
      let fits = and_parts (nat_lt (live past) t.most) (nat_lt (opened past) most_handles)
      (and_parts _ _ (may_fits t.most past (Opened handle mask)
      (may_at later (Opened handle mask) past is))).1 in
      and_from _ _ (ap not (lt_ne (live past) t.most fits.0))
      (ap not (lt_ne (opened past) most_handles fits.1))

  refused : (later past : List (Entry ServerNote)) (number : ℕ) (fault : Bool) (said : ServerNote)
      → run ≡ later ++ Refused number fault said ∷ past → (has_room t.most past ≡ false)
      × (fault ≡ false)
  refused later past number fault said is =
      let none : fault ≡ false = winding.none_at is_fault
      ((ends.wound m q ran idle groups journal r ++ Ended ∷ []) ++ later)
      (Refused number fault said) past
      (sym (ap (list_any is_fault) (ends.all_is m q ran idle groups journal r
      ∙ in_all later (Refused number fault said ∷ past) is))
      ∙ winding.any_reverse is_fault journal r.no_fault) in
      let fits = (and_parts _ _ (may_fits t.most past (Refused number fault said)
      (may_at later (Refused number fault said) past is))).1 in (
        no_room (live past == t.most) (opened past == most_handles) fault (ended past) fits none
            (going_at (later ++ Refused number fault said ∷ []) past
            (shift later (Refused number fault said) past is)),
        none,
      )

  -- the entry after it registers or refuses its handler
  installed : (later : List (Entry ServerNote)) (e : Entry ServerNote)
      (past : List (Entry ServerNote)) (event : ℕ) (answer : Answer) (conn : ℕ)
      → run ≡ later ++ e ∷ (Returned event answer (note.Accepted conn) ∷ past)
      → OffersBehind (e ∷ reverse later)
      → IsInstalled t.most (Returned event answer (note.Accepted conn) ∷ past) e
  installed later (Opened handle mask) past event answer conn is offers = (
    room_opened later (Returned event answer (note.Accepted conn) ∷ past) handle mask is,
    (numbered_at later (Opened handle mask)
        (Returned event answer (note.Accepted conn) ∷ past) is).1,
  )
  installed later (Refused number fault said) past event answer conn is offers =
      refused later (Returned event answer (note.Accepted conn) ∷ past) number fault said is
  installed later (Closed handle said) past event answer conn is offers =
      absurd (not_closed later past handle said event answer conn is)
  installed later _ past event answer conn is offers = absurd offers

  -- it is not the first entry
  behind_some : (later past : List (Entry ServerNote)) (event : ℕ) (answer : Answer)
      (said : ServerNote) → run ≡ later ++ Returned event answer said ∷ past → 1 ≤ length past
  behind_some later [] event answer said is =
      absurd (other (begun_at later (Returned event answer said) [] is))
    where
      other : Returned event answer said ≡ Opened first_handle read_alone → ⊥
      other q = cc
  behind_some later (d ∷ past) event answer said is = omega arith

  accepted : (later : List (Entry ServerNote)) (e : Entry ServerNote)
      (past : List (Entry ServerNote)) (event : ℕ) (answer : Answer) (conn : ℕ)
      → run ≡ later ++ e ∷ (Returned event answer (note.Accepted conn) ∷ past)
      → IsInstalled t.most (Returned event answer (note.Accepted conn) ∷ past) e
  accepted later e past event answer conn is =
      let before = behind_some (later ++ e ∷ []) past event answer (note.Accepted conn)
      (shift later e (Returned event answer (note.Accepted conn) ∷ past) is) in
      installed later e past event answer conn is
      (goes_before later e (Returned event answer (note.Accepted conn)) past is before
      (r.acts.installs (note.Accepted conn)))

  -- ---- elsewhere nothing is registered, refused or timed

  none_accepted : (later : List (Entry ServerNote)) (e d : Entry ServerNote)
      (past : List (Entry ServerNote)) → run ≡ later ++ e ∷ (d ∷ past)
      → is_accepted (note_settled (d ∷ past)) ≡ false
      → ((handle : Handle) → IsRegisteredHere 1 handle (d ∷ past) → ⊥) → is_installing e ≡ false
  none_accepted later (Opened handle mask) d past is none timed =
      absurd (both_ways _ none (numbered_at later (Opened handle mask) (d ∷ past) is).0)
  none_accepted later (Refused number fault said) d past is none timed =
      absurd (both_ways _ none (numbered_at later (Refused number fault said) (d ∷ past) is))
  none_accepted later (Scheduled timer handle first every) d past is none timed =
      absurd (timed handle (goes later (Scheduled timer handle first every) (d ∷ past) is
      (omega arith)))
  none_accepted later _ d past is none timed = refl

  -- after a closing neither
  closed_quiet : (later : List (Entry ServerNote)) (handle : Handle) (said : ServerNote)
      (past : List (Entry ServerNote)) → run ≡ later ++ Closed handle said ∷ past
      → is_accepted (note_settled (Closed handle said ∷ past)) ≡ false
  closed_quiet later handle said [] is = refl
  closed_quiet later handle said (Returned event answer (note.Accepted conn) ∷ past) is =
      absurd (not_closed later past handle said event answer conn is)
  closed_quiet later handle said (_ ∷ past) is = refl

  -- ---- after a registration

  timed : (later : List (Entry ServerNote)) (e : Entry ServerNote) (handle : Handle) (mask : Mask)
      (d : Entry ServerNote) (past : List (Entry ServerNote)) (asked : Option ℕ)
      → run ≡ later ++ e ∷ (Opened handle mask ∷ (d ∷ past)) → asked ≡ idle
      → IsTimedBy asked handle.0 (d ∷ past) e
  timed later e handle mask d past asked is same = by_idle asked same
    where
      behind : GoesByTurn means t 1 (d ∷ past) (Opened handle mask) (e ∷ reverse later)
      behind = goes_before later e (Opened handle mask) (d ∷ past) is (omega arith)

      timer_is : behind.0 ≡ idle_timer idle
      timer_is = may_install t behind.2.event.upcall mask behind.0 idle r.idle_is
          (asks (d ∷ past) (Installing mask behind.0) behind.2)

      -- without an idle time there is no timer
      untimed : (e : Entry ServerNote) → run ≡ later ++ e ∷ (Opened handle mask ∷ (d ∷ past))
          → (timer : Option (ℕ × ℕ)) → timer ≡ None
          → TimerBehind (now (d ∷ past)) (e ∷ reverse later) timer → is_installing e ≡ false
      untimed (Scheduled n other first every) is timer none b =
          absurd (none_some (b.0, every) (sym none ∙ b.2))
      untimed (Opened other wanted) is timer none b =
          absurd (false≢true (numbered_at later (Opened other wanted)
          (Opened handle mask ∷ (d ∷ past)) is).0)
      untimed (Refused number fault said) is timer none b =
          absurd (false≢true (numbered_at later (Refused number fault said)
          (Opened handle mask ∷ (d ∷ past)) is))
      untimed _ is timer none b = refl

      of_it : (n : ℕ) (other : Handle) (first every : ℕ) → e ≡ Scheduled n other first every
          → other.0 ≡ handle.0
      of_it n other first every q =
          let here : GoesByTurn means t 1 (Opened handle mask ∷ (d ∷ past))
          (Scheduled n other first every) (reverse later) =
          goes later (Scheduled n other first every) (Opened handle mask ∷ (d ∷ past))
          (is ∙ ap (λ (x : Entry ServerNote). later ++ x ∷ (Opened handle mask ∷ (d ∷ past))) q)
          (omega arith) in
          ap (λ (h : Handle). h.0) (sym here.0)

      by_idle : (asked : Option ℕ) → asked ≡ idle → IsTimedBy asked handle.0 (d ∷ past) e
      by_idle None same = untimed e is behind.0 (timer_is ∙ ap idle_timer (sym same)) behind.1
      by_idle (Some i) same = timed_by i handle.0 (d ∷ past) e (reverse later) behind.0
          (timer_is ∙ ap idle_timer (sym same)) behind.1 of_it

  -- ---- each entry

  not_behind_first : (handle other : Handle) (mask : Mask)
      → IsRegisteredHere {N = ServerNote} 1 other (Opened handle mask ∷ []) → ⊥
  not_behind_first handle other mask h = below h.1
    where
      below : 1 ≤ 0 → ⊥
      below l = omega arith

  install_at : (later : List (Entry ServerNote)) (e : Entry ServerNote)
      (past : List (Entry ServerNote)) → run ≡ later ++ e ∷ past → InstallsOnly t.most idle past e
  install_at later e [] is = begun_at later e [] is
  install_at later e (Returned event answer (note.Accepted conn) ∷ past) is =
      accepted later e past event answer conn is
  install_at later e (Opened handle mask ∷ []) is =
      none_accepted later e (Opened handle mask) [] is refl
      (λ other h. not_behind_first handle other mask h)
  install_at later e (Opened handle mask ∷ (d ∷ past)) is =
      timed later e handle mask d past idle is refl
  install_at later e (Closed handle said ∷ past) is =
      none_accepted later e (Closed handle said) past is
      (closed_quiet (later ++ e ∷ []) handle said past
      (shift later e (Closed handle said ∷ past) is)) (λ other h. h)
  install_at later e (d ∷ past) is = none_accepted later e d past is refl (λ other h. h)

  pub installs : EachStep (InstallsOnly t.most idle) run
  installs = each_place (InstallsOnly t.most idle) run [] run refl install_at

  -- ---- kinds

  quiet_at : (later : List (Entry ServerNote)) (e : Entry ServerNote)
      (past : List (Entry ServerNote)) → run ≡ later ++ e ∷ past → is_notice e ≡ false
  quiet_at later e past is =
      winding.none_at is_notice ((ends.wound m q ran idle groups journal r ++ Ended ∷ []) ++ later)
      e past
      (sym (ap (list_any is_notice) (ends.all_is m q ran idle groups journal r
      ∙ in_all later (e ∷ past) is)) ∙ winding.any_reverse is_notice journal r.no_notice)

  -- what the server never does
  pub familiar : (later : List (Entry ServerNote)) (e : Entry ServerNote)
      (past : List (Entry ServerNote)) → run ≡ later ++ e ∷ past → is_foreign e ≡ false
  familiar later e [] is = ap is_foreign (begun_at later e [] is)
  familiar later (Cancelled timer) (d ∷ past) is = let g =
      goes later (Cancelled timer) (d ∷ past) is (omega arith) in
      absurd (no_cancelling t g.event.upcall (asks (d ∷ past) Cancelling g))
  familiar later (Masked handle mask) (d ∷ past) is = let g =
      goes later (Masked handle mask) (d ∷ past) is (omega arith) in
      absurd (no_masking t g.event.upcall (asks (d ∷ past) Masking g))
  familiar later (Suspended handle) (d ∷ past) is =
      absurd (goes later (Suspended handle) (d ∷ past) is (omega arith))
  familiar later (Resumed handle) (d ∷ past) is =
      absurd (goes later (Resumed handle) (d ∷ past) is (omega arith))
  familiar later (Posted handle kind from seq) (d ∷ past) is =
      absurd (false≢true (sym (quiet_at later (Posted handle kind from seq) (d ∷ past) is)))
  familiar later (Stale handle from seq) (d ∷ past) is =
      absurd (false≢true (sym (quiet_at later (Stale handle from seq) (d ∷ past) is)))
  familiar later _ (d ∷ past) is = refl
