-- Who is alive when a run over a script is over: the acceptor, and each handler that was not
-- closed by its own answer.
use Rattle.std.proofs.Common.{ℕ, ◌≡◌, ◌≢◌, Bool, true, false, cond, List, [], ◌∷◌, ◌++◌, length}
use Rattle.std.proofs.Common.{refl, sym, ap, ◌∙◌, subst, Option, Some, ⊎_elim, append_assoc}
use Rattle.std.specs.List.{list_any, list_all}
use Rattle.std.proofs.lemmas.Bool.{and_parts, and_from, both_ways, cases_Bool}
use Rattle.reactor_model.specs.ev_types.specs.declared.upcall.Handle.{Handle}
use Rattle.reactor_model.specs.ev_types.specs.declared.upcall.Upcall.{Upcall}
use Rattle.reactor_model.specs.ev_types.specs.declared.upcall.Upcall.TheVariants.{Input, Output}
use Rattle.reactor_model.specs.ev_types.specs.declared.upcall.Upcall.TheVariants.{Except, Timeout}
use Rattle.reactor_model.specs.ev_types.specs.declared.upcall.Upcall.TheVariants.{Notice}
use Rattle.reactor_model.specs.ev_types.specs.declared.upcall.Why.TheVariants.{Own}
use Rattle.reactor_model.specs.ev_types.specs.declared.upcall.Why.TheVariants.{Removed as ByRemoval}
use Rattle.reactor_model.specs.ev_base.specs.Terms.{Terms}
use Rattle.reactor_model.specs.reactor_journal.specs.Event.{Item}
use Rattle.reactor_model.specs.reactor_journal.specs.declared.entry.Entry.{Entry}
use Rattle.reactor_model.specs.reactor_journal.specs.declared.entry.Entry.TheVariants.{Closed}
use Rattle.reactor_model.specs.reactor_journal.specs.declared.entry.Entry.TheVariants.{Ended}
use Rattle.reactor_model.specs.reactor_journal.specs.Past.{past_of, had, reason_of, ended_itself}
use Rattle.reactor_model.specs.reactor_journal.specs.Past.{is_alive, was_opened, was_closed}
use Rattle.reactor_model.specs.reactor_journal.specs.Past.{was_removed}
use Rattle.reactor_model.specs.reactor_journal.specs.Follow.{may_follow, is_legal}
use Rattle.reactor_model.specs.reactor_journal.proofs.Alive.{dead_was_removed}
use Rattle.reactor_model.specs.reactor_journal.proofs.Turning.{is_legal-front, count-past}
use Rattle.laws_turns.specs.Laws.{stays}
use Rattle.laws_turns.proofs.Turns.{Last, ended_last}
use Rattle.reactor_model.specs.Handling.{Handling}
use Rattle.laws_script_turns.specs.acceptor.specs.Accepting as accepting
use Rattle.laws_script_turns.specs.acceptor.proofs.Accounts as acceptor_accounts
use Rattle.laws_script_told.specs.log_handler.specs.declared.note.ServerNote.{ServerNote}
use Rattle.laws_script_turns.specs.event_script.specs.Script.{ScriptStep, ScriptGroup, steps_of}
use Rattle.laws_script_runs.specs.Connections.{accepted, accepts, AreLeft, ListensThrough}
use Rattle.laws_script_runs.specs.Steps.{EachStep}
use Rattle.laws_script_runs.specs.Laws.{RunsOver}
use Rattle.laws_script_runs.proofs.Handles.{IsBegun}
use Rattle.laws_script_runs.proofs.Turns as turns
use Rattle.laws_script_runs.proofs.Winding as winding
use Rattle.laws_script_runs.proofs.Winding.{Begins}
use Rattle.laws_script_runs.proofs.Taking.{length_numbers}
use Rattle.laws_script_runs.proofs.Whole as whole

-- an acceptor never ends itself
stays_accept : (gave : accepting.Gives) (before after : accepting.Progress) (item : Item ServerNote)
    → accepting.ServesAccept gave before item after → stays item.answer ≡ true
stays_accept (accepting.OneEnd serial) before after item h = ap stays h.answers
stays_accept accepting.NoEnd before after item h = ap stays h.answers
stays_accept accepting.Failure before after item h = ap stays h.answers

stays_input : (b : Bool) (before after : accepting.Progress) (item : Item ServerNote)
    → accepting.ServesInput b before item after → stays item.answer ≡ true
stays_input true before after item h = stays_accept h.gave before after item h.serves
stays_input false before after item h = ap stays h.answers

stays_turn : (up : Upcall) (before after : accepting.Progress) (item : Item ServerNote)
    → accepting.ServesUpcall up before item after → stays item.answer ≡ true
stays_turn Input before after item h = stays_input _ before after item h
stays_turn Output before after item h = ap stays h.answers
stays_turn Except before after item h = ap stays h.answers
stays_turn (Timeout timer) before after item h = ap stays h.answers
stays_turn (Notice kind) before after item h = ap stays h.answers

course_stays : (start p : accepting.Progress) (items : List (Item ServerNote))
    → accepting.Course start items p → list_all (λ item. stays item.answer) items ≡ true
course_stays start p [] course = refl
course_stays start p (item ∷ items) course =
    and_from _ _ (stays_turn item.upcall start course.0 item course.1)
    (course_stays course.0 p items course.2)

pub last_stays : (xs : List (Item ServerNote)) (item : Item ServerNote)
    → list_all (λ item. stays item.answer) (xs ++ item ∷ []) ≡ true → stays item.answer ≡ true
last_stays [] item h = (and_parts (stays item.answer) true h).0
last_stays (x ∷ xs) item h = last_stays xs item
    (and_parts (stays x.answer) (list_all (λ item. stays item.answer) (xs ++ item ∷ [])) h).1

reason_own : (past : List (Entry ServerNote)) (x : ℕ) → ended_itself past x ≡ true
    → reason_of past x ≡ Own
reason_own past x h = ap (λ (b : Bool). cond b Own ByRemoval) h

module _ {H E : Type 0} (means : Handling H E ServerNote) (t : Terms) (idle : Option ℕ)
    (groups : List ScriptGroup) (journal : List (Entry ServerNote))
    (r : RunsOver means t idle groups journal) where
  abbrev steps : List ScriptStep
  steps = steps_of groups

  abbrev most : ℕ
  most = t.most

  abbrev run : List (Entry ServerNote)
  run = whole.run means t idle groups journal r

  abbrev wound : List (Entry ServerNote)
  wound = whole.wound means t idle groups journal r

  abbrev all : List (Entry ServerNote)
  all = whole.all means t idle groups journal r

  all_is : past_of journal ≡ all
  all_is = whole.all_is means t idle groups journal r

  legal : is_legal most all ≡ true
  legal = whole.legal means t idle groups journal r

  legal_run : is_legal most run ≡ true
  legal_run = whole.legal_run means t idle groups journal r

  begun : EachStep IsBegun all
  begun = whole.begun means t idle groups journal r

  left : AreLeft steps idle all
  left = whole.left means t idle groups journal r

  closed : (x : ℕ) → was_opened all x ≡ true → was_closed all x ≡ true
  closed = whole.closed means t idle groups journal r

  whole_run : all ≡ (wound ++ Ended ∷ []) ++ run
  whole_run = whole.whole_run means t idle groups journal r

  first_run : was_opened run 0 ≡ true
  first_run = whole.first_run means t idle groups journal r

  first : was_opened all 0 ≡ true
  first = whole.first means t idle groups journal r

  had_is : (x : ℕ) → had all x ≡ had run x
  had_is = whole.had_is means t idle groups journal r

  keeps : list_any winding.removes run ≡ false
  keeps = whole.keeps means t idle groups journal r

  -- the acceptor
  pub listens : (said : ServerNote) × ListensThrough steps (had all 0) said
  listens = (_, turns.acceptor most steps idle all legal begun left closed first)

  pub listener_course : accepting.Course
      (accepting.at_start (Some (Rattle.laws_script_turns.specs.Laws.unoffered
      (Rattle.laws_script_turns.specs.event_script.specs.Stories.offers steps)))) (had run 0)
      listens.1.now
  listener_course = subst (λ (h : List (Item ServerNote)).
      accepting.Course (accepting.at_start
      (Some (Rattle.laws_script_turns.specs.Laws.unoffered
      (Rattle.laws_script_turns.specs.event_script.specs.Stories.offers steps)))) h listens.1.now)
      (had_is 0) listens.1.course

  pub alive_first : is_alive run 0 ≡ true
  alive_first = ⊎_elim (λ (h : is_alive run 0 ≡ true). h)
      (λ (h : is_alive run 0 ≡ false).
      let l : Last ServerNote (had run 0) =
      ended_last most run 0 legal_run (winding.removed_itself run 0 keeps
      (dead_was_removed run 0 first_run h)) in
      let s = course_stays _ listens.1.now (had run 0) listener_course in
      absurd (both_ways (stays l.last.answer) (ap stays l.closes)
      (last_stays l.before l.last (sym (ap (list_all (λ item. stays item.answer)) l.are) ∙ s))))
      (cases_Bool (is_alive run 0))

  pub accepted_all : accepted all ≡ listens.1.now.taken
  accepted_all =
      let account = acceptor_accounts.accounts _ (had all 0) listens.1.now listens.1.course in
      turns.counts most steps idle all legal begun left closed [] all refl ∙ ap length account.notes
      ∙ length_numbers 0 listens.1.now.taken

  pub accepted_journal : accepted journal ≡ accepted all
  accepted_journal = sym (count-past accepts journal) ∙ ap accepted all_is

  -- a handler that was closed by another was alive at the end of the run
  pub alive_if : (x : ℕ) (before later : List (Entry ServerNote)) (handle : Handle)
      (said : ServerNote) → all ≡ later ++ Closed handle said ∷ before → handle.0 ≡ x
      → was_opened run x ≡ true
      → reason_of before x ≢ Own → is_alive run x ≡ true
  alive_if x before later handle said is mine o other = ⊎_elim (λ (h : is_alive run x ≡ true). h)
      (λ (h : is_alive run x ≡ false).
      let gone : was_removed run x ≡ true = dead_was_removed run x o h in
      let itself : ended_itself run x ≡ true = winding.removed_itself run x keeps gone in
      let w = Rattle.reactor_model.specs.reactor_journal.proofs.Closing.closing before handle.0
      (Rattle.reactor_model.specs.reactor_journal.proofs.Basics.may_fits most before
      (Closed handle said) (and_parts (may_follow most before (Closed handle said))
      (is_legal most before) here).0) in
      let dead : was_removed before x ≡ true =
      subst (λ (y : ℕ). was_removed before y ≡ true) mine
      (dead_was_removed before handle.0 w.0 w.1) in
      let same : ended_itself before x ≡ ended_itself run x =
      sym (winding.itself_still (later ++ Closed handle said ∷ []) before x dead)
      ∙ ap (λ (p : List (Entry ServerNote)). ended_itself p x)
      (append_assoc later (Closed handle said ∷ []) before ∙ sym is ∙ whole_run)
      ∙ winding.itself_still (wound ++ Ended ∷ []) run x gone in
      absurd (other (reason_own before x (same ∙ itself))))
      (cases_Bool (is_alive run x))
    where
      here : is_legal most (Closed handle said ∷ before) ≡ true
      here = is_legal-front most later (Closed handle said ∷ before)
          (sym (ap (is_legal most) is) ∙ legal)
