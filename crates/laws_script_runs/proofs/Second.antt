-- The second law: the grouped text of a script, for every run over it.
use Rattle.std.proofs.Common.{ℕ, zero, suc, ◌≡◌, ◌≢◌, ◌==◌, ◌+◌, ◌≤◌, ◌<◌, ◌⊎◌, inl, inr, Bool}
use Rattle.std.proofs.Common.{true, false, not, cond, ◌&&◌, ◌||◌, List, [], ◌∷◌, ◌++◌, length}
use Rattle.std.proofs.Common.{reverse, refl, sym, ap, ◌∙◌, subst, arith, Option, Some, None, ⊎_elim}
use Rattle.std.proofs.Common.{append-nil, append_assoc, length-append}
use Rattle.std.specs.List.{list_any}
use Rattle.std.proofs.lemmas.Grind.{flat_map-append}
use Rattle.std.proofs.lemmas.Bool.{false≢true, and_parts, both_ways, eq-eqb}
use Rattle.std.proofs.lemmas.List.{reverse-append, reverse-reverse}
use Rattle.reactor_model.specs.ev_types.specs.declared.upcall.Answer.TheVariants.{Close}
use Rattle.reactor_model.specs.ev_types.specs.declared.upcall.Handle.{Handle}
use Rattle.reactor_model.specs.ev_types.specs.declared.upcall.Why.TheVariants.{Own}
use Rattle.reactor_model.specs.ev_types.specs.declared.upcall.Why.TheVariants.{Removed as ByRemoval}
use Rattle.reactor_model.specs.ev_base.specs.Terms.{Terms}
use Rattle.reactor_model.specs.reactor_journal.specs.Event.{Item}
use Rattle.reactor_model.specs.reactor_journal.specs.declared.entry.Entry.{Entry}
use Rattle.reactor_model.specs.reactor_journal.specs.declared.entry.Entry.TheVariants.{Closed}
use Rattle.reactor_model.specs.reactor_journal.specs.declared.entry.Entry.TheVariants.{Ended}
use Rattle.reactor_model.specs.reactor_journal.specs.Past.{past_of, had, origin_of, reason_of}
use Rattle.reactor_model.specs.reactor_journal.specs.Past.{ended_itself, is_alive, was_opened}
use Rattle.reactor_model.specs.reactor_journal.specs.Past.{was_closed}
use Rattle.reactor_model.specs.reactor_journal.specs.Follow.{may_follow, is_legal}
use Rattle.reactor_model.specs.reactor_journal.proofs.Turning.{is_legal-front}
use Rattle.laws_turns.proofs.Turns.{Last, ended_last, own_reason}
use Rattle.reactor_model.specs.Handling.{Handling, EndsInClose, IsClose}
use Rattle.laws_script_turns.specs.acceptor.specs.Accepting as accepting
use Rattle.laws_script_told.specs.log_handler.specs.log_lines.specs.declared.end_kind.EndKind.{EndKind}
use Rattle.laws_script_told.specs.log_handler.specs.log_lines.specs.declared.end_kind.EndKind.TheVariants as end
use Rattle.laws_script_told.specs.log_handler.specs.declared.note.ServerNote.{ServerNote}
use Rattle.laws_script_told.specs.log_handler.specs.declared.note.ServerNote.TheVariants as note
use Rattle.laws_script_told.specs.log_handler.specs.Connection as connection
use Rattle.laws_script_told.specs.log_handler.specs.Connections.{IsClosing}
use Rattle.laws_script_told.specs.log_handler.specs.Laws.{EndedSo}
use Rattle.laws_script_told.specs.log_handler.specs.Notes.{note_lines}
use Rattle.laws_script_told.specs.log_handler.proofs.Courses.{course-closed}
use Rattle.laws_script_told.specs.log_handler.proofs.Accounts.{accounts}
use Rattle.laws_script_turns.specs.event_script.specs.Script.{ScriptStep, ScriptGroup, groups_told}
use Rattle.laws_script_turns.specs.event_script.specs.Script.{steps_of}
use Rattle.laws_script_turns.specs.Grouped.{grouped}
use Rattle.laws_script_runs.specs.Connections.{lines_in, lines_of, lines_by_connection, accepted}
use Rattle.laws_script_runs.specs.Connections.{AreLeft, HadMemory, entry_lacks, ListensThrough}
use Rattle.laws_script_runs.specs.Runs.{is_refusal}
use Rattle.laws_script_runs.specs.Steps.{EachStep}
use Rattle.laws_script_runs.specs.Laws.{RunsOver}
use Rattle.laws_script_runs.proofs.Handles.{IsBegun, Offered, offered}
use Rattle.laws_script_runs.proofs.Numbering.{IsNumbered}
use Rattle.laws_script_runs.proofs.OwnLines as own
use Rattle.laws_script_runs.proofs.Turns as turns
use Rattle.laws_script_runs.proofs.Settling.{opened_later}
use Rattle.laws_script_runs.proofs.Winding as winding
use Rattle.laws_script_runs.proofs.Winding.{Begins}
use Rattle.laws_script_runs.proofs.Living as living
use Rattle.laws_script_runs.proofs.Whole as whole
use Rattle.laws_script_runs.proofs.Numbers as the_numbers
use Rattle.laws_script_runs.proofs.Glue.{Ends, groups_lines}
use Rattle.laws_script_runs.proofs.Scripts.{few}

-- ---- small facts

ends_close : (xs : List (Item ServerNote)) (item : Item ServerNote) → item.answer ≡ Close
    → EndsInClose (xs ++ item ∷ [])
ends_close [] item h = subst IsClose (sym h) tt
ends_close (x ∷ []) item h = subst IsClose (sym h) tt
ends_close (x ∷ (y ∷ xs)) item h = ends_close (y ∷ xs) item h

-- lines read backwards
back : (c : ℕ) → List (Entry ServerNote) → List ℕ
back c [] = []
back c (e ∷ past) = back c past ++ lines_in c e

lines_reverse : (c : ℕ) (past : List (Entry ServerNote)) → lines_of c (reverse past) ≡ back c past
unfolding back
lines_reverse c [] = refl
lines_reverse c (e ∷ past) =
    ap (lines_of c) (reverse-append (e ∷ []) past)
    ∙ flat_map-append (lines_in c) (reverse past) (e ∷ [])
    ∙ ap (λ (l : List ℕ). lines_of c (reverse past) ++ l) (append-nil (lines_in c e))
    ∙ ap (λ (l : List ℕ). l ++ lines_in c e) (lines_reverse c past)

not_refused : (past : List (Entry ServerNote)) (x : ℕ) (kept : Option EndKind) (word : EndKind)
    → (kept ≡ Some end.Refused → ⊥) → IsClosing (reason_of past x) kept word → word ≢ end.Refused
not_refused past x kept word none h = by_reason (ended_itself past x) h
  where
    by_kept : (kept : Option EndKind) → IsClosing ByRemoval kept word → word ≢ end.Refused
    by_kept None h = λ e. absurd (other (sym h ∙ e))
      where
        other : end.Stopped ≡ end.Refused → ⊥
        other q = cc
    by_kept (Some end.NoMemory) h = λ e. absurd (other (sym h ∙ e))
      where
        other : end.NoMemory ≡ end.Refused → ⊥
        other q = cc
    by_kept (Some _) h = λ e. absurd (other (sym h ∙ e))
      where
        other : end.Stopped ≡ end.Refused → ⊥
        other q = cc

    by_reason : (b : Bool) → IsClosing (cond b Own ByRemoval) kept word → word ≢ end.Refused
    by_reason true h = λ e. none (h ∙ ap Some e)
    by_reason false h = by_kept kept h

-- ---- a run over a script

module _ {H E : Type 0} (means : Handling H E ServerNote) (t : Terms) (groups : List ScriptGroup)
    (journal : List (Entry ServerNote)) (r : RunsOver means t None groups journal)
    (none_refused : list_any is_refusal journal ≡ false) (memory : HadMemory journal) where
  abbrev steps : List ScriptStep
  steps = steps_of groups

  abbrev most : ℕ
  most = t.most

  abbrev run : List (Entry ServerNote)
  run = past_of r.ends.run

  abbrev wound : List (Entry ServerNote)
  wound = past_of r.ends.closing

  -- the whole past: what was wound up, the end, and the run
  abbrev all : List (Entry ServerNote)
  all = wound ++ Ended ∷ run

  all_is : past_of journal ≡ all
  all_is = whole.all_is means t None groups journal r

  abbrev legal : is_legal most all ≡ true
  legal = whole.legal means t None groups journal r

  legal_run : is_legal most run ≡ true
  legal_run = whole.legal_run means t None groups journal r

  abbrev begun : EachStep IsBegun all
  begun = whole.begun means t None groups journal r

  abbrev left : AreLeft steps None all
  left = whole.left means t None groups journal r

  abbrev closed : (x : ℕ) → was_opened all x ≡ true → was_closed all x ≡ true
  closed = whole.closed means t None groups journal r

  first : was_opened all 0 ≡ true
  first = whole.first means t None groups journal r

  had_is : (x : ℕ) → had all x ≡ had run x
  had_is = whole.had_is means t None groups journal r

  refused_all : list_any is_refusal all ≡ false
  refused_all = the_numbers.refused_all means t None groups journal r none_refused

  numbered : EachStep IsNumbered run
  numbered = whole.numbered means t None groups journal r

  numbers : turns.AreNumbered most steps None all legal begun left closed
  numbers = the_numbers.numbers means t None groups journal r none_refused

  -- ---- the acceptor

  abbrev listens : (said : ServerNote) × ListensThrough steps (had all 0) said
  listens = living.listens means t None groups journal r

  listener_course : accepting.Course
      (accepting.at_start (Some (Rattle.laws_script_turns.specs.Laws.unoffered
      (Rattle.laws_script_turns.specs.event_script.specs.Stories.offers steps)))) (had run 0)
      listens.1.now
  listener_course = living.listener_course means t None groups journal r

  alive_first : is_alive run 0 ≡ true
  alive_first = living.alive_first means t None groups journal r

  accepted_all : accepted all ≡ listens.1.now.taken
  accepted_all = living.accepted_all means t None groups journal r

  accepted_journal : accepted journal ≡ accepted all
  accepted_journal = living.accepted_journal means t None groups journal r

  -- ---- each connection

  back_is : (c : ℕ) (past : List (Entry ServerNote))
      → back c past ≡ own.back_lines c past
  unfolding back
  back_is c [] = refl
  back_is c (e ∷ past) = ap (λ (l : List ℕ). l ++ lines_in c e) (back_is c past)

  lines_back : (c : ℕ) → lines_of c journal
      ≡ own.back_lines c all
  lines_back c = ap (lines_of c) (sym (reverse-reverse journal))
      ∙ ap (λ (p : List (Entry ServerNote)). lines_of c (reverse p)) all_is ∙ lines_reverse c all
      ∙ back_is c all

  memory_all : list_any entry_lacks all ≡ false
  memory_all = sym (ap (list_any entry_lacks) all_is)
      ∙ winding.any_reverse entry_lacks journal memory

  opened_conn : (c : ℕ) → c < accepted journal → was_opened run (suc c) ≡ true
  opened_conn c l = let opened_run =
      the_numbers.opened_run means t None groups journal r none_refused in
      winding.below_opened most run (suc c) legal_run (omega (arith, l, opened_run))

  follows_run : Rattle.laws_script_told.specs.Told.FollowsBefore (groups_told groups) run []
  follows_run = whole.follows_run means t None groups journal r

  free : list_any Rattle.laws_script_told.specs.laws_reports.specs.Laws.holds_back run ≡ false
  free = whole.free means t None groups journal r

  abbrev EndsHere : ℕ → Type 0
  EndsHere c = Ends t groups most run legal_run free r.ends.at_over.idle.no_pick
      r.ends.at_over.idle.none_open numbered follows_run r.ends.at_over.behind r.ends.at_over.over c
      (had all (suc c)) (lines_of c journal)

  not_lacking : (c : ℕ) (word : EndKind) (said : ServerNote) (handle : Handle)
      → said ≡ note.Finished c word → entry_lacks (Closed handle said) ≡ false → word ≢ end.NoMemory
  not_lacking c word said handle is h =
      λ e. absurd (both_ways (entry_lacks (Closed handle said)) h
      (ap (λ (s : ServerNote). entry_lacks (Closed handle s)) (is ∙ ap (note.Finished c) e)))

  no_refused_end : (last : _) (p : connection.Progress) → EndedSo None last p p.kept
      → p.kept ≡ Some end.Refused → ⊥
  no_refused_end last p ended e = subst (EndedSo None last p) e ended

  ended_so : (c : ℕ) (handle : Handle) (later before : List (Entry ServerNote)) (said : ServerNote)
      → all ≡ later ++ Closed handle said ∷ before → handle.0 ≡ suc c
      → was_opened run (suc c) ≡ true
      → lines_of c journal ≡ own.recorded c (had all (suc c)) ++ note_lines said → EndsHere c
  ended_so c handle later before said is mine o lines =
      let talks = turns.talks_at most steps None all legal begun left closed numbers c later handle
      said before is mine in
      let through = talks.2 in
      let o_all : was_opened all (suc c) ≡ true = opened_later wound (Ended ∷ run) (suc c) o in
      let conn = turns.connection most steps None all legal begun left closed c o_all in
      let account = accounts c None talks.0 _ (had all (suc c)) through.now through.course in
      record {
        moment = talks.0;
        now = through.now;
        reason = reason_of before (suc c);
        word = through.word;
        course = through.course;
        closing = through.closing;
        opened_for = whole.opened_for means t None groups journal r c c conn.moment o
            (subst (λ (k : ℕ). origin_of all (suc c)
            ≡ Some (record { note = note.Accepted k; moment = conn.moment })) (numbers c o_all)
            conn.origin);
        by_others = λ other. (
          living.alive_if means t None groups journal r (suc c) before later
              handle said is mine o other,
          had_is (suc c),
        );
        by_itself = λ own none.
            let l : Last ServerNote (had before (suc c)) =
            ended_last most before (suc c) before_legal (own_reason before (suc c) own) in
            let closes : EndsInClose (had all (suc c)) =
            subst EndsInClose (sym (had_before ∙ l.are)) (ends_close l.before l.last l.closes)
            in
            some_none through.now.kept (course-closed c None _ through.now (had all (suc c))
            through.course closes) none;
        memory = not_lacking c through.word said handle through.notes
            (winding.none_at entry_lacks later (Closed handle said) before
            (sym (ap (list_any entry_lacks) is) ∙ memory_all));
        taken_in = not_refused before (suc c) through.now.kept through.word
            (no_refused_end _ through.now account.ended) through.closing;
        says = lines ∙ ap (λ (s : ServerNote).
            own.recorded c (had all (suc c))
            ++ note_lines s) through.notes;
      }
    where
      here : is_legal most (Closed handle said ∷ before) ≡ true
      here = is_legal-front most later (Closed handle said ∷ before)
          (sym (ap (is_legal most) is) ∙ legal)

      before_legal : is_legal most before ≡ true
      before_legal = (and_parts (may_follow most before (Closed handle said)) (is_legal most before)
          here).1

      had_before : had all (suc c) ≡ had before (suc c)
      had_before = ap (λ (p : List (Entry ServerNote)). had p (suc c)) is
          ∙ Rattle.laws_script_runs.proofs.Handles.had_closed most later
          (Closed handle said ∷ before) (suc c) (sym (ap (is_legal most) is) ∙ legal)
          (ap (λ (b : Bool). b || was_closed before (suc c)) (eq-eqb handle.0 (suc c) mine))
          ∙ append-nil (had before (suc c))

      some_none : (kept : Option EndKind) → Rattle.std.proofs.Common.IsSome kept → kept ≡ None → ⊥
      some_none None h e = absurd (false≢true h)
      some_none (Some k) h e = absurd (other e)
        where
          other : Some k ≡ None → ⊥
          other q = cc

  each_ends : (c : ℕ) → c < accepted journal → EndsHere c
  each_ends c l = by_lines (turns.lines_all most steps None all legal begun left closed numbers
      first c [] all refused_all refl)
    where
      o : was_opened run (suc c) ≡ true
      o = opened_conn c l

      shut : was_closed all (suc c) ≡ true
      shut = closed (suc c) (opened_later wound (Ended ∷ run) (suc c) o)

      by_lines : own.Lines c all → EndsHere c
      by_lines (own.going open_ lines) = absurd (both_ways _ open_ shut)
      by_lines (own.ended_by later handle said before is mine h lines) =
          ended_so c handle later before said is mine o (lines_back c ∙ lines)

  pub second_law : lines_by_connection journal ≡ grouped (steps_of groups)
  second_law =
      groups_lines t groups most run legal_run free r.ends.at_over.idle.no_pick
      r.ends.at_over.idle.none_open numbered follows_run r.ends.at_over.behind
      r.ends.at_over.over
      journal (λ c. had all (suc c)) listens.1.now r.script (few steps r.script) alive_first
      listener_course (accepted_journal ∙ accepted_all) each_ends
