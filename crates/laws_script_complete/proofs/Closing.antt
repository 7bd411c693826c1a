-- What a connection has taken that was closed in a run over a script.
use Rattle.std.proofs.Common.{ℕ, zero, suc, ◌≡◌, ◌≢◌, ◌∙◌, Bool, true, false, cond, ◌||◌, List, []}
use Rattle.std.proofs.Common.{◌∷◌, ◌++◌, length, refl, sym, ap, subst, Option, Some, None}
use Rattle.std.proofs.Common.{append_assoc, append-nil}
use Rattle.std.specs.List.{list_all, sum_by}
use Rattle.std.proofs.lemmas.Bool.{eq-eqb}
use Rattle.laws_script_runs.specs.ev_types.specs.declared.upcall.Handle.{Handle}
use Rattle.laws_script_runs.specs.ev_types.specs.declared.upcall.Why.{Why}
use Rattle.laws_script_runs.specs.ev_types.specs.declared.upcall.Why.TheVariants.{Own}
use Rattle.laws_script_runs.specs.ev_types.specs.declared.upcall.Why.TheVariants.{
  Removed as ByRemoval,
}
use Rattle.laws_script_runs.specs.ev_base.specs.Terms.{Terms}
use Rattle.laws_script_runs.specs.reactor_journal.specs.Event.{Origin}
use Rattle.laws_script_runs.specs.reactor_journal.specs.declared.entry.Entry.{Entry}
use Rattle.laws_script_runs.specs.reactor_journal.specs.declared.entry.Entry.TheVariants.{Closed}
use Rattle.laws_script_runs.specs.reactor_journal.specs.declared.entry.Entry.TheVariants.{Ended}
use Rattle.laws_script_runs.specs.reactor_journal.specs.Past.{past_of, had, origin_of, reason_of}
use Rattle.laws_script_runs.specs.reactor_journal.specs.Past.{ended_itself, was_opened, was_closed}
use Rattle.laws_script_runs.specs.reactor_journal.specs.Follow.{is_legal}
use Rattle.laws_script_runs.specs.reactor_journal.proofs.Turning.{past_split}
use Rattle.laws_script_runs.specs.laws_turns.specs.Laws.{stays}
use Rattle.laws_script_runs.specs.laws_turns.proofs.Turns.{had_stays}
use Rattle.laws_script_runs.specs.reactor_model.specs.Handling.{Handling}
use Rattle.laws_script_runs.specs.log_lines.specs.declared.end_kind.EndKind.{EndKind}
use Rattle.laws_script_runs.specs.log_lines.specs.declared.end_kind.EndKind.TheVariants as end
use Rattle.laws_script_runs.specs.log_handler.specs.declared.note.ServerNote.{ServerNote}
use Rattle.laws_script_runs.specs.log_handler.specs.declared.note.ServerNote.TheVariants as note
use Rattle.laws_script_runs.specs.log_handler.specs.Connection as connection
use Rattle.laws_script_runs.specs.log_handler.specs.Connections.{IsClosing}
use Rattle.laws_script_runs.specs.log_handler.specs.Laws.{took_in, last_turn, EndedSo}
use Rattle.laws_script_runs.specs.log_handler.proofs.Accounts.{accounts}
use Rattle.laws_script_runs.specs.log_handler.proofs.Courses.{course-goes}
use Rattle.laws_script_runs.specs.event_script.specs.Script.{ScriptGroup, steps_of}
use Rattle.laws_script_runs.specs.event_script.specs.Stories.{bytes_of, story}
use Rattle.laws_script_runs.specs.laws_script_turns.specs.Laws.{ReadToEnd, pauses_had, steps_on}
use Rattle.laws_script_runs.specs.laws_script_turns.specs.Laws.{untold}
use Rattle.laws_script_runs.specs.laws_script_turns.proofs.Saying.{takes_all_bytes}
use Rattle.laws_script_runs.specs.Connections.{IsLeft, SaysLast, LeavesOffered}
use Rattle.laws_script_runs.specs.Laws.{RunsOver}
use Rattle.laws_script_runs.specs.Steps.{EachStep}
use Rattle.laws_script_runs.proofs.Glue as glue
use Rattle.laws_script_runs.proofs.Glue.{no_close}
use Rattle.laws_script_runs.proofs.Handles.{had_closed, origin_first}
use Rattle.laws_script_runs.proofs.Living as living
use Rattle.laws_script_runs.proofs.Scripts.{orderly}
use Rattle.laws_script_runs.proofs.Settling as settling
use Rattle.laws_script_runs.proofs.Settling.{each_front, opened_later, origin_still}
use Rattle.laws_script_runs.proofs.Standing.{OpenedFor}
use Rattle.laws_script_runs.proofs.Whole as whole
use Rattle.laws_script_runs.proofs.Winding as winding
use Rattle.laws_script_complete.specs.Complete.{took_for, TookAllAs}
use Rattle.laws_script_complete.proofs.Taking as taking

-- the words of a connection that was read to its end
abbrev AsRead : EndKind → Type 0
AsRead end.End = Unit {0}
AsRead (end.Partial n) = Unit {0}
AsRead end.Stopped = Unit {0}
AsRead _ = ⊥

took_all_as : (word : EndKind) (c : ℕ) (journal : List (Entry ServerNote)) (steps : List _)
    → (AsRead word → sum_by (took_for c) journal ≡ length (bytes_of c steps))
    → TookAllAs word c journal steps
took_all_as end.End c journal steps h = h tt
took_all_as (end.Partial n) c journal steps h = h tt
took_all_as end.Stopped c journal steps h = h tt
took_all_as (end.Malformed at) c journal steps h = tt
took_all_as end.Failed c journal steps h = tt
took_all_as end.NoMemory c journal steps h = tt
took_all_as end.Idle c journal steps h = tt
took_all_as end.Refused c journal steps h = tt

-- how it ended itself, if it was closed by its own answer with such a word
own_end : (word : EndKind) (kept : Option EndKind) (idle : Option ℕ) (last : _)
    (p : connection.Progress) (pauses steps : ℕ) → AsRead word → kept ≡ Some word
    → EndedSo idle last p kept → ReadToEnd kept pauses steps
own_end end.End kept idle last p pauses steps a e so =
    subst (λ (k : Option EndKind). ReadToEnd k pauses steps) (sym e) tt
own_end (end.Partial n) kept idle last p pauses steps a e so =
    subst (λ (k : Option EndKind). ReadToEnd k pauses steps) (sym e) tt
own_end end.Stopped kept idle last p pauses steps a e so = absurd (subst (EndedSo idle last p) e so)
own_end (end.Malformed at) kept idle last p pauses steps a e so = absurd a
own_end end.Failed kept idle last p pauses steps a e so = absurd a
own_end end.NoMemory kept idle last p pauses steps a e so = absurd a
own_end end.Idle kept idle last p pauses steps a e so = absurd a
own_end end.Refused kept idle last p pauses steps a e so = absurd a

module _ {H E : Type 0} (means : Handling H E ServerNote) (t : Terms) (idle : Option ℕ)
    (groups : List ScriptGroup) (journal : List (Entry ServerNote))
    (r : RunsOver means t idle groups journal)
    (before after : List (Entry ServerNote)) (handle : Handle) (c : ℕ) (word : EndKind)
    (is : journal ≡ before ++ Closed handle (note.Finished c word) ∷ after) where
  abbrev all : List (Entry ServerNote)
  all = whole.all means t idle groups journal r

  abbrev run : List (Entry ServerNote)
  run = whole.run means t idle groups journal r

  abbrev past : List (Entry ServerNote)
  past = past_of before

  abbrev x : ℕ
  x = handle.0

  abbrev said : ServerNote
  said = note.Finished c word

  all_is : all ≡ past_of after ++ Closed handle said ∷ past
  all_is = sym (whole.all_is means t idle groups journal r) ∙ ap past_of is
      ∙ past_split before after (Closed handle said)

  legal : is_legal t.most (past_of after ++ Closed handle said ∷ past) ≡ true
  legal = sym (ap (is_legal t.most) all_is) ∙ whole.legal means t idle groups journal r

  joined : all ≡ (past_of after ++ Closed handle said ∷ []) ++ past
  joined = all_is ∙ sym (append_assoc (past_of after) (Closed handle said ∷ []) past)

  opened_before : was_opened past x ≡ true
  opened_before = settling.opened_before_closed t.most (past_of after) past handle said x legal refl

  opened_all : was_opened all x ≡ true
  opened_all = ap (λ (p : List (Entry ServerNote)). was_opened p x) joined
      ∙ opened_later (past_of after ++ Closed handle said ∷ []) past x opened_before

  opened_run : was_opened run x ≡ true
  opened_run = sym (winding.opened_back t.most (whole.wound means t idle groups journal r)
      (Ended ∷ run) x (whole.legal means t idle groups journal r) refl) ∙ opened_all

  -- all its turns came before
  had_is : had all x ≡ had past x
  had_is =
      ap (λ (p : List (Entry ServerNote)). had p x) all_is
      ∙ had_closed t.most (past_of after) (Closed handle said ∷ past) x legal
      (ap (λ (b : Bool). b || was_closed past x) (eq-eqb x x refl)) ∙ append-nil (had past x)

  origin_is : origin_of all x ≡ origin_of past x
  origin_is = ap (λ (p : List (Entry ServerNote)). origin_of p x) joined
      ∙ origin_still t.most (past_of after ++ Closed handle said ∷ []) past x
      (sym (ap (is_legal t.most) joined) ∙ whole.legal means t idle groups journal r) opened_before

  leaves : SaysLast (steps_of groups) idle (origin_of past x) (had past x) (reason_of past x) said
  leaves = (each_front (IsLeft (steps_of groups) idle) (past_of after) (Closed handle said ∷ past)
      (subst (EachStep (IsLeft (steps_of groups) idle)) all_is
      (whole.left means t idle groups journal r))).0

  -- ---- the connection

  record Connected : Type 0 where
    moment : ℕ
    origin : origin_of all x ≡ Some (record { note = note.Accepted c; moment = moment })
    now : connection.Progress
    course : connection.Course c idle (connection.at_start moment
        (Some (untold (story c (steps_of groups))))) (had past x) now
    closing : IsClosing (reason_of past x) now.kept word

  connected : Connected
  connected = by_origin (origin_of past x) refl leaves
    where
      numbers : (k : ℕ) (w : EndKind) → said ≡ note.Finished k w → (k ≡ c) × (w ≡ word)
      numbers k w h = (cc h, cc h)

      by_note : (o : Origin ServerNote) (n : ServerNote) → o.note ≡ n → origin_of past x ≡ Some o
          → LeavesOffered (steps_of groups) idle n o.moment (had past x) (reason_of past x) said
          → Connected
      by_note o (note.Accepted k) says from h =
          let same = numbers k h.word h.notes in
          record {
            moment = o.moment;
            origin = origin_is ∙ from ∙ ap (λ (n : ServerNote).
                Some (record { note = n; moment = o.moment }))
                (says ∙ ap (λ (i : ℕ). note.Accepted i) same.0);
            now = h.now;
            course = subst (λ (i : ℕ). connection.Course i idle
                (connection.at_start o.moment (Some (untold (story i (steps_of groups)))))
                (had past x) h.now) same.0 h.course;
            closing = subst (λ (w : EndKind). IsClosing (reason_of past x) h.now.kept w) same.1
                h.closing;
          }
      by_note o note.NoneWaiting says from h = absurd h
      by_note o note.ListenerFailed says from h = absurd h
      by_note o note.ListenerShut says from h = absurd h
      by_note o (note.Piece conn took records) says from h = absurd h
      by_note o (note.Finished conn end) says from h = absurd h

      by_origin : (o : Option (Origin ServerNote)) → origin_of past x ≡ o
          → SaysLast (steps_of groups) idle o (had past x) (reason_of past x) said → Connected
      by_origin None from h = absurd (other h.notes)
        where
          other : note.Finished c word ≡ note.ListenerShut → ⊥
          other q = cc
      by_origin (Some o) from h = by_note o o.note refl from h

  -- it is not the acceptor
  not_first : x ≢ 0
  not_first same = none (sym connected.origin ∙ ap (origin_of all) same
      ∙ origin_first t.most all (whole.legal means t idle groups journal r)
      (whole.begun means t idle groups journal r))
    where
      none : ◌≡◌ {A = Option (Origin ServerNote)}
          (Some (record { note = note.Accepted c; moment = connected.moment })) None → ⊥
      none q = cc

  opened_for : OpenedFor run c x
  opened_for = by_number x refl
    where
      by_number : (y : ℕ) → x ≡ y → OpenedFor run c x
      by_number zero e = absurd (not_first e)
      by_number (suc d) e =
          subst (OpenedFor run c) (sym e)
          (whole.opened_for means t idle groups journal r d c connected.moment
          (subst (λ (y : ℕ). was_opened run y ≡ true) e opened_run)
          (subst (λ (y : ℕ). origin_of all y
          ≡ Some (record { note = note.Accepted c; moment = connected.moment })) e
          connected.origin))

  -- ---- how it was read

  ended : EndedSo idle (last_turn (had past x)) connected.now connected.now.kept
  ended = (accounts c idle connected.moment _ (had past x) connected.now connected.course).ended

  abbrev Reads : Type 0
  Reads = ReadToEnd connected.now.kept (pauses_had (had past x)) (steps_on c (steps_of groups))

  -- closed by another, it was alive when the run was over, and so has found nothing as often as
  -- there are steps
  by_another : (reason_of past x ≡ Own → ⊥) → Reads
  by_another other =
      let alive = living.alive_if means t idle groups journal r x past (past_of after) handle said
      all_is refl opened_run other in
      let same : had past x ≡ had run x =
      sym had_is ∙ whole.had_is means t idle groups journal r x in
      let stay = had_stays t.most run x (whole.legal_run means t idle groups journal r) alive in
      let goes : connected.now.kept ≡ None =
      course-goes c idle _ connected.now (had past x) refl connected.course
      (no_close (had past x) (ap (list_all (λ item. stays item.answer)) same ∙ stay)) in
      let quiet : pauses_had (had past x) ≡ steps_on c (steps_of groups) =
      ap pauses_had same
      ∙ glue.conn_quiet t groups t.most run (whole.legal_run means t idle groups journal r)
      (whole.free means t idle groups journal r) r.ends.at_over.idle.no_pick
      r.ends.at_over.idle.none_open
      (whole.numbered means t idle groups journal r)
      (whole.follows_run means t idle groups journal r) r.ends.at_over.behind
      r.ends.at_over.over c x opened_for alive in
      subst (λ (k : Option EndKind). ReadToEnd k (pauses_had (had past x))
      (steps_on c (steps_of groups))) (sym goes) quiet

  own_or_not : (b : Bool) → ended_itself past x ≡ b
      → IsClosing (cond b Own ByRemoval) connected.now.kept word → AsRead word → Reads
  own_or_not true e closing a = own_end word connected.now.kept idle (last_turn (had past x))
      connected.now (pauses_had (had past x)) (steps_on c (steps_of groups)) a closing ended
  own_or_not false e closing a = by_another
      (λ own. other (sym (ap (λ (b : Bool). cond b Own ByRemoval) e) ∙ own))
    where
      other : ◌≡◌ {A = Why} ByRemoval Own → ⊥
      other q = cc

  took : AsRead word → sum_by (took_for c) journal ≡ length (bytes_of c (steps_of groups))
  took a =
      let reads = own_or_not (ended_itself past x) refl connected.closing a in
      let taken = takes_all_bytes c idle (steps_of groups) connected.moment (had past x)
      connected.now (orderly c (steps_of groups) r.script) connected.course reads in
      let account = accounts c idle connected.moment _ (had past x) connected.now connected.course
      in
      taking.took_all_in_all means t idle groups journal r c x opened_for not_first
      ∙ ap (sum_by took_in) had_is ∙ sym account.took ∙ ap length taken

  pub took_all : TookAllAs word c journal (steps_of groups)
  took_all = took_all_as word c journal (steps_of groups) took
