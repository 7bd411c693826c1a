-- Each note of a connection stands after its acceptance.
use Rattle.std.proofs.Common.{ℕ, zero, suc, ◌≡◌, ◌⊎◌, ◌∙◌, inl, inr, true, List, [], ◌∷◌, ◌++◌, sym}
use Rattle.std.proofs.Common.{ap, subst, Option, Some, None, append_assoc}
use Rattle.std.specs.List.{list_any}
use Rattle.std.proofs.lemmas.Bool.{false≢true, eqb-true}
use Rattle.std.proofs.lemmas.List.{reverse-reverse}
use Rattle.laws_script_complete.specs.ev_types.specs.declared.upcall.Answer.{Answer}
use Rattle.laws_script_complete.specs.ev_types.specs.declared.upcall.Why.{Why}
use Rattle.laws_script_complete.specs.ev_base.specs.Terms.{Terms}
use Rattle.laws_script_complete.specs.reactor_journal.specs.Event.{Item}
use Rattle.laws_script_complete.specs.reactor_journal.specs.Event.{Origin}
use Rattle.laws_script_complete.specs.reactor_journal.specs.declared.entry.Entry.{Entry}
use Rattle.laws_script_complete.specs.reactor_journal.specs.declared.entry.Entry.TheVariants.{
  Opened,
}
use Rattle.laws_script_complete.specs.reactor_journal.specs.declared.entry.Entry.TheVariants.{
  Returned,
}
use Rattle.laws_script_complete.specs.reactor_journal.specs.declared.entry.Entry.TheVariants.{
  Refused,
}
use Rattle.laws_script_complete.specs.reactor_journal.specs.declared.entry.Entry.TheVariants.{
  Closed,
}
use Rattle.laws_script_complete.specs.reactor_journal.specs.Past.{past_of}
use Rattle.laws_script_complete.specs.reactor_journal.specs.Past.{had}
use Rattle.laws_script_complete.specs.reactor_journal.specs.Past.{origin_of}
use Rattle.laws_script_complete.specs.reactor_journal.specs.Past.{offered_here}
use Rattle.laws_script_complete.specs.reactor_journal.specs.Follow.{is_legal}
use Rattle.laws_script_complete.specs.reactor_journal.proofs.Turning.{past_split}
use Rattle.laws_script_complete.specs.reactor_model.specs.Handling.{Handling}
use Rattle.laws_script_complete.specs.acceptor.specs.Servers.{read_alone}
use Rattle.laws_script_complete.specs.log_handler.specs.declared.note.ServerNote.{ServerNote}
use Rattle.laws_script_complete.specs.log_handler.specs.declared.note.ServerNote.TheVariants
    as note
use Rattle.laws_script_complete.specs.event_script.specs.Script.{ScriptStep}
use Rattle.laws_script_complete.specs.event_script.specs.Script.{ScriptGroup}
use Rattle.laws_script_complete.specs.event_script.specs.Script.{steps_of}
use Rattle.laws_script_complete.specs.laws_script_runs.specs.Connections.{IsLeft, SaysLast}
use Rattle.laws_script_complete.specs.laws_script_runs.specs.Connections.{LeavesOffered}
use Rattle.laws_script_complete.specs.laws_script_runs.specs.Connections.{is_entry_of}
use Rattle.laws_script_complete.specs.laws_script_runs.specs.Connections.{is_note_of}
use Rattle.laws_script_complete.specs.laws_script_runs.specs.Runs.{first_handle}
use Rattle.laws_script_complete.specs.laws_script_runs.specs.Steps.{EachStep}
use Rattle.laws_script_complete.specs.laws_script_runs.proofs.Notes.{course_listens, is_listening}
use Rattle.laws_script_complete.specs.laws_script_runs.proofs.Notes.{of_none}
use Rattle.laws_script_complete.specs.laws_script_runs.proofs.Settling as settling
use Rattle.laws_script_complete.specs.laws_script_runs.proofs.Settling.{each_front, origin_still}
use Rattle.laws_script_complete.specs.laws_script_runs.proofs.Turns as turns
use Rattle.laws_script_taken.specs.Laws.{RunsSomehow}
use Rattle.laws_script_taken.specs.Taken.{accepts_connection, finishes}
use Rattle.laws_script_taken.proofs.Closing.{accepts_in, more_accepts}
use Rattle.laws_script_taken.proofs.Offers.{leaves_it, origin_found, accepted_here}
use Rattle.laws_script_taken.proofs.Places.{any_round, turned_round}
use Rattle.laws_script_taken.proofs.Whole as whole
use Rattle.laws_script_taken.proofs.Whole.{BegunRun, as_begun, no_turn}

abbrev AcceptedIn : ℕ → List (Entry ServerNote) → Type 0
AcceptedIn c past = list_any (accepts_connection c) past ≡ true

-- if a handler was offered, its connection was accepted
offered_in : (c : ℕ) (s : List (Entry ServerNote)) (o : Origin ServerNote) → offered_here s ≡ Some o
    → o.note ≡ note.Accepted c → AcceptedIn c s
offered_in c s o here says = let turn = accepted_here s o c here says in
    accepts_in c turn.event turn.answer turn.past s turn.behind

opened_in : (c : ℕ) (past : List (Entry ServerNote)) (x : ℕ) (o : Origin ServerNote)
    → origin_of past x ≡ Some o → o.note ≡ note.Accepted c → AcceptedIn c past
opened_in c past x o is says =
    let at = origin_found past x o is in
    ap (list_any (accepts_connection c)) at.is
    ∙ more_accepts c at.later (Opened at.handle at.mask) at.before
    (offered_in c at.before o at.here says)

-- the note of what is left is that it finished
module _ (steps : List ScriptStep) (idle : Option ℕ) (c : ℕ) (items : List (Item ServerNote))
    (reason : Why) (said : ServerNote) (mine : is_note_of c said ≡ true) where
  by_note : (o : Origin ServerNote) (n : ServerNote)
      → LeavesOffered steps idle n o.moment items reason said → finishes c said ≡ true
  by_note o (note.Accepted k) h = ap (finishes c) h.notes ∙ sym (ap (is_note_of c) h.notes) ∙ mine
  by_note o note.NoneWaiting h = absurd h
  by_note o note.ListenerFailed h = absurd h
  by_note o note.ListenerShut h = absurd h
  by_note o (note.Piece conn took records) h = absurd h
  by_note o (note.Finished conn end) h = absurd h

  finishes_it : (origin : Option (Origin ServerNote)) → SaysLast steps idle origin items reason said
      → finishes c said ≡ true
  finishes_it None h = absurd (false≢true (sym (ap (is_note_of c) h.notes) ∙ mine))
  finishes_it (Some o) h = by_note o o.note h

module _ {H E : Type 0} (means : Handling H E ServerNote) (t : Terms) (idle : Option ℕ)
    (groups : List ScriptGroup) (journal : List (Entry ServerNote))
    (r : RunsSomehow means t idle groups journal) (c : ℕ) where
  abbrev all : List (Entry ServerNote)
  all = past_of journal

  -- a turn is of a handler that was opened before
  begun_turn : BegunRun means t idle groups journal
      → (later past : List (Entry ServerNote)) (event : ℕ) (answer : Answer) (said : ServerNote)
      → all ≡ later ++ Returned event answer said ∷ past → is_note_of c said ≡ true
      → AcceptedIn c past
  begun_turn b later past event answer said is mine = by_handle turn.x turn.turn
    where
      legal : is_legal t.most all ≡ true
      legal = whole.legal means t idle groups journal b

      turn : settling.TurnOf t.most all legal event answer said past
      turn = settling.turn_of t.most all legal later past event answer said is

      by_handle : (x : ℕ) → settling.Turn t.most all legal event answer said past x
          → AcceptedIn c past
      by_handle zero its =
          let listens = turns.acceptor t.most (steps_of groups) idle all legal
          (whole.begun means t idle groups journal b) (whole.left means t idle groups journal b)
          (whole.closed means t idle groups journal b)
          (whole.first_opened means t idle groups journal b) in
          let heard = turns.listen_in t.most (steps_of groups) idle all legal
          (whole.begun means t idle groups journal b) (whole.left means t idle groups journal b)
          (whole.closed means t idle groups journal b)
          (had past 0) its.item its.more (had all 0) its.among
          (course_listens _ listens.now (had all 0) listens.course) in
          absurd (false≢true (sym (of_none c said (sym (ap is_listening its.notes) ∙ heard))
          ∙ mine))
      by_handle (suc d) its =
          let begun = whole.begun means t idle groups journal b in
          let left = whole.left means t idle groups journal b in
          let closed = whole.closed means t idle groups journal b in
          let o = turns.opened_all t.most (steps_of groups) idle all legal begun left closed later
          past (Returned event answer said) (suc d) is its.opened_now in
          let piece = turns.conn_note t.most (steps_of groups) idle all legal begun left closed d
          event answer said later past is its o in
          let talks = turns.connection t.most (steps_of groups) idle all legal begun left closed d o
          in
          let number = eqb-true talks.number c
          (sym (ap (is_note_of c) (sym its.notes ∙ piece.2)) ∙ mine) in
          let joined : all ≡ (later ++ Returned event answer said ∷ []) ++ past =
          is ∙ sym (append_assoc later (Returned event answer said ∷ []) past) in
          let origin : origin_of all (suc d) ≡ origin_of past (suc d) =
          ap (λ (p : List (Entry ServerNote)). origin_of p (suc d)) joined
          ∙ origin_still t.most (later ++ Returned event answer said ∷ []) past (suc d)
          (sym (ap (is_legal t.most) joined) ∙ legal) its.opened_now in
          opened_in c past (suc d) (record {
            note = note.Accepted talks.number;
            moment = talks.moment;
          }) (sym origin ∙ talks.origin) (ap (λ (k : ℕ). note.Accepted k) number)

  left_at : (later : List (Entry ServerNote)) (e : Entry ServerNote)
      (past : List (Entry ServerNote)) → all ≡ later ++ e ∷ past
      → IsLeft (steps_of groups) idle past e
  left_at later e past is = (each_front (IsLeft (steps_of groups) idle) later (e ∷ past)
      (subst (EachStep (IsLeft (steps_of groups) idle)) is r.turns)).0

  by_run : (r.run ≡ []) ⊎ ((rest : List (Entry ServerNote))
      × (r.run ≡ Opened first_handle read_alone ∷ rest))
      → (later past : List (Entry ServerNote)) (event : ℕ) (answer : Answer) (said : ServerNote)
      → all ≡ later ++ Returned event answer said ∷ past → is_note_of c said ≡ true
      → AcceptedIn c past
  by_run (inl none) later past event answer said is mine =
      absurd (no_turn means t idle groups journal r none _ event answer said _
      (turned_round journal later (Returned event answer said) past is))
  by_run (inr begins) later past event answer said is mine =
      begun_turn (as_begun means t idle groups journal r begins.0 begins.1) later past event answer
      said is mine

  by_entry : (later : List (Entry ServerNote)) (e : Entry ServerNote)
      (past : List (Entry ServerNote)) → all ≡ later ++ e ∷ past → is_entry_of c e ≡ true
      → AcceptedIn c past
  by_entry later (Returned event answer said) past is mine =
      by_run r.begins later past event answer said is mine
  by_entry later (Closed handle said) past is mine =
      let left = left_at later (Closed handle said) past is in
      let it = leaves_it (steps_of groups) idle c _ _ said
      (finishes_it (steps_of groups) idle c _ _ said mine (origin_of past handle.0) left)
      (origin_of past handle.0) left in
      opened_in c past handle.0 it.from it.is it.of_it
  by_entry later (Refused live fault said) past is mine =
      let left = left_at later (Refused live fault said) past is in
      let it = leaves_it (steps_of groups) idle c _ _ said
      (finishes_it (steps_of groups) idle c _ _ said mine _ left) _ left in
      offered_in c past it.from it.is it.of_it
  by_entry later _ past is mine = absurd (false≢true mine)

  pub accepted_before : (before : List (Entry ServerNote)) (e : Entry ServerNote)
      (after : List (Entry ServerNote)) → journal ≡ before ++ e ∷ after → is_entry_of c e ≡ true
      → list_any (accepts_connection c) before ≡ true
  accepted_before before e after is mine =
      any_back (by_entry (past_of after) e (past_of before)
      (ap past_of is ∙ past_split before after e) mine)
    where
      any_back : list_any (accepts_connection c) (past_of before) ≡ true
          → list_any (accepts_connection c) before ≡ true
      any_back h = sym (ap (list_any (accepts_connection c)) (reverse-reverse before))
          ∙ any_round (accepts_connection c) (past_of before) h
