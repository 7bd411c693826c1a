-- A whole run over a script: its run, its end and its winding up, read backwards.
use Rattle.std.proofs.Common.{ℕ, suc, ◌≡◌, inl, true, false, List, [], ◌∷◌, ◌++◌, refl, sym, ap}
use Rattle.std.proofs.Common.{◌∙◌, subst, Option, Some, None, append-nil, append_assoc}
use Rattle.std.specs.List.{list_any}
use Rattle.std.proofs.lemmas.Bool.{and_parts}
use Rattle.reactor_model.specs.ev_base.specs.Terms.{Terms}
use Rattle.reactor_model.specs.reactor_journal.specs.Event.{Origin}
use Rattle.reactor_model.specs.reactor_journal.specs.declared.entry.Entry.{Entry}
use Rattle.reactor_model.specs.reactor_journal.specs.declared.entry.Entry.TheVariants.{Opened}
use Rattle.reactor_model.specs.reactor_journal.specs.declared.entry.Entry.TheVariants.{Ended}
use Rattle.reactor_model.specs.reactor_journal.specs.Past.{past_of, count, had, origin_of}
use Rattle.reactor_model.specs.reactor_journal.specs.Past.{reason_of, ended_itself, is_alive}
use Rattle.reactor_model.specs.reactor_journal.specs.Past.{was_opened, was_closed, was_removed}
use Rattle.reactor_model.specs.reactor_journal.specs.Past.{opened, offered_here, all_below}
use Rattle.reactor_model.specs.reactor_journal.specs.Follow.{may_follow, is_legal}
use Rattle.reactor_model.specs.reactor_journal.proofs.Alive.{opened_below}
use Rattle.reactor_model.specs.reactor_journal.proofs.Picking.{all_below-at}
use Rattle.reactor_model.specs.reactor_journal.proofs.Turning.{past_split, is_legal-front}
use Rattle.reactor_model.specs.Handling.{Handling}
use Rattle.laws_script_turns.specs.acceptor.specs.Servers.{ServerMay, is_accepted as says_accepted}
use Rattle.laws_script_told.specs.log_handler.specs.declared.note.ServerNote.{ServerNote}
use Rattle.laws_script_told.specs.log_handler.specs.declared.note.ServerNote.TheVariants as note
use Rattle.laws_script_turns.specs.event_script.specs.Script.{ScriptStep, ScriptGroup, groups_told}
use Rattle.laws_script_turns.specs.event_script.specs.Script.{steps_of}
use Rattle.laws_script_runs.specs.Connections.{lines_in, lines_of, lines_by_connection, accepted}
use Rattle.laws_script_runs.specs.Connections.{accepts, AreLeft, HadMemory, entry_lacks}
use Rattle.laws_script_runs.specs.Connections.{ListensThrough, TalksThrough}
use Rattle.laws_script_runs.proofs.ByTurns.{TurnsBefore, read_backwards, turns_so}
use Rattle.laws_script_runs.specs.Steps.{EachStep}
use Rattle.laws_script_runs.specs.Runs.{first_handle}
use Rattle.laws_script_runs.specs.Laws.{RunsOver}
use Rattle.laws_script_runs.proofs.Handles.{IsBegun, offered}
use Rattle.laws_script_runs.proofs.Numbering.{IsNumbered}
use Rattle.laws_script_runs.proofs.Standing.{OpenedFor, opened_for_later, end_of_origin}
use Rattle.laws_script_runs.proofs.Turns as turns
use Rattle.laws_script_runs.proofs.Settling.{each_front, origin_still, opened_later}
use Rattle.laws_script_runs.proofs.Offering.{run_offers}
use Rattle.laws_script_runs.proofs.Winding as winding
use Rattle.laws_script_runs.proofs.Winding.{Begins}

module _ {H E : Type 0} (means : Handling H E ServerNote) (t : Terms) (idle : Option ℕ)
    (groups : List ScriptGroup) (journal : List (Entry ServerNote))
    (r : RunsOver means t idle groups journal) where
  abbrev pub steps : List ScriptStep
  steps = steps_of groups

  abbrev pub most : ℕ
  most = t.most

  abbrev pub run : List (Entry ServerNote)
  run = past_of r.ends.run

  abbrev pub wound : List (Entry ServerNote)
  wound = past_of r.ends.closing

  -- the whole past: what was wound up, the end, and the run
  abbrev pub all : List (Entry ServerNote)
  all = wound ++ Ended ∷ run

  pub all_is : past_of journal ≡ all
  all_is = ap past_of r.ends.is ∙ past_split r.ends.run r.ends.closing Ended

  pub legal : is_legal most all ≡ true
  legal = sym (ap (is_legal most) all_is) ∙ r.whole.legal

  pub legal_end : is_legal most (Ended ∷ run) ≡ true
  legal_end = is_legal-front most wound (Ended ∷ run) legal

  pub legal_run : is_legal most run ≡ true
  legal_run = (and_parts (may_follow most run Ended) (is_legal most run) legal_end).1

  pub turned_run : TurnsBefore (ServerMay t) says_accepted 1 run None
  turned_run = turns_so (means.may t) (ServerMay t) means.installs says_accepted 1 r.acts.asks
      r.acts.installs run None (read_backwards means t 1 r.ends.run r.turned)

  pub going : Rattle.reactor_model.specs.reactor_journal.specs.Past.ended run ≡ false
  going = winding.not_ended most run
      (and_parts (may_follow most run Ended) (is_legal most run) legal_end).0

  pub begins : Begins run
  begins = winding.begins_run r.ends.run r.ends.closing r.begins.0 (sym r.begins.1 ∙ r.ends.is)

  pub begun_run : EachStep IsBegun run
  begun_run = winding.run_begun t run None begins turned_run

  pub begun : EachStep IsBegun all
  begun = winding.begun_up most wound Ended run legal refl
      (winding.ended_begun run r.ends.at_over.behind, begun_run)

  pub left : AreLeft steps idle all
  left = subst (AreLeft steps idle) all_is r.turns

  pub closed : (x : ℕ) → was_opened all x ≡ true → was_closed all x ≡ true
  closed x o =
      let each : all_below (opened all) (was_closed all) ≡ true =
      subst (λ (p : List (Entry ServerNote)). all_below (opened p) (was_closed p) ≡ true) all_is
      r.whole.closed in
      all_below-at (opened all) (was_closed all) x (opened_below most all x legal o) each

  pub whole_run : all ≡ (wound ++ Ended ∷ []) ++ run
  whole_run = sym (append_assoc wound (Ended ∷ []) run)

  pub first_run : was_opened run 0 ≡ true
  first_run = ap (λ (p : List (Entry ServerNote)). was_opened p 0) begins.is
      ∙ opened_later begins.later (Opened first_handle
      Rattle.laws_script_turns.specs.acceptor.specs.Servers.read_alone ∷ []) 0 refl

  pub first : was_opened all 0 ≡ true
  first = opened_later wound (Ended ∷ run) 0 first_run

  pub none_open : (i : ℕ) → Rattle.reactor_model.specs.reactor_journal.specs.Past.is_open
      (Ended ∷ run) i ≡ false
  none_open i = winding.closed_open Ended run i refl (r.ends.at_over.idle.none_open i)

  pub had_is : (x : ℕ) → had all x ≡ had run x
  had_is x = (winding.wound_up most (Ended ∷ run) wound legal refl none_open).had_is x
      ∙ append-nil (had run x)

  pub keeps : list_any winding.removes run ≡ false
  keeps = winding.run_keeps t run begins turned_run going

  -- the handler of a connection was registered after its acceptance
  pub opened_for : (c k moment : ℕ) → was_opened run (suc c) ≡ true
      → origin_of all (suc c) ≡ Some (record { note = note.Accepted k; moment = moment })
      → OpenedFor run k (suc c)
  opened_for c k moment o is =
      let by = offered run c begun_run o in
      let origin : origin_of all (suc c) ≡ origin_of run (suc c) =
      ap (λ (p : List (Entry ServerNote)). origin_of p (suc c)) whole_run
      ∙ origin_still most (wound ++ Ended ∷ []) run (suc c)
      (sym (ap (is_legal most) whole_run) ∙ legal) o in
      let says : by.origin.note ≡ note.Accepted k =
      ap (λ (x : Option (Origin ServerNote)).
      elim x [ None ↦ by.origin.note | Some y ↦ y.note ]) (sym by.of_it ∙ sym origin ∙ is) in
      subst (λ (p : List (Entry ServerNote)). OpenedFor p k (suc c)) (sym by.is)
      (opened_for_later by.later (Opened by.handle by.mask ∷ (by.first ∷ by.before)) k (suc c)
      (inl (by.mine, end_of_origin (by.first ∷ by.before) by.origin k by.here says)))

  -- each connection that is accepted has its number, and each handler after the first its
  -- acceptance
  pub numbered : EachStep IsNumbered run
  numbered = turns.numbered most steps idle all legal begun left closed (wound ++ Ended ∷ []) run
      whole_run first
      (run_offers steps idle t run None begins turned_run
      (each_front (Rattle.laws_script_runs.specs.Connections.IsLeft steps idle)
      (wound ++ Ended ∷ []) run (subst (AreLeft steps idle) whole_run left)))

  -- it follows its script, and holds nothing back
  pub follows_run : Rattle.laws_script_told.specs.Told.FollowsBefore (groups_told groups) run []
  follows_run = (winding.follows_back (groups_told groups) most wound (Ended ∷ run) legal refl
      (subst (λ (p : List (Entry ServerNote)).
      Rattle.laws_script_told.specs.Told.FollowsBefore (groups_told groups) p []) all_is
      r.follows)).1

  pub free : list_any Rattle.laws_script_told.specs.laws_reports.specs.Laws.holds_back run ≡ false
  free = winding.run_free t run None begins turned_run
