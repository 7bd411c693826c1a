-- The answer of a wait is that of the script.
use Rattle.std.proofs.Common.{ℕ, ◌≡◌, ◌∙◌, true, List, [], Option, Some, None, subst, ap}
use Rattle.laws_script_calls.specs.ev_base.specs.Net.{Call, NetFacts, NetWaits}
use Rattle.laws_script_calls.specs.ev_base.specs.Net.{Reserves}
use Rattle.laws_script_calls.specs.ev_base.specs.Net.{Waits as WaitsCall}
use Rattle.laws_script_calls.specs.ev_base.specs.Net.{with_one}
use Rattle.laws_script_calls.specs.ev_base.specs.Playing.{Playing, IsAnswer}
use Rattle.laws_script_calls.specs.ev_base.specs.Playing.{played, waited}
use Rattle.laws_script_calls.specs.ev_base.specs.Story.{Offer}
use Rattle.laws_script_calls.specs.ev_base.specs.Terms.{Group}
use Rattle.laws_script_calls.specs.ev_base.specs.declared.net.Waited.{Waited}
use Rattle.laws_script_calls.specs.ev_base.specs.declared.net.Waited.TheVariants
    as waited_by
use Rattle.laws_script_calls.specs.reactor_journal.specs.declared.entry.Entry.{Entry}
use Rattle.laws_script_calls.specs.reactor_journal.specs.Past.{past_of}
use Rattle.laws_script_calls.specs.reactor_journal.specs.Follow.{is_legal}
use Rattle.laws_script_calls.specs.reactor_summary.specs.Summary.{summary}
use Rattle.laws_script_calls.specs.reactor_core.specs.Calls as C
use Rattle.laws_script_calls.specs.reactor_core.specs.Calls.{AreCalls, least_limit}
use Rattle.laws_script_calls.specs.reactor_core.specs.Ends.{WhereTold}
use Rattle.laws_script_calls.specs.reactor_core.specs.Polling.{name_of}
use Rattle.laws_script_calls.specs.reactor_core.specs.Stands.{Meaning}
use Rattle.laws_script_calls.specs.reactor_core.specs.Views.{net_of}
use Rattle.laws_script_calls.specs.reactor_core.specs.declared.polling.Polled.{Polled}
use Rattle.tp_reactor.specs.reactor_desk.specs.Desks.{DeskStands, core_of}
use Rattle.tp_reactor.specs.reactor_desk.specs.Leading.{WaitedFor}
use Rattle.tp_reactor.specs.reactor_desk.specs.declared.terms.DeskTerms.{DeskTerms}
use Rattle.tp_reactor.specs.reactor_desk.specs.declared.desk.Desk.{Desk}
use Rattle.laws_script_calls.specs.log_handler.specs.declared.note.ServerNote.{ServerNote}
use Rattle.laws_script_calls.specs.laws_script_told.specs.Told.{told, time_left_in}
use Rattle.laws_script_calls.specs.Laws.{NamesAsServer}
use Rattle.laws_script_calls.proofs.Following.{plays_on, same_time}
use Rattle.laws_one_worker.specs.Alone.{TellsPlaying, PlaysScript}

-- a wait that did not fail is one more call
adds_call : {E : Type 0} (old new : NetFacts E) (most : Option ℕ) (answer : Waited)
    (polled : Polled) → name_of answer ≡ Some polled → NetWaits old most answer new
    → new.calls ≡ with_one old.calls (WaitsCall most answer new.reports)
adds_call old new most (waited_by.Reports now count) polled named w = w.0.calls
adds_call old new most (waited_by.Quiet now) polled named w = w.0.calls
adds_call old new most (waited_by.Over now) polled named w = w.0.calls
adds_call old new most waited_by.Failed polled named w = absurd (none named)
  where
    none : ◌≡◌ {A = Option Polled} None (Some polled) → ⊥
    none q = cc

module _ {H M Q W V E : Type 0} (m : Meaning H M Q W V ServerNote E) (q : DeskTerms)
    (offers : List Offer) (groups : List Group) (limit : q.run.limit ≡ Some None)
    (offers_are : q.run.offers ≡ Some offers) (names : NamesAsServer m.means q.run)
    (plays : PlaysScript m q.run groups) where
  -- calls that are told play the groups, and are those of the past
  by_calls : (past : List (Entry ServerNote)) (asked : Option ℕ) (answer : Waited) (reports : _)
      (calls new : Option (List Call)) → is_legal q.run.most past ≡ true → asked ≡ time_left_in past
      → TellsPlaying groups calls → WhereTold (λ calls. AreCalls m.means q.run past [] calls) calls
      → new ≡ with_one calls (WaitsCall asked answer reports) → TellsPlaying groups new
      → answer ≡ (waited (time_left_in past) (told groups past)).answer
  by_calls past asked answer reports None new legal time before are is after = absurd before
  by_calls past asked answer reports (Some calls) new legal time before are is after =
      let here : IsAnswer asked answer reports (played groups calls) =
      (subst (TellsPlaying groups) is after).0 in
      let same : played groups calls ≡ told groups past =
      (plays_on m.means q.run offers groups q.run.most limit offers_are names past [] calls
      legal are before).same in
      here.answers ∙ ap (λ (o : Option ℕ). (waited o (played groups calls)).answer) time
      ∙ ap (λ (p : Playing). (waited (time_left_in past) p).answer) same

  -- the wait of a lead
  pub answer_is : (first : ℕ) (h entries : List (Entry ServerNote))
      (found new : Desk H M Q W V ServerNote E) (before : NetFacts E) (P : Polled → Type 0)
      → DeskStands m q first found h → m.keeps q.run (net_of (core_of new))
      → Reserves (m.facts (net_of (core_of found))) before
      → (w : WaitedFor None h before entries (m.facts (net_of (core_of new))) P)
      → w.waits.answer ≡ (waited (time_left_in (past_of h)) (told groups (past_of h))).answer
  answer_is first h entries found new before P stood keeps reserves w =
      by_calls (past_of h) (C.time_left (summary (past_of h))) w.waits.answer w.now.reports
      (m.facts (net_of (core_of found))).calls (m.facts (net_of (core_of new))).calls
      stood.core.tracks.legal (same_time q.run.most (past_of h) stood.core.tracks.legal)
      (plays (net_of (core_of found)) stood.core.tracks.keeps) stood.core.tracks.net.calls
      (w.stays.calls ∙ adds_call w.waits.net w.now (C.time_left (summary (past_of h)))
      w.waits.answer w.polled w.waits.named w.waits.waits
      ∙ ap (λ (calls : Option (List Call)).
      with_one calls (WaitsCall (C.time_left (summary (past_of h))) w.waits.answer
      w.now.reports)) (w.waits.reserves.calls ∙ reserves.calls))
      (plays (net_of (core_of new)) keeps)
