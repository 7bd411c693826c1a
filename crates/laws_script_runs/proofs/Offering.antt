-- A handler that was refused was offered by a turn that accepted a connection.
use Rattle.std.proofs.Common.{◌≡◌, ℕ, true, List, [], ◌∷◌, Option, Some, refl, sym, subst, ap}
use Rattle.std.proofs.Common.{arith}
use Rattle.std.proofs.lemmas.Bool.{false≢true}
use Rattle.reactor_model.specs.ev_types.specs.declared.upcall.Why.TheVariants.{Refused as ByRefusal}
use Rattle.reactor_model.specs.ev_base.specs.Terms.{Terms}
use Rattle.reactor_model.specs.reactor_journal.specs.Event.{Origin}
use Rattle.reactor_model.specs.reactor_journal.specs.declared.entry.Entry.{Entry}
use Rattle.reactor_model.specs.reactor_journal.specs.declared.entry.Entry.TheVariants.{Refused}
use Rattle.laws_script_turns.specs.acceptor.specs.Servers.{ServerMay, is_accepted as says_accepted}
use Rattle.laws_script_told.specs.log_handler.specs.declared.note.ServerNote.{ServerNote}
use Rattle.laws_script_told.specs.log_handler.specs.declared.note.ServerNote.TheVariants as note
use Rattle.laws_script_turns.specs.event_script.specs.Script.{ScriptStep}
use Rattle.laws_script_runs.specs.Connections.{AreLeft, SaysLast, LeavesOffered}
use Rattle.laws_script_runs.specs.Runs.{is_accepted, note_settled}
use Rattle.laws_script_runs.specs.Steps.{EachStep}
use Rattle.laws_script_runs.proofs.ByTurns.{TurnsBefore}
use Rattle.laws_script_runs.proofs.Settling.{offered_note}
use Rattle.laws_script_runs.proofs.Winding.{Begins, begins_one, begins_tail, settled_offers}

abbrev pub RefusedOffers : List (Entry ServerNote) → Entry ServerNote → Type 0
RefusedOffers past (Refused live fault said) = is_accepted (note_settled past) ≡ true
RefusedOffers past e = Unit {0}

-- a turn that accepted a connection was just settled
accepts_here : (said : ServerNote) (o : Option ServerNote) → o ≡ Some said
    → says_accepted said ≡ true → is_accepted o ≡ true
accepts_here (note.Accepted c) o is h = ap is_accepted is
accepts_here note.NoneWaiting o is h = absurd (false≢true h)
accepts_here note.ListenerFailed o is h = absurd (false≢true h)
accepts_here note.ListenerShut o is h = absurd (false≢true h)
accepts_here (note.Piece conn took records) o is h = absurd (false≢true h)
accepts_here (note.Finished conn end) o is h = absurd (false≢true h)

module _ (steps : List ScriptStep) (idle : Option ℕ) where
  accepted_there : (n : ServerNote) (moment : ℕ) (said : ServerNote)
      → LeavesOffered steps idle n moment [] ByRefusal said → says_accepted n ≡ true
  accepted_there (note.Accepted c) moment said h = refl
  accepted_there note.NoneWaiting moment said h = absurd h
  accepted_there note.ListenerFailed moment said h = absurd h
  accepted_there note.ListenerShut moment said h = absurd h
  accepted_there (note.Piece conn took records) moment said h = absurd h
  accepted_there (note.Finished conn end) moment said h = absurd h

  one_offers : (t : Terms) (e d : Entry ServerNote) (past : List (Entry ServerNote))
      (next : Option (Entry ServerNote))
      → TurnsBefore (ServerMay t) says_accepted 1 (e ∷ (d ∷ past)) next
      → AreLeft steps idle (e ∷ (d ∷ past))
      → RefusedOffers (d ∷ past) e
  one_offers t (Refused live fault said) d past next turns left =
      let by_turn = turns.1 (omega arith) in
      let offered = settled_offers (d ∷ past) by_turn.2.number by_turn.2.settled in
      accepts_here offered.0.note (note_settled (d ∷ past))
      (offered_note (d ∷ past) offered.0 offered.1)
      (accepted_there offered.0.note offered.0.moment said
      (subst (λ (o : Option (Origin ServerNote)). SaysLast steps idle o [] ByRefusal said)
      offered.1 left.0))
  one_offers t _ d past next turns left = tt

  pub run_offers : (t : Terms) (past : List (Entry ServerNote)) (next : Option (Entry ServerNote))
      → Begins past → TurnsBefore (ServerMay t) says_accepted 1 past next → AreLeft steps idle past
      → EachStep RefusedOffers past
  run_offers t [] next b turns left = tt
  run_offers t (e ∷ []) next b turns left = (subst (RefusedOffers []) (sym (begins_one e b)) tt, tt)
  run_offers t (e ∷ (d ∷ past)) next b turns left = (
    one_offers t e d past next turns left,
    run_offers t (d ∷ past) (Some e) (begins_tail e d past b) turns.2 left.1,
  )
