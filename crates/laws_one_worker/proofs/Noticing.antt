-- If nobody posts, a server is not stopped.
use Rattle.std.proofs.Common.{ℕ, ◌≡◌, ◌≢◌, ◌∙◌, Bool, true, false, cond, ◌||◌, List, [], ◌∷◌}
use Rattle.std.proofs.Common.{length, Option, Some, None, option_map, refl, sym, ap, arith, ⊎_elim}
use Rattle.std.specs.List.{list_any}
use Rattle.std.proofs.lemmas.Bool.{false≢true, or_parts, both_ways, cases_eq}
use Rattle.laws_script_calls.specs.ev_types.specs.declared.upcall.Answer.TheVariants.{Again}
use Rattle.laws_script_calls.specs.ev_types.specs.declared.upcall.Kind.{Kind}
use Rattle.laws_script_calls.specs.ev_types.specs.declared.upcall.Kind.TheVariants.{Read, Write}
use Rattle.laws_script_calls.specs.ev_types.specs.declared.upcall.Kind.TheVariants.{
  Except as ExceptKind,
}
use Rattle.laws_script_calls.specs.ev_types.specs.declared.upcall.Upcall.{Upcall}
use Rattle.laws_script_calls.specs.ev_types.specs.declared.upcall.Upcall.TheVariants.{Input, Output}
use Rattle.laws_script_calls.specs.ev_types.specs.declared.upcall.Upcall.TheVariants.{Except}
use Rattle.laws_script_calls.specs.ev_types.specs.declared.upcall.Upcall.TheVariants.{Timeout}
use Rattle.laws_script_calls.specs.ev_types.specs.declared.upcall.Upcall.TheVariants.{Notice}
use Rattle.laws_script_calls.specs.ev_base.specs.Terms.{Terms}
use Rattle.laws_script_calls.specs.reactor_journal.specs.Event.{Event, Timer}
use Rattle.laws_script_calls.specs.reactor_journal.specs.declared.entry.Entry.{Entry}
use Rattle.laws_script_calls.specs.reactor_journal.specs.declared.entry.Entry.TheVariants.{Due}
use Rattle.laws_script_calls.specs.reactor_journal.specs.declared.entry.Entry.TheVariants.{Ready}
use Rattle.laws_script_calls.specs.reactor_journal.specs.declared.entry.Entry.TheVariants.{Posted}
use Rattle.laws_script_calls.specs.reactor_journal.specs.declared.entry.Entry.TheVariants.{Returned}
use Rattle.laws_script_calls.specs.reactor_journal.specs.declared.entry.Entry.TheVariants.{Ended}
use Rattle.laws_script_calls.specs.reactor_journal.specs.Past.{event_at, event_made, timeout_of}
use Rattle.laws_script_calls.specs.reactor_journal.specs.Past.{only_if_alive, timer_of, ended}
use Rattle.laws_script_calls.specs.reactor_journal.specs.Past.{is_ended, upcall_of}
use Rattle.laws_script_calls.specs.reactor_journal.proofs.Basics.{event_at-last, event_at-other}
use Rattle.laws_script_calls.specs.reactor_model.specs.Handling.{Stopping}
use Rattle.laws_script_calls.specs.acceptor.specs.Servers.{ServerMay, is_accepted as says_accepted}
use Rattle.laws_script_calls.specs.log_handler.specs.declared.note.ServerNote.{ServerNote}
use Rattle.laws_script_calls.specs.reactor_model.specs.Entries.{is_notice}
use Rattle.laws_script_calls.specs.laws_script_runs.proofs.ByTurns.{TurnsBefore, IsByTurn}
use Rattle.laws_script_calls.specs.laws_script_runs.proofs.Winding.{Begins, begins_one, begins_tail}

abbrev notes : Upcall → Bool
notes (Notice kind) = true
notes _ = false

abbrev some_notes : Option Event → Bool
some_notes None = false
some_notes (Some event) = notes event.upcall

report_notes : (kind : Kind) → notes (upcall_of kind) ≡ false
report_notes Read = refl
report_notes Write = refl
report_notes ExceptKind = refl

timeout_notes : (timer : ℕ) (set : Option Timer)
    → some_notes (option_map (timeout_of timer) set) ≡ false
timeout_notes timer None = refl
timeout_notes timer (Some set) = refl

alive_notes : (alive : ℕ → Bool) (event : Option Event) → some_notes event ≡ false
    → some_notes (only_if_alive alive event) ≡ false
alive_notes alive None h = refl
alive_notes alive (Some event) h = by_test (alive event.handle)
  where
    by_test : (b : Bool) → some_notes (cond b (Some event) None) ≡ false
    by_test true = h
    by_test false = refl

-- the event of an entry
made_notes : (e : Entry ServerNote) (timers : ℕ → Option Timer) (events : ℕ → Option Event)
    (alive : ℕ → Bool) → is_notice e ≡ false → ((i : ℕ) → some_notes (events i) ≡ false)
    → some_notes (event_made e timers events alive) ≡ false
made_notes (Due timer) timers events alive none h = timeout_notes timer (timers timer)
made_notes (Ready handle kind) timers events alive none h = report_notes kind
made_notes (Posted handle kind from seq) timers events alive none h = absurd (false≢true (sym none))
made_notes (Returned event Again said) timers events alive none h =
    alive_notes alive (events event) (h event)
made_notes _ timers events alive none h = refl

-- no event is a notice
none_notes : (past : List (Entry ServerNote)) → list_any is_notice past ≡ false → (i : ℕ)
    → some_notes (event_at past i) ≡ false
none_notes [] none i = refl
none_notes (e ∷ past) none i =
    let parts = or_parts (is_notice e) (list_any is_notice past) none in
    let before : (i : ℕ) → some_notes (event_at past i) ≡ false = none_notes past parts.1 in
    ⊎_elim
    (λ (q : i ≡ length past). ap some_notes (event_at-last e past i q)
    ∙ made_notes e (timer_of past) (event_at past) _ parts.0 before)
    (λ (q : i ≢ length past). ap some_notes (event_at-other e past i q) ∙ before i)
    (cases_eq i (length past))

stops_notes : (t : Terms) (up : Upcall) → ServerMay t up Stopping → notes up ≡ true
stops_notes t (Notice kind) h = refl
stops_notes t Input h = absurd h
stops_notes t Output h = absurd h
stops_notes t Except h = absurd h
stops_notes t (Timeout timer) h = absurd h

-- so no turn may stop the reactor
pub no_end : (t : Terms) (past : List (Entry ServerNote)) (next : Option (Entry ServerNote))
    → Begins past → TurnsBefore (ServerMay t) says_accepted 1 past next
    → list_any is_notice past ≡ false → ended past ≡ false
no_end t [] next b turns none = refl
no_end t (e ∷ []) next b turns none =
    ap (λ (f : Entry ServerNote). is_ended f || false) (begins_one e b)
no_end t (e ∷ (d ∷ past)) next b turns none =
    let parts = or_parts (is_notice e) (list_any is_notice (d ∷ past)) none in
    ap (λ (x : Bool). x || ended (d ∷ past)) (one e (turns.1 (omega arith)) parts.1)
    ∙ no_end t (d ∷ past) (Some e) (begins_tail e d past b) turns.2 parts.1
  where
    one : (e : Entry ServerNote) → IsByTurn (ServerMay t) (d ∷ past) e
        → list_any is_notice (d ∷ past) ≡ false → is_ended e ≡ false
    one Ended h quiet = absurd (both_ways (notes h.event.upcall)
        (sym (ap some_notes h.is) ∙ none_notes (d ∷ past) quiet h.number)
        (stops_notes t h.event.upcall h.allowed))
    one _ h quiet = refl
