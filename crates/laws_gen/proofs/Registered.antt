-- If no handler was refused, each connection of the script has a handler, and no other handle
-- was opened but the first.
use Rattle.std.proofs.Common.{ℕ, suc, ◌≡◌, ◌<◌, true, false, List, ◌∷◌, refl, sym, ◌∙◌, arith}
use Rattle.std.proofs.Common.{Option}
use Rattle.std.specs.List.{list_any}
use Rattle.laws_script_complete.specs.ev_base.specs.Terms.{Terms}
use Rattle.laws_script_complete.specs.reactor_journal.specs.declared.entry.Entry.{Entry}
use Rattle.laws_script_complete.specs.reactor_journal.specs.declared.entry.Entry.TheVariants.{Ended}
use Rattle.laws_script_complete.specs.reactor_journal.specs.Past.{was_opened}
use Rattle.laws_script_complete.specs.reactor_journal.specs.Past.{opened}
use Rattle.laws_script_complete.specs.reactor_journal.specs.Follow.{is_legal}
use Rattle.laws_script_complete.specs.reactor_model.specs.Handling.{Handling}
use Rattle.laws_script_complete.specs.log_handler.specs.declared.note.ServerNote.{ServerNote}
use Rattle.laws_script_complete.specs.event_script.specs.Script.{ScriptGroup}
use Rattle.laws_script_complete.specs.event_script.specs.Script.{steps_of}
use Rattle.laws_script_complete.specs.laws_script_runs.specs.Runs.{is_refusal}
use Rattle.laws_script_complete.specs.laws_script_runs.specs.Laws.{RunsOver}
use Rattle.laws_script_complete.specs.laws_script_runs.proofs.Winding as winding
use Rattle.laws_script_complete.specs.laws_script_runs.proofs.Whole as whole
use Rattle.laws_script_complete.specs.laws_script_runs.proofs.Numbers as numbers
use Rattle.laws_script_complete.proofs.Taking.{all_accepted}

module _ {H E : Type 0} (means : Handling H E ServerNote) (t : Terms) (idle : Option ℕ)
    (groups : List ScriptGroup) (journal : List (Entry ServerNote))
    (r : RunsOver means t idle groups journal) (none_refused : list_any is_refusal journal ≡ false)
  where
    abbrev run : List (Entry ServerNote)
    run = whole.run means t idle groups journal r

    legal_run : is_legal t.most run ≡ true
    legal_run = whole.legal_run means t idle groups journal r

    -- as many as connections of the script, and the acceptor
    pub handlers : opened run
        ≡ suc
        (Rattle.laws_script_complete.specs.event_script.specs.Script.opened
        (steps_of groups))
    handlers =
        let opened_run = numbers.opened_run means t idle groups journal r none_refused in
        let same = all_accepted means t idle groups journal r in
        omega (arith, opened_run, same)

    -- a connection of the script has a handler in the run
    pub has_handler : (c : ℕ)
        → c
        < Rattle.laws_script_complete.specs.event_script.specs.Script.opened
        (steps_of groups) → was_opened run (suc c) ≡ true
    has_handler c lt = winding.below_opened t.most run (suc c) legal_run (omega (arith, handlers))

    -- and no other handle was opened
    pub none_else : (x : ℕ) → was_opened (whole.all means t idle groups journal r) x ≡ true
        → x
        < suc
        (Rattle.laws_script_complete.specs.event_script.specs.Script.opened
        (steps_of groups))
    none_else x o =
        let in_run : was_opened run x ≡ true =
        sym (winding.opened_back t.most (whole.wound means t idle groups journal r) (Ended ∷ run)
        x (whole.legal means t idle groups journal r) refl) ∙ o in
        omega (
          arith,
          handlers,
          Rattle.laws_script_complete.specs.reactor_journal.proofs.Alive.opened_below
              t.most run x
              legal_run in_run,
        )
