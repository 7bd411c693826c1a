-- How a run over a script ends (POSA2, Leader/Followers; C++NPv2 chapter 4).
use Rattle.std.specs.Prelude.{◌≡◌, ℕ, Bool, true, false, List, ◌∷◌, ◌++◌, Option, Some, None}
use Rattle.std.specs.Prelude.{IsTrue}
use Rattle.std.specs.List.{list_all}
use Rattle.reactor_model.specs.ev_types.specs.declared.upcall.Handle.{Handle}
use Rattle.reactor_model.specs.ev_base.specs.Terms.{Group}
use Rattle.reactor_model.specs.reactor_journal.specs.declared.entry.Entry.{Entry}
use Rattle.reactor_model.specs.reactor_journal.specs.declared.entry.Entry.TheVariants.{Scheduled}
use Rattle.reactor_model.specs.reactor_journal.specs.declared.entry.Entry.TheVariants.{Returned}
use Rattle.reactor_model.specs.reactor_journal.specs.declared.entry.Entry.TheVariants.{Refused}
use Rattle.reactor_model.specs.reactor_journal.specs.declared.entry.Entry.TheVariants.{Removed}
use Rattle.reactor_model.specs.reactor_journal.specs.declared.entry.Entry.TheVariants.{Closed}
use Rattle.reactor_model.specs.reactor_journal.specs.declared.entry.Entry.TheVariants.{Ended}
use Rattle.reactor_model.specs.reactor_journal.specs.Past.{past_of, ended, opened, was_closed}
use Rattle.reactor_model.specs.reactor_journal.specs.Past.{all_below, is_pick, is_open}
use Rattle.reactor_model.specs.reactor_journal.specs.Follow.{Legal, follows_ready}
use Rattle.laws_script_told.specs.log_handler.specs.declared.note.ServerNote.{ServerNote}
use Rattle.laws_script_told.specs.log_handler.specs.declared.note.ServerNote.TheVariants as note
use Rattle.laws_script_told.specs.Told.{last_wait, is_over}

-- the handle of the acceptor
abbrev pub first_handle : Handle
first_handle = record { 0 = 0 }

-- nothing can be started, and nothing is open
pub record HasNoWork {N : Type 0} (past : List (Entry N)) : Type 0 where
  pub no_pick : (i : ℕ) → is_pick past i ≡ false
  pub none_open : (i : ℕ) → is_open past i ≡ false

-- here the run may end: directly after the entries of a wait that the script answered with Over,
-- with nothing to start and nothing open
pub record IsAtOver (groups : List Group) (past : List (Entry ServerNote)) : Type 0 where
  pub behind : follows_ready past ≡ true
  pub over : is_over (last_wait groups past) ≡ true
  pub idle : HasNoWork past

-- whether the entry removes or closes a handler
abbrev pub is_closing : {N : Type 0} → Entry N → Bool
is_closing (Removed handle) = true
is_closing (Closed handle said) = true
is_closing _ = false

-- The journal is a run and its winding up, which begins with `Ended`, and removes and closes
-- handlers.
pub record EndsAtOver (groups : List Group) (journal : List (Entry ServerNote)) : Type 0 where
  pub run : List (Entry ServerNote)
  pub closing : List (Entry ServerNote)
  pub is : journal ≡ run ++ Ended ∷ closing
  pub at_over : IsAtOver groups (past_of run)
  pub closes : list_all is_closing closing ≡ true

-- it is legal, was stopped, and every handle that was opened was closed
pub record IsWhole {N : Type 0} (most : ℕ) (journal : List (Entry N)) : Type 0 where
  pub legal : Legal journal most
  pub stopped : IsTrue (ended (past_of journal))
  pub closed : all_below (opened (past_of journal)) (was_closed (past_of journal)) ≡ true

abbrev pub is_timer : {N : Type 0} → Entry N → Bool
is_timer (Scheduled timer handle first every) = true
is_timer _ = false

-- whether the entry tells that a handler was refused
abbrev pub is_refusal : {N : Type 0} → Entry N → Bool
is_refusal (Refused live fault said) = true
is_refusal _ = false

-- an `Opened` after the first entry stands only after a turn that accepted a connection
abbrev pub note_settled : List (Entry ServerNote) → Option ServerNote
note_settled (Closed handle said ∷ (Returned event answer note ∷ past)) = Some note
note_settled (Returned event answer note ∷ past) = Some note
note_settled _ = None

abbrev pub is_accepted : Option ServerNote → Bool
is_accepted (Some (note.Accepted conn)) = true
is_accepted _ = false
