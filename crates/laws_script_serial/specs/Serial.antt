-- The journal of a server with one worker over a script: each entry is determined by those before
-- it.
use Rattle.std.specs.Prelude.{◌≡◌, ◌+◌, ◌==◌, ℕ, Bool, true, false, not, ◌&&◌, List, [], ◌∷◌}
use Rattle.std.specs.Prelude.{Option, Some, None}
use Rattle.std.specs.List.{list_any}
use Rattle.laws_script_runs.specs.ev_types.specs.declared.upcall.Answer.TheVariants.{Close}
use Rattle.laws_script_runs.specs.reactor_journal.specs.declared.entry.Entry.{Entry}
use Rattle.laws_script_runs.specs.reactor_journal.specs.declared.entry.Entry.TheVariants.{Opened}
use Rattle.laws_script_runs.specs.reactor_journal.specs.declared.entry.Entry.TheVariants.{Scheduled}
use Rattle.laws_script_runs.specs.reactor_journal.specs.declared.entry.Entry.TheVariants.{Cancelled}
use Rattle.laws_script_runs.specs.reactor_journal.specs.declared.entry.Entry.TheVariants.{Polled}
use Rattle.laws_script_runs.specs.reactor_journal.specs.declared.entry.Entry.TheVariants.{Posted}
use Rattle.laws_script_runs.specs.reactor_journal.specs.declared.entry.Entry.TheVariants.{Stale}
use Rattle.laws_script_runs.specs.reactor_journal.specs.declared.entry.Entry.TheVariants.{Started}
use Rattle.laws_script_runs.specs.reactor_journal.specs.declared.entry.Entry.TheVariants.{Returned}
use Rattle.laws_script_runs.specs.reactor_journal.specs.declared.entry.Entry.TheVariants.{Masked}
use Rattle.laws_script_runs.specs.reactor_journal.specs.declared.entry.Entry.TheVariants.{Suspended}
use Rattle.laws_script_runs.specs.reactor_journal.specs.declared.entry.Entry.TheVariants.{Resumed}
use Rattle.laws_script_runs.specs.reactor_journal.specs.declared.entry.Entry.TheVariants.{Refused}
use Rattle.laws_script_runs.specs.reactor_journal.specs.declared.entry.Entry.TheVariants.{Removed}
use Rattle.laws_script_runs.specs.reactor_journal.specs.declared.entry.Entry.TheVariants.{Closed}
use Rattle.laws_script_runs.specs.reactor_journal.specs.declared.entry.Entry.TheVariants.{Ended}
use Rattle.laws_script_runs.specs.reactor_journal.specs.Past.{past_of, event_at, belongs_to, ended}
use Rattle.laws_script_runs.specs.reactor_journal.specs.Past.{opened, live, now, is_alive}
use Rattle.laws_script_runs.specs.reactor_journal.specs.Past.{is_overdue, is_pick, any_below}
use Rattle.laws_script_runs.specs.reactor_journal.specs.Past.{all_below, was_closed}
use Rattle.laws_script_runs.specs.reactor_journal.specs.Follow.{Legal, most_handles, follows_ready}
use Rattle.laws_script_runs.specs.acceptor.specs.Servers.{read_alone}
use Rattle.laws_script_runs.specs.log_handler.specs.declared.note.ServerNote.{ServerNote}
use Rattle.laws_script_runs.specs.log_handler.specs.declared.note.ServerNote.TheVariants as note
use Rattle.laws_script_runs.specs.event_script.specs.Script.{ScriptGroup, groups_told, steps_of}
use Rattle.laws_script_runs.specs.laws_script_told.specs.Told.{Follows, last_wait, is_over}
use Rattle.laws_script_runs.specs.Steps.{EachStep}
use Rattle.laws_script_runs.specs.Runs.{first_handle, is_closing}
use Rattle.laws_script_runs.specs.Connections.{AreLeft}

-- entries that no server with one worker makes: nobody posts, suspends or resumes, and no turn
-- changes a mask or takes a timer away
abbrev pub is_foreign : {N : Type 0} → Entry N → Bool
is_foreign (Cancelled timer) = true
is_foreign (Posted handle kind from seq) = true
is_foreign (Stale handle from seq) = true
is_foreign (Masked handle mask) = true
is_foreign (Suspended handle) = true
is_foreign (Resumed handle) = true
is_foreign _ = false

-- Directly after a `Started` stands the `Returned` of its event, and directly after a `Returned`
-- with Close the `Closed` of its handle.
abbrev pub IsSettledAtOnce : List (Entry ServerNote) → Entry ServerNote → Type 0
IsSettledAtOnce (Started event ∷ past) (Returned returned answer said) = returned ≡ event
IsSettledAtOnce (Started event ∷ past) e = ⊥
IsSettledAtOnce (Returned event Close said ∷ past) (Closed handle other) =
    belongs_to handle.0 (event_at past event) ≡ true
IsSettledAtOnce (Returned event Close said ∷ past) e = ⊥
IsSettledAtOnce past e = Unit {0}

-- Directly after a turn that accepted a connection it is registered or, if there is no room for
-- it, refused; and directly after that stands its timer, if there is an idle time. There are no
-- other registrations but the first entry, no other timers and no other refusals.
abbrev pub has_room : ℕ → List (Entry ServerNote) → Bool
has_room most past = not (live past == most) && not (opened past == most_handles)

abbrev pub IsInstalled : ℕ → List (Entry ServerNote) → Entry ServerNote → Type 0
IsInstalled most past (Opened handle mask) = (has_room most past ≡ true) × (mask ≡ read_alone)
IsInstalled most past (Refused number fault said) = (has_room most past ≡ false) × (fault ≡ false)
IsInstalled most past e = ⊥

abbrev pub is_installing : Entry ServerNote → Bool
is_installing (Opened handle mask) = true
is_installing (Scheduled timer handle first every) = true
is_installing (Refused number fault said) = true
is_installing _ = false

abbrev pub IsTimedBy : Option ℕ → ℕ → List (Entry ServerNote) → Entry ServerNote → Type 0
IsTimedBy None x past e = is_installing e ≡ false
IsTimedBy (Some idle) x past (Scheduled timer handle first every) =
    (handle.0 ≡ x) × (first ≡ now past + idle) × (every ≡ idle)
IsTimedBy (Some idle) x past e = ⊥

abbrev pub InstallsOnly : ℕ → Option ℕ → List (Entry ServerNote) → Entry ServerNote → Type 0
InstallsOnly most idle [] e = e ≡ Opened first_handle read_alone
InstallsOnly most idle (Returned event answer (note.Accepted conn) ∷ past) e =
    IsInstalled most (Returned event answer (note.Accepted conn) ∷ past) e
InstallsOnly most idle (Opened handle mask ∷ (d ∷ past)) e = IsTimedBy idle handle.0 (d ∷ past) e
InstallsOnly most idle past e = is_installing e ≡ false

-- Before each wait there is nothing to start and no deadline is reached; and the reactor is stopped
-- directly after the entries of the first wait that the script answers with Over and that leaves
-- neither.
pub record IsSpent {N : Type 0} (past : List (Entry N)) : Type 0 where
  pub no_pick : (i : ℕ) → is_pick past i ≡ false
  pub none_due : is_overdue past ≡ false

abbrev pub is_over_here : List ScriptGroup → List (Entry ServerNote) → Bool
is_over_here groups past = follows_ready past && is_over (last_wait (groups_told groups) past)

abbrev pub WaitsOnly : List ScriptGroup → List (Entry ServerNote) → Entry ServerNote → Type 0
WaitsOnly groups past (Polled moment) = IsSpent past × (is_over_here groups past ≡ false)
WaitsOnly groups past Ended = IsSpent past × (is_over_here groups past ≡ true)
WaitsOnly groups past e = Unit {0}

-- After `Ended` stand, for each handle alive there in rising order, its `Removed` and `Closed`.
-- There is no other `Removed`.
abbrev pub ClosesUp : List (Entry ServerNote) → Entry ServerNote → Type 0
ClosesUp past (Removed handle) = (ended past ≡ true) × (any_below handle.0 (is_alive past) ≡ false)
ClosesUp past e = Unit {0}

abbrev pub OnlyClosesUp : List (Entry ServerNote) → Entry ServerNote → Type 0
OnlyClosesUp (Removed handle ∷ past) (Closed other said) = handle ≡ other
OnlyClosesUp (Removed handle ∷ past) e = ⊥
OnlyClosesUp past e = ended past ≡ true → is_closing e ≡ true

-- The seven parts, of a journal over a script with at most `most` live handlers and this idle time.
pub record Serial (most : ℕ) (idle : Option ℕ) (groups : List ScriptGroup)
    (journal : List (Entry ServerNote)) : Type 0 where
  pub legal : Legal journal most
  pub follows : Follows (groups_told groups) journal
  pub stopped : ended (past_of journal) ≡ true
  pub kinds : list_any is_foreign journal ≡ false
  pub settles : EachStep IsSettledAtOnce (past_of journal)
  pub installs : EachStep (InstallsOnly most idle) (past_of journal)
  pub waits : EachStep (WaitsOnly groups) (past_of journal)
  pub removes : EachStep ClosesUp (past_of journal)
  pub closes : EachStep OnlyClosesUp (past_of journal)
  pub closed : all_below (opened (past_of journal)) (was_closed (past_of journal)) ≡ true
  pub turns : AreLeft (steps_of groups) idle (past_of journal)
