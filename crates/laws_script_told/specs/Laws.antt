-- What a script that was played to its end has reported.
use Rattle.std.specs.Prelude.{◌≡◌, ◌==◌, ℕ, Bool, true, false, List, [], ◌∷◌, flat_map}
use Rattle.std.specs.List.{list_any}
use Rattle.event_script.specs.ev_base.specs.Terms.{StepEnd, Step, Group}
use Rattle.log_handler.specs.reactor_journal.specs.declared.entry.Entry.{Entry}
use Rattle.log_handler.specs.reactor_journal.specs.declared.entry.Entry.TheVariants.{Opened}
use Rattle.log_handler.specs.reactor_journal.specs.declared.entry.Entry.TheVariants.{Refused}
use Rattle.log_handler.specs.reactor_journal.specs.Past.{past_of, count, is_alive}
use Rattle.log_handler.specs.reactor_journal.specs.Follow.{Legal, follows_ready}
use Rattle.laws_reports.specs.Laws.{reports_input, holds_back}
use Rattle.log_handler.specs.declared.note.ServerNote.{ServerNote}
use Rattle.event_script.specs.Script.{ScriptGroup, groups_told}
use Rattle.event_script.specs.ev_base.specs.Playing.{is_end}
use Rattle.laws_script_told.specs.Told.{end_offered, Follows, last_wait, is_over}

-- The handle x was opened for this end, to be read, and no other handle was; nor was a handler
-- refused whose end is this.
abbrev pub IsOnlyAt : ℕ → StepEnd → List (Entry ServerNote) → Entry ServerNote → Type 0
IsOnlyAt x end past (Opened handle mask) =
    ((handle.0 == x) ≡ is_end (end_offered past) end) × (handle.0 ≡ x → mask.read ≡ true)
IsOnlyAt x end past (Refused live fault said) = is_end (end_offered past) end ≡ false
IsOnlyAt x end past e = Unit {0}

abbrev pub StandsOnlyAt : ℕ → StepEnd → List (Entry ServerNote) → Type 0
StandsOnlyAt x end [] = Unit {0}
StandsOnlyAt x end (e ∷ past) = IsOnlyAt x end past e × StandsOnlyAt x end past

-- how many of some steps are at an end
abbrev pub is_step_at : StepEnd → Step → Bool
is_step_at end step = is_end step.end end

abbrev pub steps_at : StepEnd → List Step → ℕ
steps_at end steps = count (is_step_at end) steps

abbrev pub all_steps : List Group → List Step
all_steps groups = flat_map (λ g. g.steps) groups

-- A journal follows a script up to a wait that is answered with Over. A handle that is alive then
-- was reported as often as there are steps at its end.
abbrev pub AllIsReported : Type 0
AllIsReported =
    (groups : List ScriptGroup) (journal : List (Entry ServerNote)) (most x : ℕ) (end : StepEnd)
    → Legal journal most → list_any holds_back (past_of journal) ≡ false
    → is_alive (past_of journal) x ≡ true
    → StandsOnlyAt x end (past_of journal) → Follows (groups_told groups) journal
    → follows_ready (past_of journal) ≡ true
    → is_over (last_wait (groups_told groups) (past_of journal)) ≡ true
    → count (reports_input x) (past_of journal) ≡ steps_at end (all_steps (groups_told groups))
