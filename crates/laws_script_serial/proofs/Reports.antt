-- The reports of a wait that are taken, and how many of them stand after it so far.
use Rattle.std.proofs.Common.{◌≡◌, ◌∙◌, ◌⊎◌, inl, inr, ℕ, true, false, List, [], ◌∷◌, ◌++◌, refl}
use Rattle.std.proofs.Common.{sym, append_assoc, ⊎_elim}
use Rattle.std.specs.List.{filter}
use Rattle.std.proofs.lemmas.Bool.{false≢true, and_parts, both_ways}
use Rattle.laws_script_runs.specs.ev_base.specs.Playing.{waited}
use Rattle.laws_script_runs.specs.ev_base.specs.Terms.{Group}
use Rattle.laws_script_runs.specs.ev_base.specs.declared.net.Report.{Report}
use Rattle.laws_script_runs.specs.reactor_journal.specs.declared.entry.Entry.{Entry}
use Rattle.laws_script_runs.specs.reactor_journal.specs.declared.entry.Entry.TheVariants.{Opened}
use Rattle.laws_script_runs.specs.reactor_journal.specs.declared.entry.Entry.TheVariants.{Scheduled}
use Rattle.laws_script_runs.specs.reactor_journal.specs.declared.entry.Entry.TheVariants.{Cancelled}
use Rattle.laws_script_runs.specs.reactor_journal.specs.declared.entry.Entry.TheVariants.{Polled}
use Rattle.laws_script_runs.specs.reactor_journal.specs.declared.entry.Entry.TheVariants.{Due}
use Rattle.laws_script_runs.specs.reactor_journal.specs.declared.entry.Entry.TheVariants.{Ready}
use Rattle.laws_script_runs.specs.reactor_journal.specs.declared.entry.Entry.TheVariants.{Posted}
use Rattle.laws_script_runs.specs.reactor_journal.specs.declared.entry.Entry.TheVariants.{Stale}
use Rattle.laws_script_runs.specs.reactor_journal.specs.declared.entry.Entry.TheVariants.{Started}
use Rattle.laws_script_runs.specs.reactor_journal.specs.declared.entry.Entry.TheVariants.{Returned}
use Rattle.laws_script_runs.specs.reactor_journal.specs.declared.entry.Entry.TheVariants.{Masked}
use Rattle.laws_script_runs.specs.reactor_journal.specs.declared.entry.Entry.TheVariants.{Suspended}
use Rattle.laws_script_runs.specs.reactor_journal.specs.declared.entry.Entry.TheVariants.{Resumed}
use Rattle.laws_script_runs.specs.reactor_journal.specs.declared.entry.Entry.TheVariants.{Refused}
use Rattle.laws_script_runs.specs.reactor_journal.specs.declared.entry.Entry.TheVariants.{Removed}
use Rattle.laws_script_runs.specs.reactor_journal.specs.declared.entry.Entry.TheVariants.{Closed}
use Rattle.laws_script_runs.specs.reactor_journal.specs.declared.entry.Entry.TheVariants.{Ended}
use Rattle.laws_script_runs.specs.reactor_journal.specs.Follow.{may_follow, is_legal, follows_due}
use Rattle.laws_script_runs.specs.reactor_journal.specs.Follow.{follows_ready}
use Rattle.laws_script_runs.specs.reactor_journal.proofs.Basics.{may_fits}
use Rattle.laws_script_runs.specs.log_handler.specs.declared.note.ServerNote.{ServerNote}
use Rattle.laws_script_runs.specs.laws_script_told.specs.Told.{FollowsBefore}
use Rattle.laws_script_runs.specs.reactor_model.specs.Entries.{taken_before}
use Rattle.laws_script_runs.specs.laws_script_told.specs.Told.{is_taken_in, time_left_in, told}

-- the reports of the last wait that are taken, as the script tells them, and those that stand
-- after it
abbrev pub reports_told : List Group → List (Entry ServerNote) → List Report
reports_told groups [] = []
reports_told groups (Polled moment ∷ past) =
    filter (is_taken_in past) (waited (time_left_in past) (told groups past)).reports
reports_told groups (e ∷ past) = reports_told groups past

abbrev pub reports_made : List (Entry ServerNote) → List Report
reports_made [] = []
reports_made (Polled moment ∷ past) = []
reports_made (Ready handle kind ∷ past) =
    reports_made past ++ record { handle = handle; kind = kind } ∷ []
reports_made (e ∷ past) = reports_made past

due_ready : (past : List (Entry ServerNote)) → follows_due past ≡ true → follows_ready past ≡ true
due_ready [] h = h
due_ready (Polled moment ∷ past) h = refl
due_ready (Due timer ∷ past) h = refl
due_ready (_ ∷ past) h = absurd (false≢true h)

-- In the entries of a wait: what was told is what was made and what is still to be taken.
pub told_made : (groups : List Group) (most : ℕ) (past : List (Entry ServerNote))
    (taken : List Report) → is_legal most past ≡ true → follows_ready past ≡ true
    → FollowsBefore groups past taken
    → reports_told groups past ≡ reports_made past ++ taken
told_made groups most [] taken legal h f = absurd (false≢true h)
told_made groups most (Polled moment ∷ past) taken legal h f = sym f.0.are_taken
told_made groups most (Due timer ∷ past) taken legal h f =
    let parts = and_parts (may_follow most past (Due timer)) (is_legal most past) legal in
    told_made groups most past taken parts.1
    (due_ready past (and_parts _ _ (may_fits most past (Due timer) parts.0)).0) f.1
told_made groups most (Ready handle kind ∷ past) taken legal h f =
    let parts = and_parts (may_follow most past (Ready handle kind)) (is_legal most past) legal in
    told_made groups most past (record { handle = handle; kind = kind } ∷ taken) parts.1
    (and_parts _ _ (may_fits most past (Ready handle kind) parts.0)).0 f.1
    ∙ sym (append_assoc (reports_made past) (record { handle = handle; kind = kind } ∷ []) taken)
told_made groups most (_ ∷ past) taken legal h f = absurd (false≢true h)

-- ---- what stands after an entry

-- the reports that are taken after it, before the next wait
abbrev pub gathered : List (Entry ServerNote) → List Report → List Report
gathered [] taken = taken
gathered (e ∷ later) taken = gathered later (taken_before e taken)

pub follows_front : (groups : List Group) (later past : List (Entry ServerNote))
    (taken : List Report) → FollowsBefore groups (later ++ past) taken
    → FollowsBefore groups past (gathered later taken)
follows_front groups [] past taken f = f
follows_front groups (e ∷ later) past taken f =
    follows_front groups later past (taken_before e taken) f.1

-- none, if the entries of the wait are over: there is a further wait, or no report comes after
-- this one
record NoneBehind (later past : List (Entry ServerNote)) : Type 0 where
  keeps : (taken : List Report) → gathered later taken ≡ taken
  over : follows_ready (later ++ past) ≡ false

none_or_waits : (most : ℕ) (later past : List (Entry ServerNote))
    → is_legal most (later ++ past) ≡ true → follows_ready past ≡ false
    → ((taken : List Report) → gathered later taken ≡ []) ⊎ NoneBehind later past
none_or_waits most [] past legal h = inr (record { keeps = λ taken. refl; over = h })
none_or_waits most (e ∷ later) past legal h =
    let parts = and_parts (may_follow most (later ++ past) e) (is_legal most (later ++ past)) legal
    in
    ⊎_elim (λ (n : (taken : List Report) → gathered later taken ≡ []).
    inl (λ taken. n (taken_before e taken)))
    (λ (n : NoneBehind later past). by_entry e parts.0 n)
    (none_or_waits most later past parts.1 h)
  where
    by_entry : (e : Entry ServerNote) → may_follow most (later ++ past) e ≡ true
        → NoneBehind later past → ((taken : List Report) → gathered (e ∷ later) taken ≡ [])
        ⊎ NoneBehind (e ∷ later) past
    by_entry (Polled moment) may n = inl (λ taken. n.keeps [])
    by_entry (Ready handle kind) may n =
        absurd (both_ways _ n.over (and_parts _ _
        (may_fits most (later ++ past) (Ready handle kind) may)).0)
    by_entry (Due timer) may n = absurd
        (both_ways _ n.over (due_ready (later ++ past)
        (and_parts _ _ (may_fits most (later ++ past) (Due timer) may)).0))
    by_entry (Opened handle mask) may n = inr (record { keeps = n.keeps; over = refl })
    by_entry (Scheduled timer handle first every) may n =
        inr (record { keeps = n.keeps; over = refl })
    by_entry (Cancelled timer) may n = inr (record { keeps = n.keeps; over = refl })
    by_entry (Posted handle kind from seq) may n = inr (record { keeps = n.keeps; over = refl })
    by_entry (Stale handle from seq) may n = inr (record { keeps = n.keeps; over = refl })
    by_entry (Started event) may n = inr (record { keeps = n.keeps; over = refl })
    by_entry (Returned event answer said) may n = inr (record { keeps = n.keeps; over = refl })
    by_entry (Masked handle mask) may n = inr (record { keeps = n.keeps; over = refl })
    by_entry (Suspended handle) may n = inr (record { keeps = n.keeps; over = refl })
    by_entry (Resumed handle) may n = inr (record { keeps = n.keeps; over = refl })
    by_entry (Refused live fault said) may n = inr (record { keeps = n.keeps; over = refl })
    by_entry (Removed handle) may n = inr (record { keeps = n.keeps; over = refl })
    by_entry (Closed handle said) may n = inr (record { keeps = n.keeps; over = refl })
    by_entry Ended may n = inr (record { keeps = n.keeps; over = refl })

pub none_behind : (most : ℕ) (later past : List (Entry ServerNote))
    → is_legal most (later ++ past) ≡ true → follows_ready past ≡ false → gathered later [] ≡ []
none_behind most later past legal h =
    ⊎_elim (λ (n : (taken : List Report) → gathered later taken ≡ []). n [])
    (λ (n : NoneBehind later past). n.keeps []) (none_or_waits most later past legal h)
