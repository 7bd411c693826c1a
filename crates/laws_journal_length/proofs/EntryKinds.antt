-- The kinds of entries of a run, and how many there are of each.
use Rattle.std.proofs.Common.{ℕ, suc, ◌≡◌, ◌+◌, cond, Bool, true, false, List, [], ◌∷◌, length}
use Rattle.std.proofs.Common.{refl, sym, arith}
use Rattle.std.specs.List.{list_any}
use Rattle.std.proofs.lemmas.Bool.{false≢true, or_parts}
use Rattle.laws_one_worker.specs.ev_types.specs.declared.upcall.Answer.TheVariants.{Again}
use Rattle.laws_one_worker.specs.reactor_journal.specs.declared.entry.Entry.{Entry}
use Rattle.laws_one_worker.specs.reactor_journal.specs.declared.entry.Entry.TheVariants.{Opened}
use Rattle.laws_one_worker.specs.reactor_journal.specs.declared.entry.Entry.TheVariants.{Scheduled}
use Rattle.laws_one_worker.specs.reactor_journal.specs.declared.entry.Entry.TheVariants.{Cancelled}
use Rattle.laws_one_worker.specs.reactor_journal.specs.declared.entry.Entry.TheVariants.{Polled}
use Rattle.laws_one_worker.specs.reactor_journal.specs.declared.entry.Entry.TheVariants.{Due}
use Rattle.laws_one_worker.specs.reactor_journal.specs.declared.entry.Entry.TheVariants.{Ready}
use Rattle.laws_one_worker.specs.reactor_journal.specs.declared.entry.Entry.TheVariants.{Posted}
use Rattle.laws_one_worker.specs.reactor_journal.specs.declared.entry.Entry.TheVariants.{Stale}
use Rattle.laws_one_worker.specs.reactor_journal.specs.declared.entry.Entry.TheVariants.{Started}
use Rattle.laws_one_worker.specs.reactor_journal.specs.declared.entry.Entry.TheVariants.{Returned}
use Rattle.laws_one_worker.specs.reactor_journal.specs.declared.entry.Entry.TheVariants.{Masked}
use Rattle.laws_one_worker.specs.reactor_journal.specs.declared.entry.Entry.TheVariants.{Suspended}
use Rattle.laws_one_worker.specs.reactor_journal.specs.declared.entry.Entry.TheVariants.{Resumed}
use Rattle.laws_one_worker.specs.reactor_journal.specs.declared.entry.Entry.TheVariants.{Refused}
use Rattle.laws_one_worker.specs.reactor_journal.specs.declared.entry.Entry.TheVariants.{Removed}
use Rattle.laws_one_worker.specs.reactor_journal.specs.declared.entry.Entry.TheVariants.{Closed}
use Rattle.laws_one_worker.specs.reactor_journal.specs.declared.entry.Entry.TheVariants.{Ended}
use Rattle.laws_one_worker.specs.reactor_journal.specs.Past.{count, is_opened}
use Rattle.laws_one_worker.specs.reactor_journal.specs.Past.{is_closed}
use Rattle.laws_one_worker.specs.log_handler.specs.declared.note.ServerNote.{ServerNote}
use Rattle.laws_one_worker.specs.laws_script_runs.specs.Runs.{is_refusal}

abbrev pub is_polled : Entry ServerNote → Bool
is_polled (Polled moment) = true
is_polled _ = false

abbrev pub is_ready : Entry ServerNote → Bool
is_ready (Ready handle kind) = true
is_ready _ = false

abbrev pub is_started : Entry ServerNote → Bool
is_started (Started event) = true
is_started _ = false

abbrev pub is_returned : Entry ServerNote → Bool
is_returned (Returned event answer said) = true
is_returned _ = false

-- a turn that asks for one more
abbrev pub is_again : Entry ServerNote → Bool
is_again (Returned event Again said) = true
is_again _ = false

-- what a run without timers does not have
abbrev pub is_absent : Entry ServerNote → Bool
is_absent (Scheduled timer handle first every) = true
is_absent (Cancelled timer) = true
is_absent (Due timer) = true
is_absent (Posted handle kind from seq) = true
is_absent (Stale handle from seq) = true
is_absent (Masked handle mask) = true
is_absent (Suspended handle) = true
is_absent (Resumed handle) = true
is_absent (Removed handle) = true
is_absent Ended = true
is_absent _ = false

-- the entries by their kinds
abbrev pub by_kinds : List (Entry ServerNote) → ℕ
by_kinds past =
    count is_opened past + count is_refusal past + count is_polled past + count is_ready past
    + count is_started past + count is_returned past + count is_closed past

pub kinds : (past : List (Entry ServerNote)) → list_any is_absent past ≡ false
    → length past ≡ by_kinds past
kinds [] none = refl
kinds (Opened handle mask ∷ past) none = omega (arith, kinds past none)
kinds (Polled moment ∷ past) none = omega (arith, kinds past none)
kinds (Ready handle kind ∷ past) none = omega (arith, kinds past none)
kinds (Started event ∷ past) none = omega (arith, kinds past none)
kinds (Returned event answer said ∷ past) none = omega (arith, kinds past none)
kinds (Refused live fault said ∷ past) none = omega (arith, kinds past none)
kinds (Closed handle said ∷ past) none = omega (arith, kinds past none)
kinds (_ ∷ past) none = absurd (false≢true (sym none))

-- none of a list is none of it
pub none_counted : {A : Type 0} (p : A → Bool) (xs : List A) → list_any p xs ≡ false
    → count p xs ≡ 0
none_counted p [] none = refl
none_counted p (x ∷ xs) none = by_test (p x) (or_parts (p x) (list_any p xs) none).0
    (none_counted p xs (or_parts (p x) (list_any p xs) none).1)
  where
    by_test : (b : Bool) → b ≡ false → count p xs ≡ 0 → cond b (suc (count p xs)) (count p xs) ≡ 0
    by_test true h k = absurd (false≢true (sym h))
    by_test false h k = k
