-- The turns of a handler and the reports that it was given.
use Rattle.std.specs.Prelude.{◌≡◌, ◌==◌, ℕ, Bool, true, false, not, ◌&&◌, List}
use Rattle.std.specs.List.{list_any}
use Rattle.reactor_summary.specs.ev_types.specs.declared.upcall.Answer.{Answer}
use Rattle.reactor_summary.specs.ev_types.specs.declared.upcall.Answer.TheVariants.{Again}
use Rattle.reactor_summary.specs.ev_types.specs.declared.upcall.Kind.{Kind}
use Rattle.reactor_summary.specs.ev_types.specs.declared.upcall.Kind.TheVariants.{Read, Write}
use Rattle.reactor_summary.specs.ev_types.specs.declared.upcall.Kind.TheVariants as kind
use Rattle.reactor_summary.specs.ev_types.specs.declared.upcall.Upcall.{Upcall}
use Rattle.reactor_summary.specs.ev_types.specs.declared.upcall.Upcall.TheVariants.{Input, Output}
use Rattle.reactor_summary.specs.ev_types.specs.declared.upcall.Upcall.TheVariants as upcall
use Rattle.reactor_summary.specs.reactor_journal.specs.Event.{Item}
use Rattle.reactor_summary.specs.reactor_journal.specs.declared.entry.Entry.{Entry}
use Rattle.reactor_summary.specs.reactor_journal.specs.declared.entry.Entry.TheVariants.{Cancelled}
use Rattle.reactor_summary.specs.reactor_journal.specs.declared.entry.Entry.TheVariants.{Ready}
use Rattle.reactor_summary.specs.reactor_journal.specs.declared.entry.Entry.TheVariants.{Masked}
use Rattle.reactor_summary.specs.reactor_journal.specs.declared.entry.Entry.TheVariants.{Suspended}
use Rattle.reactor_summary.specs.reactor_journal.specs.Past.{past_of, count, upcall_of, is_alive}
use Rattle.reactor_summary.specs.reactor_journal.specs.Past.{is_pick, is_open, had}
use Rattle.reactor_summary.specs.reactor_journal.specs.Follow.{Legal}

abbrev pub is_read : Kind → Bool
is_read Read = true
is_read _ = false

abbrev pub is_write : Kind → Bool
is_write Write = true
is_write _ = false

abbrev pub is_except : Kind → Bool
is_except kind.Except = true
is_except _ = false

-- whether an upcall is that of a report of this kind
abbrev pub is_of : Kind → Upcall → Bool
is_of k Input = is_read k
is_of k Output = is_write k
is_of k upcall.Except = is_except k
is_of k _ = false

abbrev pub is_input : Upcall → Bool
is_input u = is_of Read u

abbrev pub is_again : Answer → Bool
is_again Again = true
is_again _ = false

-- whether the entry is a report of this kind on this handle
abbrev pub reports : {N : Type 0} → Kind → ℕ → Entry N → Bool
reports k x (Ready handle other) = handle.0 == x && is_of k (upcall_of other)
reports k x _ = false

-- whether the entry reports that this handle can be read
abbrev pub reports_input : {N : Type 0} → ℕ → Entry N → Bool
reports_input x e = reports Read x e

-- whether a turn is one of a report of this kind that did not ask for the next
abbrev pub rests : {N : Type 0} → Kind → Item N → Bool
rests k item = is_of k item.upcall && not (is_again item.answer)

-- no event is dropped or held back but by the end of its handle
abbrev pub holds_back : {N : Type 0} → Entry N → Bool
holds_back (Cancelled timer) = true
holds_back (Masked handle mask) = true
holds_back (Suspended handle) = true
holds_back _ = false

abbrev pub AnswersEach : Type 0 → Type 0
AnswersEach N =
    (journal : List (Entry N)) (most x : ℕ) (k : Kind) → Legal journal most
    → list_any holds_back (past_of journal) ≡ false
    → is_alive (past_of journal) x ≡ true → ((i : ℕ) → is_pick (past_of journal) i ≡ false)
    → ((i : ℕ) → is_open (past_of journal) i ≡ false)
    → count (rests k) (had (past_of journal) x) ≡ count (reports k x) (past_of journal)
