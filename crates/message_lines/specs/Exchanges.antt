-- How an item is put while others come.
use Rattle.std.specs.Prelude.{◌≡◌, ℕ, ◌+◌, Bool, true, false, Option, Some, None, Result, Ok, Err}
use Rattle.message_lines.specs.declared.line.Item.{Item}

-- How many items wait, if that is told, before and after the next was taken in: one was there
-- and is taken, or there was none, or there was no memory and it waits on.
abbrev pub TakesNext : {E : Type 0} → Option ℕ → Result Bool E → Option ℕ → Type 0
TakesNext None result new = new ≡ None
TakesNext (Some n) (Ok true) new = (m : ℕ) × (n ≡ m + 1) × (new ≡ Some m)
TakesNext (Some n) (Ok false) new = (n ≡ 0) × (new ≡ Some n)
TakesNext (Some n) (Err e) new = new ≡ Some n

-- if it is told how many items wait, none does
abbrev pub NoneWaits : Option ℕ → Type 0
NoneWaits waiting = (n : ℕ) → waiting ≡ Some n → n ≡ 0

-- all that came was taken in, and then an item was put
abbrev pub PutsAfter : {S : Type 0} → (S → S → Type 0) → (S → Item → S → Type 0) → S → Item → S
    → Type 0
PutsAfter {S = S} keeps has_put old item new =
    (between : S) × keeps old between × has_put between item new
