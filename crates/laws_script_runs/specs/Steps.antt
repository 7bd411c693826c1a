-- What every entry of a past is to those before it.
use Rattle.std.specs.Prelude.{List, [], ◌∷◌}
use Rattle.reactor_model.specs.reactor_journal.specs.declared.entry.Entry.{Entry}

abbrev pub EachStep : {N : Type 0} → (List (Entry N) → Entry N → Type 0) → List (Entry N) → Type 0
EachStep P [] = Unit {0}
EachStep P (e ∷ past) = P past e × EachStep P past
