-- Bytes in a fixed place.
use Rattle.std.specs.Prelude.{ℕ, List, take}
use Rattle.journal_text.specs.declared.lent.held.HeldBytes.{HeldBytes}

abbrev pub held_in : HeldBytes → List ℕ
held_in held = take held.count held.bytes
