-- Whether a part of a text is left.
use Rattle.std.proofs.Common.{◌≡◌, ℕ, Bool, true, false, not, List, Option, Some, None, refl, sym}
use Rattle.std.proofs.Common.{ap}
use Rattle.std.specs.Prelude.{is_some}
use Rattle.std.specs.Borrow.{Bor}
use Rattle.journal_reader.specs.Reading.{no_more}
use Rattle.text_parts.specs.Parts.{parts_behind}
use Rattle.text_parts.proofs.Cuts.{one_part}

pub none_left : (c : ℕ) (rest : Option (Bor (List ℕ))) (over : Bool) → is_some rest ≡ not over
    → over ≡ no_more (parts_behind c rest)
none_left c None true is = refl
none_left c None false is = cc
none_left c (Some r) true is = cc
none_left c (Some r) false is = let p = one_part c r.now in sym (ap no_more p.2)
