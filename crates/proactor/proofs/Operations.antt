-- Lists of operations.
use Rattle.std.proofs.Common.{◌≡◌, List, [], ◌∷◌, ◌++◌, refl, ap}
use Rattle.proactor.specs.declared.operation.Op.{Op}
use Rattle.proactor.specs.declared.operation.Op.TheVariants as op
use Rattle.proactor.specs.declared.standing.Reading.{Reading}
use Rattle.proactor.specs.declared.standing.Writing.{Writing}
use Rattle.proactor.specs.Events.{reads_in, writes_in}

pub reads_in_append : (xs ys : List Op) → reads_in (xs ++ ys) ≡ reads_in xs ++ reads_in ys
reads_in_append [] ys = refl
reads_in_append (op.Read id want ∷ xs) ys =
    ap (λ (rest : List Reading). record { id = id; want = want } ∷ rest) (reads_in_append xs ys)
reads_in_append (op.Write id bytes ∷ xs) ys = reads_in_append xs ys

pub writes_in_append : (xs ys : List Op) → writes_in (xs ++ ys) ≡ writes_in xs ++ writes_in ys
writes_in_append [] ys = refl
writes_in_append (op.Read id want ∷ xs) ys = writes_in_append xs ys
writes_in_append (op.Write id bytes ∷ xs) ys =
    ap (λ (rest : List Writing). record { id = id; bytes = bytes } ∷ rest) (writes_in_append xs ys)
