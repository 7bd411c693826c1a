-- Texts that are put in five parts.
use Rattle.std.proofs.Common.{◌≡◌, List, ◌++◌, ℕ}
use Rattle.std.proofs.lemmas.List.{append_assoc}

pub in_parts : (text a b c d e : List ℕ)
    → ((((text ++ a) ++ b) ++ c) ++ d) ++ e ≡ text ++ ((((a ++ b) ++ c) ++ d) ++ e)
in_parts text a b c d e = simp append_assoc
