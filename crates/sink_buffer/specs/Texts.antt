-- Texts that are put piece by piece.
use Rattle.std.specs.Prelude.{ℕ, List, ◌++◌}

-- Bytes were put: whatever text it stood for, it stands for that and these bytes. Texts can be
-- counted from different places on.
abbrev pub Puts : {Since Out : Type 0} → (Since → Out → List ℕ → Type 0) → Out → List ℕ → Out
    → Type 0
Puts {Since = Since} stands old bytes new =
    (since : Since) (text : List ℕ) → stands since old text → stands since new (text ++ bytes)
