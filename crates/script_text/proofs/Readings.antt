-- The lines of a text are read in one way.
use Rattle.std.proofs.Common.{◌≡◌, ◌∙◌, ℕ, ◌<◌, true, List, [], ◌∷◌, ◌++◌, length, reverse, Option}
use Rattle.std.proofs.Common.{Some, None, refl, sym, ap, ap₂, subst, append_assoc, arith}
use Rattle.std.proofs.lemmas.List.{reverse-append}
use Rattle.std.proofs.lemmas.Grind.{reverse_onto}
use Rattle.std.proofs.lemmas.Bool.{false≢true}
use Rattle.script_net.specs.event_script.specs.Script.{ScriptGroup}
use Rattle.script_net.specs.event_script.specs.Grammar.{Line, line_of, raw_lines, may_stand}
use Rattle.script_net.specs.event_script.specs.Grammar.{groups_of, Spells, IsBadBehind, IsBadAt}
use Rattle.script_net.specs.event_script.specs.Grammar.{IsScriptText}

same_past : (raws : List (List ℕ)) (a b : List Line) → Spells raws a → Spells raws b → a ≡ b
same_past [] [] [] s t = refl
same_past [] [] (y ∷ b) s t = absurd t
same_past [] (x ∷ a) b s t = absurd s
same_past (raw ∷ raws) [] b s t = absurd s
same_past (raw ∷ raws) (x ∷ a) [] s t = absurd t
same_past (raw ∷ raws) (x ∷ a) (y ∷ b) s t =
    let first : x ≡ y = cc (s.0, t.0) in
    ap₂ ◌∷◌ first (same_past raws a b s.2 t.2)

pub same_groups : (text : List ℕ) (a b : List ScriptGroup) → IsScriptText text a
    → IsScriptText text b → a ≡ b
same_groups text a b s t = s.are ∙ ap groups_of
    (same_past (reverse (raw_lines text)) s.past t.past s.spells t.spells) ∙ sym t.are

-- the lines before some others are spelt too
before : (later earlier : List (List ℕ)) (past : List Line) → Spells (later ++ earlier) past
    → (front : List Line) × Spells earlier front
before [] earlier past s = (past, s)
before (raw ∷ later) earlier [] s = absurd s
before (raw ∷ later) earlier (line ∷ past) s = before later earlier past s.2

not_both : (past : List Line) (read : Option Line) (line : Line) → read ≡ Some line
    → may_stand past line ≡ true → IsBadBehind past read → ⊥
not_both past None line is may bad = cc
not_both past (Some other) line is may bad = let same : other ≡ line = cc in
    false≢true (sym bad ∙ ap (may_stand past) same ∙ may)

-- a bad line is not spelt after the lines before it
bad_first : (raw : List ℕ) (raws : List (List ℕ)) (past front : List Line) → Spells raws past
    → IsBadBehind past (line_of raw) → Spells (raw ∷ raws) front → ⊥
bad_first raw raws past [] s bad t = t
bad_first raw raws past (line ∷ front) s bad t =
    not_both past (line_of raw) line t.0
    (ap (λ p. may_stand p line) (same_past raws past front s t.2) ∙ t.1) bad

-- lines with a bad one among them are not spelt
among : (good : List (List ℕ)) (raw : List ℕ) (rest : List (List ℕ)) (past all : List Line)
    → Spells (reverse good) past → IsBadBehind past (line_of raw)
    → Spells (reverse (good ++ raw ∷ rest)) all → ⊥
among good raw rest past all s bad t =
    let apart : reverse (good ++ raw ∷ rest) ≡ reverse rest ++ raw ∷ reverse good =
    reverse-append good (raw ∷ rest) ∙ ap (λ (ls : List (List ℕ)). ls ++ reverse good)
    (reverse_onto rest raw []) ∙ append_assoc (reverse rest) (raw ∷ []) (reverse good) in
    let f = before (reverse rest) (raw ∷ reverse good) all
    (subst (λ (ls : List (List ℕ)). Spells ls all) apart t) in
    bad_first raw (reverse good) past f.0 s bad f.1

pub no_bad_line : (text : List ℕ) (groups : List ScriptGroup) (n : ℕ) → IsScriptText text groups
    → IsBadAt text n → ⊥
no_bad_line text groups n s b = among b.good b.bad b.rest b.past s.past b.spells b.is_bad
    (subst (λ (ls : List (List ℕ)). Spells (reverse ls) s.past) b.is s.spells)

-- of two fronts of one list, each with an element after it, the shorter one with its element
-- begins the longer one
begins : (a : List (List ℕ)) (x : List ℕ) (as_ b : List (List ℕ)) (y : List ℕ) (bs : List (List ℕ))
    → a ++ x ∷ as_ ≡ b ++ y ∷ bs → length a < length b → (more : List (List ℕ))
    × (b ≡ a ++ x ∷ more)
begins a x as_ [] y bs same lt = absurd (omega arith)
begins [] x as_ (z ∷ b) y bs same lt = let e : x ≡ z = cc in (b, ap (λ (w : List ℕ). w ∷ b) (sym e))
begins (w ∷ a) x as_ (z ∷ b) y bs same lt =
    let e : w ≡ z = cc in
    let f : a ++ x ∷ as_ ≡ b ++ y ∷ bs = cc in
    let m = begins a x as_ b y bs f (omega arith) in
    (m.0, ap (λ (v : List ℕ). v ∷ b) (sym e) ∙ ap (λ (ls : List (List ℕ)). w ∷ ls) m.1)

not_later : (text : List ℕ) (m n : ℕ) (a : IsBadAt text m) (b : IsBadAt text n)
    → length a.good < length b.good → ⊥
not_later text m n a b lt =
    let more = begins a.good a.bad a.rest b.good b.bad b.rest (sym a.is ∙ b.is) lt in
    among a.good a.bad more.0 a.past b.past a.spells a.is_bad
    (subst (λ (ls : List (List ℕ)). Spells (reverse ls) b.past) more.1 b.spells)

pub same_bad_line : (text : List ℕ) (m n : ℕ) → IsBadAt text m → IsBadAt text n → m ≡ n
same_bad_line text m n a b =
    let no : length a.good < length b.good → ⊥ = not_later text m n a b in
    let never : length b.good < length a.good → ⊥ = not_later text n m b a in
    omega (arith, a.counts, b.counts, no, never)
