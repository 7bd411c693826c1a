-- When a list of bytes is one record and nothing else.
use Rattle.std.proofs.Common.{◌≡◌, ◌<◌, ℕ, List, [], ◌∷◌, Some, None, length, drop, refl, sym, ap}
use Rattle.std.proofs.Common.{◌∙◌, arith}
use Rattle.std.proofs.Math.Seq.{drop-length}
use Rattle.std.proofs.lemmas.List.{length-drop}
use Rattle.cdr_record.specs.declared.record.LogRecord.{LogRecord}
use Rattle.cdr_record.specs.declared.grammar.First.{First}
use Rattle.cdr_record.specs.declared.grammar.First.TheVariants.{More, Bad, One}
use Rattle.cdr_record.specs.Grammar.{first_of, record_in}
use Rattle.cdr_record.specs.Decoding.{records_of, left_of, record_alone, only_record}
use Rattle.cdr_record.proofs.Cutting.{first_nil, steps_over, stops_at}

pub none_alone : (left : List ℕ) → record_alone [] left ≡ None
none_alone [] = refl
none_alone (x ∷ left) = refl

pub two_not_alone : (r s : LogRecord) (records : List LogRecord) (left : List ℕ)
    → record_alone (r ∷ s ∷ records) left ≡ None
two_not_alone r s records [] = refl
two_not_alone r s records (x ∷ left) = refl

not_alone_before : (r : LogRecord) (left : List ℕ) → 0 < length left
    → record_alone (r ∷ []) left ≡ None
not_alone_before r [] h = absurd (omega (arith, h))
not_alone_before r (x ∷ left) h = refl

-- no record stands first
pub none_first_none_alone : (t : List ℕ) (v : First) → first_of t ≡ v → ((n : ℕ) → v ≡ One n → ⊥)
    → None ≡ only_record t
none_first_none_alone t More e h =
    sym (ap (λ rs. record_alone rs (left_of t)) (stops_at t More e tt).records
    ∙ none_alone (left_of t))
none_first_none_alone t (Bad w) e h =
    sym (ap (λ rs. record_alone rs (left_of t)) (stops_at t (Bad w) e tt).records
    ∙ none_alone (left_of t))
none_first_none_alone t (One n) e h = absurd (h n refl)

-- a record stands first, and bytes after it
behind_one : (r : LogRecord) (rest : List ℕ) (v : First) → first_of rest ≡ v → 0 < length rest
    → record_alone (r ∷ records_of rest) (left_of rest) ≡ None
behind_one r rest More e h =
    let s = stops_at rest More e tt in
    ap (λ rs. record_alone (r ∷ rs) (left_of rest)) s.records
    ∙ (ap (record_alone (r ∷ [])) s.left ∙ not_alone_before r rest h)
behind_one r rest (Bad w) e h =
    let s = stops_at rest (Bad w) e tt in
    ap (λ rs. record_alone (r ∷ rs) (left_of rest)) s.records
    ∙ (ap (record_alone (r ∷ [])) s.left ∙ not_alone_before r rest h)
behind_one r rest (One n) e h =
    ap (λ rs. record_alone (r ∷ rs) (left_of rest)) (steps_over rest n e).records
    ∙ two_not_alone r (record_in rest) (records_of (drop n rest)) (left_of rest)

pub more_behind_none_alone : (t : List ℕ) (n : ℕ) → first_of t ≡ One n → n < length t
    → None ≡ only_record t
more_behind_none_alone t n e h =
    let s = steps_over t n e in
    sym (ap (λ rs. record_alone rs (left_of t)) s.records
    ∙ (ap (record_alone (record_in t ∷ records_of (drop n t))) s.left
    ∙ behind_one (record_in t) (drop n t) (first_of (drop n t)) refl
    (omega (arith, h, length-drop n t))))

-- a record stands first, and nothing after it
pub one_is_alone : (t : List ℕ) (n : ℕ) → first_of t ≡ One n → n ≡ length t
    → Some (record_in t) ≡ only_record t
one_is_alone t n e all =
    let s = steps_over t n e in
    let none : drop n t ≡ [] = ap (λ k. drop k t) all ∙ drop-length t in
    let end = stops_at [] More first_nil tt in
    sym (ap (λ rs. record_alone rs (left_of t))
    (s.records ∙ ap (λ rs. record_in t ∷ rs) (ap records_of none ∙ end.records))
    ∙ ap (record_alone (record_in t ∷ [])) (s.left ∙ (ap left_of none ∙ end.left)))
