-- In distinct rows, a code has a name exactly if the name has that code.
use Rattle.std.proofs.Common.{◌≡◌, ◌∙◌, ℕ, Bool, true, false, not, ◌&&◌, ◌||◌, cond, ◌==◌, List, []}
use Rattle.std.proofs.Common.{◌∷◌, Some, refl, ap, arith}
use Rattle.std.specs.Prelude.{option_map, unwrap_or}
use Rattle.std.specs.List.{find, list_any}
use Rattle.std.specs.Str.{bytes_eq}
use Rattle.std.proofs.lemmas.Bool.{and_parts}
use Rattle.std.proofs.lemmas.Bool.Decides.{nat_tests}
use Rattle.std.proofs.lemmas.Slice.Eq.{bytes_eq-Decides}
use Rattle.journal_text.specs.declared.code_table.table.Row.{Row}
use Rattle.journal_text.specs.Rows.{Named, named, names_of, has_code, has_name, name_in, code_in}
use Rattle.journal_text.specs.Rows.{are_distinct}

value_is : {A : Type 0} (a b : A) → Some a ≡ Some b → a ≡ b
value_is a b is = ap (λ o. unwrap_or o a) is

or_right : (a b : Bool) → b ≡ true → (a || b) ≡ true
or_right true b is = refl
or_right false b is = is

never : (b : Bool) → not b ≡ true → b ≡ true → ⊥
never true is same = cc
never false is same = cc

-- what was found by its code has its name, and by its name its code
has_its_name : (rows : List Named) (code : ℕ) (name : List ℕ) → name_in rows code ≡ Some name
    → list_any (has_name name) rows ≡ true
has_its_name [] code name h = cc h
has_its_name (row ∷ rows) code name h = by_code (code == row.0) (has_its_name rows code name) h
  where
    by_code : (b : Bool) → (name_in rows code ≡ Some name → list_any (has_name name) rows ≡ true)
        → option_map (λ (row : Named). row.1) (cond b (Some row) (find (has_code code) rows))
        ≡ Some name → list_any (has_name name) (row ∷ rows) ≡ true
    by_code true more h = ap (λ b. b || list_any (has_name name) rows)
        ((bytes_eq-Decides row.1 name).1 (value_is row.1 name h))
    by_code false more h = or_right (has_name name row) (list_any (has_name name) rows) (more h)

has_its_code : (rows : List Named) (code : ℕ) (name : List ℕ) → code_in rows name ≡ Some code
    → list_any (has_code code) rows ≡ true
has_its_code [] code name h = cc h
has_its_code (row ∷ rows) code name h =
    by_name (bytes_eq row.1 name) (has_its_code rows code name) h
  where
    by_name : (b : Bool) → (code_in rows name ≡ Some code → list_any (has_code code) rows ≡ true)
        → option_map (λ (row : Named). row.0) (cond b (Some row) (find (has_name name) rows))
        ≡ Some code → list_any (has_code code) (row ∷ rows) ≡ true
    by_name true more h = let same : row.0 ≡ code = value_is row.0 code h in
        let test : (code == row.0) ≡ true = grind (arith, nat_tests) in
        ap (λ b. b || list_any (has_code code) rows) test
    by_name false more h = or_right (has_code code row) (list_any (has_code code) rows) (more h)

apart_names : (name other : List ℕ) (rows : List Named) → not (list_any (has_name name) rows) ≡ true
    → list_any (has_name other) rows ≡ true → bytes_eq name other ≡ false
apart_names name other rows apart there = by_test (bytes_eq name other) refl
  where
    by_test : (b : Bool) → bytes_eq name other ≡ b → b ≡ false
    by_test false is = refl
    by_test true is = absurd (never (list_any (has_name name) rows) apart
        (ap (λ (n : List ℕ). list_any (has_name n) rows) ((bytes_eq-Decides name other).0 is)
        ∙ there))

apart_codes : (code other : ℕ) (rows : List Named) → not (list_any (has_code code) rows) ≡ true
    → list_any (has_code other) rows ≡ true → (other == code) ≡ false
apart_codes code other rows apart there = by_test (other == code) refl
  where
    by_test : (b : Bool) → (other == code) ≡ b → b ≡ false
    by_test false is = refl
    by_test true is = let same : code ≡ other = grind (arith, nat_tests) in
        absurd (never (list_any (has_code code) rows) apart
        (ap (λ (n : ℕ). list_any (has_code n) rows) same ∙ there))

pub by_its_name : (rows : List Named) → are_distinct rows ≡ true → (code : ℕ) (name : List ℕ)
    → name_in rows code ≡ Some name → code_in rows name ≡ Some code
by_its_name [] distinct code name h = cc h
by_its_name (row ∷ rows) distinct code name h =
    by_code (code == row.0) refl (λ d. by_its_name rows d code name) h
  where
    by_code : (b : Bool) → (code == row.0) ≡ b
        → (are_distinct rows ≡ true → name_in rows code ≡ Some name → code_in rows name ≡ Some code)
        → option_map (λ (row : Named). row.1) (cond b (Some row) (find (has_code code) rows))
        ≡ Some name → code_in (row ∷ rows) name ≡ Some code
    by_code true is more h =
        let same : row.0 ≡ code = grind (arith, nat_tests) in
        let test = (bytes_eq-Decides row.1 name).1 (value_is row.1 name h) in
        ap (λ b. option_map (λ (row : Named). row.0)
        (cond b (Some row) (find (has_name name) rows))) test ∙ ap Some same
    by_code false is more h =
        let front = and_parts (not (list_any (has_code row.0) rows)
        && not (list_any (has_name row.1) rows)) (are_distinct rows) distinct in
        let both = and_parts (not (list_any (has_code row.0) rows))
        (not (list_any (has_name row.1) rows)) front.0 in
        let test = apart_names row.1 name rows both.1 (has_its_name rows code name h) in
        ap (λ b. option_map (λ (row : Named). row.0)
        (cond b (Some row) (find (has_name name) rows))) test ∙ more front.1 h

pub by_its_code : (rows : List Named) → are_distinct rows ≡ true → (code : ℕ) (name : List ℕ)
    → code_in rows name ≡ Some code → name_in rows code ≡ Some name
by_its_code [] distinct code name h = cc h
by_its_code (row ∷ rows) distinct code name h =
    by_name (bytes_eq row.1 name) refl (λ d. by_its_code rows d code name) h
  where
    by_name : (b : Bool) → bytes_eq row.1 name ≡ b
        → (are_distinct rows ≡ true → code_in rows name ≡ Some code → name_in rows code ≡ Some name)
        → option_map (λ (row : Named). row.0) (cond b (Some row) (find (has_name name) rows))
        ≡ Some code → name_in (row ∷ rows) code ≡ Some name
    by_name true is more h =
        let same = (bytes_eq-Decides row.1 name).0 is in
        let code_is : row.0 ≡ code = value_is row.0 code h in
        let test : (code == row.0) ≡ true = grind (arith, nat_tests) in
        ap (λ b. option_map (λ (row : Named). row.1)
        (cond b (Some row) (find (has_code code) rows))) test ∙ ap Some same
    by_name false is more h =
        let front = and_parts (not (list_any (has_code row.0) rows)
        && not (list_any (has_name row.1) rows)) (are_distinct rows) distinct in
        let both = and_parts (not (list_any (has_code row.0) rows))
        (not (list_any (has_name row.1) rows)) front.0 in
        let test = apart_codes row.0 code rows both.0 (has_its_code rows code name h) in
        ap (λ b. option_map (λ (row : Named). row.1)
        (cond b (Some row) (find (has_code code) rows))) test ∙ more front.1 h

-- ---- what is found among the rows

pub by_code : (rows : List Row) (code : ℕ)
    → option_map (λ (row : Row). row.name.now) (find (λ (row : Row). code == row.code) rows)
    ≡ name_in (names_of rows) code
by_code [] code = refl
by_code (row ∷ rows) code = one (code == row.code) (by_code rows code)
  where
    one : (b : Bool) → option_map (λ (row : Row). row.name.now)
        (find (λ (row : Row). code == row.code) rows) ≡ name_in (names_of rows) code
        → option_map (λ (row : Row). row.name.now)
        (cond b (Some row) (find (λ (row : Row). code == row.code) rows))
        ≡ option_map (λ (row : Named). row.1)
        (cond b (Some (named row)) (find (has_code code) (names_of rows)))
    one true rest = refl
    one false rest = rest

pub by_name : (rows : List Row) (name : List ℕ)
    → option_map (λ (row : Row). row.code) (find (λ (row : Row). bytes_eq row.name.now name) rows)
    ≡ code_in (names_of rows) name
by_name [] name = refl
by_name (row ∷ rows) name = one (bytes_eq row.name.now name) (by_name rows name)
  where
    one : (b : Bool) → option_map (λ (row : Row). row.code)
        (find (λ (row : Row). bytes_eq row.name.now name) rows) ≡ code_in (names_of rows) name
        → option_map (λ (row : Row). row.code)
        (cond b (Some row) (find (λ (row : Row). bytes_eq row.name.now name) rows))
        ≡ option_map (λ (row : Named). row.0)
        (cond b (Some (named row)) (find (has_name name) (names_of rows)))
    one true rest = refl
    one false rest = rest
