-- The arguments of a line's parser, as building leaves them, and which of them a name or a place
-- finds.
use Rattle.std.proofs.Common.{◌≡◌, ◌∙◌, ℕ, Bool, true, false, ◌||◌, cond, List, [], ◌∷◌, ◌++◌, map}
use Rattle.std.proofs.Common.{find, Option, Some, None, refl, ap}
use Rattle.std.specs.Str.{bytes_eq}
use Rattle.std.proofs.lemmas.Slice.Eq.{bytes_eq-Decides}
use Rattle.clap.specs.Words.{Rule, Text}
use Rattle.clap.specs.Walk.{arg_by_id, arg_by_index, arg_by_long, arg_by_short}
use Rattle.clap.specs.Simple.{Shape, filled, new_shape, with_index}
use Rattle.cmd_line.specs.Given.{Line, has_name}
use Rattle.cmd_line.specs.Parse.{flag, valued}

abbrev pub valued_rule : Text → Rule
valued_rule name = with_index 1 (filled (valued name))

abbrev pub flag_rule : Text → Rule
flag_rule name = with_index 1 (filled (flag name))

abbrev pub rules_of : Line → List Rule
rules_of line = map valued_rule line.valued ++ map flag_rule line.flags

abbrev pub shape_of : Text → Line → Shape
shape_of name line = record (new_shape name) {
  rules = rules_of line;
  no_binary_name = true;
  disable_help_flag = true;
  disable_help_subcommand = true;
  disable_version_flag = true;
  is_built = true;
}

-- what a name finds
abbrev pub named : Text → (valued flags : List Text) → Option Rule
named name valued flags = cond (has_name name valued) (Some (valued_rule name))
    (cond (has_name name flags) (Some (flag_rule name)) None)

same_name : (f : Text → Rule) (n name : Text) (h same : Bool) (rest : Option Rule)
    → bytes_eq n name ≡ same → (other : Option Rule) → rest ≡ cond h (Some (f name)) other
    → cond same (Some (f n)) rest ≡ cond (same || h) (Some (f name)) other
same_name f n name h true rest is other below =
    ap (λ m. Some (f m)) ((bytes_eq-Decides n name).0 is)
same_name f n name h false rest is other below = below

pub by_name : (p : Rule → Bool) (name : Text) → ((n : Text) → p (valued_rule n) ≡ bytes_eq n name)
    → ((n : Text) → p (flag_rule n) ≡ bytes_eq n name)
    → (valued flags : List Text) → find p (map valued_rule valued ++ map flag_rule flags)
    ≡ named name valued flags
by_name p name at_valued at_flag [] [] = refl
by_name p name at_valued at_flag [] (f ∷ flags) =
    let rest = find p (map flag_rule flags) in
    ap (λ b. cond b (Some (flag_rule f)) rest) (at_flag f)
    ∙ same_name flag_rule f name (has_name name flags) (bytes_eq f name) rest refl None
    (by_name p name at_valued at_flag [] flags)
by_name p name at_valued at_flag (v ∷ valued) flags =
    let rest = find p (map valued_rule valued ++ map flag_rule flags) in
    ap (λ b. cond b (Some (valued_rule v)) rest) (at_valued v)
    ∙ same_name valued_rule v name (has_name name valued) (bytes_eq v name) rest refl
    (cond (has_name name flags) (Some (flag_rule name)) None)
    (by_name p name at_valued at_flag valued flags)

or_false : (b : Bool) → (b || false) ≡ b
or_false true = refl
or_false false = refl

pub by_long : (line : Line) (name : Text)
    → arg_by_long (rules_of line) name ≡ named name line.valued line.flags
by_long line name = by_name _ name (λ n. or_false (bytes_eq n name))
    (λ n. or_false (bytes_eq n name)) line.valued line.flags

pub by_id : (line : Line) (name : Text)
    → arg_by_id (rules_of line) name ≡ named name line.valued line.flags
by_id line name = by_name _ name (λ n. refl) (λ n. refl) line.valued line.flags

-- no rule passes
none_passes : (p : Rule → Bool) → ((n : Text) → p (valued_rule n) ≡ false)
    → ((n : Text) → p (flag_rule n) ≡ false) → (valued flags : List Text)
    → find p (map valued_rule valued ++ map flag_rule flags) ≡ None
none_passes p at_valued at_flag [] [] = refl
none_passes p at_valued at_flag [] (f ∷ flags) =
    ap (λ b. cond b (Some (flag_rule f)) (find p (map flag_rule flags))) (at_flag f)
    ∙ none_passes p at_valued at_flag [] flags
none_passes p at_valued at_flag (v ∷ valued) flags =
    ap (λ b. cond b (Some (valued_rule v)) (find p (map valued_rule valued ++ map flag_rule flags)))
    (at_valued v) ∙ none_passes p at_valued at_flag valued flags

pub by_short : (line : Line) (char : ℕ) → arg_by_short (rules_of line) char ≡ None
by_short line char = none_passes _ (λ n. refl) (λ n. refl) line.valued line.flags

pub by_index : (line : Line) (place : ℕ) → arg_by_index (rules_of line) place ≡ None
by_index line place = none_passes _ (λ n. refl) (λ n. refl) line.valued line.flags
