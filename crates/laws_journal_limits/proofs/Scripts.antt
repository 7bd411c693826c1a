-- The texts of scripts.
use Rattle.std.proofs.Common.{ℕ, zero, suc, ◌≡◌, ◌≤◌, ◌<◌, ◌*◌, ◌^◌, ◌∙◌, ◌==◌, Bool, true}
use Rattle.std.proofs.Common.{false}
use Rattle.std.proofs.Common.{cond, List, [], ◌∷◌, ◌++◌, length, reverse, sym, ap, subst, refl}
use Rattle.std.proofs.Common.{arith}
use Rattle.std.proofs.Common.{Option, Some, None, Result, Ok, Err, option_map, option_and_then}
use Rattle.std.proofs.Common.{length-append}
use Rattle.std.proofs.Common.{codes, bytes_eq}
use Rattle.std.specs.List.{AllByRecursion, slice_split, onto_first}
use Rattle.std.proofs.lemmas.Bool.{and_parts, ltb-true, leb-true}
use Rattle.std.proofs.lemmas.Grind.{reverse_onto}
use Rattle.std.proofs.lemmas.List.{length-reverse}
use Rattle.hex.specs.Hex.{IsBytes, decode_of}
use Rattle.hex.proofs.HexLemmas.{decode_of-ok}
use Rattle.script_text.proofs.Groups.{steps_are}
use Rattle.laws_script_taken.specs.event_script.specs.Script.{ScriptStep}
use Rattle.laws_script_taken.specs.event_script.specs.Script.{Opens, Brings}
use Rattle.laws_script_taken.specs.event_script.specs.Script.{Shuts}
use Rattle.laws_script_taken.specs.event_script.specs.Script.{Fails}
use Rattle.laws_script_taken.specs.event_script.specs.Script.{ListenerFails}
use Rattle.laws_script_taken.specs.event_script.specs.Script.{ScriptGroup}
use Rattle.laws_script_taken.specs.event_script.specs.Script.{steps_of}
use Rattle.laws_script_taken.specs.event_script.specs.Script.{opened}
use Rattle.laws_script_taken.specs.event_script.specs.Script.{most_steps}
use Rattle.laws_script_taken.specs.event_script.specs.Stories.{bytes_of}
use Rattle.laws_script_taken.specs.event_script.specs.Stories.{bytes_brought}
use Rattle.laws_script_taken.specs.event_script.specs.Grammar.{Line, At}
use Rattle.laws_script_taken.specs.event_script.specs.Grammar.{Quiet}
use Rattle.laws_script_taken.specs.event_script.specs.Grammar.{Stepping}
use Rattle.laws_script_taken.specs.event_script.specs.Grammar.{IsScriptText}
use Rattle.laws_script_taken.specs.event_script.specs.Grammar.{Spells}
use Rattle.laws_script_taken.specs.event_script.specs.Grammar.{raw_lines}
use Rattle.laws_script_taken.specs.event_script.specs.Grammar.{without_last_empty}
use Rattle.laws_script_taken.specs.event_script.specs.Grammar.{line_of}
use Rattle.laws_script_taken.specs.event_script.specs.Grammar.{line_of_words}
use Rattle.laws_script_taken.specs.event_script.specs.Grammar.{words}
use Rattle.laws_script_taken.specs.event_script.specs.Grammar.{data_line}
use Rattle.laws_script_taken.specs.event_script.specs.Grammar.{hex_bytes}
use Rattle.laws_script_taken.specs.event_script.specs.Grammar.{value_of}
use Rattle.laws_script_taken.specs.event_script.specs.Grammar.{number}
use Rattle.laws_script_taken.specs.event_script.specs.Grammar.{moment_of}
use Rattle.laws_script_taken.specs.event_script.specs.Grammar.{steps_in}
use Rattle.laws_script_taken.specs.event_script.specs.Grammar.{groups_of}
use Rattle.laws_script_taken.specs.event_script.specs.Grammar.{is_step}
use Rattle.laws_script_taken.specs.event_script.specs.Grammar.{with_step}
use Rattle.laws_script_taken.specs.event_script.specs.Grammar.{last_moment}
use Rattle.laws_script_taken.specs.event_script.specs.Grammar.{may_stand}
use Rattle.laws_journal_limits.specs.Laws.{ScriptIsWithin}

-- ---- lists

all_append : {A : Type 0} (P : A → Type 0) (xs ys : List A) → AllByRecursion P xs
    → AllByRecursion P ys → AllByRecursion P (xs ++ ys)
all_append P [] ys h k = k
all_append P (x ∷ xs) ys h k = (h.0, all_append P xs ys h.1 k)

all_reverse : {A : Type 0} (P : A → Type 0) (xs : List A) → AllByRecursion P xs
    → AllByRecursion P (reverse xs)
all_reverse P [] h = tt
all_reverse P (x ∷ xs) h = subst (AllByRecursion P) (sym (reverse_onto xs x []))
    (all_append P (reverse xs) (x ∷ []) (all_reverse P xs h.1) (h.0, tt))

abbrev IsShort : ℕ → List ℕ → Type 0
IsShort n part = length part ≤ n

-- the parts of a text are no longer than it
short_parts : (separator : ℕ) (text : List ℕ)
    → AllByRecursion (IsShort (length text)) (slice_split (λ b. b == separator) text)
short_parts separator [] = (omega arith, tt)
short_parts separator (x ∷ xs) = by (x == separator) (short_parts separator xs)
  where
    longer : (ls : List (List ℕ)) → AllByRecursion (IsShort (length xs)) ls
        → AllByRecursion (IsShort (suc (length xs))) ls
    longer [] h = tt
    longer (l ∷ ls) h = let le = h.0 in (omega (arith, le), longer ls h.1)

    onto : (ls : List (List ℕ)) → AllByRecursion (IsShort (length xs)) ls
        → AllByRecursion (IsShort (suc (length xs))) (onto_first x ls)
    onto [] h = (omega arith, tt)
    onto (l ∷ ls) h = let le = h.0 in (omega (arith, le), longer ls h.1)

    by : (b : Bool) → AllByRecursion (IsShort (length xs)) (slice_split (λ b. b == separator) xs)
        → AllByRecursion (IsShort (suc (length xs))) (cond b
        ([] ∷ slice_split (λ b. b == separator) xs)
        (onto_first x (slice_split (λ b. b == separator) xs)))
    by true h = (omega arith, longer _ h)
    by false h = onto _ h

short_lines : (P : List ℕ → Type 0) (lines : List (List ℕ)) → AllByRecursion P lines
    → AllByRecursion P (without_last_empty lines)
short_lines P [] h = tt
short_lines P ([] ∷ []) h = tt
short_lines P ([] ∷ line ∷ lines) h = (h.0, short_lines P (line ∷ lines) h.1)
short_lines P ((b ∷ bs) ∷ lines) h = (h.0, short_lines P lines h.1)

-- ---- one line

-- the bytes of a step are bytes, and not too many
abbrev StepFits : ScriptStep → Type 0
StepFits (Brings conn bytes) = IsBytes bytes × (length bytes ≤ 2 ^ 40)
StepFits _ = Unit {0}

abbrev LineFits : Line → Type 0
LineFits (Stepping step) = StepFits step
LineFits _ = Unit {0}

of_map : {A : Type 0} (f : A → Line) (o : Option A) (line : Line)
    → ((a : A) → o ≡ Some a → LineFits (f a)) → option_map f o ≡ Some line → LineFits line
of_map f None line fits is = absurd cc
of_map f (Some a) line fits is = subst LineFits (inside is) (fits a refl)
  where
    inside : {x y : Line} → Some x ≡ Some y → x ≡ y
    inside q = cc

of_if : (b : Bool) (x y : Option Line) (line : Line) → (x ≡ Some line → LineFits line)
    → (y ≡ Some line → LineFits line) → cond b x y ≡ Some line → LineFits line
of_if true x y line first second is = first is
of_if false x y line first second is = second is

nothing : (line : Line) → None ≡ Some line → LineFits line
nothing line is = absurd cc

just : (known line : Line) → LineFits known → Some known ≡ Some line → LineFits line
just known line fits is = subst LineFits (inside is) fits
  where
    inside : {x y : Line} → Some x ≡ Some y → x ≡ y
    inside q = cc

hex_fits : (digits bytes : List ℕ) → length digits ≤ 2 ^ 40 → hex_bytes digits ≡ Some bytes
    → IsBytes bytes × (length bytes ≤ 2 ^ 40)
hex_fits digits bytes short is = by (decode_of digits) refl is
  where
    by : (r : Result (List ℕ) _) → decode_of digits ≡ r → value_of r ≡ Some bytes
        → IsBytes bytes × (length bytes ≤ 2 ^ 40)
    by (Ok found) at q =
        let same : found ≡ bytes = cc in
        let ok = decode_of-ok digits bytes (at ∙ ap Ok same) in
        let twice = ok.2 in
        (ok.3, omega (arith, twice, short))
    by (Err e) at q = absurd cc

data_fits : (conn digits : List ℕ) (line : Line) → length digits ≤ 2 ^ 40
    → data_line conn digits ≡ Some line → LineFits line
data_fits conn digits line short is = by (number conn) is
  where
    by : (o : Option ℕ)
        → option_and_then (λ c. option_map (λ bs. Stepping (Brings c bs)) (hex_bytes digits)) o
        ≡ Some line → LineFits line
    by None q = absurd cc
    by (Some c) q = of_map (λ bs. Stepping (Brings c bs)) (hex_bytes digits) line
        (λ bytes at. hex_fits digits bytes short at) q

words_fit : (ws : List (List ℕ)) (line : Line) → AllByRecursion (IsShort (2 ^ 40)) ws
    → line_of_words ws ≡ Some line → LineFits line
words_fit [] line short is = nothing line is
words_fit (word ∷ []) line short is =
    of_if (bytes_eq word (codes "quiet")) (Some Quiet) None line (just Quiet line tt) (nothing line)
    is
words_fit (word ∷ value ∷ []) line short is =
    of_if (bytes_eq word (codes "at")) _ _ line (of_map At (number value) line (λ a q. tt))
    (of_if (bytes_eq word (codes "open")) _ _ line
    (of_map (λ c. Stepping (Opens c)) (number value) line (λ a q. tt))
    (of_if (bytes_eq word (codes "shut")) _ _ line
    (of_map (λ c. Stepping (Shuts c)) (number value) line (λ a q. tt))
    (of_if (bytes_eq word (codes "fail")) _ _ line
    (of_if (bytes_eq value (codes "listener")) _ _ line (just (Stepping ListenerFails) line tt)
    (of_map (λ c. Stepping (Fails c)) (number value) line (λ a q. tt)))
    (nothing line)))) is
words_fit (word ∷ conn ∷ bytes ∷ []) line short is =
    of_if (bytes_eq word (codes "data")) _ _ line (data_fits conn bytes line short.1.1.0)
    (nothing line) is
words_fit (_ ∷ _ ∷ _ ∷ _ ∷ _) line short is = nothing line is

line_fits : (raw : List ℕ) (line : Line) → length raw ≤ 2 ^ 40 → line_of raw ≡ Some line
    → LineFits line
line_fits raw line short is = words_fit (words raw) line (more _ (short_parts 32 raw)) is
  where
    more : (ls : List (List ℕ)) → AllByRecursion (IsShort (length raw)) ls
        → AllByRecursion (IsShort (2 ^ 40)) ls
    more [] h = tt
    more (l ∷ ls) h = let le = h.0 in (omega (arith, le, short), more ls h.1)

-- ---- all lines

abbrev IsEarly : ScriptGroup → Type 0
IsEarly g = g.moment ≤ last_moment

with_step_early : (step : ScriptStep) (groups : List ScriptGroup) → AllByRecursion IsEarly groups
    → AllByRecursion IsEarly (with_step step groups)
with_step_early step [] h = tt
with_step_early step (g ∷ []) h = (h.0, tt)
with_step_early step (g ∷ more ∷ groups) h = (h.0, with_step_early step (more ∷ groups) h.1)

record LinesFit (past : List Line) : Type 0 where
  now : moment_of past ≤ last_moment
  moments : AllByRecursion IsEarly (groups_of past)
  steps : AllByRecursion StepFits (steps_in past)
  few : length (steps_in past) ≤ most_steps

lines_fit : (raws : List (List ℕ)) (past : List Line) → AllByRecursion (IsShort (2 ^ 40)) raws
    → Spells raws past → LinesFit past
lines_fit [] [] short spells =
    record { now = omega arith; moments = tt; steps = tt; few = omega arith }
lines_fit [] (line ∷ past) short spells = absurd spells
lines_fit (raw ∷ raws) [] short spells = absurd spells
lines_fit (raw ∷ raws) (line ∷ past) short spells =
    by line (line_fits raw line short.0 spells.0) spells.1 (lines_fit raws past short.1 spells.2)
  where
    by : (line : Line) → LineFits line → may_stand past line ≡ true → LinesFit past
        → LinesFit (line ∷ past)
    by (At moment) fits may h =
        let le = leb-true moment last_moment (and_parts _ _ may).1 in
        record { now = le; moments = h.moments; steps = h.steps; few = h.few }
    by Quiet fits may h = record {
      now = h.now;
      moments = all_append IsEarly (groups_of past) _ h.moments (h.now, tt);
      steps = h.steps;
      few = h.few;
    }
    by (Stepping step) fits may h = record {
      now = h.now;
      moments = joins (is_step past);
      steps = (fits, h.steps);
      few = ltb-true (length (steps_in past)) most_steps (and_parts _ _ may).0;
    }
      where
        joins : (b : Bool) → AllByRecursion IsEarly (cond b (with_step step (groups_of past))
            (groups_of past ++ record { moment = moment_of past; steps = step ∷ [] } ∷ []))
        joins true = with_step_early step (groups_of past) h.moments
        joins false = all_append IsEarly (groups_of past) _ h.moments (h.now, tt)

-- ---- the steps

bytes_append : (xs ys : List ℕ) → IsBytes xs → IsBytes ys → IsBytes (xs ++ ys)
bytes_append [] ys h k i = k i
bytes_append (x ∷ xs) ys h k zero = h zero
bytes_append (x ∷ xs) ys h k (suc i) = bytes_append xs ys (λ j. h (suc j)) k i

no_bytes : IsBytes []
no_bytes i = omega arith

brought : (c : ℕ) (step : ScriptStep) → StepFits step
    → IsBytes (bytes_brought c step) × (length (bytes_brought c step) ≤ 2 ^ 40)
brought c (Brings conn bytes) fits = by (conn == c)
  where
    by : (b : Bool) → IsBytes (cond b bytes []) × (length (cond b bytes []) ≤ 2 ^ 40)
    by true = fits
    by false = (no_bytes, omega arith)
brought c (Opens conn) fits = (no_bytes, omega arith)
brought c (Shuts conn) fits = (no_bytes, omega arith)
brought c (Fails conn) fits = (no_bytes, omega arith)
brought c ListenerFails fits = (no_bytes, omega arith)

all_brought : (c : ℕ) (steps : List ScriptStep) → AllByRecursion StepFits steps
    → IsBytes (bytes_of c steps) × (length (bytes_of c steps) ≤ length steps * 2 ^ 40)
all_brought c [] fits = (no_bytes, omega arith)
all_brought c (step ∷ steps) fits =
    let here = brought c step fits.0 in
    let rest = all_brought c steps fits.1 in
    let both = length-append (bytes_brought c step) (bytes_of c steps) in
    let few = here.1 in
    let more = rest.1 in (
      bytes_append (bytes_brought c step) (bytes_of c steps) here.0 rest.0,
      omega (arith, both, few, more),
    )

few_opened : (steps : List ScriptStep) → opened steps ≤ length steps
few_opened [] = omega arith
few_opened (Opens conn ∷ steps) = let le = few_opened steps in omega (arith, le)
few_opened (Brings conn bytes ∷ steps) = let le = few_opened steps in omega (arith, le)
few_opened (Shuts conn ∷ steps) = let le = few_opened steps in omega (arith, le)
few_opened (Fails conn ∷ steps) = let le = few_opened steps in omega (arith, le)
few_opened (ListenerFails ∷ steps) = let le = few_opened steps in omega (arith, le)

pub text_within : (text : List ℕ) (groups : List ScriptGroup) → IsScriptText text groups
    → length text ≤ 2 ^ 40 → ScriptIsWithin groups
text_within text groups is short =
    subst ScriptIsWithin (sym is.are) (record {
      moments = fit.moments;
      connections = let le = few_opened (steps_of (groups_of is.past)) in let few = few_steps in
          omega (arith, le, few);
      bytes = λ c. (all_brought c (steps_of (groups_of is.past)) fits).0;
      lengths = λ c. of_length c;
    })
  where
    fit : LinesFit is.past
    fit = lines_fit (reverse (raw_lines text)) is.past
        (all_reverse (IsShort (2 ^ 40)) (raw_lines text)
        (short_lines (IsShort (2 ^ 40)) _ (more _ (short_parts 10 text)))) is.spells
      where
        more : (ls : List (List ℕ)) → AllByRecursion (IsShort (length text)) ls
            → AllByRecursion (IsShort (2 ^ 40)) ls
        more [] h = tt
        more (l ∷ ls) h = let le = h.0 in (omega (arith, le, short), more ls h.1)

    fits : AllByRecursion StepFits (steps_of (groups_of is.past))
    fits = subst (AllByRecursion StepFits) (sym (steps_are is.past))
        (all_reverse StepFits (steps_in is.past) fit.steps)

    few_steps : length (steps_of (groups_of is.past)) ≤ 1000000
    few_steps =
        let same : length (steps_of (groups_of is.past)) ≡ length (steps_in is.past) =
        ap length (steps_are is.past) ∙ length-reverse (steps_in is.past) in
        let few = fit.few in omega (arith, same, few)

    of_length : (c : ℕ) → length (bytes_of c (steps_of (groups_of is.past))) < 2 ^ 64
    of_length c = let le = (all_brought c (steps_of (groups_of is.past)) fits).1 in
        let few = few_steps in omega (arith, le, few)
