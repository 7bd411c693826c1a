-- The text of a script, line by line (this project's own). Numbers are decimal digits, bytes are
-- pairs of hexadecimal digits.
use Rattle.std.specs.Prelude.{◌≡◌, ℕ, ◌+◌, ◌-◌, ◌*◌, ◌==◌, nat_lt, nat_le, Bool, true, false, ◌&&◌}
use Rattle.std.specs.Prelude.{if◌then◌else◌, List, [], ◌∷◌, ◌++◌, length, reverse, Option, Some}
use Rattle.std.specs.Prelude.{None, option_map, option_and_then, codes, Result, Ok, Err}
use Rattle.std.specs.Str.{bytes_eq}
use Rattle.text_parts.specs.Parts.{parts}
use Rattle.hex.specs.Hex.{decode_of}
use Rattle.event_script.specs.Script.{ScriptStep, Opens, Brings, Shuts, Fails, ListenerFails}
use Rattle.event_script.specs.Script.{ScriptGroup, most_steps, may_follow as step_may_follow}

-- ---- lines and words

-- the lines of a text, whose last line feed may be missing: an empty part after the last line feed
-- is no line
abbrev pub without_last_empty : List (List ℕ) → List (List ℕ)
without_last_empty [] = []
without_last_empty ([] ∷ []) = []
without_last_empty (line ∷ lines) = line ∷ without_last_empty lines

abbrev pub raw_lines : List ℕ → List (List ℕ)
raw_lines text = without_last_empty (parts 10 text)

-- the words of a line are parted by one space
abbrev pub words : List ℕ → List (List ℕ)
words line = parts 32 line

-- ---- numbers and bytes

-- the value of a decimal digit
abbrev pub digit : ℕ → Option ℕ
digit byte = if nat_le 48 byte && nat_le byte 57 then Some (byte - 48) else None

-- the number whose digits so far make n and go on with these
abbrev pub digits_from : ℕ → List ℕ → Option ℕ
digits_from n [] = Some n
digits_from n (byte ∷ bytes) = option_and_then (λ d. digits_from (n * 10 + d) bytes) (digit byte)

-- decimal digits without a leading zero, `0` alone excepted
abbrev pub number : List ℕ → Option ℕ
number [] = None
number (byte ∷ bytes) = if byte == 48
    && nat_lt 0 (length bytes) then None else digits_from 0 (byte ∷ bytes)

-- the value of an answer that is no refusal
abbrev pub value_of : {T E : Type 0} → Result T E → Option T
value_of (Ok value) = Some value
value_of (Err refused) = None

-- the bytes of hexadecimal digits of either case, even in number
abbrev pub hex_bytes : List ℕ → Option (List ℕ)
hex_bytes digits = value_of (decode_of digits)

-- ---- lines

-- what a line says: the moment of what follows, a moment at which nothing happens, or a step
pub data Line : Type 0 where
  At : (moment : ℕ) → Line
  Quiet : Line
  Stepping : (step : ScriptStep) → Line

-- the lines of one, two and three words
abbrev pub quiet_line : List ℕ → Option Line
quiet_line word = if bytes_eq word (codes "quiet") then Some Quiet else None

abbrev pub fail_line : List ℕ → Option Line
fail_line word = if bytes_eq word (codes "listener") then Some (Stepping ListenerFails)
    else option_map (λ c. Stepping (Fails c)) (number word)

abbrev pub two_words : List ℕ → List ℕ → Option Line
two_words word value =
    if bytes_eq word (codes "at") then option_map At (number value)
    else if bytes_eq word (codes "open") then option_map (λ c. Stepping (Opens c)) (number value)
    else if bytes_eq word (codes "shut") then option_map (λ c. Stepping (Shuts c)) (number value)
    else if bytes_eq word (codes "fail") then fail_line value
    else None

abbrev pub data_line : List ℕ → List ℕ → Option Line
data_line conn bytes = option_and_then
    (λ c. option_map (λ bs. Stepping (Brings c bs)) (hex_bytes bytes)) (number conn)

abbrev pub three_words : List ℕ → List ℕ → List ℕ → Option Line
three_words word conn bytes = if bytes_eq word (codes "data") then data_line conn bytes else None

-- the line that some words spell, if they spell one
abbrev pub line_of_words : List (List ℕ) → Option Line
line_of_words (word ∷ []) = quiet_line word
line_of_words (word ∷ value ∷ []) = two_words word value
line_of_words (word ∷ conn ∷ bytes ∷ []) = three_words word conn bytes
line_of_words _ = None

abbrev pub line_of : List ℕ → Option Line
line_of line = line_of_words (words line)

-- ---- conditions, by the lines before, the latest first

-- the moment so far, at first 0
abbrev pub moment_of : List Line → ℕ
moment_of [] = 0
moment_of (At moment ∷ past) = moment
moment_of (_ ∷ past) = moment_of past

-- the steps among the lines, the latest first too
abbrev pub steps_in : List Line → List ScriptStep
steps_in [] = []
steps_in (Stepping step ∷ past) = step ∷ steps_in past
steps_in (_ ∷ past) = steps_in past

-- the latest moment that a script may name
abbrev pub last_moment : ℕ
last_moment = 4294967295

-- The moment does not go back. There are not too many steps, and each may follow those before it.
abbrev pub may_stand : List Line → Line → Bool
may_stand past (At moment) = nat_le (moment_of past) moment && nat_le moment last_moment
may_stand past Quiet = true
may_stand past (Stepping step) = nat_lt (length (steps_in past)) most_steps
    && step_may_follow (steps_in past) step

-- ---- the whole text

-- These lines of a text, the latest first, spell these lines, each of which may stand after those
-- before it.
abbrev pub Spells : List (List ℕ) → List Line → Type 0
Spells [] [] = Unit {0}
Spells [] (line ∷ past) = ⊥
Spells (raw ∷ raws) [] = ⊥
Spells (raw ∷ raws) (line ∷ past) =
    (line_of raw ≡ Some line) × (may_stand past line ≡ true) × Spells raws past

-- a line that spells none, or one that may not stand there
abbrev pub IsBadBehind : List Line → Option Line → Type 0
IsBadBehind past None = Unit {0}
IsBadBehind past (Some line) = may_stand past line ≡ false

-- the first bad line has this number, from 1
pub record IsBadAt (text : List ℕ) (number : ℕ) : Type 0 where
  pub good : List (List ℕ)
  pub bad : List ℕ
  pub rest : List (List ℕ)
  pub is : raw_lines text ≡ good ++ bad ∷ rest
  pub past : List Line
  pub spells : Spells (reverse good) past
  pub is_bad : IsBadBehind past (line_of bad)
  pub counts : number ≡ length good + 1

-- The groups: each longest run of steps without an `at` or a `quiet` between them, at its moment,
-- and each `quiet`. whether the latest line is a step, so that a further step joins the last group
abbrev pub is_step : List Line → Bool
is_step (Stepping step ∷ past) = true
is_step _ = false

-- the last group, with one step more
abbrev pub with_step : ScriptStep → List ScriptGroup → List ScriptGroup
with_step step [] = []
with_step step (group ∷ []) = record group { steps = group.steps ++ step ∷ [] } ∷ []
with_step step (group ∷ more ∷ groups) = group ∷ with_step step (more ∷ groups)

abbrev pub groups_of : List Line → List ScriptGroup
groups_of [] = []
groups_of (At moment ∷ past) = groups_of past
groups_of (Quiet ∷ past) = groups_of past ++ record { moment = moment_of past; steps = [] } ∷ []
groups_of (Stepping step ∷ past) =
    if is_step past then with_step step (groups_of past) else groups_of past
    ++ record { moment = moment_of past; steps = step ∷ [] } ∷ []

-- the text is that of a script with these groups
pub record IsScriptText (text : List ℕ) (groups : List ScriptGroup) : Type 0 where
  pub past : List Line
  pub spells : Spells (reverse (raw_lines text)) past
  pub are : groups ≡ groups_of past
