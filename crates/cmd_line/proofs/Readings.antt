-- That a parse of the words of a line and the reading of its options agree.
use Rattle.std.proofs.Common.{◌≡◌, ◌∙◌, Bool, true, false, not, ◌&&◌, cond, List, [], ◌∷◌, fold}
use Rattle.std.proofs.Common.{Option, Some, None, is_some, refl, sym, subst, ap, ap₂, codes}
use Rattle.std.specs.Option.{option_map_or}
use Rattle.std.specs.Str.{bytes_eq}
use Rattle.std.proofs.lemmas.Slice.Eq.{bytes_eq-Decides}
use Rattle.clap.specs.Lexer.{long_of, short_of}
use Rattle.clap.specs.Words.{Kinds, Row, Rule, Text}
use Rattle.clap.specs.Kinds.{or_else}
use Rattle.clap.specs.Walk.{Walk, after_step, arg_by_id, idle, option, option_word, plain_word}
use Rattle.clap.specs.Walk.{short_or_plain, used, used_by_id, walked}
use Rattle.clap.specs.Faults.{bundle_fault, step_fault, turn_fault, use_fault, walk_fault}
use Rattle.cmd_line.specs.Given.{Entry, Line, given_behind, has_name, is_given, may_be_text}
use Rattle.cmd_line.specs.Given.{option_read, with_entry}
use Rattle.cmd_line.proofs.Hyphens.{long_of-option, text-by_hyphens}
use Rattle.cmd_line.proofs.Rules.{by_id, flag_rule, rules_of, shape_of, valued_rule}
use Rattle.cmd_line.proofs.Steps.{Refused, Shows, first_refused, has_row-given, or_else_assoc}
use Rattle.cmd_line.proofs.Steps.{then_refused, valued_again, valued_shows, valued_taken}
use Rattle.cmd_line.proofs.Turns.{IsIdle, IsText, Turned, bundle_refused, held, idle_at, idle_long}
use Rattle.cmd_line.proofs.Turns.{long_refused, plain_refused, rows_in, settles, turn_of, waits_at}
use Rattle.cmd_line.proofs.Turns.{walk_of}
use Rattle.cmd_line.proofs.Turns.Turned.{refused, stays, waits}

-- a word that may stand in a line
pub record IsWord (word : Text) : Type 0 where
  pub other : bytes_eq word (codes "--") ≡ false
  pub text : IsText word

abbrev pub AreWords : List Text → Type 0
AreWords [] = Unit {0}
AreWords (word ∷ rest) = IsWord word × AreWords rest

-- ---- an option that waits, or has its text

valued_found : (line : Line) (name : Text) → has_name name line.valued ≡ true
    → arg_by_id (rules_of line) name ≡ Some (valued_rule name)
valued_found line name has = by_id line name
    ∙ ap (λ b. cond b (Some (valued_rule name))
    (cond (has_name name line.flags) (Some (flag_rule name)) None)) has

waits_refused : (line : Line) (name : Text) (rows : List Row) → has_name name line.valued ≡ true
    → Refused (settles line (held rows (Some (name, []))))
waits_refused line name rows has =
    subst (λ (found : Option Rule). Refused
    (option_map_or (λ a. use_fault false a [] rows) found []))
    (sym (valued_found line name has)) tt

has_text : (line : Line) (name text : Text) (rows : List Row) → has_name name line.valued ≡ true
    → settles line (held rows (Some (name, text ∷ [])))
    ≡ use_fault false (valued_rule name) (text ∷ []) rows
has_text line name text rows has =
    ap (λ (found : Option Rule). option_map_or (λ a. use_fault false a (text ∷ []) rows) found [])
    (valued_found line name has)

rows_with : (line : Line) (name text : Text) (rows : List Row) → has_name name line.valued ≡ true
    → rows_in line (held rows (Some (name, text ∷ []))) ≡ used (valued_rule name) (text ∷ []) rows
rows_with line name text rows has =
    ap (λ (found : Option Rule). used_by_id found (text ∷ []) rows) (valued_found line name has)

idle_with : (line : Line) (name text : Text) (rows : List Row) (before : List Entry)
    → has_name name line.valued ≡ true → Shows rows before → is_given name before ≡ false
    → IsIdle line rows (Some (name, text ∷ [])) (with_entry name text before)
idle_with line name text rows before has shows fresh =
    let none = has_row-given rows before name shows ∙ fresh in
    record {
      settles = has_text line name text rows has ∙ valued_taken name text rows none;
      shows = subst (λ (rs : List Row). Shows rs (with_entry name text before))
          (sym (rows_with line name text rows has)) (valued_shows name text rows before none shows);
    }

again_refused : (line : Line) (name text : Text) (rows : List Row) (before : List Entry)
    → has_name name line.valued ≡ true → Shows rows before → is_given name before ≡ true
    → Refused (settles line (held rows (Some (name, text ∷ []))))
again_refused line name text rows before has shows given =
    subst Refused (sym (has_text line name text rows has))
    (valued_again name text rows (has_row-given rows before name shows ∙ given))

-- ---- the walk over all the words

abbrev pub faults : Text → Line → Walk → List Text → Kinds
faults top line w words = or_else (walk_fault (shape_of top line) [] w words)
    (settles line (fold (walked (rules_of line) []) w words).held)

abbrev pub rows_left : Line → Walk → List Text → List Row
rows_left line w words = rows_in line (fold (walked (rules_of line) []) w words).held

faults_more : (top : Text) (line : Line) (w : Walk) (word : Text) (rest : List Text)
    → faults top line w (word ∷ rest) ≡ or_else (turn_fault (shape_of top line) [] w word)
    (faults top line (walked (rules_of line) [] w word) rest)
unfolding walk_fault
faults_more top line w word rest =
    or_else_assoc (turn_fault (shape_of top line) [] w word)
    (walk_fault (shape_of top line) [] (walked (rules_of line) [] w word) rest)
    (settles line (fold (walked (rules_of line) []) w (word ∷ rest)).held)

idle_fault : (top : Text) (line : Line) (rows : List Row) (pending : Option (Text × List Text))
    (word : Text) → bytes_eq word (codes "--") ≡ false
    → turn_fault (shape_of top line) [] (idle_at rows pending) word
    ≡ turn_of top line idle (long_of word) word (held rows pending)
idle_fault top line rows pending word other = rw other refl

idle_walked : (line : Line) (rows : List Row) (pending : Option (Text × List Text)) (word : Text)
    → bytes_eq word (codes "--") ≡ false
    → walked (rules_of line) [] (idle_at rows pending) word
    ≡ walk_of line idle (long_of word) word (held rows pending)
unfolding walked
idle_walked line rows pending word other = rw other refl

waits_fault : (top : Text) (line : Line) (name : Text) (rows : List Row) (word : Text)
    → bytes_eq word (codes "--") ≡ false
    → turn_fault (shape_of top line) [] (waits_at name rows) word
    ≡ turn_of top line (option name) (long_of word) word (held rows (Some (name, [])))
waits_fault top line name rows word other = rw other refl

waits_walked : (line : Line) (name : Text) (rows : List Row) (word : Text)
    → bytes_eq word (codes "--") ≡ false
    → walked (rules_of line) [] (waits_at name rows) word
    ≡ walk_of line (option name) (long_of word) word (held rows (Some (name, [])))
unfolding walked
waits_walked line name rows word other = rw other refl

-- a fault that is settled later is one of the parse
fault_stays : (top : Text) (line : Line) (words : List Text) → AreWords words
    → (rows : List Row) (pending : Option (Text × List Text))
    → Refused (settles line (held rows pending))
    → Refused (faults top line (idle_at rows pending) words)
unfolding walk_fault
fault_stays top line [] are rows pending fault = fault
fault_stays top line (word ∷ rest) are rows pending fault =
    let turned = go (long_of word) in
    subst Refused (sym (faults_more top line (idle_at rows pending) word rest))
    (first_refused _ _ (subst Refused (sym (idle_fault top line rows pending word are.0.other))
    turned))
  where
    go : (o : Option (Text × Option Text))
        → Refused (turn_of top line idle o word (held rows pending))
    go (Some p) = long_refused top line idle p.0 p.1 word (held rows pending) fault
    go None = plain_refused top line word rows pending are.0.text

-- the parse and the reading agree: both refuse the words, or both find these entries
abbrev pub Agrees : Kinds → List Row → Option (List Entry) → Type 0
Agrees kinds rows None = Refused kinds
Agrees kinds rows (Some entries) = (kinds ≡ []) × Shows rows entries

agrees_as : (kinds kinds' : Kinds) (rows rows' : List Row) (read read' : Option (List Entry))
    → kinds ≡ kinds' → rows ≡ rows' → read ≡ read'
    → Agrees kinds' rows' read' → Agrees kinds rows read
agrees_as kinds kinds' rows rows' read read' same_kinds same_rows same_read agrees =
    subst (λ (k : Kinds). Agrees k rows read) (sym same_kinds)
    (subst (λ (r : List Row). Agrees kinds' r read) (sym same_rows)
    (subst (λ (o : Option (List Entry)). Agrees kinds' rows' o) (sym same_read) agrees))

both_refuse : (kinds : Kinds) (rows : List Row) (read : Option (List Entry)) → Refused kinds
    → read ≡ None → Agrees kinds rows read
both_refuse kinds rows read fault none =
    subst (λ (o : Option (List Entry)). Agrees kinds rows o) (sym none) fault

none_either : (b : Bool) → ◌≡◌ {A = Option (List Entry)} (cond b None None) None
none_either true = refl
none_either false = refl

-- from where no option waits, and from where one does
abbrev AgreesIdle : Text → Line → List Text → Type 0
AgreesIdle top line words = (rows : List Row) (pending : Option (Text × List Text))
    (before : List Entry) → IsIdle line rows pending before
    → Agrees (faults top line (idle_at rows pending) words)
    (rows_left line (idle_at rows pending) words) (given_behind line words before None)

abbrev AgreesWaiting : Text → Line → List Text → Type 0
AgreesWaiting top line words = (name : Text) (rows : List Row) (before : List Entry)
    → has_name name line.valued ≡ true → Shows rows before
    → Agrees (faults top line (waits_at name rows) words)
    (rows_left line (waits_at name rows) words)
    (cond (is_given name before) None (given_behind line words before (Some name)))

-- after one word
agrees_behind : (top : Text) (line : Line) (rest : List Text) (fault : Kinds) (now : Walk)
    (before : List Entry) (read : Option (List Entry)) → AgreesIdle top line rest
    → AgreesWaiting top line rest
    → Turned line fault now before (given_behind line rest) read
    → Agrees (or_else fault (faults top line now rest)) (rows_left line now rest) read
agrees_behind top line rest fault now before read idly waiting (refused some none) =
    both_refuse _ _ read (first_refused fault _ some) none
agrees_behind top line rest fault now before read idly waiting
    (stays rows entries nothing is is_idle next) =
    agrees_as _ (faults top line (idle_at rows None) rest) _
    (rows_left line (idle_at rows None) rest) read _
    (ap₂ (λ (a : Kinds) (w : Walk). or_else a (faults top line w rest)) nothing is)
    (ap (λ (w : Walk). rows_left line w rest) is) next (idly rows None entries is_idle)
agrees_behind top line rest fault now before read idly waiting
    (waits name rows nothing is has shows next) =
    agrees_as _ (faults top line (waits_at name rows) rest) _
    (rows_left line (waits_at name rows) rest) read _
    (ap₂ (λ (a : Kinds) (w : Walk). or_else a (faults top line w rest)) nothing is)
    (ap (λ (w : Walk). rows_left line w rest) is) next (waiting name rows before has shows)

idle_turn : (top : Text) (line : Line) (word : Text) (rows : List Row)
    (pending : Option (Text × List Text)) (before : List Entry) (rest : List Text) → IsText word
    → IsIdle line rows pending before
    → (o : Option (Text × Option Text))
    → Turned line (turn_of top line idle o word (held rows pending))
    (walk_of line idle o word (held rows pending)) before (given_behind line rest)
    (option_read line o before (given_behind line rest))
idle_turn top line word rows pending before rest text is_idle (Some p) =
    idle_long top line p.0 p.1 word rows pending before (given_behind line rest) is_idle
idle_turn top line word rows pending before rest text is_idle None =
    refused (plain_refused top line word rows pending text) refl

more_idle : (top : Text) (line : Line) (word : Text) (rest : List Text) → IsWord word
    → AgreesIdle top line rest → AgreesWaiting top line rest → AgreesIdle top line (word ∷ rest)
unfolding given_behind
more_idle top line word rest is idly waiting rows pending before is_idle =
    let turned = idle_turn top line word rows pending before rest is.text is_idle (long_of word) in
    let t = turn_of top line idle (long_of word) word (held rows pending) in
    let now = walk_of line idle (long_of word) word (held rows pending) in
    agrees_as _ (or_else t (faults top line now rest)) _ (rows_left line now rest) _
    (option_read line (long_of word) before (given_behind line rest))
    (faults_more top line (idle_at rows pending) word rest
    ∙ ap₂ (λ (a : Kinds) (w : Walk). or_else a (faults top line w rest))
    (idle_fault top line rows pending word is.other)
    (idle_walked line rows pending word is.other))
    (ap (λ (w : Walk). rows_left line w rest) (idle_walked line rows pending word is.other))
    (ap (λ (o : Option (Text × Option Text)). option_read line o before (given_behind line rest))
    (long_of-option word is.other))
    (agrees_behind top line rest t now before _ idly waiting turned)

-- the option that waits takes the word
takes_text : (line : Line) (name word : Text) (rows : List Row) → has_name name line.valued ≡ true
    → (let met = plain_word (rules_of line) (option name) word (held rows (Some (name, []))) in
    after_step (rules_of line) word (waits_at name rows) met.0 met.1)
    ≡ idle_at rows (Some (name, word ∷ []))
takes_text line name word rows has =
    let h = held rows (Some (name, [])) in
    let self : bytes_eq name name ≡ true = (bytes_eq-Decides name name).1 refl in
    ap (λ (found : Option Rule). record (waits_at name rows) {
      held = (option_word found name word h).0;
      waiting = (option_word found name word h).1;
    })
    (valued_found line name has)
    ∙ rw self refl

-- what a word does when an option waits
waiting_turn : (top : Text) (line : Line) (name word : Text) (rows : List Row) (before : List Entry)
    (rest : List Text) → has_name name line.valued ≡ true → Shows rows before → IsWord word
    → AreWords rest
    → AgreesIdle top line rest → (o : Option (Text × Option Text)) (short : Option Text)
    → long_of word ≡ o → short_of word ≡ short
    → let h = held rows (Some (name, [])) in
    let now = walk_of line (option name) o word h in
    Agrees (or_else (turn_of top line (option name) o word h) (faults top line now rest))
    (rows_left line now rest)
    (cond (is_given name before) None (cond (may_be_text word)
    (given_behind line rest (with_entry name word before) None) None))
waiting_turn top line name word rows before rest has shows is are idly (Some p) short long_is
    short_is =
    let h = held rows (Some (name, [])) in
    let no_text : may_be_text word ≡ false =
    text-by_hyphens word is.other ∙ ap
    (λ (o : Option (Text × Option Text)). not (is_some o) && not (is_some (short_of word)))
    long_is in
    both_refuse _ _ _ (first_refused (turn_of top line (option name) (Some p) word h) _
    (long_refused top line (option name) p.0 p.1 word h (waits_refused line name rows has)))
    (ap (λ b. cond (is_given name before) None
    (cond b (given_behind line rest (with_entry name word before) None) None)) no_text
    ∙ none_either (is_given name before))
waiting_turn top line name word rows before rest has shows is are idly None (Some flags) long_is
    short_is =
    let h = held rows (Some (name, [])) in
    let letters = is.text flags short_is in
    let no_text : may_be_text word ≡ false =
    text-by_hyphens word is.other ∙ ap₂
    (λ (o : Option (Text × Option Text)) (s : Option Text). not (is_some o) && not (is_some s))
    long_is short_is in
    let fault : Refused (option_map_or (λ flags. bundle_fault (rules_of line) false flags h)
    (short_of word) []) =
    subst (λ (s : Option Text). Refused
    (option_map_or (λ flags. bundle_fault (rules_of line) false flags h) s [])) (sym short_is)
    (bundle_refused line flags rows (Some (name, [])) letters.0 letters.1) in
    both_refuse _ _ _ (first_refused (turn_of top line (option name) None word h) _
    (first_refused _ _ fault))
    (ap (λ b. cond (is_given name before) None
    (cond b (given_behind line rest (with_entry name word before) None) None)) no_text
    ∙ none_either (is_given name before))
waiting_turn top line name word rows before rest has shows is are idly None None long_is short_is =
    go (is_given name before) refl
  where
    text : may_be_text word ≡ true
    text = text-by_hyphens word is.other
        ∙ ap₂ (λ (o : Option (Text × Option Text)) (s : Option Text). not (is_some o)
        && not (is_some s)) long_is short_is

    nothing : turn_of top line (option name) None word (held rows (Some (name, []))) ≡ []
    nothing = ap (λ (s : Option Text). let met =
        short_or_plain (rules_of line) (option name) word s (held rows (Some (name, []))) in
        or_else (option_map_or (λ flags. bundle_fault (rules_of line) false flags
        (held rows (Some (name, [])))) s []) (step_fault (shape_of top line) 1 met.0 met.1))
        short_is

    now_is : walk_of line (option name) None word (held rows (Some (name, [])))
        ≡ idle_at rows (Some (name, word ∷ []))
    now_is = ap (λ (s : Option Text). let met =
        short_or_plain (rules_of line) (option name) word s (held rows (Some (name, []))) in
        after_step (rules_of line) word (waits_at name rows) met.0 met.1) short_is
        ∙ takes_text line name word rows has

    go : (given : Bool) → is_given name before ≡ given
        → let now = walk_of line (option name) None word (held rows (Some (name, []))) in
        Agrees (or_else (turn_of top line (option name) None word (held rows (Some (name, []))))
        (faults top line now rest)) (rows_left line now rest)
        (cond given None (cond (may_be_text word)
        (given_behind line rest (with_entry name word before) None) None))
    go true given =
        then_refused _ _ (subst (λ (w : Walk). Refused (faults top line w rest)) (sym now_is)
        (fault_stays top line rest are rows (Some (name, word ∷ []))
        (again_refused line name word rows before has shows given)))
    go false given =
        agrees_as _ (faults top line (idle_at rows (Some (name, word ∷ []))) rest) _
        (rows_left line (idle_at rows (Some (name, word ∷ []))) rest) _
        (given_behind line rest (with_entry name word before) None)
        (ap₂ (λ (a : Kinds) (w : Walk). or_else a (faults top line w rest)) nothing now_is)
        (ap (λ (w : Walk). rows_left line w rest) now_is)
        (ap (λ b. cond b (given_behind line rest (with_entry name word before) None) None) text)
        (idly rows (Some (name, word ∷ [])) (with_entry name word before)
        (idle_with line name word rows before has shows given))

more_waiting : (top : Text) (line : Line) (word : Text) (rest : List Text) → IsWord word
    → AreWords rest → AgreesIdle top line rest → AgreesWaiting top line (word ∷ rest)
unfolding given_behind
more_waiting top line word rest is are idly name rows before has shows =
    let h = held rows (Some (name, [])) in
    let now = walk_of line (option name) (long_of word) word h in
    agrees_as _ (or_else (turn_of top line (option name) (long_of word) word h)
    (faults top line now rest)) _ (rows_left line now rest) _ _
    (faults_more top line (waits_at name rows) word rest
    ∙ ap₂ (λ (a : Kinds) (w : Walk). or_else a (faults top line w rest))
    (waits_fault top line name rows word is.other) (waits_walked line name rows word is.other))
    (ap (λ (w : Walk). rows_left line w rest) (waits_walked line name rows word is.other)) refl
    (waiting_turn top line name word rows before rest has shows is are idly (long_of word)
    (short_of word) refl refl)

pub agrees : (top : Text) (line : Line) (words : List Text) → AreWords words
    → AgreesIdle top line words × AgreesWaiting top line words
unfolding walk_fault given_behind
agrees top line [] are = (
  λ rows pending before is_idle. (is_idle.settles, is_idle.shows),
  λ name rows before has shows. both_refuse _ _ _ (waits_refused line name rows has)
      (none_either (is_given name before)),
)
agrees top line (word ∷ rest) are =
    let behind = agrees top line rest are.1 in (
      more_idle top line word rest are.0 behind.0 behind.1,
      more_waiting top line word rest are.0 are.1 behind.0,
    )
