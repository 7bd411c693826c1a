-- The lines of the generated script stand block by block: the connections come, each round, and the
-- connections are shut.
use Rattle.std.proofs.Common.{◌≡◌, ◌∙◌, ℕ, zero, suc, ◌+◌, ◌*◌, ◌<◌, ◌≤◌, ◌==◌, nat_lt, true, false}
use Rattle.std.proofs.Common.{not, ◌&&◌, List, [], ◌∷◌, ◌++◌, length, take, drop, refl, sym, ap}
use Rattle.std.proofs.Common.{subst, append_assoc, append-nil, arith}
use Rattle.std.specs.Prelude.{map, flat_map}
use Rattle.std.specs.List.{range_with_len}
use Rattle.std.proofs.Math.Nat.{suc-mul}
use Rattle.std.proofs.lemmas.Bool.Decides.{nat_tests}
use Rattle.std.proofs.lemmas.List.{map-append, length-append, length-drop, length-take-le}
use Rattle.std.proofs.lemmas.List.FromFn.{length-map-range_with_len}
use Rattle.event_script.specs.Script.{ScriptStep, Opens, Brings, Shuts, ScriptGroup, opened}
use Rattle.event_script.specs.Script.{is_done, may_follow, most_connections}
use Rattle.event_script.specs.Grammar.{Line, At, Stepping, steps_in}
use Rattle.script_generator.specs.Records.{bytes_of}
use Rattle.script_generator.specs.Scripts.{front_piece, rest_piece, pieces, round_lines}
use Rattle.script_generator.specs.Scripts.{round_group}
use Rattle.script_generator.proofs.Spelling.{record_least}
use Rattle.script_generator.proofs.Words.{AreBytes}
use Rattle.script_generator.proofs.Bytes.{front_bytes, rest_bytes}
use Rattle.script_generator.proofs.Written.{at_written, open_written, shut_written, data_written}
use Rattle.script_generator.proofs.Standing.{onto, onto_both, last_group, some, Stands}
use Rattle.script_generator.proofs.Standing.{same_standing, step_stands, at_stands}

-- the steps of a block, with one in front
front_step : (last : List ScriptStep) (step : ScriptStep) (steps : List ScriptStep)
    → (last ++ step ∷ []) ++ steps ≡ last ++ step ∷ steps
front_step last step steps = append_assoc last (step ∷ []) steps

-- ---- connections come

one_comes : (past : List Line) (moment count conn : ℕ) (groups : List ScriptGroup)
    (last : List ScriptStep) → Stands past moment count conn 0 groups last → count < 1000000
    → conn < 1000
    → Stands (Stepping (Opens conn) ∷ past) moment (count + 1) (conn + 1) 0 groups
    (last ++ Opens conn ∷ [])
one_comes past moment count conn groups last s few within =
    let next : (conn == opened (steps_in past)) ≡ true =
    ap (λ (n : ℕ). conn == n) s.came_are ∙ grind (arith, nat_tests) in
    let room : nat_lt conn most_connections ≡ true = grind (arith, nat_tests) in
    let may : (conn == opened (steps_in past)) && nat_lt conn most_connections ≡ true =
    rw (next, room) refl in
    step_stands past moment count conn 0 (conn + 1) 0 groups last (Opens conn) s few
    (open_written conn (omega arith)).reads may (ap (λ (n : ℕ). n + 1) s.came_are) s.live

pub all_come : (j conn count moment : ℕ) (past : List Line) (groups : List ScriptGroup)
    (last : List ScriptStep) → Stands past moment count conn 0 groups last → count + j ≤ 1000000
    → conn + j ≤ 1000
    → Stands (onto (map Stepping (map Opens (range_with_len conn j))) past) moment (count + j)
    (conn + j) 0 groups (last ++ map Opens (range_with_len conn j))
all_come zero conn count moment past groups last s few within =
    same_standing past moment count (count + 0) conn (conn + 0) 0 0 groups groups last (last ++ [])
    (omega arith) (omega arith) refl refl (sym (append-nil last)) s
all_come (suc j) conn count moment past groups last s few within =
    let one = one_comes past moment count conn groups last s (omega arith) (omega arith) in
    let rest = all_come j (conn + 1) (count + 1) moment (Stepping (Opens conn) ∷ past) groups
    (last ++ Opens conn ∷ []) one (omega arith) (omega arith) in
    same_standing _ moment (count + 1 + j) (count + suc j) (conn + 1 + j) (conn + suc j) 0 0 groups
    groups _ _ (omega arith) (omega arith) refl refl
    (front_step last (Opens conn) (map Opens (range_with_len (conn + 1) j))) rest

-- ---- connections bring bytes

one_brings : (past : List Line) (moment count n conn : ℕ) (bytes : List ℕ)
    (groups : List ScriptGroup) (last : List ScriptStep) → Stands past moment count n 0 groups last
    → count < 1000000 → n ≤ 1000
    → conn < n → AreBytes bytes → 0 < length bytes
    → Stands (Stepping (Brings conn bytes) ∷ past) moment (count + 1) n 0 groups
    (last ++ Brings conn bytes ∷ [])
one_brings past moment count n conn bytes groups last s few many within are filled =
    let came : nat_lt conn (opened (steps_in past)) ≡ true =
    ap (nat_lt conn) s.came_are ∙ grind (arith, nat_tests) in
    let live : not (is_done conn (steps_in past)) ≡ true = ap not (s.live conn (omega arith)) in
    let byte : nat_lt 0 (length bytes) ≡ true = grind (arith, nat_tests) in
    let may : may_follow (steps_in past) (Brings conn bytes) ≡ true = rw (came, live, byte) refl in
    step_stands past moment count n 0 n 0 groups last (Brings conn bytes) s few
    (data_written conn bytes (omega arith) are).reads may s.came_are s.live

-- what each connection brings: bytes, and at least one
pub record ArePieces (piece : ℕ → List ℕ) : Type 0 where
  pub bytes : (c : ℕ) → AreBytes (piece c)
  pub filled : (c : ℕ) → 0 < length (piece c)

pub all_bring : (piece : ℕ → List ℕ) → ArePieces piece
    → (j conn count moment n : ℕ) (past : List Line) (groups : List ScriptGroup)
    (last : List ScriptStep) → Stands past moment count n 0 groups last
    → count + j ≤ 1000000 → n ≤ 1000 → conn + j ≤ n
    → Stands (onto (map Stepping (map (λ c. Brings c (piece c)) (range_with_len conn j))) past)
    moment (count + j) n 0 groups (last
    ++ map (λ c. Brings c (piece c)) (range_with_len conn j))
all_bring piece are zero conn count moment n past groups last s few many within =
    same_standing past moment count (count + 0) n n 0 0 groups groups last (last ++ [])
    (omega arith) refl refl refl (sym (append-nil last)) s
all_bring piece are (suc j) conn count moment n past groups last s few many within =
    let one = one_brings past moment count n conn (piece conn) groups last s (omega arith) many
    (omega arith) (are.bytes conn) (are.filled conn) in
    let rest = all_bring piece are j (conn + 1) (count + 1) moment n
    (Stepping (Brings conn (piece conn)) ∷ past) groups (last ++ Brings conn (piece conn) ∷ [])
    one (omega arith) many (omega arith) in
    same_standing _ moment (count + 1 + j) (count + suc j) n n 0 0 groups groups _ _ (omega arith)
    refl refl refl
    (front_step last (Brings conn (piece conn))
    (map (λ c. Brings c (piece c)) (range_with_len (conn + 1) j))) rest

-- ---- connections are shut

one_is_shut : (past : List Line) (moment count n conn : ℕ) (groups : List ScriptGroup)
    (last : List ScriptStep) → Stands past moment count n conn groups last → count < 1000000
    → n ≤ 1000 → conn < n
    → Stands (Stepping (Shuts conn) ∷ past) moment (count + 1) n (conn + 1) groups
    (last ++ Shuts conn ∷ [])
one_is_shut past moment count n conn groups last s few many within =
    let came : nat_lt conn (opened (steps_in past)) ≡ true =
    ap (nat_lt conn) s.came_are ∙ grind (arith, nat_tests) in
    let live : not (is_done conn (steps_in past)) ≡ true = ap not (s.live conn (omega arith)) in
    let may : may_follow (steps_in past) (Shuts conn) ≡ true = rw (came, live) refl in
    let others : (c : ℕ) → conn + 1 ≤ c → is_done c (Shuts conn ∷ steps_in past) ≡ false = λ c le.
    let other : (conn == c) ≡ false = grind (arith, nat_tests) in
    let rest : is_done c (steps_in past) ≡ false = s.live c (omega arith) in
    rw (other, rest) refl in
    step_stands past moment count n conn n (conn + 1) groups last (Shuts conn) s few
    (shut_written conn (omega arith)).reads may s.came_are others

pub all_are_shut : (j conn count moment n : ℕ) (past : List Line) (groups : List ScriptGroup)
    (last : List ScriptStep) → Stands past moment count n conn groups last → count + j ≤ 1000000
    → n ≤ 1000 → conn + j ≤ n
    → Stands (onto (map Stepping (map Shuts (range_with_len conn j))) past) moment (count + j) n
    (conn + j) groups (last ++ map Shuts (range_with_len conn j))
all_are_shut zero conn count moment n past groups last s few many within =
    same_standing past moment count (count + 0) n n conn (conn + 0) groups groups last (last ++ [])
    (omega arith) refl (omega arith) refl (sym (append-nil last)) s
all_are_shut (suc j) conn count moment n past groups last s few many within =
    let one = one_is_shut past moment count n conn groups last s (omega arith) many (omega arith) in
    let rest = all_are_shut j (conn + 1) (count + 1) moment n (Stepping (Shuts conn) ∷ past) groups
    (last ++ Shuts conn ∷ []) one (omega arith) many (omega arith) in
    same_standing _ moment (count + 1 + j) (count + suc j) n n (conn + 1 + j) (conn + suc j) groups
    groups _ _ (omega arith) refl (omega arith) refl
    (front_step last (Shuts conn) (map Shuts (range_with_len (conn + 1) j))) rest

-- ---- rounds

fronts : (seed r : ℕ) → ArePieces (λ c. take 5 (bytes_of seed r c))
fronts seed r = record {
  bytes = λ c. front_bytes seed r c;
  filled = λ c. omega (
    arith,
    record_least seed r c,
    length-take-le 5 (bytes_of seed r c) (omega (arith, record_least seed r c)),
  );
}

rests : (seed r : ℕ) → ArePieces (λ c. drop 5 (bytes_of seed r c))
rests seed r = record {
  bytes = λ c. rest_bytes seed r c;
  filled = λ c. omega (arith, record_least seed r c, length-drop 5 (bytes_of seed r c));
}

pub one_round : (n seed r count moment : ℕ) (past : List Line) (groups : List ScriptGroup)
    (last : List ScriptStep) → Stands past moment count n 0 groups last → count + (n + n) ≤ 1000000
    → n ≤ 1000
    → moment ≤ r → r < 1000 → Stands (onto (round_lines n seed r) past) r (count + (n + n)) n 0
    (groups ++ last_group moment last) (pieces n seed r)
one_round n seed r count moment past groups last s few many later within =
    let now = at_stands past moment count n 0 r groups last s later (omega arith)
    (at_written r (omega arith)).reads in
    let first = map (front_piece seed r) (range_with_len 0 n) in
    let second = map (rest_piece seed r) (range_with_len 0 n) in
    let a = all_bring (λ c. take 5 (bytes_of seed r c)) (fronts seed r) n 0 count r n (At r ∷ past)
    (groups ++ last_group moment last) [] now (omega arith) many (omega arith) in
    let b = all_bring (λ c. drop 5 (bytes_of seed r c)) (rests seed r) n 0 (count + n) r n _
    (groups ++ last_group moment last) first a (omega arith) many (omega arith) in
    let lines : onto (map Stepping second) (onto (map Stepping first) (At r ∷ past))
    ≡ onto (round_lines n seed r) past =
    sym (onto_both (map Stepping first) (map Stepping second) (At r ∷ past))
    ∙ ap (λ (ls : List Line). onto ls (At r ∷ past)) (sym (map-append Stepping first second)) in
    subst (λ (ls : List Line). Stands ls r (count + (n + n)) n 0 (groups ++ last_group moment last)
    (pieces n seed r)) lines
    (same_standing _ r (count + n + n) (count + (n + n)) n n 0 0 _ _ _ _ (omega arith) refl refl
    refl refl b)

pub group_of : (moment : ℕ) (steps : List ScriptStep) → 0 < length steps
    → last_group moment steps ≡ record { moment = moment; steps = steps } ∷ []
group_of moment [] some = absurd (omega arith)
group_of moment (step ∷ steps) some = refl

pub some_pieces : (n seed r : ℕ) → 1 ≤ n → 0 < length (pieces n seed r)
some_pieces n seed r h =
    omega (
      arith,
      length-append (map (front_piece seed r) (range_with_len 0 n))
          (map (rest_piece seed r) (range_with_len 0 n)),
      length-map-range_with_len (front_piece seed r) 0 n,
    )

same_moment : (past : List Line) (r r' count n seed : ℕ) (groups : List ScriptGroup) → r ≡ r'
    → Stands past r count n 0 groups (pieces n seed r)
    → Stands past r' count n 0 groups (pieces n seed r')
same_moment past r r' count n seed groups e s =
    subst (λ (k : ℕ). Stands past k count n 0 groups (pieces n seed k)) e s

-- rounds after round r
pub more_rounds : (n seed : ℕ) → 1 ≤ n → n ≤ 1000
    → (j r count : ℕ) (past : List Line) (groups : List ScriptGroup)
    → Stands past r count n 0 groups (pieces n seed r) → count + j * (n + n) ≤ 1000000
    → r + j < 1000
    → Stands (onto (flat_map (round_lines n seed) (range_with_len (r + 1) j)) past) (r + j)
    (count + j * (n + n)) n 0 (groups ++ map (round_group n seed) (range_with_len r j))
    (pieces n seed (r + j))
more_rounds n seed least many zero r count past groups s few within =
    same_moment past r (r + 0) (count + 0 * (n + n)) n seed _ (omega arith)
    (same_standing past r count (count + 0 * (n + n)) n n 0 0 groups (groups ++ [])
    (pieces n seed r) (pieces n seed r) (omega arith) refl refl (sym (append-nil groups)) refl
    s)
more_rounds n seed least many (suc j) r count past groups s few within =
    let sum : suc j * (n + n) ≡ j * (n + n) + (n + n) = suc-mul j (n + n) in
    let one = one_round n seed (r + 1) count r past groups (pieces n seed r) s (omega (arith, sum))
    many (omega arith) (omega arith) in
    let group : groups ++ last_group r (pieces n seed r) ≡ groups ++ round_group n seed r ∷ [] =
    ap (λ (gs : List ScriptGroup). groups ++ gs)
    (group_of r (pieces n seed r) (some_pieces n seed r least)) in
    let stands = same_standing _ (r + 1) (count + (n + n)) (count + (n + n)) n n 0 0 _
    (groups ++ round_group n seed r ∷ []) _ _ refl refl refl group refl one in
    let rest = more_rounds n seed least many j (r + 1) (count + (n + n))
    (onto (round_lines n seed (r + 1)) past) (groups ++ round_group n seed r ∷ []) stands
    (omega (arith, sum)) (omega arith) in
    let lines = sym (onto_both (round_lines n seed (r + 1))
    (flat_map (round_lines n seed) (range_with_len (r + 1 + 1) j)) past) in
    let all = append_assoc groups (round_group n seed r ∷ [])
    (map (round_group n seed) (range_with_len (r + 1) j)) in
    subst (λ (ls : List Line). Stands ls (r + suc j) (count + suc j * (n + n)) n 0
    (groups ++ map (round_group n seed) (range_with_len r (suc j))) (pieces n seed (r + suc j)))
    lines
    (same_moment _ (r + 1 + j) (r + suc j) (count + suc j * (n + n)) n seed _ (omega arith)
    (same_standing _ (r + 1 + j) (count + (n + n) + j * (n + n)) (count + suc j * (n + n)) n n 0 0 _
    _ _ _ (omega (arith, sum)) refl refl all refl rest))
