-- The whole script: its text is that of its groups.
use Rattle.std.proofs.Common.{◌≡◌, ◌∙◌, ℕ, zero, suc, ◌+◌, ◌*◌, ◌<◌, ◌≤◌, List, [], ◌∷◌, ◌++◌}
use Rattle.std.proofs.Common.{length, reverse, refl, sym, ap, subst, add-one, arith}
use Rattle.std.specs.Prelude.{map, flat_map}
use Rattle.std.specs.List.{AllByRecursion, range_with_len}
use Rattle.std.proofs.lemmas.List.{length-append}
use Rattle.std.proofs.lemmas.List.FromFn.{length-map-range_with_len}
use Rattle.std.proofs.lemmas.Grind.{reverse_onto}
use Rattle.std.proofs.lemmas.List.{map-append}
use Rattle.event_script.specs.Script.{ScriptStep, Opens, Shuts, ScriptGroup}
use Rattle.event_script.specs.Grammar.{Line, Stepping, raw_lines, Spells, IsScriptText}
use Rattle.script_generator.specs.Scripts.{last_round, openings, shuttings, front_piece, rest_piece}
use Rattle.script_generator.specs.Scripts.{pieces, round_lines, lines, round_group, generated}
use Rattle.script_generator.specs.Texts.{line_words, text_of, generated_text}
use Rattle.script_generator.proofs.Bytes.{front_bytes, rest_bytes}
use Rattle.script_generator.proofs.Written.{IsWritten, at_written, open_written, shut_written}
use Rattle.script_generator.proofs.Written.{data_written, raw_are}
use Rattle.script_generator.proofs.Standing.{onto, onto_both, onto_all, last_group, Stands}
use Rattle.script_generator.proofs.Standing.{stands_at_first, same_standing}
use Rattle.script_generator.proofs.Blocks.{all_come, all_are_shut, one_round, more_rounds}
use Rattle.script_generator.proofs.Blocks.{some_pieces, group_of}

pub last_round_is : last_round ≡ 124
unfolding last_round
last_round_is = refl

-- ---- all lines are written

all_append : (a b : List Line) → AllByRecursion IsWritten a → AllByRecursion IsWritten b
    → AllByRecursion IsWritten (a ++ b)
all_append [] b p q = q
all_append (line ∷ a) b p q = (p.0, all_append a b p.1 q)

all_map : (step : ℕ → ScriptStep) (n : ℕ) → ((c : ℕ) → c < n → IsWritten (Stepping (step c)))
    → (j c : ℕ) → c + j ≤ n → AllByRecursion IsWritten
    (map Stepping (map step (range_with_len c j)))
all_map step n each zero c le = tt
all_map step n each (suc j) c le =
    (each c (omega arith), all_map step n each j (c + 1) (omega arith))

round_written : (n seed r : ℕ) → n ≤ 1000 → r < 1000
    → AllByRecursion IsWritten (round_lines n seed r)
round_written n seed r many within = (
  at_written r (omega arith),
  subst (AllByRecursion IsWritten) (sym
      (map-append Stepping (map (front_piece seed r) (range_with_len 0 n))
      (map (rest_piece seed r) (range_with_len 0 n))))
      (all_append _ _ (all_map (front_piece seed r) n
      (λ c lt. data_written c _ (omega arith) (front_bytes seed r c)) n 0 (omega arith))
      (all_map (rest_piece seed r) n (λ c lt. data_written c _ (omega arith) (rest_bytes seed r c))
      n 0 (omega arith))),
)

rounds_written : (n seed : ℕ) → n ≤ 1000 → (j r : ℕ) → r + j ≤ 1000
    → AllByRecursion IsWritten (flat_map (round_lines n seed) (range_with_len r j))
rounds_written n seed many zero r le = tt
rounds_written n seed many (suc j) r le =
    all_append (round_lines n seed r) _ (round_written n seed r many (omega arith))
    (rounds_written n seed many j (r + 1) (omega arith))

all_written : (n seed : ℕ) → n ≤ 1000 → AllByRecursion IsWritten (lines n seed)
all_written n seed many =
    all_append _ _ (all_append _ _ (all_map Opens n (λ c lt. open_written c (omega arith)) n 0
    (omega arith))
    (rounds_written n seed many (last_round + 1) 0 (omega (arith, last_round_is))))
    (all_map Shuts n (λ c lt. shut_written c (omega arith)) n 0 (omega arith))

-- ---- they stand

-- all groups but the last one
abbrev groups_before : ℕ → ℕ → List ScriptGroup
groups_before n seed = record { moment = 0; steps = openings n }
    ∷ map (round_group n seed) (range_with_len 0 last_round)

some_openings : (n : ℕ) → 1 ≤ n → 0 < length (openings n)
some_openings n h = omega (arith, length-map-range_with_len Opens 0 n)

-- the rounds begin at 0
at_end : (n seed count : ℕ) (past : List Line) (groups : List ScriptGroup)
    → Stands past (0 + last_round) count n 0 groups (pieces n seed (0 + last_round))
    → Stands past last_round count n 0 groups (pieces n seed last_round)
at_end n seed count past groups s =
    subst (λ (k : ℕ). Stands past k count n 0 groups (pieces n seed k)) (omega arith) s

pub all_stand : (n seed : ℕ) → 1 ≤ n → n ≤ 1000
    → Stands (onto (lines n seed) []) last_round (252 * n) n n (groups_before n seed)
    (pieces n seed last_round ++ shuttings n)
all_stand n seed least many =
    let come = same_standing _ 0 (0 + n) n (0 + n) n 0 0 [] [] (openings n) (openings n)
    (omega arith) (omega arith) refl refl refl
    (all_come n 0 0 0 [] [] [] stands_at_first (omega arith) (omega arith)) in
    let start = one_round n seed 0 n 0 (onto (map Stepping (openings n)) []) [] (openings n) come
    (omega arith) many (omega arith) (omega arith) in
    let first : [] ++ last_group 0 (openings n) ≡ record { moment = 0; steps = openings n } ∷ [] =
    group_of 0 (openings n) (some_openings n least) in
    let begun = same_standing _ 0 (n + (n + n)) (n + (n + n)) n n 0 0 _
    (record { moment = 0; steps = openings n } ∷ []) _ _ refl refl refl first refl start in
    let product : last_round * (n + n) ≡ 124 * (n + n) =
    ap (λ (k : ℕ). k * (n + n)) last_round_is in
    let rest = more_rounds n seed least many last_round 0 (n + (n + n)) _
    (record { moment = 0; steps = openings n } ∷ []) begun (omega (arith, product))
    (omega (arith, last_round_is)) in
    let shut = all_are_shut n 0 (n + (n + n) + last_round * (n + n)) last_round n _
    (groups_before n seed) (pieces n seed last_round) (at_end n seed _ _ _ rest)
    (omega (arith, product)) many (omega arith) in
    let count : n + (n + n) + last_round * (n + n) + n ≡ 252 * n = omega (arith, product) in
    let rounds : flat_map (round_lines n seed) (range_with_len 0 (last_round + 1))
    ≡ round_lines n seed 0 ++ flat_map (round_lines n seed) (range_with_len 1 last_round) =
    ap (λ (k : ℕ). flat_map (round_lines n seed) (range_with_len 0 k)) (add-one last_round) in
    let front = map Stepping (openings n) in
    let all : onto (map Stepping (shuttings n))
    (onto (flat_map (round_lines n seed) (range_with_len 1 last_round))
    (onto (round_lines n seed 0) (onto front []))) ≡ onto (lines n seed) [] =
    ap (onto (map Stepping (shuttings n)))
    (sym (onto_both (round_lines n seed 0)
    (flat_map (round_lines n seed) (range_with_len 1 last_round)) (onto front []))
    ∙ ap (λ (ls : List Line). onto ls (onto front [])) (sym rounds)
    ∙ sym (onto_both front (flat_map (round_lines n seed) (range_with_len 0 (last_round + 1)))
    []))
    ∙ sym (onto_both (front ++ flat_map (round_lines n seed) (range_with_len 0 (last_round + 1)))
    (map Stepping (shuttings n)) []) in
    subst (λ (ls : List Line). Stands ls last_round (252 * n) n n (groups_before n seed)
    (pieces n seed last_round ++ shuttings n)) all
    (same_standing _ last_round _ (252 * n) n n (0 + n) n _ _ _ _ count refl (omega arith) refl refl
    shut)

-- ---- the text is that of the groups

reverse_map : (ls : List Line) → reverse (map line_words ls) ≡ map line_words (reverse ls)
reverse_map [] = refl
reverse_map (line ∷ ls) =
    reverse_onto (map line_words ls) (line_words line) []
    ∙ ap (λ (raws : List (List ℕ)). raws ++ line_words line ∷ []) (reverse_map ls)
    ∙ sym (map-append line_words (reverse ls) (line ∷ []))
    ∙ ap (map line_words) (sym (reverse_onto ls line []))

last_is_some : (n seed : ℕ) → 1 ≤ n
    → last_group last_round (pieces n seed last_round ++ shuttings n)
    ≡ record { moment = last_round; steps = pieces n seed last_round ++ shuttings n } ∷ []
last_is_some n seed least =
    group_of last_round (pieces n seed last_round ++ shuttings n)
    (omega (
      arith,
      some_pieces n seed last_round least,
      length-append (pieces n seed last_round) (shuttings n),
    ))

pub is_script_text : (n seed : ℕ) → 1 ≤ n → n ≤ 1000
    → IsScriptText (generated_text n seed) (generated n seed)
unfolding generated_text generated
is_script_text n seed least many =
    let s = all_stand n seed least many in
    let raws : reverse (raw_lines (text_of (lines n seed)))
    ≡ map line_words (onto (lines n seed) []) =
    ap reverse (raw_are (lines n seed) (all_written n seed many)) ∙ reverse_map (lines n seed)
    ∙ ap (map line_words) (sym (onto_all (lines n seed))) in
    record {
      past = onto (lines n seed) [];
      spells = subst (λ (rs : List (List ℕ)). Spells rs (onto (lines n seed) [])) (sym raws)
          s.spells;
      are = sym (s.groups_are ∙ ap (λ (gs : List ScriptGroup). groups_before n seed ++ gs)
          (last_is_some n seed least));
    }
