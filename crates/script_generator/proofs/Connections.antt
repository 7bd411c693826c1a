-- What each connection of the generated script brings.
use Rattle.std.proofs.Common.{◌≡◌, ◌∙◌, ℕ, zero, suc, ◌+◌, ◌*◌, ◌<◌, ◌≤◌, ◌==◌, Bool, true, false}
use Rattle.std.proofs.Common.{◌||◌, cond, List, [], ◌∷◌, ◌++◌, length, reverse, take, drop, refl}
use Rattle.std.proofs.Common.{sym, ap, ap₂, append_assoc, append-nil, arith}
use Rattle.std.specs.Prelude.{map, flat_map}
use Rattle.std.specs.List.{list_any, range_with_len, sum_by}
use Rattle.std.proofs.lemmas.Bool.Decides.{nat_tests}
use Rattle.std.proofs.lemmas.List.{take-append-drop, length-reverse, reverse-reverse}
use Rattle.std.proofs.lemmas.Grind.{reverse_onto}
use Rattle.std.proofs.lemmas.List.Concat.{flat_map-append, length-flat_map}
use Rattle.std.proofs.lemmas.List.Folds.{list_any-append}
use Rattle.std.proofs.lemmas.List.Sums.{sum_by-cons}
use Rattle.event_script.specs.Script.{ScriptStep, Opens, Brings, Shuts, Fails, ListenerFails}
use Rattle.event_script.specs.Script.{ScriptGroup, steps_of, opened, are_steps, shuts, fails}
use Rattle.event_script.specs.Grammar.{steps_in}
use Rattle.event_script.specs.Stories.{bytes_brought, bytes_of as all_brought, was_shut, has_failed}
use Rattle.script_generator.specs.Records.{letter_count, bytes_of}
use Rattle.script_generator.specs.Scripts.{last_round, openings, shuttings, front_piece, rest_piece}
use Rattle.script_generator.specs.Scripts.{pieces, lines, round_group, generated}
use Rattle.script_generator.specs.Laws.{rounds, connection_bytes, HasSteps, BringsRecords}
use Rattle.script_generator.specs.Laws.{bytes_of_connections, bytes_of_records}
use Rattle.script_generator.proofs.Growing.{flat_more}
use Rattle.script_generator.proofs.Spelling.{record_length}
use Rattle.script_generator.proofs.Standing.{onto}
use Rattle.script_generator.proofs.Whole.{all_stand}
use Rattle.script_generator.proofs.Spelled.{connection_decodes, records_many}

-- ---- the steps of the groups

group_steps : (n seed : ℕ) (rs : List ℕ)
    → steps_of (map (round_group n seed) rs) ≡ flat_map (pieces n seed) rs
group_steps n seed [] = refl
group_steps n seed (r ∷ rs) = ap (λ (steps : List ScriptStep). pieces n seed r ++ steps)
    (group_steps n seed rs)

pub steps_are : (n seed : ℕ) → steps_of (generated n seed)
    ≡ openings n ++ (flat_map (pieces n seed) rounds ++ shuttings n)
unfolding generated
steps_are n seed =
    let last = pieces n seed last_round ++ shuttings n in
    flat_map-append (λ (g : ScriptGroup). g.steps)
    (record { moment = 0; steps = openings n }
    ∷ map (round_group n seed) (range_with_len 0 last_round))
    (record { moment = last_round; steps = last } ∷ [])
    ∙ ap (λ (steps : List ScriptStep).
    (openings n ++ steps_of (map (round_group n seed) (range_with_len 0 last_round))) ++ steps)
    (append-nil last)
    ∙ ap (λ (steps : List ScriptStep). (openings n ++ steps) ++ last)
    (group_steps n seed (range_with_len 0 last_round))
    ∙ append_assoc (openings n) (flat_map (pieces n seed) (range_with_len 0 last_round)) last
    ∙ ap (λ (steps : List ScriptStep). openings n ++ steps)
    (sym (append_assoc (flat_map (pieces n seed) (range_with_len 0 last_round))
    (pieces n seed last_round) (shuttings n))
    ∙ ap (λ (steps : List ScriptStep). steps ++ shuttings n)
    (sym (flat_more (pieces n seed) last_round)))

-- ---- how many they are, and that they may stand

opened_both : (a b : List ScriptStep) → opened (a ++ b) ≡ opened a + opened b
opened_both [] b = omega arith
opened_both (Opens conn ∷ a) b = omega (arith, opened_both a b)
opened_both (Brings conn bytes ∷ a) b = opened_both a b
opened_both (Shuts conn ∷ a) b = opened_both a b
opened_both (Fails conn ∷ a) b = opened_both a b
opened_both (ListenerFails ∷ a) b = opened_both a b

opened_back : (steps : List ScriptStep) → opened (reverse steps) ≡ opened steps
opened_back [] = refl
opened_back (step ∷ steps) =
    ap opened (reverse_onto steps step []) ∙ opened_both (reverse steps) (step ∷ [])
    ∙ ap (λ (k : ℕ). k + opened (step ∷ [])) (opened_back steps)
    ∙ (omega (arith, opened_both (step ∷ []) steps))

steps_back : (n seed : ℕ) → 1 ≤ n → n ≤ 1000 → (back : List ScriptStep) × (are_steps back ≡ true)
    × (length back ≡ 252 * n) × (opened back ≡ n) × (reverse back ≡ steps_of (generated n seed))
unfolding generated
steps_back n seed least many =
    let s = all_stand n seed least many in
    let last = pieces n seed last_round ++ shuttings n in
    let front = record { moment = 0; steps = openings n }
    ∷ map (round_group n seed) (range_with_len 0 last_round) in
    let whole : steps_of front ++ last ≡ steps_of (generated n seed) =
    ap (λ (steps : List ScriptStep). steps_of front ++ steps) (sym (append-nil last))
    ∙ sym (flat_map-append (λ (g : ScriptGroup). g.steps) front
    (record { moment = last_round; steps = last } ∷ [])) in
    (steps_in (onto (lines n seed) []), s.valid, s.count_is, s.came_are, s.steps_are ∙ whole)

pub has_steps : (n seed : ℕ) → 1 ≤ n → n ≤ 1000 → HasSteps n (steps_of (generated n seed))
has_steps n seed least many =
    let b = steps_back n seed least many in
    let again : reverse (steps_of (generated n seed)) ≡ b.0 =
    ap reverse (sym b.4) ∙ reverse-reverse b.0 in
    record {
      valid = ap are_steps again ∙ b.1;
      many = ap length (sym b.4) ∙ length-reverse b.0 ∙ b.2;
      come = ap opened (sym b.4) ∙ opened_back b.0 ∙ b.3;
    }

-- ---- what a connection brings

comes_with_none : (c : ℕ) (ks : List ℕ) → all_brought c (map Opens ks) ≡ []
comes_with_none c [] = refl
comes_with_none c (k ∷ ks) = comes_with_none c ks

shut_with_none : (c : ℕ) (ks : List ℕ) → all_brought c (map Shuts ks) ≡ []
shut_with_none c [] = refl
shut_with_none c (k ∷ ks) = shut_with_none c ks

others_bring : (piece : ℕ → List ℕ) (c j a : ℕ) → c < a
    → all_brought c (map (λ d. Brings d (piece d)) (range_with_len a j)) ≡ []
others_bring piece c zero a lt = refl
others_bring piece c (suc j) a lt = let other : (a == c) ≡ false = grind (arith, nat_tests) in
    rw other (others_bring piece c j (a + 1) (omega arith))

brings_by : (piece : ℕ → List ℕ) (c j a : ℕ) (b : Bool) → (a == c) ≡ b → a ≤ c → c < a + suc j
    → (a + 1 ≤ c → all_brought c (map (λ d. Brings d (piece d)) (range_with_len (a + 1) j))
    ≡ piece c)
    → cond b (piece a) [] ++ all_brought c
    (map (λ d. Brings d (piece d)) (range_with_len (a + 1) j)) ≡ piece c
brings_by piece c j a true is le lt rest =
    let same : a ≡ c = grind (arith, nat_tests) in
    ap (λ (t : List ℕ). piece a ++ t) (others_bring piece c j (a + 1) (omega arith))
    ∙ append-nil (piece a) ∙ ap piece same
brings_by piece c j a false is le lt rest = let other : a + 1 ≤ c = grind (arith, nat_tests) in
    rest other

one_brings : (piece : ℕ → List ℕ) (c j a : ℕ) → a ≤ c → c < a + j
    → all_brought c (map (λ d. Brings d (piece d)) (range_with_len a j)) ≡ piece c
one_brings piece c zero a le lt = absurd (omega arith)
one_brings piece c (suc j) a le lt =
    brings_by piece c j a (a == c) refl le lt
    (λ more. one_brings piece c j (a + 1) more (omega arith))

in_round : (n seed c r : ℕ) → c < n → all_brought c (pieces n seed r) ≡ bytes_of seed r c
in_round n seed c r lt =
    flat_map-append (bytes_brought c) (map (front_piece seed r) (range_with_len 0 n))
    (map (rest_piece seed r) (range_with_len 0 n))
    ∙ ap₂ ◌++◌ (one_brings (λ d. take 5 (bytes_of seed r d)) c n 0 (omega arith) (omega arith))
    (one_brings (λ d. drop 5 (bytes_of seed r d)) c n 0 (omega arith) (omega arith))
    ∙ take-append-drop 5 (bytes_of seed r c)

in_rounds : (n seed c : ℕ) → c < n → (rs : List ℕ)
    → all_brought c (flat_map (pieces n seed) rs) ≡ flat_map (λ r. bytes_of seed r c) rs
in_rounds n seed c lt [] = refl
in_rounds n seed c lt (r ∷ rs) = flat_map-append (bytes_brought c) (pieces n seed r)
    (flat_map (pieces n seed) rs) ∙ ap₂ ◌++◌ (in_round n seed c r lt) (in_rounds n seed c lt rs)

pub brought_is : (n seed c : ℕ) → c < n
    → all_brought c (steps_of (generated n seed)) ≡ connection_bytes seed c
brought_is n seed c lt =
    ap (all_brought c) (steps_are n seed)
    ∙ flat_map-append (bytes_brought c) (openings n)
    (flat_map (pieces n seed) rounds ++ shuttings n)
    ∙ ap₂ ◌++◌ (comes_with_none c (range_with_len 0 n))
    (flat_map-append (bytes_brought c) (flat_map (pieces n seed) rounds) (shuttings n)
    ∙ ap₂ ◌++◌ (in_rounds n seed c lt rounds) (shut_with_none c (range_with_len 0 n))
    ∙ append-nil (connection_bytes seed c))

-- ---- how it ends

shut_by : (c j a : ℕ) (b : Bool) → (a == c) ≡ b → a ≤ c
    → (a + 1 ≤ c → list_any (shuts c) (map Shuts (range_with_len (a + 1) j)) ≡ true)
    → (b || list_any (shuts c) (map Shuts (range_with_len (a + 1) j))) ≡ true
shut_by c j a true is le rest = refl
shut_by c j a false is le rest = let other : a + 1 ≤ c = grind (arith, nat_tests) in rest other

is_shut : (c j a : ℕ) → a ≤ c → c < a + j
    → list_any (shuts c) (map Shuts (range_with_len a j)) ≡ true
is_shut c zero a le lt = absurd (omega arith)
is_shut c (suc j) a le lt = shut_by c j a (a == c) refl le
    (λ more. is_shut c j (a + 1) more (omega arith))

or_true : (a : Bool) → (a || true) ≡ true
or_true true = refl
or_true false = refl

pub shut_is : (n seed c : ℕ) → c < n → was_shut c (steps_of (generated n seed)) ≡ true
shut_is n seed c lt =
    let middle = flat_map (pieces n seed) rounds in
    ap (was_shut c) (steps_are n seed)
    ∙ list_any-append (shuts c) (openings n) (middle ++ shuttings n)
    ∙ ap (λ (b : Bool). list_any (shuts c) (openings n) || b)
    (list_any-append (shuts c) middle (shuttings n)
    ∙ ap (λ (b : Bool). list_any (shuts c) middle || b)
    (is_shut c n 0 (omega arith) (omega arith)) ∙ or_true (list_any (shuts c) middle))
    ∙ or_true (list_any (shuts c) (openings n))

come_soundly : (c : ℕ) (ks : List ℕ) → list_any (fails c) (map Opens ks) ≡ false
come_soundly c [] = refl
come_soundly c (k ∷ ks) = come_soundly c ks

shut_soundly : (c : ℕ) (ks : List ℕ) → list_any (fails c) (map Shuts ks) ≡ false
shut_soundly c [] = refl
shut_soundly c (k ∷ ks) = shut_soundly c ks

bring_soundly : (piece : ℕ → List ℕ) (c : ℕ) (ks : List ℕ)
    → list_any (fails c) (map (λ d. Brings d (piece d)) ks) ≡ false
bring_soundly piece c [] = refl
bring_soundly piece c (k ∷ ks) = bring_soundly piece c ks

none_of_both : (c : ℕ) (a b : List ScriptStep) → list_any (fails c) a ≡ false
    → list_any (fails c) b ≡ false → list_any (fails c) (a ++ b) ≡ false
none_of_both c a b p q = list_any-append (fails c) a b ∙ rw (p, q) refl

rounds_soundly : (n seed c : ℕ) (rs : List ℕ)
    → list_any (fails c) (flat_map (pieces n seed) rs) ≡ false
rounds_soundly n seed c [] = refl
rounds_soundly n seed c (r ∷ rs) =
    none_of_both c (pieces n seed r) (flat_map (pieces n seed) rs)
    (none_of_both c (map (front_piece seed r) (range_with_len 0 n))
    (map (rest_piece seed r) (range_with_len 0 n))
    (bring_soundly (λ d. take 5 (bytes_of seed r d)) c (range_with_len 0 n))
    (bring_soundly (λ d. drop 5 (bytes_of seed r d)) c (range_with_len 0 n)))
    (rounds_soundly n seed c rs)

pub sound_is : (n seed c : ℕ) → has_failed c (steps_of (generated n seed)) ≡ false
sound_is n seed c =
    ap (has_failed c) (steps_are n seed)
    ∙ none_of_both c (openings n) (flat_map (pieces n seed) rounds ++ shuttings n)
    (come_soundly c (range_with_len 0 n))
    (none_of_both c (flat_map (pieces n seed) rounds) (shuttings n) (rounds_soundly n seed c rounds)
    (shut_soundly c (range_with_len 0 n)))

pub brings_records : (n seed c : ℕ) → c < n → n ≤ 1000
    → BringsRecords seed c (steps_of (generated n seed))
brings_records n seed c lt many = record {
  bytes = brought_is n seed c lt;
  decoded = connection_decodes seed c (omega arith);
  many = records_many seed c;
  shut = shut_is n seed c lt;
  sound = sound_is n seed c;
}

-- ---- how many bytes

connection_length : (seed c : ℕ) (rs : List ℕ)
    → length (flat_map (λ r. bytes_of seed r c) rs) ≡ sum_by (λ r. 29 + letter_count seed r c) rs
connection_length seed c rs = length-flat_map (λ r. bytes_of seed r c) rs ∙ same rs
  where
    same : (rs : List ℕ) → sum_by (λ r. length (bytes_of seed r c)) rs
        ≡ sum_by (λ r. 29 + letter_count seed r c) rs
    same [] = refl
    same (r ∷ rs) =
        sum_by-cons (λ r. length (bytes_of seed r c)) r rs
        ∙ ap₂ ◌+◌ (record_length seed r c) (same rs)
        ∙ sym (sum_by-cons (λ r. 29 + letter_count seed r c) r rs)

same_sums : (f g : ℕ → ℕ) (n : ℕ) → ((c : ℕ) → c < n → f c ≡ g c) → (j a : ℕ) → a + j ≤ n
    → sum_by f (range_with_len a j) ≡ sum_by g (range_with_len a j)
same_sums f g n same zero a le = refl
same_sums f g n same (suc j) a le =
    sum_by-cons f a (range_with_len (a + 1) j)
    ∙ ap₂ ◌+◌ (same a (omega arith)) (same_sums f g n same j (a + 1) (omega arith))
    ∙ sym (sum_by-cons g a (range_with_len (a + 1) j))

pub bytes_are : (n seed : ℕ) → 1 ≤ n → n ≤ 1000
    → bytes_of_connections (steps_of (generated n seed)) ≡ bytes_of_records n seed
bytes_are n seed least many =
    ap (λ (k : ℕ). sum_by (λ c. length (all_brought c (steps_of (generated n seed))))
    (range_with_len 0 k)) (has_steps n seed least many).come
    ∙ same_sums (λ c. length (all_brought c (steps_of (generated n seed))))
    (λ c. sum_by (λ r. 29 + letter_count seed r c) rounds) n
    (λ c lt. ap length (brought_is n seed c lt) ∙ connection_length seed c rounds) n 0 (omega arith)
