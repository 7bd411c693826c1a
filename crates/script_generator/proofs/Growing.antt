-- The text of lines, as it grows line by line and round by round.
use Rattle.std.proofs.Common.{◌≡◌, ◌∙◌, ℕ, ◌+◌, List, [], ◌∷◌, ◌++◌, refl, sym, ap, append_assoc}
use Rattle.std.proofs.Common.{append-nil, arith}
use Rattle.std.specs.Prelude.{map, flat_map}
use Rattle.std.specs.List.{range_with_len}
use Rattle.std.proofs.lemmas.List.{map-append}
use Rattle.std.proofs.lemmas.List.Concat.{flat_map-append}
use Rattle.std.proofs.lemmas.List.FromFn.{map-range_with_len_more}
use Rattle.event_script.specs.Script.{ScriptStep}
use Rattle.event_script.specs.Grammar.{Line, Stepping}
use Rattle.script_generator.specs.Scripts.{last_round, openings, shuttings, round_lines}
use Rattle.script_generator.specs.Texts.{line_text, text_of, generated_text}

-- the text of one line more
one_line : (line : Line) → text_of (line ∷ []) ≡ line_text line
one_line line = append-nil (line_text line)

steps_more : (step : ℕ → ScriptStep) (n : ℕ)
    → text_of (map Stepping (map step (range_with_len 0 (n + 1))))
    ≡ text_of (map Stepping (map step (range_with_len 0 n))) ++ text_of (Stepping (step n) ∷ [])
steps_more step n =
    ap (λ (steps : List ScriptStep). text_of (map Stepping steps))
    (map-range_with_len_more step 0 n n (omega arith))
    ∙ ap text_of (map-append Stepping (map step (range_with_len 0 n)) (step n ∷ []))
    ∙ flat_map-append line_text (map Stepping (map step (range_with_len 0 n)))
    (Stepping (step n) ∷ [])

-- a text with the lines of the first n steps, and the line of one step more
pub grows : (step : ℕ → ScriptStep) (n : ℕ) (start before after : List ℕ)
    → before ≡ start ++ text_of (map Stepping (map step (range_with_len 0 n)))
    → after ≡ before ++ text_of (Stepping (step n) ∷ [])
    → after ≡ start ++ text_of (map Stepping (map step (range_with_len 0 (n + 1))))
grows step n start before after sofar more =
    more ∙ ap (λ (text : List ℕ). text ++ text_of (Stepping (step n) ∷ [])) sofar
    ∙ append_assoc start (text_of (map Stepping (map step (range_with_len 0 n))))
    (text_of (Stepping (step n) ∷ []))
    ∙ ap (λ (text : List ℕ). start ++ text) (sym (steps_more step n))

pub grows_by_line : (step : ℕ → ScriptStep) (n : ℕ) (start before after : List ℕ)
    → before ≡ start ++ text_of (map Stepping (map step (range_with_len 0 n)))
    → after ≡ before ++ line_text (Stepping (step n))
    → after ≡ start ++ text_of (map Stepping (map step (range_with_len 0 (n + 1))))
grows_by_line step n start before after sofar more =
    grows step n start before after sofar
    (more ∙ ap (λ (text : List ℕ). before ++ text) (sym (one_line (Stepping (step n)))))

pub line_alone : (line : Line) (before after : List ℕ) → after ≡ before ++ line_text line
    → after ≡ before ++ text_of (line ∷ [])
line_alone line before after e = e ∙ ap (λ (text : List ℕ). before ++ text) (sym (one_line line))

-- two parts of lines
pub both_parts : (a b : List Line) (before between after : List ℕ) → between ≡ before ++ text_of a
    → after ≡ between ++ text_of b → after ≡ before ++ text_of (a ++ b)
both_parts a b before between after front rest =
    rest ∙ ap (λ (text : List ℕ). text ++ text_of b) front
    ∙ append_assoc before (text_of a) (text_of b)
    ∙ ap (λ (text : List ℕ). before ++ text) (sym (flat_map-append line_text a b))

-- one round more
range_more : (n : ℕ) → range_with_len 0 (n + 1) ≡ range_with_len 0 n ++ n ∷ []
range_more n = sym (map-id (range_with_len 0 (n + 1)))
    ∙ map-range_with_len_more (λ k. k) 0 n n (omega arith)
    ∙ ap (λ (ks : List ℕ). ks ++ n ∷ []) (map-id (range_with_len 0 n))
  where
    map-id : (ks : List ℕ) → map (λ k. k) ks ≡ ks
    map-id [] = refl
    map-id (k ∷ ks) = ap (λ (js : List ℕ). k ∷ js) (map-id ks)

pub flat_more : {A : Type 0} (f : ℕ → List A) (n : ℕ)
    → flat_map f (range_with_len 0 (n + 1)) ≡ flat_map f (range_with_len 0 n) ++ f n
flat_more f n = ap (flat_map f) (range_more n) ∙ flat_map-append f (range_with_len 0 n) (n ∷ [])
    ∙ ap (λ xs. flat_map f (range_with_len 0 n) ++ xs) (append-nil (f n))

pub grows_by_round : (round : ℕ → List Line) (n : ℕ) (start before after : List ℕ)
    → before ≡ start ++ text_of (flat_map round (range_with_len 0 n))
    → after ≡ before ++ text_of (round n)
    → after ≡ start ++ text_of (flat_map round (range_with_len 0 (n + 1)))
grows_by_round round n start before after sofar more =
    both_parts (flat_map round (range_with_len 0 n)) (round n) start before after sofar more
    ∙ ap (λ (ls : List Line). start ++ text_of ls) (sym (flat_more round n))

-- one number more
pub map_grows : (f : ℕ → ℕ) (n : ℕ) (start before after : List ℕ)
    → before ≡ start ++ map f (range_with_len 0 n) → after ≡ before ++ f n ∷ []
    → after ≡ start ++ map f (range_with_len 0 (n + 1))
map_grows f n start before after sofar more =
    more ∙ ap (λ (xs : List ℕ). xs ++ f n ∷ []) sofar
    ∙ append_assoc start (map f (range_with_len 0 n)) (f n ∷ [])
    ∙ ap (λ (xs : List ℕ). start ++ xs) (sym (map-range_with_len_more f 0 n n (omega arith)))

-- the whole text
pub whole_text : (n seed rounds : ℕ) (v0 v1 v2 v3 text : List ℕ) → rounds ≡ last_round + 1 → v0 ≡ []
    → v1 ≡ v0 ++ text_of (map Stepping (openings n))
    → v2 ≡ v1 ++ text_of (flat_map (round_lines n seed) (range_with_len 0 rounds))
    → v3 ≡ v2 ++ text_of (map Stepping (shuttings n)) → text ≡ v3 → text ≡ generated_text n seed
unfolding generated_text
whole_text n seed rounds v0 v1 v2 v3 text er e0 e1 e2 e3 et =
    let rounds_are : v2 ≡ v1 ++ text_of
    (flat_map (round_lines n seed) (range_with_len 0 (last_round + 1))) =
    e2 ∙ ap (λ (k : ℕ). v1 ++ text_of (flat_map (round_lines n seed) (range_with_len 0 k))) er in
    let front = both_parts (map Stepping (openings n))
    (flat_map (round_lines n seed) (range_with_len 0 (last_round + 1))) v0 v1 v2 e1 rounds_are
    in
    et ∙ both_parts (map Stepping (openings n)
    ++ flat_map (round_lines n seed) (range_with_len 0 (last_round + 1)))
    (map Stepping (shuttings n)) v0 v2 v3 front e3
    ∙ ap (λ (xs : List ℕ). xs ++ text_of
    (map Stepping (openings n) ++ flat_map (round_lines n seed)
    (range_with_len 0 (last_round + 1)) ++ map Stepping (shuttings n))) e0
