-- The rows, computed.
use Rattle.std.proofs.Common.{◌≡◌, ◌∙◌, ℕ, List, [], ◌∷◌, ◌++◌, codes, decimal, take, refl, sym, ap}
use Rattle.std.proofs.Common.{append_assoc, add-one, arith}
use Rattle.std.specs.Prelude.{map, flat_map}
use Rattle.std.specs.List.{range_with_len}
use Rattle.std.proofs.lemmas.Fmt.{decimal_digit}
use Rattle.hex.specs.Hex.{encode_lower, encode_with}
use Rattle.cdr_record.specs.Spelling.{bytes_of as number_bytes}
use Rattle.script_generator.specs.Records.{bytes_of}
use Rattle.event_script.specs.Script.{Opens}
use Rattle.event_script.specs.Grammar.{Line, At, Stepping}
use Rattle.script_generator.specs.Scripts.{last_round, openings, shuttings, front_piece, rest_piece}
use Rattle.script_generator.specs.Scripts.{round_lines, lines}
use Rattle.script_generator.specs.Texts.{line_text, text_of, generated_text}
use Rattle.script_generator.specs.Laws.{bytes_of_records}
use Rattle.script_generator.specs.Rows.{first_lines, HasRows}
use Rattle.script_generator.proofs.Spelling.{bytes_are}
use Rattle.script_generator.proofs.Connections.{bytes_are as all_bytes_are}

one : bytes_of_records 1 0 ≡ 6035
unfolding last_round
one = refl

forty : bytes_of_records 40 7 ≡ 242500
unfolding last_round
forty = refl

eighty : bytes_of_records 80 7 ≡ 485000
unfolding last_round
eighty = refl

front : take 5 (bytes_of 0 0 0) ≡ 0 ∷ 0 ∷ 0 ∷ 0 ∷ 0 ∷ []
unfolding number_bytes
front = ap (take 5) (bytes_are 0 0 0)

digits : encode_lower (0 ∷ 0 ∷ 0 ∷ 0 ∷ 0 ∷ []) ≡ codes "0000000000"
unfolding encode_with
digits = refl

zero_digit : decimal 0 ≡ codes "0"
zero_digit = decimal_digit 0 (omega arith)

-- the lines after the first three
abbrev behind : List Line
behind = Stepping (rest_piece 0 0 0)
    ∷ (flat_map (round_lines 1 0) (range_with_len 1 last_round) ++ map Stepping (shuttings 1))

lines_are : lines 1 0 ≡ Stepping (Opens 0) ∷ At 0 ∷ Stepping (front_piece 0 0 0) ∷ behind
lines_are = ap (λ (k : ℕ). map Stepping (openings 1)
    ++ flat_map (round_lines 1 0) (range_with_len 0 k) ++ map Stepping (shuttings 1))
    (add-one last_round)

three : (a b c : Line) (rest : List Line)
    → text_of (a ∷ b ∷ c ∷ rest) ≡ (line_text a ++ line_text b ++ line_text c) ++ text_of rest
three a b c rest = sym (append_assoc (line_text a ++ line_text b) (line_text c) (text_of rest)
    ∙ append_assoc (line_text a) (line_text b) (line_text c ++ text_of rest))

first_are : line_text (Stepping (Opens 0)) ++ line_text (At 0)
    ++ line_text (Stepping (front_piece 0 0 0)) ≡ first_lines
first_are =
    ap (λ (ds : List ℕ). (codes "open " ++ ds ++ codes "\n") ++ (codes "at " ++ ds ++ codes "\n")
    ++ (codes "data " ++ ds ++ codes " " ++ encode_lower (take 5 (bytes_of 0 0 0))
    ++ codes "\n")) zero_digit
    ∙ ap (λ (hex : List ℕ). (codes "open 0" ++ codes "\n") ++ (codes "at 0" ++ codes "\n")
    ++ (codes "data 0 " ++ hex ++ codes "\n")) (ap encode_lower front ∙ digits)

begins : generated_text 1 0 ≡ first_lines ++ text_of behind
unfolding generated_text
begins = ap text_of lines_are ∙ three (Stepping (Opens 0)) (At 0) (Stepping (front_piece 0 0 0))
    behind ∙ ap (λ (text : List ℕ). text ++ text_of behind) first_are

pub has_rows : HasRows
has_rows = record {
  begins = (text_of behind, begins);
  bytes_of_one = all_bytes_are 1 0 (omega arith) (omega arith) ∙ one;
  bytes_of_forty = all_bytes_are 40 7 (omega arith) (omega arith) ∙ forty;
  bytes_of_eighty = all_bytes_are 80 7 (omega arith) (omega arith) ∙ eighty;
}
