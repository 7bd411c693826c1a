-- Lines are read as they were written.
use Rattle.std.proofs.Common.{◌≡◌, ◌∙◌, ℕ, ◌^◌, ◌<◌, List, [], ◌∷◌, ◌++◌, decimal, Some, refl, ap}
use Rattle.std.proofs.Common.{append_assoc, arith}
use Rattle.std.specs.Prelude.{option_and_then, option_map, map}
use Rattle.std.specs.List.{AllByRecursion, onto_first}
use Rattle.hex.specs.Hex.{encode_lower}
use Rattle.event_script.specs.Script.{Opens, Brings, Shuts}
use Rattle.event_script.specs.text_parts.specs.Parts.{parts}
use Rattle.event_script.specs.text_parts.proofs.Cuts.{first_one, last_one}
use Rattle.event_script.specs.Grammar.{Line, At, Stepping, line_of, line_of_words, hex_bytes}
use Rattle.event_script.specs.Grammar.{raw_lines}
use Rattle.script_generator.specs.Texts.{line_words, text_of}
use Rattle.script_generator.proofs.Words.{Above, AreBytes, above_lower, above_append, free_above}
use Rattle.script_generator.proofs.Words.{number_of_decimal, decimal_above, hex_above, hex_of_bytes}
use Rattle.script_generator.proofs.Words.{line_before}

-- a line is read back, and has no line feed in it
pub record IsWritten (line : Line) : Type 0 where
  pub reads : line_of (line_words line) ≡ Some line
  pub above : Above 10 (line_words line)

number_alone : (n : ℕ) → n < 2 ^ 64 → parts 32 (decimal n) ≡ decimal n ∷ []
number_alone n small = last_one 32 (decimal n)
    (free_above 32 32 (decimal n) (omega arith) (decimal_above n small))

number_above : (n : ℕ) → n < 2 ^ 64 → Above 10 (decimal n)
number_above n small = above_lower 10 32 (decimal n) (omega arith) (decimal_above n small)

pub at_written : (moment : ℕ) → moment < 2 ^ 64 → IsWritten (At moment)
at_written moment small = record {
  reads = ap (λ (ps : List (List ℕ)). line_of_words (onto_first 97 (onto_first 116 ([] ∷ ps))))
      (number_alone moment small) ∙ ap (option_map At) (number_of_decimal moment small);
  above = (omega arith, (omega arith, (omega arith, number_above moment small)));
}

pub open_written : (conn : ℕ) → conn < 2 ^ 64 → IsWritten (Stepping (Opens conn))
open_written conn small = record {
  reads = ap (λ (ps : List (List ℕ)).
      line_of_words (onto_first 111 (onto_first 112 (onto_first 101 (onto_first 110 ([] ∷ ps))))))
      (number_alone conn small)
      ∙ ap (option_map (λ c. Stepping (Opens c))) (number_of_decimal conn small);
  above = (
    omega arith,
    (
      omega arith,
      (omega arith, (omega arith, (omega arith, number_above conn small))),
    ),
  );
}

pub shut_written : (conn : ℕ) → conn < 2 ^ 64 → IsWritten (Stepping (Shuts conn))
shut_written conn small = record {
  reads = ap (λ (ps : List (List ℕ)).
      line_of_words (onto_first 115 (onto_first 104 (onto_first 117 (onto_first 116 ([] ∷ ps))))))
      (number_alone conn small)
      ∙ ap (option_map (λ c. Stepping (Shuts c))) (number_of_decimal conn small);
  above = (
    omega arith,
    (
      omega arith,
      (omega arith, (omega arith, (omega arith, number_above conn small))),
    ),
  );
}

pub data_written : (conn : ℕ) (bytes : List ℕ) → conn < 2 ^ 64 → AreBytes bytes
    → IsWritten (Stepping (Brings conn bytes))
data_written conn bytes small are =
    let digits = encode_lower bytes in
    let grouped : decimal conn ++ 32 ∷ [] ++ digits ≡ decimal conn ++ 32 ∷ digits =
    append_assoc (decimal conn) (32 ∷ []) digits in
    let cut : parts 32 (decimal conn ++ 32 ∷ [] ++ digits) ≡ decimal conn ∷ digits ∷ [] =
    ap (parts 32) grouped ∙ first_one 32 (decimal conn) digits
    (free_above 32 32 (decimal conn) (omega arith) (decimal_above conn small))
    ∙ ap (λ (ps : List (List ℕ)). decimal conn ∷ ps)
    (last_one 32 digits (free_above 32 32 digits (omega arith) (hex_above bytes are))) in
    record {
      reads = ap (λ (ps : List (List ℕ)).
          line_of_words (onto_first 100 (onto_first 97 (onto_first 116 (onto_first 97 ([] ∷ ps))))))
          cut
          ∙ ap (option_and_then (λ c. option_map (λ bs. Stepping (Brings c bs)) (hex_bytes digits)))
          (number_of_decimal conn small)
          ∙ ap (option_map (λ bs. Stepping (Brings conn bs))) (hex_of_bytes bytes are);
      above = (
        omega arith,
        (
          omega arith,
          (
            omega arith,
            (
              omega arith,
              (
                omega arith,
                above_append 10 (decimal conn ++ 32 ∷ []) digits
                    (above_append 10 (decimal conn) (32 ∷ []) (number_above conn small)
                    (omega arith, tt))
                    (above_lower 10 32 digits (omega arith) (hex_above bytes are)),
              ),
            ),
          ),
        ),
      );
    }

-- the lines of a written text
pub raw_are : (ls : List Line) → AllByRecursion IsWritten ls
    → raw_lines (text_of ls) ≡ map line_words ls
raw_are [] all = refl
raw_are (line ∷ ls) all =
    ap raw_lines (append_assoc (line_words line) (10 ∷ []) (text_of ls))
    ∙ line_before (line_words line) (text_of ls) all.0.above
    ∙ ap (λ (raws : List (List ℕ)). line_words line ∷ raws) (raw_are ls all.1)
