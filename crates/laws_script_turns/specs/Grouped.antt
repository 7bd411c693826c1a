-- The grouped text of a script: connection after connection, the lines of all its records and its
-- closing line (this project's own).
use Rattle.std.specs.Prelude.{ℕ, zero, suc, Bool, true, false, List, [], ◌++◌}
use Rattle.acceptor.specs.cdr_record.specs.Decoding.{Stop, Clean, Partial, Malformed, decode}
use Rattle.acceptor.specs.log_lines.specs.declared.end_kind.EndKind.{EndKind}
use Rattle.acceptor.specs.log_lines.specs.declared.end_kind.EndKind.TheVariants as end
use Rattle.acceptor.specs.log_lines.specs.Texts.{record_lines, closing_line}
use Rattle.event_script.specs.Script.{ScriptStep, opened}
use Rattle.event_script.specs.Stories.{bytes_of, was_shut, has_failed}

-- The closing word, by how reading all bytes stops, whether the connection failed and whether it
-- was shut.
abbrev pub word_by : Stop → Bool → Bool → EndKind
word_by (Malformed at) failed shut = end.Malformed at
word_by Clean true shut = end.Failed
word_by (Partial n) true shut = end.Failed
word_by Clean false true = end.End
word_by (Partial n) false true = end.Partial n
word_by Clean false false = end.Stopped
word_by (Partial n) false false = end.Stopped

abbrev pub closing_word : ℕ → List ScriptStep → EndKind
closing_word c steps = word_by (decode (bytes_of c steps)).stop (has_failed c steps)
    (was_shut c steps)

-- the lines of one connection
abbrev pub grouped_lines : ℕ → List ScriptStep → List ℕ
grouped_lines c steps = record_lines c (decode (bytes_of c steps)).records
    ++ closing_line c (closing_word c steps)

-- what the first so many numbers give, one after another
abbrev pub each_below : ℕ → (ℕ → List ℕ) → List ℕ
each_below zero lines = []
each_below (suc n) lines = each_below n lines ++ lines n

abbrev pub grouped : List ScriptStep → List ℕ
grouped steps = each_below (opened steps) (λ c. grouped_lines c steps)
