-- The laws of the generated scripts, over their definitions.
use Rattle.std.specs.Prelude.{◌≡◌, ◌≤◌, ◌<◌, ℕ, ◌+◌, ◌*◌, true, false, List, length, map, flat_map}
use Rattle.std.specs.Prelude.{reverse}
use Rattle.std.specs.List.{range_with_len, sum_by}
use Rattle.cdr_record.specs.declared.record.LogRecord.{LogRecord}
use Rattle.cdr_record.specs.Grammar.{Spells}
use Rattle.cdr_record.specs.Decoding.{Clean, decode}
use Rattle.event_script.specs.Script.{ScriptStep, steps_of, opened, are_steps}
use Rattle.event_script.specs.Stories.{bytes_of as bytes_brought, was_shut, has_failed}
use Rattle.event_script.specs.Grammar.{IsScriptText}
use Rattle.script_generator.specs.Records.{letter_count, record_of, bytes_of}
use Rattle.script_generator.specs.Scripts.{last_round, generated}
use Rattle.script_generator.specs.Texts.{generated_text}

-- the rounds
abbrev pub rounds : List ℕ
rounds = range_with_len 0 (last_round + 1)

-- The text is that of the generated script.
abbrev pub TextsAreScripts : Type 0
TextsAreScripts = (n seed : ℕ) → 1 ≤ n → n ≤ 1000
    → IsScriptText (generated_text n seed) (generated n seed)

-- The script has 252 steps for each connection, in an order in which steps may stand, and as many
-- connections as were asked for.
pub record HasSteps (n : ℕ) (steps : List ScriptStep) : Type 0 where
  pub valid : are_steps (reverse steps) ≡ true
  pub many : length steps ≡ 252 * n
  pub come : opened steps ≡ n

abbrev pub ScriptsHaveSteps : Type 0
ScriptsHaveSteps = (n seed : ℕ) → 1 ≤ n → n ≤ 1000 → HasSteps n (steps_of (generated n seed))

-- The bytes of each record spell it.
abbrev pub BytesSpell : Type 0
BytesSpell = (seed r c : ℕ) → r < 1000 → c < 1000 → Spells (bytes_of seed r c) (record_of seed r c)

-- the bytes of a connection's records and the records, round after round
abbrev pub connection_bytes : ℕ → ℕ → List ℕ
connection_bytes seed c = flat_map (λ r. bytes_of seed r c) rounds

abbrev pub connection_records : ℕ → ℕ → List LogRecord
connection_records seed c = map (λ r. record_of seed r c) rounds

-- A connection brings the bytes of its records, which are decoded to these and nothing else; then
-- it is shut, and it never fails.
pub record BringsRecords (seed c : ℕ) (steps : List ScriptStep) : Type 0 where
  pub bytes : bytes_brought c steps ≡ connection_bytes seed c
  pub decoded : decode (connection_bytes seed c)
      ≡ record { records = connection_records seed c; stop = Clean }
  pub many : length (connection_records seed c) ≡ 125
  pub shut : was_shut c steps ≡ true
  pub sound : has_failed c steps ≡ false

abbrev pub ConnectionsBringRecords : Type 0
ConnectionsBringRecords = (n seed c : ℕ) → c < n → n ≤ 1000
    → BringsRecords seed c (steps_of (generated n seed))

-- how many bytes all connections of a script bring
abbrev pub bytes_of_connections : List ScriptStep → ℕ
bytes_of_connections steps =
    sum_by (λ c. length (bytes_brought c steps)) (range_with_len 0 (opened steps))

-- In a generated script that are 29 for each record, and its letters.
abbrev pub bytes_of_records : ℕ → ℕ → ℕ
bytes_of_records n seed = sum_by (λ c. sum_by (λ r. 29 + letter_count seed r c) rounds)
    (range_with_len 0 n)

abbrev pub BytesAreThoseOfRecords : Type 0
BytesAreThoseOfRecords = (n seed : ℕ) → 1 ≤ n → n ≤ 1000
    → bytes_of_connections (steps_of (generated n seed)) ≡ bytes_of_records n seed
