-- The texts of the logging server: of a record, of a record's line and of a closing line (C++NPv2
-- chapter 4: the records that the logging server prints). Escapes and closing words are this
-- project's own.
use Rattle.std.specs.Prelude.{ℕ, ◌+◌, ◌/◌, ◌%◌, ◌==◌, nat_lt, Bool, not, ◌&&◌, if◌then◌else◌, List}
use Rattle.std.specs.Prelude.{[], ◌∷◌, ◌++◌, ℤ, pos, negsuc, codes, decimal, flat_map, take_while}
use Rattle.std.specs.Fmt.{signed_decimal}
use Rattle.cdr_record.specs.declared.record.LogRecord.{LogRecord}
use Rattle.log_lines.specs.declared.end_kind.EndKind.{EndKind}
use Rattle.log_lines.specs.declared.end_kind.EndKind.TheVariants.{End, Partial, Malformed, Failed}
use Rattle.log_lines.specs.declared.end_kind.EndKind.TheVariants.{NoMemory, Idle, Stopped, Refused}

-- the name of a priority, or the number of a type that is none
abbrev pub name_or_number : ℕ → List ℕ
name_or_number kind =
    if kind == 1 then codes "LM_SHUTDOWN"
    else if kind == 2 then codes "LM_TRACE"
    else if kind == 4 then codes "LM_DEBUG"
    else if kind == 8 then codes "LM_INFO"
    else if kind == 16 then codes "LM_NOTICE"
    else if kind == 32 then codes "LM_WARNING"
    else if kind == 64 then codes "LM_STARTUP"
    else if kind == 128 then codes "LM_ERROR"
    else if kind == 256 then codes "LM_CRITICAL"
    else if kind == 512 then codes "LM_ALERT"
    else if kind == 1024 then codes "LM_EMERGENCY"
    else decimal kind

unfoldable pub type_text : ℤ → List ℕ
type_text (pos kind) = name_or_number kind
type_text (negsuc kind) = signed_decimal (negsuc kind)

-- a hexadecimal digit, in lower case
abbrev pub hex_digit : ℕ → ℕ
hex_digit digit = if nat_lt digit 10 then 48 + digit else 87 + digit

-- A byte from the space to the tilde is printed as itself, but a backslash as two; any other byte
-- as a backslash, an x and two hexadecimal digits.
abbrev pub is_plain : ℕ → Bool
is_plain byte = nat_lt 31 byte && nat_lt byte 127 && not (byte == 92)

abbrev pub byte_text : ℕ → List ℕ
byte_text byte =
    if is_plain byte then byte ∷ []
    else if byte == 92 then 92 ∷ 92 ∷ []
    else 92 ∷ 120 ∷ hex_digit (byte / 16) ∷ hex_digit (byte % 16) ∷ []

-- a message is printed up to its first zero byte
unfoldable pub message_text : List ℕ → List ℕ
message_text message = flat_map byte_text (take_while (λ byte. not (byte == 0)) message)

-- a record's text: `SEC,USEC PID NAME: MESSAGE`
unfoldable pub record_text : LogRecord → List ℕ
record_text r =
    signed_decimal r.sec ++ codes "," ++ signed_decimal r.usec ++ codes " " ++ signed_decimal r.pid
    ++ codes " "
    ++ type_text r.kind ++ codes ": " ++ message_text r.text

-- a record's line: the number of its connection, and its text
unfoldable pub record_line : ℕ → LogRecord → List ℕ
record_line connection r = decimal connection ++ codes " " ++ record_text r ++ codes "\n"

-- the lines of records, one after another
abbrev pub record_lines : ℕ → List LogRecord → List ℕ
record_lines connection records = flat_map (record_line connection) records

-- the word of how a connection ended
abbrev pub end_word : EndKind → List ℕ
end_word End = codes "end"
end_word (Partial bytes) = codes "partial " ++ decimal bytes
end_word (Malformed at) = codes "malformed " ++ decimal at
end_word Failed = codes "failed"
end_word NoMemory = codes "no memory"
end_word Idle = codes "idle"
end_word Stopped = codes "stopped"
end_word Refused = codes "refused"

-- a connection's closing line
unfoldable pub closing_line : ℕ → EndKind → List ℕ
closing_line connection end = decimal connection ++ codes " closed: " ++ end_word end ++ codes "\n"
