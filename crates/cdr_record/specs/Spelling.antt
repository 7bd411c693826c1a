-- The spelling of a record that an encoder writes.
use Rattle.std.specs.Prelude.{ℕ, ℤ, ◌+◌, List, ◌∷◌, ◌++◌, length}
use Rattle.std.specs.Int.{w32, cast_unsigned}
use Rattle.byteorder.specs.Endian.{big_bytes, little_bytes}
use Rattle.cdr_record.specs.declared.record.Order.{Order}
use Rattle.cdr_record.specs.declared.record.Order.TheVariants.{Big, Little}
use Rattle.cdr_record.specs.declared.record.LogRecord.{LogRecord}
use Rattle.cdr_record.specs.Grammar.{order_of, seconds_width, seconds_size}

-- the lowest `size` bytes of a number
unfoldable pub bytes_of : Order → ℕ → ℕ → List ℕ
bytes_of Big size n = big_bytes size n
bytes_of Little size n = little_bytes size n

-- the seconds after an order octet
abbrev pub seconds_bytes : ℕ → ℤ → List ℕ
seconds_bytes first sec = bytes_of (order_of first) (seconds_size first)
    (cast_unsigned (seconds_width first) sec)

-- A record after an order octet, with padding 0 and no slack: the payload is its fields and the
-- message.
unfoldable pub spelling : ℕ → LogRecord → List ℕ
spelling first r =
    let order = order_of first in
    first ∷ 0 ∷ 0 ∷ 0 ∷ (bytes_of order 4 (16 + seconds_size first + length r.text)
    ++ (bytes_of order 4 (cast_unsigned w32 r.kind)
    ++ (bytes_of order 4 (cast_unsigned w32 r.pid)
    ++ (seconds_bytes first r.sec
    ++ (bytes_of order 4 (cast_unsigned w32 r.usec)
    ++ (bytes_of order 4 (length r.text)
    ++ r.text))))))

-- the order octet of version 1; that of version 2 is 2 more
abbrev pub octet_1 : Order → ℕ
octet_1 Big = 0
octet_1 Little = 1

-- The canonical spelling of version 1. It is defined if the seconds fit 32 bits.
abbrev pub canon : LogRecord → Order → List ℕ
canon r order = spelling (octet_1 order) r

-- the canonical spelling of version 2
abbrev pub canon_2 : LogRecord → Order → List ℕ
canon_2 r order = spelling (octet_1 order + 2) r
