-- The bytes of a client that uses ACE 7 as it stands (`ACE_OutputCDR << ACE_Log_Record`), and the
-- records that they stand for. Such a client sends an order octet 0 or 1, as the book does, before
-- the fields of version 2, whose seconds have 64 bits. So 2 is added to the order octet, which
-- names version 2 then, and every other byte is as it is. A record that says that it is of version
-- 2 is as it is.
use Rattle.std.specs.Prelude.{ℕ, zero, suc, ◌+◌, ◌&&◌, not, Bool, nat_lt, if◌then◌else◌, List, []}
use Rattle.std.specs.Prelude.{◌∷◌, length}
use Rattle.cdr_record.specs.Grammar.{octet, payload_length}

-- version 1's order octet as that of version 2, which is 2 more; another one as it is
abbrev pub widened : ℕ → ℕ
widened first = if nat_lt first 2 then first + 2 else first

-- so many bytes a payload of version 2 may have: its fields take 24, a message at most 65,536
abbrev pub is_wide_length : ℕ → Bool
is_wide_length bytes = not (nat_lt bytes 24) && not (nat_lt 65560 bytes)

-- a list begins with a header of 8 bytes that has an order octet and the length of a payload of
-- version 2
abbrev pub is_header : List ℕ → Bool
is_header t = nat_lt (octet t) 4 && (not (nat_lt (length t) 8) && is_wide_length (payload_length t))

-- What stands for a list, of which so many bytes are no header's order octet: those are as they
-- are. Then comes a header, whose order octet is widened. After a whole one come the 7 bytes of
-- its rest, its payload and the next header. After what is no header all is as it is.
unfoldable pub wide_behind : ℕ → List ℕ → List ℕ
wide_behind passing [] = []
wide_behind (suc passing) (byte ∷ t) = byte ∷ wide_behind passing t
wide_behind zero (first ∷ t) =
    widened first ∷ (if is_header (first ∷ t) then wide_behind (7 + payload_length (first ∷ t)) t
    else t)

-- what stands for the bytes of such a client, from its first header on
abbrev pub as_wide : List ℕ → List ℕ
as_wide t = wide_behind 0 t
