-- At which place of a client's bytes a piece ends, and what stands for those that follow.
use Rattle.std.specs.Prelude.{◌≡◌, ◌+◌, ◌-◌, ℕ, List, ◌++◌, length, take, Option, Some}
use Rattle.std.specs.Prelude.{if◌then◌else◌}
use Rattle.ev_base.specs.Bytes.{ReaderBytes}
use Rattle.cdr_record.specs.Grammar.{payload_length}
use Rattle.ace7_input.specs.Wide.{as_wide, is_header, is_wide_length, wide_behind}
use Rattle.ace7_input.specs.declared.begun.Begun.{Begun}
use Rattle.ace7_input.specs.declared.place.Place.{Place}
use Rattle.ace7_input.specs.declared.place.Place.TheVariants.{Payload, Header, Behind}

-- the bytes of a header that came
abbrev pub bytes_of : Begun → List ℕ
bytes_of begun = take begun.count begun.bytes

-- what stands for the bytes that follow those of a header
abbrev pub behind_begun : List ℕ → List ℕ → List ℕ
behind_begun begun t =
    if is_header (begun ++ t)
    then wide_behind (8 - length begun + payload_length (begun ++ t)) t
    else t

-- what stands for the bytes that follow a place
abbrev pub behind : Place → List ℕ → List ℕ
behind (Payload left) t = wide_behind left t
behind (Header begun) t = behind_begun (bytes_of begun) t
behind Behind t = t

-- the place after a whole header
abbrev pub place_after : List ℕ → Place
place_after header =
    if is_wide_length (payload_length header) then Payload (payload_length header) else Behind

-- a piece at a place is given as these bytes, and ends at a place, whatever follows
abbrev pub Passes : Place → List ℕ → List ℕ → Place → Type 0
Passes old piece given new = (t : List ℕ) → behind old (piece ++ t) ≡ given ++ behind new t

-- if a reader tells its bytes, those that it gave end at this place
abbrev pub EndsAt : Option ReaderBytes → Place → Type 0
EndsAt bytes place = (b : ReaderBytes) → bytes ≡ Some b → (t : List ℕ)
    → as_wide (b.given ++ t) ≡ as_wide b.given ++ behind place t
