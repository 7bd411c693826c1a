-- A line from one thread to another. Of its ends, which are passes of its queue, one at most puts
-- and one at most takes.
use Rattle.std.specs.Prelude.{◌≡◌, ℕ, Bool, true, List, ◌++◌}
use mathlib.Core.Option.{some}
use lib.ListN.{get_elem?}
use Rattle.message_lines.specs.declared.line.Item.{Item}
use Rattle.message_lines.specs.declared.line.Log.{Log}

-- what an end may do, what it has put and what it has taken
abbrev pub log : Bool → Bool → List Item → List Item → Log
log puts takes sent got = record { puts = puts; takes = takes; sent = sent; got = got }

-- an end that puts is that of this number and has put all that was sent; one that takes, and all
-- that was got
abbrev pub FitsEnd : ℕ → ℕ → List Item → List Item → ℕ → Log → Type 0
FitsEnd writer reader sent got end v =
    (v.puts ≡ true → (end ≡ writer) × (v.sent ≡ sent))
    × (v.takes ≡ true → (end ≡ reader) × (v.got ≡ got))

-- what was sent is what was got, and then what the line holds
abbrev pub InLine : List Item → List Log → Type 0
InLine items views = (writer : ℕ) × (reader : ℕ) × (sent : List Item) × (got : List Item)
    × (sent ≡ got ++ items)
    × ((end : ℕ) (v : Log) → get_elem? views end ≡ some v → FitsEnd writer reader sent got end v)
