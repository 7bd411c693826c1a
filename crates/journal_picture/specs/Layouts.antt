-- Where things stand in the picture, in the units of its `viewBox` (this project's own).
use Rattle.std.specs.Prelude.{ℕ, ◌+◌, ◌-◌, ◌*◌, ◌^◌, nat_le, min, max, if◌then◌else◌}
use Rattle.journal_picture.specs.declared.layout.Layout.{Layout}

-- A number is told in 64 bits. One that is too large is told as the largest of them.
abbrev pub told : ℕ → ℕ
told number = min number (2 ^ 64 - 1)

-- how far it is from one of so many entries to the next
abbrev pub step_for : ℕ → ℕ
step_for entries = if nat_le entries 4000 then 12 else if nat_le entries 30000 then 4 else 1

-- the layout for so many entries and handles
abbrev pub layout_of : ℕ → ℕ → Layout
layout_of entries handles = record { step = step_for entries; entries = entries; handles = handles }

-- where the entry of this number stands from the left, and the middle of a lane from above; lane 0
-- is the reactor's own
abbrev pub across : Layout → ℕ → ℕ
across layout number = told (told (layout.step * number) + 90)

abbrev pub down : ℕ → ℕ
down lane = told (told (lane * 22) + 140)

-- where the lanes end on the right and below, and the size of the picture
abbrev pub right : Layout → ℕ
right layout = told (across layout layout.entries + 10)

abbrev pub bottom : Layout → ℕ
bottom layout = told (down layout.handles + 16)

abbrev pub width : Layout → ℕ
width layout = max (told (right layout + 30)) 1000

abbrev pub height : Layout → ℕ
height layout = told (bottom layout + 16)
