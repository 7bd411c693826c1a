-- What stands before the marks (this project's own).
use Rattle.std.specs.Prelude.{ℕ, zero, suc, ◌+◌, ◌*◌, ◌/◌, nat_le, if◌then◌else◌, List, [], ◌++◌}
use Rattle.std.specs.Prelude.{codes, decimal}
use Rattle.journal_picture.specs.declared.layout.Layout.{Layout}
use Rattle.journal_picture.specs.Layouts.{told, across, width, height}
use Rattle.journal_picture.specs.Legends.{style, legend}

-- the size of the picture, the style sheet and the ground
abbrev pub begin : ℕ → ℕ → List ℕ
begin wide high =
    (codes
    "<svg xmlns='http://www.w3.org/2000/svg' font-family='sans-serif' font-size='11' viewBox='0 0 "
    ++ decimal wide) ++ (codes " " ++ decimal high)
    ++ (codes "' width='" ++ decimal wide) ++ (codes "' height='" ++ decimal high) ++ codes "'>\n"
    ++ style
    ++ codes "<rect width='100%' height='100%' fill='#fff'/>\n"

-- the number of an entry above the lanes
abbrev pub tick : Layout → ℕ → List ℕ
tick layout number = (codes "<text class='axis' y='84' x='" ++ decimal (across layout number))
    ++ (codes "'>" ++ decimal number) ++ codes "</text>\n"

-- how many entries it is from one such number to the next
abbrev pub ticks_apart : ℕ → ℕ
ticks_apart step = if nat_le 12 step then 10 else if nat_le 4 step then 25 else 100

-- the first n of these numbers
abbrev pub ticks : Layout → ℕ → List ℕ
ticks layout zero = []
ticks layout (suc n) = ticks layout n ++ tick layout (told (n * ticks_apart layout.step))

abbrev pub axis : Layout → List ℕ
axis layout = ticks layout (told (layout.entries / ticks_apart layout.step + 1))

abbrev pub header : Layout → List ℕ
header layout =
    begin (width layout) (height layout) ++ legend
    ++ codes "<text class='name' x='80' y='84'>entry</text>\n"
    ++ codes "<text class='name' x='80' y='119'>ms</text>\n"
    ++ codes "<text class='name' x='87' y='144'>reactor</text>\n" ++ axis layout
