-- The pieces of marks, as SVG elements (this project's own). Places are in the units of the
-- `viewBox`.
use Rattle.std.specs.Prelude.{ℕ, List, ◌++◌, codes, decimal}

-- a shape at a place
abbrev pub shape_text : ℕ → ℕ → List ℕ → List ℕ
shape_text x y shape = codes "<path d='M" ++ decimal x ++ (codes " " ++ decimal y) ++ shape
    ++ codes "'/>"

-- a bar of a lane, from one place to another
abbrev pub bar_text : ℕ → ℕ → ℕ → List ℕ → List ℕ → List ℕ
bar_text from to y above height =
    codes "<path d='M" ++ decimal from ++ (codes " " ++ decimal y) ++ (above ++ decimal to)
    ++ (height ++ decimal from) ++ codes "z'/>"

-- the ground of a lane, from one place to another
abbrev pub ground_text : List ℕ → ℕ → ℕ → ℕ → List ℕ
ground_text class from to y =
    codes "<path class='" ++ class ++ (codes "' d='M" ++ decimal from) ++ (codes " " ++ decimal y)
    ++ (codes "m0-9H" ++ decimal to)
    ++ (codes "v18H" ++ decimal from) ++ codes "z'/>"

-- a line through all lanes
abbrev pub line_text : ℕ → ℕ → List ℕ → List ℕ
line_text x bottom width = codes "<path d='M" ++ decimal x ++ (codes " 124V" ++ decimal bottom)
    ++ width ++ codes "V124z'/>"

-- the moment at which a wait was answered, above its line
abbrev pub moment_text : ℕ → ℕ → List ℕ
moment_text x now = codes "<text class='moment' dy='8' transform='translate(" ++ decimal x
    ++ (codes " 121)rotate(-90)'>" ++ decimal now) ++ codes "</text>"

-- the name of what stands at a place, to the left of it
abbrev pub name_text : ℕ → ℕ → List ℕ → ℕ → List ℕ
name_text x y word number =
    codes "<text class='name' dx='-3' dy='4' x='" ++ decimal x ++ (codes "' y='" ++ decimal y)
    ++ codes "'>" ++ (word ++ decimal number)
    ++ codes "</text>"
