-- Of which items a writer has made lines.
use Rattle.std.specs.Prelude.{◌≡◌, ◌⊎◌, ℕ, List, [], ◌∷◌, ◌++◌, map}
use Rattle.task_server.specs.declared.item.Item.{Item}
use Rattle.cmd_pool.specs.declared.line.Line.{Line}
use Rattle.cmd_pool.specs.declared.line.Lines.{Lines}
use Rattle.cmd_pool.specs.Lines.{items_in}

-- the items of some lines after another
abbrev pub items_of : List Lines → List Item
items_of [] = []
items_of (lines ∷ rest) = items_in lines.text.items lines.lines.items ++ items_of rest

-- these stand among those, in order, each at most once
abbrev pub AreAmong : {A : Type 0} → List A → List A → Type 0
AreAmong {A} xs [] = xs ≡ []
AreAmong {A} xs (y ∷ ys) = AreAmong xs ys ⊎ ((rest : List A) × (xs ≡ y ∷ rest) × AreAmong rest ys)

-- lines came after others: those of some of the items that a writer was given, in order, each at
-- most once
abbrev pub AddsLinesOf : List Item → List Lines → List Lines → Type 0
AddsLinesOf given old new = (items : List Item) × AreAmong items given
    × (items_of new ≡ items_of old ++ items)
