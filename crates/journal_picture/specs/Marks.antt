-- The marks of entries, as SVG elements (this project's own).
use Rattle.std.specs.Prelude.{ℕ, List, [], ◌∷◌, ◌++◌, codes, decimal}
use Rattle.reactor_journal.specs.ev_types.specs.declared.upcall.Handle.{Handle}
use Rattle.reactor_journal.specs.declared.entry.Entry.{Entry}
use Rattle.reactor_journal.specs.declared.entry.Entry.TheVariants.{Opened, Polled, Started}
use Rattle.reactor_journal.specs.declared.entry.Entry.TheVariants.{Returned, Suspended, Resumed}
use Rattle.reactor_journal.specs.declared.entry.Entry.TheVariants.{Closed, Ended}
use Rattle.log_handler.specs.declared.note.ServerNote.{ServerNote}
use Rattle.journal_text.specs.Texts.{entry_line}
use Rattle.journal_picture.specs.declared.layout.Layout.{Layout}
use Rattle.journal_picture.specs.declared.seen.Place.{Place}
use Rattle.journal_picture.specs.Layouts.{across, down, right, bottom}
use Rattle.journal_picture.specs.Places.{tables, place_in}
use Rattle.journal_picture.specs.Shapes.{class_of, shape_of}
use Rattle.journal_picture.specs.Pieces.{shape_text, bar_text, ground_text, line_text, moment_text}
use Rattle.journal_picture.specs.Pieces.{name_text}

-- the begin of the mark of an entry: its class, and as its title the number of the entry and its
-- text
abbrev pub titled : List ℕ → ℕ → Entry ServerNote → List ℕ
titled class number e = codes "<g class='" ++ class ++ (codes "'><title>" ++ decimal number)
    ++ codes " " ++ entry_line e

-- a wait: a line through all lanes, with its moment
abbrev pub wait_text : ℕ → ℕ → ℕ → List ℕ
wait_text x low now = line_text x low (codes "h1") ++ moment_text x now

-- a handle that was opened: the ground of its lane, and its name
abbrev pub birth : ℕ → ℕ → ℕ → Handle → List ℕ
birth x end y handle = ground_text (codes "life") x end y
    ++ name_text x y (codes "handle ") handle.0

-- the ground of the lane from the entry on, if the entry changes it
abbrev pub life : ℕ → ℕ → ℕ → Entry ServerNote → List ℕ
life x end y (Opened handle mask) = birth x end y handle
life x end y (Suspended handle) = ground_text (codes "held") x end y
life x end y (Resumed handle) = ground_text (codes "life") x end y
life x end y (Closed handle note) = ground_text (codes "gone") x end y
life x end y _ = []

-- What the mark of an entry shows: a line for a wait and for the end; a thin bar from an event to
-- the begin of its upcall, and a bar from there to where it was settled; and else a shape.
abbrev pub drawing : Layout → Place → Entry ServerNote → List ℕ
drawing layout place (Polled now) = wait_text (across layout place.number) (bottom layout) now
drawing layout place Ended = line_text (across layout place.number) (bottom layout) (codes "h3")
drawing layout place (Started event) =
    bar_text (across layout place.from) (across layout place.number) (down place.lane)
    (codes "m0 6H") (codes "v2H")
drawing layout place (Returned event answer note) =
    bar_text (across layout place.from) (across layout place.number) (down place.lane)
    (codes "m0-6H") (codes "v12H")
drawing layout place e =
    life (across layout place.number) (right layout) (down place.lane) e
    ++ shape_text (across layout place.number) (down place.lane) (shape_of e)

-- the mark of an entry
abbrev pub mark_text : Layout → Place → Entry ServerNote → List ℕ
mark_text layout place e = titled (class_of e) place.number e ++ codes "</title>"
    ++ drawing layout place e ++ codes "</g>\n"

-- the mark of the first entry that may not follow those before it: a line through all lanes, and
-- its number
abbrev pub bad_mark : ℕ → ℕ → ℕ → Entry ServerNote → List ℕ
bad_mark x low number e =
    titled (codes "bad") number e ++ codes "may not follow</title>" ++ line_text x low (codes "h3")
    ++ name_text x low (codes "bad entry ") number
    ++ codes "</g>\n"

-- a mark: an entry, and where it belongs
pub record Mark : Type 0 where
  pub place : Place
  pub entry : Entry ServerNote

-- the marks of a past, in the order of its entries: one for each of them
abbrev pub marks : ℕ → List (Entry ServerNote) → List Mark
marks handles [] = []
marks handles (e ∷ past) = marks handles past
    ++ record { place = place_in handles (tables handles past) e; entry = e } ∷ []

-- the text of a mark
abbrev pub text_of : Layout → Mark → List ℕ
text_of layout mark = mark_text layout mark.place mark.entry
