-- The words and shapes of marks (this project's own). A shape is a path from where the entry stands
-- on, in the middle of its lane.
use Rattle.std.specs.Prelude.{ℕ, List, [], codes}
use Rattle.reactor_journal.specs.ev_types.specs.declared.upcall.Answer.{Answer}
use Rattle.reactor_journal.specs.ev_types.specs.declared.upcall.Answer.TheVariants.{Keep, Again}
use Rattle.reactor_journal.specs.ev_types.specs.declared.upcall.Answer.TheVariants.{Close}
use Rattle.reactor_journal.specs.declared.entry.Entry.{Entry}
use Rattle.reactor_journal.specs.declared.entry.Entry.TheVariants.{Opened, Scheduled, Cancelled}
use Rattle.reactor_journal.specs.declared.entry.Entry.TheVariants.{Polled, Due, Ready, Posted}
use Rattle.reactor_journal.specs.declared.entry.Entry.TheVariants.{Stale, Started, Returned, Masked}
use Rattle.reactor_journal.specs.declared.entry.Entry.TheVariants.{Suspended, Resumed, Refused}
use Rattle.reactor_journal.specs.declared.entry.Entry.TheVariants.{Removed, Closed, Ended}
use Rattle.log_handler.specs.declared.note.ServerNote.{ServerNote}

-- the class of the bar of an upcall
abbrev pub answer_class : Answer → List ℕ
answer_class Keep = codes "keep"
answer_class Again = codes "again"
answer_class Close = codes "close"

-- the class of an entry's mark, which the style sheet gives its colour
abbrev pub class_of : Entry ServerNote → List ℕ
class_of (Opened handle mask) = codes "opened"
class_of (Scheduled timer handle first every) = codes "scheduled"
class_of (Cancelled timer) = codes "cancelled"
class_of (Polled now) = codes "polled"
class_of (Due timer) = codes "due"
class_of (Ready handle kind) = codes "ready"
class_of (Posted handle kind from seq) = codes "posted"
class_of (Stale handle from seq) = codes "stale"
class_of (Started event) = codes "started"
class_of (Returned event answer note) = answer_class answer
class_of (Masked handle mask) = codes "masked"
class_of (Suspended handle) = codes "suspended"
class_of (Resumed handle) = codes "resumed"
class_of (Refused live fault note) = codes "refused"
class_of (Removed handle) = codes "removed"
class_of (Closed handle note) = codes "closed"
class_of Ended = codes "ended"

-- the shape of its mark: triangles, squares, circles, diamonds and bars; what has a bar or a line
-- of its own has none
abbrev pub shape_of : Entry ServerNote → List ℕ
shape_of (Opened handle mask) = codes "m0-7l9 7-9 7z"
shape_of (Scheduled timer handle first every) = codes "m0-4h8v8h-8z"
shape_of (Cancelled timer) = codes "m0-4h8v8h-8z"
shape_of (Polled now) = []
shape_of (Due timer) = codes "m0-4h8v8h-8z"
shape_of (Ready handle kind) = codes "m0 0a4 4 0 1 0 8 0a4 4 0 1 0-8 0z"
shape_of (Posted handle kind from seq) = codes "m0 0l5-5 5 5-5 5z"
shape_of (Stale handle from seq) = codes "m0 0l5-5 5 5-5 5z"
shape_of (Started event) = []
shape_of (Returned event answer note) = []
shape_of (Masked handle mask) = codes "m0-1h8v3h-8z"
shape_of (Suspended handle) = codes "m0-6h3v12h-3zm5 0h3v12h-3z"
shape_of (Resumed handle) = codes "m0-6l8 6-8 6z"
shape_of (Refused live fault note) = codes "m5-6l5 11h-10z"
shape_of (Removed handle) = codes "m0-4l2-2 3 3 3-3 2 2-3 3 3 3-2 2-3-3-3 3-2-2 3-3z"
shape_of (Closed handle note) = codes "m0-9h4v18h-4z"
shape_of Ended = []
