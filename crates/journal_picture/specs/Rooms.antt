-- What is kept of the entries that were seen, and the room for more.
use Rattle.std.specs.Prelude.{ℕ, ◌-◌, min, vec_len, vec_capacity}
use Rattle.journal_picture.specs.declared.seen.Seen.{Seen}
use Rattle.journal_picture.specs.Places.{Tables}

abbrev pub tables_of : Seen → Tables
tables_of seen = record {
  lanes = seen.lanes.items;
  starts = seen.starts.items;
  timers = seen.timers.items;
}

-- how many entries more there is room for
abbrev pub room_of : Seen → ℕ
room_of seen =
    min (vec_capacity seen.lanes - vec_len seen.lanes)
    (min (vec_capacity seen.starts - vec_len seen.starts)
    (vec_capacity seen.timers - vec_len seen.timers))
