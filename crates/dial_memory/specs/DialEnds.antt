-- The end of a connection that is made in memory: what it answers was laid down.
use Rattle.std.specs.Prelude.{ℕ, zero, suc, ◌==◌, ◌&&◌, Bool, false, List, [], length, is_none}
use Rattle.std.specs.Prelude.{Option, Some, None, option_map}
use Rattle.ev_base.specs.Terms.{Terms}
use Rattle.ev_base.specs.KeepsStory.{KeepsStory}
use Rattle.ev_base.specs.End.{EndFacts, Try, Moved, Paused, Faulted}
use Rattle.ev_base.specs.declared.dial.Finish.{Finish}
use Rattle.ev_base.specs.declared.end.Sent.{Sent}
use Rattle.ev_base.specs.declared.end.Sent.TheVariants as sent
use Rattle.dial_memory.specs.declared.mem_dial_end.MemDialEnd.{MemDialEnd}

-- what the last of so many reads came to, each of which paused
abbrev pub last_of : ℕ → Option Try
last_of zero = None
last_of (suc reads) = Some Paused

-- what a write came to
abbrev pub try_of : Sent → Try
try_of (sent.Bytes n) = Moved n
try_of sent.Pause = Paused
try_of sent.Failed = Faulted

-- what it was given, and for how many bytes it has room in all
abbrev pub held_of : MemDialEnd → List ℕ
held_of end = end.held.items

abbrev pub room_of : MemDialEnd → ℕ
room_of end = end.room

-- what was laid down: the answers of `finish`, the most that writes take, and the numbers of those
-- that fail
abbrev pub finishes_of : MemDialEnd → List Finish
finishes_of end = end.finishes.items

abbrev pub takes_of : MemDialEnd → List ℕ
takes_of end = end.takes.items

abbrev pub fails_of : MemDialEnd → List ℕ
fails_of end = end.fails.items

-- It has no number and no story, gives nothing, and tells what it was given.
abbrev pub mem_dial_end_facts : MemDialEnd → EndFacts
mem_dial_end_facts end = record {
  listener = false;
  reads = end.reads;
  last_read = last_of end.reads;
  writes = end.writes;
  last_write = option_map try_of end.last_write;
  finishes = end.asked;
  last_finish = end.last_finish;
  faults = end.faults;
  gave = 0;
  over = false;
  bytes = Some (record { given = []; left = [] });
  written = Some end.held.items;
  serial = None;
  telling = None;
  offering = None;
}

-- it keeps its story, which it has not
abbrev pub mem_dial_end_keeps : Terms → MemDialEnd → Type 0
mem_dial_end_keeps t end = KeepsStory t (mem_dial_end_facts end)

-- it made no call, and was given nothing
abbrev pub is_new_end : MemDialEnd → Bool
is_new_end end = end.reads == 0 && (end.writes == 0
    && (is_none end.last_write && (end.asked == 0
    && (is_none end.last_finish && (end.faults == 0 && length end.held.items == 0)))))
