-- The end that the tests of a reactor use: it always pauses.
use Rattle.std.specs.Prelude.{ℕ, zero, suc, false, [], Option, Some, None, false}
use Rattle.ev_base.specs.End.{EndFacts, Try, Paused}
use Rattle.ev_base.specs.KeepsStory.{KeepsStory}
use Rattle.ev_base.specs.Terms.{Terms}
use Rattle.demux.specs.declared.play_end.PlayEnd.{PlayEnd}

-- what the last of so many tries came to, each of which paused
abbrev pub last_of : ℕ → Option Try
last_of zero = None
last_of (suc tries) = Some Paused

-- it is a connection's end without a number or a story; it has no bytes to give, took none and
-- never failed
abbrev pub play_end_facts : PlayEnd → EndFacts
play_end_facts end = record {
  listener = false;
  reads = end.reads;
  last_read = last_of end.reads;
  writes = end.writes;
  last_write = last_of end.writes;
  finishes = 0;
  last_finish = None;
  faults = 0;
  gave = 0;
  over = false;
  bytes = Some (record { given = []; left = [] });
  written = Some [];
  serial = None;
  telling = None;
  offering = None;
}

-- it keeps its story, if the terms have one of it
abbrev pub play_end_keeps : Terms → PlayEnd → Type 0
play_end_keeps t end = KeepsStory t (play_end_facts end)
