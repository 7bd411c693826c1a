-- What the end of a socket tells: counts, and no bytes (C++NPv2 chapter 3: `ACE_SOCK_Stream` and
-- `ACE_SOCK_Acceptor`).
use Rattle.std.specs.Prelude.{◌≡◌, false, None, option_map}
use Rattle.ev_base.specs.Terms.{Terms}
use Rattle.ev_base.specs.End.{EndFacts, IsFresh, Try, Moved, Accepted, Paused, WasOver, Faulted}
use Rattle.demux_mio.specs.declared.end.Came.{Came}
use Rattle.demux_mio.specs.declared.end.Came.TheVariants as came
use Rattle.demux_mio.specs.declared.end.EndState.{EndState}
use Rattle.demux_mio.specs.declared.end.MioEnd.{MioEnd}

abbrev pub try_of : Came → Try
try_of (came.Moved n) = Moved n
try_of came.Accepted = Accepted
try_of came.Paused = Paused
try_of came.WasOver = WasOver
try_of came.Faulted = Faulted

-- what the state of an end tells
abbrev pub facts_of : EndState → EndFacts
facts_of s = record {
  listener = s.listener;
  reads = s.reads;
  last_read = option_map try_of s.last_read;
  writes = s.writes;
  last_write = option_map try_of s.last_write;
  finishes = s.finishes;
  last_finish = s.last_finish;
  faults = s.faults;
  gave = s.gave;
  over = s.over;
  bytes = None;
  written = None;
  serial = None;
  telling = None;
  offering = None;
}

abbrev pub mio_end_facts : MioEnd → EndFacts
mio_end_facts e = facts_of e.state.value

-- the end of a connection, which has made no call
abbrev pub IsNewConnection : MioEnd → Type 0
IsNewConnection e = ((mio_end_facts e).listener ≡ false) × IsFresh (mio_end_facts e)

-- a socket tells no story: it keeps terms that lay none down for a listener
abbrev pub NoOffers : Terms → Type 0
NoOffers t = t.offers ≡ None

abbrev pub mio_end_keeps : Terms → MioEnd → Type 0
mio_end_keeps t e = NoOffers t
