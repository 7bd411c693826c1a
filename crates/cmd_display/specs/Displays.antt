-- What `logd display` did, by how it ended. The input told the facts i before and tells j now, the
-- output o and p; `limit` is how many bytes may be read.
use Rattle.std.specs.Prelude.{◌≡◌, ◌+◌, ◌⊎◌, ℕ, true, false, List, [], ◌∷◌, length}
use Rattle.ev_base.specs.Source.{SourceFacts}
use Rattle.ev_base.specs.Sink.{SinkFacts}
use Rattle.cdr_record.specs.Decoding.{Clean, Partial, Malformed, decode}
use Rattle.sink_buffer.specs.Written.{IsPrefixOf, TakesAll, BreaksOff}
use Rattle.bounded_input.specs.Input.{TakesInput, IsReadToEnd}
use Rattle.cmd_display.specs.declared.showing.DisplayEnd.{DisplayEnd}
use Rattle.cmd_display.specs.declared.showing.DisplayEnd.TheVariants as end
use Rattle.cmd_display.specs.Shown.{shown_of}

-- all records were shown, and nothing is left after them
pub record IsDone (limit : ℕ) (i : SourceFacts) (o : SinkFacts) (j : SourceFacts)
    (p : SinkFacts) : Type 0 where
  pub taken : List ℕ
  pub takes : TakesInput limit false i j taken []
  pub over : IsReadToEnd j
  pub stop : (decode taken).stop ≡ Clean
  pub written : TakesAll o (shown_of taken) p

-- reading stops at this place: a bad record stands there, or an unfinished one, after which the
-- input is over
abbrev pub StopsAtRecord : SourceFacts → List ℕ → ℕ → Type 0
StopsAtRecord j taken at = ((decode taken).stop ≡ Malformed at)
    ⊎ (IsReadToEnd j × ((n : ℕ) × ((decode taken).stop ≡ Partial n) × (at + n ≡ length taken)))

-- no bad record stands in these bytes
abbrev pub HasNoBadRecord : List ℕ → Type 0
HasNoBadRecord taken = (at : ℕ) → ¬ ((decode taken).stop ≡ Malformed at)

-- the records before a bad or an unfinished one, at this place, were shown
pub record IsBadRecord (limit : ℕ) (i : SourceFacts) (o : SinkFacts) (j : SourceFacts)
    (p : SinkFacts) (at : ℕ) : Type 0 where
  pub taken : List ℕ
  pub takes : TakesInput limit false i j taken []
  pub stop : StopsAtRecord j taken at
  pub written : TakesAll o (shown_of taken) p

-- A read failed after bytes in which no record is bad: a front of what is shown of them was
-- written, unless a write failed too.
pub record IsReadFault (limit : ℕ) (i : SourceFacts) (o : SinkFacts) (j : SourceFacts)
    (p : SinkFacts) : Type 0 where
  pub taken : List ℕ
  pub takes : TakesInput limit true i j taken []
  pub sound : HasNoBadRecord taken
  pub text : List ℕ
  pub front : IsPrefixOf text (shown_of taken)
  pub written : TakesAll o text p ⊎ BreaksOff o text p

-- a write failed: a front of what is shown of the bytes that were read was written
pub record IsWriteFault (limit : ℕ) (i : SourceFacts) (o : SinkFacts) (j : SourceFacts)
    (p : SinkFacts) : Type 0 where
  pub taken : List ℕ
  pub extra : List ℕ
  pub takes : TakesInput limit false i j taken extra
  pub written : BreaksOff o (shown_of taken) p

-- there was no memory: a front of what is shown of the bytes that were read was written
pub record IsNoMemory (limit : ℕ) (i : SourceFacts) (o : SinkFacts) (j : SourceFacts)
    (p : SinkFacts) : Type 0 where
  pub taken : List ℕ
  pub extra : List ℕ
  pub takes : TakesInput limit false i j taken extra
  pub text : List ℕ
  pub front : IsPrefixOf text (shown_of taken)
  pub written : TakesAll o text p

-- a byte follows the last that may be read, before which no record is bad
pub record IsTooLong (limit : ℕ) (i : SourceFacts) (o : SinkFacts) (j : SourceFacts)
    (p : SinkFacts) : Type 0 where
  pub taken : List ℕ
  pub more : ℕ
  pub takes : TakesInput limit false i j taken (more ∷ [])
  pub sound : HasNoBadRecord taken
  pub written : TakesAll o (shown_of taken) p

abbrev pub Displays : ℕ → SourceFacts → SinkFacts → SourceFacts → SinkFacts → DisplayEnd → Type 0
Displays limit i o j p end.Done = IsDone limit i o j p
Displays limit i o j p (end.BadRecord at) = IsBadRecord limit i o j p at
Displays limit i o j p end.ReadFault = IsReadFault limit i o j p
Displays limit i o j p end.WriteFault = IsWriteFault limit i o j p
Displays limit i o j p end.NoMemory = IsNoMemory limit i o j p
Displays limit i o j p end.TooLong = IsTooLong limit i o j p
