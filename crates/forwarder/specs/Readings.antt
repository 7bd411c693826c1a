-- What is read, and what is to be sent of it.
use Rattle.std.specs.Prelude.{◌≡◌, ◌==◌, if◌then◌else◌, List, ℕ, length, Option, Some, None}
use Rattle.cdr_record.specs.Decoding.{DecoderState, StandsFor}
use Rattle.cdr_record.specs.Feeding.{Feeds}
use Rattle.cdr_record.specs.declared.bad.Bad.{Bad}
use Rattle.cdr_record.specs.declared.decoder.Fed.{Fed}
use Rattle.forwarder.specs.Feeding.{sent_all}
use Rattle.forwarder.specs.declared.note.ForwardEnding.{ForwardEnding}
use Rattle.forwarder.specs.declared.note.ForwardEnding.TheVariants as end
use Rattle.forwarder.specs.declared.reading.Completed.{Completed}

-- a decoder stands for the bytes that it was fed
abbrev pub StandsForSome : DecoderState → Type 0
StandsForSome decoder = (fed : List ℕ) × StandsFor decoder fed

-- if a bad record came, reading stops at it
abbrev pub stop_of : Option Bad → Option ForwardEnding
stop_of None = None
stop_of (Some bad) = Some (end.BadRecord bad.at)

-- at the end of the input it stops there, or at a record that is unfinished
abbrev pub stop_at_end : DecoderState → ForwardEnding
stop_at_end decoder =
    if length decoder.rest == 0 then end.End else end.BadRecord decoder.offset

-- what a piece completed: the records that are whole now, spelled and counted, and whether a bad
-- one came
pub record CompletesSo (old : DecoderState) (piece : List ℕ) (came : Completed)
    (new : DecoderState) : Type 0 where
  pub fed : Fed
  pub feeds : Feeds old piece fed new
  pub bytes : came.bytes.items ≡ sent_all fed.records
  pub records : came.records ≡ length fed.records
  pub stop : came.stop ≡ stop_of fed.bad
