-- What a reader tells whose bytes are those of another one with wide order octets.
use Rattle.std.specs.Prelude.{◌++◌, length, drop, Option, None, option_map}
use Rattle.ev_base.specs.Bytes.{ReaderBytes}
use Rattle.ev_base.specs.Source.{SourceFacts}
use Rattle.ev_base.specs.End.{EndFacts}
use Rattle.ace7_input.specs.Wide.{as_wide}

-- what was given, and what is left after that of what stands for all bytes
abbrev pub wide_bytes : ReaderBytes → ReaderBytes
wide_bytes b = record {
  given = as_wide b.given;
  left = drop (length b.given) (as_wide (b.given ++ b.left));
}

abbrev pub told_wide : Option ReaderBytes → Option ReaderBytes
told_wide bytes = option_map wide_bytes bytes

-- a source tells all else as the other one
abbrev pub wide_source : SourceFacts → SourceFacts
wide_source s = record s { bytes = told_wide s.bytes }

-- and so does an end, but for the parts of its story, which are those of the other bytes
abbrev pub wide_end : EndFacts → EndFacts
wide_end e = record e { bytes = told_wide e.bytes; telling = None }
