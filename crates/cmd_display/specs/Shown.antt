-- What is shown of a stream of records, and how far that has come.
use Rattle.std.specs.Prelude.{◌≡◌, ℕ, Bool, true, false, List, [], ◌∷◌, ◌++◌, flat_map, map}
use Rattle.ev_base.specs.Source.{SourceFacts}
use Rattle.ev_base.specs.Sink.{SinkFacts}
use Rattle.cdr_record.specs.declared.record.LogRecord.{LogRecord}
use Rattle.cdr_record.specs.declared.bad.BadWhy.{BadWhy}
use Rattle.cdr_record.specs.declared.grammar.First.TheVariants as front
use Rattle.cdr_record.specs.Grammar.{first_of}
use Rattle.cdr_record.specs.Decoding.{decode}
use Rattle.cdr_record.specs.Feeding.{joined}
use Rattle.cdr_record.specs.Laws.{SpellsEach}
use Rattle.module_stream.specs.log_lines.specs.Texts.{record_text}
use Rattle.message_block.specs.Messages.{MessageState, block_of}
use Rattle.module_stream.specs.Progress.{Gives}
use Rattle.bounded_input.specs.Input.{TakesInput, IsReadToEnd}
use Rattle.bounded_input.specs.Reading.{IsTooLong, input_of, limit_of}
use Rattle.cmd_display.specs.declared.window.Window.{Window}
use Rattle.cmd_display.specs.declared.pipeline.Pipeline.{Pipeline}
use Rattle.cmd_display.specs.declared.showing.Stop.{Stop}
use Rattle.cmd_display.specs.declared.showing.Stop.TheVariants as stop
use Rattle.cmd_display.specs.declared.showing.Cut.{Cut}
use Rattle.cmd_display.specs.declared.showing.Cut.TheVariants as cut
use Rattle.cmd_display.specs.Windows.{Windows, rest_of}
use Rattle.cmd_display.specs.Pipelines.{Shows, ArePut}

-- the line of a record: its text and a line feed
abbrev pub shown_line : LogRecord → List ℕ
shown_line entry = record_text entry ++ 10 ∷ []

-- the lines of the records that a stream is read as
abbrev pub shown_of : List ℕ → List ℕ
shown_of bytes = flat_map shown_line (decode bytes).records

-- the bytes of a record as a message of one block
abbrev pub message_of : List ℕ → MessageState
message_of bytes = record { priority = 0; blocks = block_of bytes ∷ [] }

-- these bytes spell records, one after another, and these are the messages of their bytes
pub record IsCut (cut : List ℕ) (put : List MessageState) : Type 0 where
  pub pieces : List (List ℕ)
  pub records : List LogRecord
  pub spells : SpellsEach pieces records
  pub whole : cut ≡ joined pieces
  pub messages : put ≡ map message_of pieces

-- The bytes of the input were cut so far. It stopped there: at the end of the input, where the rest
-- is the beginning of a record or nothing, or at a bad record; at a failed read or a byte past
-- the limit, after a rest of the first kind; for want of memory; or because a write failed.
abbrev pub StopsAt : {S : Type 0} → (S → SourceFacts) → SourceFacts → Window S → List ℕ → Stop
    → Type 0
StopsAt facts i window cut stop.Over =
    Windows facts i window cut × IsReadToEnd (facts (input_of window.input))
    × (first_of (rest_of window) ≡ front.More)
StopsAt facts i window cut stop.Bad =
    Windows facts i window cut × ((why : BadWhy) × (first_of (rest_of window) ≡ front.Bad why))
StopsAt facts i window cut stop.Failed =
    (rest : List ℕ) × (first_of rest ≡ front.More)
    × TakesInput (limit_of window.input) true i (facts (input_of window.input)) (cut ++ rest) []
StopsAt facts i window cut stop.TooLong =
    (rest : List ℕ) × (first_of rest ≡ front.More)
    × IsTooLong (limit_of window.input) i (facts (input_of window.input)) (cut ++ rest)
StopsAt facts i window cut stop.NoMemory =
    (rest : List ℕ) × TakesInput (limit_of window.input) false i (facts (input_of window.input))
    (cut ++ rest) []
StopsAt facts i window cut stop.Broken = Windows facts i window cut

-- the bytes of these records were cut, and their messages were put into the first task
pub record IsShowing {S F G K : Type 0} (sources : S → SourceFacts) (gives : F → Gives)
    (gives' : G → Gives) (sinks : K → SinkFacts) (i : SourceFacts) (first second : Gives)
    (o : SinkFacts)
    (window : Window S) (pipeline : Pipeline F G K) : Type 0 where
  pub cut : List ℕ
  pub put : List MessageState
  pub is_cut : IsCut cut put
  pub windows : Windows sources i window cut
  pub shows : Shows gives gives' sinks first second o put pipeline

-- What reading the records of an input leaves. The bytes of these records were cut, and their
-- messages were put.
pub record ReadLeaves {S F G K : Type 0} (sources : S → SourceFacts) (gives : F → Gives)
    (gives' : G → Gives) (sinks : K → SinkFacts) (i : SourceFacts) (first second : Gives)
    (o : SinkFacts)
    (stop : Stop) (whole : Bool) (window : Window S) (pipeline : Pipeline F G K) : Type 0 where
  pub cut : List ℕ
  pub put : List MessageState
  pub is_cut : IsCut cut put
  pub stops : StopsAt sources i window cut stop
  pub are_put : ArePut gives gives' sinks first second o put whole pipeline

-- the bytes of these messages' records were cut
pub record HasCut {S : Type 0} (sources : S → SourceFacts) (i : SourceFacts)
    (put : List MessageState) (window : Window S) : Type 0 where
  pub cut : List ℕ
  pub is_cut : IsCut cut put
  pub windows : Windows sources i window cut

-- why no more records are cut off: more bytes are needed, or a bad record stands first, or there
-- was no memory
abbrev pub Stops : {S : Type 0} → Cut → Window S → Type 0
Stops cut.More window = first_of (rest_of window) ≡ front.More
Stops cut.Bad window = (why : BadWhy) × (first_of (rest_of window) ≡ front.Bad why)
Stops cut.NoMemory window = Unit {0}

-- what cutting the records off that are there leaves
abbrev pub Cuts : {S F G K : Type 0} → (S → SourceFacts) → (F → Gives) → (G → Gives)
    → (K → SinkFacts) → SourceFacts → Gives → Gives → SinkFacts → Cut → Window S → Pipeline F G K
    → Type 0
Cuts sources gives gives' sinks i first second o cut.More window pipeline =
    IsShowing sources gives gives' sinks i first second o window pipeline
    × (first_of (rest_of window) ≡ front.More)
Cuts sources gives gives' sinks i first second o cut.Bad window pipeline =
    ReadLeaves sources gives gives' sinks i first second o stop.Bad true window pipeline
Cuts sources gives gives' sinks i first second o cut.NoMemory window pipeline =
    ReadLeaves sources gives gives' sinks i first second o stop.NoMemory false window pipeline
