-- The end of the one connection of the command `logd one`, whose bytes come from a source (C++NPv2
-- chapter 3: `ACE_SOCK_Stream`; the source in place of a socket, and the limit, are this project's
-- own).
use Rattle.std.specs.Prelude.{◌≡◌, ◌≢◌, ◌+◌, ◌-◌, ◌⊎◌, ℕ, zero, suc, Bool, true, false, nat_lt}
use Rattle.std.specs.Prelude.{◌&&◌, is_none, List, [], ◌++◌, length, take, drop, Option, Some, None}
use Rattle.std.specs.Prelude.{option_map, option_to_list}
use Rattle.ev_base.specs.Counts.{Rose}
use Rattle.ev_base.specs.Bytes.{ReaderBytes}
use Rattle.ev_base.specs.Source.{SourceFacts}
use Rattle.ev_base.specs.End.{EndFacts, Try, Moved, Paused, WasOver, Faulted}
use Rattle.ev_base.specs.declared.source.Got.{Got}
use Rattle.ev_base.specs.declared.source.Got.TheVariants as got
use Rattle.one_net.specs.declared.one_end.OneEnd.{OneEnd}

-- ---- what it is made of

-- the source that it reads
abbrev pub input_of : {S : Type 0} → OneEnd S → S
input_of end = end.input

-- how many bytes it gives at most
abbrev pub limit_of : {S : Type 0} → OneEnd S → ℕ
limit_of end = end.limit

-- how many bytes it gave
abbrev pub count_of : {S : Type 0} → OneEnd S → ℕ
count_of end = end.given

-- the byte past the limit that it met and keeps, if there was one
abbrev pub extra_of : {S : Type 0} → OneEnd S → List ℕ
extra_of end = option_to_list end.extra

-- how many bytes it took from its source: those that it gave, and the one that it keeps
abbrev pub took_of : {S : Type 0} → OneEnd S → ℕ
took_of end = count_of end + length (extra_of end)

-- whether a read of the source failed
abbrev pub failed_of : {S : Type 0} → OneEnd S → Bool
failed_of end = end.failed

-- ---- its bytes

-- the last so many of some bytes
abbrev pub last_bytes : ℕ → List ℕ → List ℕ
last_bytes count bytes = drop (length bytes - count) bytes

-- Of the bytes that the source gave, those that the end gave: it keeps the last `kept`, and gave
-- the `count` before them.
abbrev pub passed_on : ℕ → ℕ → List ℕ → List ℕ
passed_on kept count given = last_bytes count (take (length given - kept) given)

-- The bytes that the end gave since it was made, if the source tells its bytes: those that the
-- source gave before are not among them.
abbrev pub given_by : ℕ → ℕ → Option ReaderBytes → List ℕ
given_by kept count None = []
given_by kept count (Some bytes) = passed_on kept count bytes.given

abbrev pub given_of : {S : Type 0} → (S → SourceFacts) → OneEnd S → List ℕ
given_of facts end = given_by (length (extra_of end)) end.given (facts end.input).bytes

-- the end's bytes: those that it gave, and the byte that it keeps with what the source has left
abbrev pub end_bytes : List ℕ → ℕ → Option ReaderBytes → Option ReaderBytes
end_bytes extra count None = None
end_bytes extra count (Some bytes) =
    Some (record { given = passed_on (length extra) count bytes.given; left = extra ++ bytes.left })

-- ---- what it tells

-- what a read came to
abbrev pub try_of : Got → Try
try_of (got.Bytes n) = Moved n
try_of got.Pause = Paused
try_of got.Over = WasOver
try_of got.Failed = Faulted

-- what the last of so many writes came to, each of which paused
abbrev pub last_of : ℕ → Option Try
last_of zero = None
last_of (suc writes) = Some Paused

-- a read answered Over: it made one, met no byte past the limit, and the source is over
abbrev pub is_over : ℕ → Option ℕ → Bool → Bool
is_over reads extra over = nat_lt 0 reads && (is_none extra && over)

-- It is the connection's end of number 0. It counts its own faults, tells its bytes if the
-- source does, and tells neither what is written, since it takes nothing, nor parts of a story.
abbrev pub one_end_facts : {S : Type 0} → (S → SourceFacts) → OneEnd S → EndFacts
one_end_facts facts end = record {
  listener = false;
  reads = end.reads;
  last_read = option_map try_of end.last;
  writes = end.writes;
  last_write = last_of end.writes;
  finishes = 0;
  last_finish = None;
  faults = end.faults;
  gave = end.given;
  over = is_over end.reads end.extra (facts end.input).over;
  bytes = end_bytes (extra_of end) end.given (facts end.input).bytes;
  written = None;
  serial = Some 0;
  telling = None;
  offering = None;
}

-- ---- what a read does to what it is made of

-- a read of the source failed, which the end remembers
pub record SourceFails {S : Type 0} (facts : S → SourceFacts) (old new : OneEnd S) : Type 0 where
  pub failed : failed_of new ≡ true
  pub rose : Rose (facts (input_of old)).faults (facts (input_of new)).faults
  pub extra : extra_of new ≡ []

-- a byte past the limit was met, now or before
pub record MeetsByte {S : Type 0} (facts : S → SourceFacts) (old new : OneEnd S) : Type 0 where
  pub extra : extra_of new ≢ []
  pub behind : extra_of old ≡ [] → count_of old ≡ limit_of old
  pub failed : failed_of new ≡ failed_of old
  pub faults : (facts (input_of new)).faults ≡ (facts (input_of old)).faults

-- since one state of the end and another the source gave just the bytes that the end took from it
abbrev pub TakesAll : {S : Type 0} → (S → SourceFacts) → OneEnd S → OneEnd S → Type 0
TakesAll facts old new = (facts (input_of new)).gave + took_of old
    ≡ (facts (input_of old)).gave + took_of new

-- Why a read answers what it answers. A fault is one of the source, or a byte past the limit.
abbrev pub OneReads : {S : Type 0} → (S → SourceFacts) → OneEnd S → Got → OneEnd S → Type 0
OneReads facts old (got.Bytes n) new =
    (count_of new ≡ count_of old + n) × (extra_of new ≡ []) × (failed_of new ≡ failed_of old)
OneReads facts old got.Pause new = ⊥
OneReads facts old got.Over new = ((facts (input_of new)).over ≡ true)
    × (count_of new ≡ count_of old) × (extra_of new ≡ []) × (failed_of new ≡ failed_of old)
OneReads facts old got.Failed new =
    (count_of new ≡ count_of old) × (SourceFails facts old new ⊎ MeetsByte facts old new)
