-- What the one end keeps under the terms that a run starts with (C++NPv2 chapter 4: the networked
-- logging server; the terms and the limit are this project's own).
use Rattle.std.specs.Prelude.{◌≡◌, ◌≢◌, ◌≤◌, ◌+◌, ◌^◌, ◌⊎◌, ℕ, Bool, true, false, List, [], ◌++◌}
use Rattle.std.specs.Prelude.{length, Option, Some, None}
use Rattle.ev_base.specs.Bytes.{ReaderBytes, MovesOn, NothingLeft}
use Rattle.ev_base.specs.Source.{SourceFacts}
use Rattle.ev_base.specs.Story.{Story, OfBytes, OfParts}
use Rattle.ev_base.specs.Terms.{Terms, story_of}
use Rattle.ev_base.specs.End.{Paused}
use Rattle.bounded_input.specs.Input.{FaultsSince}
use Rattle.one_net.specs.declared.one_end.OneEnd.{OneEnd}
use Rattle.one_net.specs.OneEnd.{input_of, limit_of, count_of, extra_of, took_of, failed_of}
use Rattle.one_net.specs.OneEnd.{given_of, one_end_facts}

-- the limit of the command `one` in bytes
abbrev pub most_input : ℕ
most_input = 2 ^ 40

-- the bytes of a source at the start, of the story of what it had left then and that of what it had
-- given before
abbrev pub start_bytes : Option Story → Option Story → Option ReaderBytes
start_bytes (Some (OfBytes left)) (Some (OfBytes before)) =
    Some (record { given = before; left = left })
start_bytes (Some (OfBytes left)) (Some (OfParts parts)) = None
start_bytes (Some (OfBytes left)) None = None
start_bytes (Some (OfParts parts)) before = None
start_bytes None before = None

-- The source's bytes at the start, read off the terms. The terms of the command have, as story of
-- number 0, the bytes that the source had left at the start, and under number 1, which no end has,
-- those that it gave before. If the source tells no bytes, they have no story.
abbrev pub bytes_at_start : Terms → Option ReaderBytes
bytes_at_start t = start_bytes (story_of t 0) (story_of t 1)

-- a story of number 0 is that of the bytes that the source had left at the start
abbrev pub IsStoryOfSource : Terms → Type 0
IsStoryOfSource t = (story : Story) → story_of t 0 ≡ Some story → (bytes : ReaderBytes)
    × (bytes_at_start t ≡ Some bytes) × (story ≡ OfBytes bytes.left)

-- the terms lay down what a source tells at the start of a run
pub record StartsAt (t : Terms) (source : SourceFacts) : Type 0 where
  pub gave : (g : ℕ) → t.input_gave ≡ Some g → g ≡ source.gave
  pub faults : (f : ℕ) → t.input_faults ≡ Some f → f ≡ source.faults
  pub bytes : bytes_at_start t ≡ source.bytes
  pub story : IsStoryOfSource t

-- if the source tells its bytes, the end gave this many
abbrev pub IsCountOf : List ℕ → Option ReaderBytes → ℕ → Type 0
IsCountOf given None count = Unit {0}
IsCountOf given (Some bytes) count = length given ≡ count

pub record OneEndKeeps {S : Type 0} (facts : S → SourceFacts) (t : Terms) (end : OneEnd S) : Type 0
  where
    -- it has the limit of the command, and gave no more bytes
    pub limit : limit_of end ≡ most_input
    pub within : count_of end ≤ limit_of end
    -- while no call failed and none found the end, each read gave at least one byte
    pub moved : (one_end_facts facts end).faults ≡ 0 → (one_end_facts facts end).over ≡ false
        → (one_end_facts facts end).reads ≤ count_of end
    -- no read paused
    pub never_pauses : (one_end_facts facts end).last_read ≢ Some Paused
    -- a byte past the limit was met only after as many bytes as the limit, and is a fault
    pub too_long : extra_of end ≢ [] → (count_of end ≡ limit_of end)
        × (1 ≤ (one_end_facts facts end).faults)
    -- its faults are failures of the source and bytes past the limit
    pub sound : (one_end_facts facts end).faults ≡ 0 → (failed_of end ≡ false) × (extra_of end ≡ [])
    pub cause : 1 ≤ (one_end_facts facts end).faults → (failed_of end ≡ true) ⊎ (extra_of end ≢ [])
    -- the source's count of faults is that of the start, or rose if a read of it failed
    pub source_faults : (f : ℕ) → t.input_faults ≡ Some f
        → FaultsSince (failed_of end) f (facts (input_of end)).faults
    -- since the start the source gave as many bytes as the end took, whether it tells them or not
    pub took : (g : ℕ) → t.input_gave ≡ Some g → (facts (input_of end)).gave ≡ g + took_of end
    -- since the start the source gave the bytes that the end gave and the byte that it keeps
    pub bytes : MovesOn (bytes_at_start t) (given_of facts end ++ extra_of end)
        (facts (input_of end)).bytes
    -- and those are as many as it counts
    pub counts : IsCountOf (given_of facts end) (facts (input_of end)).bytes (count_of end)
    -- if a read found the end, nothing is left and no byte was met past the limit
    pub at_end : (one_end_facts facts end).over ≡ true → NothingLeft (facts (input_of end)).bytes
        × (extra_of end ≡ [])
    pub story : IsStoryOfSource t
