-- What `logd audit` makes of the text that `logd replay --journal` writes.
use Rattle.std.specs.Prelude.{◌≡◌, ◌≤◌, ◌+◌, ◌^◌, ◌++◌, ℕ, List, length, Some, None}
use Rattle.ev_base.specs.Sink.{SinkFacts}
use Rattle.ev_base.specs.Source.{SourceFacts}
use Rattle.ev_base.specs.declared.end.PeerEnd.{Ghosts}
use Rattle.cmd_audit.specs.Audits.{Audits}
use Rattle.cmd_audit.specs.Laws.{Passes}
use Rattle.cmd_audit.specs.declared.auditing.AuditEnd.{AuditEnd}
use Rattle.cmd_line.specs.Ranges.{AreInRange}
use Rattle.cmd_line.specs.declared.options.Form.TheVariants.{Journal}
use Rattle.cmd_line.specs.declared.options.Options.{Options}
use Rattle.cmd_gen.specs.cmd_replay.specs.Replaying.{Replays}
use Rattle.cmd_gen.specs.cmd_replay.specs.declared.ends.Played.{Played}
use Rattle.cmd_gen.specs.cmd_replay.specs.declared.ends.ReplayEnd.TheVariants.{Done}
use Rattle.log_handler.specs.declared.note.ServerNote.{ServerNote}
use Rattle.reactor_model.specs.Volumes.{VolumesFacts}
use Rattle.script_net.specs.declared.end.ScriptEnd.{ScriptEnd}

-- A replay of a script of at most 2^40 bytes in the form of a journal, for which no notice was
-- asked, ended as it was asked to. The output told its text, which grew by this one.
pub record ReplaysToText {K V : Type 0} (G : Ghosts ScriptEnd) (sink : K → SinkFacts)
    (facts : V → VolumesFacts ServerNote) (options : Options) (limit : ℕ) (i : SourceFacts)
    (output : K) (volumes : V) (j : SourceFacts) (played : Played K V) (text : List ℕ) : Type 0
  where
    pub ranges : AreInRange options
    pub form : options.form ≡ Journal
    pub unnoticed : options.until ≡ None
    pub short : limit ≤ 2 ^ 40
    pub replays : Replays G sink facts options limit i output volumes j played played.end
    pub done : played.end ≡ Done
    pub start : List ℕ
    pub told : (sink output).text ≡ Some start
    pub grown : (sink played.output).text ≡ Some (start ++ text)

-- Then it is so for each audit of an input that has nothing left but this text: the line of a legal
-- journal is written, of as many entries as were handed over and are held.
abbrev pub ReplayedJournalsPass : {K V : Type 0} → Ghosts ScriptEnd → (K → SinkFacts)
    → (V → VolumesFacts ServerNote) → Type 0
ReplayedJournalsPass {K = K} {V = V} G sink facts =
    (options : Options) (limit : ℕ) (i j : SourceFacts) (output : K) (volumes : V)
    (played : Played K V) (text : List ℕ)
    → ReplaysToText G sink facts options limit i output volumes j played text
    → (most : ℕ) (given : List ℕ) (k l : SourceFacts) (o p : SinkFacts) (how : AuditEnd)
    → k.bytes ≡ Some (record { given = given; left = text }) → Audits most k o l p how
    → Passes most (length text) (played.first + length played.journal.entries) k o l p how
