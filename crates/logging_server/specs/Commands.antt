-- What each command of the program leaves. The input, the output and the volumes are those that
-- were handed in.
use Rattle.std.specs.Prelude.{◌≡◌, ◌^◌, ◌++◌, ◌∷◌, ℕ, List, [], Option, Some, None}
use Rattle.ev_base.specs.Source.{SourceFacts}
use Rattle.ev_base.specs.Sink.{SinkFacts}
use Rattle.ev_base.specs.declared.end.PeerEnd.{Ghosts}
use Rattle.ev_base.specs.Counts.{Rose}
use Rattle.reactor_core.specs.Stands.{Meaning}
use Rattle.reactor_model.specs.Volumes.{VolumesFacts}
use Rattle.log_handler.specs.declared.note.ServerNote.{ServerNote}
use Rattle.script_net.specs.declared.end.ScriptEnd.{ScriptEnd}
use Rattle.cmd_line.specs.declared.command.Command.{Command}
use Rattle.cmd_line.specs.declared.command.Command.TheVariants.{One, Replay, Serve, Display, Audit}
use Rattle.cmd_line.specs.declared.command.Command.TheVariants.{Generate}
use Rattle.cmd_line.specs.declared.options.Options.{Options}
use Rattle.exit_status.specs.Statuses.{code_of, number_of}
use Rattle.cmd_one.specs.Ran.{RunsOne}
use Rattle.cmd_one.specs.Statuses.{status_by}
use Rattle.cmd_one.specs.declared.connection.Ran.{Ran}
use Rattle.cmd_display.specs.declared.showing.DisplayEnd.{DisplayEnd}
use Rattle.cmd_display.specs.Displays.{Displays}
use Rattle.cmd_audit.specs.declared.auditing.AuditEnd.{AuditEnd}
use Rattle.cmd_audit.specs.Audits.{Audits}
use Rattle.cmd_gen.specs.cmd_replay.specs.Replaying.{Replays}
use Rattle.cmd_gen.specs.cmd_replay.specs.declared.ends.Played.{Played}
use Rattle.cmd_gen.specs.laws_script_runs.specs.Connections.{HadMemory}
use Rattle.cmd_gen.specs.Generating.{Generates}
use Rattle.cmd_gen.specs.Summing.{LeavesText, full_lines, summary_lines}
use Rattle.cmd_gen.specs.declared.ends.Generated.{Generated}
use Rattle.cmd_serve.specs.Leaving.{IsUnserved as IsUnserved, LeavesHost, ListensSo}
use Rattle.cmd_serve.specs.Starting.{asked_by, terms_of}
use Rattle.cmd_serve.specs.declared.ending.HostEnd.TheVariants.{VolumeFault}
use Rattle.cmd_serve.specs.declared.ending.HostServed.{HostServed}
use Rattle.logging_server.specs.Codes.{audit_code, audit_number, display_code, display_limit}
use Rattle.logging_server.specs.Codes.{display_number, generate_code, replay_code, replay_number}
use Rattle.logging_server.specs.Codes.{serve_code, text_limit}
use Rattle.logging_server.specs.declared.served.Served.{Served}

-- What a host tells: how often a listen failed, and the ports on which it was asked to listen.
pub record HostFacts : Type 0 where
  pub faults : ℕ
  pub ports : List ℕ

-- there was no reactor and no net: nothing was handed over, and no entry is held
pub record HasNoReactor {S K V M : Type 0} (volumes : V) (served : Served K S M V) : Type 0 where
  pub entries : served.journal.entries ≡ []
  pub first : served.first ≡ 0
  pub volumes_same : served.volumes ≡ volumes
  pub no_net : served.net ≡ None

-- nothing was done: nothing was read or written
pub record IsUntouched {S K V M : Type 0} (input : S) (output : K) (volumes : V)
    (served : Served K S M V) : Type 0 where
  pub without : HasNoReactor volumes served
  pub input_same : served.input ≡ input
  pub output_same : served.output ≡ output
  pub at : served.at ≡ 0

module _ {S K V M : Type 0} (source : S → SourceFacts) (sink : K → SinkFacts)
    (facts : V → VolumesFacts ServerNote) (input : S) (output : K) (volumes : V) where
  -- One connection was served, whose bytes the input has, and so it ended.
  pub record HasRun (served : Served K S M V) : Type 0 where
    pub ran : Ran S K V
    pub runs : RunsOne source sink facts (2 ^ 40) (source input) (sink output) (facts volumes) ran
    pub is : served ≡ record {
      status = code_of (status_by (2 ^ 40) ran.end);
      journal = ran.journal;
      first = ran.first;
      input = ran.input;
      output = ran.output;
      net = None;
      volumes = ran.volumes;
      at = number_of (status_by (2 ^ 40) ran.end);
    }

  -- The records of the input were displayed, and it ended so.
  pub record HasDisplayed (served : Served K S M V) : Type 0 where
    pub end : DisplayEnd
    pub status : served.status ≡ display_code end
    pub at : served.at ≡ display_number end
    pub displays : Displays display_limit (source input) (sink output) (source served.input)
        (sink served.output) end
    pub without : HasNoReactor volumes served

  -- The journal whose text the input is was audited, and it ended so.
  pub record HasAudited (served : Served K S M V) : Type 0 where
    pub end : AuditEnd
    pub status : served.status ≡ audit_code end
    pub at : served.at ≡ audit_number end
    pub audits : Audits text_limit (source input) (sink output) (source served.input)
        (sink served.output) end
    pub without : HasNoReactor volumes served

  -- The server was run over the script whose text the input is, and it ended so.
  pub record HasReplayed (G : Ghosts ScriptEnd) (options : Options) (served : Served K S M V) : Type
      0 where
    pub played : Played K V
    pub replays : Replays G sink facts options text_limit (source input) output volumes
        (source served.input) played played.end
    pub is : served ≡ record {
      status = replay_code played.end;
      journal = played.journal;
      first = played.first;
      input = served.input;
      output = played.output;
      net = None;
      volumes = played.volumes;
      at = replay_number played.end;
    }

  -- The server was run over the script of so many connections that is generated from a seed, and so
  -- it ended. The lines of the summary were written; if no connection was closed for want of
  -- memory, they are those of all that the script has. The input is as it was.
  pub record HasGenerated (G : Ghosts ScriptEnd) (connections seed : ℕ)
      (served : Served K S M V) : Type 0 where
    pub generated : Generated K V
    pub run : Generates G facts connections seed output volumes generated generated.end
    pub written : LeavesText generated.end (sink output) (summary_lines generated.journal.entries)
        (sink generated.output)
    pub known : HadMemory generated.journal.entries
        → LeavesText generated.end (sink output) (full_lines connections seed)
        (sink generated.output)
    pub is : served ≡ record {
      status = generate_code generated.end;
      journal = generated.journal;
      first = generated.first;
      input = input;
      output = generated.output;
      net = None;
      volumes = generated.volumes;
      at = 0;
    }

  -- The server was run over the host, which was asked for this port and for no other, and so it
  -- ended. The host told these facts before, and tells those now. The input is as it was.
  pub record HasServed {H Q W E : Type 0} (m : Meaning H M Q W V ServerNote E) (port : ℕ)
      (options : Options) (before now : HostFacts) (served : Served K S M V) : Type 0 where
    pub host : HostServed M K V
    pub leaves : LeavesHost m sink (terms_of options (sink output) (facts volumes))
        (asked_by options (facts volumes).size) (sink output) host
    pub listens : ListensSo host.end host.net before.faults now.faults
    pub asked : now.ports ≡ before.ports ++ port ∷ []
    pub refused : host.net ≡ None → IsUnserved output volumes host
    pub volumes_fault : host.end ≡ VolumeFault
        → Rose (facts volumes).faults (facts host.volumes).faults
    pub is : served ≡ record {
      status = serve_code host.end;
      journal = host.journal;
      first = host.first;
      input = input;
      output = host.output;
      net = host.net;
      volumes = host.volumes;
      at = 0;
    }

  -- What the command did, or that the words are none: then the status is 1, and nothing was done.
  abbrev pub HasDone : {H Q W E : Type 0} → Ghosts ScriptEnd → Meaning H M Q W V ServerNote E
      → Option Command → HostFacts → HostFacts → Served K S M V → Type 0
  HasDone G m None before now served = (served.status ≡ 1) × IsUntouched input output volumes served
  HasDone G m (Some One) before now served = HasRun served
  HasDone G m (Some Display) before now served = HasDisplayed served
  HasDone G m (Some Audit) before now served = HasAudited served
  HasDone G m (Some (Replay options)) before now served = HasReplayed G options served
  HasDone G m (Some (Generate connections seed)) before now served =
      HasGenerated G connections seed served
  HasDone G m (Some (Serve port options)) before now served =
      HasServed m port options before now served

-- whether it is the command that asks the host
abbrev pub IsServe : Option Command → Type 0
IsServe (Some (Serve port options)) = Unit {0}
IsServe None = ⊥
IsServe (Some One) = ⊥
IsServe (Some Display) = ⊥
IsServe (Some Audit) = ⊥
IsServe (Some (Replay options)) = ⊥
IsServe (Some (Generate connections seed)) = ⊥
