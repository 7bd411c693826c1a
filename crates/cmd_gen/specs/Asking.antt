-- What a run over a generated script is asked for.
use Rattle.std.specs.Prelude.{ℕ, ◌^◌, None}
use Rattle.ev_base.specs.Terms.{Terms}
use Rattle.cmd_replay.specs.reactor_model.specs.Volumes.{VolumesFacts}
use Rattle.cmd_replay.specs.log_handler.specs.declared.note.ServerNote.{ServerNote}
use Rattle.script_generator.specs.Scripts.{generated}
use Rattle.cmd_replay.specs.Replays.{unseen}
use Rattle.cmd_replay.specs.laws_script_served.specs.Terms.{terms_of_script}
use Rattle.cmd_replay.specs.server_run.specs.declared.asked.Asked.{Asked}

-- Four workers make it, over all connections at once, without an idle time, a notice or a limit of
-- waits. A volume is the whole journal, of which the summary is made.
abbrev pub asked_for : ℕ → Asked
asked_for n = record {
  workers = 4;
  connections = n;
  idle = None;
  until = None;
  limit = None;
  volume = 2 ^ 62;
}

-- its terms: those of the script and of the volumes, since the output is written only after the
-- run
abbrev pub terms_for : ℕ → ℕ → VolumesFacts ServerNote → Terms
terms_for n seed v = terms_of_script n None (generated n seed) unseen v
