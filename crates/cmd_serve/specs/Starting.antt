-- What a run of the server over a host is asked for, and under which terms it runs.
use Rattle.std.specs.Prelude.{ℕ, ◌+◌, length, Some, option_map}
use Rattle.ev_base.specs.Sink.{SinkFacts}
use Rattle.ev_base.specs.Terms.{Terms, open_terms}
use Rattle.server_run.specs.log_handler.specs.declared.note.ServerNote.{ServerNote}
use Rattle.server_run.specs.reactor_model.specs.Volumes.{VolumesFacts}
use Rattle.cmd_line.specs.declared.options.Options.{Options}
use Rattle.server_run.specs.declared.asked.Asked.{Asked}

-- The terms of these options, for an output and volumes that tell these facts at the start: one
-- handler more than connections may be live, for the acceptor; a wait goes on for 1,000
-- milliseconds at most; the journal goes by turns alone after its first entry, the registration of
-- the acceptor. They leave open what the host lays down.
abbrev pub terms_of : Options → SinkFacts → VolumesFacts ServerNote → Terms
terms_of options output volumes = record (open_terms (options.most + 1)) {
  limit = Some (Some 1000);
  opening = output.text;
  output_faults = Some output.faults;
  by_turn = Some 1;
  idle = Some options.idle;
  volumes_taken = option_map length volumes.taken;
}

-- What it is asked for by these options, for a keeper whose volumes have so many entries: a wait
-- goes on for 1,000 milliseconds at most.
abbrev pub asked_by : Options → ℕ → Asked
asked_by options size = record {
  workers = options.workers;
  connections = options.most;
  idle = options.idle;
  until = options.until;
  limit = Some 1000;
  volume = size;
}
