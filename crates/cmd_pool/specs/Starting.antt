-- What a run of the command is asked for, and under which terms it runs.
use Rattle.std.specs.Prelude.{◌^◌, Some, None}
use Rattle.ev_base.specs.Terms.{Terms, open_terms}
use Rattle.server_run.specs.declared.asked.Asked.{Asked}
use Rattle.cmd_pool.specs.declared.words.PoolOptions.{PoolOptions}

-- The terms: 1,000 connections and the acceptor may be live; a wait goes on for 1,000 milliseconds
-- at most; the journal goes by turns alone after its first entry, the registration of the
-- acceptor; no connection is closed for being quiet. They leave open what the host lays down.
abbrev pub pool_terms : Terms
pool_terms = record (open_terms 1001) {
  limit = Some (Some 1000);
  by_turn = Some 1;
  idle = Some None;
}

-- what it is asked for by these options: its journal is one volume
abbrev pub asked_by : PoolOptions → Asked
asked_by options = record {
  workers = options.workers;
  connections = 1000;
  idle = None;
  until = options.until;
  limit = Some 1000;
  volume = 2 ^ 62;
}
