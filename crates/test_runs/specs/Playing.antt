-- What a script is played under.
use Rattle.std.specs.Prelude.{◌+◌, Some}
use Rattle.ev_base.specs.Terms.{Terms, open_terms}
use Rattle.server_run.specs.declared.asked.Asked.{Asked}

-- the terms of a run that is asked for, which leave all else open
abbrev pub terms_of : Asked → Terms
terms_of asked = record (open_terms (asked.connections + 1)) {
  limit = Some asked.limit;
  idle = Some asked.idle;
  by_turn = Some 1;
}
