use Rattle.std.specs.Prelude.{[]}
use Rattle.laws_script_runs.specs.reactor_journal.specs.Past.{past_of}
use Rattle.laws_script_calls.proofs.Following.{plays_on}
use Rattle.laws_script_calls.proofs.laws.calls_follow.Goals as goal

pub returns : goal.returns
returns g c t offers groups journal calls most legal limit told names are plays =
    (plays_on g.H.EventHandler.means t offers groups most limit told names (past_of journal) []
    calls legal are plays).follows
