use Rattle.laws_turns.proofs.Opens.{moment_is}
use Rattle.laws_turns.proofs.laws.moment_is_now.Goals as goal

pub returns : goal.returns
returns g c past = moment_is past
