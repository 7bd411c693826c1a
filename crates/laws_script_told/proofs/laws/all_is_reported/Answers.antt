use Rattle.log_handler.specs.reactor_journal.specs.Past.{past_of}
use Rattle.laws_script_told.proofs.Following.{reported}
use Rattle.laws_script_told.proofs.laws.all_is_reported.Goals as goal

pub returns : goal.returns
returns c groups journal most x end legal free alive only follows ready over =
    reported groups most x end (past_of journal) legal free alive only follows ready over
