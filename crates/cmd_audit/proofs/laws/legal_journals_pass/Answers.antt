use Rattle.cmd_audit.proofs.Passing.{passes}
use Rattle.cmd_audit.proofs.laws.legal_journals_pass.Goals as goal

pub returns : goal.returns
returns c limit most given text journal i j o p how told spells legal audits =
    passes limit most given text journal i j o p told spells legal how audits
