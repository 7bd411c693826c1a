use Rattle.acceptor.proofs.Accounts.{accounts}
use Rattle.acceptor.proofs.laws.courses_account.Goals as goal

pub returns : goal.returns
returns c = accounts
