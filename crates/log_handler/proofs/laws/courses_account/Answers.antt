use Rattle.log_handler.proofs.Accounts.{accounts}
use Rattle.log_handler.proofs.laws.courses_account.Goals as goal

pub returns : goal.returns
returns c = accounts
