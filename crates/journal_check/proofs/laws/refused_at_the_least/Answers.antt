use Rattle.std.proofs.Common.{◌+◌, arith}
use Rattle.journal_check.proofs.Checking.{legal_shorter, legal_front_of_whole, refuses_once}
use Rattle.journal_check.proofs.laws.refused_at_the_least.Goals as goal

pub returns-clause-before : goal.returns-clause-before
returns-clause-before g c journal most at n r le = legal_shorter journal most n at le r.1

pub returns-clause-behind : goal.returns-clause-behind
returns-clause-behind g c journal most at n r lt legal =
    r.2 (legal_shorter journal most (at + 1) n (omega arith) legal)

pub returns-clause-whole : goal.returns-clause-whole
returns-clause-whole g c journal most at r legal =
    r.2 (legal_front_of_whole journal most (at + 1) legal)

pub returns-clause-once : goal.returns-clause-once
returns-clause-once g c journal most a b h k = refuses_once journal most a b h k
