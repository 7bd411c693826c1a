use Rattle.journal_check.proofs.Checking.{ok_where_legal, illegal_where_refused}
use Rattle.journal_check.proofs.reading.check.Goals as goal

pub returns-clause-legal : goal.returns-clause-legal
returns-clause-legal g c = ok_where_legal c.args.journal.now c.args.most c.read.result
    c.read.ensures.illegal

pub returns-clause-refused : goal.returns-clause-refused
returns-clause-refused g c = illegal_where_refused c.args.journal.now c.args.most c.read.result
    c.read.ensures.ok c.read.ensures.illegal
