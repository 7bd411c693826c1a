use Rattle.message_lines.proofs.Keeping.{exchanged}
use Rattle.message_lines.proofs.lines.Lines.put.Goals as goal

pub returns-clause-came : goal.returns-clause-came
returns-clause-came g c = (exchanged _ _ _ _ c.exchange.ensures.put c.exchange.ensures.refused).0

pub returns-clause-lost : goal.returns-clause-lost
returns-clause-lost g c =
    (exchanged _ _ _ _ c.exchange.ensures.put c.exchange.ensures.refused).1

pub returns-clause-same : goal.returns-clause-same
returns-clause-same g c =
    (exchanged _ _ _ _ c.exchange.ensures.put c.exchange.ensures.refused).2
