use Rattle.core_loop.proofs.Leading.{stopped}
use Rattle.core_loop.proofs.turns.close.Goals as goal

pub returns-clause-leaves : goal.returns-clause-leaves
returns-clause-leaves g c =
    let w = c.stop.ensures.stopped in
    record {
      terms = w.0;
      first = w.1;
      history = w.2;
      over = w.4;
      stand = c.into_parts.ensures.stands w.0 w.1 w.2 w.3;
    }

pub returns-clause-from : goal.returns-clause-from
returns-clause-from g c = λ t F h stands none.
    let s = stopped _ t F h _ none (c.stop.ensures.stops t F h stands) in
    record {
      entries = s.entries;
      stops = s.stops;
      over = s.over;
      stand = c.into_parts.ensures.stands t F _ s.stands;
    }
