use Rattle.std.proofs.Common.{length, ◌∙◌, ap, arith}
use Rattle.reactor_state.proofs.state.ReactorState.reserve.Goals as goal

pub returns-in_err-reserve-2-clause-shows : goal.returns-in_err-reserve-2-clause-shows
returns-in_err-reserve-2-clause-shows g c s shows = record {
  tables = record {
    numbers = shows.tables.numbers;
    handles = c.in_ok-reserve.ensures.items ∙ shows.tables.handles;
    opens = shows.tables.opens;
    waiting = shows.tables.waiting;
    armed = c.in_err-reserve-2.ensures.same s.armed shows.tables.armed;
  };
  sound = shows.sound;
}

pub returns-in_err-reserve-2-clause-kept : goal.returns-in_err-reserve-2-clause-kept
returns-in_err-reserve-2-clause-kept g c p has = record {
  handles = omega (
    arith,
    has.handles,
    ap length c.in_ok-reserve.ensures.items,
    c.in_ok-reserve.ensures.capacity,
  );
  timers = c.in_err-reserve-2.ensures.kept p.timers has.timers;
  waiting = has.waiting;
  opens = has.opens;
}

pub returns-in_err-reserve-3-clause-shows : goal.returns-in_err-reserve-3-clause-shows
returns-in_err-reserve-3-clause-shows g c s shows = record {
  tables = record {
    numbers = shows.tables.numbers;
    handles = c.in_ok-reserve.ensures.items ∙ shows.tables.handles;
    opens = shows.tables.opens;
    waiting = c.in_err-reserve-3.ensures.queues ∙ shows.tables.waiting;
    armed = c.in_ok-reserve-2.ensures.same s.armed shows.tables.armed;
  };
  sound = shows.sound;
}

pub returns-in_err-reserve-3-clause-kept : goal.returns-in_err-reserve-3-clause-kept
returns-in_err-reserve-3-clause-kept g c p has = record {
  handles = omega (
    arith,
    has.handles,
    ap length c.in_ok-reserve.ensures.items,
    c.in_ok-reserve.ensures.capacity,
  );
  timers = c.in_ok-reserve-2.ensures.kept p.timers has.timers;
  waiting = c.in_err-reserve-3.ensures.kept p.timeouts p.events has.waiting;
  opens = has.opens;
}

pub returns-in_err-reserve-4-clause-shows : goal.returns-in_err-reserve-4-clause-shows
returns-in_err-reserve-4-clause-shows g c s shows = record {
  tables = record {
    numbers = shows.tables.numbers;
    handles = c.in_ok-reserve.ensures.items ∙ shows.tables.handles;
    opens = c.in_err-reserve-4.ensures.items ∙ shows.tables.opens;
    waiting = c.in_ok-reserve-3.ensures.queues ∙ shows.tables.waiting;
    armed = c.in_ok-reserve-2.ensures.same s.armed shows.tables.armed;
  };
  sound = shows.sound;
}

pub returns-in_err-reserve-4-clause-kept : goal.returns-in_err-reserve-4-clause-kept
returns-in_err-reserve-4-clause-kept g c p has = record {
  handles = omega (
    arith,
    has.handles,
    ap length c.in_ok-reserve.ensures.items,
    c.in_ok-reserve.ensures.capacity,
  );
  timers = c.in_ok-reserve-2.ensures.kept p.timers has.timers;
  waiting = c.in_ok-reserve-3.ensures.kept p.timeouts p.events has.waiting;
  opens = omega (
    arith,
    has.opens,
    ap length c.in_err-reserve-4.ensures.items,
    c.in_err-reserve-4.ensures.capacity,
  );
}

pub returns-clause-shows : goal.returns-clause-shows
returns-clause-shows g c s shows = record {
  tables = record {
    numbers = shows.tables.numbers;
    handles = c.in_ok-reserve.ensures.items ∙ shows.tables.handles;
    opens = c.in_ok-reserve-4.ensures.items ∙ shows.tables.opens;
    waiting = c.in_ok-reserve-3.ensures.queues ∙ shows.tables.waiting;
    armed = c.in_ok-reserve-2.ensures.same s.armed shows.tables.armed;
  };
  sound = shows.sound;
}

pub returns-clause-kept : goal.returns-clause-kept
returns-clause-kept g c p has = record {
  handles = omega (
    arith,
    has.handles,
    ap length c.in_ok-reserve.ensures.items,
    c.in_ok-reserve.ensures.capacity,
  );
  timers = c.in_ok-reserve-2.ensures.kept p.timers has.timers;
  waiting = c.in_ok-reserve-3.ensures.kept p.timeouts p.events has.waiting;
  opens = omega (
    arith,
    has.opens,
    ap length c.in_ok-reserve-4.ensures.items,
    c.in_ok-reserve-4.ensures.capacity,
  );
}
