use Rattle.std.proofs.Common.{true, false, sym, arith}
use Rattle.reactor_summary.specs.ev_types.specs.declared.upcall.Handle.{Handle}
use Rattle.reactor_summary.specs.ev_types.specs.declared.upcall.Kind.TheVariants.{Read}
use Rattle.reactor_model.specs.reactor_journal.specs.declared.entry.Entry.TheVariants.{Opened}
use Rattle.reactor_model.specs.reactor_journal.specs.declared.entry.Entry.TheVariants.{Ready}
use Rattle.reactor_summary.specs.Summary as S
use Rattle.reactor_summary.specs.Summary.{Summary}
use Rattle.reactor_state.specs.State.{after}
use Rattle.reactor_state.proofs.Room.{fewer_places}
use Rattle.test_reactor.proofs.state.one_upcall.Goals as goal

-- the summaries after the first entry and after the second
abbrev opened : Handle → Summary
opened handle = after S.nothing (Opened handle
    (record { read = true; write = false; except = false }))

abbrev reported : Handle → Summary
reported handle = after (opened handle) (Ready handle Read)

pub open-handle-requires-clause-can : goal.open-handle-requires-clause-can
open-handle-requires-clause-can g c =
    (S.nothing, c.in_ok-reserve.ensures.shows S.nothing c.requires, (omega arith, omega arith))

pub ready-requires-clause-can : goal.ready-requires-clause-can
ready-requires-clause-can g c = (
  opened c.open-handle.result,
  c.open-handle.ensures.steps S.nothing (c.in_ok-reserve.ensures.shows S.nothing c.requires)
      (omega arith, omega arith),
  (omega arith),
)

pub ready-requires-clause-room : goal.ready-requires-clause-room
ready-requires-clause-room g c =
    fewer_places g.Q.TimerQueue.spare (record {
      handles = 0;
      timers = 0;
      timeouts = 0;
      events = 1;
      opens = 0;
    }) (record { handles = 0; timers = 1; timeouts = 1; events = 1; opens = 1 })
    c.open-handle.new.self (omega arith) (omega arith) (omega arith) (omega arith) (omega arith)
    (c.open-handle.ensures.places (record {
      handles = 1;
      timers = 1;
      timeouts = 1;
      events = 1;
      opens = 1;
    }) c.in_ok-reserve.ensures.room)

pub start-requires-clause-can : goal.start-requires-clause-can
start-requires-clause-can g c =
    let shows = c.ready.ensures.steps (opened c.open-handle.result)
    (c.open-handle.ensures.steps S.nothing (c.in_ok-reserve.ensures.shows S.nothing c.requires)
    (omega arith, omega arith)) (omega arith) in (
      reported c.open-handle.result,
      shows,
      (omega arith, sym (c.in-Some.ensures.pick (reported c.open-handle.result) shows)),
    )

pub start-requires-clause-placed : goal.start-requires-clause-placed
start-requires-clause-placed g c =
    let shows = c.ready.ensures.steps (opened c.open-handle.result)
    (c.open-handle.ensures.steps S.nothing (c.in_ok-reserve.ensures.shows S.nothing c.requires)
    (omega arith, omega arith)) (omega arith) in
    c.in-Some.ensures.placed (reported c.open-handle.result) shows

pub start-requires-clause-room : goal.start-requires-clause-room
start-requires-clause-room g c =
    fewer_places g.Q.TimerQueue.spare (record {
      handles = 0;
      timers = 1;
      timeouts = 0;
      events = 0;
      opens = 1;
    }) (record { handles = 0; timers = 1; timeouts = 1; events = 0; opens = 1 })
    c.ready.new.self (omega arith) (omega arith) (omega arith) (omega arith) (omega arith)
    (c.ready.ensures.places (record {
      handles = 0;
      timers = 1;
      timeouts = 1;
      events = 1;
      opens = 1;
    }) (c.open-handle.ensures.places
    (record { handles = 1; timers = 1; timeouts = 1; events = 1; opens = 1 })
    c.in_ok-reserve.ensures.room))
