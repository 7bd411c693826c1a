use Rattle.std.proofs.Common.{not, ap, ◌∙◌}
use Rattle.std.specs.List.{filter}
use Rattle.reactor_summary.specs.reactor_journal.specs.Past.{is_timeout_of}
use Rattle.reactor_summary.specs.reactor_journal.specs.declared.entry.Entry.TheVariants.{Cancelled}
use Rattle.reactor_summary.specs.declared.parts.WaitingEvent.{WaitingEvent}
use Rattle.reactor_summary.specs.Summary as S
use Rattle.reactor_summary.specs.Summary.{Summary}
use Rattle.reactor_state.specs.Tables.{Queues, queues}
use Rattle.reactor_state.proofs.Soundness.{sound_after}
use Rattle.reactor_state.proofs.Stepped.{tables_counted}
use Rattle.reactor_state.proofs.Queued.{cancelled_by_class, cancelled_room, room_moved}
use Rattle.reactor_state.proofs.state.ReactorState.cancel.Goals as goal

pub returns-clause-steps : goal.returns-clause-steps
returns-clause-steps g c s shows number = record {
  tables = tables_counted g.Q.TimerQueue.timers
      (record c.args.self.now { armed = c.disarm.new.self; waiting = c.drop_timeouts.new.self })
      (record s {
        waiting = filter (λ (w : WaitingEvent). not (is_timeout_of c.args.timer w.upcall))
            s.waiting;
        armed = S.without_timer c.args.timer s.armed;
      })
      (record {
        numbers = shows.tables.numbers;
        handles = shows.tables.handles;
        opens = shows.tables.opens;
        waiting = c.drop_timeouts.ensures.queues
            ∙ ap (λ (q : Queues). record q {
              timeouts =
                  filter (λ (w : WaitingEvent). not (is_timeout_of c.args.timer w.upcall))
                  q.timeouts;
            })
            shows.tables.waiting ∙ cancelled_by_class c.args.timer s.waiting;
        armed = c.disarm.ensures.armed s.armed shows.tables.armed;
      });
  sound = sound_after {N = Unit {0}} (Cancelled c.args.timer) s number tt shows.sound;
}

pub returns-clause-places : goal.returns-clause-places
returns-clause-places g c p has = record {
  handles = has.handles;
  timers = c.disarm.ensures.room p.timers has.timers;
  waiting = room_moved _ _ _ _ p.timeouts p.events c.drop_timeouts.ensures.capacities
      c.drop_timeouts.ensures.queues
      (cancelled_room (λ (w : WaitingEvent). not (is_timeout_of c.args.timer w.upcall)) _ p.timeouts
      p.events (queues c.args.self.now.waiting) has.waiting);
  opens = has.opens;
}
