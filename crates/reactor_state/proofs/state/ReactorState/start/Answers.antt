use Rattle.std.proofs.Common.{[], ◌∷◌, length, refl, ap, arith}
use Rattle.std.proofs.lemmas.List.{length-append}
use Rattle.reactor_summary.specs.reactor_journal.specs.declared.entry.Entry.TheVariants.{Started}
use Rattle.reactor_summary.specs.Summary as S
use Rattle.reactor_summary.specs.Summary.{Summary}
use Rattle.reactor_state.specs.Tables.{queues}
use Rattle.reactor_state.proofs.Soundness.{sound_after}
use Rattle.reactor_state.proofs.Stepped.{tables_counted, due_is_reached, due_is_fresh, started}
use Rattle.reactor_state.proofs.Stepped.{started_tables}
use Rattle.reactor_state.proofs.Queued.{taken_room, room_moved, got}
use Rattle.reactor_state.proofs.state.ReactorState.start.Goals as goal

pub arm_again-requires-clause-reached : goal.arm_again-requires-clause-reached
arm_again-requires-clause-reached g c =
    due_is_reached g.Q.TimerQueue.timers c.args.self.now c.requires.can.0 c.args.pick.event
    c.args.pick.place c.requires.can.1 c.requires.placed

pub arm_again-requires-clause-fresh : goal.arm_again-requires-clause-fresh
arm_again-requires-clause-fresh g c t of_it =
    due_is_fresh g.Q.TimerQueue.timers c.args.self.now c.requires.can.0 c.args.pick.event
    c.args.pick.place t c.requires.can.1 c.requires.placed of_it

pub returns-clause-steps : goal.returns-clause-steps
returns-clause-steps g c s shows can =
    record {
      tables = tables_counted g.Q.TimerQueue.timers
          (record c.args.self.now {
            waiting = c.take.new.self;
            armed = c.arm_again.new.self;
            opens = c.push_reserved.new.self;
          }) (started (S.waiting_event s c.args.pick.event.event)
          c.args.pick.event.event s)
          (started_tables g.Q.TimerQueue.timers c.args.self.now
          (record c.args.self.now {
            waiting = c.take.new.self;
            armed = c.arm_again.new.self;
            opens = c.push_reserved.new.self;
          }) s c.args.pick.event
          c.args.pick.place shows c.requires.placed
          refl refl c.push_reserved.ensures.items c.take.ensures.queues c.arm_again.ensures.armed);
      sound = sound_after {N = Unit {0}} (Started c.args.pick.event.event) s can.0 tt shows.sound;
    }

pub returns-clause-places : goal.returns-clause-places
returns-clause-places g c p has = record {
  handles = has.handles;
  timers = c.arm_again.ensures.room p.timers has.timers;
  waiting = room_moved _ _ _ _ p.timeouts p.events c.take.ensures.capacities c.take.ensures.queues
      (taken_room c.args.pick.event.upcall c.args.pick.place _ p.timeouts p.events
      (queues c.args.self.now.waiting) (got _ c.args.pick.place c.args.pick.event
      c.requires.placed).0 has.waiting);
  opens = omega (
    arith,
    has.opens,
    ap length c.push_reserved.ensures.items,
    c.push_reserved.ensures.capacity,
    length-append c.args.self.now.opens.items
        (record {
          event = c.args.pick.event.event;
          handle = c.args.pick.event.handle;
          upcall = c.args.pick.event.upcall;
          moment = c.args.self.now.moment;
        } ∷ []),
  );
}
