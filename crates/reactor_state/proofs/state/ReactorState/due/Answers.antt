use Rattle.std.proofs.Common.{◌≡◌, ◌-◌, ◌==◌, ℕ, ◌++◌, true, Option, Some, sym, ap, ◌∙◌, subst}
use Rattle.std.proofs.Common.{arith}
use Rattle.std.specs.List.{find}
use Rattle.ev_types.specs.declared.upcall.Upcall.TheVariants.{Timeout}
use Rattle.reactor_summary.specs.reactor_journal.specs.declared.entry.Entry.TheVariants.{Due}
use Rattle.reactor_summary.specs.declared.parts.WaitingEvent.{WaitingEvent}
use Rattle.reactor_summary.specs.declared.parts.ArmedTimer.{ArmedTimer}
use Rattle.reactor_summary.specs.Summary as S
use Rattle.reactor_summary.specs.Summary.{Summary}
use Rattle.reactor_state.specs.State.{Numbers}
use Rattle.reactor_state.specs.Tables.{queues, by_class, armed_of}
use Rattle.reactor_state.proofs.Soundness.{sound_after}
use Rattle.reactor_state.proofs.Stepped.{tables_counted, event_pushed, armed_once}
use Rattle.reactor_state.proofs.Queued.{timeout_room, room_moved, less_room}
use Rattle.reactor_state.proofs.state.ReactorState.due.Goals as goal

pub returns-in-None-clause-unchanged : goal.returns-in-None-clause-unchanged
returns-in-None-clause-unchanged g c s shows = record {
  tables = record {
    numbers = shows.tables.numbers;
    handles = shows.tables.handles;
    opens = shows.tables.opens;
    waiting = shows.tables.waiting;
    armed = c.in-None.ensures.unchanged s.armed shows.tables.armed;
  };
  sound = shows.sound;
}

pub returns-in-None-clause-unused : goal.returns-in-None-clause-unused
returns-in-None-clause-unused g c p has =
    record {
      handles = has.handles;
      timers = c.pop_due.ensures.room p.timers has.timers;
      waiting = has.waiting;
      opens = has.opens;
    }

pub returns-in-None-clause-places : goal.returns-in-None-clause-places
returns-in-None-clause-places g c p has =
    record {
      handles = has.handles;
      timers = c.pop_due.ensures.room p.timers has.timers;
      waiting = less_room _ p.timeouts p.events (queues c.args.self.now.waiting) has.waiting;
      opens = has.opens;
    }

pub returns-in-Some-clause-places : goal.returns-in-Some-clause-places
returns-in-Some-clause-places g c p has = record {
  handles = has.handles;
  timers = c.in-Some.ensures.room p.timers has.timers;
  waiting = room_moved _ _ _ _ (p.timeouts - 1) p.events c.push.ensures.capacities
      c.push.ensures.queues
      (timeout_room c.in-Some.t.timer (record {
        event = c.args.self.now.entries;
        handle = c.in-Some.t.handle;
        upcall = Timeout c.in-Some.t.timer;
        due =
            Some (record {
              timer = c.in-Some.t.timer;
              deadline = c.in-Some.t.deadline;
              every = c.in-Some.t.every;
            });
      })
      _ p.timeouts p.events (queues c.args.self.now.waiting) has.waiting
      (omega (arith, c.requires.room.waiting.timeouts)));
  opens = has.opens;
}

pub returns-in-Some-clause-steps : goal.returns-in-Some-clause-steps
returns-in-Some-clause-steps g c s shows number =
    let t = c.in-Some.t in
    let first : (S.is_first c.args.self.now.moment t.timer s.armed ≡ true)
    × (find (λ (a : ArmedTimer). a.timer == t.timer) s.armed ≡ Some (armed_of t)) =
    c.in-Some.ensures.first s.armed shows.tables.armed in
    let moment : c.args.self.now.moment ≡ s.moment =
    ap (λ (n : Numbers). n.moment) shows.tables.numbers in
    let made : WaitingEvent = record {
      event = s.entries;
      handle = t.handle;
      upcall = Timeout t.timer;
      due = Some (record {
        timer = t.timer;
        deadline = t.deadline;
        every = t.every;
      });
    } in
    record {
      tables = tables_counted g.Q.TimerQueue.timers
          (record c.args.self.now { waiting = c.push.new.self; armed = c.pop_due.new.self })
          (record s {
            waiting = s.waiting ++ S.waiting_due s.entries (S.armed_timer s t.timer);
            armed = S.without_timer t.timer s.armed;
          })
          (record {
            numbers = shows.tables.numbers;
            handles = shows.tables.handles;
            opens = shows.tables.opens;
            waiting = event_pushed (record {
              event = c.args.self.now.entries;
              handle = t.handle;
              upcall = Timeout t.timer;
              due = Some (record { timer = t.timer; deadline = t.deadline; every = t.every });
            }) made
                (queues c.args.self.now.waiting) (queues c.push.new.self) s.waiting
                c.push.ensures.queues shows.tables.waiting
                (ap (λ (n : Numbers). record {
                  event = n.entries;
                  handle = t.handle;
                  upcall = Timeout t.timer;
                  due = Some (record {
                    timer = t.timer;
                    deadline = t.deadline;
                    every = t.every;
                  });
                }) shows.tables.numbers)
                ∙ ap (λ (o : Option ArmedTimer). by_class (s.waiting ++ S.waiting_due s.entries o))
                (sym first.1);
            armed = c.in-Some.ensures.due s.armed shows.tables.armed (armed_once s shows.sound);
          });
      sound = sound_after {N = Unit {0}} (Due t.timer) s number
          (subst (λ (m : ℕ). S.is_first m t.timer s.armed ≡ true) moment first.0) shows.sound;
    }
