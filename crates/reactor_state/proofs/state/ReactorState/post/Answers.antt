use Rattle.std.proofs.Common.{[], ◌∷◌, ◌++◌, None, ap}
use Rattle.ev_types.specs.declared.upcall.Upcall.TheVariants.{Notice}
use Rattle.reactor_summary.specs.reactor_journal.specs.declared.entry.Entry.TheVariants.{Posted}
use Rattle.reactor_summary.specs.declared.parts.WaitingEvent.{WaitingEvent}
use Rattle.reactor_state.specs.State.{Numbers}
use Rattle.reactor_state.specs.Tables.{queues}
use Rattle.reactor_state.proofs.Soundness.{sound_after}
use Rattle.reactor_state.proofs.Stepped.{tables_counted, event_pushed}
use Rattle.reactor_state.proofs.state.ReactorState.post.Goals as goal

pub returns-clause-steps : goal.returns-clause-steps
returns-clause-steps g c from seq s shows number =
    let made : WaitingEvent = record {
      event = s.entries;
      handle = c.args.handle;
      upcall = Notice c.args.kind;
      due = None;
    } in
    record {
      tables = tables_counted g.Q.TimerQueue.timers
          (record c.args.self.now { waiting = c.push.new.self })
          (record s { waiting = s.waiting ++ made ∷ [] })
          (record {
            numbers = shows.tables.numbers;
            handles = shows.tables.handles;
            opens = shows.tables.opens;
            waiting = event_pushed (record {
              event = c.args.self.now.entries;
              handle = c.args.handle;
              upcall = Notice c.args.kind;
              due = None;
            }) made
                (queues c.args.self.now.waiting) (queues c.push.new.self) s.waiting
                c.push.ensures.queues shows.tables.waiting
                (ap (λ (n : Numbers). record {
                  event = n.entries;
                  handle = c.args.handle;
                  upcall = Notice c.args.kind;
                  due = None;
                }) shows.tables.numbers);
            armed = shows.tables.armed;
          });
      sound = sound_after {N = Unit {0}} (Posted c.args.handle c.args.kind from seq) s number tt
          shows.sound;
    }
