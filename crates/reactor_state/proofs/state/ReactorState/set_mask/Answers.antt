use Rattle.std.proofs.Common.{◌==◌, ◌&&◌, ℕ, not, map, sym, ap, ◌∙◌, subst, arith}
use Rattle.std.specs.List.{filter}
use Rattle.reactor_summary.specs.reactor_journal.specs.Past.{is_without}
use Rattle.reactor_summary.specs.reactor_journal.specs.declared.entry.Entry.TheVariants.{Masked}
use Rattle.reactor_summary.specs.declared.parts.WaitingEvent.{WaitingEvent}
use Rattle.reactor_summary.specs.Summary as S
use Rattle.reactor_summary.specs.Summary.{Summary}
use Rattle.reactor_state.specs.Rises.{RisesIn}
use Rattle.reactor_state.specs.Sound.{handle_number}
use Rattle.reactor_state.specs.State.{numbers_in}
use Rattle.reactor_state.specs.Tables.{queues}
use Rattle.reactor_state.proofs.Soundness.{sound_after}
use Rattle.reactor_state.proofs.Stepped.{tables_counted, masked_alive}
use Rattle.reactor_state.proofs.Queued.{masked_by_class, masked_room, room_moved}
use Rattle.reactor_state.specs.Tables.{masked}
use Rattle.reactor_state.proofs.state.ReactorState.set_mask.Goals as goal

pub returns-clause-steps : goal.returns-clause-steps
returns-clause-steps g c s shows number =
    let here : RisesIn handle_number 0 s.opened c.args.self.now.handles.items =
    subst (RisesIn handle_number 0 s.opened) (sym shows.tables.handles) shows.sound.handles in
    record {
      tables = tables_counted g.Q.TimerQueue.timers
          (record c.args.self.now {
            handles = c.set_mask.new.handles;
            waiting = c.drop_masked.new.self;
          })
          (record s {
            handles = map (S.with_mask c.args.handle.0 c.args.mask) s.handles;
            waiting =
                filter (λ (w : WaitingEvent). not (c.args.handle.0 == w.handle.0
                && is_without c.args.mask w.upcall)) s.waiting;
          })
          (record {
            numbers = shows.tables.numbers ∙ ap (λ (k : ℕ). record (numbers_in s) { alive = k })
                (sym (masked_alive c.args.handle.0 c.args.mask s.handles));
            handles = c.set_mask.ensures.items s.opened here
                ∙ ap (map (S.with_mask c.args.handle.0 c.args.mask)) shows.tables.handles;
            opens = shows.tables.opens;
            waiting = c.drop_masked.ensures.queues
                ∙ ap (masked c.args.handle.0 c.args.mask) shows.tables.waiting
                ∙ masked_by_class c.args.handle.0 c.args.mask s.waiting;
            armed = shows.tables.armed;
          });
      sound = sound_after {N = Unit {0}} (Masked c.args.handle c.args.mask) s number tt shows.sound;
    }

pub returns-clause-places : goal.returns-clause-places
returns-clause-places g c p has = record {
  handles = omega (arith, has.handles, c.set_mask.ensures.len, c.set_mask.ensures.capacity);
  timers = has.timers;
  waiting = room_moved _ _ _ _ p.timeouts p.events c.drop_masked.ensures.capacities
      c.drop_masked.ensures.queues (masked_room c.args.handle.0 c.args.mask _ p.timeouts p.events
      (queues c.args.self.now.waiting) has.waiting);
  opens = has.opens;
}
