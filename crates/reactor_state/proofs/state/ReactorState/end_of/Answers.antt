use Rattle.std.proofs.Common.{◌≡◌, ◌==◌, ℕ, not, map, sym, ap, ◌∙◌, subst, arith}
use Rattle.reactor_summary.specs.declared.parts.WaitingEvent.{WaitingEvent}
use Rattle.reactor_summary.specs.Summary as S
use Rattle.reactor_summary.specs.Summary.{Summary}
use Rattle.reactor_state.specs.State.{Numbers, numbers_in}
use Rattle.reactor_state.specs.Tables.{alive_count, queues}
use Rattle.reactor_state.specs.Sound.{handle_number}
use Rattle.reactor_state.specs.Rises.{RisesIn}
use Rattle.reactor_state.proofs.Stepped.{alive_less, events_kept}
use Rattle.reactor_state.proofs.Queued.{kept_room, room_moved}
use Rattle.reactor_state.proofs.state.ReactorState.end_of.Goals as goal

pub returns-clause-tables : goal.returns-clause-tables
returns-clause-tables g c s hi tables rising =
    let old = c.args.self.now in
    let here : RisesIn handle_number 0 hi old.handles.items =
    subst (RisesIn handle_number 0 hi) (sym tables.handles) rising in
    let handles : c.end_life-was_alive.new.handles.items
    ≡ map (S.with_end (S.of_handle c.args.handle)) s.handles =
    c.end_life-was_alive.ensures.items hi here
    ∙ ap (map (S.with_end (S.of_handle c.args.handle))) tables.handles in
    record {
      numbers = ap (λ (n : Numbers). record n { alive = c.fewer-self.result }) tables.numbers
          ∙ ap (λ (k : ℕ). record (numbers_in s) { alive = k })
          (c.fewer-self.ensures ∙ alive_less old.alive c.end_life-was_alive.result s.handles
          c.end_life-was_alive.new.handles.items old.handles.items
          (ap (λ (n : Numbers). n.alive) tables.numbers) c.end_life-was_alive.ensures.alive
          tables.handles
          ∙ ap alive_count handles);
      handles = handles;
      opens = tables.opens;
      waiting = events_kept (λ (w : WaitingEvent). not (c.args.handle.0 == w.handle.0))
          (queues old.waiting) (queues c.drop_of.new.self) s.waiting c.drop_of.ensures.queues
          tables.waiting;
      armed = c.disarm_all.ensures.armed s.armed tables.armed;
    }

pub returns-clause-places : goal.returns-clause-places
returns-clause-places g c p has = record {
  handles = omega (
    arith,
    has.handles,
    c.end_life-was_alive.ensures.len,
    c.end_life-was_alive.ensures.capacity,
  );
  timers = c.disarm_all.ensures.room p.timers has.timers;
  waiting = room_moved _ _ _ _ p.timeouts p.events c.drop_of.ensures.capacities
      c.drop_of.ensures.queues (kept_room
      (λ (w : WaitingEvent). not (c.args.handle.0 == w.handle.0)) _ p.timeouts p.events
      (queues c.args.self.now.waiting) has.waiting);
  opens = has.opens;
}
