use Rattle.std.proofs.Common.{◌≡◌, ◌+◌, ◌==◌, ℕ, suc, not, sym, ap, ◌∙◌, subst}
use Rattle.reactor_summary.specs.reactor_journal.specs.declared.entry.Entry.TheVariants.{Closed}
use Rattle.reactor_summary.specs.declared.parts.LiveHandle.{LiveHandle}
use Rattle.reactor_state.specs.State.{Numbers, numbers_in}
use Rattle.reactor_state.specs.Tables.{alive_count}
use Rattle.reactor_state.proofs.Soundness.{sound_after}
use Rattle.std.proofs.Common.{add-one}
use Rattle.reactor_state.specs.Sound.{handle_number}
use Rattle.reactor_state.specs.Rises.{RisesIn}
use Rattle.std.specs.List.{filter}
use Rattle.reactor_state.proofs.Stepped.{tables_counted, alive_less}
use Rattle.reactor_state.proofs.state.ReactorState.close.Goals as goal

pub returns-clause-steps : goal.returns-clause-steps
returns-clause-steps g c note s shows can =
    let old = c.args.self.now in
    let tables = shows.tables in
    let here : RisesIn handle_number 0 s.opened old.handles.items =
    subst (RisesIn handle_number 0 s.opened) (sym tables.handles) shows.sound.handles in
    let handles : c.close-was_alive.new.handles.items
    ≡ filter (λ (h : LiveHandle). not (c.args.handle.0 == h.handle.0)) s.handles =
    c.close-was_alive.ensures.items s.opened here
    ∙ ap (filter (λ (h : LiveHandle). not (c.args.handle.0 == h.handle.0))) tables.handles in
    record {
      tables = tables_counted g.Q.TimerQueue.timers
          (record c.args.self.now {
            closed = c.args.self.now.closed + 1;
            alive = c.fewer-self.result;
            handles = c.close-was_alive.new.handles;
          })
          (record s {
            closed = suc s.closed;
            handles = filter (λ (h : LiveHandle). not (c.args.handle.0 == h.handle.0)) s.handles;
          })
          (record {
            numbers = ap (λ (n : Numbers). record n {
              closed = n.closed + 1;
              alive = c.fewer-self.result;
            }) tables.numbers
                ∙ ap (λ (k : ℕ). record (numbers_in s) { closed = k; alive = c.fewer-self.result })
                (add-one s.closed)
                ∙ ap (λ (k : ℕ). record (numbers_in s) { closed = suc s.closed; alive = k })
                (c.fewer-self.ensures ∙ alive_less old.alive c.close-was_alive.result s.handles
                c.close-was_alive.new.handles.items old.handles.items
                (ap (λ (n : Numbers). n.alive) tables.numbers) c.close-was_alive.ensures.alive
                tables.handles
                ∙ ap alive_count handles);
            handles = handles;
            opens = tables.opens;
            waiting = tables.waiting;
            armed = tables.armed;
          });
      sound = sound_after {N = g.row.N.Denot} (Closed c.args.handle note) s can.0 can.1 shows.sound;
    }
