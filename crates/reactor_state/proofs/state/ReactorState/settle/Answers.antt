use Rattle.std.proofs.Common.{◌≡◌, ◌+◌, ◌==◌, Option, not, ap, ◌∙◌, subst}
use Rattle.reactor_summary.specs.reactor_journal.specs.declared.entry.Entry.TheVariants.{Returned}
use Rattle.reactor_summary.specs.Summary as S
use Rattle.reactor_summary.specs.Summary.{Summary}
use Rattle.reactor_state.specs.State.{Numbers}
use Rattle.reactor_state.proofs.Soundness.{sound_after}
use Rattle.std.specs.List.{filter, find}
use Rattle.reactor_summary.specs.declared.parts.OpenEvent.{OpenEvent}
use Rattle.reactor_state.specs.State.{HasTables, answered}
use Rattle.reactor_state.proofs.Stepped.{settled}
use Rattle.reactor_state.proofs.state.ReactorState.settle.Goals as goal

pub returns-clause-steps : goal.returns-clause-steps
returns-clause-steps g c note s shows number =
    let old = c.args.self.now in
    let tables = shows.tables in
    let found : c.find_open-found.result ≡ S.open_event s c.args.event =
    c.find_open-found.ensures ∙ ap (find (λ (o : OpenEvent). o.event == c.args.event))
    (c.deref.ensures.value ∙ tables.opens) in
    let entries : old.entries + 1 ≡ s.entries + 1 =
    ap (λ (n : Numbers). n.entries + 1) tables.numbers in
    record {
      tables = settled g.Q.TimerQueue.timers c.args.event (old.entries + 1) c.args.answer note s
          c.answered.new.self
          (subst (λ (o : Option OpenEvent). HasTables g.Q.TimerQueue.timers c.answered.new.self
          (answered o c.args.answer (record s {
            opens = filter (λ (o : OpenEvent). not (c.args.event == o.event)) s.opens;
          }))) found
          (c.answered.ensures.tables (record s {
            opens = filter (λ (o : OpenEvent). not (c.args.event == o.event)) s.opens;
          }) s.opened
          (record {
            numbers = tables.numbers;
            handles = tables.handles;
            opens =
                c.settle.ensures.items ∙ ap (filter
                (λ (o : OpenEvent). not (c.args.event == o.event))) tables.opens;
            waiting = tables.waiting;
            armed = tables.armed;
          })
          shows.sound.handles))
          entries;
      sound = sound_after {N = g.row.N.Denot} (Returned c.args.event c.args.answer note) s number tt
          shows.sound;
    }
