use Rattle.std.proofs.Common.{ap, ◌∙◌}
use Rattle.std.specs.List.{find}
use Rattle.std.specs.Option.{option_map}
use Rattle.reactor_summary.specs.reactor_journal.specs.Past.{is_timeout_of}
use Rattle.reactor_summary.specs.declared.parts.WaitingEvent.{WaitingEvent}
use Rattle.reactor_state.specs.Tables.{Queues}
use Rattle.reactor_state.proofs.Queued.{timeout_in}
use Rattle.reactor_state.proofs.state.ReactorState.timeout_handle.Goals as goal

pub returns : goal.returns
returns g c s shows =
    c.timeout_handle.ensures
    ∙ ap (λ (q : Queues). option_map (λ (w : WaitingEvent). w.handle)
    (find (λ (w : WaitingEvent). is_timeout_of c.args.timer w.upcall) q.timeouts))
    shows.tables.waiting
    ∙ ap (option_map (λ (w : WaitingEvent). w.handle)) (timeout_in c.args.timer s.waiting)
