use Rattle.std.proofs.Common.{None, Ok, ap, refl, ◌∙◌, ◌++◌, ◌∷◌, []}
use Rattle.reactor_model.specs.reactor_journal.specs.declared.entry.Entry.TheVariants.{Started}
use Rattle.reactor_core.specs.reactor_state.specs.State.{Shows, HasPlaces, IsPlaced}
use Rattle.reactor_core.specs.Stands.{meaning}
use Rattle.core_loop.proofs.Idling.{closed_so, idle_same}
use Rattle.core_loop.proofs.Leading.{closed_then, had_upcall, makes_none, makes_turn, goes_same}
use Rattle.core_loop.proofs.Leading.{stays_so}
use Rattle.core_loop.proofs.Upcalls.{gave_some, fits_started, has_none, stays_idle}
use Rattle.core_loop.proofs.turns.turn.Goals as goal

pub settle-requires : goal.settle-requires
settle-requires g c =
    let i = c.requires in
    let m = meaning g.H.EventHandler.means g.M.Net.facts g.M.Net.keeps (Shows g.Q.TimerQueue.timers)
    (HasPlaces g.Q.TimerQueue.spare) IsPlaced g.W.Watch.stands g.W.Watch.faults
    g.W.Watch.is_broken g.W.Watch.whole g.V.Volumes.facts in
    let gives = gave_some m c.args.core.now _ c.start.result c.in-Ok-Some.job i.terms i.first
    i.history i.stands (c.in-Ok-Some.is ∙ ap Ok c.in-Ok-Some.field-0-is) c.start.ensures.ok in
    record {
      stands = (
        i.terms,
        i.first,
        i.history ++ Started c.in-Ok-Some.job.event ∷ [],
        gives.1,
        fits_started m i.terms i.history c.in-Ok-Some.job.event _
            (c.run-done.ensures.fits i.terms _ gives.2),
      );
    }

pub returns-in-Ok-Some-clause-leads : goal.returns-in-Ok-Some-clause-leads
returns-in-Ok-Some-clause-leads g c =
    makes_turn _ c.args.core.now _ c.settle.new.self c.start.result c.in-Ok-Some.job
    c.run-done.result c.settle.result (c.in-Ok-Some.is ∙ ap Ok c.in-Ok-Some.field-0-is)
    c.start.ensures.ok c.run-done.ensures.fits c.run-done.ensures.same.event
    c.settle.ensures.stands

pub returns-in-Ok-Some-clause-idle : goal.returns-in-Ok-Some-clause-idle
returns-in-Ok-Some-clause-idle g c = stays_so _ c.args.core.now c.settle.new.self
    (returns-in-Ok-Some-clause-leads g c) c.requires

pub returns-in-Ok-Some-clause-stays : goal.returns-in-Ok-Some-clause-stays
returns-in-Ok-Some-clause-stays g c = λ bound i. stays_so _ c.args.core.now c.settle.new.self
    (returns-in-Ok-Some-clause-leads g c) i

pub returns-in-Ok-Some-clause-closed : goal.returns-in-Ok-Some-clause-closed
returns-in-Ok-Some-clause-closed g c =
    λ closed is. closed_so c.settle.new.self c.settle.result.closed closed is
    (closed_then _ c.args.core.now c.settle.new.self c.settle.result.closed
    (returns-in-Ok-Some-clause-leads g c) c.requires)

pub returns-in-Ok-Some-clause-some : goal.returns-in-Ok-Some-clause-some
returns-in-Ok-Some-clause-some g c = λ closed is.
    had_upcall _ c.args.core.now c.settle.new.self c.settle.result.closed
    (returns-in-Ok-Some-clause-leads g c)

pub returns-in-Ok-None-clause-leads : goal.returns-in-Ok-None-clause-leads
returns-in-Ok-None-clause-leads g c =
    makes_none _ c.args.core.now c.start.new.self c.start.result
    (c.in-Ok-None.is ∙ ap Ok c.in-Ok-None.field-0-is) c.start.ensures.ok

pub returns-in-Ok-None-clause-idle : goal.returns-in-Ok-None-clause-idle
returns-in-Ok-None-clause-idle g c =
    stays_idle _ c.args.core.now c.start.new.self c.start.result c.requires
    (c.in-Ok-None.is ∙ ap Ok c.in-Ok-None.field-0-is) c.start.ensures.ok

pub returns-in-Ok-None-clause-stays : goal.returns-in-Ok-None-clause-stays
returns-in-Ok-None-clause-stays g c = λ bound i.
    stays_idle _ c.args.core.now c.start.new.self c.start.result i
    (c.in-Ok-None.is ∙ ap Ok c.in-Ok-None.field-0-is) c.start.ensures.ok

pub returns-in-Ok-None-clause-none : goal.returns-in-Ok-None-clause-none
returns-in-Ok-None-clause-none g c = λ is.
    has_none _ c.args.core.now c.start.new.self c.start.result c.requires
    (c.in-Ok-None.is ∙ ap Ok c.in-Ok-None.field-0-is) c.start.ensures.ok

pub returns-in-Err-clause-idle : goal.returns-in-Err-clause-idle
returns-in-Err-clause-idle g c =
    let i = c.requires in
    idle_same c.args.core.now c.start.new.self i
    (c.in-Err.ensures.err i.terms i.first i.history i.stands)

pub returns-in-Err-clause-stays : goal.returns-in-Err-clause-stays
returns-in-Err-clause-stays g c = λ bound i.
    idle_same c.args.core.now c.start.new.self i
    (c.in-Err.ensures.err i.terms i.first i.history i.stands)

pub returns-in-Err-clause-leads : goal.returns-in-Err-clause-leads
returns-in-Err-clause-leads g c = λ t F h stands none.
    goes_same _ t h _ F c.start.new.self (c.in-Err.ensures.err t F h stands) none refl
