use Rattle.std.proofs.Common.{◌≡◌, true, Option, Some, None, sym, subst}
use Rattle.reactor_journal.specs.Past as P
use Rattle.reactor_summary.specs.Tells.{Each}
use Rattle.reactor_summary.specs.declared.parts.WaitingEvent.{WaitingEvent}
use Rattle.ev_types.specs.declared.upcall.Handle.{Handle}
use Rattle.journal_check.proofs.Fronts.{owned_handle, owned_none}
use Rattle.journal_check.proofs.waiting.Waiting.timeout_handle.Goals as goal

pub returns-in-None : goal.returns-in-None
returns-in-None c owned = owned_none c.args.timer None c.args.self.now
    (c.first_timeout.ensures.none c.in-None.is)

pub returns-in-Some : goal.returns-in-Some
returns-in-Some c owned =
    subst (λ (o : Option Handle). Each
    (λ (w : WaitingEvent). P.is_timeout_of c.args.timer w.upcall ≡ true → o ≡ Some w.handle)
    c.args.self.now) (sym c.handle_of.ensures)
    (owned_handle c.args.timer c.in-Some.event c.args.self.now c.in-Some.ensures.found owned)
