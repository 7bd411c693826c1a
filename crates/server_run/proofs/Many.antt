-- How many workers a run with observers has.
use Rattle.std.proofs.Common.{ℕ, ◌≡◌, Option, sym, subst}
use Rattle.ev_base.specs.ev_types.specs.declared.upcall.Handle.{Handle}
use Rattle.log_handler.specs.reactor_journal.specs.declared.entry.Entry.{Entry}
use Rattle.tp_reactor.specs.leader_token.specs.declared.kept.Kept.{Ghosts as Keeping}
use Rattle.tp_reactor.specs.reactor_core.specs.Stands.{Meaning}
use Rattle.tp_reactor.specs.reactor_desk.specs.declared.desk.Desk.{Desk}
use Rattle.tp_reactor.specs.reactor_desk.specs.declared.terms.DeskTerms.{DeskTerms}
use Rattle.tp_reactor.specs.Workers.{RunsWorkers}
use Rattle.tp_reactor.specs.declared.reactor.Worker.{Worker}
use Rattle.tp_reactor.specs.declared.working.Ran.{Ran}

-- a run by so many workers is one by as many
pub as_many : {H M Q W V N E : Type 0} {kept : Keeping (Desk H M Q W V N E) (Entry N) DeskTerms}
    {m : Meaning H M Q W V N E} {most : Option ℕ} {until : Option (ℕ × Handle)} {answer : Ran}
    {old new : Worker H M Q W V N E kept} (n k : ℕ) → n ≡ k
    → RunsWorkers m k most until old answer new
    → RunsWorkers m n most until old answer new
as_many {m = m} {most = most} {until = until} {answer = answer} {old = old} {new = new} n k is
    runs =
    subst (λ (i : ℕ). RunsWorkers m i most until old answer new) (sym is) runs
