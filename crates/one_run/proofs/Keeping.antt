-- What the calls of the reactor keep in a run of one connection.
use Rattle.std.proofs.Common.{ℕ, Bool, true, false, List, sym, subst, length}
use Rattle.ev_base.specs.Terms.{Terms}
use Rattle.reactor_model.specs.reactor_journal.specs.declared.entry.Entry.{Entry}
use Rattle.reactor_core.specs.Stands.{Meaning, Stands}
use Rattle.reactor_core.specs.HandingOver.{is_due, HandsDue, HandsOver}
use Rattle.reactor_core.specs.declared.reactor.Core.{Core}

due_keeps : {H M Q W V N E : Type 0} (due : Bool) (m : Meaning H M Q W V N E) (t : Terms)
    (old new : Core H M Q W V N E) (F : ℕ) (h : List (Entry N)) (n : ℕ)
    → HandsDue due m t F h n old new → Stands m t old F h
    → (now : ℕ) × Stands m t new now h
due_keeps true m t old new F h n handed stands = (length h, handed.1)
due_keeps false m t old new F h n handed stands =
    (F, subst (λ core. Stands m t core F h) (sym handed.1) stands)

pub handed_over : {H M Q W V N E : Type 0} (m : Meaning H M Q W V N E) (t : Terms)
    (old new : Core H M Q W V N E) (F : ℕ) (h : List (Entry N)) (n : ℕ)
    → HandsOver m t F h n old new → Stands m t old F h
    → (now : ℕ) × Stands m t new now h
handed_over m t old new F h n over stands =
    due_keeps (is_due old F h) m t old new F h n over.handed stands
