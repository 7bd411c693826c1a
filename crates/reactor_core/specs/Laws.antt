-- What holds of an upcall on its way while the reactor goes on.
use Rattle.std.specs.Prelude.{◌≡◌, true, List, [], ◌++◌}
use Rattle.ev_base.specs.Terms.{Terms}
use Rattle.reactor_model.specs.reactor_journal.specs.declared.entry.Entry.{Entry}
use Rattle.reactor_model.specs.reactor_journal.specs.Past.{past_of, is_open}
use Rattle.reactor_model.specs.reactor_journal.specs.Follow.{Legal}
use Rattle.reactor_model.specs.Handling.{Handling}
use Rattle.reactor_summary.specs.Summary.{Summary}
use Rattle.reactor_core.specs.Beginning.{IsShutDown}
use Rattle.reactor_core.specs.Stands.{IsSettled}
use Rattle.reactor_core.specs.Upcalls.{DoneFits}
use Rattle.reactor_core.specs.declared.job.Done.{Done}

-- From a moment at which an upcall fits the journal to a later one at which its event is open
-- still, it fits the journal: its handler had no turn meanwhile.
abbrev pub IsSettledLater : {H E N : Type 0} → Handling H E N → Type 0
IsSettledLater {H} {E} {N} means =
    (t : Terms) (journal more : List (Entry N)) (done : Done H N E) → Legal (journal ++ more) t.most
    → DoneFits means t (past_of journal) done
    → is_open (past_of (journal ++ more)) done.event ≡ true
    → DoneFits means t (past_of (journal ++ more)) done

-- a reactor that was stopped is over once no upcall is on its way
abbrev pub IsOverOnceStopped : Type 0
IsOverOnceStopped = (s : Summary) → IsSettled s → s.ended ≡ true → s.opens ≡ [] → IsShutDown s
