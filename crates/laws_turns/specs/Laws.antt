-- What the turns of a handler have to do with its life.
use Rattle.std.specs.Prelude.{◌≡◌, ◌++◌, ◌∷◌, [], ℕ, Bool, true, false, cond, List, IsTrue}
use Rattle.std.specs.List.{list_all}
use Rattle.reactor_summary.specs.ev_types.specs.declared.upcall.Answer.{Answer}
use Rattle.reactor_summary.specs.ev_types.specs.declared.upcall.Answer.TheVariants.{Close}
use Rattle.reactor_summary.specs.ev_types.specs.declared.upcall.Why.TheVariants.{Own}
use Rattle.reactor_summary.specs.reactor_journal.specs.Event.{Item}
use Rattle.reactor_summary.specs.reactor_journal.specs.declared.entry.Entry.{Entry}
use Rattle.reactor_summary.specs.reactor_journal.specs.Past.{past_of, is_alive, is_open, had}
use Rattle.reactor_summary.specs.reactor_journal.specs.Past.{reason_of, now}
use Rattle.reactor_summary.specs.reactor_journal.specs.Follow.{Legal}
use Rattle.reactor_summary.specs.Summary.{summary}
use Rattle.list_lemmas.specs.Times.{times}
use Rattle.laws_turns.specs.Opens.{opens_of}

-- whether the answer leaves the handler registered
abbrev pub stays : Answer → Bool
stays Close = false
stays _ = true

-- no turn of a handler that is alive was answered by Close
abbrev pub NoCloseWhileAlive : Type 0 → Type 0
NoCloseWhileAlive N =
    (journal : List (Entry N)) (most x : ℕ) → Legal journal most
    → IsTrue (is_alive (past_of journal) x)
    → IsTrue (list_all (λ item. stays item.answer) (had (past_of journal) x))

-- the last turn of a handler that ended its own life was
abbrev pub ClosesLast : Type 0 → Type 0
ClosesLast N =
    (journal : List (Entry N)) (most x : ℕ) → Legal journal most
    → reason_of (past_of journal) x ≡ Own
    → (before : List (Item N)) × (last : Item N) × (had (past_of journal) x ≡ before ++ last ∷ [])
    × (last.answer ≡ Close)

-- each open event stands once among those that are open, and no other stands there
abbrev pub OpensOnce : Type 0 → Type 0
OpensOnce N =
    (journal : List (Entry N)) (most event : ℕ) → Legal journal most
    → times event (opens_of journal) ≡ cond (is_open (past_of journal) event) 1 0

-- the moment that a journal sums up to is that of its last wait
abbrev pub MomentIsNow : Type 0 → Type 0
MomentIsNow N = (past : List (Entry N)) → (summary past).moment ≡ now past
