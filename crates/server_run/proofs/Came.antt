-- What follows from how far a run came.
use Rattle.std.proofs.Common.{ℕ, ◌≡◌, ◌⊎◌, inl, inr, ⊎_elim, List, [], ◌∷◌, ◌++◌, Option, sym, ap}
use Rattle.std.proofs.Common.{◌∙◌}
use Rattle.ev_base.specs.Net.{NetFacts}
use Rattle.ev_base.specs.Terms.{Terms}
use Rattle.log_handler.specs.reactor_journal.specs.declared.entry.Entry.{Entry}
use Rattle.log_handler.specs.reactor_journal.specs.declared.entry.Entry.TheVariants.{Ended}
use Rattle.log_handler.specs.reactor_model.specs.Handling.{Handling}
use Rattle.server_run.specs.Journals.{IsRun}
use Rattle.server_run.specs.Served.{CameSo, IsUnled, IsUnmade, IsBrokenOr}
use Rattle.server_run.specs.declared.ending.Ending.{Ending}
use Rattle.server_run.specs.declared.ending.Ending.TheVariants as ending

-- what is said of the run and of its workers may be said in other words
pub came_as : {N : Type 0} {run run' led led' : Type 0} (how : Ending) (journal : List (Entry N))
    → (run → run') → (led → led') → CameSo how journal run led → CameSo how journal run' led'
came_as how journal runs leads (inl unmade) = inl unmade
came_as how journal runs leads (inr came) =
    inr (runs came.0, ⊎_elim inl (λ led. inr (leads led)) came.1)

-- ---- endings

-- an ending that names a cause is no other
names_no_other : (how cause other : Ending) → (ending.Broken ≡ other → ⊥) → (cause ≡ other → ⊥)
    → IsBrokenOr how cause → how ≡ other → ⊥
names_no_other how cause other whole uncaused (inl broken) is = whole (sym broken ∙ is)
names_no_other how cause other whole uncaused (inr caused) is = uncaused (sym caused ∙ is)

-- without a reactor, or without a worker that led, it was not over
pub unmade_goes_on : {N : Type 0} (how : Ending) (journal : List (Entry N)) → IsUnmade how journal
    → how ≡ ending.Over → ⊥
unmade_goes_on how journal unmade over = names_no_other how ending.NoMemory ending.Over
    (λ q. let not : ending.Broken ≡ ending.Over = q in cc)
    (λ q. let not : ending.NoMemory ≡ ending.Over = q in cc) unmade.named over

pub unled_goes_on : {N : Type 0} (how : Ending) (journal : List (Entry N)) → IsUnled how journal
    → how ≡ ending.Over → ⊥
unled_goes_on how journal unled over = ⊎_elim
    (λ named. names_no_other how ending.NotAttached ending.Over
    (λ q. let not : ending.Broken ≡ ending.Over = q in cc)
    (λ q. let not : ending.NotAttached ≡ ending.Over = q in cc) named over)
    (λ named. names_no_other how ending.NoMemory ending.Over
    (λ q. let not : ending.Broken ≡ ending.Over = q in cc)
    (λ q. let not : ending.NoMemory ≡ ending.Over = q in cc) named over)
    unled.named

-- a run that was over, or was ended by a notice, was made
pub made_at : {N : Type 0} {run led : Type 0} (how : Ending) (journal : List (Entry N))
    → (how ≡ ending.Over) ⊎ (how ≡ ending.Notified) → CameSo how journal run led → run
made_at how journal which (inr came) = came.0
made_at how journal (inl over) (inl unmade) = absurd (unmade_goes_on how journal unmade over)
made_at how journal (inr noticed) (inl unmade) =
    absurd (names_no_other how ending.NoMemory ending.Notified
    (λ q. let not : ending.Broken ≡ ending.Notified = q in cc)
    (λ q. let not : ending.NoMemory ≡ ending.Notified = q in cc) unmade.named noticed)

-- a listener that was not attached leaves the end alone
pub ended_alone : {H N E : Type 0} (means : Handling H E N) (t : Terms) (until : Option ℕ)
    (net : NetFacts E) (journal : List (Entry N)) {led : Type 0} → CameSo ending.NotAttached journal
    (IsRun means t until net ending.NotAttached journal) led → journal ≡ Ended ∷ []
ended_alone means t until net journal (inr came) =
    came.0.is ∙ ap (λ (l : List (Entry _)). l ++ Ended ∷ came.0.closing) came.0.ends.0
    ∙ ap (λ (l : List (Entry _)). Ended ∷ l) came.0.ends.1
ended_alone means t until net journal (inl unmade) = absurd (⊎_elim
    (λ q. let not : ending.NotAttached ≡ ending.Broken = q in cc)
    (λ q. let not : ending.NotAttached ≡ ending.NoMemory = q in cc) unmade.named)
