-- The end of a run of one connection.
use Rattle.std.proofs.Common.{ℕ, ◌≡◌, false, List, [], ◌∷◌, ◌++◌, ap, subst, arith, ⊎_elim, Option}
use Rattle.std.proofs.Common.{Some, None, Bool, inr}
use Rattle.ev_base.specs.Terms.{Terms}
use Rattle.reactor_model.specs.reactor_journal.specs.declared.entry.Entry.{Entry}
use Rattle.reactor_model.specs.reactor_journal.specs.declared.entry.Entry.TheVariants.{Ended}
use Rattle.reactor_model.specs.reactor_journal.specs.Past.{past_of}
use Rattle.reactor_core.specs.reactor_summary.specs.Summary.{summary}
use Rattle.reactor_core.specs.Beginning.{IsShutDown}
use Rattle.reactor_core.specs.Removing.{Stops, StopsOnce}
use Rattle.reactor_core.specs.Stands.{Meaning}
use Rattle.reactor_core.specs.declared.reactor.Core.{Core}
use Rattle.one_run.specs.Phases.{IsShut, IsFinished, ClosesAs, CanEnd}
use Rattle.log_handler.specs.declared.note.ServerNote.{ServerNote}
use Rattle.one_run.specs.Running.{HasEnded}
use Rattle.one_run.specs.declared.serving.Halt.{Halt}
use Rattle.one_run.proofs.Ends.{opened_goes, read_goes, stops_going, stops_shut}

-- until then the reactor was not stopped
pub not_ended : {N : Type 0} (h : List (Entry N)) → CanEnd h → (summary (past_of h)).ended ≡ false
not_ended h may = ⊎_elim (λ opened. ap (λ h. (summary (past_of h)).ended) opened)
    (λ rest. ⊎_elim (λ r. ap (λ s. s.ended) r.sums) (λ s. ap (λ sum. sum.ended) s.2.sums) rest) may

pub stops : {H M Q W V N E : Type 0} (m : Meaning H M Q W V N E) (t : Terms) (F : ℕ)
    (h : List (Entry N)) (new : Core H M Q W V N E) → CanEnd h
    → StopsOnce m t F h new (summary (past_of h)).ended → Stops m t F h new
stops m t F h new may once = subst (λ b. StopsOnce m t F h new b) (not_ended h may) once

pub finishes : {H M Q W V N E : Type 0} (m : Meaning H M Q W V N E) (t : Terms) (F : ℕ)
    (h : List (Entry N)) (new : Core H M Q W V N E) → CanEnd h → (s : Stops m t F h new)
    → IsFinished ((h ++ Ended ∷ []) ++ s.entries)
finishes m t F h new may s =
    ⊎_elim (λ opened. stops_going t.most h s.entries (opened_goes h opened) s.stands.tracks.legal
    s.removals)
    (λ rest. ⊎_elim (λ r. stops_going t.most h s.entries (read_goes h r) s.stands.tracks.legal
    s.removals) (λ shut. (stops_shut shut.0 h s.entries shut.1 shut.2 s.removals).0) rest) may

pub finishes_shut : {H M Q W V N E : Type 0} (m : Meaning H M Q W V N E) (t : Terms) (F : ℕ)
    (h : List (Entry N)) (new : Core H M Q W V N E) (now : ℕ) (shut : IsShut (now ∷ []) h)
    (s : Stops m t F h new)
    → (finished : IsFinished ((h ++ Ended ∷ []) ++ s.entries))
    × ClosesAs shut.closed ((h ++ Ended ∷ []) ++ s.entries) finished
finishes_shut m t F h new now shut s =
    stops_shut (now ∷ []) h s.entries (omega arith) shut s.removals

pub is_over : {N : Type 0} (h : List (Entry N)) → IsFinished h → IsShutDown (summary (past_of h))
is_over h f = record { ended = ap (λ s. s.ended) f.sums; none_live = ap (λ s. s.handles) f.sums }

pub ended_can : (halt : Option Halt) (lost : Bool) (h : List (Entry ServerNote))
    → HasEnded halt lost h → CanEnd h
ended_can None lost h ended = inr (inr (ended.0 ∷ [], omega arith, ended.1.0))
ended_can (Some why) lost h ended = ended
