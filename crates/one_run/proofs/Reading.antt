-- A connection whose end never pauses never keeps at input.
use Rattle.std.proofs.Common.{ℕ, ◌≡◌, List, [], ◌∷◌, ◌++◌, sym, ap, ◌∙◌, subst, Option, Some}
use Rattle.std.proofs.Common.{⊎_elim}
use Rattle.ev_base.specs.ev_types.specs.declared.upcall.Answer.TheVariants.{Keep, Close}
use Rattle.ev_base.specs.ev_types.specs.declared.upcall.Upcall.{Upcall}
use Rattle.ev_base.specs.ev_types.specs.declared.upcall.Upcall.TheVariants.{Input}
use Rattle.ev_base.specs.Source.{SourceFacts}
use Rattle.ev_base.specs.Story.{Telling}
use Rattle.ev_base.specs.Terms.{Terms}
use Rattle.ev_base.specs.End.{Paused}
use Rattle.ev_base.specs.declared.end.PeerEnd.{Ghosts}
use Rattle.ev_base.specs.declared.source.Got.{Got}
use Rattle.ev_base.specs.declared.source.Got.TheVariants as got
use Rattle.log_handler.specs.cdr_record.specs.Decoding.{Stop, Clean, Partial, Malformed, decode}
use Rattle.reactor_model.specs.reactor_journal.specs.Event.{Item, Origin}
use Rattle.log_handler.specs.declared.note.ServerNote.{ServerNote}
use Rattle.log_handler.specs.declared.connection.LogConnection.{LogConnection}
use Rattle.log_handler.specs.Connection.{Progress, Course, ServesUpcall, ServesRead, answer_to}
use Rattle.log_handler.specs.Connections.{ConnectionFits}
use Rattle.one_net.specs.declared.one_end.OneEnd.{OneEnd}
use Rattle.one_net.specs.OneEnd.{one_end_facts}
use Rattle.one_net.specs.OneKeeps.{OneEndKeeps}

not_close : Close ≡ Keep → ⊥
not_close q = cc

not_answer : (stop : Stop) → answer_to stop ≡ Keep → ⊥
not_answer Clean q = cc
not_answer (Partial n) q = cc
not_answer (Malformed at) q = cc

by_gave : (conn : ℕ) (before : Progress) (gave : Got) (bytes : List ℕ) (telling : Option Telling)
    (item : Item ServerNote) (after : Progress)
    → ServesRead conn before gave bytes telling item after
    → item.answer ≡ Keep → after.last_read ≡ Some Paused
by_gave conn before (got.Bytes n) bytes telling item after serves keep =
    absurd (⊎_elim (λ d. not_answer (decode (before.taken ++ bytes)).stop (sym d.answers ∙ keep))
    (λ l. not_close (sym l.answers ∙ keep)) serves.1.told)
by_gave conn before got.Pause bytes telling item after serves keep =
    ap (λ (p : Progress). p.last_read) serves.leaves
by_gave conn before got.Over bytes telling item after serves keep =
    absurd (not_close (sym serves.answers ∙ keep))
by_gave conn before got.Failed bytes telling item after serves keep =
    absurd (not_close (sym serves.answers ∙ keep))

pub keeps_paused : (conn : ℕ) (idle : Option ℕ) (start : Progress) (had : List (Item ServerNote))
    (item : Item ServerNote) (p : Progress) → Course conn idle start (had ++ item ∷ []) p
    → item.upcall ≡ Input → item.answer ≡ Keep → p.last_read ≡ Some Paused
keeps_paused conn idle start [] item p course input keep =
    let reads = subst (λ (up : Upcall). ServesUpcall up conn idle start item course.0) input
    course.1.serves in
    ap (λ (q : Progress). q.last_read) course.2
    ∙ by_gave conn start reads.gave reads.bytes course.0.telling item course.0 reads.serves keep
keeps_paused conn idle start (first ∷ had) item p course input keep =
    keeps_paused conn idle course.0 had item p course.2 input keep

pub never_keeps : {S : Type 0} {G : Ghosts (OneEnd S)} (source : S → SourceFacts) (t : Terms)
    (origin : Option (Origin ServerNote)) (handler : LogConnection (OneEnd S) G)
    (had : List (Item ServerNote)) (item : Item ServerNote)
    → ConnectionFits (one_end_facts source) (OneEndKeeps source) t origin handler (had ++ item ∷ [])
    → item.upcall ≡ Input → item.answer ≡ Keep → ⊥
never_keeps source t origin handler had item fits input keep =
    fits.kept_end.never_pauses (fits.served.end.last_read
    ∙ keeps_paused _ _ _ had item fits.served.now fits.served.course input keep)
