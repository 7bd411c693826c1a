-- How many turns a connection has, and how it ended that reads on.
use Rattle.std.proofs.Common.{refl, ℕ, ◌≡◌, ◌≤◌, ◌+◌, List, [], ◌∷◌, ◌++◌, length, sym, ap, ◌∙◌}
use Rattle.std.proofs.Common.{subst, arith, Option, None, cond, ⊎_elim}
use Rattle.std.specs.List.{count_by}
use Rattle.std.proofs.lemmas.List.Sums.{sum_by-cons}
use Rattle.ev_base.specs.ev_types.specs.declared.upcall.Answer.{Answer}
use Rattle.ev_base.specs.ev_types.specs.declared.upcall.Answer.TheVariants.{Keep, Again, Close}
use Rattle.ev_base.specs.ev_types.specs.declared.upcall.Upcall.{Upcall}
use Rattle.ev_base.specs.ev_types.specs.declared.upcall.Why.{Why}
use Rattle.ev_base.specs.ev_types.specs.declared.upcall.Why.TheVariants.{Own, Removed, Refused}
use Rattle.ev_base.specs.Story.{Telling}
use Rattle.ev_base.specs.declared.source.Got.{Got}
use Rattle.ev_base.specs.declared.source.Got.TheVariants as got
use Rattle.log_handler.specs.cdr_record.specs.Decoding.{Stop, Clean, Partial, Malformed, decode}
use Rattle.reactor_model.specs.reactor_journal.specs.Event.{Item}
use Rattle.log_handler.specs.declared.note.ServerNote.{ServerNote}
use Rattle.log_handler.specs.Connection.{Progress, Course, ServesUpcall, ServesRead, DecodesPiece}
use Rattle.log_handler.specs.Connection.{LosesPiece, answer_to, kept_at}
use Rattle.log_handler.specs.Laws.{asks_again, is_again}
use Rattle.one_run.specs.Phases.{AllReadOn, EndsItself, EndsBy}

-- ---- how it ended

close_again : Close ≡ Again → ⊥
close_again q = cc

keep_again : Keep ≡ Again → ⊥
keep_again q = cc

-- if reading goes on, it stopped at no bad record
kept_none : (stop : Stop) → answer_to stop ≡ Again → kept_at stop ≡ None
kept_none Clean q = refl
kept_none (Partial n) q = refl
kept_none (Malformed at) q = absurd (close_again q)

goes_on : (conn : ℕ) (before : Progress) (gave : Got) (bytes : List ℕ) (telling : Option Telling)
    (item : Item ServerNote) (after : Progress)
    → ServesRead conn before gave bytes telling item after
    → item.answer ≡ Again → after.kept ≡ None
goes_on conn before (got.Bytes n) bytes telling item after serves again =
    ⊎_elim (λ (d : DecodesPiece conn before bytes item after.kept). d.ends
    ∙ kept_none (decode (before.taken ++ bytes)).stop (sym d.answers ∙ again))
    (λ (l : LosesPiece conn bytes item after.kept). absurd (close_again (sym l.answers ∙ again)))
    serves.1.told
goes_on conn before got.Pause bytes telling item after serves again =
    absurd (keep_again (sym serves.answers ∙ again))
goes_on conn before got.Over bytes telling item after serves again =
    absurd (close_again (sym serves.answers ∙ again))
goes_on conn before got.Failed bytes telling item after serves again =
    absurd (close_again (sym serves.answers ∙ again))

-- a connection each of whose turns read on did not end itself
pub reads_on : (conn : ℕ) (idle : Option ℕ) (start : Progress) (had : List (Item ServerNote))
    (p : Progress) → start.kept ≡ None → Course conn idle start had p → AllReadOn had
    → p.kept ≡ None
reads_on conn idle start [] p none course all = ap (λ (q : Progress). q.kept) course ∙ none
reads_on conn idle start (item ∷ had) p none course all =
    let reads = subst (λ (up : Upcall). ServesUpcall up conn idle start item course.0) all.0.upcall
    course.1.serves in
    reads_on conn idle course.0 had p (goes_on conn start reads.gave reads.bytes course.0.telling
    item course.0 reads.serves all.0.answer) course.2 all.1

-- ---- how many turns it had

again_one : (item : Item ServerNote) → item.answer ≡ Again
    → ◌≡◌ {A = ℕ} (cond (asks_again item) 1 0) 1
again_one item again = ap (λ (a : Answer). cond (is_again a) 1 0) again

all_again : (had : List (Item ServerNote)) → AllReadOn had → length had ≤ count_by asks_again had
all_again [] all = omega arith
all_again (item ∷ had) all = omega (
  arith,
  again_one item all.0.answer,
  all_again had all.1,
  sum_by-cons (λ (x : Item ServerNote). cond (asks_again x) 1 0) item had,
)

but_last : (had : List (Item ServerNote)) → EndsItself had
    → length had ≤ count_by asks_again had + 1
but_last [] ends = absurd ends
but_last (item ∷ []) ends = omega arith
but_last (item ∷ next ∷ had) ends =
    omega (
      arith,
      again_one item ends.0.answer,
      but_last (next ∷ had) ends.1,
      sum_by-cons (λ (x : Item ServerNote). cond (asks_again x) 1 0) item (next ∷ had),
    )

-- it had one turn more than it answered Again, at most
pub few_turns : (reason : Why) (had : List (Item ServerNote)) → EndsBy reason had
    → length had ≤ count_by asks_again had + 1
few_turns Own had ends = but_last had ends
few_turns Removed had ends = omega (arith, all_again had ends)
few_turns Refused had ends = absurd ends
