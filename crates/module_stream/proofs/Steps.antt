-- Steps of a task.
use Rattle.std.proofs.Common.{◌≡◌, Bool, true, false, true≢false, List, [], ◌∷◌, ◌++◌, refl, sym}
use Rattle.std.proofs.Common.{ap, ◌∙◌, subst, append_assoc, append-nil}
use Rattle.message_block.specs.Messages.{MessageState}
use Rattle.module_stream.specs.Composition.{Comes}
use Rattle.module_stream.proofs.Rows.{comes_more}
use Rattle.module_stream.specs.Progress.{Gives, Begins, ComesFirst, Progress}

-- nothing was put
pub no_progress : (gives : Gives) → Progress gives [] [] false gives
no_progress gives = record { comes = λ _ more. refl; first = λ more. (gives more, refl) }

-- what came out and what comes begins what the task gives
comes_first : (gives after : Gives) (put out : List MessageState) → Comes gives put out after
    → ComesFirst gives put out
comes_first gives after put out comes = λ more. (after more, comes more)

-- one more message was put, and something came out
pub progress_put : (gives now after : Gives) (put out given : List MessageState)
    (message : MessageState) (lost : Bool) →
    lost ≡ false → Progress gives put out lost now → Comes now (message ∷ []) given after
    → Progress gives (put ++ message ∷ []) (out ++ given) lost after
progress_put gives now after put out given message lost sound h comes =
    let all = comes_more gives now after put out given (out ++ given) message (h.comes sound) comes
    refl in
    record {
      comes = λ _. all;
      first = comes_first gives after (put ++ message ∷ []) (out ++ given) all;
    }

-- one more message was put, and it or what came out is lost
pub progress_lost : (gives now after : Gives) (put out : List MessageState) (message : MessageState)
    (lost : Bool) →
    Progress gives put out lost now → Progress gives (put ++ message ∷ []) out true after
progress_lost gives now after put out message lost h = record {
  comes = λ e. absurd (true≢false e);
  first = λ more. let old = h.first (message ∷ more) in
      (old.0, ap gives (append_assoc put (message ∷ []) more) ∙ old.1);
}

-- nothing more is put
pub begins_now : (gives rest : Gives) (put out : List MessageState) (lost : Bool)
    → Progress gives put out lost rest → Begins out (gives put)
begins_now gives rest put out lost h = let now = h.first [] in
    (now.0, ap gives (sym (append-nil put)) ∙ now.1)

pub whole_now : (gives rest : Gives) (put out : List MessageState) (lost : Bool) → lost ≡ false
    → Progress gives put out lost rest → gives put ≡ out ++ rest []
whole_now gives rest put out lost sound h = ap gives (sym (append-nil put)) ∙ h.comes sound []

-- what came out last was dropped
pub progress_dropped : (gives rest : Gives) (put out dropped : List MessageState) (lost more : Bool)
    →
    (more ≡ false → dropped ≡ []) → (more ≡ false → lost ≡ false)
    → Progress gives put (out ++ dropped) lost rest → Progress gives put out more rest
progress_dropped gives rest put out dropped lost more none sound h = record {
  comes = λ e. subst (λ l. Comes gives put l rest) (ap (λ l. out ++ l) (none e) ∙ append-nil out)
      (h.comes (sound e));
  first = λ next. let old = h.first next in
      (dropped ++ old.0, old.1 ∙ append_assoc out dropped old.0);
}
