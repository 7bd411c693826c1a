-- The summary of a legal past tells what the past tells.
use Rattle.std.proofs.Common.{ℕ, suc, ◌≡◌, true, List, [], ◌∷◌, refl, ap, ◌∙◌}
use Rattle.std.proofs.lemmas.Bool.{false≢true, and_parts}
use Rattle.reactor_journal.specs.declared.entry.Entry.{Entry}
use Rattle.reactor_journal.specs.declared.entry.Entry.TheVariants.{Opened, Scheduled, Refused}
use Rattle.reactor_journal.specs.declared.entry.Entry.TheVariants.{Closed, Ended}
use Rattle.reactor_journal.specs.Past as P
use Rattle.reactor_journal.specs.Follow.{may_follow, is_legal}
use Rattle.reactor_summary.specs.Summary as S
use Rattle.reactor_summary.specs.Summary.{Summary, summary}
use Rattle.reactor_summary.specs.Tells as T
use Rattle.reactor_summary.specs.Tells.{Tells}
use Rattle.reactor_summary.proofs.Handles.{handles_step}
use Rattle.reactor_summary.proofs.Waiting.{waiting_step}
use Rattle.reactor_summary.proofs.OpenSteps.{opens_step, all_opens_step}
use Rattle.reactor_summary.proofs.ArmedSteps.{armed_step}

opened_step : {N : Type 0} (e : Entry N) (past : List (Entry N))
    → S.opened_after e (P.opened past) ≡ P.opened (e ∷ past)
opened_step (Opened handle mask) past = refl
opened_step _ past = refl

closed_step : {N : Type 0} (e : Entry N) (past : List (Entry N))
    → S.closed_after e (P.count P.is_closed past) ≡ P.count P.is_closed (e ∷ past)
closed_step (Closed handle note) past = refl
closed_step _ past = refl

scheduled_step : {N : Type 0} (e : Entry N) (past : List (Entry N))
    → S.scheduled_after e (P.scheduled past) ≡ P.scheduled (e ∷ past)
scheduled_step (Scheduled timer handle first every) past = refl
scheduled_step _ past = refl

refused_step : {N : Type 0} (e : Entry N) (past : List (Entry N))
    → S.refused_after e (P.count T.is_refused past) ≡ P.count T.is_refused (e ∷ past)
refused_step (Refused live fault note) past = refl
refused_step _ past = refl

ended_step : {N : Type 0} (e : Entry N) (past : List (Entry N))
    → S.ended_after e (P.ended past) ≡ P.ended (e ∷ past)
ended_step Ended past = refl
ended_step _ past = refl

-- one more entry
pub tells_more : {N : Type 0} (most : ℕ) (e : Entry N) (past : List (Entry N)) (s : Summary)
    → is_legal most past ≡ true → may_follow most past e ≡ true → Tells past s
    → Tells (e ∷ past) (S.step s e)
tells_more most e past s legal may t = record {
  entries = ap suc t.entries;
  moment = ap (P.now_after e) t.moment;
  opened = ap (S.opened_after e) t.opened ∙ opened_step e past;
  closed = ap (S.closed_after e) t.closed ∙ closed_step e past;
  scheduled = ap (S.scheduled_after e) t.scheduled ∙ scheduled_step e past;
  refused = ap (S.refused_after e) t.refused ∙ refused_step e past;
  ended = ap (S.ended_after e) t.ended ∙ ended_step e past;
  handles = handles_step most e past s legal may t;
  waiting = waiting_step most e past s legal may t;
  opens = opens_step most e past s legal may t;
  all_opens = all_opens_step most e past s legal may t;
  armed = armed_step most e past s legal may t;
}

pub told : {N : Type 0} (most : ℕ) (past : List (Entry N)) → is_legal most past ≡ true
    → Tells past (summary past)
told most [] legal = record {
  entries = refl;
  moment = refl;
  opened = refl;
  closed = refl;
  scheduled = refl;
  refused = refl;
  ended = refl;
  handles = refl;
  waiting = refl;
  opens = tt;
  all_opens = λ i h. absurd (false≢true h);
  armed = refl;
}
told most (e ∷ past) legal =
    let parts : (may_follow most past e ≡ true) × (is_legal most past ≡ true) =
    and_parts _ _ legal in
    tells_more most e past (summary past) parts.1 parts.0 (told most past parts.1)
