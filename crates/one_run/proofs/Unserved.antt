-- What is left of a reactor that had no handler.
use Rattle.std.proofs.Common.{Bool, ℕ, zero, suc, ◌≡◌, ◌≤◌, true, false, List, [], ◌∷◌, ◌++◌, refl}
use Rattle.std.proofs.Common.{sym, ap, ◌∙◌, subst, arith, Option, Some, None, ⊎_elim, ◌⊎◌, inr}
use Rattle.std.proofs.Common.{drop}
use Rattle.std.proofs.lemmas.Bool.{cases_Bool}
use Rattle.std.proofs.lemmas.List.{append-nil}
use Rattle.ev_base.specs.Sink.{SinkFacts, GrowsBy}
use Rattle.ev_base.specs.Terms.{Terms}
use Rattle.reactor_model.specs.reactor_journal.specs.declared.entry.Entry.{Entry}
use Rattle.reactor_model.specs.reactor_journal.specs.declared.entry.Entry.TheVariants.{Ended}
use Rattle.reactor_model.specs.reactor_journal.specs.Past.{past_of}
use Rattle.reactor_core.specs.reactor_summary.specs.Summary.{summary}
use Rattle.reactor_core.specs.Beginning.{IsShutDown}
use Rattle.reactor_core.specs.Removing.{Stops}
use Rattle.reactor_core.specs.Stands.{Meaning, Stands}
use Rattle.reactor_core.specs.declared.reactor.Core.{Core}
use Rattle.log_handler.specs.declared.note.ServerNote.{ServerNote}
use Rattle.log_handler.specs.LineSink.{LineSink, PutsLines, is_broken, sink_of}
use Rattle.one_run.specs.Opening.{CountsWrite}

-- if nothing was put the text is what it was
grows_nothing : (old new : Option (List ℕ)) (text more : List ℕ) → old ≡ Some text → more ≡ []
    → GrowsBy old more new → new ≡ Some text
grows_nothing old new text more was none grows =
    by new (subst (λ (old : Option (List ℕ)). GrowsBy old [] new) was
    (subst (λ (more : List ℕ). GrowsBy old more new) none grows))
  where
    by : (new : Option (List ℕ)) → GrowsBy (Some text) [] new → new ≡ Some text
    by None grows = absurd grows
    by (Some now) grows = ap Some (grows ∙ append-nil text)

front_none : (xs ys : List ℕ) → xs ++ ys ≡ [] → xs ≡ []
front_none [] ys q = refl
front_none (x ∷ xs) ys q = cc

ended_text : {K : Type 0} (facts : K → SinkFacts) (t : Terms) (sink : LineSink K) (text : List ℕ)
    → t.opening ≡ Some text → PutsLines facts t sink (Ended ∷ [])
    → (facts (sink_of sink)).text ≡ Some text
ended_text facts t sink text told p =
    ⊎_elim
    (λ (broken : is_broken sink ≡ true). let b = p.put.front broken in
    grows_nothing p.start.text (facts (sink_of sink)).text text b.front (p.opening text told)
    (front_none b.front b.is_front.0 (sym b.is_front.1)) b.text)
    (λ (whole : is_broken sink ≡ false).
    grows_nothing p.start.text (facts (sink_of sink)).text text [] (p.opening text told) refl
    (p.put.whole whole).text)
    (cases_Bool (is_broken sink))

pub at_nothing : {H M Q W V N E : Type 0} (m : Meaning H M Q W V N E) (t : Terms)
    (core : Core H M Q W V N E) (F : ℕ) (h : List (Entry N)) → h ≡ [] → Stands m t core F h
    → Stands m t core F []
at_nothing m t core F h is stands = subst (λ h. Stands m t core F h) is stands

pub same_text : {K : Type 0} (facts : K → SinkFacts) (t : Terms) (sink : LineSink K) (text : List ℕ)
    (journal : List (Entry ServerNote)) → journal ≡ Ended ∷ [] → t.opening ≡ Some text
    → PutsLines facts t sink journal
    → (facts (sink_of sink)).text ≡ Some text
same_text facts t sink text journal is told puts =
    ended_text facts t sink text told (subst (λ journal. PutsLines facts t sink journal) is puts)

pub only_ended : {H M Q W V N E : Type 0} (m : Meaning H M Q W V N E) (t : Terms) (F : ℕ)
    (new : Core H M Q W V N E) (s : Stops m t F [] new)
    → ([] ++ Ended ∷ []) ++ s.entries ≡ Ended ∷ []
only_ended m t F new s = ap (λ entries. ([] ++ Ended ∷ []) ++ entries) s.removals

pub over_at_once : {N : Type 0} (journal : List (Entry N)) → journal ≡ Ended ∷ []
    → IsShutDown (summary (past_of journal))
over_at_once journal is = subst (λ journal. IsShutDown (summary (past_of journal))) (sym is)
    (record { ended = refl; none_live = refl })

pub none_or_end : {N : Type 0} (F : ℕ) (entries journal : List (Entry N)) → journal ≡ Ended ∷ []
    → F ≤ 0 → entries ≡ drop F journal → (entries ≡ []) ⊎ (entries ≡ Ended ∷ [])
none_or_end zero entries journal is within held = inr (held ∙ is)
none_or_end (suc F) entries journal is within held = absurd (omega (arith, within))

-- a sink of lines broke if the count of faults rose, and else that stands
pub sink_faults : {K : Type 0} (facts : K → SinkFacts) (t : Terms) (sink : LineSink K)
    (journal : List (Entry ServerNote)) (n : ℕ) → t.output_faults ≡ Some n
    → PutsLines facts t sink journal
    → (broken : Bool) → broken ≡ is_broken sink → CountsWrite broken n (facts (sink_of sink)).faults
sink_faults facts t sink journal n told p true is =
    subst (λ (n : ℕ). CountsWrite true n (facts (sink_of sink)).faults) (p.faults n told)
    (p.put.front (sym is)).rose
sink_faults facts t sink journal n told p false is = (p.put.whole (sym is)).faults ∙ p.faults n told
