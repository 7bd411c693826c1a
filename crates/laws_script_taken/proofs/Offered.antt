-- What comes after the turns that return after the end of a run.
use Rattle.std.proofs.Common.{ℕ, ◌≡◌, ◌≤◌, ◌⊎◌, ◌∙◌, inl, inr, true, List, [], ◌∷◌, ◌++◌, length}
use Rattle.std.proofs.Common.{sym, ap, arith, append_assoc}
use Rattle.std.specs.List.{list_all}
use Rattle.std.proofs.lemmas.Bool.{false≢true}
use Rattle.laws_script_complete.specs.ev_types.specs.declared.upcall.Answer.{Answer}
use Rattle.laws_script_complete.specs.ev_base.specs.Terms.{Terms}
use Rattle.laws_script_complete.specs.reactor_journal.specs.declared.entry.Entry.{Entry}
use Rattle.laws_script_complete.specs.reactor_journal.specs.declared.entry.Entry.TheVariants.{
  Returned,
}
use Rattle.laws_script_complete.specs.reactor_journal.specs.declared.entry.Entry.TheVariants.{
  Removed,
}
use Rattle.laws_script_complete.specs.reactor_journal.specs.declared.entry.Entry.TheVariants.{
  Closed,
}
use Rattle.laws_script_complete.specs.reactor_journal.specs.declared.entry.Entry.TheVariants.{Ended}
use Rattle.laws_script_complete.specs.reactor_model.specs.Handling.{Handling}
use Rattle.laws_script_complete.specs.laws_by_turns.specs.ByTurns.{DispatchedByTurns}
use Rattle.laws_script_complete.specs.laws_script_runs.specs.Runs.{is_closing}
use Rattle.laws_script_taken.specs.Laws.{OffersEach}

module _ {H E N : Type 0} (means : Handling H E N) (t : Terms) (run : List (Entry N)) where
  no_turn : (closing before : List (Entry N)) (event : ℕ) (answer : Answer) (said : N)
      (behind : List (Entry N)) → list_all is_closing closing ≡ true
      → closing ≡ before ++ Returned event answer said ∷ behind → ⊥
  no_turn closing [] event answer said behind all is =
      false≢true (sym (ap (list_all is_closing) is) ∙ all)
  no_turn [] (e ∷ before) event answer said behind all is = none is
    where
      none : [] ≡ e ∷ (before ++ Returned event answer said ∷ behind) → ⊥
      none q = cc
  no_turn (Removed handle ∷ closing) (e ∷ before) event answer said behind all is =
      no_turn closing before event answer said behind all (tail is)
    where
      tail : Removed handle ∷ closing ≡ e ∷ (before ++ Returned event answer said ∷ behind)
          → closing ≡ before ++ Returned event answer said ∷ behind
      tail q = cc
  no_turn (Closed handle word ∷ closing) (e ∷ before) event answer said behind all is =
      no_turn closing before event answer said behind all (tail is)
    where
      tail : Closed handle word ∷ closing ≡ e ∷ (before ++ Returned event answer said ∷ behind)
          → closing ≡ before ++ Returned event answer said ∷ behind
      tail q = cc
  no_turn (_ ∷ closing) (e ∷ before) event answer said behind all is = false≢true all

  behind_end : (run before : List (Entry N)) → 1 ≤ length (run ++ Ended ∷ before)
  behind_end [] before = omega arith
  behind_end (e ∷ run) before = omega arith

  pub offers_each : (closing : List (Entry N)) → (list_all is_closing closing ≡ true)
      ⊎ DispatchedByTurns means t 1 (run ++ Ended ∷ closing) → OffersEach means closing
  offers_each closing (inl all) before event answer said behind is installs =
      absurd (no_turn closing before event answer said behind all is)
  offers_each closing (inr turned) before event answer said behind is installs =
      turned (run ++ Ended ∷ before) (Returned event answer said) behind
      (ap (λ (l : List (Entry N)). run ++ Ended ∷ l) is
      ∙ sym (append_assoc run (Ended ∷ before) (Returned event answer said ∷ behind)))
      (behind_end run before) installs
