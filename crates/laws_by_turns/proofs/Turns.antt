-- A journal that goes by turns goes on by turns.
use Rattle.std.proofs.Common.{ℕ, ◌≡◌, ⊎_elim, true, ◌&&◌, List, [], ◌∷◌, ◌++◌, length}
use Rattle.std.proofs.Common.{length-append, sym, ap, ◌∙◌, subst, arith}
use Rattle.std.proofs.lemmas.Bool.{and_parts}
use Rattle.std.proofs.lemmas.List.{append_assoc}
use Rattle.std.proofs.lemmas.List.Folds.{list_all-append}
use Rattle.std.specs.List.{list_all}
use Rattle.reactor_model.specs.ev_base.specs.Terms.{Terms}
use Rattle.reactor_model.specs.reactor_journal.specs.declared.entry.Entry.{Entry}
use Rattle.reactor_model.specs.reactor_journal.specs.Past.{past_of}
use Rattle.reactor_model.specs.reactor_journal.proofs.Turning.{past_of-append}
use Rattle.reactor_model.specs.Handling.{Handling}
use Rattle.laws_by_turns.specs.ByTurns.{GoesByTurn, DispatchedByTurns, GoesByTurns, EachGoesByTurn}
use Rattle.laws_by_turns.specs.ByTurns.{BeginsWithNoTimer, is_dispatching}
use Rattle.laws_by_turns.proofs.Cuts.{InFirst, InSecond, cut_at}
use Rattle.laws_by_turns.proofs.Dispatching.{dispatching_goes, dispatching_first, goes_still}

-- from its end on a journal goes by turns
pub by_turns_from_end : {H E N : Type 0} (means : Handling H E N) (t : Terms) (h : List (Entry N))
    → GoesByTurns means t (length h) h
by_turns_from_end means t h = record {
  within = omega arith;
  turns = λ before e behind cut low.
      absurd (omega (arith, low, ap length cut, length-append before (e ∷ behind)));
}

-- a journal by turns with such entries at its end goes by turns
by_turns_on : {H E N : Type 0} (means : Handling H E N) (t : Terms) (b : ℕ) (h es : List (Entry N))
    → list_all is_dispatching es ≡ true → DispatchedByTurns means t b h
    → DispatchedByTurns means t b (h ++ es)
by_turns_on {N = N} means t b h es plain turns before e behind cut low =
    ⊎_elim
    (λ (f : InFirst h es before e behind).
    subst (λ (k : List (Entry N)). GoesByTurn means t b (past_of before) e k) (sym f.left)
    (goes_still means t b (past_of before) e f.rest es (dispatching_first es plain)
    (turns before e f.rest f.is low)))
    (λ (s : InSecond h es before e behind).
    let all : (list_all is_dispatching s.rest
    && (is_dispatching e && list_all is_dispatching behind)) ≡ true =
    sym (list_all-append is_dispatching s.rest (e ∷ behind))
    ∙ (ap (list_all is_dispatching) (sym s.cut) ∙ plain) in
    dispatching_goes means t b (past_of before) e behind (and_parts _ _ (and_parts _ _ all).1).0)
    (cut_at h es before e behind cut)

pub by_turns_more : {H E N : Type 0} (means : Handling H E N) (t : Terms) (b : ℕ)
    (h es : List (Entry N)) → list_all is_dispatching es ≡ true → GoesByTurns means t b h
    → GoesByTurns means t b (h ++ es)
by_turns_more means t b h es plain g =
    record {
      within = omega (arith, g.within, length-append h es);
      turns = by_turns_on means t b h es plain g.turns;
    }

each_at : {H E N : Type 0} (means : Handling H E N) (t : Terms) (b : ℕ) (past rest : List (Entry N))
    (e : Entry N) (behind : List (Entry N)) → EachGoesByTurn means t b past (rest ++ e ∷ behind)
    → GoesByTurn means t b (past_of rest ++ past) e behind
each_at means t b past [] e behind g = g.0
each_at {N = N} means t b past (r ∷ rest) e behind g =
    subst (λ (p : List (Entry N)). GoesByTurn means t b p e behind)
    (sym (ap (λ k. k ++ past) (past_of-append (r ∷ []) rest)
    ∙ append_assoc (past_of rest) (r ∷ []) past))
    (each_at means t b (r ∷ past) rest e behind g.1)

-- such a list at its end leaves a journal by turns by turns
pub by_turns_block : {H E N : Type 0} (means : Handling H E N) (t : Terms) (b : ℕ)
    (h es : List (Entry N)) → BeginsWithNoTimer es → EachGoesByTurn means t b (past_of h) es
    → GoesByTurns means t b h → GoesByTurns means t b (h ++ es)
by_turns_block {N = N} means t b h es first block g = record {
  within = omega (arith, g.within, length-append h es);
  turns = λ before e behind cut low. ⊎_elim
      (λ (f : InFirst h es before e behind).
      subst (λ (k : List (Entry N)). GoesByTurn means t b (past_of before) e k) (sym f.left)
      (goes_still means t b (past_of before) e f.rest es first
      (g.turns before e f.rest f.is low)))
      (λ (s : InSecond h es before e behind).
      subst (λ (p : List (Entry N)). GoesByTurn means t b p e behind)
      (sym (ap past_of s.is ∙ past_of-append h s.rest))
      (each_at means t b (past_of h) s.rest e behind
      (subst (EachGoesByTurn means t b (past_of h)) s.cut block)))
      (cut_at h es before e behind cut);
}
