-- A journal that goes by turns does so up to its end.
use Rattle.std.proofs.Common.{ℕ, List, [], ◌∷◌, ◌++◌, ap, ◌∙◌, Option}
use Rattle.std.proofs.lemmas.List.{append_assoc}
use Rattle.ev_base.specs.Terms.{Terms}
use Rattle.log_handler.specs.reactor_journal.specs.declared.entry.Entry.{Entry}
use Rattle.log_handler.specs.reactor_journal.specs.declared.entry.Entry.TheVariants.{Opened}
use Rattle.log_handler.specs.reactor_journal.specs.declared.entry.Entry.TheVariants.{Returned}
use Rattle.log_handler.specs.reactor_journal.specs.declared.entry.Entry.TheVariants.{Closed}
use Rattle.log_handler.specs.reactor_journal.specs.declared.entry.Entry.TheVariants.{Ended}
use Rattle.log_handler.specs.reactor_journal.specs.Past.{past_of}
use Rattle.log_handler.specs.reactor_model.specs.Handling.{Handling}
use Rattle.tp_reactor.specs.laws_by_turns.specs.ByTurns.{DispatchedByTurns, GoesByTurn}
use Rattle.tp_reactor.specs.laws_by_turns.specs.ByTurns.{IsOfferBehind, OffersBehind, TimerBehind}

timer_before : {N : Type 0} (moment : ℕ) (behind closing : List (Entry N)) (asked : Option (ℕ × ℕ))
    → TimerBehind moment (behind ++ Ended ∷ closing) asked → TimerBehind moment behind asked
timer_before moment [] closing asked h = h
timer_before moment (Opened handle mask ∷ behind) closing asked h = h
timer_before moment (_ ∷ behind) closing asked h = h

offer_before : {N : Type 0} (behind closing : List (Entry N))
    → IsOfferBehind (behind ++ Ended ∷ closing) → IsOfferBehind behind
offer_before [] closing h = absurd h
offer_before (Opened handle mask ∷ behind) closing h = h
offer_before (_ ∷ behind) closing h = h

offers_before : {N : Type 0} (behind closing : List (Entry N))
    → OffersBehind (behind ++ Ended ∷ closing) → OffersBehind behind
offers_before [] closing h = absurd h
offers_before (Closed handle note ∷ behind) closing h = offer_before behind closing h
offers_before (Opened handle mask ∷ behind) closing h = h
offers_before (_ ∷ behind) closing h = h

goes_before : {H E N : Type 0} (means : Handling H E N) (t : Terms) (b : ℕ) (past : List (Entry N))
    (e : Entry N) (behind closing : List (Entry N))
    → GoesByTurn means t b past e (behind ++ Ended ∷ closing) → GoesByTurn means t b past e behind
goes_before means t b past (Opened handle mask) behind closing h =
    (h.0, timer_before _ behind closing h.0 h.1, h.2)
goes_before means t b past (Returned event answer note) behind closing h =
    λ q. offers_before behind closing (h q)
goes_before means t b past _ behind closing h = h

pub turned_before : {H E N : Type 0} (means : Handling H E N) (t : Terms) (b : ℕ)
    (run closing : List (Entry N)) → DispatchedByTurns means t b (run ++ Ended ∷ closing)
    → DispatchedByTurns means t b run
turned_before means t b run closing turns before e behind is low =
    goes_before means t b (past_of before) e behind closing
    (turns before e (behind ++ Ended ∷ closing)
    (ap (λ k. k ++ Ended ∷ closing) is ∙ append_assoc before (e ∷ behind) (Ended ∷ closing))
    low)
