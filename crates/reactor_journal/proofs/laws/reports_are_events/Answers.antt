use Rattle.std.proofs.Common.{◌≡◌, ℕ, true, length, ap, ◌∙◌, subst, ◌∷◌}
use Rattle.std.proofs.lemmas.List.{length-reverse}
use Rattle.reactor_journal.specs.Past.{past_of, is_event}
use Rattle.reactor_journal.proofs.Turning.{past_of-more, Legal-last}
use Rattle.reactor_journal.proofs.Armed.{report_is_event}
use Rattle.reactor_journal.proofs.laws.reports_are_events.Goals as goal

pub returns : goal.returns
returns g c journal e most legal r =
    let here : is_event (e ∷ past_of journal) (length (past_of journal)) ≡ true =
    report_is_event most e (past_of journal) (Legal-last journal e most legal).0 r in
    let placed : is_event (e ∷ past_of journal) (length journal) ≡ true =
    subst (λ (n : ℕ). is_event (e ∷ past_of journal) n ≡ true) (length-reverse journal) here in
    ap (λ p. is_event p (length journal)) (past_of-more journal e) ∙ placed
