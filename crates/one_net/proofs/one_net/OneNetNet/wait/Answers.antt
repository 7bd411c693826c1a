use Rattle.std.proofs.Common.{ap, sym, refl, ◌≡◌, ◌∙◌, Some, Option}
use Rattle.one_net.specs.OneNet.{one_net_facts, last_answer}
use Rattle.one_net.specs.Watched.{first_report, answer_of}
use Rattle.one_net.proofs.Nets.{answers_by, all_wanted}
use Rattle.one_net.proofs.one_net.OneNetNet.wait.Goals as goal

pub returns-clause-waits : goal.returns-clause-waits
returns-clause-waits g c =
    let given = c.first_report-self.result in
    answers_by (one_net_facts c.args.self.now) c.args.most_ms given c.answer_of-answer.result
    (Some c.add.new.self) refl c.answer_of-answer.ensures (ap Some c.add.ensures)
    (all_wanted c.args.self.now.watched.items given
    (c.first_report-self.ensures ∙ ap first_report c.deref.ensures.value))

pub returns-clause-kept : goal.returns-clause-kept
returns-clause-kept g c t kept = record {
  no_script = kept.no_script;
  answered = λ answer last.
      let here = ap last_answer c.add.ensures in
      let same : answer ≡ c.answer_of-answer.result = sym (some_same _ _ (sym here ∙ last)) in
      same ∙ (c.answer_of-answer.ensures
      ∙ ap answer_of (c.first_report-self.ensures ∙ ap first_report c.deref.ensures.value));
}
  where
    some_same : {A : Type 0} (a b : A) → ◌≡◌ {A = Option A} (Some a) (Some b) → a ≡ b
    some_same a b q = cc
