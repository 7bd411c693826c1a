use Rattle.std.proofs.Common.{inl, inr, refl, subst, sym, ◌∙◌}
use Rattle.reactor_core.specs.Ends.{WhereTold}
use Rattle.connector_run.specs.Waits.{AskedUntil}
use Rattle.cmd_forward.specs.declared.words.ForwardOptions.{ForwardOptions}
use Rattle.cmd_forward.proofs.Answering.{no_net, same_net}
use Rattle.cmd_forward.specs.declared.outcome.Outcome.TheVariants as outcome
use Rattle.cmd_forward.proofs.command.forward_main.Goals as goal

pub returns-in-Ok-Some-clause-dials : goal.returns-in-Ok-Some-clause-dials
returns-in-Ok-Some-clause-dials g c = inr (
  c.in-Ok-Some.options,
  sym c.in-Ok-Some.ensures.options ∙ c.in-Ok-Some.field-0-is,
  c.dial.ensures.dials,
)

pub returns-in-Ok-None-clause-answers : goal.returns-in-Ok-None-clause-answers
returns-in-Ok-None-clause-answers g c = record {
  outcome = outcome.Usage;
  code = c.unbegun.ensures.numbers.code;
  number = c.unbegun.ensures.numbers.number;
  means = record {
    refused = sym c.in-Ok-None.ensures.options ∙ c.in-Ok-None.field-0-is;
    none_dialled = refl;
    unbegun = c.unbegun.ensures.unbegun;
  };
}

pub returns-in-Ok-None-clause-dials : goal.returns-in-Ok-None-clause-dials
returns-in-Ok-None-clause-dials g c = inl (
  refl,
  record {
    net = c.unbegun.ensures.unbegun.net;
    why = inl (sym c.in-Ok-None.ensures.options ∙ c.in-Ok-None.field-0-is);
  },
)

pub returns-in-Err-clause-answers : goal.returns-in-Err-clause-answers
returns-in-Err-clause-answers g c = record {
  outcome = outcome.NoMemory;
  code = c.unbegun-in-Err.ensures.numbers.code;
  number = c.unbegun-in-Err.ensures.numbers.number;
  means = inl (refl, c.unbegun-in-Err.ensures.unbegun);
}

pub returns-in-Err-clause-dials : goal.returns-in-Err-clause-dials
returns-in-Err-clause-dials g c = inl (
  refl,
  record {
    net = c.unbegun-in-Err.ensures.unbegun.net;
    why = inr c.unbegun-in-Err.ensures.numbers.code;
  },
)

pub returns-in-Ok-Some-clause-waits : goal.returns-in-Ok-Some-clause-waits
returns-in-Ok-Some-clause-waits g c options net called is =
    subst (λ (o : ForwardOptions). WhereTold (AskedUntil o.wait) (g.D.Net.Net.facts net).calls)
    (same_net _ c.in-Ok-Some.options options
    (sym c.in-Ok-Some.ensures.options ∙ c.in-Ok-Some.field-0-is) called)
    (c.dial.ensures.waits net is)

pub returns-in-Ok-None-clause-waits : goal.returns-in-Ok-None-clause-waits
returns-in-Ok-None-clause-waits g c options net called is =
    no_net _ net c.unbegun.ensures.unbegun.net is

pub returns-in-Err-clause-waits : goal.returns-in-Err-clause-waits
returns-in-Err-clause-waits g c options net called is =
    no_net _ net c.unbegun-in-Err.ensures.unbegun.net is
