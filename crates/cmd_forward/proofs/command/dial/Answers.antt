use Rattle.std.proofs.Common.{inl, subst}
use Rattle.reactor_core.specs.Ends.{WhereTold}
use Rattle.connector_run.specs.Waits.{AskedUntil}
use Rattle.cmd_forward.specs.declared.outcome.Outcome.TheVariants as outcome
use Rattle.cmd_forward.proofs.Answering.{answers, no_net, same_net}
use Rattle.cmd_forward.proofs.command.dial.Goals as goal

pub returns-in-Ok-clause-answers : goal.returns-in-Ok-clause-answers
returns-in-Ok-clause-answers g c words called =
    answers g.D.End.PeerEnd.tells g.D.Net.Net.facts g.S.Source.facts g.K.Sink.facts words _ _
    c.args.input c.args.output c.tell.result c.args.options c.forward.result called
    c.in-Ok.ensures.dials.1 c.forward.ensures.ends c.tell.ensures

pub returns-in-Err-Failed-clause-answers : goal.returns-in-Err-Failed-clause-answers
returns-in-Err-Failed-clause-answers g c words called = record {
  outcome = outcome.PeerFault;
  code = c.unbegun.ensures.numbers.code;
  number = c.unbegun.ensures.numbers.number;
  means = inl (record {
    options = c.args.options;
    called = called;
    rose = rw c.in-Err-Failed.field-0-is at c.in-Err-Failed.ensures.dials;
    unbegun = c.unbegun.ensures.unbegun;
  });
}

pub returns-in-Err-NoMemory-clause-answers : goal.returns-in-Err-NoMemory-clause-answers
returns-in-Err-NoMemory-clause-answers g c words called = record {
  outcome = outcome.NoMemory;
  code = c.unbegun-in-Err-NoMemory.ensures.numbers.code;
  number = c.unbegun-in-Err-NoMemory.ensures.numbers.number;
  means = inl (
    rw c.in-Err-NoMemory.field-0-is at c.in-Err-NoMemory.ensures.dials,
    c.unbegun-in-Err-NoMemory.ensures.unbegun,
  );
}

pub returns-in-Ok-clause-waits : goal.returns-in-Ok-clause-waits
returns-in-Ok-clause-waits g c net is =
    subst (λ net. WhereTold (AskedUntil c.args.options.wait) (g.D.Net.Net.facts net).calls)
    (same_net _ c.forward.result.net net c.tell.ensures.net is) c.forward.ensures.asked

pub returns-in-Err-Failed-clause-waits : goal.returns-in-Err-Failed-clause-waits
returns-in-Err-Failed-clause-waits g c net is = no_net _ net c.unbegun.ensures.unbegun.net is

pub returns-in-Err-NoMemory-clause-waits : goal.returns-in-Err-NoMemory-clause-waits
returns-in-Err-NoMemory-clause-waits g c net is =
    no_net _ net c.unbegun-in-Err-NoMemory.ensures.unbegun.net is
