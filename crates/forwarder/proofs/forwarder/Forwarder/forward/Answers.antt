use Rattle.std.proofs.Common.{◌∙◌, ◌||◌, ap}
use Rattle.forwarder.specs.Forwarding.{State, answer_of}
use Rattle.forwarder.specs.Services.{state_of}
use Rattle.forwarder.specs.ForwardEnds.{forward_facts}
use Rattle.forwarder.proofs.forwarder.Forwarder.forward.Goals as goal

pub returns-clause-forwards : goal.returns-clause-forwards
returns-clause-forwards g c = λ open_.
    let facts = forward_facts g.E.PeerEnd.tells g.S.Source.facts c.write_on-took.new.end in
    let leaves = c.conclude.ensures.leaves facts in
    record {
      gave = c.read_on-gave.result;
      read = state_of g.E.PeerEnd.tells g.S.Source.facts c.read_on-gave.new.self
          c.read_on-gave.new.end;
      reads = c.read_on-gave.ensures.reads;
      took = c.write_on-took.result;
      written = state_of g.E.PeerEnd.tells g.S.Source.facts c.write_on-took.new.self
          c.write_on-took.new.end;
      writes = c.write_on-took.ensures.writes;
      leaves = leaves;
      answers = c.conclude.ensures.answers ∙ ap (λ (s : State).
          answer_of s.ended (c.read_on-gave.result || c.write_on-took.result)) leaves;
    }

pub returns-clause-kept : goal.returns-clause-kept
returns-clause-kept g c = λ t kept.
    c.write_on-took.ensures.kept t (c.read_on-gave.ensures.kept t kept)

pub returns-clause-few : goal.returns-clause-few
returns-clause-few g c = λ few.
    rw c.conclude.ensures.held
    (c.write_on-took.ensures.few (c.read_on-gave.ensures.few few))
