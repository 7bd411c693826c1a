use Rattle.std.proofs.Common.{◌≡◌, [], sym, subst, ap, ◌∙◌}
use Rattle.reactor_core.specs.Ends.{WhereTold}
use Rattle.forwarder.specs.ForwardEnds.{input_end}
use Rattle.forwarder.specs.ForwardNets.{net_within}
use Rattle.forwarder.specs.one_net.specs.OneEnd.{input_of}
use Rattle.cmd_forward.specs.Answers.{most_input}
use Rattle.cmd_forward.specs.Statuses.{RunEnds}
use Rattle.cmd_forward.proofs.Unopened.{ends_unopened}
use Rattle.cmd_forward.proofs.running.give_up.Goals as goal
use Rattle.cmd_forward.proofs.running.give_up.Goals.{in-NotAttached, in-NoMemory}

pub returns-clause-asked : goal.returns-clause-asked
returns-clause-asked g c i leaves =
    subst (λ net. WhereTold (λ calls. calls ≡ []) (g.M.Net.facts net).calls) (sym c.close.ensures)
    leaves.leaves.none_asked

pub returns-clause-ends : goal.returns-clause-ends
returns-clause-ends g c i leaves wait =
    let tells = g.E.PeerEnd.tells in
    let source = g.S.Source.facts in
    let facts = g.M.Net.facts in
    let left = c.args.left in
    let ends : RunEnds tells most_input wait i (source (input_of (input_end left.end)))
    (facts (net_within left.net)) c.match-why.outcome =
    elim c.match-why.branch [
      | in-NotAttached w ↦ subst (λ outcome. RunEnds tells most_input wait i
          (source (input_of (input_end left.end))) (facts (net_within left.net)) outcome)
          (sym w.outcome-is) (ends_unopened facts g.M.Net.keeps tells g.E.PeerEnd.keeps source i
          wait left leaves _ w.in-NotAttached.is)
      | in-NoMemory w ↦ subst (λ outcome. RunEnds tells most_input wait i
          (source (input_of (input_end left.end))) (facts (net_within left.net)) outcome)
          (sym w.outcome-is) (ends_unopened facts g.M.Net.keeps tells g.E.PeerEnd.keeps source i
          wait left leaves _ w.in-NoMemory.is)
    ] in
    subst (λ net. RunEnds tells most_input wait i (source c.into_input.result) (facts net)
    c.match-why.outcome) (sym c.close.ensures)
    (subst (λ input. RunEnds tells most_input wait i (source input)
    (facts (net_within left.net)) c.match-why.outcome)
    (sym (c.into_input.ensures ∙ ap (λ parts. input_of parts.1) c.into_parts-end.ensures)) ends)
