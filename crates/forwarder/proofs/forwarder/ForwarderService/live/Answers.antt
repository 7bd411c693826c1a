use Rattle.forwarder.specs.ForwardEnds.{forward_facts}
use Rattle.forwarder.proofs.Turning.{turned_more}
use Rattle.forwarder.proofs.forwarder.ForwarderService.live.Goals as goal

pub returns-clause-adds : goal.returns-clause-adds
returns-clause-adds g c = λ t had open_ kept served. record {
  turned = turned_more had _ _ c.args.up c.args._now c.turn-answer.result c.note.result open_
      served.turned c.turn-answer.ensures.serves (c.note.ensures
      (forward_facts g.E.PeerEnd.tells g.S.Source.facts c.turn-answer.new.end));
  few = c.turn-answer.ensures.few served.few;
}
