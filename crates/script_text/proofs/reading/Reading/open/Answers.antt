use Rattle.std.proofs.Common.{ap}
use Rattle.script_net.specs.Content.{ConnectionContent}
use Rattle.script_text.proofs.reading.Reading.open.Goals as goal

pub returns-clause-come : goal.returns-clause-come
returns-clause-come c = record {
  one = c.in_ok-connection.connection;
  is = c.in_ok-push.ensures.items;
  tells_nothing = ap (λ (x : ConnectionContent). x.parts) c.in_ok-connection.ensures;
  has_room = ap (λ (x : ConnectionContent). x.room) c.in_ok-connection.ensures;
}
