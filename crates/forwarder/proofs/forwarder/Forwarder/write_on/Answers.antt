use Rattle.std.proofs.Common.{◌≡◌, ◌∙◌, false}
use Rattle.std.specs.Prelude.{is_some}
use Rattle.forwarder.specs.Forwarding.{none_wait}
use Rattle.forwarder.specs.Services.{state_of}
use Rattle.forwarder.specs.ForwardEnds.{forward_facts}
use Rattle.forwarder.proofs.Steps.{wrote_some}
use Rattle.forwarder.proofs.forwarder.Forwarder.write_on.Goals as goal

pub returns-in-Bytes-clause-writes : goal.returns-in-Bytes-clause-writes
returns-in-Bytes-clause-writes g c =
    let before = state_of g.E.PeerEnd.tells g.S.Source.facts c.args.self.now c.args.end.now in
    let some : none_wait before ≡ false = let t = c.if-is_empty.false in
    let e = c.is_empty.ensures in cc in
    let open_ : is_some before.ended ≡ false = let t = c.if-is_some.false in
    let e = c.is_some.ensures in cc in
    wrote_some before (forward_facts g.E.PeerEnd.tells g.S.Source.facts c.write.new.self)
    c.in-Bytes.count c.saturating_add-self.result c.front.result.now
    c.pass.new.self.waiting some open_ (c.front.ensures ∙ c.advance.ensures.same)
    c.in-Bytes.ensures.writes (let p = c.pass.ensures.sent in let f = c.front.ensures in cc)
    (let e = c.saturating_add-self.ensures in cc)
