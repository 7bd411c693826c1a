use Rattle.std.proofs.Common.{◌≡◌, List, length, drop, take, vec_capacity, sym, subst, arith}
use Rattle.std.specs.Option.{option_map}
use Rattle.std.proofs.lemmas.Grind.{common_steps}
use Rattle.ev_base.specs.Story.{read_answer, read_bytes, told_after}
use Rattle.script_net.specs.declared.script.Part.{Part}
use Rattle.script_net.specs.Scripts.{part_views}
use Rattle.script_net.specs.Ends.{is_over, try_of, got_bytes, telling_at}
use Rattle.script_net.specs.contracts.peer.Peer.{the_view}
use Rattle.script_net.proofs.Reading.{read_is, still_peer, filled_drop}
use Rattle.script_net.proofs.peer.Peer.read.Goals as goal

pub invariant_of-self : goal.invariant_of-self
invariant_of-self c =
    let i = c.self.inside in
    let told = subst (λ (ps : List Part).
    telling_at (part_views ps) c.tell-got.result.1 c.tell-got.result.2
    ≡ told_after (length c.args.buf.now) (take i.next (part_views ps)) i.at
    (drop i.next (part_views ps))) c.deref.ensures.value c.tell-got.ensures.told in
    let answer = subst (λ (ps : List Part). c.tell-got.result.0
    ≡ read_answer (length c.args.buf.now) i.at (drop i.next (part_views ps)))
    c.deref.ensures.value c.tell-got.ensures.answer in
    still_peer (part_views i.parts.items) i.next i.at (length i.held.items) i.room
    (vec_capacity i.held) (is_over (option_map try_of i.last_read)) c.self.invariant
    (length c.args.buf.now) c.tell-got.result.1 c.tell-got.result.2 c.tell-got.result.0 answer told

pub returns-clause-after : goal.returns-clause-after
returns-clause-after c = grind (arith, common_steps)

pub returns-clause-reads : goal.returns-clause-reads
returns-clause-reads c =
    let i = c.self.inside in
    let v = c.self.invariant in
    let answer = subst (λ (ps : List Part). c.tell-got.result.0
    ≡ read_answer (length c.args.buf.now) i.at (drop i.next (part_views ps)))
    c.deref.ensures.value c.tell-got.ensures.answer in
    let bytes = subst (λ (ps : List Part). got_bytes c.tell-got.result.0 c.tell-got.new.buf
    ≡ read_bytes (length c.args.buf.now) i.at (drop i.next (part_views ps)))
    c.deref.ensures.value c.tell-got.ensures.bytes in
    read_is (the_view i) c.args.self.now _ c.tell-got.result.0 (length c.args.buf.now)
    c.tell-got.new.buf c.self.view_is (sym c.tell-got.auto.buf) c.requires
    v.inside (filled_drop i.next (part_views i.parts.items) v.filled) v.ended answer bytes
    (returns-clause-after c)
