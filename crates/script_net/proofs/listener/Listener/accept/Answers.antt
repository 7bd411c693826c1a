use Rattle.std.proofs.Common.{◌≡◌, ◌∙◌, ◌+◌, ◌++◌, [], ◌<◌, ℕ, get_or, ◌∷◌, List, length, drop}
use Rattle.std.proofs.Common.{take, Some, refl, sym, ap, subst, arith}
use Rattle.std.specs.Vec.Iter.{into_iter_items}
use Rattle.ev_base.specs.Story as story
use Rattle.ev_base.specs.End.{Accepted, Paused, Faulted, AcceptsEnd, AcceptsNone, FailsToAccept}
use Rattle.script_net.specs.Playable.{many_offered}
use Rattle.script_net.specs.declared.script.Offer.{Offer}
use Rattle.script_net.specs.Content.{ListenerContent, PeerContent}
use Rattle.script_net.specs.Scripts.{offer_view, offer_views}
use Rattle.script_net.specs.Ends.{listener_facts, peer_facts, new_peer, offering_at}
use Rattle.script_net.specs.contracts.listener.Listener.{the_view}
use Rattle.script_net.proofs.Opened.{opened, closed}
use Rattle.script_net.proofs.Accepting.{Moves, is_next, some_left, one_taken, none_taken}
use Rattle.script_net.proofs.Accepting.{failure_taken, accepts_end, accepts_none, fails_to_accept}
use Rattle.script_net.proofs.listener.Listener.accept.Goals as goal

-- the offer at a place is told
moved : (offers : List Offer) (next : ℕ) (x : Offer) (is : story.Offer) → next < length offers
    → x ≡ get_or offers next x → offer_view x ≡ is
    → Moves (offering_at (offer_views offers) next) is (offering_at (offer_views offers) (next + 1))
moved offers next x is lt read seen = record {
  left = opened offer_view offers next x lt read
      ∙ ap (λ (o : story.Offer). o ∷ drop (next + 1) (offer_views offers)) seen;
  given = closed offer_view offers next x lt read
      ∙ ap (λ (o : story.Offer). take next (offer_views offers) ++ o ∷ []) seen;
}

pub unreachable-requires : goal.unreachable-requires
unreachable-requires c =
    let i = c.self.inside in
    let m = moved i.offers.items i.next c.index-offer.result.now
    (story.Connection c.in-Connection.number) (omega arith) c.index-offer.ensures
    (ap offer_view c.in-Connection.is) in
    let some = some_left _ _ _ _ m c.self.invariant in
    omega (arith, some, c.next.ensures.len, c.in-None.ensures.cases)

pub invariant_of-self-in-Connection : goal.invariant_of-self-in-Connection
invariant_of-self-in-Connection c =
    let i = c.self.inside in
    let m = moved i.offers.items i.next c.index-offer.result.now
    (story.Connection c.in-Connection.number) (omega arith) c.index-offer.ensures
    (ap offer_view c.in-Connection.is) in
    one_taken _ _ _ (into_iter_items i.connections) (into_iter_items c.next.new.self)
    c.in-Some.connection m c.in-Some.ensures.items c.self.invariant

pub invariant_of-self-in-Pause : goal.invariant_of-self-in-Pause
invariant_of-self-in-Pause c =
    let i = c.self.inside in
    let m = moved i.offers.items i.next c.index-offer.result.now story.NoneThere (omega arith)
    c.index-offer.ensures (ap offer_view c.in-Pause.is) in
    none_taken _ _ _ m c.self.invariant

pub invariant_of-self-in-Failure : goal.invariant_of-self-in-Failure
invariant_of-self-in-Failure c =
    let i = c.self.inside in
    let m = moved i.offers.items i.next c.index-offer.result.now story.OneFailure (omega arith)
    c.index-offer.ensures (ap offer_view c.in-Failure.is) in
    failure_taken _ _ _ m c.self.invariant

pub returns-in-Some-clause-accepts : goal.returns-in-Some-clause-accepts
returns-in-Some-clause-accepts c =
    let i = c.self.inside in
    let m = moved i.offers.items i.next c.index-offer.result.now
    (story.Connection c.in-Connection.number) (omega arith) c.index-offer.ensures
    (ap offer_view c.in-Connection.is) in
    let new : ListenerContent = record {
      offering = offering_at (offer_views i.offers.items) (i.next + 1);
      connections = into_iter_items c.next.new.self;
      accepts = c.saturating_add-self-inside.result;
      last_accept = Some Accepted;
      faults = i.faults;
    } in
    let base = accepts_end (the_view i) new c.in-Connection.number c.in-Some.connection
    (record { accepts = c.saturating_add-self-inside.ensures; last = refl }) refl m in
    subst (λ (o : ListenerContent). AcceptsEnd (listener_facts o) (peer_facts c.new.result)
    (listener_facts new)) c.self.view_is
    (subst (λ (p : PeerContent). AcceptsEnd (listener_facts (the_view i)) (peer_facts p)
    (listener_facts new)) (sym c.new.ensures) base)

pub returns-in-Some-clause-next : goal.returns-in-Some-clause-next
returns-in-Some-clause-next c =
    let i = c.self.inside in
    let m = moved i.offers.items i.next c.index-offer.result.now
    (story.Connection c.in-Connection.number) (omega arith) c.index-offer.ensures
    (ap offer_view c.in-Connection.is) in
    let number = ap (λ (p : PeerContent). p.serial) c.new.ensures in
    record {
      number = number ∙ is_next _ _ _ _ m c.self.invariant
          ∙ ap (λ (o : ListenerContent). many_offered o.offering.given) c.self.view_is;
      connection = c.in-Some.connection;
      was_next = ap (λ (o : ListenerContent). o.connections) (sym c.self.view_is)
          ∙ c.in-Some.ensures.items;
      end_is = c.new.ensures ∙ ap (λ (n : ℕ). new_peer n c.in-Some.connection) (sym number);
    }

pub returns-in-Pause-clause-accepts : goal.returns-in-Pause-clause-accepts
returns-in-Pause-clause-accepts c =
    let i = c.self.inside in
    let m = moved i.offers.items i.next c.index-offer.result.now story.NoneThere (omega arith)
    c.index-offer.ensures (ap offer_view c.in-Pause.is) in
    let new : ListenerContent = record {
      offering = offering_at (offer_views i.offers.items) (i.next + 1);
      connections = into_iter_items i.connections;
      accepts = c.saturating_add-self-inside.result;
      last_accept = Some Paused;
      faults = i.faults;
    } in
    let base = accepts_none (the_view i) new
    (record { accepts = c.saturating_add-self-inside.ensures; last = refl }) refl m in
    subst (λ (o : ListenerContent). AcceptsNone (listener_facts o) (listener_facts new))
    c.self.view_is base

pub returns-in-Failure-clause-accepts : goal.returns-in-Failure-clause-accepts
returns-in-Failure-clause-accepts c =
    let i = c.self.inside in
    let m = moved i.offers.items i.next c.index-offer.result.now story.OneFailure (omega arith)
    c.index-offer.ensures (ap offer_view c.in-Failure.is) in
    let new : ListenerContent = record {
      offering = offering_at (offer_views i.offers.items) (i.next + 1);
      connections = into_iter_items i.connections;
      accepts = c.saturating_add-self-inside.result;
      last_accept = Some Faulted;
      faults = c.saturating_add-self-inside-in-Failure.result;
    } in
    let base = fails_to_accept (the_view i) new
    (record { accepts = c.saturating_add-self-inside.ensures; last = refl })
    c.saturating_add-self-inside-in-Failure.ensures m in
    subst (λ (o : ListenerContent). FailsToAccept (listener_facts o) (listener_facts new))
    c.self.view_is base
