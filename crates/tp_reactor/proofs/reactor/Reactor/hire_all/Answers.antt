use Rattle.std.proofs.Common.{◌≡◌, ◌∷◌, ◌++◌, ◌+◌, length, ap, sym, ◌∙◌, subst, arith}
use Rattle.std.proofs.Common.{length-append}
use Rattle.leader_token.specs.Passes.{split_left, split_right}
use Rattle.notify_ring.specs.Passes as ring
use Rattle.notify_ring.specs.Words.{poster_view}
use Rattle.tp_reactor.specs.Hired.{AreHired, observers_of}
use Rattle.tp_reactor.specs.Words.{known_by, poster_of}
use Rattle.tp_reactor.proofs.Seats.{all_before, front_removed, hired_more, hirer_one}
use Rattle.tp_reactor.proofs.Seats.{hirer_posted_one, observed_more}
use Rattle.tp_reactor.proofs.reactor.Reactor.hire_all.Goals as goal

pub loop-root-preserved : goal.loop-root-preserved
loop-root-preserved g c =
    let old = c.loop-root.hired.items in
    let v = known_by c.args.root.now in
    let p = poster_view (poster_of c.args.root.now) in
    let inv = c.loop-root.invariant in
    let items = c.push_reserved.ensures.items in
    let more : length c.push_reserved.new.self.items ≡ length old + 1 =
    ap length items ∙ length-append old _ in
    let front : c.remove-observer.result ∷ c.remove-observer.new.self.items
    ≡ c.loop-root.observers.items =
    front_removed _ _ _ (omega (arith, c.remove-observer.ensures.len))
    c.remove-observer.ensures.value c.remove-observer.ensures.items in
    record {
      of = c.hire-worker.ensures.of.0;
      known = c.hire-worker.ensures.root.0
          ∙ (ap split_left inv.known ∙ hirer_one v (length old) _ more);
      posted = c.hire-worker.ensures.root.1
          ∙ (ap ring.split_left inv.posted ∙ hirer_posted_one p (length old) _ more);
      hired = subst (λ l. AreHired c.args.self.now v p 0 l) (sym items)
          (hired_more c.args.self.now v p 0 (length old) old _ (omega arith) inv.hired
          (record {
            of = c.hire-worker.ensures.of.1;
            known = c.hire-worker.ensures.child.0 ∙ ap split_right inv.known;
            posted = c.hire-worker.ensures.child.1 ∙ ap ring.split_right inv.posted;
          }));
      observers = ap (λ l. observers_of l ++ c.remove-observer.new.self.items) items
          ∙ (observed_more old _ _ ∙ (ap (λ l. observers_of old ++ l) front ∙ inv.observers));
      few = omega (arith, inv.few, more, ap length front);
      places = omega (arith, inv.places, more, ap length front, c.push_reserved.ensures.capacity);
      capacity = c.remove-observer.ensures.capacity ∙ inv.capacity;
    }

pub returns-clause-observers : goal.returns-clause-observers
returns-clause-observers g c = all_before (observers_of c.loop-root.hired.items) _ _
    (omega (arith, c.loop-root-test.false, c.len.ensures)) c.loop-root.invariant.observers
