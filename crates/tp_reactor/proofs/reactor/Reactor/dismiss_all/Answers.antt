use Rattle.std.proofs.Common.{◌≡◌, ◌∷◌, [], ◌++◌, All, ap, sym, ◌∙◌, subst, arith, length}
use Rattle.std.proofs.Common.{length-append, append_assoc}
use Rattle.std.specs.Vec.Iter.{into_iter_items}
use Rattle.leader_token.specs.Lists.{Begins}
use Rattle.leader_token.specs.Passes.{joined}
use Rattle.notify_ring.specs.Passes as ring
use Rattle.notify_ring.specs.Words.{poster_view}
use Rattle.tp_reactor.specs.Hired.{MayLeave, end_of, ends_of, observers_of}
use Rattle.tp_reactor.specs.Pool.{Dismisses}
use Rattle.tp_reactor.specs.Words.{known_by, poster_of}
use Rattle.tp_reactor.specs.Working.{first_ran}
use Rattle.tp_reactor.proofs.Seats.{all_tail, dismissed_one}
use Rattle.tp_reactor.proofs.reactor.Reactor.dismiss_all.Goals as goal

pub loop-seat-preserved : goal.loop-seat-preserved
loop-seat-preserved g c =
    let x = c.in-Some.seat in
    let old = c.loop-seat.root in
    let rest = into_iter_items c.next.new.self in
    let is : into_iter_items c.loop-seat.seat-iterator ≡ x ∷ rest = c.in-Some.ensures.steps.0 in
    let worker = c.into_parts-worker.ensures.0 in
    let known = c.dismiss.ensures.root.0 ∙ ap (λ w. joined (known_by old) (known_by w)) worker in
    record {
      can = tt;
      finite = tt;
      of = c.dismiss.ensures.of;
      root = ap (λ v. v.root) known ∙ c.loop-seat.invariant.root;
      idle = (
        ap (λ v. v.base) known ∙ c.loop-seat.invariant.idle.0,
        ap (λ v. v.mine) known
            ∙ c.loop-seat.invariant.idle.1,
      );
      leave = all_tail (λ y. MayLeave c.args.self.now y) x rest
          (subst (λ l. All (λ y. MayLeave c.args.self.now y) l) is c.loop-seat.invariant.leave);
      observers = ap (λ l. l ++ observers_of rest) c.push_reserved.ensures.items
          ∙ (append_assoc c.loop-seat.observers.items (c.into_parts-worker.result.1 ∷ [])
          (observers_of rest) ∙ (ap (λ y. c.loop-seat.observers.items ++ y ∷ observers_of rest)
          c.into_parts-worker.ensures.1 ∙ (ap (λ l. c.loop-seat.observers.items ++ observers_of l)
          (sym is) ∙ c.loop-seat.invariant.observers)));
      places = omega (
        arith,
        c.loop-seat.invariant.places,
        ap length is,
        ap length c.push_reserved.ensures.items,
        length-append c.loop-seat.observers.items (c.into_parts-worker.result.1 ∷ []),
        c.push_reserved.ensures.capacity,
      );
      done = λ left d.
          c.loop-seat.invariant.done left
          (subst (λ l. Dismisses (record {
            ran = c.loop-seat.first;
            known = known_by old;
            posted = poster_view (poster_of old);
          }) (ends_of l) left) (sym is)
          (dismissed_one (record {
            ran = c.loop-seat.first;
            known = known_by old;
            posted = poster_view (poster_of old);
          }) (end_of x) (ends_of rest) _ _ _ left
          (c.or_first-first.ensures ∙ ap (first_ran c.loop-seat.first)
          c.into_parts-worker.ensures.2) known
          (c.dismiss.ensures.root.1 ∙ ap (λ w.
          ring.joined (poster_view (poster_of old)) (poster_view (poster_of w))) worker) (
            c.dismiss.ensures.seen.0,
            subst (λ w.
                Begins (known_by w).seen (known_by c.dismiss.new.root).seen) worker
                c.dismiss.ensures.seen.1,
          ) d));
    }
