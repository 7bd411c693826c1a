use Rattle.reactor_core.proofs.Frames.{rest_goes_on}
use Rattle.ev_base.specs.Net.{Reserves}
use Rattle.std.proofs.Common.{arith, refl, sym, subst, ◌∙◌}
use Rattle.reactor_desk.proofs.Drained.{drained_one, found_empty, stands_still}
use Rattle.reactor_desk.proofs.desk.Desk.record_one.Goals as goal

pub returns-in-Some-clause-drains : goal.returns-in-Some-clause-drains
returns-in-Some-clause-drains g c q F h o running =
    let kept = c.in-Ok.ensures.stands q.run F h o.core in
    drained_one _ q F h c.args.self.now _ _
    (c.post_reserved.ensures.rest.volume ∙ c.reserve_post.ensures.rest.volume) c.in-Some.posting o
    (c.post_reserved.ensures.stands q.run F h kept (c.in-Ok.ensures.room q.run F h o.core)
    running) c.next.ensures.ring c.in-Some.ensures.taken

pub post_reserved-requires : goal.post_reserved-requires
post_reserved-requires g c = let o = c.requires.stands in
    record {
      stands = (
        o.0.run,
        o.1,
        o.2,
        c.in-Ok.ensures.stands o.0.run o.1 o.2 o.3.core,
        (c.in-Ok.ensures.room o.0.run o.1 o.2 o.3.core, o.4),
      );
    }

pub returns-in-Some-clause-ring : goal.returns-in-Some-clause-ring
returns-in-Some-clause-ring g c = c.next.ensures.ring

pub returns-in-Some-clause-rest : goal.returns-in-Some-clause-rest
returns-in-Some-clause-rest g c = record {
  net =
      subst (λ n. Reserves (g.M.Net.facts c.args.self.now.core.net) (g.M.Net.facts n))
      (sym c.post_reserved.ensures.net) c.reserve_post.ensures.kept.net;
  rest = rest_goes_on c.reserve_post.ensures.rest c.post_reserved.ensures.rest;
}

pub returns-in-None-clause-drains : goal.returns-in-None-clause-drains
returns-in-None-clause-drains g c q F h o running =
    found_empty _ q F h c.args.self.now _ _ c.reserve_post.ensures.rest.volume o
    (c.in-Ok.ensures.stands q.run F h o.core)
    c.next.ensures.ring c.in-None.ensures.taken

pub returns-in-None-clause-ring : goal.returns-in-None-clause-ring
returns-in-None-clause-ring g c = c.next.ensures.ring

pub returns-in-None-clause-rest : goal.returns-in-None-clause-rest
returns-in-None-clause-rest g c = record {
  net = c.reserve_post.ensures.kept.net;
  rest = c.reserve_post.ensures.rest;
}

pub returns-in-Err-clause-drains : goal.returns-in-Err-clause-drains
returns-in-Err-clause-drains g c q F h o running = (
  omega arith,
  stands_still _ q F h c.args.self.now _ c.args.self.now.drainer
      c.reserve_post.ensures.rest.volume o
      (c.in-Err.ensures.stands q.run F h o.core),
)

pub returns-in-Err-clause-ring : goal.returns-in-Err-clause-ring
returns-in-Err-clause-ring g c = refl

pub returns-in-Err-clause-rest : goal.returns-in-Err-clause-rest
returns-in-Err-clause-rest g c = record {
  net = c.reserve_post.ensures.kept.net;
  rest = c.reserve_post.ensures.rest;
}
