use Rattle.std.proofs.Common.{refl, None, []}
use Rattle.ev_base.specs.Terms.{open_terms}
use Rattle.test_runs.proofs.Begins.{begins, none_is}
use Rattle.test_runs.proofs.sockets.open.Goals as goal

pub new-made-requires-clause-begins : goal.new-made-requires-clause-begins
new-made-requires-clause-begins g c = (
  open_terms 2,
  begins _ _ _ c.requires.net c.new.ensures.timers
      (c.new-2.ensures.stands (open_terms 2) (λ text q. none_is q) (λ n q. none_is q)),
)

pub register-requires : goal.register-requires
register-requires g c = (
  record {
    terms = open_terms 2;
    limit = refl;
    first = 0;
    history = [];
    stands = c.in-Ok.ensures.ok (open_terms 2)
        (begins _ _ _ c.requires.net c.new.ensures.timers
        (c.new-2.ensures.stands (open_terms 2) (λ text q. none_is q) (λ n q. none_is q)));
    none_open = refl;
  },
  c.new-acceptor.ensures.fits (open_terms 2) None refl (λ offers q. none_is q) (λ time q. none_is q)
      tt,
)
