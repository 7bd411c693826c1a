use Rattle.std.proofs.Common.{[], refl, None}
use Rattle.ev_base.specs.Terms.{open_terms}
use Rattle.test_runs.proofs.play.playing.open.Goals as goal

pub registered-requires : goal.registered-requires
registered-requires g c =
    let t = open_terms c.args.asked.most in
    let fits = c.new-taker.ensures.fits t None c.requires.listener (λ offers told. cc)
    (λ time told. cc) c.requires.given.numbered in (
      record {
        terms = t;
        limit = refl;
        first = 0;
        history = [];
        stands = c.in-Ok.ensures;
        none_open = refl;
      },
      fits,
    )
