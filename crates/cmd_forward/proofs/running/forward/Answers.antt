use Rattle.std.proofs.Common.{None, Some, refl}
use Rattle.cmd_forward.specs.Starting.{terms_bound, terms_of}
use Rattle.cmd_forward.proofs.Runs.{none_asked, starts}
use Rattle.cmd_forward.proofs.running.forward.Goals as goal

pub open-requires-clause-begins : goal.open-requires-clause-begins
open-requires-clause-begins g c =
    let i = g.S.Source.facts c.args.input in
    let t = terms_bound None i in
    let kept = c.requires.kept t (record { offers = refl; groups = refl; steady = refl }) in (
      t,
      refl,
      record {
        terms = record { most = refl; steady = refl };
        fresh = c.new-2.ensures.new;
        kept = c.new-2.ensures.kept t kept.0;
        fits_none = c.new-handler.ensures.fits t
            (c.new-end.ensures.kept t kept.1 (starts None i))
            (record {
              turned = c.new.ensures.turned _ c.new-end.ensures.fresh;
              few = c.new.ensures.few;
            });
      },
    )

pub serve-requires : goal.serve-requires
serve-requires g c =
    let i = g.S.Source.facts c.args.input in (
      i,
      c.args.wait,
      record {
        some = c.requires.some;
        stands = λ bound.
            let t = terms_bound bound i in
            let kept = c.requires.kept t (record { offers = refl; groups = refl; steady = refl })
            in
            c.in-Ok.ensures.opened t (record {
              terms = record { most = refl; steady = refl };
              fresh = c.new-2.ensures.new;
              kept = c.new-2.ensures.kept t kept.0;
              fits_none = c.new-handler.ensures.fits t
                  (c.new-end.ensures.kept t kept.1 (starts bound i))
                  (record {
                    turned = c.new.ensures.turned _ c.new-end.ensures.fresh;
                    few = c.new.ensures.few;
                  });
            });
      },
    )

pub give_up-requires : goal.give_up-requires
give_up-requires g c =
    let i = g.S.Source.facts c.args.input in
    let t = terms_of i in
    let kept = c.requires.kept t (record { offers = refl; groups = refl; steady = refl }) in (
      i,
      record {
        leaves = c.in-Err.ensures.unopened t (record {
          terms = record { most = refl; steady = refl };
          fresh = c.new-2.ensures.new;
          kept = c.new-2.ensures.kept t kept.0;
          fits_none = c.new-handler.ensures.fits t
              (c.new-end.ensures.kept t kept.1 (starts (Some None) i))
              (record {
                turned = c.new.ensures.turned _ c.new-end.ensures.fresh;
                few = c.new.ensures.few;
              });
        });
        before = _;
        cause = c.in-Err.ensures.cause;
      },
    )

pub returns-in-Ok-clause-ends : goal.returns-in-Ok-clause-ends
unfolding serve-requires
returns-in-Ok-clause-ends g c =
    let r = serve-requires g c.before in
    c.serve.ensures.ends r.0 r.1 r.2

pub returns-in-Ok-clause-asked : goal.returns-in-Ok-clause-asked
unfolding serve-requires
returns-in-Ok-clause-asked g c =
    let r = serve-requires g c.before in
    c.serve.ensures.asked r.0 r.1 r.2

pub returns-in-Err-clause-ends : goal.returns-in-Err-clause-ends
unfolding give_up-requires
returns-in-Err-clause-ends g c =
    let r = give_up-requires g c.before in
    c.give_up.ensures.ends r.0 r.1 c.args.wait

pub returns-in-Err-clause-asked : goal.returns-in-Err-clause-asked
unfolding give_up-requires
returns-in-Err-clause-asked g c =
    let r = give_up-requires g c.before in
    none_asked c.args.wait _ (c.give_up.ensures.asked r.0 r.1)
