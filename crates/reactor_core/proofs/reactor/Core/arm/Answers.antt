use Rattle.std.proofs.Common.{refl, ap, ◌+◌, arith}
use Rattle.reactor_core.proofs.Opened.{armed_on}
use Rattle.reactor_core.proofs.reactor.Core.arm.Goals as goal

pub returns-clause-tracks : goal.returns-clause-tracks
returns-clause-tracks g c t F h k some alive running number =
    armed_on _ t c.args.self.now _ F h c.args.handle c.schedule-timer.result c.args.delay
    c.args.every (record {
      first = c.moment.result + c.args.delay;
      appends = record {
        most = refl;
        first = refl;
        journal = c.append.ensures.entries;
        watch = c.append.ensures.watch;
        volumes = refl;
        marks = (refl, refl);
      };
      deadline = λ s shows. ap (λ n. n + c.args.delay) (c.moment.ensures s shows);
      number = c.schedule-timer.ensures.number;
      state = λ s shows n. c.schedule-timer.ensures.steps s shows (
        n,
        (let is = c.moment.ensures s shows in let le = shows.sound.moment in let d =
            c.requires.delay in omega (arith, is, le, d)),
        c.requires.every,
      );
      repo = refl;
      net = refl;
    }) some alive running number k
