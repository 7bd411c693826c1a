use Rattle.std.proofs.Common.{refl}
use Rattle.reactor_core.proofs.Returned.{returned_on}
use Rattle.reactor_core.proofs.reactor.Core.record_return.Goals as goal

pub returns-clause-tracks : goal.returns-clause-tracks
returns-clause-tracks g c t F h k o found number =
    returned_on _ t c.args.self.now _ F h c.args.event c.args.answer c.args.note o (record {
      appends = record {
        most = refl;
        first = refl;
        journal = c.append.ensures.entries;
        watch = c.append.ensures.watch;
        volumes = refl;
        marks = (refl, refl);
      };
      state = λ s shows n. c.settle.ensures.steps c.args.note s shows n;
      repo = refl;
      net = refl;
    }) found number k
