use Rattle.std.proofs.Common.{refl, arith}
use Rattle.reactor_model.specs.reactor_journal.specs.Past.{past_of}
use Rattle.reactor_summary.specs.Summary.{summary}
use Rattle.reactor_state.proofs.Fewer.{has_fewer}
use Rattle.reactor_core.proofs.Refused.{refused}
use Rattle.reactor_core.proofs.WaitNumbers.{told_quiet}
use Rattle.reactor_core.proofs.reactor.Core.refuse.Goals as goal

pub turn_away-requires : goal.turn_away-requires
turn_away-requires g c =
    let o = c.requires.may in
    omega (arith, o.3.stands.room.net)

pub returns-clause-stands : goal.returns-clause-stands
returns-clause-stands g c t F h o = (
  c.handle_close-end.result.1,
  refused _ (has_fewer g.Q.TimerQueue.spare) t c.args.self.now _ F h c.args.handler
      c.live-live.result c.args.fault c.handle_close-end.result.1 _ c.handle_close-end.result.0
      (record {
        appends = record {
          most = refl;
          first = refl;
          journal = c.append.ensures.entries;
          watch = c.append.ensures.watch;
          volumes = refl;
          marks = (refl, told_quiet _ _ _ c.turn_away.ensures.turns_away.calls (λ calls. refl));
        };
        spare = c.append.ensures.spare;
        repo = refl;
        state = λ s shows n. c.refuse.ensures.steps c.live-live.result c.args.fault
            c.handle_close-end.result.1 s shows n;
        places = c.refuse.ensures.places;
        net = c.turn_away.ensures.turns_away;
        gone = λ t past k. c.handle_close-end.ensures.gone t _ _ (λ q. cc) k;
        named = λ t past k. c.handle_close-end.ensures.serial t _ _ k;
        keeps = λ t past k before. c.turn_away.ensures.kept t before
            (c.handle_close-end.ensures.kept t _ _ k);
      }) (c.live-live.ensures (summary (past_of h)) o.stands.tracks.state) o.offered o.may o.stands,
)
