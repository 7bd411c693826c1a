use Rattle.std.proofs.Common.{sym, subst}
use Rattle.ev_base.specs.Net.{Reserves}
use Rattle.reactor_model.specs.reactor_journal.specs.Past.{past_of}
use Rattle.reactor_summary.specs.Summary.{summary}
use Rattle.reactor_core.proofs.Kept.{stands_kept}
use Rattle.reactor_core.proofs.Start.{no_pick}
use Rattle.reactor_core.proofs.reactor.Core.start.Goals as goal

pub returns-in_default-clause-ok : goal.returns-in_default-clause-ok
returns-in_default-clause-ok g c t F h o = (
  no_pick t.most (past_of h) o.tracks.legal
      (sym (c.in_default.ensures.pick (summary (past_of h)) o.tracks.state)),
  o,
)

pub dispatch-requires-clause-may : goal.dispatch-requires-clause-may
dispatch-requires-clause-may g c =
    let o = c.requires.stands in (
      o.0,
      o.1,
      o.2,
      record {
        stands = stands_kept _ o.0 _ _ o.1 o.2 c.in-Ok.ensures.kept o.3;
        pick = sym (c.in-Some.ensures.pick (summary (past_of o.2)) o.3.tracks.state);
        room = c.in-Ok.ensures.room o.0 o.1 o.2 o.3;
      },
    )

pub returns-clause-ok : goal.returns-clause-ok
returns-clause-ok g c t F h o =
    c.dispatch.ensures.stands t F h (record {
      stands = stands_kept _ t _ _ F h c.in-Ok.ensures.kept o;
      pick = sym (c.in-Some.ensures.pick (summary (past_of h)) o.tracks.state);
      room = c.in-Ok.ensures.room t F h o;
    })

pub returns-in-Err-clause-err : goal.returns-in-Err-clause-err
returns-in-Err-clause-err g c t F h o = stands_kept _ t _ _ F h c.in-Err.ensures.kept o

pub returns-clause-net : goal.returns-clause-net
returns-clause-net g c = subst (λ net.
    Reserves (g.M.Net.facts c.args.self.now.net) (g.M.Net.facts net)) (sym c.dispatch.ensures.net)
    c.in-Ok.ensures.kept.net
