use Rattle.std.proofs.Common.{refl, sym, ◌∙◌}
use Rattle.reactor_model.specs.reactor_journal.specs.Past.{past_of}
use Rattle.reactor_summary.specs.Summary.{summary}
use Rattle.reactor_core.proofs.SettleEvent.{may_close, took_home, took_closed}
use Rattle.reactor_core.proofs.reactor.Core.take_back.Goals as goal

pub returns-then-is_alive-clause-takes : goal.returns-then-is_alive-clause-takes
returns-then-is_alive-clause-takes g c t F h o =
    took_home _ t c.args.self.now _ F h c.args.handle c.args.handler c.args.why
    (record {
      most = refl;
      first = refl;
      journal = refl;
      state = refl;
      repo = c.give_back.ensures.entries;
      net = refl;
      watch = refl;
      volumes = refl;
      marks = refl;
    })
    (sym (c.is_alive.ensures (summary (past_of h)) o.tracks.state) ∙ c.if-is_alive.true) o.back
    o.tracks

pub close_handler-requires-clause-may : goal.close_handler-requires-clause-may
close_handler-requires-clause-may g c =
    let o = c.requires.may in
    let dead = sym (c.is_alive.ensures (summary (past_of o.2)) o.3.tracks.state)
    ∙ c.if-is_alive.false in (
      o.0,
      o.1,
      o.2,
      may_close _ o.0 c.args.self.now o.1 o.2 c.args.handle c.args.handler c.args.why
          dead o.3,
    )

pub returns-clause-takes : goal.returns-clause-takes
returns-clause-takes g c t F h o =
    let dead = sym (c.is_alive.ensures (summary (past_of h)) o.tracks.state)
    ∙ c.if-is_alive.false in
    let closed = c.close_handler.ensures.tracks t F h
    (may_close _ t c.args.self.now F h c.args.handle c.args.handler c.args.why dead o) in
    took_closed _ t c.args.self.now _ F h c.args.handle closed.0 dead closed.1
    c.close_handler.ensures.room.journal
