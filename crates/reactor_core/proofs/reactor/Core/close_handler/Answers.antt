use Rattle.std.proofs.Common.{List, sym, refl, subst}
use Rattle.std.specs.List.{Contains}
use Rattle.ev_base.specs.Terms.{Terms}
use Rattle.reactor_model.specs.reactor_journal.specs.declared.entry.Entry.{Entry}
use Rattle.reactor_model.specs.reactor_journal.specs.Past.{past_of, origin_of, had}
use Rattle.reactor_summary.specs.Summary.{summary}
use Rattle.reactor_core.proofs.Closed.{closed, live_attached}
use Rattle.reactor_core.proofs.WaitNumbers.{told_quiet}
use Rattle.reactor_core.proofs.reactor.Core.close_handler.Goals as goal

pub retire-requires : goal.retire-requires
retire-requires g c =
    let o = c.requires.may in
    subst (λ xs. Contains xs c.args.handle.0) (sym o.3.tracks.net.attached)
    (live_attached (summary (past_of o.2)) c.args.handle.0 o.3.closable.live)

-- the handler that came out of its cell is the one in hand
same : (g : _) (c : goal.After-append g) (t : Terms) (past : List (Entry g.row.H-Note.Denot))
    → g.H.EventHandler.means.fits t (origin_of past c.args.handle.0) c.args.handler
    (had past c.args.handle.0)
    → g.H.EventHandler.means.fits t (origin_of past c.args.handle.0) c.drop_out-handler.result
    (had past c.args.handle.0)
same g c t past fits = subst (λ handler.
    g.H.EventHandler.means.fits t (origin_of past c.args.handle.0) handler
    (had past c.args.handle.0)) (sym c.drop_out-handler.ensures.handler) fits

pub returns-clause-tracks : goal.returns-clause-tracks
returns-clause-tracks g c t F h o = (
  c.handle_close-end.result.1,
  closed _ t c.args.self.now _ F h c.args.handle c.args.handler c.args.why
      c.handle_close-end.result.1 c.handle_close-end.result.0 (record {
        appends = record {
          most = refl;
          first = refl;
          journal = c.append.ensures.entries;
          watch = c.append.ensures.watch;
          volumes = refl;
          marks = (refl, told_quiet _ _ _ c.retire.ensures.retires.calls (λ calls. refl));
        };
        repo = c.drop_out-handler.ensures.entries;
        state = λ s shows p. c.close.ensures.steps c.handle_close-end.result.1 s shows p;
        net = c.retire.ensures.retires;
        gone = λ t past k. c.handle_close-end.ensures.gone t _ _ k.own (same g c t past k.fits);
        keeps = λ t past k before. c.retire.ensures.kept t before
            (c.handle_close-end.ensures.kept t _ _ (same g c t past k.fits));
      }) o.closable o.number o.tracks,
)
