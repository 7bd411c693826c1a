use Rattle.std.proofs.Common.{refl, subst, sym}
use Rattle.reactor_model.specs.reactor_journal.specs.Past.{origin_of, had}
use Rattle.reactor_core.proofs.job.Job.run.Goals as goal

pub returns-clause-fits : goal.returns-clause-fits
returns-clause-fits g c t past j =
    let turn = c.upcall-turn.ensures.turn t _ _ j.no_close
    (subst (λ handler. g.H.EventHandler.means.fits t (origin_of past c.args.self.handle.0)
    handler (had past c.args.self.handle.0)) (sym c.get_mut.ensures.now) j.fits) in
    record {
      event = j.event;
      fits = turn.fits;
      act = turn.act;
      promises = c.upcall-turn.ensures.promises;
    }

pub returns-clause-same : goal.returns-clause-same
returns-clause-same g c = record { event = refl; handle = refl; upcall = refl; now = refl }
