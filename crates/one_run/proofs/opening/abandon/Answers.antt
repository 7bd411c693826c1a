use Rattle.std.proofs.Common.{ap, sym, subst, ℕ, ◌∙◌, ◌++◌, ◌∷◌, []}
use Rattle.reactor_model.specs.reactor_journal.specs.declared.entry.Entry.TheVariants.{Ended}
use Rattle.one_run.proofs.Unserved.{at_nothing, only_ended, over_at_once, none_or_end, same_text}
use Rattle.one_run.proofs.Unserved.{sink_faults}
use Rattle.one_run.specs.Opening.{CountsWrite}
use Rattle.one_run.proofs.opening.abandon.Goals as goal

pub stop-requires : goal.stop-requires
stop-requires g c =
    let q = c.requires in
    record { stands = (q.0, q.1, q.2, q.3) }

pub into_parts-journal-requires : goal.into_parts-journal-requires
into_parts-journal-requires g c =
    let o = c.requires in
    let s = c.stop.ensures.stands o.0 o.1 [] (at_nothing _ o.0 _ o.1 o.2 o.4.1 o.3) in
    record {
      stands = (
        o.0,
        o.1,
        ([] ++ Ended ∷ []) ++ s.entries,
        s.stands,
        over_at_once _ (only_ended _ o.0 o.1 _ s),
      );
    }

pub returns-clause-left : goal.returns-clause-left
returns-clause-left g c t F stands =
    let s = c.stop.ensures.stands t F [] stands in
    let parts = c.into_parts-journal.ensures.stands t F (([] ++ Ended ∷ []) ++ s.entries) s.stands
    in
    record {
      journal = none_or_end F _ _ (only_ended _ t F _ s) stands.tracks.journal.within parts.journal;
      text = λ text told. ap (λ k. (g.K.Sink.facts k).text) c.into_output.ensures
          ∙ same_text _ t _ text _ (only_ended _ t F _ s) told parts.watch;
      output_faults = λ n told. subst (λ (faults : ℕ). CountsWrite c.broken-broken.result n faults)
          (sym (ap (λ k. (g.K.Sink.facts k).faults) c.into_output.ensures))
          (sink_faults g.K.Sink.facts t c.into_parts-journal.result.watch _ n told parts.watch
          c.broken-broken.result c.broken-broken.ensures);
    }
