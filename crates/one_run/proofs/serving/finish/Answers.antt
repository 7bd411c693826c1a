use Rattle.std.proofs.Common.{arith, sym, ap, ◌∙◌, inr, ◌++◌, ◌∷◌, []}
use Rattle.reactor_model.specs.reactor_journal.specs.declared.entry.Entry.TheVariants.{Ended}
use Rattle.one_run.specs.Running.{is_lost}
use Rattle.one_run.proofs.Finishing.{stops, finishes, finishes_shut, is_over}
use Rattle.one_run.proofs.Growing.{grows-stopped}
use Rattle.one_run.proofs.serving.finish.Goals as goal

pub stop-requires : goal.stop-requires
stop-requires g c =
    let q = c.requires in
    record { stands = (q.0, q.1, q.2, q.3) }

pub into_parts-requires : goal.into_parts-requires
into_parts-requires g c =
    let o = c.requires in
    let s = stops _ o.0 o.1 o.2 _ o.4.1 (c.stop.ensures.stands o.0 o.1 o.2 o.3) in
    record {
      stands = (
        o.0,
        o.1,
        (o.2 ++ Ended ∷ []) ++ s.entries,
        s.stands,
        is_over _ (finishes _ o.0 o.1 o.2 _ o.4.1 s),
      );
    }

pub returns-clause-ends : goal.returns-clause-ends
returns-clause-ends g c t F h stands terms may =
    let s = stops _ t F h _ may (c.stop.ensures.stands t F h stands) in
    record {
      first = F;
      journal = (h ++ Ended ∷ []) ++ s.entries;
      legal = s.stands.tracks.legal;
      finished = finishes _ t F h _ may s;
      so = grows-stopped _ _ h s.entries s.removals;
      stand = c.into_parts.ensures.stands t F ((h ++ Ended ∷ []) ++ s.entries) s.stands;
    }

pub returns-clause-closed : goal.returns-clause-closed
returns-clause-closed g c t F h now lost stands terms shut =
    let s = stops _ t F h _ (inr (inr (now ∷ [], omega arith, shut.0)))
    (c.stop.ensures.stands t F h stands) in
    let f = finishes_shut _ t F h _ now shut.0 s in
    record {
      first = F;
      journal = (h ++ Ended ∷ []) ++ s.entries;
      legal = s.stands.tracks.legal;
      finished = f.0;
      so = (
        record {
          own = f.1.reason ∙ shut.0.own;
          lost_so = shut.1 ∙ ap is_lost (sym f.1.note);
          moment = now;
          rest = f.1.rest ∙ ap (λ rest. rest ++ Ended ∷ []) shut.0.waits;
        },
        grows-stopped _ _ h s.entries s.removals,
      );
      stand = c.into_parts.ensures.stands t F ((h ++ Ended ∷ []) ++ s.entries) s.stands;
    }
