use Rattle.std.proofs.Common.{inl, inr}
use Rattle.one_run.proofs.Ends.{can_end}
use Rattle.one_run.proofs.Growing.{whole-so, whole-more, whole-first}
use Rattle.one_run.proofs.serving.run.Goals as goal

pub returns-in-Err-clause-leads : goal.returns-in-Err-clause-leads
returns-in-Err-clause-leads g c t F h stands terms opened =
    let w = c.in-Err.ensures.err t F h stands terms (inl opened) in
    (w.0, w.1, w.2, (w.3.0, whole-first _ h w.1 opened w.3.1))

pub returns-in-Err-serve-clause-leads : goal.returns-in-Err-serve-clause-leads
returns-in-Err-serve-clause-leads g c t F h stands terms opened =
    let w = c.in-Ok.ensures.first t F h stands terms opened in
    let s = c.in-Err-serve.ensures.err t w.0 w.1 w.2 terms w.3 in
    (s.0, s.1, s.2, (can_end s.1 s.3.0, s.3.1))

pub wait-requires-2 : goal.wait-requires-2
wait-requires-2 g c =
    let o = c.requires in
    let w = c.in-Ok.ensures.first o.0 o.1 o.2 o.3 o.4.0 o.4.1 in
    let s = c.in-Ok-serve.ensures.ok o.0 w.0 w.1 w.2 o.4.0 w.3 in
    (o.0, s.0, s.1, s.2, (o.4.0, inr s.3.0))

pub returns-in-Ok-wait-clause-leads : goal.returns-in-Ok-wait-clause-leads
returns-in-Ok-wait-clause-leads g c t F h stands terms opened =
    let w = c.in-Ok.ensures.first t F h stands terms opened in
    let s = c.in-Ok-serve.ensures.ok t w.0 w.1 w.2 terms w.3 in
    let e = c.in-Ok-wait.ensures.last t s.0 s.1 s.2 terms s.3.0 in (
      e.0,
      e.1,
      e.2,
      (
        e.3 _ s.3,
        whole-so _ e.1
            (e.2.tracks.watch.all_whole c.in-Ok-wait.ensures.whole),
      ),
    )

pub returns-in-Err-wait-clause-leads : goal.returns-in-Err-wait-clause-leads
returns-in-Err-wait-clause-leads g c t F h stands terms opened =
    let w = c.in-Ok.ensures.first t F h stands terms opened in
    let s = c.in-Ok-serve.ensures.ok t w.0 w.1 w.2 terms w.3 in
    let e = c.in-Err-wait.ensures.err t s.0 s.1 s.2 terms (inr s.3.0) in (
      e.0,
      e.1,
      e.2,
      (
        e.3.0,
        whole-more _ _ s.1 e.1 c.in-Err-wait.ensures.later
            (whole-so _ s.1 (s.2.tracks.watch.all_whole c.in-Ok-serve.ensures.whole)) e.3.1,
      ),
    )
