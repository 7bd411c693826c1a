use Rattle.std.proofs.Common.{◌≤◌, ◌∙◌, ⊎_elim, ap, refl, subst, sym}
use Rattle.reactor_model.specs.reactor_journal.specs.Past.{past_of}
use Rattle.reactor_core.specs.Ends.{WhereTold}
use Rattle.reactor_core.specs.declared.marks.WaitMarks.{WaitMarks}
use Rattle.core_loop.proofs.Idling.{over_stopped, stopped as stopped_idle}
use Rattle.core_loop.proofs.Leading.{stopped}
use Rattle.connector_run.specs.Leaving.{LastWaitWasOver}
use Rattle.connector_run.proofs.Leaving.{last_waited, leaves_alive, leaves_closed}
use Rattle.connector_run.proofs.Waits.{alive_left, closed_left}
use Rattle.connector_run.proofs.running.finish.Goals as goal

pub into_parts-requires : goal.into_parts-requires
into_parts-requires g c =
    let i = c.requires in
    record {
      stands = over_stopped _ (stopped_idle _ _ i _ refl
          (c.stop.ensures.stands i.terms i.first i.history i.stands));
    }

pub returns-clause-closed : goal.returns-clause-closed
returns-clause-closed g c = λ t F h wait stands none closed.
    let s = stopped _ t F h _ none (c.stop.ensures.stands t F h stands) in
    leaves_closed _ _ t F h _ stands.tracks.legal wait closed (record {
      entries = s.entries;
      stops = s.stops;
      over = s.over;
      stand = c.into_parts.ensures.stands t F _ s.stands;
    })

pub returns-clause-alive : goal.returns-clause-alive
returns-clause-alive g c = λ t F h wait stands none alive.
    let s = stopped _ t F h _ none (c.stop.ensures.stands t F h stands) in
    leaves_alive _ _ t F h _ stands.tracks.legal wait alive none (record {
      entries = s.entries;
      stops = s.stops;
      over = s.over;
      stand = c.into_parts.ensures.stands t F _ s.stands;
    })

pub returns-clause-over : goal.returns-clause-over
returns-clause-over g c = λ t F h stands none over some.
    let s = stopped _ t F h _ none (c.stop.ensures.stands t F h stands) in
    let mark = ap (λ (m : WaitMarks). m.over) c.stop.ensures.rest.marks in
    subst (λ net. WhereTold LastWaitWasOver (g.M.Net.facts net).calls)
    (sym c.into_parts.ensures.net)
    (last_waited _ (past_of h) _ _
    (ap (λ (m : WaitMarks). m.made) c.stop.ensures.rest.marks ∙ stands.tracks.marks.made)
    s.stands.tracks.marks (mark ∙ over) (subst (λ n. 1 ≤ n) (sym mark) some))

pub returns-clause-asked : goal.returns-clause-asked
returns-clause-asked g c = λ t F h wait limit stands none how.
    ⊎_elim (λ alive. alive_left _ t limit wait F h _ c.into_parts.result stands.tracks.legal alive
    (returns-clause-alive g c t F h wait stands none alive))
    (λ closed. closed_left _ t limit wait F h _ c.into_parts.result stands.tracks.legal closed
    (returns-clause-closed g c t F h wait stands none closed)) how
