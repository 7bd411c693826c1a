use Rattle.std.proofs.Common.{ap, refl, rules, ◌∙◌, [], ◌∷◌, length}
use Rattle.tp_reactor.specs.notify_ring.specs.Words.{poster_view}
use Rattle.tp_reactor.specs.notify_ring.specs.declared.view.View.{View}
use Rattle.tp_reactor.specs.Words.{known_by, poster_of}
use Rattle.server_run.specs.Finishing.{named}
use Rattle.server_run.specs.Journals.{first_entry}
use Rattle.server_run.proofs.Leading.{causes_led, closed_at_rest, leaves_led, may_share}
use Rattle.server_run.proofs.Leading.{stands_still, was_led}
use Rattle.server_run.proofs.Living.{handler_lives}
use Rattle.server_run.proofs.Many.{as_many}
use Rattle.server_run.proofs.Registering.{keeps_notices, may_stop, memory_causes, room_for}
use Rattle.server_run.proofs.Registering.{unshared_leaves}
use Rattle.server_run.proofs.running.share_observed.Goals as goal

pub new-requires : goal.new-requires
new-requires g c κs within =
    let stands = c.requires.1.1.1.1.1.1.1.1.1.1.1.1.1.1.1.1.1.1.0 in
    let terms = c.requires.1.1.1.1.1.1.1.1.1.1.1.1.1.1.1.1.1.0 in
    let may = may_share _ g.terms c.args.core stands terms.by_turn in (
      handler_lives κs.0 g.row.E.lives within.0,
      (
        search rules,
        (
          search rules,
          (
            search rules,
            (search rules, (search rules, (search rules, (search rules, may)))),
          ),
        ),
      ),
    )

pub run_workers_observed-ran-requires-clause-may : goal.run_workers_observed-ran-requires-clause-may
run_workers_observed-ran-requires-clause-may g c κs within =
    let fine = c.requires.1.1.1.1.1.1.1.1.1.1.1.1.1.1.1.1.0 in
    let terms = c.requires.1.1.1.1.1.1.1.1.1.1.1.1.1.1.1.1.1.0 in
    let root = c.in-Ok.ensures.root in
    record {
      many = search rules;
      few = search rules;
      is_root = search rules;
      idle = search rules;
      limit = search rules;
      room = room_for c.notice-until.result _
          (ap (λ (p : View). length p.posted) c.in-Ok.ensures.poster);
    }

pub finish-requires : goal.finish-requires
finish-requires g c =
    closed_at_rest _ g.terms c.close.result (known_by c.run_workers_observed-ran.new.root)
    (poster_view (poster_of c.run_workers_observed-ran.new.root)) c.close.ensures
    c.run_workers_observed-ran.ensures.worker.idle.1

pub returns-in-Ok-clause-run : goal.returns-in-Ok-clause-run
returns-in-Ok-clause-run g c =
    let fine = c.requires.1.1.1.1.1.1.1.1.1.1.1.1.1.1.1.1.0 in
    let by_turn = c.requires.1.1.1.1.1.1.1.1.1.1.1.1.1.1.1.1.1.0.by_turn in
    let many = c.requires.1.1.1.1.1.1.1.1.1.1.1.1.1.1.1.1.1.1.1.1 in
    let runs = as_many _ _ many c.run_workers_observed-ran.ensures.runs in
    let d = was_led _ g.terms c.args.asked c.run_workers_observed-ran.result (known_by c.in-Ok.root)
    (known_by c.run_workers_observed-ran.new.root) (poster_view (poster_of c.in-Ok.root))
    (poster_view (poster_of c.run_workers_observed-ran.new.root)) c.close.result _
    c.notice-until.result
    c.in-Ok.ensures.root c.in-Ok.ensures.poster c.notice-until.ensures fine.workers
    runs.one runs.several
    runs.alone c.run_workers_observed-ran.ensures.worker.kin
    c.run_workers_observed-ran.ensures.worker.idle.1
    c.run_workers_observed-ran.ensures.worker.seen runs.over
    runs.tells
    runs.posts c.close.ensures in
    leaves_led _ g.terms c.args.asked c.run_workers_observed-ran.result (known_by c.in-Ok.root)
    (known_by c.run_workers_observed-ran.new.root) (poster_view (poster_of c.in-Ok.root))
    (poster_view (poster_of c.run_workers_observed-ran.new.root)) c.close.result _
    c.notice-until.result
    d
    g.Q.TimerQueue.timers c.finish.result
    (c.finish.ensures.named ∙ ap (λ how.
    named how (g.W.Watch.is_broken c.finish.result.parts.watch)) c.ending.ensures)
    (λ first stands none. c.finish.ensures.stands g.terms first _ stands none)
    c.finish.ensures.counts (may_stop g.terms) (keeps_notices g.E.PeerEnd _ _) by_turn
    (ap (λ t. t.volume) c.run_workers_observed-ran.ensures.worker.kin.terms ∙ c.in-Ok.ensures.volume
    ∙ c.requires.1.1.1.1.1.1.1.1.1.1.1.1.1.1.1.1.1.1.1.0)

pub returns-in-Ok-clause-causes : goal.returns-in-Ok-clause-causes
returns-in-Ok-clause-causes g c =
    let fine = c.requires.1.1.1.1.1.1.1.1.1.1.1.1.1.1.1.1.0 in
    let many = c.requires.1.1.1.1.1.1.1.1.1.1.1.1.1.1.1.1.1.1.1.1 in
    let runs = as_many _ _ many c.run_workers_observed-ran.ensures.runs in
    let d = was_led _ g.terms c.args.asked c.run_workers_observed-ran.result (known_by c.in-Ok.root)
    (known_by c.run_workers_observed-ran.new.root) (poster_view (poster_of c.in-Ok.root))
    (poster_view (poster_of c.run_workers_observed-ran.new.root)) c.close.result _
    c.notice-until.result
    c.in-Ok.ensures.root c.in-Ok.ensures.poster c.notice-until.ensures fine.workers
    runs.one runs.several
    runs.alone c.run_workers_observed-ran.ensures.worker.kin
    c.run_workers_observed-ran.ensures.worker.idle.1
    c.run_workers_observed-ran.ensures.worker.seen runs.over
    runs.tells
    runs.posts c.close.ensures in
    causes_led _ g.terms c.args.asked c.run_workers_observed-ran.result (known_by c.in-Ok.root)
    (known_by c.run_workers_observed-ran.new.root) (poster_view (poster_of c.in-Ok.root))
    (poster_view (poster_of c.run_workers_observed-ran.new.root)) c.close.result _
    c.notice-until.result
    d
    c.args.core refl c.finish.result c.finish.ensures.counts
    (c.finish.ensures.named ∙ ap (λ how.
    named how (g.W.Watch.is_broken c.finish.result.parts.watch)) c.ending.ensures)

pub returns-in-Err-clause-run : goal.returns-in-Err-clause-run
returns-in-Err-clause-run g c =
    let stands = c.requires.1.1.1.1.1.1.1.1.1.1.1.1.1.1.1.1.1.1.0 in
    let same = c.in-Err.ensures.refused.0 in
    unshared_leaves _ g.Q.TimerQueue.timers g.terms c.args.asked c.in-Err.core
    c.finish-in-Err.result c.finish-in-Err.ensures.named
    (c.finish-in-Err.ensures.stands g.terms 0 (first_entry ∷ [])
    (stands_still _ g.terms c.args.core c.in-Err.core 0 (first_entry ∷ []) same stands) refl)

pub returns-in-Err-clause-causes : goal.returns-in-Err-clause-causes
returns-in-Err-clause-causes g c =
    memory_causes _ _ _ c.finish-in-Err.result c.finish-in-Err.ensures.named
