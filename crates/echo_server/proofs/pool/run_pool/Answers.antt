use Rattle.std.proofs.Common.{ap, rules, ◌∙◌}
use Rattle.reactor.specs.notify_ring.specs.Words.{poster_view}
use Rattle.reactor.specs.tp_reactor.specs.Words.{known_by, poster_of}
use Rattle.echo_server.proofs.Living.{handler_lives}
use Rattle.echo_server.proofs.Runs.{idle_closed, may_share, none_known, none_recorded, pool_ends}
use Rattle.echo_server.proofs.Runs.{unposted_opened}
use Rattle.echo_server.proofs.pool.run_pool.Goals as goal

pub new-requires : goal.new-requires
new-requires g c κs within = (
  handler_lives κs.0 g.row.E.lives within.0,
  (
    search rules,
    (
      search rules,
      (
        search rules,
        (
          search rules,
          (
            search rules,
            (
              search rules,
              (search rules, may_share _ _ c.args.core c.requires.1.1.1.1.1.1.1.1.1.1),
            ),
          ),
        ),
      ),
    ),
  ),
)

pub returns-in-Ok-clause-idle : goal.returns-in-Ok-clause-idle
returns-in-Ok-clause-idle g c =
    let root = c.run_workers-ran.new.root in
    let worker = c.run_workers-ran.ensures.worker in
    idle_closed _ g.idle c.close.result (known_by root) (poster_view (poster_of root))
    c.close.ensures worker.idle.1 (ap (λ t. t.run) worker.kin.terms ∙ c.in-Ok.ensures.root.run)

pub returns-in-Ok-clause-ends : goal.returns-in-Ok-clause-ends
returns-in-Ok-clause-ends g c =
    let root = c.run_workers-ran.new.root in
    let runs = c.run_workers-ran.ensures.runs in
    let worker = c.run_workers-ran.ensures.worker in
    pool_ends _ g.idle c.args.core c.close.result (known_by c.in-Ok.root) (known_by root)
    (poster_view (poster_of root)) _ c.run_workers-ran.result c.in-Ok.ensures.root
    runs.tells (λ is. ((runs.over is).rests c.in-Ok.ensures.root.root
    c.in-Ok.ensures.root.children).none) c.close.ensures
    worker.idle.1 (ap (λ t. t.run) worker.kin.terms ∙ c.in-Ok.ensures.root.run)

pub returns-in-Ok-clause-unposted : goal.returns-in-Ok-clause-unposted
returns-in-Ok-clause-unposted g c =
    let root = c.run_workers-ran.new.root in
    none_recorded _ c.close.result (known_by root) (poster_view (poster_of root)) c.close.ensures
    (none_known (known_by root).seen (poster_view (poster_of c.in-Ok.root))
    (poster_view (poster_of root)) c.in-Ok.ensures.poster c.run_workers-ran.ensures.runs.posts)

pub returns-in-Err-clause-unposted : goal.returns-in-Err-clause-unposted
returns-in-Err-clause-unposted g c = unposted_opened _ g.idle c.args.core _
    c.in-Err.ensures.refused.0 c.requires.1.1.1.1.1.1.1.1.1.1
