use Rattle.std.proofs.Common.{[], ap, refl, ◌∙◌, None}
use Rattle.acceptor.specs.Servers.{read_alone}
use Rattle.server_run.specs.Finishing.{named}
use Rattle.server_run.proofs.Registering.{idle_told, refused_causes, refused_for, refused_leaves}
use Rattle.server_run.proofs.Registering.{registered_first}
use Rattle.server_run.proofs.opening.register.Goals as goal

pub register-requires-clause-stands : goal.register-requires-clause-stands
register-requires-clause-stands g c =
    let o = c.requires.may in
    let fits = c.new.ensures.fits o.0 None o.1.listener_keeps_terms (λ offers told. refl)
    (idle_told o.0.idle _ o.1.idle) c.requires.numbered in
    (o.0, 0, [], o.1.stands, fits)

pub refusal-requires : goal.refusal-requires
refusal-requires g c =
    let o = c.requires.may in
    let fits = c.new.ensures.fits o.0 None o.1.listener_keeps_terms (λ offers told. refl)
    (idle_told o.0.idle _ o.1.idle) c.requires.numbered in
    (refused_for _ o.0 read_alone c.args.core _ c.in-Err.refused c.register.new.self o.1.place
    (c.in-Err.ensures.stands o.0 0 [] o.1.stands fits)).0

pub finish-requires : goal.finish-requires
finish-requires g c =
    let o = c.requires.may in
    let fits = c.new.ensures.fits o.0 None o.1.listener_keeps_terms (λ offers told. refl)
    (idle_told o.0.idle _ o.1.idle) c.requires.numbered in (
      o.0,
      0,
      [],
      (refused_for _ o.0 read_alone c.args.core _ c.in-Err.refused c.register.new.self
          o.1.place (c.in-Err.ensures.stands o.0 0 [] o.1.stands fits)).1,
      refl,
    )

pub returns-in-Ok-clause-opens : goal.returns-in-Ok-clause-opens
returns-in-Ok-clause-opens g c t o =
    let fits = c.new.ensures.fits t None o.listener_keeps_terms (λ offers told. refl)
    (idle_told t.idle _ o.idle) c.requires.numbered in
    registered_first _ t read_alone c.args.core _ c.register.new.self refl
    (c.in-Ok.ensures.stands t 0 [] o.stands fits)

pub returns-in-Err-clause-opens : goal.returns-in-Err-clause-opens
returns-in-Err-clause-opens g c t o =
    let fits = c.new.ensures.fits t None o.listener_keeps_terms (λ offers told. refl)
    (idle_told t.idle _ o.idle) c.requires.numbered in
    let back = refused_for _ t read_alone c.args.core _ c.in-Err.refused c.register.new.self o.place
    (c.in-Err.ensures.stands t 0 [] o.stands fits) in
    refused_leaves _ g.Q.TimerQueue.timers t c.args.asked c.in-Err.refused c.register.new.self
    c.finish.result (c.finish.ensures.named
    ∙ ap (λ how. named how (g.W.Watch.is_broken c.finish.result.parts.watch)) c.refusal.ensures)
    (c.finish.ensures.stands t 0 [] back.1 refl)

pub returns-in-Err-clause-counts : goal.returns-in-Err-clause-counts
returns-in-Err-clause-counts g c =
    let o = c.requires.may in
    let fits = c.new.ensures.fits o.0 None o.1.listener_keeps_terms (λ offers told. refl)
    (idle_told o.0.idle _ o.1.idle) c.requires.numbered in
    refused_causes _ o.0 read_alone c.args.core _ c.in-Err.refused c.register.new.self
    c.finish.result (c.in-Err.ensures.stands o.0 0 [] o.1.stands fits)
    (c.finish.ensures.named ∙ ap (λ how.
    named how (g.W.Watch.is_broken c.finish.result.parts.watch)) c.refusal.ensures)
    c.finish.ensures.counts
