use Rattle.std.proofs.Common.{refl, ap, ◌∙◌, ◌≡◌, None, [], inl}
use Rattle.log_handler.specs.LineSink.{sink_of}
use Rattle.one_run.specs.Phases.{read_mask}
use Rattle.one_run.specs.Opening.{terms_of_run}
use Rattle.one_run.proofs.Begins.{starts, may_come, can_begin, registers, gives_back, unread}
use Rattle.one_run.proofs.Begins.{not_own, began_nothing}
use Rattle.one_run.proofs.opening.open.Goals as goal

pub new-made-requires-clause-begins : goal.new-made-requires-clause-begins
new-made-requires-clause-begins g c =
    let i = g.S.Source.facts c.args.input in
    let o = g.K.Sink.facts c.args.output in
    let v = g.V.Volumes.facts c.args.volumes in
    let s = starts i o v in (
      terms_of_run i o v,
      can_begin (terms_of_run i o v) i o v c.new.result c.new-2.result.timers _ s
          c.new.ensures.new c.new.ensures.facts c.new-2.ensures.timers
          (c.new-3.ensures.stands (terms_of_run i o v) s.opening s.output_faults),
    )

pub register-requires-clause-stands : goal.register-requires-clause-stands
register-requires-clause-stands g c =
    let i = g.S.Source.facts c.args.input in
    let o = g.K.Sink.facts c.args.output in
    let v = g.V.Volumes.facts c.args.volumes in
    let t = terms_of_run i o v in
    let s = starts i o v in
    let begins = can_begin t i o v c.new.result c.new-2.result.timers _ s c.new.ensures.new
    c.new.ensures.facts c.new-2.ensures.timers
    (c.new-3.ensures.stands t s.opening s.output_faults) in (
      t,
      0,
      [],
      c.in-Ok.ensures.ok t begins,
      c.new-handler.ensures.fits t None (c.new-end.ensures.kept t refl s.source)
          (may_come t i o v None _ s c.new-end.ensures.serial),
    )

pub abandon-requires : goal.abandon-requires
abandon-requires g c =
    let i = g.S.Source.facts c.args.input in
    let o = g.K.Sink.facts c.args.output in
    let v = g.V.Volumes.facts c.args.volumes in
    let t = terms_of_run i o v in
    let s = starts i o v in
    let begins = can_begin t i o v c.new.result c.new-2.result.timers _ s c.new.ensures.new
    c.new.ensures.facts c.new-2.ensures.timers
    (c.new-3.ensures.stands t s.opening s.output_faults) in
    let stands = c.in-Ok.ensures.ok t begins in
    let offered = c.new-handler.ensures.fits t None (c.new-end.ensures.kept t refl s.source)
    (may_come t i o v None _ s c.new-end.ensures.serial) in
    let back = gives_back _ t read_mask None c.in-Ok.core _ _ c.register.new.self
    (c.in-Err-register.ensures.stands t 0 [] stands offered) in
    (t, 0, [], back.stands, (s.of_one, refl))

pub returns-in-Ok-register-clause-ok : goal.returns-in-Ok-register-clause-ok
returns-in-Ok-register-clause-ok g c t s =
    let i = g.S.Source.facts c.args.input in
    let o = g.K.Sink.facts c.args.output in
    let v = g.V.Volumes.facts c.args.volumes in
    let begins = can_begin t i o v c.new.result c.new-2.result.timers _ s c.new.ensures.new
    c.new.ensures.facts c.new-2.ensures.timers
    (c.new-3.ensures.stands t s.opening s.output_faults) in
    let stands = c.in-Ok.ensures.ok t begins in
    let offered = c.new-handler.ensures.fits t None (c.new-end.ensures.kept t refl s.source)
    (may_come t i o v None _ s c.new-end.ensures.serial) in
    registers _ t None c.in-Ok.core _ c.register.new.self refl
    (c.in-Ok-register.ensures.stands t 0 [] stands offered)

pub returns-in-Err-register-clause-err : goal.returns-in-Err-register-clause-err
returns-in-Err-register-clause-err g c =
    let i = g.S.Source.facts c.args.input in
    let o = g.K.Sink.facts c.args.output in
    let v = g.V.Volumes.facts c.args.volumes in
    let t = terms_of_run i o v in
    let s = starts i o v in
    let begins = can_begin t i o v c.new.result c.new-2.result.timers _ s c.new.ensures.new
    c.new.ensures.facts c.new-2.ensures.timers
    (c.new-3.ensures.stands t s.opening s.output_faults) in
    let stands = c.in-Ok.ensures.ok t begins in
    let offered = c.new-handler.ensures.fits t None (c.new-end.ensures.kept t refl s.source)
    (may_come t i o v None _ s c.new-end.ensures.serial) in
    let back = gives_back _ t read_mask None c.in-Ok.core _ _ c.register.new.self
    (c.in-Err-register.ensures.stands t 0 [] stands offered) in
    let left = c.abandon.ensures.left t 0 back.stands in
    let source = unread g.S.Source.facts t i o v None c.handle_close-end.result.0 _ s refl refl
    (c.handle_close-end.ensures.gone t None [] (λ own. not_own own) back.offered) in (
      record {
        journal = left.journal;
        text = left.text;
        bytes = ap (λ k. (g.S.Source.facts k).bytes) c.abandon.ensures.input ∙ source.0;
        faults = ap (λ k. (g.S.Source.facts k).faults) c.abandon.ensures.input ∙ source.1;
        gave = ap (λ k. (g.S.Source.facts k).gave) c.abandon.ensures.input ∙ source.2;
        output_faults = left.output_faults o.faults refl;
      },
      began_nothing _ _ _ c.in-Ok.ensures.volumes
          (ap g.V.Volumes.facts (c.abandon.ensures.volumes
          ∙ c.in-Err-register.ensures.rest.volumes)),
    )

pub returns-in-Err-clause-err : goal.returns-in-Err-clause-err
returns-in-Err-clause-err g c =
    let same : c.into_output.result ≡ c.args.output =
    c.into_output.ensures ∙ (ap sink_of c.in-Err.ensures.err.2 ∙ c.new-3.ensures.output) in
    let unread : c.into_input.result ≡ c.args.input =
    c.into_input.ensures ∙ c.new-end.ensures.input in (
      record {
        journal = inl c.new-in-Err.ensures;
        text = λ text told. ap (λ k. (g.K.Sink.facts k).text) same ∙ told;
        bytes = ap (λ k. (g.S.Source.facts k).bytes) unread;
        faults = ap (λ k. (g.S.Source.facts k).faults) unread;
        gave = ap (λ k. (g.S.Source.facts k).gave) unread;
        output_faults = ap (λ k. (g.K.Sink.facts k).faults) same;
      },
      record {
        taken = ap (λ v. (g.V.Volumes.facts v).taken) c.in-Err.ensures.err.3;
        faults = ap (λ v. (g.V.Volumes.facts v).faults) c.in-Err.ensures.err.3;
      },
    )

pub returns-in-Ok-register-clause-volumes : goal.returns-in-Ok-register-clause-volumes
returns-in-Ok-register-clause-volumes g c =
    began_nothing _ _ _ c.in-Ok.ensures.volumes
    (ap g.V.Volumes.facts c.in-Ok-register.ensures.rest.volumes)
