use Rattle.std.proofs.Common.{[], ◌∷◌, None, Some, refl}
use Rattle.core_loop.proofs.Idling.{same_limit}
use Rattle.cmd_aio.specs.Starting.{aio_terms, first_entry}
use Rattle.cmd_aio.proofs.Runs.{idle_at, leaves_served, may_end, none_timed, notice_stops}
use Rattle.cmd_aio.proofs.Unstopped.{unended, unstopped}
use Rattle.cmd_aio.proofs.running.serve.Goals as goal

pub run-ended-requires : goal.run-ended-requires
run-ended-requires g c =
    let r = c.requires.opened in
    idle_at _ r.0 c.args.core (first_entry ∷ []) (r.1 None) refl

pub by-requires : goal.by-requires
by-requires g c =
    let r = c.requires.opened in
    let led = c.run-ended.ensures.leads (aio_terms r.0) 0 (first_entry ∷ []) (r.1 (Some None))
    (same_limit (aio_terms r.0) None refl) refl in
    let legal = led.stands.tracks.legal in
    may_end _ r.0 c.args.until _ _ 0 led.first led.history led.stands c.run-ended.result
    (unended 1001 led.history legal
    (unstopped _ (aio_terms r.0) notice_stops none_timed led.so.steps led.history led.so.reaches
    legal)) led.so.ends c.run-ended.ensures.ends refl

pub returns : goal.returns
returns g c = λ o opened.
    let led = c.run-ended.ensures.leads (aio_terms o) 0 (first_entry ∷ []) (opened (Some None))
    (same_limit (aio_terms o) None refl) refl in
    let legal = led.stands.tracks.legal in
    let plain = unstopped _ (aio_terms o) notice_stops none_timed led.so.steps led.history
    led.so.reaches legal in
    leaves_served _ _ g.K.Sink.facts o c.args.until _ _ 0 c.run-ended.result c.by.result
    c.finish.result led c.by.ensures
    (c.finish.ensures (aio_terms o) led.first led.history led.stands led.none_open)
    plain (unended 1001 led.history legal plain) c.run-ended.ensures.ends c.requires.new refl
