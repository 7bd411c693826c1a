use Rattle.std.proofs.Common.{refl, ◌∙◌}
use Rattle.tp_reactor.proofs.Belongs.{still_of, kin_of}
use Rattle.tp_reactor.proofs.Marked.{marks_tell}
use Rattle.tp_reactor.proofs.Turns.{may_put, held_lead, is_led}
use Rattle.tp_reactor.proofs.reactor.Reactor.lead_now.Goals as goal

pub put-requires-clause-may : goal.put-requires-clause-may
put-requires-clause-may g c = may_put _ _ _ _ _ c.get-held.ensures.got _ _
    (held_lead _ _ _ _ _ _ c.get-held.ensures.got _ _ c.value.ensures.value c.lead-led.ensures.gives
    c.requires.limit c.requires.free.1 c.lead-led.ensures.marks)

pub returns-clause-led : goal.returns-clause-led
returns-clause-led g c = is_led _ _ _ _ _ _ c.get-held.ensures.got _ _ _ c.value.ensures.value
    c.lead-led.ensures.gives c.requires.limit c.requires.free.1 c.lead-led.ensures.marks
    c.lead-led.ensures.volumes c.lead-led.ensures.tells c.put.ensures.put

pub returns-clause-tells : goal.returns-clause-tells
returns-clause-tells g c = marks_tell _ _ _ _ c.lead-led.result
    (is_led _ _ _ _ _ _ c.get-held.ensures.got _ _ _ c.value.ensures.value c.lead-led.ensures.gives
    c.requires.limit c.requires.free.1 c.lead-led.ensures.marks c.lead-led.ensures.volumes
    c.lead-led.ensures.tells c.put.ensures.put)

pub returns-clause-of : goal.returns-clause-of
returns-clause-of g c = still_of c.args.worker.now _ _ c.requires.of
    (c.put.ensures.token ∙ c.get-held.ensures.token) refl
    (kin_of _ _ _ _ _ _ _ c.get-held.ensures.got.view c.put.ensures.put.view)
