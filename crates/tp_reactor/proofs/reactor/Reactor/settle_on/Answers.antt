use Rattle.std.proofs.Common.{ap, sym, ◌∙◌}
use Rattle.reactor_core.specs.Views.{volumes_of}
use Rattle.reactor_desk.specs.Desks.{core_of, first_of}
use Rattle.reactor_desk.specs.declared.desk.Desk.{Desk}
use Rattle.tp_reactor.proofs.Belongs.{still_of, kin_of}
use Rattle.tp_reactor.proofs.Onward.{may_on, settles_on, stands_on, led_on, stays_on, tells_on}
use Rattle.tp_reactor.proofs.Settling.{fits_now, settles_of, held_settle, has_settled}
use Rattle.tp_reactor.proofs.Turns.{may_put, stood_of, kept_of}
use Rattle.tp_reactor.proofs.reactor.Reactor.settle_on.Goals as goal

pub settle-settled-requires : goal.settle-settled-requires
settle-settled-requires g c =
    let got = c.take-held.ensures.got in
    record {
      stands = (
        _,
        got.first,
        got.list,
        stood_of _ _ _ _ c.value.result.now got c.value.ensures.value,
        fits_now _ _ _ _ got c.args.done c.requires.own c.requires.fits,
      );
    }

-- ---- without a lead

pub put-requires-clause-may : goal.put-requires-clause-may
put-requires-clause-may g c =
    let got = c.take-held.ensures.got in
    let settles = settles_of _ _ _ _ _ _ got c.args.done c.settle-settled.result
    c.value.ensures.value c.settle-settled.ensures.settles c.requires.own c.requires.fits in
    let kept = kept_of _ _ _ _ c.value.ensures.value c.settle-settled.ensures.marks in
    may_put _ _ _ _ _ got _ _ (held_settle _ _ _ _ _ got c.args.done c.settle-settled.result settles
    c.requires.own c.requires.fits kept)

pub returns-then-is_reached-clause-settled : goal.returns-then-is_reached-clause-settled
returns-then-is_reached-clause-settled g c =
    let got = c.take-held.ensures.got in
    let settles = settles_of _ _ _ _ _ _ got c.args.done c.settle-settled.result
    c.value.ensures.value c.settle-settled.ensures.settles c.requires.own c.requires.fits in
    let kept = kept_of _ _ _ _ c.value.ensures.value c.settle-settled.ensures.marks in
    has_settled _ _ _ _ _ got c.args.done c.settle-settled.result _ settles c.requires.own
    c.requires.fits kept c.put.ensures.put

pub returns-then-is_reached-clause-of : goal.returns-then-is_reached-clause-of
returns-then-is_reached-clause-of g c =
    still_of c.args.worker.now _ _ c.requires.of
    (c.put.ensures.token ∙ (c.take-held.ensures.of.token ∙ sym c.requires.of.token))
    c.take-held.ensures.poster (kin_of _ _ _ _ _ _ _ c.take-held.ensures.got.view
    c.put.ensures.put.view)

-- ---- with one

pub lead_on-led-requires-clause-stands : goal.lead_on-led-requires-clause-stands
lead_on-led-requires-clause-stands g c =
    let got = c.take-held.ensures.got in
    let settles = settles_of _ _ _ _ _ _ got c.args.done c.settle-settled.result
    c.value.ensures.value c.settle-settled.ensures.settles c.requires.own c.requires.fits in
    let kept = kept_of _ _ _ _ c.value.ensures.value c.settle-settled.ensures.marks in (
      _,
      got.first,
      _,
      stands_on _ _ _ _ _ got c.args.done c.settle-settled.result settles
          c.requires.own c.requires.fits kept _ c.value-2.ensures.value,
      c.requires.limit,
    )

pub lead_on-led-requires-clause-ring : goal.lead_on-led-requires-clause-ring
lead_on-led-requires-clause-ring g c =
    let got = c.take-held.ensures.got in
    let settles = settles_of _ _ _ _ _ _ got c.args.done c.settle-settled.result
    c.value.ensures.value c.settle-settled.ensures.settles c.requires.own c.requires.fits in
    let kept = kept_of _ _ _ _ c.value.ensures.value c.settle-settled.ensures.marks in
    (stands_on _ _ _ _ _ got c.args.done c.settle-settled.result settles c.requires.own
    c.requires.fits kept _ c.value-2.ensures.value).ring ∙ c.requires.of.terms

pub put-requires-2-clause-may : goal.put-requires-2-clause-may
put-requires-2-clause-may g c =
    let got = c.take-held.ensures.got in
    let settles = settles_of _ _ _ _ _ _ got c.args.done c.settle-settled.result
    c.value.ensures.value c.settle-settled.ensures.settles c.requires.own c.requires.fits in
    let kept = kept_of _ _ _ _ c.value.ensures.value c.settle-settled.ensures.marks in
    may_on _ _ _ _ _ got c.args.done c.settle-settled.result settles c.requires.own c.requires.fits
    kept c.args.most_ms c.lead_on-led.result _
    (led_on _ _ _ _ _ got c.args.done c.settle-settled.result settles c.requires.own c.requires.fits
    kept c.args.most_ms c.lead_on-led.result _ _ c.value-2.ensures.value
    c.lead_on-led.ensures.gives c.requires.limit)
    (stays_on _ _ _ _ _ got c.args.done c.settle-settled.result settles c.requires.own
    c.requires.fits kept c.lead_on-led.result _ _ c.value-2.ensures.value
    c.lead_on-led.ensures.none)
    (c.lead_on-led.ensures.first ∙ ap first_of c.value-2.ensures.value)
    (kept_of _ _ _ _ c.value-2.ensures.value c.lead_on-led.ensures.marks)

pub returns-clause-settled : goal.returns-clause-settled
returns-clause-settled g c =
    let got = c.take-held.ensures.got in
    let settles = settles_of _ _ _ _ _ _ got c.args.done c.settle-settled.result
    c.value.ensures.value c.settle-settled.ensures.settles c.requires.own c.requires.fits in
    let kept = kept_of _ _ _ _ c.value.ensures.value c.settle-settled.ensures.marks in
    settles_on _ _ _ _ _ got c.args.done c.settle-settled.result settles c.requires.own
    c.requires.fits kept c.args.most_ms c.lead_on-led.result _
    (led_on _ _ _ _ _ got c.args.done c.settle-settled.result settles c.requires.own c.requires.fits
    kept c.args.most_ms c.lead_on-led.result _ _ c.value-2.ensures.value
    c.lead_on-led.ensures.gives c.requires.limit)
    (stays_on _ _ _ _ _ got c.args.done c.settle-settled.result settles c.requires.own
    c.requires.fits kept c.lead_on-led.result _ _ c.value-2.ensures.value
    c.lead_on-led.ensures.none)
    (c.lead_on-led.ensures.first ∙ ap first_of c.value-2.ensures.value)
    (kept_of _ _ _ _ c.value-2.ensures.value c.lead_on-led.ensures.marks) _
    (c.lead_on-led.ensures.volumes
    ∙ ap (λ (d : Desk _ _ _ _ _ _ _). volumes_of (core_of d)) c.value-2.ensures.value)
    (tells_on _ _ _ _ _ got c.args.done c.settle-settled.result settles c.requires.own
    c.requires.fits kept c.lead_on-led.result _ _ c.value-2.ensures.value
    c.lead_on-led.ensures.tells) c.put-2.ensures.put

pub returns-clause-of : goal.returns-clause-of
returns-clause-of g c = still_of c.args.worker.now _ _ c.requires.of
    (c.put-2.ensures.token ∙ (c.take-held.ensures.of.token ∙ sym c.requires.of.token))
    c.take-held.ensures.poster (kin_of _ _ _ _ _ _ _ c.take-held.ensures.got.view
    c.put-2.ensures.put.view)
