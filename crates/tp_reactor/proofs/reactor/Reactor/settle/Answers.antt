use Rattle.std.proofs.Common.{sym, ◌∙◌}
use Rattle.tp_reactor.proofs.Belongs.{still_of, kin_of}
use Rattle.tp_reactor.proofs.Turns.{may_put, stood_of, kept_of}
use Rattle.tp_reactor.proofs.Settling.{fits_now, settles_of, held_settle, has_settled}
use Rattle.tp_reactor.proofs.reactor.Reactor.settle.Goals as goal

pub settle-settled-requires : goal.settle-settled-requires
settle-settled-requires g c =
    let got = c.take-held.ensures.got in
    record {
      stands = (
        _,
        got.first,
        got.list,
        stood_of _ _ _ _ c.value.result.now got c.value.ensures.value,
        fits_now _ _ _ _ got c.args.done c.requires.own c.requires.fits,
      );
    }

pub put-requires-clause-may : goal.put-requires-clause-may
put-requires-clause-may g c =
    let got = c.take-held.ensures.got in
    may_put _ _ _ _ _ got _ _
    (held_settle _ _ _ _ _ got c.args.done c.settle-settled.result
    (settles_of _ _ _ _ _ _ got c.args.done c.settle-settled.result c.value.ensures.value
    c.settle-settled.ensures.settles c.requires.own c.requires.fits) c.requires.own
    c.requires.fits
    (kept_of _ _ _ _ c.value.ensures.value c.settle-settled.ensures.marks))

pub returns-clause-settled : goal.returns-clause-settled
returns-clause-settled g c =
    let got = c.take-held.ensures.got in
    has_settled _ _ _ _ _ got c.args.done c.settle-settled.result _
    (settles_of _ _ _ _ _ _ got c.args.done c.settle-settled.result c.value.ensures.value
    c.settle-settled.ensures.settles c.requires.own c.requires.fits) c.requires.own
    c.requires.fits
    (kept_of _ _ _ _ c.value.ensures.value c.settle-settled.ensures.marks) c.put.ensures.put

pub returns-clause-of : goal.returns-clause-of
returns-clause-of g c = still_of c.args.worker.now _ _ c.requires.of
    (c.put.ensures.token ∙ (c.take-held.ensures.of.token ∙ sym c.requires.of.token))
    c.take-held.ensures.poster (kin_of _ _ _ _ _ _ _ c.take-held.ensures.got.view
    c.put.ensures.put.view)
