use Rattle.std.proofs.Common.{sym, ap, ◌∙◌, subst, ◌≡◌, ◌∷◌, arith, Some, None, true, false}
use Rattle.reactor_model.specs.reactor_journal.specs.declared.entry.Entry.TheVariants.{Opened}
use Rattle.reactor_model.specs.reactor_journal.specs.Past.{past_of}
use Rattle.reactor_model.specs.reactor_journal.proofs.Turning.{past_of-more}
use Rattle.reactor_summary.specs.Summary.{summary, is_alive}
use Rattle.reactor_model.specs.Turns.{IsTimer}
use Rattle.reactor_state.specs.State.{HasNumber}
use Rattle.reactor_state.proofs.Fewer.{has_fewer}
use Rattle.reactor_core.specs.Stands.{places_for}
use Rattle.reactor_core.specs.Settling.{act_places}
use Rattle.reactor_core.proofs.Opened.{opened_alive}
use Rattle.reactor_core.proofs.Registered.{opens_by, admitted, admitted_armed, stands_at}
use Rattle.reactor_core.proofs.Registered.{back_with_room}
use Rattle.reactor_core.proofs.Frames.{attaching_of, attaching_goes_on}
use Rattle.reactor_core.proofs.reactor.Core.admit.Goals as goal

pub open_handler-requires-clause-may : goal.open_handler-requires-clause-may
open_handler-requires-clause-may g c =
    let o = c.requires.stands in
    (o.0, o.1, o.2, opens_by _ c.args.handler o.0 c.args.self.now o.1 o.2 o.3)

pub arm-requires-clause-tracks : goal.arm-requires-clause-tracks
arm-requires-clause-tracks g c =
    let o = c.requires.stands in
    let r = o.3.stands.room.numbers in
    let later : HasNumber (summary (Opened c.in-Ok.handle c.args.mask ∷ past_of o.2)) =
    omega (arith, r) in (
      o.0,
      o.1,
      _,
      (c.in-Ok.ensures.ok o.0 o.1 o.2
          (opens_by _ c.args.handler o.0 c.args.self.now o.1 o.2 o.3)).1,
      subst (λ ps. HasNumber (summary ps))
          (sym (past_of-more o.2 (Opened c.in-Ok.handle c.args.mask))) later,
    )

pub arm-requires-clause-places : goal.arm-requires-clause-places
arm-requires-clause-places g c =
    let o = c.requires.stands in
    has_fewer g.Q.TimerQueue.spare c.open_handler.new.self.state _ _
    (record {
      handles = omega arith;
      timers = omega arith;
      timeouts = omega arith;
      events = omega arith;
      opens = omega arith;
    })
    (c.in-Ok.ensures.room.places (places_for _ act_places) o.3.stands.room.state)

pub returns-in-Some-clause-stands : goal.returns-in-Some-clause-stands
returns-in-Some-clause-stands g c t F h o =
    let r = o.stands.room.numbers in
    let later : HasNumber (summary (Opened c.in-Ok.handle c.args.mask ∷ past_of h)) =
    omega (arith, r) in
    let same = past_of-more h (Opened c.in-Ok.handle c.args.mask) in
    let timer : IsTimer (Some (c.in-Some.delay, c.in-Some.every)) =
    subst IsTimer c.in-Some.is c.requires.timer in
    let k = c.in-Ok.ensures.ok t F h (opens_by _ c.args.handler t c.args.self.now F h o) in
    let armed = c.arm.ensures.tracks t F _ k.1 timer.0
    (subst (λ ps. is_alive (summary ps) c.in-Ok.handle.0 ≡ true) (sym same)
    (opened_alive g.row.H-Note.Denot (summary (past_of h)) c.in-Ok.handle c.args.mask))
    (subst (λ ps. (summary ps).ended ≡ false) (sym same) o.place.running)
    (subst (λ ps. HasNumber (summary ps)) (sym same) later) in (
      k.0,
      stands_at _ t _ F h c.in-Ok.handle c.args.mask c.args.timer _ c.in-Some.is
          (admitted_armed _ (has_fewer g.Q.TimerQueue.spare) t c.args.self.now
          c.open_handler.new.self _ F h c.in-Ok.handle c.args.mask c.in-Some.delay
          c.in-Some.every timer.0 c.in-Ok.ensures.room o.place o.stands armed
          c.arm.ensures.journal c.arm.ensures.places c.arm.ensures.repo c.arm.ensures.net),
    )

pub returns-in-None-clause-stands : goal.returns-in-None-clause-stands
returns-in-None-clause-stands g c t F h o =
    let k = c.in-Ok.ensures.ok t F h (opens_by _ c.args.handler t c.args.self.now F h o) in (
      k.0,
      stands_at _ t _ F h c.in-Ok.handle c.args.mask c.args.timer None c.in-None.is
          (admitted _ (has_fewer g.Q.TimerQueue.spare) t c.args.self.now _ c.args.self.now F h
          c.in-Ok.handle c.args.mask c.in-Ok.ensures.room o.place o.stands k.1),
    )

pub returns-in-Err-clause-stands : goal.returns-in-Err-clause-stands
returns-in-Err-clause-stands g c t F h o =
    let back = c.in-Err.ensures.err t F h (opens_by _ c.args.handler t c.args.self.now F h o) in
    (back_with_room _ t _ _ F h c.in-Err.back o.stands back, back.offered)

pub returns-in-Some-clause-leaves : goal.returns-in-Some-clause-leaves
returns-in-Some-clause-leaves g c =
    ap (λ net. (g.M.Net.facts net).failed_attaches) c.arm.ensures.net ∙ c.in-Ok.ensures.leaves

pub returns-in-Some-clause-rest : goal.returns-in-Some-clause-rest
returns-in-Some-clause-rest g c = attaching_goes_on c.in-Ok.ensures.rest
    (attaching_of c.arm.ensures.rest)

pub returns-in-None-clause-rest : goal.returns-in-None-clause-rest
returns-in-None-clause-rest g c = c.in-Ok.ensures.rest

pub returns-in-Err-clause-rest : goal.returns-in-Err-clause-rest
returns-in-Err-clause-rest g c = c.in-Err.ensures.rest
