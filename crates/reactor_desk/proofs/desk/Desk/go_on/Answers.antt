use Rattle.std.proofs.Common.{sym, ap, ◌∙◌, ◌++◌, refl}
use Rattle.reactor_core.specs.declared.marks.WaitMarks.{WaitMarks}
use Rattle.reactor_desk.proofs.Dispatched.{as_found, leads_drained, leads_on, first_dispatched}
use Rattle.reactor_desk.proofs.Dispatched.{tells_of}
use Rattle.reactor_desk.proofs.Marks.{core_rests, core_then, core_keeps, desk_keeps}
use Rattle.reactor_desk.proofs.Notices.{notices_ended}
use Rattle.reactor_desk.proofs.desk.Desk.go_on.Goals as goal

pub drain-requires-clause-stands : goal.drain-requires-clause-stands
drain-requires-clause-stands g c =
    let o = c.requires.stands in
    (o.0, o.1, o.2, o.3, o.4.0)

pub dispatch-requires : goal.dispatch-requires
dispatch-requires g c =
    let o = c.requires.stands in
    let d = c.in-Ok.ensures.drains o.0 o.1 o.2 o.3 o.4.0 in
    record {
      stands = (
        o.0,
        o.1,
        o.2 ++ d.some.notices,
        d.some.stands,
        (d.answer.2, notices_ended o.2 d.some.notices d.some.are ∙ o.4.0, o.4.1),
      );
    }

pub returns-in-Ok-clause-gives : goal.returns-in-Ok-clause-gives
returns-in-Ok-clause-gives g c q F h o running fits =
    let d = c.in-Ok.ensures.drains q F h o running in
    leads_on _ q F h c.args.most_ms c.args.self.now _ _ _ _ _ (as_found _ q F h c.args.self.now o)
    refl d c.drain.ensures.rest.net
    (c.dispatch.ensures.gives q F (h ++ d.some.notices) d.some.stands d.answer.2
    (notices_ended h d.some.notices d.some.are ∙ running) fits) c.dispatch.ensures.drainer

pub returns-in-Ok-clause-tells : goal.returns-in-Ok-clause-tells
returns-in-Ok-clause-tells g c =
    tells_of _ c.dispatch.result c.args.self.now c.drain.new.self c.dispatch.new.self
    c.drain.ensures.rest.rest.wait_faults
    (ap (λ v. (g.V.Volumes.facts v).faults) c.drain.ensures.rest.rest.volumes)
    (ap (λ (k : WaitMarks). k.over) c.drain.ensures.rest.rest.marks) c.dispatch.ensures.tells

pub returns-in-Ok-clause-first : goal.returns-in-Ok-clause-first
returns-in-Ok-clause-first g c =
    let o = c.requires.stands in
    let d = c.in-Ok.ensures.drains o.0 o.1 o.2 o.3 o.4.0 in
    let gives = c.dispatch.ensures.gives o.0 o.1 (o.2 ++ d.some.notices) d.some.stands d.answer.2
    (notices_ended o.2 d.some.notices d.some.are ∙ o.4.0) o.4.1 in
    first_dispatched _ o.0 o.1 (o.2 ++ d.some.notices) c.args.most_ms _ c.dispatch.result _ gives.0
    gives.1
    ∙ sym o.3.core.tracks.journal.first

pub returns-in-Ok-clause-marks : goal.returns-in-Ok-clause-marks
returns-in-Ok-clause-marks g c = desk_keeps _ _ _
    (core_then _ _ _ _ (core_rests _ _ _ c.drain.ensures.rest.rest)
    (core_keeps _ _ _ c.dispatch.ensures.marks))

pub returns-in-Err-clause-gives : goal.returns-in-Err-clause-gives
returns-in-Err-clause-gives g c q F h o running fits =
    leads_drained _ q F h c.args.most_ms c.args.self.now _ _ _ (as_found _ q F h c.args.self.now o)
    refl (c.in-Err.ensures.drains q F h o running) c.drain.ensures.rest.net

pub returns-in-Err-clause-first : goal.returns-in-Err-clause-first
returns-in-Err-clause-first g c =
    let o = c.requires.stands in
    (c.in-Err.ensures.drains o.0 o.1 o.2 o.3 o.4.0).some.stands.core.tracks.journal.first
    ∙ sym o.3.core.tracks.journal.first

pub returns-in-Err-clause-marks : goal.returns-in-Err-clause-marks
returns-in-Err-clause-marks g c = desk_keeps _ _ _ (core_rests _ _ _ c.drain.ensures.rest.rest)

pub returns-in-Err-clause-tells : goal.returns-in-Err-clause-tells
returns-in-Err-clause-tells g c = tt
