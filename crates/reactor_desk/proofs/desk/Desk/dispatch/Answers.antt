use Rattle.ev_base.specs.Counts.{Rose}
use Rattle.std.proofs.Common.{sym, ap, ◌∙◌, ◌++◌, Err, refl, subst}
use Rattle.std.proofs.lemmas.Bool.{false≢true}
use Rattle.reactor_core.specs.declared.marks.WaitMarks.{WaitMarks}
use Rattle.reactor_desk.proofs.Dispatched.{gives_job, gives_nothing, gives_fault, gives_after}
use Rattle.reactor_desk.proofs.Dispatched.{brought, none_started, tells_behind, unwaited}
use Rattle.reactor_desk.proofs.Marks.{core_rests, core_waits, core_then, desk_keeps}
use Rattle.reactor_desk.proofs.desk.Desk.dispatch.Goals as goal

pub returns-in-Ok-Some-clause-gives : goal.returns-in-Ok-Some-clause-gives
returns-in-Ok-Some-clause-gives g c q F h o looked running fits =
    gives_job _ q F h c.args.most_ms c.args.self.now _ c.start.ensures.rest.volume _ _
    c.in-Ok-Some.field-0-is o looked
    c.start.ensures.net (c.in-Ok-Some.ensures.ok q.run F h o.core)

pub returns-in-Ok-Some-clause-marks : goal.returns-in-Ok-Some-clause-marks
returns-in-Ok-Some-clause-marks g c = desk_keeps _ _ _ (core_rests _ _ _ c.start.ensures.rest)

pub returns-in-Err-clause-gives : goal.returns-in-Err-clause-gives
returns-in-Err-clause-gives g c q F h o looked running fits =
    gives_nothing _ q F h c.args.most_ms _ c.args.self.now _ c.start.ensures.rest.volume o
    c.start.ensures.net
    (c.in-Err.ensures.err q.run F h o.core)

pub returns-in-Err-clause-marks : goal.returns-in-Err-clause-marks
returns-in-Err-clause-marks g c = desk_keeps _ _ _ (core_rests _ _ _ c.start.ensures.rest)

pub poll-requires : goal.poll-requires
poll-requires g c =
    let o = c.requires.stands in
    let s = none_started _ o.0 o.1 o.2 _ _ c.in-Ok-None.field-0-is
    (c.in-Ok-None.ensures.ok o.0.run o.1 o.2 o.3.core) in
    record { stands = (o.0.run, o.1, o.2, s, o.4.2) }

pub start_polled-requires : goal.start_polled-requires
start_polled-requires g c =
    let o = c.requires.stands in
    let b = brought _ o.0 o.1 o.2 c.args.most_ms c.args.self.now _ _
    (c.poll.ensures.counts.volume ∙ c.start.ensures.rest.volume) _ c.in-Ok.polled o.3 o.4.0
    c.in-Ok-None.field-0-is (c.in-Ok-None.ensures.ok o.0.run o.1 o.2 o.3.core)
    c.start.ensures.net (λ s. c.in-Ok.ensures.ok o.0.run o.1 o.2 s o.4.2) in
    record { starts = (o.0, o.1, o.2 ++ b.entries, b.stands) }

pub unreachable-requires : goal.unreachable-requires
unreachable-requires g c =
    let o = c.requires.stands in
    let s = none_started _ o.0 o.1 o.2 _ _ c.in-Ok-None.field-0-is
    (c.in-Ok-None.ensures.ok o.0.run o.1 o.2 o.3.core) in
    false≢true (sym o.4.1 ∙ (c.in-Err-Stopped.ensures.stopped o.0.run o.1 o.2 s).0
    (ap Err c.in-Err-Stopped.field-0-is))

pub returns-in-Ok-clause-gives : goal.returns-in-Ok-clause-gives
returns-in-Ok-clause-gives g c q F h o looked running fits =
    let b = brought _ q F h c.args.most_ms c.args.self.now _ _
    (c.poll.ensures.counts.volume ∙ c.start.ensures.rest.volume) _ c.in-Ok.polled o looked
    c.in-Ok-None.field-0-is (c.in-Ok-None.ensures.ok q.run F h o.core) c.start.ensures.net
    (λ s. c.in-Ok.ensures.ok q.run F h s fits) in
    gives_after _ q F h c.args.most_ms _ c.args.self.now c.start_polled.new.self _ c.in-Ok.polled
    c.start_polled.result b c.start_polled.ensures.rest.net
    (c.start_polled.ensures.gives q F (h ++ b.entries) b.stands)

pub returns-in-Ok-clause-tells : goal.returns-in-Ok-clause-tells
returns-in-Ok-clause-tells g c =
    let o = c.requires.stands in
    let b = brought _ o.0 o.1 o.2 c.args.most_ms c.args.self.now _ _
    (c.poll.ensures.counts.volume ∙ c.start.ensures.rest.volume) _ c.in-Ok.polled o.3 o.4.0
    c.in-Ok-None.field-0-is (c.in-Ok-None.ensures.ok o.0.run o.1 o.2 o.3.core)
    c.start.ensures.net (λ s. c.in-Ok.ensures.ok o.0.run o.1 o.2 s o.4.2) in
    tells_behind _ o.0 o.1 (o.2 ++ b.entries) c.in-Ok.polled c.start_polled.result _ c.args.self.now
    _ (c.start_polled.ensures.gives o.0 o.1 (o.2 ++ b.entries) b.stands)
    (c.start_polled.ensures.rest.rest.marks ∙ c.in-Ok.ensures.marks)
    (ap (λ (k : WaitMarks). k.over) c.start.ensures.rest.marks)

pub returns-in-Ok-clause-marks : goal.returns-in-Ok-clause-marks
returns-in-Ok-clause-marks g c =
    desk_keeps _ _ _
    (core_then _ _ _ _ (core_rests _ _ _ c.start.ensures.rest)
    (core_then _ _ _ _ (core_waits _ _ _ c.poll.ensures.counts c.poll.ensures.over
    c.poll.ensures.volumes) (core_rests _ _ _ c.start_polled.ensures.rest.rest)))

pub returns-in-Err-NetFailed-clause-gives : goal.returns-in-Err-NetFailed-clause-gives
returns-in-Err-NetFailed-clause-gives g c q F h o looked running fits =
    gives_fault _ q F h c.args.most_ms c.args.self.now _ _
    (c.poll.ensures.counts.volume ∙ c.start.ensures.rest.volume) _ c.in-Ok-None.field-0-is o
    (c.in-Ok-None.ensures.ok q.run F h o.core) c.start.ensures.net
    (λ s. c.in-Err-NetFailed.ensures.err q.run F h s) c.in-Err-NetFailed.field-0
    c.in-Err-NetFailed.field-0-is c.in-Err-NetFailed.ensures.refused

pub returns-in-Err-NetFailed-clause-marks : goal.returns-in-Err-NetFailed-clause-marks
returns-in-Err-NetFailed-clause-marks g c =
    desk_keeps _ _ _ (core_then _ _ _ _ (core_rests _ _ _ c.start.ensures.rest)
    (core_waits _ _ _ c.poll.ensures.counts c.poll.ensures.over c.poll.ensures.volumes))

pub returns-in-Err-NoMemory-clause-gives : goal.returns-in-Err-NoMemory-clause-gives
returns-in-Err-NoMemory-clause-gives g c q F h o looked running fits =
    let s = none_started _ q F h _ _ c.in-Ok-None.field-0-is
    (c.in-Ok-None.ensures.ok q.run F h o.core) in
    gives_nothing _ q F h c.args.most_ms _ c.args.self.now _
    (c.poll.ensures.counts.volume ∙ c.start.ensures.rest.volume) o
    (unwaited _ q F h c.start.new.self c.poll.new.self _ c.start.ensures.net
    c.in-Err-NoMemory.field-0 c.in-Err-NoMemory.field-0-is c.in-Err-NoMemory.ensures.refused)
    (c.in-Err-NoMemory.ensures.err q.run F h s)

pub returns-in-Err-NoMemory-clause-marks : goal.returns-in-Err-NoMemory-clause-marks
returns-in-Err-NoMemory-clause-marks g c =
    desk_keeps _ _ _ (core_then _ _ _ _ (core_rests _ _ _ c.start.ensures.rest)
    (core_waits _ _ _ c.poll.ensures.counts c.poll.ensures.over c.poll.ensures.volumes))

pub start-requires : goal.start-requires
start-requires g c = let o = c.requires.stands in record { stands = (o.0.run, o.1, o.2, o.3.core) }

pub returns-in-Ok-Some-clause-tells : goal.returns-in-Ok-Some-clause-tells
returns-in-Ok-Some-clause-tells g c = tt

pub returns-in-Err-clause-tells : goal.returns-in-Err-clause-tells
returns-in-Err-clause-tells g c = tt

pub returns-in-Err-NoMemory-clause-tells : goal.returns-in-Err-NoMemory-clause-tells
returns-in-Err-NoMemory-clause-tells g c = tt

pub returns-in-Err-NetFailed-clause-tells : goal.returns-in-Err-NetFailed-clause-tells
returns-in-Err-NetFailed-clause-tells g c =
    subst (λ n. Rose n (g.M.Net.facts c.poll.new.self.net).failed_waits)
    c.start.ensures.rest.wait_faults (c.in-Err-NetFailed.ensures.failed
    (ap Err c.in-Err-NetFailed.field-0-is))

pub returns-in-Ok-Some-clause-drainer : goal.returns-in-Ok-Some-clause-drainer
returns-in-Ok-Some-clause-drainer g c = refl

pub returns-in-Err-clause-drainer : goal.returns-in-Err-clause-drainer
returns-in-Err-clause-drainer g c = refl

pub returns-in-Err-NetFailed-clause-drainer : goal.returns-in-Err-NetFailed-clause-drainer
returns-in-Err-NetFailed-clause-drainer g c = refl

pub returns-in-Err-NoMemory-clause-drainer : goal.returns-in-Err-NoMemory-clause-drainer
returns-in-Err-NoMemory-clause-drainer g c = refl

pub returns-in-Ok-clause-drainer : goal.returns-in-Ok-clause-drainer
returns-in-Ok-clause-drainer g c = c.start_polled.ensures.drainer
