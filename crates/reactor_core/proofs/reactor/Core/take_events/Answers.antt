use Rattle.std.proofs.Common.{sym, ◌∙◌}
use Rattle.reactor_model.specs.reactor_journal.specs.Past.{past_of}
use Rattle.reactor_summary.specs.Summary.{Summary, summary}
use Rattle.reactor_core.proofs.Polls.{named_none, is_waited, may_take_reports, counts_reports}
use Rattle.reactor_core.proofs.Polls.{waits_once}
use Rattle.reactor_core.proofs.WaitNumbers.{found_of}
use Rattle.reactor_core.proofs.Frames.{rest_goes_on, counts_of, counts_go_on}
use Rattle.reactor_core.proofs.reactor.Core.take_events.Goals as goal

pub returns-in_default-clause-stands : goal.returns-in_default-clause-stands
returns-in_default-clause-stands g c =
    c.wait_for-answer.ensures.stands (named_none c.wait_for-answer.result
    (sym c.name_of.ensures ∙ c.in_default.is))

pub returns-in_default-clause-fails : goal.returns-in_default-clause-fails
returns-in_default-clause-fails g c =
    c.wait_for-answer.ensures.fails (named_none c.wait_for-answer.result
    (sym c.name_of.ensures ∙ c.in_default.is))

pub wait_for-answer-requires : goal.wait_for-answer-requires
wait_for-answer-requires g c = record { may = (c.args.armed, c.requires.may) }

pub take_dues-requires : goal.take_dues-requires
take_dues-requires g c =
    let o = c.requires.may in
    let w = is_waited _ o.0 o.1 o.2 c.args.armed c.args.limit c.wait_for-answer.result
    c.in-Some.polled _ c.wait_for-answer.new.self (sym c.name_of.ensures ∙ c.in-Some.is)
    c.wait_for-answer.ensures.waits (c.wait_for-answer.ensures.gives c.args.armed o.0 o.1 o.2
    o.3) in
    record { taking = (o.0, o.1, _, summary (past_of o.2), 256, _, w.taking) }

pub take_reports-requires-clause-stands : goal.take_reports-requires-clause-stands
take_reports-requires-clause-stands g c =
    let o = c.requires.may in
    let s : Summary = summary (past_of o.2) in
    let w = is_waited _ o.0 o.1 o.2 c.args.armed c.args.limit c.wait_for-answer.result
    c.in-Some.polled _ c.wait_for-answer.new.self (sym c.name_of.ensures ∙ c.in-Some.is)
    c.wait_for-answer.ensures.waits (c.wait_for-answer.ensures.gives c.args.armed o.0 o.1 o.2
    o.3) in
    let k = c.take_dues.ensures.dues o.0 o.1 _ s 256 _ w.taking in
    let counts = counts_reports g.M.Net.facts _ c.wait_for-answer.new.self.net
    c.take_dues.new.self.net c.args.limit c.wait_for-answer.result w.now c.count_of.result
    c.take_dues.ensures.net c.count_of.ensures w.answers in (
      o.0,
      o.1,
      _,
      s,
      256,
      may_take_reports _ o.0 o.1 s _ c.wait_for-answer.new.self
          c.take_dues.new.self c.take_dues.ensures.net k,
      counts.few,
    )

pub take_reports-requires-clause-all : goal.take_reports-requires-clause-all
take_reports-requires-clause-all g c =
    let o = c.requires.may in
    let w = is_waited _ o.0 o.1 o.2 c.args.armed c.args.limit c.wait_for-answer.result
    c.in-Some.polled _ c.wait_for-answer.new.self (sym c.name_of.ensures ∙ c.in-Some.is)
    c.wait_for-answer.ensures.waits (c.wait_for-answer.ensures.gives c.args.armed o.0 o.1 o.2
    o.3) in
    (counts_reports g.M.Net.facts _ c.wait_for-answer.new.self.net c.take_dues.new.self.net
    c.args.limit c.wait_for-answer.result w.now c.count_of.result c.take_dues.ensures.net
    c.count_of.ensures w.answers).all

pub returns-clause-waits : goal.returns-clause-waits
returns-clause-waits g c t F h o =
    let s : Summary = summary (past_of h) in
    let named = sym c.name_of.ensures ∙ c.in-Some.is in
    let w = is_waited _ t F h c.args.armed c.args.limit c.wait_for-answer.result c.in-Some.polled _
    c.wait_for-answer.new.self named c.wait_for-answer.ensures.waits
    (c.wait_for-answer.ensures.gives c.args.armed t F h o) in
    let k = c.take_dues.ensures.dues t F _ s 256 _ w.taking in
    let counts = counts_reports g.M.Net.facts _ c.wait_for-answer.new.self.net
    c.take_dues.new.self.net c.args.limit c.wait_for-answer.result w.now c.count_of.result
    c.take_dues.ensures.net c.count_of.ensures w.answers in
    let taking = may_take_reports _ t F s _ c.wait_for-answer.new.self c.take_dues.new.self
    c.take_dues.ensures.net k in
    waits_once _ t F h c.args.armed c.args.limit c.wait_for-answer.result c.in-Some.polled
    c.args.self.now c.wait_for-answer.new.self c.take_dues.new.self c.take_reports.new.self
    named c.wait_for-answer.ensures.waits w k c.take_dues.ensures.net c.take_reports.ensures.net
    (c.take_reports.ensures.stands t F _ s 256 taking counts.few)

pub returns-clause-marks : goal.returns-clause-marks
returns-clause-marks g c = c.take_reports.ensures.rest.marks
    ∙ (c.take_dues.ensures.rest.marks ∙ (c.wait_for-answer.ensures.marks
    ∙ found_of c.wait_for-answer.result _ _ (sym c.name_of.ensures ∙ c.in-Some.is)))

pub returns-in_default-clause-marks : goal.returns-in_default-clause-marks
returns-in_default-clause-marks g c =
    c.wait_for-answer.ensures.marks ∙ found_of c.wait_for-answer.result _ _
    (sym c.name_of.ensures ∙ c.in_default.is)

pub returns-clause-counts : goal.returns-clause-counts
returns-clause-counts g c = counts_go_on c.wait_for-answer.ensures.counts
    (counts_of (rest_goes_on c.take_dues.ensures.rest c.take_reports.ensures.rest))

pub returns-in_default-clause-counts : goal.returns-in_default-clause-counts
returns-in_default-clause-counts g c = c.wait_for-answer.ensures.counts
