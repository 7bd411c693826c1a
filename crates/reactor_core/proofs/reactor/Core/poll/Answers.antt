use Rattle.std.proofs.Common.{◌≤◌, Some, sym, ap, subst, ◌∙◌}
use Rattle.reactor_model.specs.reactor_journal.specs.Past.{past_of}
use Rattle.reactor_summary.specs.Summary.{Summary, summary}
use Rattle.reactor_core.specs.Marks.{marks_found}
use Rattle.reactor_core.specs.declared.marks.WaitMarks.{WaitMarks}
use Rattle.reactor_core.proofs.Kept.{stands_kept}
use Rattle.reactor_core.proofs.WaitNumbers.{polled_later, polled_number}
use Rattle.reactor_core.proofs.Polls.{limit_is, may_wait, rose_reserved, polls}
use Rattle.reactor_core.proofs.Frames.{rest_begins, counts_of, counts_go_on}
use Rattle.reactor_core.proofs.reactor.Core.poll.Goals as goal

pub take_events-requires : goal.take_events-requires
take_events-requires g c =
    let o = c.requires.stands in
    let s : Summary = summary (past_of o.2) in
    let shows = o.3.tracks.state in
    let limit = c.least_limit-limit.ensures
    ∙ limit_is s c.args.most_ms c.time_to_deadline.result
    (c.time_to_deadline.ensures s (c.in-Ok.ensures.kept.shows s shows)) in record {
      may = (
        o.0,
        o.1,
        o.2,
        may_wait _ o.0 c.args.self.now _ o.1 o.2 c.armed_count-armed.result c.args.most_ms
            c.least_limit-limit.result c.in-Ok.ensures.kept
            (sym (c.is_ended.ensures s shows) ∙ c.if-is_ended.false)
            (c.armed_count-armed.ensures s shows) limit o.4
            (c.in-Ok.ensures.room o.0 o.1 o.2 o.3) o.3,
      );
    }

pub returns-in-Some-clause-ok : goal.returns-in-Some-clause-ok
returns-in-Some-clause-ok g c t F h o fits =
    let s : Summary = summary (past_of h) in
    let shows = o.tracks.state in
    let limit = c.least_limit-limit.ensures
    ∙ limit_is s c.args.most_ms c.time_to_deadline.result
    (c.time_to_deadline.ensures s (c.in-Ok.ensures.kept.shows s shows)) in
    let may = may_wait _ t c.args.self.now _ F h c.armed_count-armed.result c.args.most_ms
    c.least_limit-limit.result c.in-Ok.ensures.kept
    (sym (c.is_ended.ensures s shows) ∙ c.if-is_ended.false) (c.armed_count-armed.ensures s shows)
    limit fits (c.in-Ok.ensures.room t F h o) o in
    polls _ t F h c.args.most_ms c.least_limit-limit.result c.in-Some.polled c.args.self.now
    c.make_poll_room.new.self _ c.in-Ok.ensures.kept limit (c.in-Some.ensures.waits t F h may)

pub returns-in-None-clause-err : goal.returns-in-None-clause-err
returns-in-None-clause-err g c t F h o =
    c.in-None.ensures.stands t F h (stands_kept _ t c.args.self.now _ F h c.in-Ok.ensures.kept o)

pub returns-in-None-clause-failed : goal.returns-in-None-clause-failed
returns-in-None-clause-failed g c q =
    rose_reserved (g.M.Net.facts c.args.self.now.net) (g.M.Net.facts c.make_poll_room.new.self.net)
    (g.M.Net.facts c.take_events.new.self.net) c.in-Ok.ensures.kept.net
    c.in-None.ensures.fails.0.rose

pub returns-in-None-clause-refused : goal.returns-in-None-clause-refused
returns-in-None-clause-refused g c =
    record {
      between = c.make_poll_room.new.self;
      kept = c.in-Ok.ensures.kept;
      fails = c.in-None.ensures.fails;
    }

pub returns-in-Err-clause-err : goal.returns-in-Err-clause-err
returns-in-Err-clause-err g c t F h o = stands_kept _ t _ _ F h c.in-Err.ensures.kept o

pub returns-in-Some-clause-over : goal.returns-in-Some-clause-over
returns-in-Some-clause-over g c =
    subst (λ (marks : WaitMarks). c.args.self.now.marks.over ≤ marks.over)
    (sym (c.in-Some.ensures.marks ∙ ap (marks_found (Some c.in-Some.polled))
    c.in-Ok.ensures.rest.marks))
    (polled_later c.in-Some.polled c.args.self.now.marks c.requires.stands.3.tracks.marks.within)

pub returns-in-Some-clause-number : goal.returns-in-Some-clause-number
returns-in-Some-clause-number g c t F h o is =
    polled_number c.in-Some.polled c.args.self.now.marks c.take_events.new.self.marks (past_of h) _
    (c.in-Some.ensures.marks ∙ ap (marks_found (Some c.in-Some.polled))
    c.in-Ok.ensures.rest.marks) is o.tracks.marks

pub returns-then-is_ended-clause-counts : goal.returns-then-is_ended-clause-counts
returns-then-is_ended-clause-counts g c = counts_of (rest_begins _ _)

pub returns-in-Err-clause-counts : goal.returns-in-Err-clause-counts
returns-in-Err-clause-counts g c = counts_of c.in-Err.ensures.rest

pub returns-in-Some-clause-counts : goal.returns-in-Some-clause-counts
returns-in-Some-clause-counts g c =
    counts_go_on (counts_of c.in-Ok.ensures.rest) c.in-Some.ensures.counts

pub returns-in-None-clause-counts : goal.returns-in-None-clause-counts
returns-in-None-clause-counts g c =
    counts_go_on (counts_of c.in-Ok.ensures.rest) c.in-None.ensures.counts
