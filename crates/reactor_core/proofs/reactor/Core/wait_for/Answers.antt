use Rattle.std.proofs.Common.{refl, sym, ◌∙◌, arith}
use Rattle.reactor_model.specs.reactor_journal.specs.Past.{past_of}
use Rattle.reactor_summary.specs.Summary.{summary}
use Rattle.reactor_core.proofs.PollWait.{answered, not_answered, may_poll, may_mark, wait_gives}
use Rattle.reactor_core.proofs.PollWait.{failed_keeps, some_none}
use Rattle.reactor_core.proofs.WaitNumbers.{told_wait, after_answer, after_failure}
use Rattle.reactor_core.proofs.reactor.Core.wait_for.Goals as goal

pub returns-clause-gives : goal.returns-clause-gives
returns-clause-gives g c armed t F h o =
    let at = sym c.moment_of.ensures ∙ c.in-Some.is in
    wait_gives _ t c.args.self.now _ F h armed c.args.limit c.wait-answer.result c.in-Some.now _ at
    (record {
      appends = record {
        most = refl;
        first = refl;
        journal = c.append.ensures.entries;
        watch = c.append.ensures.watch;
        volumes = refl;
        marks = (
          c.wait-answer.result,
          c.marked-self.ensures,
          told_wait _ _ _ _ _ (answered _ _ c.args.limit c.wait-answer.result c.in-Some.now at
              c.wait-answer.ensures.waits).answers.calls,
        );
      };
      spare = c.append.ensures.spare;
      repo = refl;
      net = answered _ _ c.args.limit c.wait-answer.result c.in-Some.now at
          c.wait-answer.ensures.waits;
      state = c.poll.ensures.steps;
      places = c.poll.ensures.places;
      keeps = c.wait-answer.ensures.kept;
    }) o

pub returns-in_default-clause-stands : goal.returns-in_default-clause-stands
returns-in_default-clause-stands g c q =
    failed_keeps _ c.args.self.now _ c.args.limit c.wait-answer.result q refl
    c.wait-answer.ensures.waits c.wait-answer.ensures.kept

pub returns-clause-stands : goal.returns-clause-stands
returns-clause-stands g c q = absurd (some_none (sym (sym c.moment_of.ensures ∙ c.in-Some.is) ∙ q))

pub returns-in_default-clause-fails : goal.returns-in_default-clause-fails
returns-in_default-clause-fails g c q =
    (not_answered _ _ c.args.limit c.wait-answer.result q c.wait-answer.ensures.waits, refl)

pub returns-clause-fails : goal.returns-clause-fails
returns-clause-fails g c q = absurd (some_none (sym (sym c.moment_of.ensures ∙ c.in-Some.is) ∙ q))

pub poll-requires : goal.poll-requires
poll-requires g c =
    let o = c.requires.may.1 in (
      summary (past_of o.2),
      o.3.stands.tracks.state,
      may_poll _ o.0 c.args.self.now o.1 o.2 c.requires.may.0 c.args.limit c.wait-answer.result
          c.in-Some.now _ (answered _ _ c.args.limit c.wait-answer.result c.in-Some.now
          (sym c.moment_of.ensures ∙ c.in-Some.is) c.wait-answer.ensures.waits) o.3,
    )

pub append-requires : goal.append-requires
append-requires g c = let room = c.requires.may.1.3.room.journal in omega (arith, room)

pub marked-self-requires : goal.marked-self-requires
marked-self-requires g c =
    let o = c.requires.may.1 in
    may_mark _ o.0 c.args.self.now o.1 o.2 c.requires.may.0 c.args.limit o.3

pub returns-clause-marks : goal.returns-clause-marks
returns-clause-marks g c = c.marked-self.ensures
    ∙ after_answer c.wait-answer.result c.in-Some.now _ (sym c.moment_of.ensures ∙ c.in-Some.is)

pub returns-in_default-clause-marks : goal.returns-in_default-clause-marks
returns-in_default-clause-marks g c =
    after_failure c.wait-answer.result _ (sym c.moment_of.ensures ∙ c.in_default.is)
