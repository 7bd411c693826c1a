use Rattle.std.proofs.Common.{refl, ap, subst, arith, ◌∙◌, Ok, Some}
use Rattle.one_run.specs.Running.{VolumesSince}
use Rattle.one_run.proofs.Growing.{whole-turned}
use Rattle.one_run.proofs.Turning.{too_many}
use Rattle.one_run.proofs.serving.serve.Goals as goal

pub loop-turn-init : goal.loop-turn-init
loop-turn-init g c = record {
  leads = λ t F h stands terms r. (F, h, stands, (r, omega arith));
  volumes = refl;
  whole = c.requires.whole;
}

pub turn-requires-clause-served : goal.turn-requires-clause-served
turn-requires-clause-served g c =
    let o = c.requires.served in
    let i = c.loop-turn.invariant.leads o.0 o.1 o.2 o.3 o.4.0 o.4.1 in
    (o.0, i.0, i.1, i.2, (o.4.0, i.3.0))

pub returns-in-Ok-Some-clause-ok : goal.returns-in-Ok-Some-clause-ok
returns-in-Ok-Some-clause-ok g c t F h stands terms r =
    let i = c.loop-turn.invariant.leads t F h stands terms r in
    c.turn.ensures.closes _ (c.in-Ok-Some.is ∙ ap Ok c.in-Ok-Some.field-0-is) t i.0 i.1 i.2 terms
    i.3.0

pub returns-in-Ok-Some-clause-volumes : goal.returns-in-Ok-Some-clause-volumes
returns-in-Ok-Some-clause-volumes g c = c.in-Ok-Some.ensures.volumes ∙ c.loop-turn.invariant.volumes

pub returns-in-Err-clause-err : goal.returns-in-Err-clause-err
returns-in-Err-clause-err g c t F h stands terms r =
    let i = c.loop-turn.invariant.leads t F h stands terms r in
    let turns = c.in-Err.ensures.err t i.0 i.1 i.2 terms i.3.0 in
    let all = i.2.tracks.watch.all_whole c.loop-turn.invariant.whole in (
      turns.0,
      turns.1,
      turns.2,
      (
        turns.3.0,
        whole-turned _ i.1 turns.1 (omega (arith, all, c.turn.ensures.later)) turns.3.1,
      ),
    )

pub returns-in-Err-clause-volumes : goal.returns-in-Err-clause-volumes
returns-in-Err-clause-volumes g c =
    subst (λ n. VolumesSince (Some c.in-Err.why) n
    (g.V.Volumes.facts c.turn.new.core.volumes).faults) c.loop-turn.invariant.volumes
    c.in-Err.ensures.volumes

pub loop-turn-preserved : goal.loop-turn-preserved
loop-turn-preserved g c = record {
  leads = λ t F h stands terms r.
      let i = c.loop-turn.invariant.leads t F h stands terms r in
      let n = c.turn.ensures.goes (c.in-Ok-None.is ∙ ap Ok c.in-Ok-None.field-0-is) t i.0 i.1 i.2
      terms i.3.0 in
      (n.0, n.1, n.2, (n.3.0, omega (arith, n.3.1, i.3.1)));
  volumes = c.in-Ok-None.ensures.volumes ∙ c.loop-turn.invariant.volumes;
  whole = c.in-Ok-None.ensures.whole;
}

pub unreachable-requires : goal.unreachable-requires
unreachable-requires g c =
    let o = c.requires.served in
    let i = c.loop-turn.invariant.leads o.0 o.1 o.2 o.3 o.4.0 o.4.1 in
    too_many _ o.0 _ i.0 i.1 i.2 i.3.0 (let test = c.loop-turn-test.false in
    omega (arith, test, i.3.1))
