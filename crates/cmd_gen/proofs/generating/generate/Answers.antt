use denote.Param.Send.{param_send, param_sync, sendable}
use Rattle.std.proofs.Common.{rules, ap, sym, subst, refl, List, Some, true}
use Rattle.cmd_replay.specs.reactor_journal.specs.declared.entry.Entry.{Entry}
use Rattle.cmd_replay.specs.log_handler.specs.declared.note.ServerNote.{ServerNote}
use Rattle.cmd_replay.specs.reactor_model.proofs.watch.NoWatch.TheSendSync as sends
use Rattle.cmd_replay.specs.Replays.{unseen}
use Rattle.cmd_replay.proofs.RunsScript.{can-play}
use Rattle.cmd_replay.specs.server_run.specs.Starting.{IsFine}
use Rattle.cmd_replay.specs.server_run.specs.declared.asked.Asked.{Asked}
use Rattle.cmd_gen.specs.Summing.{LeavesText, summary_lines}
use Rattle.cmd_gen.proofs.Leaves.{fine, generates, leaves-generated, not-noticed, runs-generated}
use Rattle.cmd_gen.proofs.Known.{writes-full}
use Rattle.cmd_gen.proofs.generating.generate.Goals as goal

pub play-ending-requires : goal.play-ending-requires
play-ending-requires g c κs within =
    let asked = c.asked_for-asked.result in
    let unlimited = ap (λ (a : Asked). a.limit) c.asked_for-asked.ensures in
    let is_fine = subst IsFine (sym c.asked_for-asked.ensures)
    (fine c.args.connections c.requires.some c.requires.within) in
    let can = can-play (λ t watch h. Unit {0}) g.V.Volumes.facts asked c.in-Ok.prepared.0
    c.in-Ok.prepared.1 _
    c.args.volumes unseen c.in-Ok.ensures.timers unlimited tt in (
      search rules,
      (
        search rules,
        (
          search rules,
          (
            search (sends.the_send, sendable) depth 20,
            (
              param_send _ _ c.type_bounds.send-V,
              (
                param_sync _ _ c.type_bounds.sync-R,
                (is_fine, (can, (refl {a = Some true}, unlimited))),
              ),
            ),
          ),
        ),
      ),
    )

pub sum_up-end-requires-clause-unnoticed : goal.sum_up-end-requires-clause-unnoticed
sum_up-end-requires-clause-unnoticed g c =
    let asked = c.asked_for-asked.result in
    let n = c.args.connections in
    let v = g.V.Volumes.facts c.args.volumes in
    let unlimited = ap (λ (a : Asked). a.limit) c.asked_for-asked.ensures in
    let l = leaves-generated g.V.Volumes.facts n c.args.seed asked c.in-Ok.prepared.0 v
    c.play-ending.result c.requires.some c.requires.within c.in-Ok.ensures.script
    c.asked_for-asked.ensures unlimited c.play-ending.ensures.leaves in
    not-noticed g.V.Volumes.facts n c.args.seed v c.play-ending.result l

pub returns : goal.returns
returns g c =
    let asked = c.asked_for-asked.result in
    let n = c.args.connections in
    let seed = c.args.seed in
    let served = c.play-ending.result in
    let v = g.V.Volumes.facts c.args.volumes in
    let ended = c.sum_up-end.result.0 in
    let output = c.sum_up-end.result.1 in
    let sums = c.sum_up-end.ensures in
    let unlimited = ap (λ (a : Asked). a.limit) c.asked_for-asked.ensures in
    let l = leaves-generated g.V.Volumes.facts n seed asked c.in-Ok.prepared.0 v served
    c.requires.some c.requires.within c.in-Ok.ensures.script c.asked_for-asked.ensures unlimited
    c.play-ending.ensures.leaves in
    let runs = runs-generated g.V.Volumes.facts n seed v served l ended output sums.ends
    c.play-ending.ensures.volumes in
    let o = g.K.Sink.facts c.args.output in
    let p = g.K.Sink.facts output in
    let written = subst (λ (entries : List (Entry ServerNote)).
    LeavesText ended o (summary_lines entries) p) c.as_slice.ensures sums.writes in
    record {
      run = generates g.V.Volumes.facts n seed c.args.output c.args.volumes _ ended runs;
      written = written;
      known = λ memory. writes-full g.V.Volumes.facts n seed v _ c.requires.some c.requires.within
          memory ended o p runs written;
    }
