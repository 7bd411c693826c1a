use denote.Param.Send.{param_send, param_sync, sendable}
use Rattle.std.proofs.Common.{rules, subst}
use Rattle.script_net.specs.Hosts.{new_net}
use Rattle.script_net.specs.NetContent.{NetContent, script_net_facts}
use Rattle.server_run.specs.Served.{FaultRose}
use Rattle.server_run.specs.declared.ending.Ending.{Ending}
use Rattle.script_net.proofs.end.ScriptEnd.TheSendSync as ends
use Rattle.script_net.proofs.net.ScriptNet.TheSendSync as nets
use Rattle.script_net.proofs.script_host.ScriptWake.TheSendSync as wakers
use Rattle.chosen_timers.proofs.ChosenTimers.TheSendSync as timers
use Rattle.cmd_replay.proofs.Leaves.{leaves-script, no-net-fault}
use Rattle.cmd_replay.proofs.playing.play.Goals as goal

pub serve-requires : goal.serve-requires
serve-requires g c κs within = (
  search rules,
  (
    search rules,
    (
      search rules,
      (
        search rules,
        (
          search rules,
          (
            search rules,
            (
              search rules,
              (
                search (ends.the_send, sendable) depth 20,
                (
                  search (nets.the_send, sendable) depth 20,
                  (
                    search (timers.the_send, sendable) depth 20,
                    (
                      param_send _ _ c.requires.1.1.1.0,
                      (
                        param_send _ _ c.requires.1.1.1.1.0,
                        (
                          param_sync _ _ c.requires.1.1.1.1.1.0,
                          (
                            search (wakers.the_sync, sendable) depth 20,
                            (
                              c.requires.1.1.1.1.1.1.0,
                              (
                                c.ground-ground.ensures.listener,
                                c.ground-ground.ensures.start,
                              ),
                            ),
                          ),
                        ),
                      ),
                    ),
                  ),
                ),
              ),
            ),
          ),
        ),
      ),
    ),
  ),
)

pub returns-clause-leaves : goal.returns-clause-leaves
returns-clause-leaves g c = λ groups script.
    let leaves = c.serve.ensures.run in
    let causes = c.serve.ensures.causes in
    leaves-script _ _ _ _ _ _ _ _ _ g.terms c.args.asked groups c.serve.result script
    c.requires.1.1.1.1.1.1.1.1.1 leaves
    (λ how is fault. no-net-fault c.serve.result.parts.net _ _ c.args.script.groups how
    (leaves.stand.net.steady c.requires.1.1.1.1.1.1.1.1.0)
    (subst (λ (e : Ending). FaultRose e (script_net_facts (new_net c.args.script.groups))
    (script_net_facts c.serve.result.parts.net)
    (g.V.Volumes.facts c.ground-ground.result.0.volumes)
    (g.V.Volumes.facts c.serve.result.parts.volumes)) is
    (subst (λ (n : NetContent). FaultRose c.serve.result.ending (script_net_facts n)
    (script_net_facts c.serve.result.parts.net)
    (g.V.Volumes.facts c.ground-ground.result.0.volumes)
    (g.V.Volumes.facts c.serve.result.parts.volumes)) c.ground-ground.ensures.net causes.rose))
    fault)

pub returns-clause-net : goal.returns-clause-net
returns-clause-net g c =
    let leaves = c.serve.ensures.run in
    let causes = c.serve.ensures.causes in
    λ fault. no-net-fault c.serve.result.parts.net _ _ c.args.script.groups c.serve.result.ending
    (leaves.stand.net.steady c.requires.1.1.1.1.1.1.1.1.0)
    (subst (λ (n : NetContent). FaultRose c.serve.result.ending (script_net_facts n)
    (script_net_facts c.serve.result.parts.net)
    (g.V.Volumes.facts c.ground-ground.result.0.volumes)
    (g.V.Volumes.facts c.serve.result.parts.volumes)) c.ground-ground.ensures.net causes.rose)
    fault
