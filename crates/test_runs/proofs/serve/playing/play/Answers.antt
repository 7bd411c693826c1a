use denote.Param.Send.{sendable}
use Rattle.std.proofs.Common.{rules}
use Rattle.script_net.proofs.end.ScriptEnd.TheSendSync.{the_send as ends}
use Rattle.script_net.proofs.net.ScriptNet.TheSendSync.{the_send as nets}
use Rattle.script_net.proofs.script_host.ScriptWake.TheSendSync.{the_sync as wakers}
use Rattle.timer_queue.proofs.sorted.SortedTimers.TheSendSync.{the_send as timers}
use Rattle.test_runs.proofs.serve.playing.play.Goals as goal

ruleset crossing = (ends, nets, wakers, timers, sendable)

pub serve-requires : goal.serve-requires
serve-requires g c κs within =
    let bounds = c.type_bounds in (
      search rules,
      (
        search rules,
        (
          search rules,
          (
            search rules,
            (
              search rules,
              (
                search rules,
                (
                  search rules,
                  (
                    search crossing depth 20,
                    (
                      search crossing depth 20,
                      (
                        search crossing depth 20,
                        (
                          search (bounds.send-W, sendable) depth 20,
                          (
                            search (bounds.send-V, sendable) depth 20,
                            (
                              search (bounds.sync-R, sendable) depth 20,
                              (
                                search crossing depth 20,
                                (
                                  search rules,
                                  (c.in_ok-ground.ensures.listener, c.in_ok-ground.ensures.start),
                                ),
                              ),
                            ),
                          ),
                        ),
                      ),
                    ),
                  ),
                ),
              ),
            ),
          ),
        ),
      ),
    )
