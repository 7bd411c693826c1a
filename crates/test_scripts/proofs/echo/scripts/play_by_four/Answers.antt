use denote.Param.Send.{sendable}
use Rattle.std.proofs.Common.{rules}
use Rattle.script_net.proofs.end.ScriptEnd.TheSendSync as ends
use Rattle.script_net.proofs.net.ScriptNet.TheSendSync as nets
use Rattle.script_net.proofs.script_host.ScriptWake.TheSendSync as wakers
use Rattle.test_scripts.proofs.echo.scripts.play_by_four.Goals as goal

pub run_pool-ran-requires : goal.run_pool-ran-requires
run_pool-ran-requires g c κs within = (
  search rules,
  (
    search rules,
    (
      search rules,
      (
        search rules,
        (
          search (ends.the_send, sendable) depth 20,
          (
            search (nets.the_send, sendable) depth 20,
            (
              search rules,
              (
                search (wakers.the_sync, sendable) depth 20,
                (search rules, (search rules, search rules)),
              ),
            ),
          ),
        ),
      ),
    ),
  ),
)
