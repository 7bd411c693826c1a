use denote.Param.Send.{sendable}
use Rattle.std.proofs.Common.{rules}
use Rattle.demux_mio.proofs.end.MioEnd.TheSendSync as ends
use Rattle.demux_mio.proofs.net.MioNet.TheSendSync as nets
use Rattle.demux_mio.proofs.host.MioWake.TheSendSync as wakers
use Rattle.echo.proofs.serve.Goals as goal

pub run_pool-ran-requires : goal.run_pool-ran-requires
run_pool-ran-requires g c κs within = (
  search rules,
  (
    search rules,
    (
      search rules,
      (
        search rules,
        (
          search (ends.the_send, sendable) depth 20,
          (
            search (nets.the_send, sendable) depth 20,
            (
              search rules,
              (
                search (wakers.the_sync, sendable) depth 20,
                (search rules, (search rules, search rules)),
              ),
            ),
          ),
        ),
      ),
    ),
  ),
)
