use Rattle.std.proofs.Common.{refl}
use Rattle.dial_memory.proofs.Made.{gives, no_story}
use Rattle.dial_memory.proofs.mem_dialer.MemDialerDialer.dial.Goals as goal

pub returns-in-Some-clause-dials : goal.returns-in-Some-clause-dials
returns-in-Some-clause-dials c =
    let parts = c.in-Some.field-0 in (
      gives parts.net parts.end parts.new_net parts.new_end,
      refl,
      λ t keeps. (keeps, no_story t parts.end),
    )
