use Rattle.std.proofs.Common.{◌+◌, ◌-◌, arith}
use Rattle.timer_queue.specs.declared.timer.Timer.{Timer}
use Rattle.timer_queue.proofs.Rows.{pulled}
use Rattle.timer_queue.proofs.row.pull_back.Goals as goal

pub returns : goal.returns
returns c =
    let none : Timer = record { deadline = 0; timer = 0; handle = record { 0 = 0 }; every = 0 } in
    pulled c.args.timers.now c.rotate_right.new.self c.args.head c.args.place
    (c.args.head + c.args.place + 1 - c.args.head) none (omega arith) c.requires
    c.rotate_right.ensures.after
