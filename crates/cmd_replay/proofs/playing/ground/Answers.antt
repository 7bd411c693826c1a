use Rattle.std.proofs.Common.{◌≡◌}
use Rattle.script_net.specs.Hosts.{new_net}
use Rattle.cmd_replay.proofs.Begins.{net-given, is-steady}
use Rattle.cmd_replay.proofs.playing.ground.Goals as goal

pub returns-clause-start : goal.returns-clause-start
returns-clause-start g c =
    let t = g.terms in
    let can = c.requires.1.1 in
    let listens = c.in-Ok.ensures.listens in
    let keeps = listens.2 t (c.new-host.ensures.keeps t can.laid) in
    let new : c.in-Ok.net ≡ new_net c.args.script.groups =
    net-given c.args.script _ _ _ _ _ _ c.new-host.ensures.fails c.new-host.ensures.parts
    c.in-Ok.ensures.gives in
    record {
      terms = can.terms;
      begins = record {
        terms = can.most;
        fresh = listens.0.net;
        steady = λ told. is-steady c.in-Ok.net c.args.script new;
        keeps = keeps.0;
        no_timers = can.no_timers;
        seen = can.seen;
        taken = can.taken;
      };
      listener = keeps.1;
    }

pub returns-clause-net : goal.returns-clause-net
returns-clause-net g c = net-given c.args.script _ _ _ _ _ _ c.new-host.ensures.fails
    c.new-host.ensures.parts c.in-Ok.ensures.gives
