use Rattle.std.proofs.Common.{refl}
use Rattle.script_net.specs.HostLaws.{host_keeps_open}
use Rattle.test_runs.specs.Playing.{terms_of}
use Rattle.test_runs.proofs.Starting.{gives_still, keeps_still, named, open_terms_of, taken_open}
use Rattle.test_runs.proofs.serve.playing.ground.Goals as goal

pub returns-in-Ok-clause-start : goal.returns-in-Ok-clause-start
returns-in-Ok-clause-start g c =
    let t = terms_of c.args.asked in
    let is = named c.in-Ok.net c.fail_waits.new.self c.fail_attaches.new.self _ _
    c.fail_waits.ensures c.fail_attaches.ensures in
    let kept = c.in-Ok.ensures.listens.2 t
    (host_keeps_open t c.new-host.result (open_terms_of c.args.asked)) in
    record {
      terms = record { limit = refl; idle = refl; by_turn = refl };
      begins = record {
        terms = refl;
        fresh = (gives_still c.in-Ok.net c.fail_attaches.new.self c.in-Ok.listener _ _ is
            c.in-Ok.ensures.listens.0).net;
        steady = λ q. absurd cc;
        keeps = keeps_still t c.in-Ok.net c.fail_attaches.new.self _ _ is kept.0;
        no_timers = c.new.ensures.timers;
        seen = c.requires;
        taken = taken_open _;
      };
      listener = kept.1;
    }
