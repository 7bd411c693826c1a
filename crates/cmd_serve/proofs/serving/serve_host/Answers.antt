use denote.Param.Send.{sendable}
use Rattle.std.proofs.Common.{rules, refl}
use Rattle.cmd_serve.specs.Starting.{asked_by, terms_of}
use Rattle.cmd_serve.proofs.Begins.{open-terms}
use Rattle.cmd_serve.specs.declared.ending.HostEnd.TheVariants.{ListenFault, NoMemory}
use Rattle.cmd_serve.proofs.Leaves.{leaves-none, untouched-lines}
use Rattle.cmd_serve.proofs.serving.serve_host.Goals as goal

pub serve_given-requires : goal.serve_given-requires
serve_given-requires g c κs within =
    let bounds = c.type_bounds in
    let o = g.K.Sink.facts c.args.output in
    let v = g.V.Volumes.facts c.args.volumes in
    let t = terms_of c.args.options o v in
    let kept = c.in-Ok.ensures.listens.2 t (g.met.H.Host.keeps_open t c.args.host.now
    (open-terms c.args.options o v)) in (
      search rules,
      (
        search rules,
        (
          search rules,
          (
            search rules,
            (
              search rules,
              (
                search rules,
                (
                  search (bounds.static-R, rules),
                  (
                    search (bounds.static-K, rules),
                    (
                      search (bounds.send-R, sendable) depth 20,
                      (
                        search (bounds.send-H-End, sendable) depth 20,
                        (
                          search (bounds.send-H-Net, sendable) depth 20,
                          (
                            search (bounds.send-K, sendable) depth 20,
                            (
                              search (bounds.send-V, sendable) depth 20,
                              (
                                search (bounds.sync-R, sendable) depth 20,
                                (
                                  search (bounds.sync-H-Waker, sendable) depth 20,
                                  (
                                    c.requires,
                                    (
                                      refl {a = t},
                                      (
                                        c.in-Ok.ensures.listens.0,
                                        (kept.0, kept.1),
                                      ),
                                    ),
                                  ),
                                ),
                              ),
                            ),
                          ),
                        ),
                      ),
                    ),
                  ),
                ),
              ),
            ),
          ),
        ),
      ),
    )

pub returns-in-Err-Failed-clause-leaves : goal.returns-in-Err-Failed-clause-leaves
returns-in-Err-Failed-clause-leaves g c =
    leaves-none _ g.K.Sink.facts c.args.options c.args.output c.args.volumes
    (asked_by c.args.options (g.V.Volumes.facts c.args.volumes).size)
    c.unserved.result c.unserved.ensures.untouched ListenFault c.unserved.ensures.end
    c.unserved.ensures.net tt (untouched-lines g.K.Sink.facts c.args.output c.args.volumes
    c.unserved.result c.unserved.ensures.untouched)

pub returns-in-Err-NoMemory-clause-leaves : goal.returns-in-Err-NoMemory-clause-leaves
returns-in-Err-NoMemory-clause-leaves g c =
    let left = c.unserved-in-Err-NoMemory in
    leaves-none _ g.K.Sink.facts c.args.options c.args.output c.args.volumes
    (asked_by c.args.options (g.V.Volumes.facts c.args.volumes).size)
    left.result left.ensures.untouched NoMemory left.ensures.end left.ensures.net tt
    (untouched-lines g.K.Sink.facts c.args.output c.args.volumes left.result
    left.ensures.untouched)
