use contract.BorrowLft.{⊑_meet, ⊑_static}
use denote.Exit.{no}
use denote.Param.{param}
use denote.Param.Send.{arg_send, param_send, param_sync}
use Rattle.std.proofs.Common.{rules, ◌∙◌, sym, ap}
use Rattle.ev_base.specs.Sink.{SinkFacts}
use Rattle.write_behind.specs.Facts.{behind_facts}
use Rattle.write_behind.proofs.sink.WriteBehind.TheSendSync as behind
use Rattle.cmd_serve.specs.Starting.{asked_by, terms_of}
use Rattle.cmd_serve.proofs.Behind.{leaves_from, starts_so}
use Rattle.cmd_serve.proofs.serving.serve_behind.Goals as goal

pub serve_net-served-requires : goal.serve_net-served-requires
serve_net-served-requires g c κs within =
    let f = g.S.Start.facts in
    let v = g.V.Volumes.facts c.args.volumes in
    let send = c.requires.1.1.1.1.1.1.1.1.1.1 in
    let sync = send.1.1.1.1.1.1 in
    let given = sync.1.1 in
    let start = given.1.1.1.1.1.1 in
    let same = ap (behind_facts f) c.start-behind.ensures ∙ starts_so f in
    let terms = given.1.0
    ∙ ap (λ (x : SinkFacts). terms_of c.args.options x v) (start.0 ∙ sym same) in
    let send_behind = behind.the_send _ _ (param 6 g.row.S) g.K.Sink g.S.Start send.0 send.1.1.1.0
    in (
      search rules,
      (
        search rules,
        (
          search rules,
          (
            search rules,
            (
              search (
                ⊑_meet,
                ⊑_static,
                within.1.1.1.1.0,
                within.1.1.1.1.1.0,
                within.1.1.1.1.1.1.0,
              ) depth 100 fits 100000,
              (
                search rules,
                (
                  param_send _ _ send.1.0,
                  (
                    param_send _ _ send.1.1.0,
                    (
                      param_send _ _ (arg_send _ no _ send_behind),
                      (
                        param_send _ _ send.1.1.1.1.0,
                        (
                          param_sync _ _ sync.0,
                          (
                            param_sync _ _ sync.1.0,
                            (
                              given.0,
                              (
                                terms,
                                (
                                  given.1.1.0,
                                  (
                                    given.1.1.1.0,
                                    given.1.1.1.1.0,
                                  ),
                                ),
                              ),
                            ),
                          ),
                        ),
                      ),
                    ),
                  ),
                ),
              ),
            ),
          ),
        ),
      ),
    )

pub returns-clause-leaves : goal.returns-clause-leaves
returns-clause-leaves g c =
    let f = g.S.Start.facts in
    let o = g.K.Sink.facts c.args.output in
    let served = c.serve_net-served.result in
    let same = ap (behind_facts f) c.start-behind.ensures ∙ starts_so f in
    let given = c.requires.1.1.1.1.1.1.1.1.1.1.1.1.1.1.1.1.1.1 in
    let several = given.1.1.1.1.1.0 in
    let is = given.1.1.1.1.1.1.0 in
    leaves_from _ _ _ _ _ _ _ _ _ _ _ g.K.Sink.facts f served
    c.finish-output.result.0 c.serve_net-served.ensures.given
    (λ x. terms_of c.args.options x (g.V.Volumes.facts c.args.volumes))
    (asked_by c.args.options (g.V.Volumes.facts c.args.volumes).size)
    (behind_facts f c.start-behind.result.0) o c.finish-output.result.1 c.told_end.result same is
    c.told_end.ensures several c.finish-output.ensures.written c.finish-output.ensures.refused
    c.serve_net-served.ensures.leaves
