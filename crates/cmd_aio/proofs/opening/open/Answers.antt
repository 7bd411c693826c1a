use Rattle.std.proofs.Common.{ap, ◌∙◌, subst, sym, Option, Some, None, ℕ, ◌≡◌}
use Rattle.std.proofs.lemmas.Result.{IfErr-weaker, IfOk-weaker}
use Rattle.ev_base.specs.Net.{IsNew}
use Rattle.aio_lines.specs.Watch.{sink_of}
use Rattle.proactor.specs.Acceptors.{below}
use Rattle.cmd_aio.specs.Starting.{aio_terms, terms_bound}
use Rattle.cmd_aio.proofs.Runs.{begins, leaves_unmade}
use Rattle.cmd_aio.proofs.opening.open.Goals as goal

some_same : {A : Type 0} {a b : A} → Some a ≡ Some b → a ≡ b
some_same is = cc

pub new-requires-clause-begins : goal.new-requires-clause-begins
new-requires-clause-begins g c =
    let o = g.K.Sink.facts c.args.output in (
      terms_bound None o,
      begins None o _ _ _ _ c.requires.listener.net (c.requires.net_keeps None)
          c.new-timers.ensures.timers
          (c.new-lines.ensures.stands (terms_bound None o) (λ text is. is) (λ n is. some_same is)),
    )

pub register-requires : goal.register-requires
register-requires g c =
    let o = g.K.Sink.facts c.args.output in
    let new = c.requires.listener.net in
    let same = c.in-Ok.ensures.parts.0 in
    record {
      waits = ap (λ n. (g.M.Net.facts n).failed_waits) same ∙ new.failed_waits;
      attaches = ap (λ n. (g.M.Net.facts n).failed_attaches) same ∙ new.failed_attaches;
      may = (
        o,
        record {
          stands = λ bound. c.in-Ok.ensures.ok (terms_bound bound o) (begins bound o _ _ _ _ new
              (c.requires.net_keeps bound) c.new-timers.ensures.timers
              (c.new-lines.ensures.stands (terms_bound bound o) (λ text is. is)
              (λ n is. some_same is)));
          fits = λ bound. record {
            listener = ap (λ e. (g.E.PeerEnd.tells e).listener) c.new-in-Ok.ensures.end
                ∙ c.requires.listener.listener;
            numbers = ap below (sym c.new-in-Ok.ensures.none);
            kept_end = subst (g.E.PeerEnd.keeps (terms_bound bound o))
                (sym c.new-in-Ok.ensures.end) (c.requires.listener_keeps bound);
          };
        },
      );
    }

pub returns-in-Err-clause-unopened : goal.returns-in-Err-clause-unopened
returns-in-Err-clause-unopened g c =
    let back = c.in-Err.ensures.err in
    leaves_unmade _ _ g.K.Sink.facts c.args.output c.in-Err.net c.unmade.result
    (subst (λ n. IsNew (g.M.Net.facts n)) (sym back.0) c.requires.listener.net)
    (subst (g.M.Net.keeps (aio_terms (g.K.Sink.facts c.args.output))) (sym back.0)
    (c.requires.net_keeps (Some None))) c.unmade.ensures.end c.unmade.ensures.net
    c.unmade.ensures.journal (c.unmade.ensures.output ∙ (c.into_output.ensures
    ∙ (ap sink_of back.2 ∙ c.new-lines.ensures.output)))

pub returns-in-Ok-clause-volume : goal.returns-in-Ok-clause-volume
returns-in-Ok-clause-volume g c = IfOk-weaker c.register.result _ _ (λ core held.
    held ∙ c.in-Ok.ensures.volume ∙ c.volume_size-volume.ensures.size) c.register.ensures.volume

pub returns-in-Ok-clause-unopened : goal.returns-in-Ok-clause-unopened
returns-in-Ok-clause-unopened g c = IfErr-weaker c.register.result _ _ (λ ran held.
    let o = g.K.Sink.facts c.args.output in
    held o (record {
      stands = λ bound. c.in-Ok.ensures.ok (terms_bound bound o) (begins bound o _ _ _ _
          c.requires.listener.net (c.requires.net_keeps bound) c.new-timers.ensures.timers
          (c.new-lines.ensures.stands (terms_bound bound o) (λ text is. is)
          (λ n is. some_same is)));
      fits = λ bound. record {
        listener = ap (λ e. (g.E.PeerEnd.tells e).listener) c.new-in-Ok.ensures.end
            ∙ c.requires.listener.listener;
        numbers = ap below (sym c.new-in-Ok.ensures.none);
        kept_end = subst (g.E.PeerEnd.keeps (terms_bound bound o)) (sym c.new-in-Ok.ensures.end)
            (c.requires.listener_keeps bound);
      };
    })) c.register.ensures.unopened

pub returns-in-Ok-clause-opened : goal.returns-in-Ok-clause-opened
returns-in-Ok-clause-opened g c = IfOk-weaker c.register.result _ _ (λ core held.
    let o = g.K.Sink.facts c.args.output in
    held o (record {
      stands = λ bound. c.in-Ok.ensures.ok (terms_bound bound o) (begins bound o _ _ _ _
          c.requires.listener.net (c.requires.net_keeps bound) c.new-timers.ensures.timers
          (c.new-lines.ensures.stands (terms_bound bound o) (λ text is. is)
          (λ n is. some_same is)));
      fits = λ bound. record {
        listener = ap (λ e. (g.E.PeerEnd.tells e).listener) c.new-in-Ok.ensures.end
            ∙ c.requires.listener.listener;
        numbers = ap below (sym c.new-in-Ok.ensures.none);
        kept_end = subst (g.E.PeerEnd.keeps (terms_bound bound o)) (sym c.new-in-Ok.ensures.end)
            (c.requires.listener_keeps bound);
      };
    })) c.register.ensures.opened
