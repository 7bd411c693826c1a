use Rattle.std.proofs.Common.{ℕ, ◌≡◌, ap, ◌∙◌, subst, sym, Some}
use Rattle.echo_server.specs.Handlers.{idle_of, listener_of}
use Rattle.echo_server.specs.Runs.{run_terms}
use Rattle.echo_server.proofs.Runs.{begins, opened_at}
use Rattle.echo_server.proofs.opening.open.Goals as goal

pub register-requires : goal.register-requires
register-requires g c =
    let idle : idle_of c.new-in-Ok.result ≡ c.args.idle = c.new-in-Ok.ensures.idle in
    record {
      stands = c.in-Ok.ensures.ok (run_terms (idle_of c.new-in-Ok.result))
          (begins _ _ _ _ c.requires.listener.net
          (subst (λ (n : ℕ). g.M.Net.keeps (run_terms n) c.args.net) (sym idle)
          c.requires.net_keeps) c.new-timers.ensures.timers);
      fits = record {
        listener = ap (λ e. (g.E.PeerEnd.tells e).listener) c.new-in-Ok.ensures.end
            ∙ c.requires.listener.listener;
        waits = λ time named. some_same (sym named);
        kept_end = subst (λ (n : ℕ). g.E.PeerEnd.keeps (run_terms n)
            (listener_of c.new-in-Ok.result)) (sym idle)
            (subst (g.E.PeerEnd.keeps (run_terms c.args.idle)) (sym c.new-in-Ok.ensures.end)
            c.requires.listener_keeps);
      };
    }
  where
    some_same : {A : Type 0} {a b : A} → Some a ≡ Some b → a ≡ b
    some_same is = cc

pub returns-in-Ok-clause-opened : goal.returns-in-Ok-clause-opened
returns-in-Ok-clause-opened g c = opened_at _ c.register.result _ _ c.new-in-Ok.ensures.idle
    c.register.ensures.opened
