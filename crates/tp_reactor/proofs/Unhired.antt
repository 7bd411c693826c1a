-- A run for which nobody was hired, for want of memory.
use Rattle.std.proofs.Common.{ℕ, ◌<◌, Option, inl, refl, arith}
use Rattle.ev_base.specs.ev_types.specs.declared.upcall.Handle.{Handle}
use Rattle.leader_token.specs.declared.kept.Kept.{Ghosts as Keeping}
use Rattle.leader_token.proofs.Lists.{begins-self, none_above-self}
use Rattle.reactor_model.specs.reactor_journal.specs.declared.entry.Entry.{Entry}
use Rattle.reactor_core.specs.Stands.{Meaning}
use Rattle.reactor_desk.specs.declared.terms.DeskTerms.{DeskTerms}
use Rattle.reactor_desk.specs.declared.desk.Desk.{Desk}
use Rattle.tp_reactor.specs.Words.{IsIdleWorker, IsOf}
use Rattle.tp_reactor.specs.Workers.{RunsWorkers, SameWorker}
use Rattle.tp_reactor.specs.declared.reactor.Reactor.{Reactor}
use Rattle.tp_reactor.specs.declared.reactor.Worker.{Worker}
use Rattle.tp_reactor.specs.declared.working.Ran.TheVariants as ran

module _ {H M Q W V N E : Type 0} {kept : Keeping (Desk H M Q W V N E) (Entry N) DeskTerms}
    (root : Worker H M Q W V N E kept) where
  pub none_hired : (m : Meaning H M Q W V N E) (n : ℕ) (most : Option ℕ)
      (until : Option (ℕ × Handle)) → 1 < n → RunsWorkers m n most until root ran.NoMemory root
  none_hired m n most until some = record {
    one = λ is. absurd (omega (arith, is, some));
    alone = λ is none. absurd (omega (arith, is, some));
    several = λ more. inl (refl, refl, refl);
    over = λ is. cc;
    tells = tt;
    posts = λ more. absurd (omega (arith, more));
  }

  pub same_worker : {K : Type 0} (reactor : Reactor H M Q W V K N E) → IsOf root reactor
      → IsIdleWorker root → SameWorker reactor root root
  same_worker reactor of idle = record {
    of = of;
    idle = idle;
    kin = record { terms = refl; root = refl; children = refl };
    seen = begins-self _;
    marks = none_above-self _;
    once = omega arith;
  }
