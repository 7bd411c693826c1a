-- How a run of the command begins.
use Rattle.std.proofs.Common.{◌≡◌, arith, ℕ, Bool, List, [], length, Option, Some, None}
use Rattle.std.proofs.Common.{refl, sym, subst}
use Rattle.ev_base.specs.Host.{LeavesHostOpen}
use Rattle.ev_base.specs.Net.{IsNew}
use Rattle.ev_base.specs.Terms.{Terms}
use Rattle.ev_base.specs.declared.end.PeerEnd.{Ghosts}
use Rattle.server_run.specs.timer_queue.specs.declared.timer.Timer.{Timer}
use Rattle.server_run.specs.reactor_journal.specs.declared.entry.Entry.{Entry}
use Rattle.server_run.specs.reactor_core.specs.Ends.{WhereTold}
use Rattle.server_run.specs.reactor_core.specs.Stands.{Meaning}
use Rattle.server_run.specs.log_handler.specs.declared.note.ServerNote.{ServerNote}
use Rattle.server_run.specs.acceptor.specs.Idle.{IsIdleTime}
use Rattle.server_run.specs.acceptor.specs.declared.server.ServerHandler.{ServerHandler}
use Rattle.server_run.specs.Starting.{CanStart, IsFine}
use Rattle.server_run.specs.declared.asked.Asked.{Asked}
use Rattle.server_run.specs.declared.asked.Ground.{Ground}
use Rattle.cmd_pool.specs.Starting.{asked_by, pool_terms}
use Rattle.cmd_pool.specs.Words.{AreInRange}
use Rattle.cmd_pool.specs.declared.words.PoolOptions.{PoolOptions}

pub open-terms : LeavesHostOpen pool_terms
open-terms = record { offers = refl; stories = refl; groups = refl; steady = refl }

never-idle : IsIdleTime None
never-idle time told = absurd (let q = told in cc)

pub fine : (options : PoolOptions) → AreInRange options → IsFine (asked_by options)
fine options ranges =
    let some_workers = ranges.workers.0 in
    let few_workers = ranges.workers.1 in
    record {
      workers = some_workers;
      few_workers = few_workers;
      connections = omega arith;
      few_connections = omega arith;
      idle = never-idle;
      volume = omega arith;
    }

taken-open : (told : Option (List (Entry ServerNote)))
    → WhereTold (λ entries. (n : ℕ) → None ≡ Some n → length entries ≡ n) told
taken-open None = tt
taken-open (Some entries) = λ n q. absurd (let no = q in cc)

not-steady : (b : Bool) → ◌≡◌ {A = Option Bool} None (Some b) → ⊥
not-steady b told = cc

pub can-start : {M Q W V E : Type 0} {G : Ghosts E} (options : PoolOptions)
    (m : Meaning (ServerHandler E G) M Q W V ServerNote E) (armed : Q → List Timer)
    (listener_keeps : Terms → E → Type 0) (ground : Ground E M Q W V)
    → IsNew (m.facts ground.net) → m.keeps pool_terms ground.net
    → armed ground.timers ≡ [] → m.watched pool_terms ground.watch []
    → listener_keeps pool_terms ground.listener
    → CanStart m armed listener_keeps (asked_by options) ground pool_terms
can-start options m armed listener_keeps ground new keeps none seen listener = record {
  terms = record { limit = refl; idle = refl; by_turn = refl };
  begins = record {
    terms = refl;
    fresh = new;
    steady = λ told. absurd (not-steady _ told);
    keeps = keeps;
    no_timers = none;
    seen = seen;
    taken = taken-open (m.volumes ground.volumes).taken;
  };
  listener = listener;
}

pub fine-as : (asked : Asked) (options : PoolOptions) → asked ≡ asked_by options
    → AreInRange options → IsFine asked
fine-as asked options is ranges = subst IsFine (sym is) (fine options ranges)

pub can-start-as : {M Q W V E : Type 0} {G : Ghosts E} (options : PoolOptions) (asked : Asked)
    → asked ≡ asked_by options → (m : Meaning (ServerHandler E G) M Q W V ServerNote E)
    (armed : Q → List Timer) (listener_keeps : Terms → E → Type 0) (ground : Ground E M Q W V)
    → IsNew (m.facts ground.net) → m.keeps pool_terms ground.net
    → armed ground.timers ≡ [] → m.watched pool_terms ground.watch []
    → listener_keeps pool_terms ground.listener
    → CanStart m armed listener_keeps asked ground pool_terms
can-start-as options asked is m armed listener_keeps ground new keeps none seen listener =
    subst (λ (a : Asked). CanStart m armed listener_keeps a ground pool_terms) (sym is)
    (can-start options m armed listener_keeps ground new keeps none seen listener)
