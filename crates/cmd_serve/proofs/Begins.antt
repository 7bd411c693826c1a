-- How a run over a host begins.
use Rattle.std.proofs.Common.{◌≡◌, ◌≤◌, ◌+◌, arith, ℕ, Bool, List, [], length, Option, Some, None}
use Rattle.std.proofs.Common.{refl, sym, ap, ◌∙◌, subst}
use Rattle.std.specs.Prelude.{IfSome}
use Rattle.ev_base.specs.Host.{LeavesHostOpen}
use Rattle.ev_base.specs.Net.{IsNew}
use Rattle.ev_base.specs.Sink.{SinkFacts}
use Rattle.ev_base.specs.Terms.{Terms}
use Rattle.ev_base.specs.declared.end.PeerEnd.{Ghosts}
use Rattle.server_run.specs.timer_queue.specs.declared.timer.Timer.{Timer}
use Rattle.server_run.specs.reactor_journal.specs.declared.entry.Entry.{Entry}
use Rattle.server_run.specs.reactor_model.specs.Volumes.{VolumesFacts}
use Rattle.server_run.specs.reactor_core.specs.Ends.{WhereTold}
use Rattle.server_run.specs.reactor_core.specs.Stands.{Meaning}
use Rattle.server_run.specs.log_handler.specs.declared.note.ServerNote.{ServerNote}
use Rattle.server_run.specs.acceptor.specs.Idle.{IsIdleTime}
use Rattle.server_run.specs.acceptor.specs.declared.server.ServerHandler.{ServerHandler}
use Rattle.cmd_line.specs.Ranges.{AreInRange, IsWithin}
use Rattle.cmd_line.specs.declared.options.Options.{Options}
use Rattle.server_run.specs.Starting.{CanStart, IsFine}
use Rattle.server_run.specs.declared.asked.Asked.{Asked}
use Rattle.server_run.specs.declared.asked.Ground.{Ground}
use Rattle.cmd_serve.specs.Starting.{terms_of}
use Rattle.cmd_serve.proofs.Leaves.{same-count, taken-are}

pub open-terms : (options : Options) (o : SinkFacts) (v : VolumesFacts ServerNote)
    → LeavesHostOpen (terms_of options o v)
open-terms options o v = record { offers = refl; stories = refl; groups = refl; steady = refl }

-- ---- what is asked for

idle-time : (idle : Option ℕ) → IfSome idle (IsWithin 1 4294967295) → IsIdleTime idle
idle-time None within time told = absurd (let q = told in cc)
idle-time (Some milliseconds) within time told =
    let same = same-count milliseconds time told in (
      let low = within.0 in omega (arith, low, same),
      let high = within.1 in
          omega (arith, high, same),
    )

pub fine : (asked : Asked) (options : Options) → asked.workers ≡ options.workers
    → asked.connections ≡ options.most → asked.idle ≡ options.idle → 1 ≤ asked.volume
    → AreInRange options → IsFine asked
fine asked options workers connections idle volume ranges =
    let some_workers = ranges.workers.0 in
    let few_workers = ranges.workers.1 in
    let some_connections = ranges.most.0 in
    let few_connections = ranges.most.1 in
    record {
      workers = omega (arith, some_workers, workers);
      few_workers = omega (arith, few_workers, workers);
      connections = omega (arith, some_connections, connections);
      few_connections = omega (arith, few_connections, connections);
      idle = subst IsIdleTime (sym idle) (idle-time options.idle ranges.idle);
      volume = volume;
    }

-- ---- the terms

module _ (options : Options) (o : SinkFacts) (v : VolumesFacts ServerNote) (t : Terms)
    (is : t ≡ terms_of options o v) where
  pub opening-is : (text : List ℕ) → t.opening ≡ Some text → o.text ≡ Some text
  opening-is text told = sym (ap (λ (t : Terms). t.opening) is) ∙ told

  pub faults-are : (n : ℕ) → t.output_faults ≡ Some n → o.faults ≡ n
  faults-are n told = same-count o.faults n (sym (ap (λ (t : Terms). t.output_faults) is) ∙ told)

  taken-so : WhereTold (λ entries. (n : ℕ) → t.volumes_taken ≡ Some n → length entries ≡ n) v.taken
  taken-so = subst (λ (many : Option ℕ).
      WhereTold (λ (entries : List (Entry ServerNote)). (n : ℕ) → many ≡ Some n
      → length entries ≡ n) v.taken) (sym (ap (λ (t : Terms). t.volumes_taken) is))
      (taken-are v.taken)

  not-steady : (b : Bool) → t.steady ≡ Some b → ⊥
  not-steady b told = let q = sym (ap (λ (t : Terms). t.steady) is) ∙ told in cc

  pub can-start : {M Q W V E : Type 0} {G : Ghosts E}
      (m : Meaning (ServerHandler E G) M Q W V ServerNote E) (armed : Q → List Timer)
      (listener_keeps : Terms → E → Type 0) (asked : Asked) (ground : Ground E M Q W V)
      → asked.limit ≡ Some 1000 → asked.idle ≡ options.idle → asked.connections ≡ options.most
      → m.volumes ground.volumes ≡ v → IsNew (m.facts ground.net) → m.keeps t ground.net
      → armed ground.timers ≡ [] → m.watched t ground.watch []
      → listener_keeps t ground.listener → CanStart m armed listener_keeps asked ground t
  can-start m armed listener_keeps asked ground limit idle connections volumes new keeps none seen
      listener = record {
        terms = record {
          limit = ap (λ (t : Terms). t.limit) is ∙ ap Some (sym limit);
          idle = ap (λ (t : Terms). t.idle) is ∙ ap Some (sym idle);
          by_turn = ap (λ (t : Terms). t.by_turn) is;
        };
        begins = record {
          terms = ap (λ (t : Terms). t.most) is ∙ ap (λ (n : ℕ). n + 1) (sym connections);
          fresh = new;
          steady = λ told. absurd (not-steady _ told);
          keeps = keeps;
          no_timers = none;
          seen = seen;
          taken = subst (λ (v : VolumesFacts ServerNote).
              WhereTold (λ (entries : List (Entry ServerNote)). (n : ℕ) → t.volumes_taken ≡ Some n
              → length entries ≡ n) v.taken) (sym volumes) taken-so;
        };
        listener = listener;
      }
