-- That a reactor may be made of what has done nothing.
use Rattle.std.proofs.Common.{ℕ, ◌≡◌, List, [], length, refl, sym, ap, ◌∙◌, subst, Some}
use Rattle.ev_base.specs.Terms.{open_terms}
use Rattle.ev_base.specs.Net.{NetFacts, IsNew}
use Rattle.ev_base.specs.declared.net.Report.{Report}
use Rattle.demux.specs.PlayNet.{PlayContent, play_net_facts, new_play}
use Rattle.demux.specs.declared.play_end.PlayEnd.{PlayEnd}
use Rattle.demux.specs.PlayKeeps.{play_net_keeps}
use Rattle.timer_queue.specs.declared.timer.Timer.{Timer}
use Rattle.reactor_model.specs.Volumes.{VolumesFacts, tells_nothing}
use Rattle.reactor_core.specs.Beginning.{CanBegin}
use Rattle.reactor_core.specs.Ends.{WhereTold}
use Rattle.reactor_core.specs.Stands.{Stands}
use Rattle.core_loop.specs.Idle.{IsIdle}
use Rattle.test_nets.specs.Idle.{RowsOf}
use Rattle.test_nets.specs.RoundRobin.{round_robin_facts}
use Rattle.test_nets.specs.declared.round_robin.RoundRobinNet.{RoundRobinNet}
use Rattle.test_nets.proofs.Idling.{MeaningOf}

new_is_new : (moments : List ℕ) (reports : List (ℕ × Report))
    → IsNew (play_net_facts (new_play moments reports))
new_is_new moments reports = record {
  failed_waits = refl;
  failed_attaches = refl;
  attached = refl;
  now = refl;
  calls = refl;
  masks = refl;
  retired = refl;
  turned_away = refl;
}

pub begins : (net : PlayContent) (timers : List Timer) (volumes : VolumesFacts ℕ) (moments : List ℕ)
    (reports : List (ℕ × Report)) (most : ℕ)
    → net ≡ new_play moments reports → timers ≡ []
    → volumes ≡ record { faults = 0; taken = Some []; next = Some 0; size = 65536 }
    → CanBegin (play_net_facts net) (play_net_keeps (open_terms most) net) timers (Unit {0}) volumes
    (open_terms most) most
begins net timers volumes moments reports most new none facts = record {
  terms = refl;
  fresh = subst (λ n. IsNew (play_net_facts n)) (sym new) (new_is_new moments reports);
  steady = λ q. refl;
  keeps = refl;
  no_timers = none;
  seen = tt;
  taken = subst (λ (v : VolumesFacts ℕ).
      WhereTold (λ entries. (n : ℕ) → (open_terms most).volumes_taken ≡ Some n → length entries ≡ n)
      v.taken) (sym facts) (λ n q. cc);
}

pub round_robin_begins : (net : RoundRobinNet) (timers : List Timer) (volumes : VolumesFacts ℕ)
    (most : ℕ)
    → (round_robin_facts net).attached ≡ [] → (round_robin_facts net).failed_waits ≡ 0
    → (round_robin_facts net).failed_attaches ≡ 0 → timers ≡ [] → volumes ≡ tells_nothing
    → CanBegin (round_robin_facts net) (Unit {0}) timers (Unit {0}) volumes (open_terms most) most
round_robin_begins net timers volumes most attached waits attaches none facts = record {
  terms = refl;
  fresh = record {
    failed_waits = waits;
    failed_attaches = attaches;
    attached = attached;
    now = refl;
    calls = tt;
    masks = tt;
    retired = tt;
    turned_away = tt;
  };
  steady = λ q. cc;
  keeps = tt;
  no_timers = none;
  seen = tt;
  taken = subst (λ (v : VolumesFacts ℕ).
      WhereTold (λ entries. (n : ℕ) → (open_terms most).volumes_taken ≡ Some n → length entries ≡ n)
      v.taken) (sym facts) tt;
}

-- the same if its failing calls were named
pub failing_begins : (made net : RoundRobinNet) (timers : List Timer) (most : ℕ)
    → round_robin_facts net ≡ round_robin_facts made
    → (round_robin_facts made).attached ≡ [] → (round_robin_facts made).failed_waits ≡ 0
    → (round_robin_facts made).failed_attaches ≡ 0 → timers ≡ []
    → CanBegin {N = ℕ} (round_robin_facts net) (Unit {0}) timers (Unit {0}) tells_nothing
    (open_terms most) most
failing_begins made net timers most same attached waits attaches none =
    round_robin_begins net timers tells_nothing most
    (ap (λ (n : NetFacts PlayEnd). n.attached) same ∙ attached)
    (ap (λ (n : NetFacts PlayEnd). n.failed_waits) same ∙ waits)
    (ap (λ (n : NetFacts PlayEnd). n.failed_attaches) same ∙ attaches)
    none refl

pub begun : {M V : Type 0} (m : MeaningOf M V) (most : ℕ) (core : RowsOf M V)
    → Stands m (open_terms most) core 0 [] → IsIdle m core
begun m most core st = record {
  terms = open_terms most;
  limit = refl;
  first = 0;
  history = [];
  stands = st;
  none_open = refl;
}
