-- That a reactor over sockets begins.
use Rattle.std.proofs.Common.{◌≡◌, List, [], refl, None, Some}
use Rattle.ev_base.specs.Terms.{open_terms}
use Rattle.ev_base.specs.Net.{NetFacts, IsNew}
use Rattle.timer_queue.specs.declared.timer.Timer.{Timer}
use Rattle.reactor_model.specs.Volumes.{tells_nothing}
use Rattle.reactor_core.specs.Beginning.{CanBegin}
use Rattle.demux_mio.specs.Ends.{NoOffers}
use Rattle.log_handler.specs.declared.note.ServerNote.{ServerNote}

pub none_is : {A : Type 0} {a : A} {X : Type 0} → None ≡ Some a → X
none_is q = cc

pub begins : {E : Type 0} (net : NetFacts E) (timers : List Timer) (watch : Type 0) → IsNew net
    → timers ≡ [] → watch
    → CanBegin {N = ServerNote} net (NoOffers (open_terms 2)) timers watch tells_nothing
    (open_terms 2) 2
begins net timers watch new none seen = record {
  terms = refl;
  fresh = new;
  steady = λ q. none_is q;
  keeps = refl;
  no_timers = none;
  seen = seen;
  taken = tt;
}
