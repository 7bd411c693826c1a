-- How a run of `forward` begins: on terms that lay down what the input tells at its start.
use Rattle.std.specs.Prelude.{◌≤◌, ℕ, List, [], ◌∷◌, Option, Some, None}
use Rattle.ev_base.specs.Bytes.{ReaderBytes}
use Rattle.ev_base.specs.End.{EndFacts}
use Rattle.ev_base.specs.Net.{NetFacts}
use Rattle.ev_base.specs.Source.{SourceFacts}
use Rattle.ev_base.specs.Story.{Story, OfBytes}
use Rattle.ev_base.specs.Terms.{Terms, open_terms}
use Rattle.ev_base.specs.declared.end.PeerEnd.{Ghosts}
use Rattle.ev_base.specs.declared.net.Net.{Ghosts as NetGhosts}
use Rattle.ev_base.specs.ev_types.specs.declared.upcall.Why.TheVariants.{Refused}
use Rattle.connector_run.specs.Opening.{LeavesUnopened, OpenHasCause}
use Rattle.connector_run.specs.Phases.{first_entries}
use Rattle.connector_run.specs.declared.opening.Unopened.{Unopened}
use Rattle.forwarder.specs.connector.specs.Connectors.{ConnectorGone}
use Rattle.forwarder.specs.ForwardEnds.{ForwardKeeps, forward_facts}
use Rattle.forwarder.specs.ForwardNets.{ForwardNetKeeps, forward_net_facts}
use Rattle.forwarder.specs.Forwarded.{HasServed}
use Rattle.forwarder.specs.declared.forward_end.ForwardEnd.{ForwardEnd}
use Rattle.forwarder.specs.declared.forward_net.ForwardNet.{ForwardNet}
use Rattle.reactor_core.specs.Stands.{Meaning, Stands}
use Rattle.reactor_core.specs.declared.reactor.Core.{Core}

-- the stories of the terms: what the input has left, and under number 1, which no end has, what it
-- gave before
abbrev pub stories_of : Option ReaderBytes → Option (List Story)
stories_of None = None
stories_of (Some bytes) = Some (OfBytes bytes.left ∷ OfBytes bytes.given ∷ [])

-- the terms of a run over an input that tells this, which bind the limit of its waits so, or leave
-- it open
abbrev pub terms_bound : Option (Option ℕ) → SourceFacts → Terms
terms_bound bound i = record (open_terms 1) {
  limit = bound;
  stories = stories_of i.bytes;
  input_gave = Some i.gave;
  input_faults = Some i.faults;
}

-- those of the run: its waits have no limit of their own
abbrev pub terms_of : SourceFacts → Terms
terms_of i = terms_bound (Some None) i

-- a reactor stands for the registration of the one handler, whatever binds that limit, with a timer
-- that comes due after so many milliseconds
pub record HasStarted {H M Q W V N E : Type 0} (m : Meaning H M Q W V N E) (i : SourceFacts)
    (wait : ℕ) (core : Core H M Q W V N E) : Type 0 where
  pub some : 1 ≤ wait
  pub stands : (bound : Option (Option ℕ))
      → Stands m (terms_bound bound i) core 0 (first_entries wait)

-- nothing was opened, on these terms
pub record IsLeftUnopened {M S E : Type 0} {N : NetGhosts M E} {G : Ghosts E}
    (facts : M → NetFacts E) (net_keeps : Terms → M → Type 0) (tells : E → EndFacts)
    (keeps : Terms → E → Type 0) (source : S → SourceFacts) (i : SourceFacts)
    (left : Unopened (ForwardEnd E S G) (ForwardNet M S E N G)) : Type 0 where
  pub leaves : LeavesUnopened (forward_net_facts facts) (ForwardNetKeeps facts net_keeps)
      (λ end said. ConnectorGone (forward_facts tells source) (ForwardKeeps tells keeps source)
      (λ t service end had. HasServed tells source service end had) (terms_of i) end [] Refused
      said) (terms_of i) left
  pub before : ℕ
  pub cause : OpenHasCause left.why before (forward_net_facts facts left.net).failed_attaches
