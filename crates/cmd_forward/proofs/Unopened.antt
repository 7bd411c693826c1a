-- What is left if no connection was taken in.
use Rattle.std.proofs.Common.{ℕ, ◌≡◌, ◌≤◌, inr, arith, subst}
use Rattle.ev_base.specs.Counts.{Rose}
use Rattle.ev_base.specs.End.{EndFacts}
use Rattle.ev_base.specs.Net.{NetFacts}
use Rattle.ev_base.specs.Source.{SourceFacts}
use Rattle.ev_base.specs.Terms.{Terms}
use Rattle.ev_base.specs.declared.end.PeerEnd.{Ghosts}
use Rattle.ev_base.specs.declared.net.Net.{Ghosts as NetGhosts}
use Rattle.ev_base.specs.ev_types.specs.declared.upcall.Why.TheVariants.{Refused}
use Rattle.connector_run.specs.Opening.{OpenHasCause}
use Rattle.connector_run.specs.declared.opening.OpenRefused.{OpenRefused}
use Rattle.connector_run.specs.declared.opening.OpenRefused.TheVariants as refused
use Rattle.connector_run.specs.declared.opening.Unopened.{Unopened}
use Rattle.forwarder.specs.ForwardEnds.{input_end}
use Rattle.forwarder.specs.ForwardNets.{net_within}
use Rattle.forwarder.specs.declared.forward_end.ForwardEnd.{ForwardEnd}
use Rattle.forwarder.specs.declared.forward_net.ForwardNet.{ForwardNet}
use Rattle.forwarder.specs.one_net.specs.OneEnd.{failed_of, input_of}
use Rattle.cmd_forward.specs.Answers.{most_input}
use Rattle.cmd_forward.specs.Runs.{HasNotRun}
use Rattle.cmd_forward.specs.Starting.{IsLeftUnopened, terms_of}
use Rattle.cmd_forward.specs.Statuses.{RunEnds}
use Rattle.cmd_forward.specs.declared.outcome.Outcome.{Outcome}
use Rattle.cmd_forward.specs.declared.outcome.Outcome.TheVariants as outcome
use Rattle.cmd_forward.proofs.Runs.{nothing_taken, took_none_back}

abbrev pub outcome_refused : OpenRefused → Outcome
outcome_refused refused.NotAttached = outcome.NetFault
outcome_refused refused.NoMemory = outcome.NoMemory

risen : (before now : ℕ) → Rose before now → 1 ≤ now
risen before now rose = omega (arith, rose)

module _ {M S E : Type 0} {N : NetGhosts M E} {G : Ghosts E} (facts : M → NetFacts E)
    (net_keeps : Terms → M → Type 0) (tells : E → EndFacts) (keeps : Terms → E → Type 0)
    (source : S → SourceFacts) (i : SourceFacts) (wait : ℕ)
    (left : Unopened (ForwardEnd E S G) (ForwardNet M S E N G))
    (l : IsLeftUnopened facts net_keeps tells keeps source i left) where
  not_run : HasNotRun most_input i (source (input_of (input_end left.end)))
      (facts (net_within left.net))
  not_run = record {
    none_back = took_none_back facts net_keeps (terms_of i) left.net l.leaves.kept
        l.leaves.turned_away l.leaves.retired;
    failed = failed_of (input_end left.end);
    takes = nothing_taken tells keeps source i left.end Refused l.leaves.said l.leaves.unused;
  }

  pub ends_unopened : (why : OpenRefused) → left.why ≡ why
      → RunEnds tells most_input wait i (source (input_of (input_end left.end)))
      (facts (net_within left.net)) (outcome_refused why)
  unfolding not_run
  ends_unopened refused.NotAttached is = inr (
    not_run,
    risen l.before (facts (net_within left.net)).failed_attaches
        (subst (λ (o : OpenRefused). OpenHasCause o l.before
        (facts (net_within left.net)).failed_attaches) is l.cause),
  )
  ends_unopened refused.NoMemory is = inr not_run
