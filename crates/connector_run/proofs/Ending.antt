-- How a run of one connector ends.
use Rattle.std.proofs.Common.{ℕ, ◌≡◌, ◌≤◌, true, false, List, ◌++◌, refl, sym, ap, ◌∙◌}
use Rattle.std.proofs.Common.{subst, arith, Some, nat_le}
use Rattle.ev_base.specs.Terms.{Terms}
use Rattle.ev_base.specs.ev_types.specs.declared.upcall.Upcall.{Upcall}
use Rattle.reactor_model.specs.reactor_journal.specs.declared.entry.Entry.{Entry}
use Rattle.reactor_model.specs.reactor_journal.specs.Follow.{Legal}
use Rattle.reactor_core.specs.Stands.{Meaning}
use Rattle.reactor_core.specs.declared.reactor.Core.{Core}
use Rattle.std.proofs.lemmas.Bool.{false≢true, leb-false, leb-true}
use Rattle.core_loop.specs.Leading.{NoneDue, Reaches, GoesOn, RunsSo, StaysBelow, closed_of}
use Rattle.core_loop.specs.Leading.{is_enough}
use Rattle.core_loop.specs.declared.turns.RunEnd.TheVariants as end
use Rattle.core_loop.proofs.Leading.{goes_so}
use Rattle.connector_run.specs.Phases.{IsAlive, ClosedItself, first_entries}
use Rattle.connector_run.specs.Running.{EndsSo}
use Rattle.connector_run.specs.declared.running.Ended.TheVariants as ended
use Rattle.connector_run.proofs.Serving.{alive_first, alive_steps, closes_turning, mine, turned}

below_one : (n : ℕ) → nat_le 1 n ≡ false → n ≤ 0
below_one n is = omega (arith, leb-false 1 n is)

at_least_one : (n : ℕ) → nat_le 1 n ≡ true → 1 ≤ n
at_least_one n is = leb-true 1 n is

-- fewer than one were closed since the registration
few : {N : Type 0} (wait : ℕ) (h : List (Entry N)) → StaysBelow (Some 1) (first_entries wait) h
    → closed_of h ≤ 0
few wait h below = below_one (closed_of h) (below refl)

module _ {H M Q' W V N E : Type 0} (m : Meaning H M Q' W V N E) (t : Terms)
    (none : (up : Upcall) (deed : _) → m.means.may t up deed → ⊥) (wait over : ℕ)
    (core : Core H M Q' W V N E) (none_due : NoneDue {N = N} (first_entries wait)) where
  pub ends_closed : GoesOn m t (first_entries wait)
      (RunsSo m.means (Some 1) (Some end.Enough) over t (first_entries wait)) core
      → GoesOn m t (first_entries wait) (EndsSo m t wait ended.Closed over) core
  ends_closed g =
      let e = g.so.ends in
      let none_closed = few wait e.between (e.below) in
      let alive = alive_steps m.means t none wait (first_entries wait) e.earlier e.between
      (alive_first wait) none_due e.reaches none_closed in
      let u = turned m.means t e.between e.entries none e.turn in
      let legal : Legal (e.between ++ e.entries) t.most =
      subst (λ (k : List (Entry N)). Legal k t.most) e.is g.stands.tracks.legal in
      let many : 1 ≤ closed_of (e.between ++ e.entries) =
      at_least_one (closed_of (e.between ++ e.entries))
      (ap (λ k. is_enough (Some 1) (closed_of k)) (sym e.is) ∙ e.enough) in
      goes_so m t (first_entries wait) _ (EndsSo m t wait ended.Closed over) core g
      (subst (ClosedItself wait g.first) (sym e.is)
      (closes_turning wait e.between e.entries alive u g.first
      (mine wait e.between e.entries alive u t.most legal) none_closed many e.held))

  alive_at : (steps : List (List (Entry N))) (h : List (Entry N))
      → Reaches m.means t (first_entries wait) steps h
      → StaysBelow (Some 1) (first_entries wait) h → IsAlive wait h
  alive_at steps h reaches below = alive_steps m.means t none wait (first_entries wait) steps h
      (alive_first wait) none_due reaches (few wait h below)

  pub ends_over : GoesOn m t (first_entries wait)
      (RunsSo m.means (Some 1) (Some end.Over) over t (first_entries wait)) core
      → GoesOn m t (first_entries wait) (EndsSo m t wait ended.Over over) core
  ends_over g = goes_so m t (first_entries wait) _ (EndsSo m t wait ended.Over over) core g
      (alive_at g.so.steps g.history g.so.reaches g.so.ends.below, g.so.ends)

  pub ends_failed : GoesOn m t (first_entries wait)
      (RunsSo m.means (Some 1) (Some end.NetFault) over t (first_entries wait)) core
      → GoesOn m t (first_entries wait) (EndsSo m t wait ended.NetFault over) core
  ends_failed g = goes_so m t (first_entries wait) _ (EndsSo m t wait ended.NetFault over) core g
      (alive_at g.so.steps g.history g.so.reaches g.so.ends)

  pub ends_wanting : GoesOn m t (first_entries wait)
      (RunsSo m.means (Some 1) (Some end.NoMemory) over t (first_entries wait)) core
      → GoesOn m t (first_entries wait) (EndsSo m t wait ended.NoMemory over) core
  ends_wanting g = goes_so m t (first_entries wait) _ (EndsSo m t wait ended.NoMemory over) core g
      (alive_at g.so.steps g.history g.so.reaches g.so.ends)

  -- it is not stopped by itself
  pub not_stopped : GoesOn m t (first_entries wait)
      (RunsSo m.means (Some 1) (Some end.Stopped) over t (first_entries wait)) core → ⊥
  not_stopped g =
      let a = alive_at g.so.steps g.history g.so.reaches g.so.ends.0 in
      false≢true (sym a.going ∙ g.so.ends.1)
