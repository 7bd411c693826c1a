-- How a run of one connector begins, and what is left if it does not.
use Rattle.std.proofs.Common.{ℕ, ◌≡◌, ◌+◌, ⊎_elim, List, [], ◌∷◌, refl, sym, ap, ◌∙◌, subst}
use Rattle.std.proofs.Common.{arith, Option, Some, None}
use Rattle.std.specs.Prelude.{Err}
use Rattle.std.proofs.lemmas.Bool.{false≢true}
use Rattle.ev_base.specs.Net.{NetFacts, IsNew}
use Rattle.ev_base.specs.Terms.{Terms}
use Rattle.ev_base.specs.ev_types.specs.declared.upcall.Handle.{Handle}
use Rattle.ev_base.specs.ev_types.specs.declared.upcall.Why.TheVariants.{Own, Refused}
use Rattle.timer_queue.specs.declared.timer.Timer.{Timer}
use Rattle.reactor_model.specs.Volumes.{tells_nothing}
use Rattle.reactor_model.specs.reactor_journal.specs.declared.entry.Entry.{Entry}
use Rattle.reactor_model.specs.reactor_journal.specs.declared.entry.Entry.TheVariants as entry
use Rattle.reactor_core.specs.Beginning.{CanBegin, PartsStand}
use Rattle.reactor_core.specs.Ends.{WhereTold}
use Rattle.reactor_core.specs.Offering.{GivesBack, RegisterGives}
use Rattle.reactor_core.specs.Stands.{Meaning, NetStands, Stands}
use Rattle.reactor_core.specs.declared.reactor.Core.{Core}
use Rattle.reactor_core.specs.declared.reactor.Parts.{Parts}
use Rattle.reactor_core.specs.declared.registering.RegisterRefused.{RegisterRefused}
use Rattle.reactor_core.specs.declared.registering.RegisterRefused.TheVariants as register
use Rattle.core_loop.specs.Idle.{IsIdle}
use Rattle.core_loop.specs.Leading.{LeavesFrom}
use Rattle.core_loop.proofs.Keeping.{sum}
use Rattle.connector_run.specs.Opening.{AreOfOne, OpenHasCause, connect_refusal}
use Rattle.reactor_core.specs.Refusals.{MayRefuseFirst}
use Rattle.connector_run.specs.Phases.{first_entries, one_handle, write_alone}
use Rattle.connector_run.specs.declared.opening.OpenRefused.{OpenRefused}
use Rattle.connector_run.proofs.Leaving.{stops_shut, told_as}

no_terms : {A : Type 0} (told : Option A) {a : A} {X : Type 0} → told ≡ None → told ≡ Some a → X
no_terms told none some = let q = sym none ∙ some in cc

pub begins : {N E : Type 0} (t : Terms) (net : NetFacts E) (keeps : Type 0) (timers : List Timer)
    → AreOfOne t → IsNew net → keeps → timers ≡ []
    → CanBegin {N = N} net keeps timers (Unit {0}) tells_nothing t 1
begins t net keeps timers one new keeping none = record {
  terms = one.most;
  fresh = new;
  steady = λ q. no_terms t.steady one.steady q;
  keeps = keeping;
  no_timers = none;
  seen = tt;
  taken = tt;
}

first_is : {N : Type 0} (handle : Handle) (wait : ℕ) → handle.0 ≡ 0
    → ◌≡◌ {A = List (Entry N)} (entry.Opened handle write_alone
    ∷ entry.Scheduled 0 handle (0 + wait) 0 ∷ []) (first_entries wait)
first_is {N} handle wait is =
    let none : 0 + wait ≡ wait = omega arith in
    ap opened_at is ∙ ap (λ k. entry.Opened one_handle write_alone
    ∷ entry.Scheduled 0 one_handle k 0 ∷ []) none
  where
    opened_at : ℕ → List (Entry N)
    opened_at n = entry.Opened (record { 0 = n }) write_alone
        ∷ entry.Scheduled 0 (record { 0 = n }) (0 + wait) 0 ∷ []

module _ {H M Q' W V N E : Type 0} (m : Meaning H M Q' W V N E) (t : Terms)
    (one : AreOfOne t) where
  pub registered_first : (core : Core H M Q' W V N E) (handle : Handle) (wait : ℕ) → handle.0 ≡ 0
      → Stands m t core 0 (entry.Opened handle write_alone
      ∷ entry.Scheduled 0 handle (0 + wait) 0 ∷ []) → Stands m t core 0 (first_entries wait)
  registered_first core handle wait is stands =
      subst (λ h. Stands m t core 0 h) (first_is handle wait is) stands

  pub refused_for : (wait : ℕ) (old new : Core H M Q' W V N E) (back : H)
      (refused : RegisterRefused)
      → RegisterGives m t 0 [] write_alone (Some (wait, 0)) old (Err (back, refused)) new
      → MayRefuseFirst refused × GivesBack m t 0 [] back new
      × OpenHasCause (connect_refusal refused) (m.facts old.net).failed_attaches
      (m.facts new.net).failed_attaches
  refused_for wait old new back register.Stopped g = absurd (false≢true g.0)
  refused_for wait old new back (register.Full live now) g =
      absurd (⊎_elim (λ q. no_most q) (λ q. no_more q) g.1)
    where
      no_most : ◌≡◌ {A = ℕ} 0 t.most → ⊥
      no_most q = omega (arith, q, one.most)

      no_more : ◌≡◌ {A = ℕ} 0 4294967295 → ⊥
      no_more q = omega (arith, q)
  refused_for wait old new back register.NoMemory g = (tt, g.1, tt)
  refused_for wait old new back register.NetFailed g = (tt, g.2, g.1)

  pub idle_none : (core : Core H M Q' W V N E) → t.limit ≡ None → Stands m t core 0 []
      → IsIdle m core
  idle_none core limit stands = record {
    terms = t;
    limit = limit;
    first = 0;
    history = [];
    stands = stands;
    none_open = refl;
  }

pub caused : (told refused : OpenRefused) (before between now : ℕ) → told ≡ refused → now ≡ between
    → OpenHasCause refused before between → OpenHasCause told before now
caused told refused before between now is same cause =
    subst (λ (o : OpenRefused). OpenHasCause o before now) (sym is)
    (subst (λ (n : ℕ). OpenHasCause refused before n) (sym same) cause)

-- a reactor that had no handler asked its net nothing, and took no end back
pub record TookNone {H M Q W V N E : Type 0} (m : Meaning H M Q W V N E) (t : Terms)
    (parts : Parts N M Q W V) : Type 0 where
  pub retired : WhereTold (λ ends. ends ≡ []) (m.facts parts.net).retired
  pub turned_away : WhereTold (λ ends. ends ≡ []) (m.facts parts.net).turned_away
  pub none_asked : WhereTold (λ calls. calls ≡ []) (m.facts parts.net).calls
  pub kept : m.keeps t parts.net

pub took_none : {H M Q W V N E : Type 0} (m : Meaning H M Q W V N E) (armed : Q → List Timer)
    (t : Terms) (parts : Parts N M Q W V) → LeavesFrom m armed t 0 [] parts → TookNone m t parts
took_none {N = N} m armed t parts l =
    let entries : l.entries ≡ entry.Ended ∷ [] = stops_shut (sum {N = N} []) l.entries refl refl
    l.stops in
    let stand : PartsStand m armed t 0 (entry.Ended ∷ []) parts =
    subst (λ es. PartsStand m armed t 0 es parts) entries l.stand in
    let net : NetStands m.means t (entry.Ended ∷ []) [] (m.facts parts.net) = stand.net in
    record {
      retired = told_as net.retired.0 [] (m.facts parts.net).retired net.retired.1 net.retired.2;
      turned_away = told_as net.turned_away.0 [] (m.facts parts.net).turned_away net.turned_away.1
          net.turned_away.2;
      none_asked = net.calls;
      kept = stand.net_keeps;
    }

pub not_own : {X : Type 0} → Refused ≡ Own → X
not_own q = cc
