-- How a run of one connector begins.
use Rattle.std.specs.Prelude.{ℕ, ◌≡◌, [], None}
use Rattle.ev_base.specs.Counts.{Rose}
use Rattle.ev_base.specs.Net.{NetFacts, IsNew}
use Rattle.ev_base.specs.Terms.{Terms}
use Rattle.reactor_core.specs.Ends.{WhereTold}
use Rattle.reactor_core.specs.Stands.{Meaning, Stands}
use Rattle.reactor_core.specs.declared.reactor.Core.{Core}
use Rattle.reactor_core.specs.declared.registering.RegisterRefused.{RegisterRefused}
use Rattle.reactor_core.specs.declared.registering.RegisterRefused.TheVariants as register
use Rattle.connector_run.specs.declared.opening.OpenRefused.{OpenRefused}
use Rattle.connector_run.specs.declared.opening.OpenRefused.TheVariants.{NotAttached, NoMemory}
use Rattle.connector_run.specs.declared.opening.Unopened.{Unopened}

-- terms of a run: one handler may be live, and all else that a reactor asks of them is open
pub record AreOfOne (t : Terms) : Type 0 where
  pub most : t.most ≡ 1
  pub steady : t.steady ≡ None

-- a new net, which keeps what the terms say, and a handler that had no turns
pub record CanOpen {E : Type 0} (net : NetFacts E) (keeps fits : Type 0) (t : Terms) : Type 0 where
  pub terms : AreOfOne t
  pub fresh : IsNew net
  pub kept : keeps
  pub fits_none : fits

-- a reactor that stands for nothing yet, and such a handler
pub record CanRegister {H M Q W V N E : Type 0} (m : Meaning H M Q W V N E) (t : Terms)
    (core : Core H M Q W V N E) (handler : H) : Type 0 where
  pub terms : AreOfOne t
  pub stands : Stands m t core 0 []
  pub fits : m.means.fits t None handler []

abbrev pub connect_refusal : RegisterRefused → OpenRefused
connect_refusal register.NetFailed = NotAttached
connect_refusal _ = NoMemory

-- the net's count of failed attaches rose if the end was not attached
abbrev pub OpenHasCause : OpenRefused → ℕ → ℕ → Type 0
OpenHasCause NotAttached before now = Rose before now
OpenHasCause NoMemory before now = Unit {0}

-- Nothing was opened: the net was asked nothing and took no end back, and the handler's end comes
-- back as that of one that had no turns.
pub record LeavesUnopened {N E M : Type 0} (facts : M → NetFacts E) (keeps : Terms → M → Type 0)
    (gone : E → N → Type 0) (t : Terms) (left : Unopened E M) : Type 0 where
  pub retired : WhereTold (λ ends. ends ≡ []) (facts left.net).retired
  pub turned_away : WhereTold (λ ends. ends ≡ []) (facts left.net).turned_away
  pub none_asked : WhereTold (λ calls. calls ≡ []) (facts left.net).calls
  pub kept : keeps t left.net
  pub said : N
  pub unused : gone left.end said
