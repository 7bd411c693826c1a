-- What a dialler, which makes connections with their nets, tells (POSA2, Connector; C++NPv2 chapter
-- 7: `ACE_Connector`).
use Rattle.std.specs.Prelude.{◌≡◌, ℕ, false, Result, Ok, Err, None}
use Rattle.ev_base.specs.Counts.{Rose}
use Rattle.ev_base.specs.End.{EndFacts, IsFresh}
use Rattle.ev_base.specs.Net.{NetFacts, IsNew}
use Rattle.ev_base.specs.Terms.{Terms}
use Rattle.ev_base.specs.declared.dial.DialRefused.{DialRefused}
use Rattle.ev_base.specs.declared.dial.DialRefused.TheVariants.{Failed, NoMemory}

-- a new net, and an end that is no listener, has no serial number, made no call, and gave and took
-- nothing
pub record GivesEnd {M E : Type 0} (facts : M → NetFacts E) (tells : E → EndFacts)
    (given : M × E) : Type 0 where
  pub net : IsNew (facts given.0)
  pub no_listener : (tells given.1).listener ≡ false
  pub unnumbered : (tells given.1).serial ≡ None
  pub fresh : IsFresh (tells given.1)

-- What a `dial` does to the dialler's count of faults, by its answer. The net and the end keep what
-- the dialler kept under the terms.
abbrev pub Dials : {M E : Type 0} → (M → NetFacts E) → (E → EndFacts) → (Terms → M → Type 0)
    → (Terms → E → Type 0) →
    (Terms → Type 0) → ℕ → Result (M × E) DialRefused → ℕ → Type 0
Dials facts tells net_keeps end_keeps keeps old (Ok given) new =
    GivesEnd facts tells given × (new ≡ old)
    × ((t : Terms) → keeps t → net_keeps t given.0 × end_keeps t given.1)
Dials facts tells net_keeps end_keeps keeps old (Err Failed) new = Rose old new
Dials facts tells net_keeps end_keeps keeps old (Err NoMemory) new = new ≡ old

-- Terms that leave open what a dialler lays down: the groups of its net, and whether that is
-- steady. An end without a number has no story, so they may have those of others; but they have
-- none of a listener.
pub record LeavesDialOpen (t : Terms) : Type 0 where
  pub offers : t.offers ≡ None
  pub groups : t.groups ≡ None
  pub steady : t.steady ≡ None
