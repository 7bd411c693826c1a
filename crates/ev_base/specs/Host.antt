-- What a host, which makes nets with their listeners, tells.
use Rattle.std.specs.Prelude.{◌≡◌, ℕ, true, Result, Ok, Err, None}
use Rattle.ev_base.specs.Counts.{Rose}
use Rattle.ev_base.specs.End.{EndFacts, IsFresh}
use Rattle.ev_base.specs.Net.{NetFacts, IsNew}
use Rattle.ev_base.specs.Story.{NumbersFrom}
use Rattle.ev_base.specs.Terms.{Terms}
use Rattle.ev_base.specs.declared.host.ListenRefused.{ListenRefused}
use Rattle.ev_base.specs.declared.host.ListenRefused.TheVariants.{Failed, NoMemory}

-- a new net, and a listener that has given nothing and made no accept
pub record GivesListener {M E : Type 0} (facts : M → NetFacts E) (tells : E → EndFacts)
    (given : M × E) : Type 0 where
  pub net : IsNew (facts given.0)
  pub listener : (tells given.1).listener ≡ true
  pub fresh : IsFresh (tells given.1)
  pub numbered : NumbersFrom 0 (tells given.1).offering

-- What a `listen` does to the host's count of faults, by its answer. The listener and the net keep
-- what the host kept under the terms.
abbrev pub Listens : {M E K : Type 0} → (M → NetFacts E) → (E → EndFacts) → (Terms → M → Type 0)
    → (Terms → E → Type 0) →
    (Terms → Type 0) → ℕ → Result (M × E × K) ListenRefused → ℕ → Type 0
Listens facts tells net_keeps end_keeps keeps old (Ok given) new =
    GivesListener facts tells (given.0, given.1) × (new ≡ old)
    × ((t : Terms) → keeps t → net_keeps t given.0 × end_keeps t given.1)
Listens facts tells net_keeps end_keeps keeps old (Err Failed) new = Rose old new
Listens facts tells net_keeps end_keeps keeps old (Err NoMemory) new = new ≡ old

-- terms that leave open what a host lays down: the stories of its ends, the groups of its net, and
-- whether that is steady
pub record LeavesHostOpen (t : Terms) : Type 0 where
  pub offers : t.offers ≡ None
  pub stories : t.stories ≡ None
  pub groups : t.groups ≡ None
  pub steady : t.steady ≡ None
