-- How a handler attaches its own end.
use Rattle.std.specs.Prelude.{ℕ, List, Option, Result}
use Rattle.reactor_journal.specs.ev_types.specs.declared.upcall.Mask.{Mask}
use Rattle.reactor_journal.specs.ev_types.specs.declared.refusal.NetFailed.{NetFailed}
use Rattle.ev_base.specs.Terms.{Terms}
use Rattle.ev_base.specs.Net.{NetFacts, NetAttaches}
use Rattle.reactor_journal.specs.Event.{Item, Origin}
use Rattle.reactor_model.specs.Handling.{Handling, Names}

-- The net was asked to attach an end; if the handler's origin says something of its serial
-- number, that is as said.
abbrev pub AttachesMine : {H E N : Type 0} → Handling H E N → H → NetFacts E → ℕ → Mask
    → Result (Unit {0}) NetFailed → NetFacts E → Type 0
AttachesMine means handler old handle mask result new =
    (serial : Option ℕ) × NetAttaches old handle mask serial result new
    × ((t : Terms) (origin : Option (Origin _)) (had : List (Item _))
    → means.fits t origin handler had → Names (means.serial t origin) serial)
