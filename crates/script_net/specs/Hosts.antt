-- Scripts as a whole, and hosts that listen by them.
use Rattle.std.specs.Prelude.{◌≡◌, true, List, [], Option, Some, None}
use Rattle.ev_base.specs.Terms.{Terms, Group}
use Rattle.ev_base.specs.Story.{Offer}
use Rattle.ev_base.specs.End.{IsFresh}
use Rattle.ev_base.specs.Net.{IsNew}
use Rattle.script_net.specs.Content.{ConnectionContent}
use Rattle.script_net.specs.Keeps.{AreStories}
use Rattle.script_net.specs.NetContent.{NetContent, script_net_facts, script_net_keeps}
use Rattle.script_net.specs.declared.end.ScriptEnd.{ScriptEnd}
use Rattle.script_net.specs.ScriptEnd.{script_end_facts, ScriptEndKeeps}

-- a script: its groups, what its listener offers, and its connections by number
pub record ScriptContent : Type 0 where
  pub groups : List Group
  pub offers : List Offer
  pub connections : List ConnectionContent

-- a net that has made no call, with nothing attached, retired or turned away, for which no call was
-- named
abbrev pub new_net : List Group → NetContent
new_net groups = record {
  groups = groups;
  calls = [];
  reports = [];
  retired = [];
  turned_away = [];
  spare = 0;
  waits = 0;
  attaches = 0;
  fail_waits = [];
  fail_attaches = [];
  failed_waits = 0;
  failed_attaches = 0;
}

-- if the terms lay down the groups, the listener's story and the stories of the connections,
-- these are the script's
pub record LaysDown (t : Terms) (s : ScriptContent) : Type 0 where
  pub groups : (groups : List Group) → t.groups ≡ Some groups → groups ≡ s.groups
  pub offers : (offers : List Offer) → t.offers ≡ Some offers → offers ≡ s.offers
  pub stories : AreStories t 0 s.connections

-- a net and a listener that a host gives: the net has made no call, and the listener has given
-- nothing and made no call
pub record AreUnused (net : NetContent) (end : ScriptEnd) : Type 0 where
  pub new : IsNew (script_net_facts net)
  pub listener : (script_end_facts end).listener ≡ true
  pub fresh : IsFresh (script_end_facts end)

pub record PartsContent : Type 0 where
  pub net : NetContent
  pub end : ScriptEnd

abbrev pub PartsKeep : Terms → Option PartsContent → Type 0
PartsKeep t None = Unit {0}
PartsKeep t (Some parts) = script_net_keeps t parts.net × ScriptEndKeeps t parts.end
