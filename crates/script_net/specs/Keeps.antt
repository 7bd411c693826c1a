-- What the ends of a script keep under the terms that a run starts with.
use Rattle.std.specs.Prelude.{◌≡◌, ◌+◌, ℕ, List, slice_get, Some}
use Rattle.ev_base.specs.Story.{Story, OfParts}
use Rattle.ev_base.specs.Terms.{Terms, story_of}
use Rattle.ev_base.specs.KeepsStory.{KeepsStory}
use Rattle.script_net.specs.Content.{ConnectionContent, PeerContent, ListenerContent}
use Rattle.script_net.specs.Playable.{many_offered}
use Rattle.script_net.specs.Ends.{peer_facts, listener_facts}

-- these connections, which have the numbers from this one on, tell the stories that the terms have
-- of them
abbrev pub AreStories : Terms → ℕ → List ConnectionContent → Type 0
AreStories t from connections =
    (k : ℕ) (connection : ConnectionContent) (story : Story)
    → slice_get connections k ≡ Some connection → story_of t (from + k) ≡ Some story
    → story ≡ OfParts connection.parts

-- a listener keeps its own story and those of the connections that did not come yet
pub record ListenerKeeps (t : Terms) (l : ListenerContent) : Type 0 where
  pub own : KeepsStory t (listener_facts l)
  pub connections : AreStories t (many_offered l.offering.given) l.connections

abbrev pub PeerKeeps : Terms → PeerContent → Type 0
PeerKeeps t c = KeepsStory t (peer_facts c)
