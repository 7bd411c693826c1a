-- What contracts see of a script and of its ends.
use Rattle.std.specs.Prelude.{ℕ, List, Option}
use Rattle.ev_base.specs.Story.{Part, Telling, Offering}
use Rattle.ev_base.specs.End.{Try}

-- a connection that did not come yet: what its end has to tell, and how many bytes it takes
pub record ConnectionContent : Type 0 where
  pub parts : List Part
  pub room : ℕ

-- The end of a connection: its number, how far its story was told, how many bytes it takes and
-- those that it holds, and its calls: how many reads and writes there were, what the last of each
-- came to, and how often a call failed.
pub record PeerContent : Type 0 where
  pub serial : ℕ
  pub telling : Telling
  pub room : ℕ
  pub held : List ℕ
  pub reads : ℕ
  pub last_read : Option Try
  pub writes : ℕ
  pub last_write : Option Try
  pub faults : ℕ

-- The listener: how far its story was told, the connections that did not come yet, and its calls.
pub record ListenerContent : Type 0 where
  pub offering : Offering
  pub connections : List ConnectionContent
  pub accepts : ℕ
  pub last_accept : Option Try
  pub faults : ℕ
