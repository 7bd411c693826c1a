-- What the net in memory keeps under the terms that a run starts with.
use Rattle.std.specs.Prelude.{◌≡◌, None}
use Rattle.ev_base.specs.Terms.{Terms}
use Rattle.demux.specs.PlayNet.{PlayContent}

-- It follows no script: such a run has terms that lay down no groups.
abbrev pub play_net_keeps : Terms → PlayContent → Type 0
play_net_keeps t n = t.groups ≡ None
