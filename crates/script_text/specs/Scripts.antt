-- The connections of a script as contracts see them.
use Rattle.std.specs.Prelude.{◌≡◌, ℕ, List}
use Rattle.ev_base.specs.Story as story
use Rattle.script_net.specs.Content.{ConnectionContent}

-- a connection has these parts to tell
abbrev pub Tells : ConnectionContent → List story.Part → Type 0
Tells connection parts = connection.parts ≡ parts

-- its end takes so many bytes
abbrev pub HasRoom : ConnectionContent → ℕ → Type 0
HasRoom connection room = connection.room ≡ room
