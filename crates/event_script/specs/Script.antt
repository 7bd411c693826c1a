-- A script of network events, as data (this project's own).
use Rattle.std.specs.Prelude.{ℕ, ◌==◌, nat_lt, Bool, true, false, not, ◌&&◌, ◌||◌, List, [], ◌∷◌}
use Rattle.std.specs.Prelude.{◌+◌, map, flat_map, length}
use Rattle.std.specs.List.{list_any}
use Rattle.ev_base.specs.ev_types.specs.declared.upcall.Kind.TheVariants.{Read}
use Rattle.ev_base.specs.Terms.{StepEnd, AtListener, AtConnection, Step, Group}

-- One step: the connection of a number comes; it brings bytes; it is shut; it fails; or the
-- listener fails once.
pub data ScriptStep : Type 0 where
  Opens : (conn : ℕ) → ScriptStep
  Brings : (conn : ℕ) (bytes : List ℕ) → ScriptStep
  Shuts : (conn : ℕ) → ScriptStep
  Fails : (conn : ℕ) → ScriptStep
  ListenerFails : ScriptStep

-- the steps of one moment, in milliseconds; a group without steps only lets that moment come
pub record ScriptGroup : Type 0 where
  pub moment : ℕ
  pub steps : List ScriptStep

-- all steps of a script, in order
abbrev pub steps_of : List ScriptGroup → List ScriptStep
steps_of groups = flat_map (λ g. g.steps) groups

-- the end at which a step is reported, always as ready to be read
abbrev pub end_of : ScriptStep → StepEnd
end_of (Opens conn) = AtListener
end_of (Brings conn bytes) = AtConnection conn
end_of (Shuts conn) = AtConnection conn
end_of (Fails conn) = AtConnection conn
end_of ListenerFails = AtListener

abbrev pub report_step : ScriptStep → Step
report_step step = record { end = end_of step; kind = Read }

-- the groups as the terms of a run have them
abbrev pub group_told : ScriptGroup → Group
group_told g = record { moment = g.moment; steps = map report_step g.steps }

abbrev pub groups_told : List ScriptGroup → List Group
groups_told groups = map group_told groups

-- ---- tests of a step

abbrev pub is_of : ℕ → ScriptStep → Bool
is_of c (Brings conn bytes) = conn == c
is_of c (Shuts conn) = conn == c
is_of c (Fails conn) = conn == c
is_of c _ = false

abbrev pub shuts : ℕ → ScriptStep → Bool
shuts c (Shuts conn) = conn == c
shuts c _ = false

abbrev pub fails : ℕ → ScriptStep → Bool
fails c (Fails conn) = conn == c
fails c _ = false

-- ---- which steps may follow each other

-- how many connections came
abbrev pub opened : List ScriptStep → ℕ
opened [] = 0
opened (Opens conn ∷ steps) = opened steps + 1
opened (_ ∷ steps) = opened steps

-- how many connections and how many steps a script has at most
abbrev pub most_connections : ℕ
most_connections = 65536

abbrev pub most_steps : ℕ
most_steps = 1000000

-- by the steps so far, the latest first: whether the connection came, and whether it was shut or
-- failed
abbrev pub came : ℕ → List ScriptStep → Bool
came c past = nat_lt c (opened past)

abbrev pub is_done : ℕ → List ScriptStep → Bool
is_done c past = list_any (λ step. shuts c step || fails c step) past

abbrev pub goes_on : ℕ → List ScriptStep → Bool
goes_on c past = came c past && not (is_done c past)

-- Connections are numbered as they come. One brings at least one byte at a time. It brings bytes,
-- is shut and fails only after its coming, and nothing of it follows once it was shut or failed.
abbrev pub may_follow : List ScriptStep → ScriptStep → Bool
may_follow past (Opens conn) = conn == opened past && nat_lt conn most_connections
may_follow past (Brings conn bytes) = goes_on conn past && nat_lt 0 (length bytes)
may_follow past (Shuts conn) = goes_on conn past
may_follow past (Fails conn) = goes_on conn past
may_follow past ListenerFails = true

abbrev pub are_steps : List ScriptStep → Bool
are_steps [] = true
are_steps (step ∷ past) = nat_lt (length past) most_steps && may_follow past step && are_steps past
