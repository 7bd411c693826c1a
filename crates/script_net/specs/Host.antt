-- What contracts see of a host that listens by a script.
use Rattle.std.specs.Prelude.{◌≡◌, ℕ, Bool, true, false, List, Option, Some, None, Result, Ok}
use Rattle.std.specs.Prelude.{Err}
use Rattle.ev_base.specs.Counts.{counted}
use Rattle.ev_base.specs.declared.host.ListenRefused.{ListenRefused}
use Rattle.ev_base.specs.declared.host.ListenRefused.TheVariants.{Failed}
use Rattle.script_net.specs.declared.end.ScriptEnd.{ScriptEnd}
use Rattle.script_net.specs.declared.script_host.ScriptWake.{ScriptWake}
use Rattle.script_net.specs.NetContent.{NetContent}
use Rattle.ev_base.specs.Terms.{Terms}
use Rattle.script_net.specs.declared.script_host.ScriptHost.{ScriptHost}
use Rattle.script_net.specs.Ends.{new_listener, listener_facts}
use Rattle.script_net.specs.ScriptEnd.{script_end_facts}
use Rattle.script_net.specs.Hosts.{new_net, ScriptContent, LaysDown, PartsContent, PartsKeep}

abbrev pub host_faults : ScriptHost → ℕ
host_faults host = host.faults

abbrev pub host_fails : ScriptHost → Bool
host_fails host = host.fails

-- the ports on which it was asked to listen
abbrev pub host_ports : ScriptHost → List ℕ
host_ports host = host.ports

-- the parts that it has to give, if it has some
abbrev pub host_parts : ScriptHost → Option PartsContent
host_parts host = host.parts

abbrev pub HostKeeps : Terms → ScriptHost → Type 0
HostKeeps t host = PartsKeep t host.parts

-- the terms lay down what the script says, if there is one
abbrev pub KeepsScript : Terms → Option ScriptContent → Type 0
KeepsScript t None = Unit {0}
KeepsScript t (Some script) = LaysDown t script

-- the parts of a script, if there is one
abbrev pub ArePartsOf : Option ScriptContent → Option PartsContent → Type 0
ArePartsOf None None = Unit {0}
ArePartsOf None (Some parts) = ⊥
ArePartsOf (Some script) None = ⊥
ArePartsOf (Some script) (Some parts) =
    (parts.net ≡ new_net script.groups)
    × (script_end_facts parts.end ≡ listener_facts (new_listener script.offers script.connections))

-- What a `listen` gives: it fails if the host is to fail or has nothing to give, which is
-- counted, and else it gives the parts, once.
abbrev pub HostGives : Bool → Option PartsContent → ℕ
    → Result (NetContent × ScriptEnd × ScriptWake) ListenRefused → Option PartsContent → ℕ → Type 0
HostGives true parts faults result parts' faults' =
    (result ≡ Err Failed) × (parts' ≡ parts) × (faults' ≡ counted faults)
HostGives false None faults result parts' faults' =
    (result ≡ Err Failed) × (parts' ≡ None) × (faults' ≡ counted faults)
HostGives false (Some parts) faults (Ok given) parts' faults' =
    (given.0 ≡ parts.net) × (given.1 ≡ parts.end) × (parts' ≡ None) × (faults' ≡ faults)
HostGives false (Some parts) faults (Err refused) parts' faults' = ⊥
