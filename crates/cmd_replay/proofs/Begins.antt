-- What a host that was given a script gives.
use Rattle.std.proofs.Common.{◌≡◌, ◌∙◌, ℕ, Bool, true, false, Option, Some, None, Ok, ap, subst}
use Rattle.script_net.specs.declared.end.ScriptEnd.{ScriptEnd}
use Rattle.script_net.specs.declared.script_host.ScriptWake.{ScriptWake}
use Rattle.script_net.specs.Host.{ArePartsOf, HostGives}
use Rattle.script_net.specs.Hosts.{ScriptContent, PartsContent, new_net}
use Rattle.script_net.specs.NetContent.{NetContent, script_net_facts}

pub net-given : (script : ScriptContent) (fails : Bool) (parts parts' : Option PartsContent)
    (faults faults' : ℕ) (given : NetContent × ScriptEnd × ScriptWake)
    → fails ≡ false → ArePartsOf (Some script) parts
    → HostGives fails parts faults (Ok given) parts' faults' → given.0 ≡ new_net script.groups
net-given script fails parts parts' faults faults' given never are gives =
    by-parts parts are (subst (λ b. HostGives b parts faults (Ok given) parts' faults') never gives)
  where
    by-parts : (parts : Option PartsContent) → ArePartsOf (Some script) parts
        → HostGives false parts faults (Ok given) parts' faults' → given.0 ≡ new_net script.groups
    by-parts None are gives = absurd are
    by-parts (Some parts) are gives = gives.0 ∙ are.0

pub is-steady : (net : NetContent) (script : ScriptContent) → net ≡ new_net script.groups
    → (script_net_facts net).steady ≡ true
is-steady net script is = ap (λ n. (script_net_facts n).steady) is
