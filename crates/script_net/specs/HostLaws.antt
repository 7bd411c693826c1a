-- That a host keeps terms that say nothing of it.
use Rattle.std.specs.Prelude.{◌≡◌, ℕ, List, Option, Some, None, slice_get, option_and_then}
use Rattle.std.proofs.Common.{sym, ap, ◌∙◌}
use Rattle.ev_base.specs.Terms.{Terms, story_of}
use Rattle.ev_base.specs.Story.{Story}
use Rattle.ev_base.specs.Host.{LeavesHostOpen}
use Rattle.ev_base.specs.KeepsStory.{KeepsStory}
use Rattle.ev_base.specs.End.{EndFacts}
use Rattle.script_net.specs.declared.end.Role.{Role}
use Rattle.script_net.specs.declared.end.Role.TheVariants as role
use Rattle.script_net.specs.declared.script_host.ScriptHost.{ScriptHost}
use Rattle.script_net.specs.ScriptEnd.{RoleKeeps}
use Rattle.script_net.specs.Hosts.{PartsContent, PartsKeep}
use Rattle.script_net.specs.Host.{HostKeeps}

no_some : {A : Type 0} (o : Option A) (x : A) → o ≡ None → o ≡ Some x → ⊥
no_some o x none some = let e = sym none ∙ some in cc

no_story : (t : Terms) (serial : ℕ) (story : Story) → t.stories ≡ None
    → story_of t serial ≡ Some story → ⊥
no_story t serial story none told =
    no_some (story_of t serial) story (ap
    (λ (ss : Option (List Story)). option_and_then (λ stories. slice_get stories serial) ss)
    none) told

own_open : (t : Terms) (e : EndFacts) → LeavesHostOpen t → KeepsStory t e
own_open t e open_ = record {
  connection = λ serial story not is told. absurd (no_story t serial story open_.stories told);
  listener = λ offers is told. absurd (no_some t.offers offers open_.offers told);
  unnumbered = λ offers is told. absurd (no_some t.offers offers open_.offers told);
}

role_open : (t : Terms) (r : Role) → LeavesHostOpen t → RoleKeeps t r
role_open t (role.Listener listener) open_ =
    record {
      own = own_open t _ open_;
      connections = λ k connection story found told. absurd (no_story t _ story open_.stories told);
    }
role_open t (role.Connection peer) open_ = own_open t _ open_

parts_open : (t : Terms) (parts : Option PartsContent) → LeavesHostOpen t → PartsKeep t parts
parts_open t None open_ = tt
parts_open t (Some parts) open_ = (
  (λ groups is. absurd (no_some t.groups groups open_.groups is)),
  role_open t parts.end.role open_,
)

pub host_keeps_open : (t : Terms) (host : ScriptHost) → LeavesHostOpen t → HostKeeps t host
host_keeps_open t host open_ = parts_open t host.parts open_
