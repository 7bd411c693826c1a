-- That the ends keep the stories that the terms have of them.
use Rattle.ev_base.specs.Terms.{Terms}
use Rattle.ev_base.specs.KeepsStory.{KeepsStory}
use Rattle.script_net.specs.declared.end.ScriptEnd.{ScriptEnd}
use Rattle.script_net.specs.declared.end.Role.{Role}
use Rattle.script_net.specs.declared.end.Role.TheVariants as role
use Rattle.script_net.specs.ScriptEnd.{script_end_facts, role_facts, ScriptEndKeeps, RoleKeeps}

role_keeps_story : (t : Terms) (r : Role) → RoleKeeps t r → KeepsStory t (role_facts r)
role_keeps_story t (role.Listener listener) keeps = keeps.own
role_keeps_story t (role.Connection peer) keeps = keeps

pub keeps_its_story : (t : Terms) (end : ScriptEnd) → ScriptEndKeeps t end
    → KeepsStory t (script_end_facts end)
keeps_its_story t end keeps = role_keeps_story t end.role keeps
