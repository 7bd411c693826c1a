use Rattle.std.proofs.Common.{◌∙◌, List, sym, ap, subst}
use Rattle.ev_base.specs.Net.{Call}
use Rattle.ev_base.specs.Playing.{Plays}
use Rattle.script_net.specs.Ends.{new_listener}
use Rattle.script_net.specs.Keeps.{ListenerKeeps}
use Rattle.script_net.specs.NetContent.{NetContent}
use Rattle.script_net.specs.ScriptEnd.{RoleKeeps}
use Rattle.script_net.specs.Hosts.{ScriptContent}
use Rattle.script_net.proofs.Made.{listener_keeps}
use Rattle.script_net.proofs.script_host.Script.parts.Goals as goal

pub returns-clause-keeps : goal.returns-clause-keeps
returns-clause-keeps c t l =
    let calls = ap (λ (n : NetContent). n.calls) c.self.invariant.0 in
    let listener = listener_keeps t c.args.self l in
    let is = c.self.invariant.1 ∙ ap (λ (s : ScriptContent). new_listener s.offers s.connections)
    c.self.view_is in (
      (λ groups told. (
        l.groups groups told
            ∙ ap (λ (s : ScriptContent). s.groups) (sym c.self.view_is),
        subst (λ (cs : List Call). Plays groups cs) (sym calls) tt,
      )),
      subst (RoleKeeps t) (sym c.of_listener.ensures) (subst (ListenerKeeps t) (sym is) listener),
    )
