-- An end of a script, of a connection or the listener.
use Rattle.std.specs.Prelude.{◌≡◌, ℕ, length, List, []}
use Rattle.ev_base.specs.Terms.{Terms}
use Rattle.ev_base.specs.End.{EndFacts}
use Rattle.script_net.specs.declared.end.ScriptEnd.{ScriptEnd}
use Rattle.script_net.specs.declared.end.Role.{Role}
use Rattle.script_net.specs.declared.end.Role.TheVariants as role
use Rattle.ev_base.specs.declared.end.Sent.{Sent}
use Rattle.ev_base.specs.declared.end.Taken.{Taken}
use Rattle.ev_base.specs.declared.end.Taken.TheVariants as taken
use Rattle.script_net.specs.Content.{ListenerContent}
use Rattle.script_net.specs.Ends.{peer_facts, listener_facts, after_read, after_write, write_answer}
use Rattle.script_net.specs.Ends.{GivesNext}
use Rattle.script_net.specs.Keeps.{ListenerKeeps, PeerKeeps}

abbrev pub role_facts : Role → EndFacts
role_facts (role.Listener listener) = listener_facts listener
role_facts (role.Connection peer) = peer_facts peer

-- what it tells
abbrev pub script_end_facts : ScriptEnd → EndFacts
script_end_facts end = role_facts end.role

abbrev pub RoleKeeps : Terms → Role → Type 0
RoleKeeps t (role.Listener listener) = ListenerKeeps t listener
RoleKeeps t (role.Connection peer) = PeerKeeps t peer

-- what it keeps under the terms: its story, and a listener also the stories of the connections that
-- did not come yet
abbrev pub ScriptEndKeeps : Terms → ScriptEnd → Type 0
ScriptEndKeeps t end = RoleKeeps t end.role

-- the bytes that were written to it and are held: none at a listener
abbrev pub role_held : Role → List ℕ
role_held (role.Listener listener) = []
role_held (role.Connection peer) = peer.held

-- ---- what its calls do to it, exactly

abbrev pub RoleReads : Role → ℕ → Role → Type 0
RoleReads (role.Connection old) room (role.Connection new) = new ≡ after_read room old
RoleReads (role.Connection old) room (role.Listener new) = ⊥
RoleReads (role.Listener old) room new = ⊥

abbrev pub RoleWrites : Role → List ℕ → Sent → Role → Type 0
RoleWrites (role.Connection old) piece answer (role.Connection new) =
    (answer ≡ write_answer (length piece) old) × (new ≡ after_write piece old)
RoleWrites (role.Connection old) piece answer (role.Listener new) = ⊥
RoleWrites (role.Listener old) piece answer new = ⊥

-- what an accept of a listener gives, by its answer: the end of the next connection that did not
-- come yet, or none
abbrev pub GivesRole : ListenerContent → Role → ListenerContent → Type 0
GivesRole old (role.Connection peer) new = GivesNext old peer new
GivesRole old (role.Listener listener) new = ⊥

abbrev pub GivesEnd : ListenerContent → Taken ScriptEnd → ListenerContent → Type 0
GivesEnd old (taken.One end) new = GivesRole old end.role new
GivesEnd old taken.Pause new = new.connections ≡ old.connections
GivesEnd old taken.Failed new = new.connections ≡ old.connections

abbrev pub RoleAccepts : Role → Taken ScriptEnd → Role → Type 0
RoleAccepts (role.Listener old) answer (role.Listener new) = GivesEnd old answer new
RoleAccepts (role.Listener old) answer (role.Connection new) = ⊥
RoleAccepts (role.Connection old) answer new = ⊥
