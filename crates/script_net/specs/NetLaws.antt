-- That a net that never fails has no fault, and that one follows the groups that the terms lay
-- down.
use Rattle.std.specs.Prelude.{◌≡◌, ℕ, Bool, true, false, ◌&&◌, ◌==◌, List, Option, Some, None}
use Rattle.std.proofs.Common.{refl}
use Rattle.std.proofs.lemmas.Bool.{eqb-true}
use Rattle.ev_base.specs.Terms.{Terms, Group}
use Rattle.ev_base.specs.Net.{IsSound, Call}
use Rattle.ev_base.specs.Playing.{FollowsGroups, Plays}
use Rattle.script_net.specs.NetContent.{NetContent, script_net_facts, script_net_keeps, names_none}

no_faults : (a b : Bool) (m n : ℕ) → a && b && m == 0 && n == 0 ≡ true → (m ≡ 0) × (n ≡ 0)
no_faults a b m n e = by a b (m == 0) (n == 0) refl refl e
  where
    by : (a b c d : Bool) → (m == 0) ≡ c → (n == 0) ≡ d → a && b && c && d ≡ true → (m ≡ 0)
        × (n ≡ 0)
    by true true true true p q e = (eqb-true m 0 p, eqb-true n 0 q)
    by true true true false p q e = absurd (cc)
    by true true false d p q e = absurd (cc)
    by true false c d p q e = absurd (cc)
    by false b c d p q e = absurd (cc)

pub net_is_sound : (n : NetContent) → IsSound (script_net_facts n)
net_is_sound n steady = no_faults (names_none n.fail_waits) (names_none n.fail_attaches)
    n.failed_waits n.failed_attaches steady

follows : (calls : List Call) (groups : Option (List Group))
    → ((gs : List Group) → groups ≡ Some gs → Plays gs calls) → FollowsGroups (Some calls) groups
follows calls None plays = tt
follows calls (Some groups) plays = plays groups refl

pub net_follows_groups : (t : Terms) (n : NetContent) → script_net_keeps t n
    → FollowsGroups (script_net_facts n).calls t.groups
net_follows_groups t n keeps = follows n.calls t.groups (λ gs is. (keeps gs is).1)
