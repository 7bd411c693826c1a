-- That a script may be played: its net has made no call, whichever of its calls are to fail.
use Rattle.std.proofs.Common.{ℕ, ◌≡◌, List, length, refl, sym, ap, ◌∙◌, subst, Option, Some, None}
use Rattle.ev_base.specs.Host.{GivesListener, LeavesHostOpen}
use Rattle.ev_base.specs.Terms.{Terms}
use Rattle.reactor_model.specs.reactor_journal.specs.declared.entry.Entry.{Entry}
use Rattle.reactor_core.specs.Ends.{WhereTold}
use Rattle.script_net.specs.NetContent.{NetContent, script_net_facts, script_net_keeps}
use Rattle.script_net.specs.ScriptEnd.{script_end_facts}
use Rattle.script_net.specs.declared.end.ScriptEnd.{ScriptEnd}
use Rattle.server_run.specs.declared.asked.Asked.{Asked}
use Rattle.test_runs.specs.Playing.{terms_of}

pub open_terms_of : (asked : Asked) → LeavesHostOpen (terms_of asked)
open_terms_of asked = record { offers = refl; stories = refl; groups = refl; steady = refl }

pub taken_open : {N : Type 0} (told : Option (List (Entry N)))
    → WhereTold (λ entries. (n : ℕ) → ◌≡◌ {A = Option ℕ} None (Some n) → length entries ≡ n) told
taken_open None = tt
taken_open (Some entries) = λ n q. absurd cc

-- the net with its failing calls named
pub named : (net mid now : NetContent) (waits attaches : List ℕ)
    → mid ≡ record net { fail_waits = waits } → now ≡ record mid { fail_attaches = attaches }
    → now ≡ record net { fail_waits = waits; fail_attaches = attaches }
named net mid now waits attaches first second =
    second ∙ ap (λ (n : NetContent). record n { fail_attaches = attaches }) first

gives_so : (net : NetContent) (listener : ScriptEnd) (waits attaches : List ℕ)
    → GivesListener script_net_facts script_end_facts (net, listener)
    → GivesListener script_net_facts script_end_facts
    (record net { fail_waits = waits; fail_attaches = attaches }, listener)
gives_so net listener waits attaches g = record {
  net = record {
    failed_waits = g.net.failed_waits;
    failed_attaches = g.net.failed_attaches;
    attached = g.net.attached;
    now = g.net.now;
    calls = g.net.calls;
    masks = g.net.masks;
    retired = g.net.retired;
    turned_away = g.net.turned_away;
  };
  listener = g.listener;
  fresh = g.fresh;
  numbered = g.numbered;
}

pub gives_still : (net now : NetContent) (listener : ScriptEnd) (waits attaches : List ℕ)
    → now ≡ record net { fail_waits = waits; fail_attaches = attaches }
    → GivesListener script_net_facts script_end_facts (net, listener)
    → GivesListener script_net_facts script_end_facts (now, listener)
gives_still net now listener waits attaches is g =
    subst (λ (n : NetContent). GivesListener script_net_facts script_end_facts (n, listener))
    (sym is) (gives_so net listener waits attaches g)

pub keeps_still : (t : Terms) (net now : NetContent) (waits attaches : List ℕ)
    → now ≡ record net { fail_waits = waits; fail_attaches = attaches } → script_net_keeps t net
    → script_net_keeps t now
keeps_still t net now waits attaches is keeps =
    subst (λ (n : NetContent). script_net_keeps t n) (sym is) keeps
