-- How a caller meets the premises of the law.
use Rattle.std.proofs.Common.{◌≡◌, ℕ, Bool, true, false, List, [], ◌∷◌, ◌++◌, Option, Some, None}
use Rattle.std.proofs.Common.{refl, sym, subst, append_assoc, append-nil}
use Rattle.std.proofs.lemmas.Bool.{false≢true}
use Rattle.laws_script_calls.specs.ev_base.specs.End.{EndFacts}
use Rattle.laws_script_calls.specs.ev_base.specs.Net.{Call}
use Rattle.laws_script_calls.specs.ev_base.specs.Playing.{FollowsGroups}
use Rattle.laws_script_calls.specs.ev_base.specs.Terms.{Terms, Group}
use Rattle.laws_script_calls.specs.ev_base.specs.declared.end.PeerEnd.{Ghosts}
use Rattle.laws_script_calls.specs.reactor_journal.specs.declared.entry.Entry.{Entry}
use Rattle.laws_script_calls.specs.reactor_journal.specs.declared.entry.Entry.TheVariants.{Ended}
use Rattle.laws_script_calls.specs.reactor_journal.specs.Past.{past_of}
use Rattle.laws_script_calls.specs.reactor_summary.specs.Summary.{Summary, summary}
use Rattle.laws_script_calls.specs.reactor_core.specs.Acting.{StopAppends}
use Rattle.laws_script_calls.specs.reactor_core.specs.Removing.{StopsOnce}
use Rattle.laws_script_calls.specs.reactor_core.specs.Stands.{Meaning, Stands}
use Rattle.laws_script_calls.specs.reactor_core.specs.declared.reactor.Core.{Core}
use Rattle.laws_script_calls.specs.acceptor.specs.Servers.{servers}
use Rattle.laws_script_calls.specs.laws_script_runs.specs.Laws.{ActsAsServer}
use Rattle.laws_script_calls.specs.Laws.{NamesAsServer}
use Rattle.laws_one_worker.specs.Alone.{TellsPlaying, PlaysScript}

-- ---- a net that tells its calls under the groups of the terms

told_plays : (groups : List Group) (calls : Option (List Call)) (told : List Call)
    → calls ≡ Some told → FollowsGroups calls (Some groups) → TellsPlaying groups calls
told_plays groups None told is follows = absurd (none is)
  where
    none : ◌≡◌ {A = Option (List Call)} None (Some told) → ⊥
    none q = cc
told_plays groups (Some calls) told is follows = follows

pub plays_groups : {H M Q W V N E : Type 0} (m : Meaning H M Q W V N E) (t : Terms)
    (groups : List Group) → t.groups ≡ Some groups
    → ((net : M) → m.keeps t net → FollowsGroups (m.facts net).calls t.groups)
    → ((net : M) → (told : List Call) × ((m.facts net).calls ≡ Some told)) → PlaysScript m t groups
plays_groups m t groups is follows tells = λ net keeps.
    told_plays groups (m.facts net).calls (tells net).0 (tells net).1
    (subst (λ (g : Option (List Group)). FollowsGroups (m.facts net).calls g) is
    (follows net keeps))

-- ---- handlers of the server

module _ {E : Type 0} (G : Ghosts E) (tells : E → EndFacts) (keeps : Terms → E → Type 0) (t : Terms)
  where
    pub servers_act : ActsAsServer (servers {E = E} {G = G} tells keeps) t
    servers_act = record { asks = λ up deed may. may; installs = λ said. refl }

    pub servers_name : NamesAsServer (servers {E = E} {G = G} tells keeps) t
    servers_name = λ origin. refl

-- ---- a reactor that was stopped

-- what the stop appended to the history
pub record IsStoppedWith {H M Q W V N E : Type 0} (m : Meaning H M Q W V N E) (t : Terms) (F : ℕ)
    (h : List (Entry N)) (new : Core H M Q W V N E) : Type 0 where
  pub closing : List (Entry N)
  pub appends : StopAppends (summary (past_of h)) (summary (past_of h)).ended closing
  pub stands : Stands m t new F (h ++ closing)

pub stopped_with : {H M Q W V N E : Type 0} (m : Meaning H M Q W V N E) (t : Terms) (F : ℕ)
    (h : List (Entry N)) (new : Core H M Q W V N E)
    → StopsOnce m t F h new (summary (past_of h)).ended → IsStoppedWith m t F h new
stopped_with {H} {M} {Q} {W} {V} {N} {E} m t F h new s = by_ended (summary (past_of h)).ended refl s
  where
    nothing : (s : Summary) (b : Bool) → b ≡ true → StopAppends {N = N} s b []
    nothing s true is = refl
    nothing s false is = absurd (false≢true is)

    by_ended : (b : Bool) → (summary (past_of h)).ended ≡ b → StopsOnce m t F h new b
        → IsStoppedWith m t F h new
    by_ended true is s = record {
      closing = [];
      appends = nothing (summary (past_of h)) (summary (past_of h)).ended is;
      stands = subst (Stands m t new F) (sym (append-nil h)) s;
    }
    by_ended false is s = record {
      closing = Ended ∷ s.entries;
      appends = subst (λ (b : Bool). StopAppends (summary (past_of h)) b (Ended ∷ s.entries))
          (sym is) (s.entries, s.removals, refl);
      stands = subst (Stands m t new F) (append_assoc h (Ended ∷ []) s.entries) s.stands;
    }
