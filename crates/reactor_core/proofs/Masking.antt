-- The calls that are for alive handles alone, and a mask that is set.
use Rattle.std.proofs.Common.{ℕ, ◌≡◌, ◌==◌, Bool, true, false, not, ◌&&◌, ◌||◌, List, [], ◌∷◌, refl}
use Rattle.std.proofs.Common.{sym, ap, subst, None, Result, Ok, Err, ⊎_elim}
use Rattle.std.proofs.lemmas.Bool.{and_parts, and_from, or_left, or_right, or_cases, both_ways}
use Rattle.std.specs.List.{list_any, Contains}
use Rattle.reactor_summary.specs.ev_types.specs.declared.upcall.Handle.{Handle}
use Rattle.reactor_summary.specs.ev_types.specs.declared.upcall.Mask.{Mask}
use Rattle.ev_base.specs.Terms.{Terms}
use Rattle.ev_base.specs.Net.{SetsMaskOf}
use Rattle.reactor_model.specs.reactor_journal.specs.declared.entry.Entry.{Entry}
use Rattle.reactor_model.specs.reactor_journal.specs.declared.entry.Entry.TheVariants.{Masked}
use Rattle.reactor_model.specs.reactor_journal.specs.Past.{past_of}
use Rattle.reactor_summary.specs.declared.parts.LiveHandle.{LiveHandle}
use Rattle.reactor_summary.specs.Summary.{Summary, summary, is_alive}
use Rattle.reactor_summary.specs.Rules as R
use Rattle.reactor_core.specs.Handlers.{is_live}
use Rattle.reactor_core.specs.Stands.{Meaning, Tracks, IsSettled}
use Rattle.reactor_core.specs.Requests.{IsLiveAnswer}
use Rattle.reactor_core.specs.declared.reactor.Core.{Core}
use Rattle.reactor_core.specs.declared.requests.LiveRefused.{LiveRefused}
use Rattle.reactor_core.specs.declared.requests.LiveRefused.TheVariants.{NotLive, NoMemory}
use Rattle.reactor_core.proofs.Closed.{live_attached}
use Rattle.reactor_core.proofs.Ends.{net_masked}
use Rattle.reactor_core.proofs.Quiet.{NetKeeps}
use Rattle.reactor_core.proofs.Suspension.{running}

-- ---- the answers

pub live_not_live : {A : Type 0} (s : Summary) (x : ℕ) → is_alive s x ≡ false
    → IsLiveAnswer {A = A} s x (Err NotLive)
live_not_live s x dead = (λ q. dead, λ q. refl)

live_else : {A : Type 0} (s : Summary) (x : ℕ) (result : Result A LiveRefused) → is_alive s x ≡ true
    → (result ≡ Err NotLive → ⊥) → IsLiveAnswer s x result
live_else s x result alive n = (λ q. absurd (n q), λ q. absurd (both_ways (is_alive s x) q alive))

pub live_ok : {A : Type 0} (s : Summary) (x : ℕ) (a : A) → is_alive s x ≡ true
    → IsLiveAnswer s x (Ok a)
live_ok {A} s x a alive = live_else s x (Ok a) alive (λ q. apart q)
  where
    apart : ◌≡◌ {A = Result A LiveRefused} (Ok a) (Err NotLive) → ⊥
    apart q = cc

pub live_no_memory : {A : Type 0} (s : Summary) (x : ℕ) → is_alive s x ≡ true
    → IsLiveAnswer {A = A} s x (Err NoMemory)
live_no_memory {A} s x alive = live_else s x (Err NoMemory) alive (λ q. apart q)
  where
    apart : ◌≡◌ {A = Result A LiveRefused} (Err NoMemory) (Err NotLive) → ⊥
    apart q = cc

-- ---- an alive handle

pub alive_is_live : (s : Summary) (x : ℕ) → is_alive s x ≡ true → is_live s x ≡ true
alive_is_live s x a = go s.handles a
  where
    go : (hs : List LiveHandle) → list_any (λ (h : LiveHandle). h.handle.0 == x && h.alive) hs
        ≡ true → list_any (λ (h : LiveHandle). h.handle.0 == x) hs ≡ true
    go [] k = k
    go (h ∷ hs) k =
        ⊎_elim
        (λ (q : (h.handle.0 == x && h.alive) ≡ true).
        or_left (h.handle.0 == x) _ (and_parts (h.handle.0 == x) h.alive q).0)
        (λ (q : list_any (λ (h : LiveHandle). h.handle.0 == x && h.alive) hs ≡ true).
        or_right (h.handle.0 == x) _ (go hs q))
        (or_cases (h.handle.0 == x && h.alive) _ k)

-- the net has an end for it
pub alive_attached : {H M Q W V N E : Type 0} (m : Meaning H M Q W V N E) (t : Terms)
    (core : Core H M Q W V N E) (F : ℕ) (h : List (Entry N)) (x : ℕ) → Tracks m t core F h None []
    → is_alive (summary (past_of h)) x ≡ true
    → Contains (m.facts core.net).attached x
alive_attached m t core F h x o a =
    subst (λ xs. Contains xs x) (sym o.net.attached)
    (live_attached (summary (past_of h)) x (alive_is_live (summary (past_of h)) x a))

-- ---- the entry

pub masked_follows : (N : Type 0) (most : ℕ) (due ready : Bool) (s : Summary) (handle : Handle)
    (mask : Mask) → IsSettled s → is_alive s handle.0 ≡ true
    → R.may_follow {N = N} most due ready s (Masked handle mask) ≡ true
masked_follows N most due ready s handle mask o a =
    and_from (false || not s.ended) _ (ap not (running s handle.0 o a)) a

pub net_set : {H M Q W V N E : Type 0} (m : Meaning H M Q W V N E) (t : Terms)
    (old new : Core H M Q W V N E) (F : ℕ) (h : List (Entry N)) (handle : Handle) (mask : Mask)
    → SetsMaskOf (m.facts old.net) handle.0 mask (m.facts new.net)
    → ((t : Terms) → m.keeps t old.net → m.keeps t new.net) → Tracks m t old F h None []
    → NetKeeps m t old new (Masked handle mask ∷ past_of h)
net_set m t old new F h handle mask sets keeps o = record {
  stands = net_masked m.means t (past_of h) handle mask (m.facts old.net) (m.facts new.net) sets
      o.net;
  keeps = keeps t o.keeps;
  spare = sets.spare;
}
