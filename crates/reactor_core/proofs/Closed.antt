-- What the closing of a handler leaves.
use Rattle.std.proofs.Common.{ℕ, zero, suc, get_or, ◌≡◌, ◌<◌, ◌==◌, Bool, true, false, ◌||◌, List}
use Rattle.std.proofs.Common.{[], ◌∷◌, ◌++◌, map, reverse, length, refl, sym, ap, ◌∙◌, subst, arith}
use Rattle.std.proofs.Common.{Some, None, ⊎_elim}
use Rattle.std.proofs.lemmas.Bool.{false≢true, or_left, or_right, or_cases, eqb-true, eq-eqb}
use Rattle.std.specs.List.{list_any, Contains}
use Rattle.std.proofs.lemmas.List.Folds.{list_any-append}
use Rattle.std.proofs.lemmas.List.{reverse-reverse}
use mathlib.Core.List.{reverse-cons}
use Rattle.reactor_summary.specs.ev_types.specs.declared.upcall.Handle.{Handle}
use Rattle.reactor_summary.specs.ev_types.specs.declared.upcall.Why.{Why}
use Rattle.ev_base.specs.Terms.{Terms}
use Rattle.ev_base.specs.Net.{RetiresEnd}
use Rattle.reactor_model.specs.reactor_journal.specs.declared.entry.Entry.{Entry}
use Rattle.reactor_model.specs.reactor_journal.specs.declared.entry.Entry.TheVariants.{Closed}
use Rattle.reactor_model.specs.reactor_journal.specs.Past.{past_of, had, origin_of}
use Rattle.reactor_model.specs.reactor_journal.specs.Follow.{follows_due, follows_ready}
use Rattle.reactor_summary.specs.declared.parts.LiveHandle.{LiveHandle}
use Rattle.reactor_summary.specs.Summary.{Summary, summary, step}
use Rattle.handler_repo.specs.Seats as R
use Rattle.reactor_state.specs.State.{HasNumber}
use Rattle.reactor_core.specs.Handlers.{is_live, RepositoryStands}
use Rattle.reactor_core.specs.Ends.{live_numbers, number_of}
use Rattle.reactor_core.specs.Closing.{IsClosable}
use Rattle.reactor_core.specs.Stands.{Meaning, Tracks}
use Rattle.reactor_core.specs.declared.reactor.Core.{Core}
use Rattle.reactor_core.proofs.Moves.{seats_closed}
use Rattle.reactor_core.proofs.Ends.{net_closed}
use Rattle.reactor_core.proofs.Steps.{may_by, Appends, tracks_by}

-- ---- a live handle is attached

any_reversed : {A : Type 0} (p : A → Bool) (xs : List A) → list_any p xs ≡ true
    → list_any p (reverse xs) ≡ true
any_reversed p [] h = h
any_reversed p (x ∷ xs) h =
    ap (list_any p) (reverse-cons x xs)
    ∙ (list_any-append p (reverse xs) (x ∷ [])
    ∙ ⊎_elim
    (λ (k : p x ≡ true). or_right (list_any p (reverse xs)) (p x || false) (or_left (p x) false k))
    (λ (k : list_any p xs ≡ true). or_left (list_any p (reverse xs)) (p x || false)
    (any_reversed p xs k))
    (or_cases (p x) (list_any p xs) h))

numbers_contain : (x : ℕ) (hs : List LiveHandle)
    → list_any (λ (h : LiveHandle). h.handle.0 == x) hs ≡ true → Contains (map number_of hs) x
numbers_contain x [] h = absurd (false≢true h)
numbers_contain x (a ∷ hs) h =
    ⊎_elim
    (λ (k : (a.handle.0 == x) ≡ true). (0, omega arith, eqb-true a.handle.0 x k))
    (λ (k : list_any (λ (h : LiveHandle). h.handle.0 == x) hs ≡ true).
    let r : Contains (map number_of hs) x = numbers_contain x hs k in
    (suc r.0, omega (arith, r.1), r.2))
    (or_cases (a.handle.0 == x) _ h)

pub live_attached : (s : Summary) (x : ℕ) → is_live s x ≡ true → Contains (live_numbers s) x
live_attached s x h = numbers_contain x (reverse s.handles)
    (any_reversed (λ (h : LiveHandle). h.handle.0 == x) s.handles h)

contained_number : (x : ℕ) (hs : List LiveHandle) → Contains (map number_of hs) x
    → list_any (λ (h : LiveHandle). h.handle.0 == x) hs ≡ true
contained_number x [] c = absurd (omega (arith, c.1))
contained_number x (a ∷ hs) c = by_place c.0 c.1 c.2 (λ k. contained_number x hs k)
  where
    by_place : (i : ℕ) → i < length (map number_of (a ∷ hs))
        → get_or (map number_of (a ∷ hs)) i x ≡ x
        → (Contains (map number_of hs) x → list_any (λ (h : LiveHandle). h.handle.0 == x) hs ≡ true)
        → (a.handle.0 == x || list_any (λ (h : LiveHandle). h.handle.0 == x) hs) ≡ true
    by_place zero lt q rec = or_left (a.handle.0 == x) _ (eq-eqb a.handle.0 x q)
    by_place (suc i) lt q rec = or_right (a.handle.0 == x) _ (rec (i, omega (arith, lt), q))

any_unreversed : {A : Type 0} (p : A → Bool) (xs : List A) → list_any p (reverse xs) ≡ true
    → list_any p xs ≡ true
any_unreversed p xs h = subst (λ ys. list_any p ys ≡ true) (reverse-reverse xs)
    (any_reversed p (reverse xs) h)

pub attached_live : (s : Summary) (x : ℕ) → Contains (live_numbers s) x → is_live s x ≡ true
attached_live s x c = any_unreversed (λ (h : LiveHandle). h.handle.0 == x) s.handles
    (contained_number x (reverse s.handles) c)

-- ---- the close

pub record Closes {H M Q W V N E : Type 0} (m : Meaning H M Q W V N E)
    (old new : Core H M Q W V N E) (handle : Handle) (handler : H) (why : Why) (note : N)
    (end : E) : Type 0 where
  pub appends : Appends m old new (Closed handle note)
  pub repo : new.repo.entries ≡ R.without_handle handle.0 old.repo.entries
  pub state : (s : Summary) → m.shows old.state s → HasNumber s × (is_live s handle.0 ≡ true)
      → m.shows new.state (step {N = N} s (Closed handle note))
  pub net : RetiresEnd (m.facts old.net) handle.0 end (m.facts new.net)
  pub gone : (t : Terms) (past : List (Entry N)) → IsClosable m.means t past handle.0 handler why
      → m.means.gone t (origin_of past handle.0) end (had past handle.0) why note
  pub keeps : (t : Terms) (past : List (Entry N)) → IsClosable m.means t past handle.0 handler why
      → m.keeps t old.net → m.keeps t new.net

pub closed : {H M Q W V N E : Type 0} (m : Meaning H M Q W V N E) (t : Terms)
    (old new : Core H M Q W V N E) (F : ℕ) (h : List (Entry N)) (handle : Handle) (handler : H)
    (why : Why) (note : N) (end : E)
    → Closes m old new handle handler why note end
    → IsClosable m.means t (past_of h) handle.0 handler why → HasNumber (summary (past_of h))
    → Tracks m t old F h (Some handle.0) []
    → Tracks m t new F (h ++ Closed handle note ∷ []) None []
closed {N = N} m t old new F h handle handler why note end d can number o =
    let past : List (Entry N) = past_of h in
    let e : Entry N = Closed handle note in
    tracks_by m t old new F h e (Some handle.0) None [] [] o d.appends
    (may_by t.most h e (follows_due past) (follows_ready past) o.legal refl refl can.waits)
    (d.state (summary past) o.state (number, can.live))
    (subst (λ entries. RepositoryStands m.means t (e ∷ past) None entries) (sym d.repo)
    (seats_closed m.means t past handle note old.repo.entries o.repository))
    (net_closed m.means t past handle note end (m.facts old.net) (m.facts new.net) d.net
    (subst (λ w. m.means.gone t (origin_of past handle.0) end (had past handle.0) w note)
    (sym can.reason) (d.gone t past can)) o.net)
    (d.keeps t past can o.keeps)
