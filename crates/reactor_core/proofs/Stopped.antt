-- What `remove` and `stop` leave.
use Rattle.std.proofs.Common.{ℕ, zero, suc, ◌≡◌, ◌≤◌, ◌<◌, ◌+◌, ◌==◌, Bool, true, false, not, ◌&&◌}
use Rattle.std.proofs.Common.{◌||◌, List, [], ◌∷◌, ◌++◌, map, length, refl, sym, ap, ◌∙◌, subst}
use Rattle.std.proofs.Common.{arith, cond, Option, Some, None, option_map, ⊎_elim, append_assoc}
use Rattle.std.proofs.Common.{length-append}
use Rattle.std.proofs.lemmas.Bool.{and_parts, and_from, ne_eqb, le-leb, or_parts, or_left, or_right}
use Rattle.std.proofs.lemmas.Bool.{both_ways, cases_Bool, eq-eqb, cond-true, cond-false}
use Rattle.std.proofs.lemmas.List.{append-nil}
use Rattle.std.specs.List.{list_any, filter, find}
use Rattle.std.specs.Prelude.{nat_le}
use Rattle.reactor_summary.specs.ev_types.specs.declared.upcall.Handle.{Handle}
use Rattle.ev_base.specs.Terms.{Terms}
use Rattle.reactor_model.specs.reactor_journal.specs.declared.entry.Entry.{Entry}
use Rattle.reactor_model.specs.reactor_journal.specs.declared.entry.Entry.TheVariants.{Removed}
use Rattle.reactor_model.specs.reactor_journal.specs.declared.entry.Entry.TheVariants.{Closed}
use Rattle.reactor_model.specs.reactor_journal.specs.declared.entry.Entry.TheVariants.{Ended}
use Rattle.reactor_model.specs.reactor_journal.specs.Past as P
use Rattle.reactor_model.specs.reactor_journal.specs.Past.{past_of, count}
use Rattle.reactor_model.specs.reactor_journal.specs.Follow.{is_legal, may_follow, follows_due}
use Rattle.reactor_model.specs.reactor_journal.specs.Follow.{follows_ready}
use Rattle.reactor_core.proofs.Steps.{may_by, Appends, tracks_by}
use Rattle.reactor_core.proofs.Seats.{seats_quiet}
use Rattle.reactor_core.specs.Handlers.{RepositoryStands}
use Rattle.reactor_state.specs.State.{HasNumber, owed, no_places}
use Rattle.reactor_state.specs.declared.places.Places.{Places}
use Rattle.std.specs.Option.{option_to_list}
use Rattle.reactor_summary.specs.Tells as T
use Rattle.reactor_summary.specs.Tells.{Tells, Each, listed}
use Rattle.reactor_summary.proofs.Told.{told}
use Rattle.reactor_summary.proofs.Lists.{each_append, each_same, some_is}
use Rattle.reactor_core.proofs.Removed.{removed_dead}
use Rattle.reactor_model.specs.reactor_journal.proofs.Turning.{past_of-more}
use Rattle.reactor_summary.specs.declared.parts.LiveHandle.{LiveHandle}
use Rattle.reactor_summary.specs.Summary.{Summary, summary, step, is_alive, is_busy, some_wait}
use Rattle.reactor_summary.specs.Summary.{with_end, of_handle}
use Rattle.reactor_core.specs.Stands.{Meaning, NetStands, HasRoom, Stands, StandsQuiet, IsQuiet}
use Rattle.reactor_core.specs.Stands.{places_for}
use Rattle.reactor_core.specs.Settling.{IsClosing}
use Rattle.reactor_core.specs.Removing.{Removes, RemovesQuietly, AreRemovals, alive_handles}
use Rattle.reactor_core.specs.Removing.{RemovesFirst, RemovesSome, RemovesAll, Stops, StopsOnce}
use Rattle.reactor_core.specs.declared.reactor.Core.{Core}
use Rattle.reactor_core.proofs.Ends.{eqb_turned, net_quiet}
use Rattle.reactor_core.proofs.Start.{any_weaker}

not_from : (b : Bool) → (b ≡ true → ⊥) → b ≡ false
not_from b f = ⊎_elim (λ (t : b ≡ true). absurd (f t)) (λ (n : b ≡ false). n) (cases_Bool b)

-- ---- the summary after a removal

-- the past after it, by whether the handler is closed
pub past_behind : {N : Type 0} (h : List (Entry N)) (handle : Handle) (b : Bool)
    (es : List (Entry N)) (P : List (Entry N) → Type 0) → IsClosing b handle es
    → P (Removed handle ∷ past_of h) → ((note : N)
    → P (Closed handle note ∷ Removed handle ∷ past_of h))
    → P (past_of ((h ++ Removed handle ∷ []) ++ es))
past_behind h handle false es P c now later =
    subst P (sym (ap past_of (ap (λ x. (h ++ Removed handle ∷ []) ++ x) c
    ∙ append-nil (h ++ Removed handle ∷ [])) ∙ past_of-more h (Removed handle))) now
past_behind h handle true es P c now later =
    subst P (sym (ap past_of (ap (λ x. (h ++ Removed handle ∷ []) ++ x) c.1)
    ∙ (past_of-more (h ++ Removed handle ∷ []) (Closed handle c.0)
    ∙ ap (λ ps. Closed handle c.0 ∷ ps) (past_of-more h (Removed handle))))) (later c.0)

pub ended_behind : {N : Type 0} (h : List (Entry N)) (handle : Handle) (b : Bool)
    (es : List (Entry N)) → IsClosing b handle es
    → (summary (past_of ((h ++ Removed handle ∷ []) ++ es))).ended ≡ (summary (past_of h)).ended
ended_behind h handle b es c = past_behind h handle b es
    (λ ps. (summary ps).ended ≡ (summary (past_of h)).ended) c refl (λ note. refl)

pub busy_behind : {N : Type 0} (h : List (Entry N)) (handle : Handle) (b : Bool)
    (es : List (Entry N)) (y : ℕ) → IsClosing b handle es
    → is_busy (summary (past_of ((h ++ Removed handle ∷ []) ++ es))) y
    ≡ is_busy (summary (past_of h)) y
busy_behind h handle b es y c = past_behind h handle b es
    (λ ps. is_busy (summary ps) y ≡ is_busy (summary (past_of h)) y) c refl (λ note. refl)

-- ---- remove

pub alive_some : (s : Summary) (x : ℕ) → is_alive s x ≡ true
    → list_any (λ (h : LiveHandle). h.alive) s.handles ≡ true
alive_some s x h = any_weaker (λ (a : LiveHandle). a.handle.0 == x && a.alive)
    (λ (a : LiveHandle). a.alive) s.handles (λ a k. (and_parts (a.handle.0 == x) a.alive k).1) h

pub removes : {H M Q W V N E : Type 0} (m : Meaning H M Q W V N E) (t : Terms)
    (old new : Core H M Q W V N E) (F : ℕ) (h : List (Entry N)) (handle : Handle)
    → Stands m t old F h → is_alive (summary (past_of h)) handle.0 ≡ true
    → RemovesQuietly m t F h handle new → Removes m t F h handle new
removes m t old new F h handle st alive r = record {
  entries = r.entries;
  closing = r.closing;
  stands = record {
    tracks = r.stands.tracks;
    settled = record {
      none_waits = r.stands.quiet.none_waits;
      none_due = r.stands.quiet.none_due;
      none_alive = λ e. absurd (both_ways _
          (st.settled.none_alive (sym (ended_behind h handle
          (not (is_busy (summary (past_of h)) handle.0)) r.entries r.closing) ∙ e))
          (alive_some (summary (past_of h)) handle.0 alive));
    };
    room = r.stands.room;
  };
}

pub quiet_of : {H M Q W V N E : Type 0} (m : Meaning H M Q W V N E) (t : Terms)
    (core : Core H M Q W V N E) (F : ℕ) (h : List (Entry N)) → Stands m t core F h
    → StandsQuiet m t core F h
quiet_of m t core F h st = record {
  tracks = st.tracks;
  quiet = record { none_waits = st.settled.none_waits; none_due = st.settled.none_due };
  room = st.room;
}

-- ---- the handles that are alive

-- no two of them have one number
abbrev pub Apart : List LiveHandle → Type 0
Apart [] = Unit {0}
Apart (a ∷ hs) = Each (λ (b : LiveHandle). (a.handle.0 == b.handle.0) ≡ false) hs × Apart hs

apart_last : (hs : List LiveHandle) (b : LiveHandle) → Apart hs
    → Each (λ (a : LiveHandle). (a.handle.0 == b.handle.0) ≡ false) hs → Apart (hs ++ b ∷ [])
apart_last [] b a e = (tt, tt)
apart_last (x ∷ hs) b a e = (
  each_append (λ (y : LiveHandle). (x.handle.0 == y.handle.0) ≡ false) hs
      (b ∷ []) a.0 (e.0, tt),
  apart_last hs b a.1 e.1,
)

listed_below : {N : Type 0} (past : List (Entry N)) (n : ℕ)
    → Each (λ (a : LiveHandle). a.handle.0 < n) (listed (T.live_handle past) n)
listed_below past zero = tt
listed_below past (suc n) =
    each_append (λ (a : LiveHandle). a.handle.0 < suc n) (listed (T.live_handle past) n)
    (option_to_list (T.live_handle past n))
    (each_same (λ (a : LiveHandle). a.handle.0 < n) (λ (a : LiveHandle). a.handle.0 < suc n)
    (listed (T.live_handle past) n) (λ a lt. omega (arith, lt)) (listed_below past n))
    (last (P.was_closed past n))
  where
    last : (b : Bool) → Each (λ (a : LiveHandle). a.handle.0 < suc n)
        (option_to_list (cond b None (Some
        (record {
          handle = record { 0 = n };
          mask = P.mask_of past n;
          suspended = P.is_suspended past n;
          alive = P.is_alive past n;
        }))))
    last true = tt
    last false = (omega arith, tt)

listed_apart : {N : Type 0} (past : List (Entry N)) (n : ℕ) → Apart (listed (T.live_handle past) n)
listed_apart past zero = tt
listed_apart past (suc n) = last (P.was_closed past n) (listed_apart past n)
  where
    new : LiveHandle
    new = record {
      handle = record { 0 = n };
      mask = P.mask_of past n;
      suspended = P.is_suspended past n;
      alive = P.is_alive past n;
    }

    last : (b : Bool) → Apart (listed (T.live_handle past) n)
        → Apart (listed (T.live_handle past) n
        ++ option_to_list (cond b None (Some
        (record {
          handle = record { 0 = n };
          mask = P.mask_of past n;
          suspended = P.is_suspended past n;
          alive = P.is_alive past n;
        }))))
    last true a = subst Apart (sym (append-nil (listed (T.live_handle past) n))) a
    last false a = apart_last (listed (T.live_handle past) n)
        (record {
          handle = record { 0 = n };
          mask = P.mask_of past n;
          suspended = P.is_suspended past n;
          alive = P.is_alive past n;
        }) a
        (each_same (λ (x : LiveHandle). x.handle.0 < n)
        (λ (x : LiveHandle). (x.handle.0 == n) ≡ false) (listed (T.live_handle past) n)
        (λ x lt. ne_eqb x.handle.0 n (λ q. absurd (omega (arith, lt, q))))
        (listed_below past n))

pub handles_apart : {N : Type 0} (most : ℕ) (past : List (Entry N)) → is_legal most past ≡ true
    → Apart (summary past).handles
handles_apart most past legal = subst Apart (sym (told most past legal).handles)
    (listed_apart past (P.opened past))

-- the first that is alive
first_alive : (hs : List LiveHandle) (a : LiveHandle)
    → find (λ (h : LiveHandle). nat_le 0 h.handle.0 && h.alive) hs ≡ Some a
    → (rest : List LiveHandle) × (filter (λ (h : LiveHandle). h.alive) hs ≡ a ∷ rest)
first_alive [] a q = absurd (none q)
  where
    none : {B : Type 0} {b : B} → ◌≡◌ {A = Option B} None (Some b) → ⊥
    none k = cc
first_alive (x ∷ hs) a q = by_alive x.alive refl (λ k. first_alive hs a k)
  where
    zero_le : (nat_le 0 x.handle.0 && x.alive) ≡ x.alive
    zero_le = ap (λ b. b && x.alive) (le-leb 0 x.handle.0 (omega arith))

    by_alive : (b : Bool) → x.alive ≡ b
        → (find (λ (h : LiveHandle). nat_le 0 h.handle.0 && h.alive) hs ≡ Some a
        → (rest : List LiveHandle) × (filter (λ (h : LiveHandle). h.alive) hs ≡ a ∷ rest))
        → (rest : List LiveHandle) × (cond b (x ∷ filter (λ (h : LiveHandle). h.alive) hs)
        (filter (λ (h : LiveHandle). h.alive) hs) ≡ a ∷ rest)
    by_alive true r rec = (
      filter (λ (h : LiveHandle). h.alive) hs,
      ap (λ y. y ∷ filter (λ (h : LiveHandle). h.alive) hs)
          (some_is x a (sym (cond-true _ (Some x)
          (find (λ (h : LiveHandle). nat_le 0 h.handle.0 && h.alive) hs) (zero_le ∙ r)) ∙ q)),
    )
    by_alive false r rec = rec (sym (cond-false _ (Some x)
        (find (λ (h : LiveHandle). nat_le 0 h.handle.0 && h.alive) hs) (zero_le ∙ r)) ∙ q)

none_alive_of : (hs : List LiveHandle)
    → find (λ (h : LiveHandle). nat_le 0 h.handle.0 && h.alive) hs ≡ None
    → filter (λ (h : LiveHandle). h.alive) hs ≡ []
none_alive_of [] q = refl
none_alive_of (x ∷ hs) q = by_alive x.alive refl (λ k. none_alive_of hs k)
  where
    zero_le : (nat_le 0 x.handle.0 && x.alive) ≡ x.alive
    zero_le = ap (λ b. b && x.alive) (le-leb 0 x.handle.0 (omega arith))

    some : {B : Type 0} {b : B} → ◌≡◌ {A = Option B} (Some b) None → ⊥
    some k = cc

    by_alive : (b : Bool) → x.alive ≡ b
        → (find (λ (h : LiveHandle). nat_le 0 h.handle.0 && h.alive) hs ≡ None
        → filter (λ (h : LiveHandle). h.alive) hs ≡ [])
        → cond b (x ∷ filter (λ (h : LiveHandle). h.alive) hs)
        (filter (λ (h : LiveHandle). h.alive) hs) ≡ []
    by_alive true r rec = absurd (some
        (sym (cond-true _ (Some x) (find (λ (h : LiveHandle). nat_le 0 h.handle.0 && h.alive) hs)
        (zero_le ∙ r)) ∙ q))
    by_alive false r rec = rec (sym (cond-false _ (Some x)
        (find (λ (h : LiveHandle). nat_le 0 h.handle.0 && h.alive) hs) (zero_le ∙ r)) ∙ q)

pub next_is : (s : Summary) (result : Option Handle)
    → result ≡ option_map (λ (h : LiveHandle). h.handle)
    (find (λ (h : LiveHandle). nat_le 0 h.handle.0 && h.alive) s.handles) → (handle : Handle)
    → result ≡ Some handle
    → (a : LiveHandle) × (rest : List LiveHandle) × (a.handle ≡ handle)
    × (alive_handles s ≡ a ∷ rest)
next_is s result q handle r = by_found
    (find (λ (h : LiveHandle). nat_le 0 h.handle.0 && h.alive) s.handles) refl
  where
    none : {B : Type 0} {b : B} → ◌≡◌ {A = Option B} None (Some b) → ⊥
    none k = cc

    by_found : (o : Option LiveHandle)
        → find (λ (h : LiveHandle). nat_le 0 h.handle.0 && h.alive) s.handles ≡ o → (a : LiveHandle)
        × (rest : List LiveHandle) × (a.handle ≡ handle) × (alive_handles s ≡ a ∷ rest)
    by_found None f = absurd (none (sym (q ∙ ap (option_map (λ (h : LiveHandle). h.handle)) f) ∙ r))
    by_found (Some a) f = (
      a,
      (first_alive s.handles a f).0,
      some_is a.handle handle (sym (q ∙ ap (option_map (λ (h : LiveHandle). h.handle)) f) ∙ r),
      (first_alive s.handles a f).1,
    )

pub next_is_none : (s : Summary) (result : Option Handle)
    → result ≡ option_map (λ (h : LiveHandle). h.handle)
    (find (λ (h : LiveHandle). nat_le 0 h.handle.0 && h.alive) s.handles) → result ≡ None
    → alive_handles s ≡ []
next_is_none s result q r = by_found
    (find (λ (h : LiveHandle). nat_le 0 h.handle.0 && h.alive) s.handles) refl
  where
    some : {B : Type 0} {b : B} → ◌≡◌ {A = Option B} (Some b) None → ⊥
    some k = cc

    by_found : (o : Option LiveHandle)
        → find (λ (h : LiveHandle). nat_le 0 h.handle.0 && h.alive) s.handles ≡ o
        → alive_handles s ≡ []
    by_found None f = none_alive_of s.handles f
    by_found (Some a) f = absurd (some
        (sym (q ∙ ap (option_map (λ (h : LiveHandle). h.handle)) f) ∙ r))

-- its life ends: the others stay
ended_none : (handle : Handle) (hs : List LiveHandle)
    → Each (λ (b : LiveHandle). (handle.0 == b.handle.0) ≡ false) hs
    → map (with_end (of_handle handle)) hs ≡ hs
ended_none handle [] e = refl
ended_none handle (b ∷ hs) e = ap (λ x. x ∷ map (with_end (of_handle handle)) hs)
    (cond-false (handle.0 == b.handle.0) (record b { alive = false }) b e.0)
    ∙ ap (λ x. b ∷ x) (ended_none handle hs e.1)

alive_ended : (hs : List LiveHandle) (first : LiveHandle) (rest : List LiveHandle) → Apart hs
    → filter (λ (h : LiveHandle). h.alive) hs ≡ first ∷ rest
    → filter (λ (h : LiveHandle). h.alive) (map (with_end (of_handle first.handle)) hs) ≡ rest
alive_ended [] first rest a q = absurd (none q)
  where
    none : {B : Type 0} {b : B} {bs : List B} → ◌≡◌ {A = List B} [] (b ∷ bs) → ⊥
    none k = cc
alive_ended (x ∷ hs) first rest a q = by_alive x.alive refl (λ k. alive_ended hs first rest a.1 k)
  where
    heads : {B : Type 0} {b c : B} {bs cs : List B} → b ∷ bs ≡ c ∷ cs → (b ≡ c) × (bs ≡ cs)
    heads k = (cc, cc)

    by_alive : (b : Bool) → x.alive ≡ b
        → (filter (λ (h : LiveHandle). h.alive) hs ≡ first ∷ rest
        → filter (λ (h : LiveHandle). h.alive) (map (with_end (of_handle first.handle)) hs) ≡ rest)
        → filter (λ (h : LiveHandle). h.alive) (map (with_end (of_handle first.handle)) (x ∷ hs))
        ≡ rest
    by_alive true r rec =
        let both : (x ≡ first) × (filter (λ (h : LiveHandle). h.alive) hs ≡ rest) =
        heads (sym (cond-true x.alive (x ∷ filter (λ (h : LiveHandle). h.alive) hs)
        (filter (λ (h : LiveHandle). h.alive) hs) r) ∙ q) in
        let dead : (with_end (of_handle first.handle) x).alive ≡ false =
        ap (λ b. (cond b (record x { alive = false }) x).alive)
        (eq-eqb first.handle.0 x.handle.0 (ap (λ (y : LiveHandle). y.handle.0) (sym both.0))) in
        cond-false (with_end (of_handle first.handle) x).alive _ _ dead
        ∙ (ap (filter (λ (h : LiveHandle). h.alive))
        (ended_none first.handle hs (subst
        (λ (y : LiveHandle). Each (λ (b : LiveHandle). (y.handle.0 == b.handle.0) ≡ false) hs)
        both.0 a.0)) ∙ both.1)
    by_alive false r rec =
        cond-false (with_end (of_handle first.handle) x).alive _ _
        (still (first.handle.0 == x.handle.0))
        ∙ rec (sym (cond-false x.alive (x ∷ filter (λ (h : LiveHandle). h.alive) hs)
        (filter (λ (h : LiveHandle). h.alive) hs) r) ∙ q)
      where
        still : (b : Bool) → (cond b (record x { alive = false }) x).alive ≡ false
        still true = refl
        still false = r

-- and the dead one is closed
alive_closed : (x : ℕ) (hs : List LiveHandle)
    → list_any (λ (h : LiveHandle). h.handle.0 == x && h.alive) hs ≡ false
    → filter (λ (h : LiveHandle). h.alive) (filter (λ (h : LiveHandle). not (x == h.handle.0)) hs)
    ≡ filter (λ (h : LiveHandle). h.alive) hs
alive_closed x [] d = refl
alive_closed x (h ∷ hs) d = by_cases (x == h.handle.0) refl h.alive refl
    (alive_closed x hs (or_parts _ _ d).1)
  where
    gone : (x == h.handle.0) ≡ true → h.alive ≡ false
    gone q = not_from h.alive (λ k. both_ways _ (or_parts _ _ d).0
        (and_from (h.handle.0 == x) h.alive (eqb_turned h.handle.0 x ∙ q) k))

    by_cases : (b : Bool) → (x == h.handle.0) ≡ b → (c : Bool) → h.alive ≡ c
        → filter (λ (h : LiveHandle). h.alive)
        (filter (λ (h : LiveHandle). not (x == h.handle.0)) hs)
        ≡ filter (λ (h : LiveHandle). h.alive) hs
        → filter (λ (h : LiveHandle). h.alive)
        (cond (not b) (h ∷ filter (λ (h : LiveHandle). not (x == h.handle.0)) hs)
        (filter (λ (h : LiveHandle). not (x == h.handle.0)) hs))
        ≡ filter (λ (h : LiveHandle). h.alive) (h ∷ hs)
    by_cases true q c r rec = rec ∙ sym
        (cond-false h.alive (h ∷ filter (λ (h : LiveHandle). h.alive) hs)
        (filter (λ (h : LiveHandle). h.alive) hs) (gone q))
    by_cases false q c r rec = ap (λ y. cond h.alive (h ∷ y) y) rec

pub alive_left : {N : Type 0} (most : ℕ) (h : List (Entry N)) (first : LiveHandle)
    (rest : List LiveHandle) (b : Bool) (es : List (Entry N))
    → is_legal most (Removed first.handle ∷ past_of h) ≡ true
    → alive_handles (summary (past_of h)) ≡ first ∷ rest
    → IsClosing b first.handle es → alive_handles
    (summary (past_of ((h ++ Removed first.handle ∷ []) ++ es))) ≡ rest
alive_left {N} most h first rest b es legal are c =
    let one : alive_handles (summary (Removed first.handle ∷ past_of h)) ≡ rest =
    alive_ended (summary (past_of h)).handles first rest
    (handles_apart most (past_of h) (and_parts
    (may_follow most (past_of h) (Removed first.handle)) _ legal).1) are in
    past_behind h first.handle b es (λ ps. alive_handles (summary ps) ≡ rest) c one
    (λ note. alive_closed first.handle.0
    (step {N = N} (summary (past_of h)) (Removed first.handle)).handles
    (removed_dead most (past_of h) first.handle legal) ∙ one)

first_is_alive : (hs : List LiveHandle) (a : LiveHandle) (rest : List LiveHandle)
    → filter (λ (h : LiveHandle). h.alive) hs ≡ a ∷ rest
    → list_any (λ (h : LiveHandle). h.handle.0 == a.handle.0 && h.alive) hs ≡ true
first_is_alive [] a rest q = absurd (none q)
  where
    none : {B : Type 0} {b : B} {bs : List B} → ◌≡◌ {A = List B} [] (b ∷ bs) → ⊥
    none k = cc
first_is_alive (x ∷ hs) a rest q = by_alive x.alive refl (λ k. first_is_alive hs a rest k)
  where
    head : {B : Type 0} {b c : B} {bs cs : List B} → b ∷ bs ≡ c ∷ cs → b ≡ c
    head k = cc

    by_alive : (b : Bool) → x.alive ≡ b
        → (filter (λ (h : LiveHandle). h.alive) hs ≡ a ∷ rest
        → list_any (λ (h : LiveHandle). h.handle.0 == a.handle.0 && h.alive) hs ≡ true)
        → ((x.handle.0 == a.handle.0 && x.alive)
        || list_any (λ (h : LiveHandle). h.handle.0 == a.handle.0 && h.alive) hs) ≡ true
    by_alive true r rec =
        let same : x ≡ a = head (sym (cond-true x.alive
        (x ∷ filter (λ (h : LiveHandle). h.alive) hs) (filter (λ (h : LiveHandle). h.alive) hs)
        r) ∙ q) in
        or_left (x.handle.0 == a.handle.0 && x.alive) _
        (and_from (x.handle.0 == a.handle.0) x.alive
        (eq-eqb x.handle.0 a.handle.0 (ap (λ (y : LiveHandle). y.handle.0) same)) r)
    by_alive false r rec = or_right (x.handle.0 == a.handle.0 && x.alive) _
        (rec (sym (cond-false x.alive (x ∷ filter (λ (h : LiveHandle). h.alive) hs)
        (filter (λ (h : LiveHandle). h.alive) hs) r) ∙ q))

pub alive_first : (s : Summary) (a : LiveHandle) (rest : List LiveHandle) (handle : Handle)
    → a.handle ≡ handle → alive_handles s ≡ a ∷ rest → is_alive s handle.0 ≡ true
alive_first s a rest handle same are =
    subst (λ (k : Handle). is_alive s k.0 ≡ true) same (first_is_alive s.handles a rest are)

pub removes_first : {H M Q W V N E : Type 0} (m : Meaning H M Q W V N E) (t : Terms)
    (old new : Core H M Q W V N E) (F : ℕ) (h : List (Entry N)) (handle : Handle) (a : LiveHandle)
    (rest : List LiveHandle)
    → a.handle ≡ handle → alive_handles (summary (past_of h)) ≡ a ∷ rest → StandsQuiet m t old F h
    → RemovesQuietly m t F h handle new → RemovesFirst m t F h new
removes_first m t old new F h handle a rest same are st r =
    let mine : RemovesQuietly m t F h a.handle new =
    subst (λ (k : Handle). RemovesQuietly m t F h k new) (sym same) r in
    let may : may_follow t.most (past_of h) (Removed a.handle) ≡ true =
    may_by t.most h (Removed a.handle) (follows_due (past_of h)) (follows_ready (past_of h))
    st.tracks.legal refl refl (first_is_alive (summary (past_of h)).handles a rest are) in
    record {
      first = a;
      rest = rest;
      are = are;
      removes = mine;
      left = alive_left t.most h a rest (not (is_busy (summary (past_of h)) a.handle.0))
          mine.entries (and_from (may_follow t.most (past_of h) (Removed a.handle)) _ may
          st.tracks.legal) are mine.closing;
      busy = λ y. busy_behind h a.handle (not (is_busy (summary (past_of h)) a.handle.0))
          mine.entries y mine.closing;
      ended = ended_behind h a.handle (not (is_busy (summary (past_of h)) a.handle.0)) mine.entries
          mine.closing;
    }

-- ---- one after another

removals_same : {N : Type 0} (busy busy' : ℕ → Bool) (hs : List LiveHandle) (es : List (Entry N))
    → ((y : ℕ) → busy y ≡ busy' y) → AreRemovals busy hs es → AreRemovals busy' hs es
removals_same busy busy' [] es q r = r
removals_same busy busy' (h ∷ hs) es q r = (
  r.0,
  r.1,
  subst (λ b. IsClosing (not b) h.handle r.0) (q h.handle.0) r.2,
  removals_same busy busy' hs r.1 q r.3,
  r.4,
)

removals_last : {N : Type 0} (busy : ℕ → Bool) (hs : List LiveHandle) (es : List (Entry N))
    (x : LiveHandle) (closing : List (Entry N)) → AreRemovals busy hs es
    → IsClosing (not (busy x.handle.0)) x.handle closing
    → AreRemovals busy (hs ++ x ∷ []) (es ++ Removed x.handle ∷ closing)
removals_last busy [] es x closing r c = (
  closing,
  [],
  c,
  refl,
  ap (λ ys. ys ++ Removed x.handle ∷ closing) r
      ∙ ap (λ ys. Removed x.handle ∷ ys) (sym (append-nil closing)),
)
removals_last busy (h ∷ hs) es x closing r c = (
  r.0,
  r.1 ++ Removed x.handle ∷ closing,
  r.2,
  removals_last busy hs r.1 x closing r.3 c,
  ap (λ ys. ys ++ Removed x.handle ∷ closing) r.4
      ∙ ap (λ ys. Removed h.handle ∷ ys) (append_assoc r.0 r.1 (Removed x.handle ∷ closing)),
)

pub removes_none : {H M Q W V N E : Type 0} (m : Meaning H M Q W V N E) (t : Terms)
    (core : Core H M Q W V N E) (F : ℕ) (h : List (Entry N)) → StandsQuiet m t core F h
    → RemovesSome m 0 t F h core
removes_none m t core F h st = record {
  entries = [];
  done = [];
  left = alive_handles (summary (past_of h));
  split = refl;
  many = refl;
  removals = refl;
  stands = subst (λ hs. StandsQuiet m t core F hs) (sym (append-nil h)) st;
  are_left = ap (λ hs. alive_handles (summary (past_of hs))) (append-nil h);
  busy = λ y. ap (λ hs. is_busy (summary (past_of hs)) y) (append-nil h);
}

pub removes_more : {H M Q W V N E : Type 0} (m : Meaning H M Q W V N E) (k : ℕ) (t : Terms)
    (old new : Core H M Q W V N E) (F : ℕ) (h : List (Entry N)) (r : RemovesSome m k t F h old)
    → RemovesFirst m t F (h ++ r.entries) new → RemovesSome m (k + 1) t F h new
removes_more {N = N} m k t old new F h r f =
    let next : List (Entry N) = Removed f.first.handle ∷ f.removes.entries in
    let whole : h ++ (r.entries ++ next)
    ≡ ((h ++ r.entries) ++ Removed f.first.handle ∷ []) ++ f.removes.entries =
    sym (append_assoc h r.entries next)
    ∙ sym (append_assoc (h ++ r.entries) (Removed f.first.handle ∷ []) f.removes.entries) in
    let left : r.left ≡ f.first ∷ f.rest = sym r.are_left ∙ f.are in
    let many : length (r.done ++ f.first ∷ []) ≡ length r.done + 1 =
    length-append r.done (f.first ∷ []) in
    record {
      entries = r.entries ++ next;
      done = r.done ++ f.first ∷ [];
      left = f.rest;
      split = r.split ∙ (ap (λ ys. r.done ++ ys) left
          ∙ sym (append_assoc r.done (f.first ∷ []) f.rest));
      many = omega (arith, many, r.many);
      removals = removals_last (is_busy (summary (past_of h))) r.done r.entries f.first
          f.removes.entries r.removals (subst
          (λ b. IsClosing (not b) f.first.handle f.removes.entries) (r.busy f.first.handle.0)
          f.removes.closing);
      stands = subst (λ hs. StandsQuiet m t new F hs) (sym whole) f.removes.stands;
      are_left = ap (λ hs. alive_handles (summary (past_of hs))) whole ∙ f.left;
      busy = λ y. ap (λ hs. is_busy (summary (past_of hs)) y) whole ∙ (f.busy y ∙ r.busy y);
    }

pub removes_all : {H M Q W V N E : Type 0} (m : Meaning H M Q W V N E) (k : ℕ) (t : Terms)
    (core : Core H M Q W V N E) (F : ℕ) (h : List (Entry N)) (r : RemovesSome m k t F h core)
    → r.left ≡ [] → RemovesAll m t F h core
removes_all m k t core F h r none = record {
  entries = r.entries;
  removals = subst (λ hs. AreRemovals (is_busy (summary (past_of h))) hs r.entries)
      (sym (r.split ∙ (ap (λ ys. r.done ++ ys) none ∙ append-nil r.done))) r.removals;
  stands = r.stands;
  none_alive = r.are_left ∙ none;
}

count_filter : (hs : List LiveHandle)
    → count (λ (h : LiveHandle). h.alive) hs ≡ length (filter (λ (h : LiveHandle). h.alive) hs)
count_filter [] = refl
count_filter (h ∷ hs) = by_alive h.alive (count_filter hs)
  where
    by_alive : (b : Bool) → count (λ (h : LiveHandle). h.alive) hs
        ≡ length (filter (λ (h : LiveHandle). h.alive) hs)
        → cond b (suc (count (λ (h : LiveHandle). h.alive) hs))
        (count (λ (h : LiveHandle). h.alive) hs)
        ≡ length (cond b (h ∷ filter (λ (h : LiveHandle). h.alive) hs)
        (filter (λ (h : LiveHandle). h.alive) hs))
    by_alive true r = ap suc r
    by_alive false r = r

-- as many as there were: none is left
pub none_left_of : {H M Q W V N E : Type 0} (m : Meaning H M Q W V N E) (k : ℕ) (t : Terms)
    (core : Core H M Q W V N E) (F : ℕ) (h : List (Entry N)) (r : RemovesSome m k t F h core)
    → count (λ (h : LiveHandle). h.alive) (summary (past_of h)).handles ≤ k → r.left ≡ []
none_left_of m k t core F h r le =
    let all : length (alive_handles (summary (past_of h))) ≡ length r.done + length r.left =
    ap length r.split ∙ length-append r.done r.left in
    empty r.left (omega (arith, all, count_filter (summary (past_of h)).handles, r.many, le))
  where
    empty : (xs : List LiveHandle) → length xs ≡ 0 → xs ≡ []
    empty [] q = refl
    empty (x ∷ xs) q = cc

-- there was none: all were removed
pub removes_stopped : {H M Q W V N E : Type 0} (m : Meaning H M Q W V N E) (k : ℕ) (t : Terms)
    (core new : Core H M Q W V N E) (F : ℕ) (h : List (Entry N)) (r : RemovesSome m k t F h core)
    → new ≡ core → alive_handles (summary (past_of (h ++ r.entries))) ≡ []
    → RemovesAll m t F h new
removes_stopped m k t core new F h r same none =
    subst (λ c. RemovesAll m t F h c) (sym same)
    (removes_all m k t core F h r (sym r.are_left ∙ none))

-- ---- stop

pub record Ends {H M Q W V N E : Type 0} (m : Meaning H M Q W V N E)
    (old new : Core H M Q W V N E) : Type 0 where
  pub appends : Appends m old new Ended
  pub spare : new.journal.spare + 1 ≡ old.journal.spare
  pub state : (s : Summary) → m.shows old.state s → HasNumber s
      → m.shows new.state (step {N = N} s Ended)
  pub places : (p : Places) → m.places p old.state → m.places p new.state
  pub repo : new.repo ≡ old.repo
  pub net : new.net ≡ old.net

owed_ended : (N : Type 0) (s : Summary) → s.ended ≡ false → owed (step {N = N} s Ended) + 1 ≡ owed s
owed_ended N s q = let one : ◌≡◌ {A = ℕ} (cond s.ended 0 1) 1 = cond-false s.ended 0 1 q in
    omega (arith, one)

pub ended_on : {H M Q W V N E : Type 0} (m : Meaning H M Q W V N E) (t : Terms)
    (old new : Core H M Q W V N E) (F : ℕ) (h : List (Entry N)) → Ends m old new
    → (summary (past_of h)).ended ≡ false → Stands m t old F h
    → StandsQuiet m t new F (h ++ Ended ∷ [])
ended_on {N = N} m t old new F h d running st =
    let past : List (Entry N) = past_of h in
    let same : past_of (h ++ Ended ∷ []) ≡ Ended ∷ past = past_of-more h Ended in
    let owes : owed (step {N = N} (summary past) Ended) + 1 ≡ owed (summary past) =
    owed_ended N (summary past) running in
    let room = st.room in
    let number : HasNumber (summary past) = omega (arith, room.numbers, owes) in
    let may : may_follow t.most past Ended ≡ true =
    may_by t.most h Ended (follows_due past) (follows_ready past) st.tracks.legal refl refl
    (and_from (false || not (summary past).ended) (not (some_wait (summary past)))
    (ap not running) (ap not st.settled.none_waits)) in
    let kept : HasRoom m 0 no_places new (summary (Ended ∷ past)) = record {
      journal = omega (arith, room.journal, owes, d.spare);
      numbers = omega (arith, room.numbers, owes);
      state = d.places (places_for (length (summary past).opens) no_places) room.state;
      repository = let r = ap (λ r. r.spare) d.repo in omega (arith, room.repository, r);
      net = let r = ap (λ n. (m.facts n).spare) d.net in omega (arith, room.net, r);
    } in
    record {
      tracks = tracks_by m t old new F h Ended None None [] [] st.tracks d.appends may
          (d.state (summary past) st.tracks.state number)
          (subst (λ repo. RepositoryStands m.means t (Ended ∷ past) None repo.entries) (sym d.repo)
          (seats_quiet m.means t Ended past None old.repo.entries refl st.tracks.repository))
          (subst (λ net. NetStands m.means t (Ended ∷ past) [] (m.facts net)) (sym d.net)
          (net_quiet m.means t Ended past [] (m.facts old.net) refl st.tracks.net))
          (subst (λ net. m.keeps t net) (sym d.net) st.tracks.keeps);
      quiet = subst (λ ps. IsQuiet (summary ps)) (sym same)
          (record { none_waits = st.settled.none_waits; none_due = st.settled.none_due });
      room = subst (λ ps. HasRoom m 0 no_places new (summary ps)) (sym same) kept;
    }

none_of : (hs : List LiveHandle) → filter (λ (h : LiveHandle). h.alive) hs ≡ []
    → list_any (λ (h : LiveHandle). h.alive) hs ≡ false
none_of [] q = refl
none_of (h ∷ hs) q = by_alive h.alive refl (λ k. none_of hs k)
  where
    some : {B : Type 0} {b : B} {bs : List B} → ◌≡◌ {A = List B} (b ∷ bs) [] → ⊥
    some k = cc

    by_alive : (b : Bool) → h.alive ≡ b
        → (filter (λ (h : LiveHandle). h.alive) hs ≡ []
        → list_any (λ (h : LiveHandle). h.alive) hs ≡ false)
        → (b || list_any (λ (h : LiveHandle). h.alive) hs) ≡ false
    by_alive true r rec = absurd (some
        (sym (cond-true h.alive (h ∷ filter (λ (h : LiveHandle). h.alive) hs)
        (filter (λ (h : LiveHandle). h.alive) hs) r) ∙ q))
    by_alive false r rec = rec (sym (cond-false h.alive
        (h ∷ filter (λ (h : LiveHandle). h.alive) hs) (filter (λ (h : LiveHandle). h.alive) hs) r)
        ∙ q)

pub stops : {H M Q W V N E : Type 0} (m : Meaning H M Q W V N E) (t : Terms)
    (new : Core H M Q W V N E) (F : ℕ) (h : List (Entry N)) → RemovesAll m t F (h ++ Ended ∷ []) new
    → Stops m t F h new
stops {N = N} m t new F h r =
    let same : past_of (h ++ Ended ∷ []) ≡ Ended ∷ past_of h = past_of-more h Ended in
    record {
      entries = r.entries;
      removals = subst (λ ps. AreRemovals (is_busy (summary ps)) (alive_handles (summary ps))
          r.entries) same r.removals;
      stands = record {
        tracks = r.stands.tracks;
        settled = record {
          none_waits = r.stands.quiet.none_waits;
          none_due = r.stands.quiet.none_due;
          none_alive =
              λ _. none_of (summary (past_of ((h ++ Ended ∷ []) ++ r.entries))).handles
              r.none_alive;
        };
        room = r.stands.room;
      };
    }

pub stops_once : {H M Q W V N E : Type 0} (m : Meaning H M Q W V N E) (t : Terms)
    (new : Core H M Q W V N E) (F : ℕ) (h : List (Entry N)) (ended : Bool)
    → (summary (past_of h)).ended ≡ ended → StopsOnce m t F h new ended
    → StopsOnce m t F h new (summary (past_of h)).ended
stops_once m t new F h ended q s = subst (λ b. StopsOnce m t F h new b) (sym q) s
