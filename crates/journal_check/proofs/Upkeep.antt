-- The two sets of the checker, entry by entry.
use Rattle.std.proofs.Common.{ℕ, ◌≡◌, ◌<◌, ◌≤◌, ◌==◌, Bool, true, false, not, ◌&&◌, refl, sym, ap}
use Rattle.std.proofs.Common.{◌∙◌, subst, arith, cond, Option, Some, None, option_map, ⊎_elim}
use Rattle.std.proofs.lemmas.Bool.{both_ways, false_from_ne_true, and_parts, and_from, cases_Bool}
use Rattle.std.proofs.lemmas.Bool.{cases_eq, eq-eqb, ne_eqb, eqb-true, cond-true, cond-false}
use Rattle.std.specs.List.{list_any}
use Rattle.std.specs.Ordering.{nat_cmp, is_eq, is_gt}
use Rattle.std.specs.declared.cmp.Ordering.{Ordering}
use Rattle.std.specs.declared.cmp.Ordering.TheVariants.{Less, Equal, Greater}
use Rattle.ev_types.specs.declared.upcall.Handle.{Handle}
use Rattle.reactor_journal.specs.Past.{class_of}
use Rattle.reactor_journal.specs.declared.entry.Entry.{Entry}
use Rattle.reactor_journal.proofs.Picking.{first_trans}
use Rattle.reactor_summary.specs.declared.parts.LiveHandle.{LiveHandle}
use Rattle.reactor_summary.specs.declared.parts.WaitingEvent.{WaitingEvent}
use Rattle.reactor_summary.specs.Summary as S
use Rattle.reactor_summary.specs.Summary.{Summary}
use Rattle.reactor_summary.proofs.Lists.{some_is}
use Rattle.journal_check.specs.Index.{pair_cmp}
use Rattle.journal_check.specs.Fronts.{front, front_key, key_of, number_of, pick_number, IsUpToDate}
use Rattle.journal_check.specs.Fronts.{IsAbout, Adds, Drops, Replaces}
use Rattle.journal_check.specs.Sound.{IsSound}
use Rattle.journal_check.proofs.Keyed.{any_member}
use Rattle.journal_check.proofs.Timed.{pair_exact, pair_same}
use Rattle.journal_check.proofs.Lanes.{num_test, Before, pair_before}
use Rattle.journal_check.proofs.Best.{First, Picks, goes, goes_class, goes_number, summary_picks}
use Rattle.journal_check.proofs.Best.{picks_one, front_is}
use Rattle.journal_check.proofs.Fronts.{Apart, key_same, waits_same}

-- ---- keys

pub record Keyed (s : Summary) (x : ℕ) (k : ℕ × ℕ) : Type 0 where
  pub w : WaitingEvent
  pub free : S.is_free s x ≡ true
  pub front : front s.waiting x ≡ Some w
  pub key : key_of w ≡ k

keyed : (s : Summary) (x : ℕ) (k : ℕ × ℕ) → front_key s x ≡ Some k → Keyed s x k
keyed s x k q = by_free (S.is_free s x) refl (front s.waiting x) refl q
  where
    none : ◌≡◌ {A = Option (ℕ × ℕ)} None (Some k) → ⊥
    none h = cc

    some : (a : ℕ × ℕ) → ◌≡◌ {A = Option (ℕ × ℕ)} (Some a) (Some k) → a ≡ k
    some a h = cc

    by_free : (b : Bool) → S.is_free s x ≡ b → (o : Option WaitingEvent) → front s.waiting x ≡ o
        → cond b (option_map key_of o) None ≡ Some k → Keyed s x k
    by_free false f o is h = absurd (none h)
    by_free true f None is h = absurd (none h)
    by_free true f (Some w) is h = record { w = w; free = f; front = is; key = some (key_of w) h }

pub key_from : (s : Summary) (x : ℕ) (w : WaitingEvent) → S.is_free s x ≡ true
    → front s.waiting x ≡ Some w → front_key s x ≡ Some (key_of w)
key_from s x w free is = cond-true (S.is_free s x) (option_map key_of (front s.waiting x)) None free
    ∙ ap (option_map key_of) is

pub no_key : (s : Summary) (x : ℕ) → front s.waiting x ≡ None → None ≡ front_key s x
no_key s x is = sym (ap (λ o. cond (S.is_free s x) (option_map key_of o) None) is
    ∙ either (S.is_free s x))
  where
    either : (b : Bool) → ◌≡◌ {A = Option (ℕ × ℕ)} (cond b None None) None
    either true = refl
    either false = refl

-- the front is the first of its handle
first_of_handle : (s : Summary) (sound : IsSound s) (x : ℕ) (w : WaitingEvent)
    → front s.waiting x ≡ Some w → First sound.event sound.bound (λ v. x == v.handle.0) 0 w
first_of_handle s sound x w is = subst (Picks sound.event sound.bound (λ v. x == v.handle.0) 0) is
    (front_is sound.event sound.bound x s.waiting sound.listed sound.own)

-- two handles have two keys
keys_apart : (s : Summary) (sound : IsSound s) (x y : ℕ) (k : ℕ × ℕ) → front_key s x ≡ Some k
    → front_key s y ≡ Some k → x ≡ y
keys_apart s sound x y k p q =
    let a : Keyed s x k = keyed s x k p in
    let b : Keyed s y k = keyed s y k q in
    let fa : First sound.event sound.bound (λ v. x == v.handle.0) 0 a.w =
    first_of_handle s sound x a.w a.front in
    let fb : First sound.event sound.bound (λ v. y == v.handle.0) 0 b.w =
    first_of_handle s sound y b.w b.front in
    let number : a.w.event ≡ b.w.event = ap (λ (c : ℕ × ℕ). c.1) (a.key ∙ sym b.key) in
    let same : a.w ≡ b.w = some_is a.w b.w (sym fa.is ∙ (ap sound.event number ∙ fb.is)) in
    eqb-true x a.w.handle.0 fa.passes ∙ (ap (λ (v : WaitingEvent). v.handle.0) same
    ∙ sym (eqb-true y b.w.handle.0 fb.passes))

-- ---- an entry that is about no handle

pub kept_none : {N : Type 0} (e : Entry N) (s : Summary) (fronts : ℕ × ℕ → Bool)
    (closing : ℕ → Bool) → IsSound s → IsAbout s e None → IsUpToDate s fronts closing
    → IsUpToDate (S.step s e) fronts closing
kept_none e s fronts closing sound about u =
    record {
      front = λ k h. let r : (x : ℕ) × (front_key s x ≡ Some k) = u.front k h in
          (r.0, key_same e s r.0 None sound about (apart r.0) ∙ r.1);
      has = λ k x q. u.has k x (sym (key_same e s x None sound about (apart x)) ∙ q);
      waits = λ x. u.waits x ∙ sym (waits_same e s x None sound about (apart x));
    }
  where
    apart : (x : ℕ) → Apart x None
    apart x h q = absurd (none q)
      where
        none : ◌≡◌ {A = Option Handle} None (Some h) → ⊥
        none d = cc

-- ---- an entry that is about one

handle_of_some : (a b : Handle) → ◌≡◌ {A = Option Handle} (Some a) (Some b) → a ≡ b
handle_of_some a b q = cc

is_equal : (o : Ordering) → is_eq o ≡ true → o ≡ Equal
is_equal Less h = absurd cc
is_equal Equal h = refl
is_equal Greater h = absurd cc

pub kept_one : {N : Type 0} (e : Entry N) (s : Summary) (handle : Handle)
    (before after : Option (ℕ × ℕ)) (fronts less more : ℕ × ℕ → Bool) (closing marked : ℕ → Bool)
    (waits : Bool) → IsSound s → IsAbout s e (Some handle) → IsUpToDate s fronts closing
    → before ≡ front_key s handle.0 → Drops before fronts less
    → after ≡ front_key (S.step s e) handle.0 → Adds after less more
    → waits ≡ S.waits_for_closed (S.step s e) handle.0
    → ((x : ℕ) → marked x ≡ cond (is_eq (nat_cmp handle.0 x)) waits (closing x))
    → IsUpToDate (S.step s e) more marked
kept_one {N} e s handle before after fronts less more closing marked waits sound about u was drops
    now adds over marks =
    record {
      front = λ k h. by_added after now adds k h;
      has = λ k x q.
          ⊎_elim
          (λ (m : x ≡ handle.0). here after adds k
          (now ∙ (ap (front_key (S.step s e)) (sym m) ∙ q)))
          (λ (m : x ≡ handle.0 → ⊥). let old : front_key s x ≡ Some k =
          sym (key_same e s x (Some handle) sound about (apart x m)) ∙ q in
          still after adds k (stays before was drops k x m old))
          (cases_eq x handle.0);
      waits = λ x.
          ⊎_elim
          (λ (m : handle.0 ≡ x). marks x ∙ (cond-true (is_eq (nat_cmp handle.0 x)) waits (closing x)
          (sym (num_test handle.0 x) ∙ eq-eqb handle.0 x m)
          ∙ (over ∙ ap (S.waits_for_closed (S.step s e)) m)))
          (λ (m : handle.0 ≡ x → ⊥).
          marks x
          ∙ (cond-false (is_eq (nat_cmp handle.0 x)) waits (closing x)
          (sym (num_test handle.0 x) ∙ ne_eqb handle.0 x m)
          ∙ (u.waits x ∙ sym (waits_same e s x (Some handle) sound about
          (apart x (λ q. m (sym q)))))))
          (cases_eq handle.0 x);
    }
  where
    apart : (x : ℕ) → (x ≡ handle.0 → ⊥) → Apart x (Some handle)
    apart x n h q same = n (same ∙ ap (λ (g : Handle). g.0) (sym (handle_of_some handle h q)))

    equal_key : (k q : ℕ × ℕ) → is_eq (pair_cmp k q) ≡ true → k ≡ q
    equal_key k q h = pair_exact k q (is_equal (pair_cmp k q) h)

    -- what was there before and is not of the handle
    left : (o : Option (ℕ × ℕ)) → o ≡ front_key s handle.0 → Drops o fronts less → (k : ℕ × ℕ)
        → less k ≡ true → (x : ℕ) × (front_key (S.step s e) x ≡ Some k)
    left None q d k h =
        let r : (x : ℕ) × (front_key s x ≡ Some k) = u.front k (sym (d k) ∙ h) in (
          r.0,
          key_same e s r.0 (Some handle) sound about
              (apart r.0 (λ m. none (q ∙ (ap (front_key s) (sym m) ∙ r.1)))) ∙ r.1,
        )
      where
        none : ◌≡◌ {A = Option (ℕ × ℕ)} None (Some k) → ⊥
        none c = cc
    left (Some gone) q d k h =
        ⊎_elim
        (λ (t : is_eq (pair_cmp gone k) ≡ true).
        absurd (both_ways _ (d k ∙ cond-true (is_eq (pair_cmp gone k)) false (fronts k) t) h))
        (λ (f : is_eq (pair_cmp gone k) ≡ false).
        let r : (x : ℕ) × (front_key s x ≡ Some k) =
        u.front k (sym (d k ∙ cond-false (is_eq (pair_cmp gone k)) false (fronts k) f) ∙ h) in (
          r.0,
          key_same e s r.0 (Some handle) sound about
              (apart r.0 (λ m. both_ways _ f (same_key
              (some (q ∙ (ap (front_key s) (sym m) ∙ r.1)))))) ∙ r.1,
        ))
        (cases_Bool (is_eq (pair_cmp gone k)))
      where
        some : ◌≡◌ {A = Option (ℕ × ℕ)} (Some gone) (Some k) → gone ≡ k
        some c = cc

        same_key : gone ≡ k → is_eq (pair_cmp gone k) ≡ true
        same_key c = pair_same gone.0 gone.1 k.0 k.1 (ap (λ (p : ℕ × ℕ). p.0) c)
            (ap (λ (p : ℕ × ℕ). p.1) c)

    by_added : (o : Option (ℕ × ℕ)) → o ≡ front_key (S.step s e) handle.0 → Adds o less more
        → (k : ℕ × ℕ) → more k ≡ true → (x : ℕ) × (front_key (S.step s e) x ≡ Some k)
    by_added None q a k h = left before was drops k (sym (a k) ∙ h)
    by_added (Some new) q a k h =
        ⊎_elim
        (λ (t : is_eq (pair_cmp new k) ≡ true).
        (handle.0, sym q ∙ ap (λ (p : ℕ × ℕ). Some p) (equal_key new k t)))
        (λ (f : is_eq (pair_cmp new k) ≡ false).
        left before was drops k (sym (a k ∙ cond-false (is_eq (pair_cmp new k)) true (less k) f)
        ∙ h))
        (cases_Bool (is_eq (pair_cmp new k)))

    here : (o : Option (ℕ × ℕ)) → Adds o less more → (k : ℕ × ℕ) → o ≡ Some k → more k ≡ true
    here None a k q = absurd (none q)
      where
        none : ◌≡◌ {A = Option (ℕ × ℕ)} None (Some k) → ⊥
        none c = cc
    here (Some new) a k q = a k ∙ cond-true (is_eq (pair_cmp new k)) true (less k)
        (pair_same new.0 new.1 k.0 k.1 (ap (λ (p : ℕ × ℕ). p.0) (some q))
        (ap (λ (p : ℕ × ℕ). p.1) (some q)))
      where
        some : ◌≡◌ {A = Option (ℕ × ℕ)} (Some new) (Some k) → new ≡ k
        some c = cc

    stays : (o : Option (ℕ × ℕ)) → o ≡ front_key s handle.0 → Drops o fronts less
        → (k : ℕ × ℕ) (x : ℕ) → (x ≡ handle.0 → ⊥) → front_key s x ≡ Some k → less k ≡ true
    stays None q d k x n is = d k ∙ u.has k x is
    stays (Some gone) q d k x n is =
        d k
        ∙ (cond-false (is_eq (pair_cmp gone k)) false (fronts k)
        (false_from_ne_true _ (λ t. n (keys_apart s sound x handle.0 k is
        (sym q ∙ ap (λ (p : ℕ × ℕ). Some p) (equal_key gone k t)))))
        ∙ u.has k x is)

    still : (o : Option (ℕ × ℕ)) → Adds o less more → (k : ℕ × ℕ) → less k ≡ true → more k ≡ true
    still None a k h = a k ∙ h
    still (Some new) a k h = a k ∙ either (is_eq (pair_cmp new k))
      where
        either : (b : Bool) → cond b true (less k) ≡ true
        either true = refl
        either false = h

-- a set that has a key has it in its own place
pub replaces_itself : (o : Option (ℕ × ℕ)) (has : ℕ × ℕ → Bool)
    → ((k : ℕ × ℕ) → o ≡ Some k → has k ≡ true) → Replaces o o has has
replaces_itself None has there = record { less = has; drops = λ q. refl; adds = λ q. refl }
replaces_itself (Some k) has there =
    record {
      less = λ q. cond (is_eq (pair_cmp k q)) false (has q);
      drops = λ q. refl;
      adds = λ q. same q;
    }
  where
    same : (q : ℕ × ℕ) → has q ≡ cond (is_eq (pair_cmp k q)) true
        (cond (is_eq (pair_cmp k q)) false (has q))
    same q =
        ⊎_elim
        (λ (t : is_eq (pair_cmp k q) ≡ true).
        ap has (sym (pair_exact k q (is_equal (pair_cmp k q) t)))
        ∙ (there k refl ∙ sym (cond-true (is_eq (pair_cmp k q)) true
        (cond (is_eq (pair_cmp k q)) false (has q)) t)))
        (λ (f : is_eq (pair_cmp k q) ≡ false).
        sym (cond-false (is_eq (pair_cmp k q)) true (cond (is_eq (pair_cmp k q)) false (has q)) f
        ∙ cond-false (is_eq (pair_cmp k q)) false (has q) f))
        (cases_Bool (is_eq (pair_cmp k q)))

-- ---- what the sets say

goes_before : (a b : WaitingEvent) → is_gt (pair_cmp (key_of a) (key_of b)) ≡ false
    → goes (class_of a.upcall) a.event (class_of b.upcall) b.event ≡ true
goes_before a b h =
    let order : Before (class_of a.upcall) a.event (class_of b.upcall) b.event =
    pair_before (class_of a.upcall) a.event (class_of b.upcall) b.event h in
    let le : class_of a.upcall ≤ class_of b.upcall = order.first in
    ⊎_elim
    (λ (q : class_of a.upcall ≡ class_of b.upcall).
    goes_number (class_of a.upcall) a.event (class_of b.upcall) b.event q (order.second q))
    (λ (q : class_of a.upcall ≡ class_of b.upcall → ⊥).
    goes_class (class_of a.upcall) a.event (class_of b.upcall) b.event (omega arith))
    (cases_eq (class_of a.upcall) (class_of b.upcall))

-- the least key is that of the event to be started next
pub picked_by : (s : Summary) (sound : IsSound s) (fronts : ℕ × ℕ → Bool) (closing : ℕ → Bool)
    → IsUpToDate s fronts closing → (k : ℕ × ℕ) → fronts k ≡ true
    → ((q : ℕ × ℕ) → fronts q ≡ true → is_gt (pair_cmp k q) ≡ false) → Some k.1 ≡ pick_number s
picked_by s sound fronts closing u k is least =
    let r : (x : ℕ) × (front_key s x ≡ Some k) = u.front k is in
    let a : Keyed s r.0 k = keyed s r.0 k r.1 in
    let p : First sound.event sound.bound (λ v. r.0 == v.handle.0) 0 a.w =
    first_of_handle s sound r.0 a.w a.front in
    let mine : r.0 ≡ a.w.handle.0 = eqb-true r.0 a.w.handle.0 p.passes in
    let best : Picks sound.event sound.bound (λ v. S.is_free s v.handle.0) 0 (Some a.w) =
    record {
      is = p.is;
      below = p.below;
      class = omega arith;
      passes = ap (S.is_free s) (sym mine) ∙ a.free;
      first = λ i v lt at from free. before a.w a.key i v lt at free (front s.waiting v.handle.0)
          refl;
    }
    in
    ap (λ (n : ℕ). Some n) (ap (λ (c : ℕ × ℕ). c.1) (sym a.key))
    ∙ ap (option_map number_of) (picks_one sound.event sound.bound (λ v. S.is_free s v.handle.0)
    (Some a.w) (S.pick s) best (summary_picks s sound.event sound.bound sound.listed sound.own))
  where
    before : (w : WaitingEvent) → key_of w ≡ k → (i : ℕ) (v : WaitingEvent) → i < sound.bound
        → sound.event i ≡ Some v → S.is_free s v.handle.0 ≡ true → (o : Option WaitingEvent)
        → front s.waiting v.handle.0 ≡ o → goes (class_of w.upcall) w.event (class_of v.upcall) i
        ≡ true
    before w key i v lt at free None q =
        absurd (subst (Picks sound.event sound.bound
        (λ (g : WaitingEvent). v.handle.0 == g.handle.0) 0) q
        (front_is sound.event sound.bound v.handle.0 s.waiting sound.listed sound.own) i v lt at
        (omega arith) (eq-eqb v.handle.0 v.handle.0 refl))
    before w key i v lt at free (Some g) q =
        let p : First sound.event sound.bound (λ (h : WaitingEvent). v.handle.0 == h.handle.0) 0 g =
        first_of_handle s sound v.handle.0 g q in
        let low : is_gt (pair_cmp (key_of w) (key_of g)) ≡ false =
        ap (λ (c : ℕ × ℕ). is_gt (pair_cmp c (key_of g))) key
        ∙ least (key_of g) (u.has (key_of g) v.handle.0 (key_from s v.handle.0 g free q)) in
        first_trans (class_of w.upcall) w.event (class_of g.upcall) g.event (class_of v.upcall) i
        (goes_before w g low) (p.first i v lt at (omega arith)
        (eq-eqb v.handle.0 v.handle.0 refl))

pub none_picked : (s : Summary) (sound : IsSound s) (fronts : ℕ × ℕ → Bool) (closing : ℕ → Bool)
    → IsUpToDate s fronts closing → ((q : ℕ × ℕ) → fronts q ≡ false) → None ≡ pick_number s
none_picked s sound fronts closing u empty =
    ap (option_map number_of) (picks_one sound.event sound.bound (λ v. S.is_free s v.handle.0) None
    (S.pick s) (λ i v lt at from free. nothing i v lt at free (front s.waiting v.handle.0) refl)
    (summary_picks s sound.event sound.bound sound.listed sound.own))
  where
    nothing : (i : ℕ) (v : WaitingEvent) → i < sound.bound → sound.event i ≡ Some v
        → S.is_free s v.handle.0 ≡ true → (o : Option WaitingEvent) → front s.waiting v.handle.0 ≡ o
        → ⊥
    nothing i v lt at free None q = subst
        (Picks sound.event sound.bound (λ (g : WaitingEvent). v.handle.0 == g.handle.0) 0) q
        (front_is sound.event sound.bound v.handle.0 s.waiting sound.listed sound.own) i v lt at
        (omega arith) (eq-eqb v.handle.0 v.handle.0 refl)
    nothing i v lt at free (Some g) q =
        both_ways _ (empty (key_of g)) (u.has (key_of g) v.handle.0
        (key_from s v.handle.0 g free q))

-- some handle waits for its close if one is marked
pub some_waits : (s : Summary) (x : ℕ) → S.waits_for_closed s x ≡ true → true ≡ S.some_wait s
some_waits s x h =
    let both : (list_any (λ (g : LiveHandle). g.handle.0 == x && not g.alive) s.handles ≡ true)
    × (not (S.is_busy s x) ≡ true) = and_parts _ _ h in
    let m : (g : LiveHandle) × ((g.handle.0 == x && not g.alive) ≡ true)
    × ((q : LiveHandle → Bool) → q g ≡ true → list_any q s.handles ≡ true) =
    any_member (λ (g : LiveHandle). g.handle.0 == x && not g.alive) s.handles both.0 in
    let parts : ((m.0.handle.0 == x) ≡ true) × (not m.0.alive ≡ true) = and_parts _ _ m.1 in
    sym (m.2 (λ g. not g.alive && not (S.is_busy s g.handle.0))
    (and_from (not m.0.alive) (not (S.is_busy s m.0.handle.0)) parts.1
    (ap (λ (y : ℕ). not (S.is_busy s y)) (eqb-true m.0.handle.0 x parts.0) ∙ both.1)))

pub none_waits : (s : Summary) → ((x : ℕ) → S.waits_for_closed s x ≡ false) → false ≡ S.some_wait s
none_waits s none =
    sym (false_from_ne_true _ (λ h.
    let m : (g : LiveHandle) × ((not g.alive && not (S.is_busy s g.handle.0)) ≡ true)
    × ((q : LiveHandle → Bool) → q g ≡ true → list_any q s.handles ≡ true) =
    any_member (λ (g : LiveHandle). not g.alive && not (S.is_busy s g.handle.0)) s.handles h in
    let parts : (not m.0.alive ≡ true) × (not (S.is_busy s m.0.handle.0) ≡ true) =
    and_parts _ _ m.1 in
    both_ways _ (none m.0.handle.0) (and_from _ _
    (m.2 (λ g. g.handle.0 == m.0.handle.0 && not g.alive)
    (and_from _ _ (eq-eqb m.0.handle.0 m.0.handle.0 refl) parts.0)) parts.1)))
