-- Each step keeps the ring's rule.
use Rattle.std.proofs.Common.{◌≡◌, ◌≢◌, ⊎_elim, ℕ, zero, suc, ◌+◌, ◌-◌, ◌%◌, ◌^◌, ◌<◌, ◌≤◌, List}
use Rattle.std.proofs.Common.{[], ◌∷◌, length, set, get_or, sym, refl, ap, ◌∙◌, subst, arith, cond}
use Rattle.std.proofs.Common.{Bool, true, false, true≢false, eqb, eq-eqb, ne_eqb, lt-ltb, le-ltb}
use Rattle.std.proofs.Common.{length-set, get_or-set_same, get_or-set_other}
use Rattle.std.specs.Prelude.{slice_index, nat_lt}
use mathlib.Core.Logic.{dite}
use mathlib.Core.Option.{some, some-injective, some-ne-none}
use native.Mathlib.Decide.{ℕ_discrete, dec_le}
use lib.ListN.{get_elem?}
use Rattle.atomic_table.specs.Table.{State, Me, keeps, Allows}
use Rattle.atomic_table.proofs.Lists.{at_set, one_turn}
use Rattle.notify_ring.specs.declared.posting.Posting.{Posting}
use Rattle.notify_ring.specs.declared.view.Flight.{Flight}
use Rattle.notify_ring.specs.declared.view.Flight.TheVariants.{Idle, Claimed, Drawn, Written}
use Rattle.notify_ring.specs.declared.view.Stage.{Stage}
use Rattle.notify_ring.specs.declared.view.Stage.TheVariants.{Resting, Seen, Cleared}
use Rattle.notify_ring.specs.declared.view.Ended.{Ended}
use Rattle.notify_ring.specs.declared.view.View.{View}
use Rattle.notify_ring.specs.Postings.{flag, by_poster, handle_at, gate_at, code}
use Rattle.list_lemmas.specs.Sums.{total}
use Rattle.notify_ring.specs.Passes.{owns}
use Rattle.notify_ring.specs.Rule.{claim_of, good_of, pends_of, claimed, good, pends, poster}
use Rattle.notify_ring.specs.Rule.{rooted, kids, drainer, FlightFits, StageFits, Fits, IsStored}
use Rattle.notify_ring.specs.Rule.{RingHolds}
use Rattle.notify_ring.specs.Steps.{claimed_view, next_flight, next_view}
use Rattle.list_lemmas.proofs.Sums.{total-set, term_le, terms_le, total-same, alone}

pub off : (b : Bool) → b ≡ true → b ≡ false → ⊥
off b t f = true≢false (sym t ∙ f)

abbrev pub Me' : Type 0
Me' = Me (Unit {0}) View

abbrev pub Rule : State (Unit {0}) View → Type 0
Rule s = RingHolds s.words s.views

pub same_fits : (ws : List ℕ) (all : List Posting) (cleared freed made : ℕ) (vs : List View) (j : ℕ)
    (w : View) → ((k : ℕ) (u : View) → k ≢ j → get_elem? vs k ≡ some u
    → Fits ws all cleared freed made u) → Fits ws all cleared freed made w
    → (k : ℕ) (u : View) → get_elem? (set vs j w) k ≡ some u → Fits ws all cleared freed made u
same_fits ws all cleared freed made vs j w others mine k u e = ⊎_elim
    (λ (x : (k ≡ j) × (w ≡ u)). subst (λ (y : View). Fits ws all cleared freed made y) x.1 mine)
    (λ (x : (k ≢ j) × (get_elem? vs k ≡ some u)). others k u x.0 x.1)
    (at_set vs j k w u e)

-- a stage that reads a gate reads it still
pub stage_same : (ws new : List ℕ) (all : List Posting) (c r : ℕ) (got : List Posting) (t : Stage)
    → ((y : Posting) → slice_index ws (gate_at c) ≡ code y
    → slice_index new (gate_at c) ≡ slice_index ws (gate_at c)) → StageFits ws all c r got t
    → StageFits new all c r got t
stage_same ws new all c r got Resting e h = h
stage_same ws new all c r got (Seen x) e h = (h.0, h.1, h.2, e x h.3 ∙ h.3)
stage_same ws new all c r got Cleared e h = h

-- the sum of what is nowhere more
pub total-le : {A : Type 0} (f g : A → ℕ) (l : List A)
    → ((k : ℕ) (x : A) → get_elem? l k ≡ some x → f x ≤ g x) → total f l ≤ total g l
total-le f g [] h = omega arith
total-le f g (x ∷ xs) h = omega (arith, h 0 x refl, total-le f g xs (λ k. h (suc k)))

claim_fits : (ws : List ℕ) (all : List Posting) (c : ℕ) (b : Bool) (f : Flight)
    → FlightFits ws all c b f → claim_of f ≤ flag b
claim_fits ws all c b Idle h = omega arith
claim_fits ws all c b (Claimed r) h = omega (arith, ap flag h)
claim_fits ws all c b (Drawn x) h = omega arith
claim_fits ws all c b (Written x) h = omega arith

-- no more claims are in flight than posters are made
claims_few : (ws : List ℕ) (vs : List View) (o : RingHolds ws vs) → total claimed vs ≤ 64
claims_few ws vs o =
    let most = total-le claimed poster vs
    (λ k v e. claim_fits ws o.all o.cleared v.posts v.flight (o.fits k v e).flight) in
    let root = the_root vs o.roots in
    let fit = o.fits root.0 root.1 root.2 in
    let kids-are : total kids vs ≡ root.1.children =
    alone rooted kids vs root.0 root.1 (λ k x e none. kid_free x.root x.children none) o.roots
    root.2 (ap flag root.3) ∙ ap (λ b. cond {A = ℕ} b root.1.children 0) root.3 in
    omega (arith, most, o.family, kids-are, (fit.root root.3).1, o.limit)
  where
    kid_free : (b : Bool) (n : ℕ) → flag b ≡ 0 → cond {A = ℕ} b n 0 ≡ 0
    kid_free true n e = absurd (omega arith)
    kid_free false n e = refl

    flagged : (b : Bool) → flag b ≢ 0 → b ≡ true
    flagged true h = refl
    flagged false h = absurd (h refl)

    the_root : (l : List View) → total rooted l ≡ 1 → (k : ℕ) × (v : View)
        × (get_elem? l k ≡ some v) × (v.root ≡ true)
    the_root [] e = absurd (omega arith)
    the_root (x ∷ xs) e = dite (ℕ_discrete (rooted x) 0)
        (λ z. let r = the_root xs (omega arith) in (suc r.0, r.1, r.2, r.3))
        (λ nz. (0, x, refl, flagged x.root nz))

-- a claim or its return
counts : (ws : List ℕ) (vs : List View) (o : RingHolds ws vs) (j n : ℕ) (v w : View)
    → get_elem? vs j ≡ some v
    → w.drains ≡ v.drains → w.got ≡ v.got → w.stage ≡ v.stage → w.posts ≡ v.posts
    → w.number ≡ v.number → w.posted ≡ v.posted → w.ended ≡ v.ended → w.root ≡ v.root
    → w.posters ≡ v.posters → w.children ≡ v.children
    → FlightFits (set ws 0 n) o.all o.cleared w.posts w.flight → ((k : ℕ) → pends k w ≡ pends k v)
    → n + claimed v ≡ slice_index ws 0 + claimed w
    → total good vs + good w + length o.all ≤ 256 + o.freed + good v
    → (256 ≤ w.found → 192 ≤ length o.all)
    → RingHolds (set ws 0 n) (set vs j w)
counts ws vs o j n v w at drains got stage posts number posted ended root posters children flight
    same-pends moves fewer full =
    let same : (i : ℕ) → 0 < i → slice_index (set ws 0 n) i ≡ slice_index ws i =
    λ i up. get_or-set_other ws 0 i n 0 (omega arith) in
    let here : slice_index (set ws 0 n) 0 ≡ n = get_or-set_same ws 0 n 0 (omega (arith, o.wide)) in
    let fit = o.fits j v at in
    let pending : (k : ℕ) → total (pends k) (set vs j w) ≡ total (pends k) vs =
    λ k. total-same (pends k) vs j v w at (same-pends k) in
    record {
      all = o.all;
      cleared = o.cleared;
      freed = o.freed;
      made = o.made;
      wide = length-set ws 0 n ∙ o.wide;
      held = omega (arith, here, o.held, moves, total-set claimed vs j v w at);
      tail = same 1 (omega arith) ∙ o.tail;
      order = o.order;
      few = omega (arith, fewer, total-set good vs j v w at);
      numbered = o.numbered;
      stored = λ k x le is none. let st = o.stored k x le is (sym (pending k) ∙ none) in
          record {
            gate = same (gate_at x.number) (omega arith) ∙ st.gate;
            handle = same (handle_at x.number) (omega arith) ∙ st.handle;
          };
      waits = λ k le lt some-wait. same (gate_at k) (omega arith)
          ∙ o.waits k le lt (omega (arith, pending k));
      vacant = λ k le lt. same (gate_at k) (omega arith) ∙ o.vacant k le lt;
      single = λ k. omega (arith, pending k, o.single k);
      fits = same_fits (set ws 0 n) o.all o.cleared o.freed o.made vs j w
          (λ k u _ e. other_fits (o.fits k u e)) (record {
            full = full;
            posted = λ p. posted ∙ fit.posted (sym posts ∙ p)
                ∙ ap (λ m. by_poster m o.all) (sym number);
            ended = subst (λ (l : List Ended). (k : ℕ) (e : Ended) → get_elem? l k ≡ some e
                → e.posted ≡ by_poster e.number o.all) (sym ended) fit.ended;
            flight = flight;
            root = λ r. let t = fit.root (sym root ∙ r) in
                (posters ∙ t.0, omega (arith, t.1, children), posts ∙ t.2);
            child = λ r. ended ∙ fit.child (sym root ∙ r);
            drain = λ d. subst (λ (y : List Posting × Stage).
                StageFits (set ws 0 n) o.all o.cleared o.freed y.0 y.1)
                (λ i. (sym got i, sym stage i))
                (same_stage o.all o.cleared o.freed v.got v.stage (fit.drain (sym drains ∙ d)));
          });
      owners = λ p. total-same (owns p) vs j v w at
          (λ i. cond (posts i) (flag (eqb p (number i))) 0
          + total (λ (e : Ended). flag (eqb p e.number)) (ended i)) ∙ o.owners p;
      roots = total-same rooted vs j v w at (ap flag root) ∙ o.roots;
      family = omega (
        arith,
        o.family,
        total-same poster vs j v w at (ap flag posts),
        total-same kids vs j v w at (λ i. cond (root i) (children i) 0),
      );
      limit = o.limit;
      seqs = o.seqs;
      drainers = omega (arith, o.drainers, total-same drainer vs j v w at (ap flag drains));
      bounded = o.bounded;
    }
  where
    same_flight : (all : List Posting) (c : ℕ) (b : Bool) (f : Flight) → FlightFits ws all c b f
        → FlightFits (set ws 0 n) all c b f
    same_flight all c b Idle h = tt
    same_flight all c b (Claimed r) h = h
    same_flight all c b (Drawn x) h = h
    same_flight all c b (Written x) h =
        (h.0, h.1, h.2, get_or-set_other ws 0 (handle_at x.number) n 0 (omega arith) ∙ h.3)

    same_stage : (all : List Posting) (c r : ℕ) (got : List Posting) (t : Stage)
        → StageFits ws all c r got t → StageFits (set ws 0 n) all c r got t
    same_stage all c r got t h = stage_same ws (set ws 0 n) all c r got t
        (λ y _. get_or-set_other ws 0 (gate_at c) n 0 (omega arith)) h

    other_fits : {all : List Posting} {c r m : ℕ} {u : View} → Fits ws all c r m u
        → Fits (set ws 0 n) all c r m u
    other_fits {all} {c} {r} {m} {u} f =
        record {
          drain = λ d. same_stage all c r u.got u.stage (f.drain d);
          posted = f.posted;
          full = f.full;
          ended = f.ended;
          flight = same_flight all c u.posts u.flight f.flight;
          root = f.root;
          child = f.child;
        }

-- found is under 2 ^ 64 - 1, so nothing wraps
pub claims : (id n : ℕ) (v : View) → v.flight ≡ Idle → v.posts ≡ true
    → Allows Rule n id (v, []) 0 (λ x. (x + 1) % 2 ^ 64) (λ r m. m ≡ (claimed_view v r, []))
claims id n v idle posts s o wide at _ =
    let h = get_or s.words 0 0 in
    let low : h + 1 < 2 ^ 64 = omega (arith, claims_few s.words s.views o, o.held, o.few) in
    let next : (h + 1) % 2 ^ 64 ≡ h + 1 = omega (arith, low) in
    let w = claimed_view v h in (
      w,
      keeps,
      tt,
      subst (λ (x : ℕ). RingHolds (set s.words 0 x) (set s.views id w)) (sym next)
          (counts s.words s.views o id (h + 1) v w at refl refl refl refl refl refl refl refl refl
          refl posts (λ k. ap (pends_of k) (sym idle))
          (omega (arith, ap claim_of idle))
          (few_enough s.words s.views o h (ap good_of idle) refl)
          (λ le. omega (arith, le, claims_few s.words s.views o, o.held))),
      refl,
    )
  where
    good_le : (f : Flight) → good_of f ≤ claim_of f
    good_le Idle = omega arith
    good_le (Claimed r) = small (nat_lt r 256)
      where
        small : (b : Bool) → flag b ≤ 1
        small true = omega arith
        small false = omega arith
    good_le (Drawn x) = omega arith
    good_le (Written x) = omega arith

    few_enough : (ws : List ℕ) (vs : List View) (o : RingHolds ws vs) (h : ℕ) → good v ≡ 0
        → slice_index ws 0 ≡ h → total good vs + flag (nat_lt h 256) + length o.all
        ≤ 256 + o.freed + good v
    few_enough ws vs o h none is = dite (dec_le 256 h)
        (λ le. omega (arith, ap flag (le-ltb h 256 le), o.few))
        (λ no. omega (
          arith,
          ap flag (lt-ltb h 256 (omega arith)),
          o.held,
          is,
          total-le good claimed vs (λ k u _. good_le u.flight),
        ))

pub claims_at : (id n : ℕ) (m : Me') → m.0.flight ≡ Idle → m.1 ≡ [] → m.0.posts ≡ true
    → Allows Rule n id m 0 (λ x. (x + 1) % 2 ^ 64) (λ r k. k ≡ (claimed_view m.0 r, []))
claims_at id n m idle bare posts =
    subst (λ (c : List (ℕ × Unit {0})).
    Allows Rule n id (m.0, c) 0 (λ x. (x + 1) % 2 ^ 64) (λ r k. k ≡ (claimed_view m.0 r, [])))
    (sym bare) (claims id n m.0 idle posts)

-- a claim that found no place is given back
pub unclaims : (id n r : ℕ) (v : View) → v.flight ≡ Claimed r → v.posts ≡ true
    → Allows Rule n id (v, []) 0 (λ x. (x + (2 ^ 64 - 1)) % 2 ^ 64) (λ _ m. m ≡ (next_view v, []))
unclaims id n r v claim posts s o wide at low =
    let h = get_or s.words 0 0 in
    let w = next_view v in
    let after : next_flight v.flight ≡ Idle = ap next_flight claim in
    let some-held : 1 ≤ h = omega (
      arith,
      o.held,
      term_le claimed s.views id v at,
      ap claim_of claim,
      o.order,
    ) in
    let next : (h + (2 ^ 64 - 1)) % 2 ^ 64 ≡ h - 1 = omega (arith, some-held, low) in (
      w,
      keeps,
      tt,
      subst (λ (x : ℕ). RingHolds (set s.words 0 x) (set s.views id w)) (sym next)
          (counts s.words s.views o id (h - 1) v w at refl refl refl refl refl refl refl refl refl
          refl
          (subst (λ (f : Flight). FlightFits (set s.words 0 (h - 1)) o.all o.cleared v.posts f)
          (sym after) tt)
          (λ k. ap (pends_of k) after ∙ sym (ap (pends_of k) claim))
          (omega (arith, ap claim_of claim, ap claim_of after, some-held))
          (omega (arith, ap good_of after, o.few))
          (o.fits id v at).full),
      refl,
    )

-- two places of the window
pub apart_places : (c m n : ℕ) → c ≤ m → m < c + 256 → c ≤ n → n < c + 256 → m ≢ n
    → m % 256 ≢ n % 256
apart_places c m n a b d e ne same = dite (dec_le m n)
    (λ le. ne (one_turn m n 256 le (omega arith) same))
    (λ no. ne (sym (one_turn n m 256 (omega arith) (omega arith) (sym same))))

pends_self : (x : Posting) → flag (eqb x.number x.number) ≡ 1
pends_self x = ap flag (eq-eqb x.number x.number refl)

pends_other : (n : ℕ) (x : Posting) → n ≢ x.number → flag (eqb n x.number) ≡ 0
pends_other n x ne = ap flag (ne_eqb n x.number ne)

pub below_length : {A : Type 0} (l : List A) (i : ℕ) (a : A) → get_elem? l i ≡ some a → i < length l
below_length [] i a e = absurd (some-ne-none a (sym e))
below_length (x ∷ xs) zero a e = omega arith
below_length (x ∷ xs) (suc i) a e = omega (arith, below_length xs i a e)

-- a posting in flight is in the window
pub in_window : (ws : List ℕ) (vs : List View) (o : RingHolds ws vs) (n : ℕ) (x : Posting)
    → get_elem? o.all n ≡ some x → n < o.cleared + 256
in_window ws vs o n x at = omega (arith, below_length o.all n x at, o.few, o.order)

-- a view whose flight alone changes, with a word of a place
module _ (ws : List ℕ) (vs : List View) (o : RingHolds ws vs) (id : ℕ) (v : View)
    (at : get_elem? vs id ≡ some v) (x : Posting) where
  handles : v.flight ≡ Drawn x → RingHolds (set ws (handle_at x.number) x.handle.0)
      (set vs id (next_view v))
  handles drawn =
      let i = handle_at x.number in
      let new = set ws i x.handle.0 in
      let w = next_view v in
      let after : next_flight v.flight ≡ Written x = ap next_flight drawn in
      let fit = o.fits id v at in
      let f : FlightFits ws o.all o.cleared v.posts (Drawn x) =
      subst (λ (y : Flight). FlightFits ws o.all o.cleared v.posts y) drawn fit.flight in
      let mine : (k : ℕ) → pends k w ≡ pends k v =
      λ k. ap (pends_of k) after ∙ sym (ap (pends_of k) drawn) in
      let pending : (k : ℕ) → total (pends k) (set vs id w) ≡ total (pends k) vs =
      λ k. total-same (pends k) vs id v w at (mine k) in
      let gates : (k : ℕ) → slice_index new (gate_at k) ≡ slice_index ws (gate_at k) =
      λ k. get_or-set_other ws i (gate_at k) x.handle.0 0 (omega arith) in
      let here : pends x.number v ≡ 1 = ap (pends_of x.number) drawn ∙ pends_self x in
      let others : (k : ℕ) (y : Posting) → o.cleared ≤ k → get_elem? o.all k ≡ some y → k ≢ x.number
      → slice_index new (handle_at k) ≡ slice_index ws (handle_at k) =
      λ k y le is ne. let p = apart_places o.cleared k x.number le (in_window ws vs o k y is) f.2
      (in_window ws vs o x.number x f.1) ne in
      get_or-set_other ws i (handle_at k) x.handle.0 0 (λ e. p (omega arith)) in
      record {
        all = o.all;
        cleared = o.cleared;
        freed = o.freed;
        made = o.made;
        wide = length-set ws i x.handle.0 ∙ o.wide;
        held = omega (
          arith,
          get_or-set_other ws i 0 x.handle.0 0 (omega arith),
          o.held,
          total-set claimed vs id v w at,
          ap claim_of drawn,
          ap claim_of after,
        );
        tail = get_or-set_other ws i 1 x.handle.0 0 (omega arith) ∙ o.tail;
        order = o.order;
        few = omega (arith, o.few, total-set good vs id v w at, ap good_of drawn, ap good_of after);
        numbered = o.numbered;
        stored = λ k y le is none. let none' : total (pends k) vs ≡ 0 = sym (pending k) ∙ none in
            let st = o.stored k y le is none' in
            let num = (o.numbered k y is).number in
            let ne : k ≢ x.number = λ e. omega (
              arith,
              none',
              term_le (pends x.number) vs id v at,
              here,
              ap (λ (j : ℕ). total (pends j) vs) e,
            ) in
            record {
              gate = gates y.number ∙ st.gate;
              handle =
                  subst (λ (j : ℕ). slice_index new (handle_at j) ≡ slice_index ws (handle_at j))
                  (sym num) (others k y le is ne) ∙ st.handle;
            };
        waits = λ k le lt some-wait. gates k ∙ o.waits k le lt (omega (arith, pending k));
        vacant = λ k le lt. gates k ∙ o.vacant k le lt;
        single = λ k. omega (arith, pending k, o.single k);
        fits = same_fits new o.all o.cleared o.freed o.made vs id w
            (λ k u ne e. let g = o.fits k u e in record {
              posted = g.posted;
              full = g.full;
              ended = g.ended;
              flight = same_flight k u ne e here u.flight refl g.flight others;
              root = g.root;
              child = g.child;
              drain = λ d. stage_same ws new o.all o.cleared o.freed u.got u.stage
                  (λ y _. gates o.cleared) (g.drain d);
            })
            (record {
              posted = fit.posted;
              full = fit.full;
              ended = fit.ended;
              flight = subst (λ (y : Flight). FlightFits new o.all o.cleared v.posts y) (sym after)
                  (f.0, f.1, f.2, get_or-set_same ws i x.handle.0 0 (omega (arith, o.wide)));
              root = fit.root;
              child = fit.child;
              drain = λ d. stage_same ws new o.all o.cleared o.freed v.got v.stage
                  (λ y _. gates o.cleared) (fit.drain d);
            });
        owners = λ p. total-same (owns p) vs id v w at refl ∙ o.owners p;
        roots = total-same rooted vs id v w at refl ∙ o.roots;
        family = omega (
          arith,
          o.family,
          total-same poster vs id v w at refl,
          total-same kids vs id v w at refl,
        );
        limit = o.limit;
        seqs = o.seqs;
        drainers = omega (arith, o.drainers, total-same drainer vs id v w at refl);
        bounded = o.bounded;
      }
    where
      same_flight : (k : ℕ) (u : View) → k ≢ id → get_elem? vs k ≡ some u → pends x.number v ≡ 1
          → (g : Flight) → u.flight ≡ g → FlightFits ws o.all o.cleared u.posts g
          → ((k : ℕ) (y : Posting) → o.cleared ≤ k → get_elem? o.all k ≡ some y → k ≢ x.number
          → slice_index (set ws (handle_at x.number) x.handle.0) (handle_at k)
          ≡ slice_index ws (handle_at k))
          → FlightFits (set ws (handle_at x.number) x.handle.0) o.all o.cleared u.posts g
      same_flight k u ne e here Idle is h others = tt
      same_flight k u ne e here (Claimed r) is h others = h
      same_flight k u ne e here (Drawn y) is h others = h
      same_flight k u ne e here (Written y) is h others = (
        h.0,
        h.1,
        h.2,
        others y.number y h.2 h.1
            (λ same. omega (
              arith,
              terms_le (pends x.number) vs id k v u ne at e,
              here,
              o.single x.number,
              ap (pends_of x.number) is,
              ap flag (eq-eqb x.number y.number (sym same)),
            )) ∙ h.3,
      )

  opens : v.flight ≡ Written x → RingHolds (set ws (gate_at x.number) (code x))
      (set vs id (next_view v))
  opens written =
      let i = gate_at x.number in
      let new = set ws i (code x) in
      let w = next_view v in
      let after : next_flight v.flight ≡ Idle = ap next_flight written in
      let fit = o.fits id v at in
      let f : FlightFits ws o.all o.cleared v.posts (Written x) =
      subst (λ (y : Flight). FlightFits ws o.all o.cleared v.posts y) written fit.flight in
      let here : pends x.number v ≡ 1 = ap (pends_of x.number) written ∙ pends_self x in
      let gone : total (pends x.number) (set vs id w) ≡ 0 =
      omega (
        arith,
        total-set (pends x.number) vs id v w at,
        here,
        ap (pends_of x.number) after,
        o.single x.number,
      ) in
      let pending : (k : ℕ) → k ≢ x.number → total (pends k) (set vs id w) ≡ total (pends k) vs =
      λ k ne. total-same (pends k) vs id v w at
      (ap (pends_of k) after ∙ sym (ap (pends_of k) written ∙ pends_other k x ne)) in
      let handles' : (k : ℕ) → slice_index new (handle_at k) ≡ slice_index ws (handle_at k) =
      λ k. get_or-set_other ws i (handle_at k) (code x) 0 (omega arith) in
      let others : (k : ℕ) → o.cleared ≤ k → k < o.cleared + 256 → k ≢ x.number
      → slice_index new (gate_at k) ≡ slice_index ws (gate_at k) =
      λ k le lt ne. let p = apart_places o.cleared k x.number le lt f.2
      (in_window ws vs o x.number x f.1) ne in
      get_or-set_other ws i (gate_at k) (code x) 0 (λ e. p (omega arith)) in
      let closed : slice_index ws (gate_at x.number) ≡ 0 =
      o.waits x.number f.2 (in_window ws vs o x.number x f.1)
      (omega (arith, term_le (pends x.number) vs id v at, here)) in
      -- a gate that was read is not the one that is stored now
      let unread : (y : Posting) → slice_index ws (gate_at o.cleared) ≡ code y
      → slice_index new (gate_at o.cleared) ≡ slice_index ws (gate_at o.cleared) =
      λ y read. others o.cleared (omega arith) (omega arith)
      (λ e. omega (arith, read, closed, ap (λ (j : ℕ). slice_index ws (gate_at j)) e)) in
      record {
        all = o.all;
        cleared = o.cleared;
        freed = o.freed;
        made = o.made;
        wide = length-set ws i (code x) ∙ o.wide;
        held = omega (
          arith,
          get_or-set_other ws i 0 (code x) 0 (omega arith),
          o.held,
          total-set claimed vs id v w at,
          ap claim_of written,
          ap claim_of after,
        );
        tail = get_or-set_other ws i 1 (code x) 0 (omega arith) ∙ o.tail;
        order = o.order;
        few = omega (
          arith,
          o.few,
          total-set good vs id v w at,
          ap good_of written,
          ap good_of after,
        );
        numbered = o.numbered;
        stored = λ k y le is none. let num = (o.numbered k y is).number in
            dite (ℕ_discrete k x.number)
            (λ e. let one : y ≡ x = some-injective y x (sym is ∙ ap (get_elem? o.all) e ∙ f.1) in
            subst (λ (z : Posting). IsStored new z) (sym one)
            (record {
              gate = get_or-set_same ws i (code x) 0 (omega (arith, o.wide));
              handle = handles' x.number ∙ f.3;
            }))
            (λ ne. let st = o.stored k y le is (sym (pending k ne) ∙ none) in record {
              gate = subst (λ (j : ℕ). slice_index new (gate_at j) ≡ slice_index ws (gate_at j))
                  (sym num) (others k le (in_window ws vs o k y is) ne) ∙ st.gate;
              handle = handles' y.number ∙ st.handle;
            });
        waits = λ k le lt some-wait. dite (ℕ_discrete k x.number)
            (λ e. absurd (omega (arith, gone, ap (λ (j : ℕ). total (pends j) (set vs id w)) e)))
            (λ ne. others k le lt ne ∙ o.waits k le lt (omega (arith, pending k ne)));
        vacant = λ k le lt. others k (omega (arith, o.order)) lt
            (λ e. omega (arith, below_length o.all x.number x f.1)) ∙ o.vacant k le lt;
        single = λ k. dite (ℕ_discrete k x.number)
            (λ e. omega (arith, gone, ap (λ (j : ℕ). total (pends j) (set vs id w)) e))
            (λ ne. omega (arith, pending k ne, o.single k));
        fits = same_fits new o.all o.cleared o.freed o.made vs id w
            (λ k u ne e. let g = o.fits k u e in
            record {
              posted = g.posted;
              full = g.full;
              ended = g.ended;
              flight = kept_flight u.posts u.flight g.flight;
              root = g.root;
              child = g.child;
              drain =
                  λ d. stage_same ws new o.all o.cleared o.freed u.got u.stage unread (g.drain d);
            })
            (record {
              posted = fit.posted;
              full = fit.full;
              ended = fit.ended;
              flight = subst (λ (y : Flight). FlightFits new o.all o.cleared v.posts y) (sym after)
                  tt;
              root = fit.root;
              child = fit.child;
              drain = λ d. stage_same ws new o.all o.cleared o.freed v.got v.stage unread
                  (fit.drain d);
            });
        owners = λ p. total-same (owns p) vs id v w at refl ∙ o.owners p;
        roots = total-same rooted vs id v w at refl ∙ o.roots;
        family = omega (
          arith,
          o.family,
          total-same poster vs id v w at refl,
          total-same kids vs id v w at refl,
        );
        limit = o.limit;
        seqs = o.seqs;
        drainers = omega (arith, o.drainers, total-same drainer vs id v w at refl);
        bounded = o.bounded;
      }
    where
      kept_flight : (b : Bool) (g : Flight) → FlightFits ws o.all o.cleared b g
          → FlightFits (set ws (gate_at x.number) (code x)) o.all o.cleared b g
      kept_flight b Idle h = tt
      kept_flight b (Claimed r) h = h
      kept_flight b (Drawn y) h = h
      kept_flight b (Written y) h = (
        h.0,
        h.1,
        h.2,
        get_or-set_other ws (gate_at x.number) (handle_at y.number) (code x) 0 (omega arith)
            ∙ h.3,
      )

pub writes : (id n : ℕ) (v : View) (x : Posting) → v.flight ≡ Drawn x
    → Allows Rule n id (v, []) (handle_at x.number) (λ _. x.handle.0) (λ _ m. m ≡ (next_view v, []))
writes id n v x drawn s o wide at low =
    (next_view v, keeps, tt, handles s.words s.views o id v at x drawn, refl)

pub gates : (id n : ℕ) (v : View) (x : Posting) → v.flight ≡ Written x
    → Allows Rule n id (v, []) (gate_at x.number) (λ _. code x) (λ _ m. m ≡ (next_view v, []))
gates id n v x written s o wide at low =
    (next_view v, keeps, tt, opens s.words s.views o id v at x written, refl)

pub unclaims_at : (id n r : ℕ) (m : Me') → m.0.flight ≡ Claimed r → m.1 ≡ [] → m.0.posts ≡ true
    → Allows Rule n id m 0 (λ x. (x + (2 ^ 64 - 1)) % 2 ^ 64) (λ _ k. k ≡ (next_view m.0, []))
unclaims_at id n r m claim bare posts =
    subst (λ (c : List (ℕ × Unit {0})).
    Allows Rule n id (m.0, c) 0 (λ x. (x + (2 ^ 64 - 1)) % 2 ^ 64) (λ _ k. k ≡ (next_view m.0, [])))
    (sym bare) (unclaims id n r m.0 claim posts)

pub writes_at : (id n i h : ℕ) (m : Me') (x : Posting) → m.0.flight ≡ Drawn x → m.1 ≡ []
    → i ≡ handle_at x.number → h ≡ x.handle.0
    → Allows Rule n id m i (λ _. h) (λ _ k. k ≡ (next_view m.0, []))
writes_at id n i h m x drawn bare index handle =
    subst (λ (j : ℕ). Allows Rule n id m j (λ _. h) (λ _ k. k ≡ (next_view m.0, []))) (sym index)
    (subst (λ (g : ℕ). Allows Rule n id m (handle_at x.number) (λ _. g)
    (λ _ k. k ≡ (next_view m.0, []))) (sym handle)
    (subst (λ (c : List (ℕ × Unit {0})).
    Allows Rule n id (m.0, c) (handle_at x.number) (λ _. x.handle.0)
    (λ _ k. k ≡ (next_view m.0, []))) (sym bare) (writes id n m.0 x drawn)))

pub gates_at : (id n i h : ℕ) (m : Me') (x : Posting) → m.0.flight ≡ Written x → m.1 ≡ []
    → i ≡ gate_at x.number → h ≡ code x
    → Allows Rule n id m i (λ _. h) (λ _ k. k ≡ (next_view m.0, []))
gates_at id n i h m x written bare index gate =
    subst (λ (j : ℕ). Allows Rule n id m j (λ _. h) (λ _ k. k ≡ (next_view m.0, []))) (sym index)
    (subst (λ (g : ℕ). Allows Rule n id m (gate_at x.number) (λ _. g)
    (λ _ k. k ≡ (next_view m.0, []))) (sym gate)
    (subst (λ (c : List (ℕ × Unit {0})).
    Allows Rule n id (m.0, c) (gate_at x.number) (λ _. code x) (λ _ k. k ≡ (next_view m.0, [])))
    (sym bare) (gates id n m.0 x written)))
