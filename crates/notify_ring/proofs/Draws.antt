-- Drawing a number, and making and ending posters, keep the rule.
use Rattle.std.proofs.Common.{◌≡◌, ◌≢◌, ⊎_elim, ℕ, suc, ◌+◌, ◌*◌, ◌%◌, ◌^◌, ◌<◌, ◌≤◌, List, [], ◌∷◌}
use Rattle.std.proofs.Common.{◌++◌, length, set, get_or, sym, refl, ap, ◌∙◌, subst, arith, cond}
use Rattle.std.proofs.Common.{Bool, true, false, eqb, eq-eqb, ne_eqb, lt-ltb, le-ltb, length-set}
use Rattle.std.proofs.Common.{length-append, get_or-set_same, get_or-set_other, append-nil, take}
use Rattle.std.proofs.lemmas.List.{take-append-le, take_all}
use Rattle.std.specs.Prelude.{slice_index, nat_lt}
use mathlib.Core.Logic.{dite}
use mathlib.Core.Option.{some}
use native.Mathlib.Decide.{ℕ_discrete, dec_le}
use lib.ListN.{get_elem?}
use Rattle.atomic_table.specs.Table.{keeps, Allows}
use Rattle.atomic_table.proofs.Lists.{at_longer, at_last}
use Rattle.ev_types.specs.declared.upcall.Handle.{Handle}
use Rattle.ev_types.specs.declared.upcall.Kind.{Kind}
use Rattle.notify_ring.specs.declared.posting.Posting.{Posting}
use Rattle.notify_ring.specs.declared.view.Flight.{Flight}
use Rattle.notify_ring.specs.declared.view.Flight.TheVariants.{Idle, Claimed, Drawn, Written}
use Rattle.notify_ring.specs.declared.view.Stage.{Stage}
use Rattle.notify_ring.specs.declared.view.Stage.TheVariants.{Resting, Seen, Cleared}
use Rattle.notify_ring.specs.declared.view.Ended.{Ended}
use Rattle.notify_ring.specs.declared.view.View.{View}
use Rattle.notify_ring.specs.Postings.{flag, by_poster, handle_at, gate_at, IsNumbered}
use Rattle.list_lemmas.specs.Sums.{total}
use Rattle.notify_ring.specs.Passes.{posting_of, owns}
use Rattle.notify_ring.specs.Rule.{claim_of, good_of, pends_of, claimed, good, pends, poster}
use Rattle.notify_ring.specs.Rule.{rooted, kids, drainer, FlightFits, StageFits, RingHolds}
use Rattle.notify_ring.specs.Steps.{drawn_view}
use Rattle.list_lemmas.proofs.Sums.{total-set, term_le, terms_le, total-same}
use Rattle.notify_ring.proofs.Lists.{of-append, of-one, of-other, below-le, spread, at_end}
use Rattle.notify_ring.proofs.Keeps.{Me', Rule, same_fits, below_length}

-- a flight beyond the tail pends nowhere
pub unpended : (ws : List ℕ) (all : List Posting) (c : ℕ) (b : Bool) (f : Flight) (n : ℕ)
    → length all ≤ n → FlightFits ws all c b f → pends_of n f ≡ 0
unpended ws all c b Idle n le h = refl
unpended ws all c b (Claimed r) n le h = refl
unpended ws all c b (Drawn x) n le h =
    ap flag (ne_eqb n x.number (λ e. omega (arith, below_length all x.number x h.1)))
unpended ws all c b (Written x) n le h =
    ap flag (ne_eqb n x.number (λ e. omega (arith, below_length all x.number x h.1)))

pub total-none : {A : Type 0} (f : A → ℕ) (l : List A)
    → ((k : ℕ) (x : A) → get_elem? l k ≡ some x → f x ≡ 0) → total f l ≡ 0
total-none f [] h = refl
total-none f (x ∷ xs) h = omega (arith, h 0 x refl, total-none f xs (λ k. h (suc k)))

pub ended_owns : (p : ℕ) (es : List Ended) (k : ℕ) (e : Ended) → get_elem? es k ≡ some e
    → p ≡ e.number → 1 ≤ total (λ (x : Ended). flag (eqb p x.number)) es
ended_owns p es k e at is = omega (
  arith,
  term_le (λ (x : Ended). flag (eqb p x.number)) es k e at,
  ap flag (eq-eqb p e.number is),
)

pub owns_self : (v : View) → v.posts ≡ true → 1 ≤ owns v.number v
owns_self v posts = omega (
  arith,
  ap (λ b. cond {A = ℕ} b (flag (eqb v.number v.number)) 0) posts,
  ap flag (eq-eqb v.number v.number refl),
)

pub flag_le : (b : Bool) → flag b ≤ 1
flag_le true = omega arith
flag_le false = omega arith

module _ (ws : List ℕ) (vs : List View) (o : RingHolds ws vs) (id : ℕ) (v : View)
    (at : get_elem? vs id ≡ some v) (posts : v.posts ≡ true) where
  -- the number of a poster is no other's
  pub mine_alone : (k : ℕ) (u : View) → k ≢ id → get_elem? vs k ≡ some u → owns v.number u ≡ 0
  mine_alone k u ne e = omega (
    arith,
    terms_le (owns v.number) vs id k v u ne at e,
    owns_self v posts,
    o.owners v.number,
    flag_le (nat_lt v.number o.made),
  )

  pub my_number : v.number < o.made
  my_number = dite (dec_le o.made v.number)
      (λ le. absurd (omega (
        arith,
        term_le (owns v.number) vs id v at,
        owns_self v posts,
        o.owners v.number,
        ap flag (le-ltb v.number o.made le),
      )))
      (λ no. omega arith)

  not_ended : (k : ℕ) (e : Ended) → get_elem? v.ended k ≡ some e → e.number ≢ v.number
  not_ended k e there same = absurd (omega (
    arith,
    term_le (owns v.number) vs id v at,
    o.owners v.number,
    flag_le (nat_lt v.number o.made),
    ap (λ b. cond {A = ℕ} b (flag (eqb v.number v.number)) 0)
        posts,
    ap flag (eq-eqb v.number v.number refl),
    ended_owns v.number v.ended k e there (sym same),
  ))

  others_number : (k : ℕ) (u : View) → k ≢ id → get_elem? vs k ≡ some u → u.posts ≡ true
      → u.number ≢ v.number
  others_number k u ne e p same = omega (
    arith,
    mine_alone k u ne e,
    ap (λ b. cond {A = ℕ} b (flag (eqb v.number u.number)) 0) p,
    ap flag (eq-eqb v.number u.number (sym same)),
  )

  others_ended : (k : ℕ) (u : View) → k ≢ id → get_elem? vs k ≡ some u → (j : ℕ) (e : Ended)
      → get_elem? u.ended j ≡ some e → e.number ≢ v.number
  others_ended k u ne at-u j e there same =
      omega (arith, mine_alone k u ne at-u, ended_owns v.number u.ended j e there (sym same))

  pub tail_low : length o.all ≤ 64 * 2 ^ 56
  tail_low = let each : (p : ℕ) → length (by_poster p o.all) ≤ 2 ^ 56 = o.bounded in
      let all-low : length o.all ≤ o.made * 2 ^ 56 =
      le-trans (spread o.made o.all (λ n x e. (o.numbered n x e).from))
      (below-le (λ p. length (by_poster p o.all)) (2 ^ 56) o.made each) in
      omega (arith, all-low, o.limit)
    where
      le-trans : {a b c : ℕ} → a ≤ b → b ≤ c → a ≤ c
      le-trans {a} {b} {c} x y = omega arith

  module _ (r : ℕ) (handle : Handle) (kind : Kind) (claim : v.flight ≡ Claimed r) (low : r < 256)
      (room : length v.posted < 2 ^ 56) where
    abbrev Found : ℕ
    Found = slice_index ws 1

    abbrev New : Posting
    New = posting_of v Found handle kind

    abbrev All : List Posting
    All = o.all ++ New ∷ []

    grown : length All ≡ length o.all + 1
    grown = length-append o.all (New ∷ [])

    draws : RingHolds (set ws 1 (Found + 1)) (set vs id (drawn_view v Found handle kind))
    draws =
        let new = set ws 1 (Found + 1) in
        let w = drawn_view v Found handle kind in
        let fit = o.fits id v at in
        let same : (i : ℕ) → i ≢ 1 → slice_index new i ≡ slice_index ws i =
        λ i ne. get_or-set_other ws 1 i (Found + 1) 0 ne in
        let good-v : good v ≡ 1 = ap good_of claim ∙ ap flag (lt-ltb r 256 low) in
        let some-good : 1 ≤ total good vs = omega (arith, term_le good vs id v at, good-v) in
        let pends-v : (n : ℕ) → pends n v ≡ 0 = λ n. ap (pends_of n) claim in
        let others : (n : ℕ) → n ≢ Found → total (pends n) (set vs id w) ≡ total (pends n) vs =
        λ n ne. total-same (pends n) vs id v w at
        (ap flag (ne_eqb n Found ne) ∙ sym (pends-v n)) in
        let fresh : total (pends Found) vs ≡ 0 =
        total-none (pends Found) vs (λ k u e.
        unpended ws o.all o.cleared u.posts u.flight Found (omega (arith, o.tail))
        (o.fits k u e).flight) in
        let now-mine : total (pends Found) (set vs id w) ≡ 1 =
        omega (
          arith,
          total-set (pends Found) vs id v w at,
          fresh,
          pends-v Found,
          ap flag (eq-eqb Found Found refl),
        ) in
        let window : length o.all < o.cleared + 256 = omega (arith, o.few, some-good, o.order) in
        record {
          all = All;
          cleared = o.cleared;
          freed = o.freed;
          made = o.made;
          wide = length-set ws 1 (Found + 1) ∙ o.wide;
          held = omega (
            arith,
            same 0 (omega arith),
            o.held,
            total-set claimed vs id v w at,
            ap claim_of claim,
            grown,
          );
          tail = get_or-set_same ws 1 (Found + 1) 0 (omega (arith, o.wide))
              ∙ omega (arith, o.tail, grown);
          order = (o.order.0, omega (arith, o.order, grown));
          few = omega (arith, o.few, total-set good vs id v w at, good-v, grown);
          numbered = λ n x e. ⊎_elim (λ t. o.numbered n x t)
              (λ (t : (n ≡ length o.all) × (New ≡ x)).
              subst (λ (y : Posting). IsNumbered o.made n y) t.1
              (record { number = omega (arith, o.tail, t.0); from = my_number }))
              (at_end o.all New x n e);
          seqs = λ n x e. ⊎_elim
              (λ t. o.seqs n x t ∙ ap (λ l. length (by_poster x.from l))
              (sym (take-append-le n o.all (New ∷ [])
              (omega (arith, below_length o.all n x t)))))
              (λ (t : (n ≡ length o.all) × (New ≡ x)).
              subst (λ (y : Posting). y.seq ≡ length (by_poster y.from (take n All))) t.1
              (ap length (fit.posted posts) ∙ ap (λ l. length (by_poster v.number l))
              (sym (take_all n o.all (omega (arith, t.0)))
              ∙ sym (take-append-le n o.all (New ∷ []) (omega (arith, t.0))))))
              (at_end o.all New x n e);
          drainers = omega (arith, o.drainers, total-same drainer vs id v w at refl);
          stored = λ n x le e none. ⊎_elim
              (λ (t : get_elem? o.all n ≡ some x). let ne : n ≢ Found =
              λ q. omega (arith, below_length o.all n x t, o.tail) in let st =
              o.stored n x le t (sym (others n ne) ∙ none) in
              record {
                gate = same (gate_at x.number) (omega arith) ∙ st.gate;
                handle = same (handle_at x.number) (omega arith) ∙ st.handle;
              })
              (λ (t : (n ≡ length o.all) × (New ≡ x)).
              absurd (omega (
                arith,
                now-mine,
                none,
                ap (λ (j : ℕ). total (pends j) (set vs id w)) (t.0 ∙ sym o.tail),
              )))
              (at_end o.all New x n e);
          waits = λ n le lt some-wait. dite (ℕ_discrete n Found)
              (λ q. same (gate_at n) (omega arith) ∙ o.vacant n (omega (arith, q, o.tail)) lt)
              (λ ne. same (gate_at n) (omega arith) ∙ o.waits n le lt (omega (arith, others n ne)));
          vacant = λ n le lt. same (gate_at n) (omega arith) ∙ o.vacant n (omega (arith, grown)) lt;
          single = λ n. dite (ℕ_discrete n Found)
              (λ q. omega (arith, now-mine, ap (λ (j : ℕ). total (pends j) (set vs id w)) q))
              (λ ne. omega (arith, others n ne, o.single n));
          fits = same_fits new All o.cleared o.freed o.made vs id w
              (λ k u ne e. let g = o.fits k u e in record {
                full = λ le. omega (arith, g.full le, grown);
                posted = λ p. g.posted p ∙ sym (kept_of u.number (others_number k u ne e p));
                ended = λ j x there. g.ended j x there
                    ∙ sym (kept_of x.number (others_ended k u ne e j x there));
                flight = longer_flight u.posts u.flight g.flight;
                root = g.root;
                child = g.child;
                drain = λ d. longer_stage u.got u.stage (g.drain d);
              })
              (record {
                full = λ le. omega (arith, fit.full le, grown);
                posted = λ p. ap (λ l. l ++ New ∷ []) (fit.posted p)
                    ∙ sym (of-append v.number o.all (New ∷ [])
                    ∙ ap (λ l. by_poster v.number o.all ++ l) (of-one v.number New refl));
                ended = λ j x there. fit.ended j x there
                    ∙ sym (kept_of x.number (not_ended j x there));
                flight = (
                  posts,
                  subst (λ (n : ℕ). get_elem? All n ≡ some New) (sym o.tail)
                      (at_last o.all New (length o.all) refl),
                  omega (arith, o.order, o.tail),
                );
                root = fit.root;
                child = fit.child;
                drain = λ d. longer_stage v.got v.stage (fit.drain d);
              });
          owners = λ p. total-same (owns p) vs id v w at refl ∙ o.owners p;
          roots = total-same rooted vs id v w at refl ∙ o.roots;
          family = omega (
            arith,
            o.family,
            total-same poster vs id v w at refl,
            total-same kids vs id v w at refl,
          );
          limit = o.limit;
          bounded = λ p. dite (ℕ_discrete p v.number)
              (λ q. omega (
                arith,
                ap length (of-append p o.all (New ∷ [])),
                length-append (by_poster p o.all) (by_poster p (New ∷ [])),
                ap length (of-one p New q),
                ap length (fit.posted posts),
                ap (λ (j : ℕ). length (by_poster j o.all)) q,
                room,
              ))
              (λ ne. omega (arith, ap length (kept_of p ne), o.bounded p));
        }
      where
        kept_of : (p : ℕ) → p ≢ v.number → by_poster p All ≡ by_poster p o.all
        kept_of p ne = of-append p o.all (New ∷ [])
            ∙ ap (λ l. by_poster p o.all ++ l) (of-other p New ne) ∙ append-nil (by_poster p o.all)

        front : take o.cleared o.all ≡ take o.cleared All
        front = sym (take-append-le o.cleared o.all (New ∷ []) (omega (arith, o.order)))

        longer_stage : (got : List Posting) (t : Stage) → StageFits ws o.all o.cleared o.freed got t
            → StageFits (set ws 1 (Found + 1)) All o.cleared o.freed got t
        longer_stage got Resting h = (h.0 ∙ front, h.1)
        longer_stage got (Seen x) h = (
          h.0
              ∙ front,
          h.1,
          at_longer o.all (New ∷ []) o.cleared x h.2,
          get_or-set_other ws 1 (gate_at o.cleared) (Found + 1) 0 (omega arith) ∙ h.3,
        )
        longer_stage got Cleared h = (h.0 ∙ front, h.1)

        longer_flight : (b : Bool) (f : Flight) → FlightFits ws o.all o.cleared b f
            → FlightFits (set ws 1 (Found + 1)) All o.cleared b f
        longer_flight b Idle h = tt
        longer_flight b (Claimed s) h = h
        longer_flight b (Drawn x) h = (h.0, at_longer o.all (New ∷ []) x.number x h.1, h.2)
        longer_flight b (Written x) h = (
          h.0,
          at_longer o.all (New ∷ []) x.number x h.1,
          h.2,
          get_or-set_other ws 1 (handle_at x.number) (Found + 1) 0 (omega arith) ∙ h.3,
        )

pub draws_at : (id n r : ℕ) (handle : Handle) (kind : Kind) (m : Me') → m.0.flight ≡ Claimed r
    → r < 256 → length m.0.posted < 2 ^ 56 → m.1 ≡ [] → m.0.posts ≡ true
    → Allows Rule n id m 1 (λ x. (x + 1) % 2 ^ 64) (λ f k. k ≡ (drawn_view m.0 f handle kind, []))
draws_at id n r handle kind m claim low room bare posts =
    subst (λ (c : List (ℕ × Unit {0})).
    Allows Rule n id (m.0, c) 1 (λ x. (x + 1) % 2 ^ 64)
    (λ f k. k ≡ (drawn_view m.0 f handle kind, []))) (sym bare)
    (λ s o wide at _. let t = get_or s.words 1 0 in let next : (t + 1) % 2 ^ 64 ≡ t + 1 =
    omega (arith, tail_low s.words s.views o id m.0 at posts, o.tail) in (
      drawn_view m.0 t handle kind,
      keeps,
      tt,
      subst (λ (x : ℕ). RingHolds (set s.words 1 x) (set s.views id (drawn_view m.0 t handle kind)))
          (sym next) (draws s.words s.views o id m.0 at posts r handle kind claim low room),
      refl,
    ))
