-- The drainer's steps keep the rule.
use Rattle.std.proofs.Common.{◌≡◌, ◌≢◌, ℕ, zero, suc, ◌+◌, ◌-◌, ◌*◌, ◌%◌, ◌^◌, ◌<◌, ◌≤◌, List, []}
use Rattle.std.proofs.Common.{◌∷◌, ◌++◌, length, set, get_or, sym, refl, ap, ◌∙◌, subst, arith}
use Rattle.std.proofs.Common.{Bool, true, eq-eqb, length-set, length-append, get_or-set_same}
use Rattle.std.proofs.Common.{get_or-set_other, take, drop, replicate}
use Rattle.std.proofs.lemmas.List.{length-take-le, take-append-drop}
use Rattle.std.specs.Prelude.{slice_index}
use mathlib.Core.Logic.{dite}
use mathlib.Core.Option.{some, some-injective, some-ne-none}
use native.Mathlib.Decide.{ℕ_discrete, dec_le}
use lib.ListN.{get_elem?}
use lib.Seq.{set-get_or}
use Rattle.atomic_table.specs.Table.{keeps, Allows}
use Rattle.atomic_table.proofs.Lists.{set_again, drop_at}
use Rattle.notify_ring.specs.declared.posting.Posting.{Posting}
use Rattle.notify_ring.specs.declared.view.Flight.{Flight}
use Rattle.notify_ring.specs.declared.view.Flight.TheVariants.{Idle, Claimed, Drawn, Written}
use Rattle.notify_ring.specs.declared.view.Stage.{Stage}
use Rattle.notify_ring.specs.declared.view.Stage.TheVariants.{Resting, Seen, Cleared}
use Rattle.notify_ring.specs.declared.view.View.{View}
use Rattle.notify_ring.specs.Postings.{flag, by_poster, handle_at, gate_at, code, CountsByPoster}
use Rattle.list_lemmas.specs.Sums.{total}
use Rattle.notify_ring.specs.Passes.{owns}
use Rattle.notify_ring.specs.Rule.{pends_of, claimed, good, pends, poster, rooted, kids, drainer}
use Rattle.notify_ring.specs.Rule.{FlightFits, StageFits, IsStored, RingHolds}
use Rattle.notify_ring.specs.Steps.{loaded_view, GateLoaded, GatePeeked, HandleLoaded, got_after}
use Rattle.notify_ring.specs.Steps.{cleared_view, released_view}
use Rattle.list_lemmas.proofs.Sums.{term_le, terms_le, total-same}
use Rattle.notify_ring.proofs.Lists.{of-append, of-one, of-other, below-le, spread}
use Rattle.notify_ring.proofs.Keeps.{Me', Rule, same_fits, below_length, apart_places, in_window}
use Rattle.notify_ring.proofs.Draws.{unpended, total-none}

there_is : {A : Type 0} (l : List A) (i : ℕ) → i < length l → (x : A) × (get_elem? l i ≡ some x)
there_is [] i h = absurd (omega arith)
there_is (x ∷ xs) zero h = (x, refl)
there_is (x ∷ xs) (suc i) h = there_is xs i (omega arith)

take_next : {A : Type 0} (l : List A) (i : ℕ) (x : A) → get_elem? l i ≡ some x
    → take (suc i) l ≡ take i l ++ x ∷ []
take_next [] i x e = absurd (some-ne-none x (sym e))
take_next (y ∷ ys) zero x e = ap (λ z. z ∷ []) (some-injective y x e)
take_next (y ∷ ys) (suc i) x e = ap (λ l. y ∷ l) (take_next ys i x e)

-- what stands there is one more of its poster's
counted_in : (all : List Posting) (i : ℕ) (x : Posting) → get_elem? all i ≡ some x
    → length (by_poster x.from (take i all)) + 1 ≤ length (by_poster x.from all)
counted_in all i x e =
    let p = x.from in
    let whole : by_poster p all ≡ by_poster p (take i all)
    ++ (by_poster p (x ∷ []) ++ by_poster p (drop (suc i) all)) =
    ap (by_poster p) (sym (take-append-drop i all) ∙ ap (λ l. take i all ++ l) (drop_at all i x e))
    ∙ of-append p (take i all) (x ∷ drop (suc i) all)
    ∙ ap (λ l. by_poster p (take i all) ++ l) (of-append p (x ∷ []) (drop (suc i) all)) in
    omega (
      arith,
      ap length whole,
      length-append (by_poster p (take i all))
          (by_poster p (x ∷ []) ++ by_poster p (drop (suc i) all)),
      length-append (by_poster p (x ∷ [])) (by_poster p (drop (suc i) all)),
      ap length (of-one p x refl),
    )

few_postings : (ws : List ℕ) (vs : List View) (o : RingHolds ws vs) → length o.all ≤ 64 * 2 ^ 56
few_postings ws vs o =
    let each : (p : ℕ) → length (by_poster p o.all) ≤ 2 ^ 56 = o.bounded in
    let all-low : length o.all ≤ o.made * 2 ^ 56 =
    le-trans (spread o.made o.all (λ n x e. (o.numbered n x e).from))
    (below-le (λ p. length (by_poster p o.all)) (2 ^ 56) o.made each) in
    omega (arith, all-low, o.limit)
  where
    le-trans : {a b c : ℕ} → a ≤ b → b ≤ c → a ≤ c
    le-trans {a} {b} {c} x y = omega arith

module _ (ws : List ℕ) (vs : List View) (o : RingHolds ws vs) (id : ℕ) (v : View)
    (at : get_elem? vs id ≡ some v) where
  -- a step of the drainer that changes no word and frees nothing
  rests : (l a : ℕ) (t : Stage) → StageFits ws o.all o.cleared o.freed v.got t
      → RingHolds ws (set vs id (record v { loads = l; gate = a; stage = t }))
  rests l a t stage =
      let w = record v { loads = l; gate = a; stage = t } in
      let fit = o.fits id v at in
      record {
        all = o.all;
        cleared = o.cleared;
        freed = o.freed;
        made = o.made;
        wide = o.wide;
        held = omega (arith, o.held, total-same claimed vs id v w at refl);
        tail = o.tail;
        order = o.order;
        few = omega (arith, o.few, total-same good vs id v w at refl);
        numbered = o.numbered;
        seqs = o.seqs;
        stored = λ n x le e none. o.stored n x le e
            (sym (total-same (pends n) vs id v w at refl) ∙ none);
        waits = λ n le lt some-wait. o.waits n le lt
            (omega (arith, total-same (pends n) vs id v w at refl));
        vacant = o.vacant;
        single = λ n. omega (arith, o.single n, total-same (pends n) vs id v w at refl);
        fits = same_fits ws o.all o.cleared o.freed o.made vs id w (λ k u _. o.fits k u)
            (record {
              posted = fit.posted;
              full = fit.full;
              ended = fit.ended;
              flight = fit.flight;
              root = fit.root;
              child = fit.child;
              drain = λ _. stage;
            });
        owners = λ p. total-same (owns p) vs id v w at refl ∙ o.owners p;
        drainers = omega (arith, o.drainers, total-same drainer vs id v w at refl);
        roots = total-same rooted vs id v w at refl ∙ o.roots;
        family = omega (
          arith,
          o.family,
          total-same poster vs id v w at refl,
          total-same kids vs id v w at refl,
        );
        limit = o.limit;
        bounded = o.bounded;
      }

  -- a posting whose gate is not empty is stored
  is_stored : (n : ℕ) (x : Posting) → o.cleared ≤ n → get_elem? o.all n ≡ some x
      → slice_index ws (gate_at n) ≢ 0 → IsStored ws x
  is_stored n x le e full = o.stored n x le e
      (dite (ℕ_discrete (total (pends n) vs) 0) (λ z. z)
      (λ nz. absurd (full (o.waits n le (in_window ws vs o n x e) (omega arith)))))

  -- no other view drains
  sole : (k : ℕ) (u : View) → k ≢ id → get_elem? vs k ≡ some u → v.drains ≡ true → u.drains ≡ true
      → ⊥
  sole k u ne e dv du = omega (
    arith,
    terms_le drainer vs id k v u ne at e,
    o.drainers,
    ap flag dv,
    ap flag du,
  )

pub looks : (id n : ℕ) (v : View) → v.stage ≡ Resting → v.drains ≡ true
    → Allows Rule n id (v, []) (gate_at (length v.got)) (λ x. x) (GateLoaded (v, []))
looks id n v rest drains s o wide at _ =
    let ws = s.words in
    let i = gate_at (length v.got) in
    let g = get_or ws i 0 in
    let d : StageFits ws o.all o.cleared o.freed v.got Resting =
    subst (λ (t : Stage). StageFits ws o.all o.cleared o.freed v.got t) rest
    ((o.fits id v at).drain drains) in
    let len : length v.got ≡ o.cleared = ap length d.0 ∙ length-take-le o.cleared o.all o.order.1 in
    let here : slice_index ws (gate_at o.cleared) ≡ g =
    ap (λ (c : ℕ). slice_index ws (gate_at c)) (sym len) in
    let back : (w : View) → RingHolds ws (set s.views id w)
    → RingHolds (set ws i g) (set s.views id w) =
    λ w r. subst (λ (l : List ℕ). RingHolds l (set s.views id w)) (sym (set-get_or ws i 0)) r in
    dite (ℕ_discrete g 0)
    (λ empty. (
      loaded_view v g Resting,
      keeps,
      tt,
      back _ (rests ws s.views o id v at (v.loads + 1) g Resting d),
      ((λ _. refl), λ full. absurd (full empty)),
    ))
    (λ full. let up : o.cleared < length o.all =
    up_to (dec_le (length o.all) o.cleared)
    (λ le. full (sym here ∙ o.vacant o.cleared le (omega arith))) in
    let t = there_is o.all o.cleared up in
    let x = t.0 in
    let st = is_stored ws s.views o id v at o.cleared x (omega arith) t.1 (λ z. full (sym here ∙ z))
    in
    let num = o.numbered o.cleared x t.1 in
    let is-code : g ≡ code x = sym here
    ∙ ap (λ (c : ℕ). slice_index ws (gate_at c)) (sym num.number) ∙ st.gate in
    let seq : x.seq ≡ length (by_poster x.from v.got) =
    o.seqs o.cleared x t.1 ∙ ap (λ l. length (by_poster x.from l)) (sym d.0) in (
      loaded_view v g (Seen x),
      keeps,
      tt,
      back _ (rests ws s.views o id v at (v.loads + 1) g (Seen x) (d.0, d.1, t.1, here ∙ is-code)),
      (
        (λ empty. absurd (full empty)),
        λ _. (
          x,
          is-code,
          record {
            number = num.number ∙ sym len;
            from = omega (arith, num.from, o.limit);
            seq = seq;
            few = omega (
              arith,
              o.seqs o.cleared x t.1,
              counted_in o.all o.cleared x t.1,
              o.bounded x.from,
            );
            low = omega (arith, len, up, few_postings ws s.views o);
          },
          refl,
        ),
      ),
    ))
  where
    up_to : {a b : ℕ} → Dec (b ≤ a) → (b ≤ a → ⊥) → a < b
    up_to {a} {b} (yes p) h = absurd (h p)
    up_to {a} {b} (no q) h = omega arith

pub peeks : (id n : ℕ) (v : View) → v.stage ≡ Resting → v.drains ≡ true
    → Allows Rule n id (v, []) (gate_at (length v.got)) (λ x. x) (GatePeeked (v, []))
peeks id n v rest drains s o wide at low =
    let ws = s.words in
    let i = gate_at (length v.got) in
    let g = get_or ws i 0 in
    let w = loaded_view v g Resting in
    let d : StageFits ws o.all o.cleared o.freed v.got Resting =
    subst (λ (t : Stage). StageFits ws o.all o.cleared o.freed v.got t) rest
    ((o.fits id v at).drain drains) in
    let same : RingHolds ws (set s.views id w) =
    rests ws s.views o id v at (v.loads + 1) g Resting d in (
      w,
      keeps,
      tt,
      subst (λ (l : List ℕ). RingHolds l (set s.views id w)) (sym (set-get_or ws i 0))
          same,
      refl,
    )

pub reads : (id n : ℕ) (v : View) (x : Posting) → v.stage ≡ Seen x → v.drains ≡ true
    → Allows Rule n id (v, []) (handle_at (length v.got)) (λ y. y) (HandleLoaded (v, []))
reads id n v x seen drains s o wide at _ =
    let ws = s.words in
    let i = handle_at (length v.got) in
    let d : StageFits ws o.all o.cleared o.freed v.got (Seen x) =
    subst (λ (t : Stage). StageFits ws o.all o.cleared o.freed v.got t) seen
    ((o.fits id v at).drain drains) in
    let len : length v.got ≡ o.cleared = ap length d.0 ∙ length-take-le o.cleared o.all o.order.1 in
    let st = is_stored ws s.views o id v at o.cleared x (omega arith) d.2
    (λ z. omega (arith, z, d.3)) in
    let num = (o.numbered o.cleared x d.2).number in (
      v,
      keeps,
      tt,
      subst (λ (l : List ℕ). RingHolds l (set s.views id v)) (sym (set-get_or ws i 0))
          (subst (λ (l : List View). RingHolds ws l) (sym (set_again s.views id v at)) o),
      (
        refl,
        λ y is. ap (λ (c : ℕ). slice_index ws (handle_at c)) (len ∙ sym num) ∙ st.handle
            ∙ ap (λ (z : Posting). z.handle.0) (seen-one x y (sym seen ∙ is)),
      ),
    )
  where
    seen-one : (a b : Posting) → Seen a ≡ Seen b → a ≡ b
    seen-one a b e = cc

pub clears : (id n : ℕ) (v : View) (x : Posting) → v.stage ≡ Seen x → v.drains ≡ true
    → Allows Rule n id (v, []) (gate_at (length v.got)) (λ _. 0) (λ _ m. m ≡ (cleared_view v, []))
clears id n v x seen drains s o wide at _ =
    let d : StageFits s.words o.all o.cleared o.freed v.got (Seen x) =
    subst (λ (t : Stage). StageFits s.words o.all o.cleared o.freed v.got t) seen
    ((o.fits id v at).drain drains) in
    let len : length v.got ≡ o.cleared = ap length d.0 ∙ length-take-le o.cleared o.all o.order.1 in (
      cleared_view v,
      keeps,
      tt,
      subst (λ (c : ℕ).
          RingHolds (set s.words (gate_at c) 0) (set s.views id (cleared_view v))) (sym len)
          (empties s.words s.views o at d),
      refl,
    )
  where
    empties : (ws : List ℕ) (vs : List View) (o : RingHolds ws vs) → get_elem? vs id ≡ some v
        → StageFits ws o.all o.cleared o.freed v.got (Seen x)
        → RingHolds (set ws (gate_at o.cleared) 0) (set vs id (cleared_view v))
    empties ws vs o at d =
        let i = gate_at o.cleared in
        let new = set ws i 0 in
        let w = cleared_view v in
        let fit = o.fits id v at in
        let up : o.cleared < length o.all = below_length o.all o.cleared x d.2 in
        let full : slice_index ws (gate_at o.cleared) ≢ 0 = λ z. omega (arith, z, d.3) in
        let gate-kept : (k : ℕ) → suc o.cleared ≤ k → k < o.cleared + 256
        → slice_index new (gate_at k) ≡ slice_index ws (gate_at k) =
        λ k le lt. let p = apart_places o.cleared k o.cleared (omega arith) lt (omega arith)
        (omega arith) (λ e. omega (arith, e)) in
        get_or-set_other ws i (gate_at k) 0 0 (λ e. p (omega arith)) in
        let handle-kept : (k : ℕ) → slice_index new (handle_at k) ≡ slice_index ws (handle_at k) =
        λ k. get_or-set_other ws i (handle_at k) 0 0 (omega arith) in
        let pending : (k : ℕ) → total (pends k) (set vs id w) ≡ total (pends k) vs =
        λ k. total-same (pends k) vs id v w at refl in
        record {
          all = o.all;
          cleared = suc o.cleared;
          freed = o.freed;
          made = o.made;
          wide = length-set ws i 0 ∙ o.wide;
          held = omega (
            arith,
            get_or-set_other ws i 0 0 0 (omega arith),
            o.held,
            total-same claimed vs id v w at refl,
          );
          tail = get_or-set_other ws i 1 0 0 (omega arith) ∙ o.tail;
          order = (omega (arith, o.order), omega (arith, up));
          few = omega (arith, o.few, total-same good vs id v w at refl);
          numbered = o.numbered;
          seqs = o.seqs;
          stored = λ k y le e none. let st =
              o.stored k y (omega arith) e (sym (pending k) ∙ none) in let num =
              (o.numbered k y e).number in record {
                gate = subst (λ (j : ℕ). slice_index new (gate_at j) ≡ slice_index ws (gate_at j))
                    (sym num) (gate-kept k le (in_window ws vs o k y e)) ∙ st.gate;
                handle = handle-kept y.number ∙ st.handle;
              };
          waits = λ k le lt some-wait. dite (dec_le (o.cleared + 256) k)
              (λ far. absurd (omega (
                arith,
                pending k,
                some-wait,
                total-none (pends k) vs (λ j u e. unpended ws o.all o.cleared u.posts u.flight k
                    (omega (arith, o.few, o.order)) (o.fits j u e).flight),
              )))
              (λ near. gate-kept k le (omega arith)
              ∙ o.waits k (omega arith) (omega arith) (omega (arith, pending k)));
          vacant = λ k le lt. dite (dec_le (o.cleared + 256) k)
              (λ far. let there : k ≡ o.cleared + 256 = omega arith in
              subst (λ (j : ℕ). slice_index new (gate_at j) ≡ 0) (sym there)
              (subst (λ (j : ℕ). slice_index new j ≡ 0) {x = i} (omega arith)
              (get_or-set_same ws i 0 0 (omega (arith, o.wide)))))
              (λ near. gate-kept k (omega (arith, up)) (omega arith) ∙ o.vacant k le (omega arith));
          single = λ k. omega (arith, o.single k, pending k);
          fits = same_fits new o.all (suc o.cleared) o.freed o.made vs id w
              (λ k u ne e. let g = o.fits k u e in record {
                posted = g.posted;
                full = g.full;
                ended = g.ended;
                flight = later ws vs o full k u e u.flight refl g.flight;
                root = g.root;
                child = g.child;
                drain = λ du. absurd (sole ws vs o id v at k u ne e drains du);
              })
              (record {
                posted = fit.posted;
                full = fit.full;
                ended = fit.ended;
                flight = later ws vs o full id v at v.flight refl fit.flight;
                root = fit.root;
                child = fit.child;
                drain = λ _. (
                  ap (λ t. got_after t v.got) seen ∙ ap (λ l. l ++ x ∷ []) d.0
                      ∙ sym (take_next o.all o.cleared x d.2),
                  omega (arith, d.1),
                );
              });
          owners = λ p. total-same (owns p) vs id v w at refl ∙ o.owners p;
          drainers = omega (arith, o.drainers, total-same drainer vs id v w at refl);
          roots = total-same rooted vs id v w at refl ∙ o.roots;
          family = omega (
            arith,
            o.family,
            total-same poster vs id v w at refl,
            total-same kids vs id v w at refl,
          );
          limit = o.limit;
          bounded = o.bounded;
        }
      where
        ahead : (ws : List ℕ) (vs : List View) (o : RingHolds ws vs)
            → slice_index ws (gate_at o.cleared) ≢ 0 → (k : ℕ) (u : View) → get_elem? vs k ≡ some u
            → (y : Posting) → pends y.number u ≡ 1 → o.cleared ≤ y.number → suc o.cleared ≤ y.number
        ahead ws vs o full k u e y one le = dite (ℕ_discrete y.number o.cleared)
            (λ same. absurd (full (o.waits o.cleared (omega arith) (omega arith)
            (omega (
              arith,
              term_le (pends y.number) vs k u e,
              one,
              ap (λ (j : ℕ). total (pends j) vs) same,
            )))))
            (λ ne. omega arith)

        later : (ws : List ℕ) (vs : List View) (o : RingHolds ws vs)
            → slice_index ws (gate_at o.cleared) ≢ 0 → (k : ℕ) (u : View) → get_elem? vs k ≡ some u
            → (f : Flight) → u.flight ≡ f → FlightFits ws o.all o.cleared u.posts f
            → FlightFits (set ws (gate_at o.cleared) 0) o.all (suc o.cleared) u.posts f
        later ws vs o full k u e Idle is h = tt
        later ws vs o full k u e (Claimed r) is h = h
        later ws vs o full k u e (Drawn y) is h = (
          h.0,
          h.1,
          ahead ws vs o full k u e y
              (ap (pends_of y.number) is ∙ ap flag (eq-eqb y.number y.number refl)) h.2,
        )
        later ws vs o full k u e (Written y) is h = (
          h.0,
          h.1,
          ahead ws vs o full k u e y
              (ap (pends_of y.number) is ∙ ap flag (eq-eqb y.number y.number refl)) h.2,
          get_or-set_other ws (gate_at o.cleared) (handle_at y.number) 0 0 (omega arith) ∙ h.3,
        )

pub frees : (id n : ℕ) (v : View) → v.stage ≡ Cleared → v.drains ≡ true
    → Allows Rule n id (v, []) 0 (λ x. (x + (2 ^ 64 - 1)) % 2 ^ 64)
    (λ _ m. m ≡ (released_view v, []))
frees id n v was drains s o wide at low =
    let h = get_or s.words 0 0 in
    let d : StageFits s.words o.all o.cleared o.freed v.got Cleared =
    subst (λ (t : Stage). StageFits s.words o.all o.cleared o.freed v.got t) was
    ((o.fits id v at).drain drains) in
    let some-held : 1 ≤ h = omega (arith, o.held, o.order, d.1) in
    let next : (h + (2 ^ 64 - 1)) % 2 ^ 64 ≡ h - 1 = omega (arith, some-held, low) in (
      released_view v,
      keeps,
      tt,
      subst
          (λ (x : ℕ). RingHolds (set s.words 0 x) (set s.views id (released_view v))) (sym next)
          (less s.words s.views o at d some-held),
      refl,
    )
  where
    less : (ws : List ℕ) (vs : List View) (o : RingHolds ws vs) → get_elem? vs id ≡ some v
        → StageFits ws o.all o.cleared o.freed v.got Cleared → 1 ≤ slice_index ws 0
        → RingHolds (set ws 0 (slice_index ws 0 - 1)) (set vs id (released_view v))
    less ws vs o at d up =
        let n = slice_index ws 0 - 1 in
        let new = set ws 0 n in
        let w = released_view v in
        let fit = o.fits id v at in
        let same : (i : ℕ) → 0 < i → slice_index new i ≡ slice_index ws i =
        λ i up. get_or-set_other ws 0 i n 0 (omega arith) in
        let pending : (k : ℕ) → total (pends k) (set vs id w) ≡ total (pends k) vs =
        λ k. total-same (pends k) vs id v w at refl in
        record {
          all = o.all;
          cleared = o.cleared;
          freed = o.freed + 1;
          made = o.made;
          wide = length-set ws 0 n ∙ o.wide;
          held = omega (
            arith,
            get_or-set_same ws 0 n 0 (omega (arith, o.wide)),
            o.held,
            up,
            total-same claimed vs id v w at refl,
          );
          tail = same 1 (omega arith) ∙ o.tail;
          order = (omega (arith, d.1), o.order.1);
          few = omega (arith, o.few, total-same good vs id v w at refl);
          numbered = o.numbered;
          seqs = o.seqs;
          stored = λ k y le e none. let st = o.stored k y le e (sym (pending k) ∙ none) in
              record {
                gate = same (gate_at y.number) (omega arith) ∙ st.gate;
                handle = same (handle_at y.number) (omega arith) ∙ st.handle;
              };
          waits = λ k le lt some-wait. same (gate_at k) (omega arith)
              ∙ o.waits k le lt (omega (arith, pending k));
          vacant = λ k le lt. same (gate_at k) (omega arith) ∙ o.vacant k le lt;
          single = λ k. omega (arith, o.single k, pending k);
          fits = same_fits new o.all o.cleared (o.freed + 1) o.made vs id w
              (λ k u ne e. let g = o.fits k u e in
              record {
                posted = g.posted;
                full = g.full;
                ended = g.ended;
                flight = again ws n o.all o.cleared u.posts u.flight g.flight;
                root = g.root;
                child = g.child;
                drain = λ du. absurd (sole ws vs o id v at k u ne e drains du);
              })
              (record {
                posted = fit.posted;
                full = fit.full;
                ended = fit.ended;
                flight = again ws n o.all o.cleared v.posts v.flight fit.flight;
                root = fit.root;
                child = fit.child;
                drain = λ _. (d.0, d.1);
              });
          owners = λ p. total-same (owns p) vs id v w at refl ∙ o.owners p;
          drainers = omega (arith, o.drainers, total-same drainer vs id v w at refl);
          roots = total-same rooted vs id v w at refl ∙ o.roots;
          family = omega (
            arith,
            o.family,
            total-same poster vs id v w at refl,
            total-same kids vs id v w at refl,
          );
          limit = o.limit;
          bounded = o.bounded;
        }
      where
        again : (ws : List ℕ) (n : ℕ) (all : List Posting) (c : ℕ) (b : Bool) (f : Flight)
            → FlightFits ws all c b f → FlightFits (set ws 0 n) all c b f
        again ws n all c b Idle h = tt
        again ws n all c b (Claimed r) h = h
        again ws n all c b (Drawn x) h = h
        again ws n all c b (Written x) h =
            (h.0, h.1, h.2, get_or-set_other ws 0 (handle_at x.number) n 0 (omega arith) ∙ h.3)

-- the steps, as a seat and its table have them
pub looks_at : (id n i : ℕ) (m : Me') → m.0.stage ≡ Resting → m.0.drains ≡ true → m.1 ≡ []
    → i ≡ gate_at (length m.0.got) → Allows Rule n id m i (λ x. x) (GateLoaded m)
looks_at id n i m rest drains bare index =
    subst (λ (j : ℕ). Allows Rule n id m j (λ x. x) (GateLoaded m)) (sym index)
    (subst (λ (c : List (ℕ × Unit {0})).
    Allows Rule n id (m.0, c) (gate_at (length m.0.got)) (λ x. x) (GateLoaded (m.0, c)))
    (sym bare) (looks id n m.0 rest drains))

pub peeks_at : (id n i : ℕ) (m : Me') → m.0.stage ≡ Resting → m.0.drains ≡ true → m.1 ≡ []
    → i ≡ gate_at (length m.0.got) → Allows Rule n id m i (λ x. x) (GatePeeked m)
peeks_at id n i m rest drains bare index =
    subst (λ (j : ℕ). Allows Rule n id m j (λ x. x) (GatePeeked m)) (sym index)
    (subst (λ (c : List (ℕ × Unit {0})).
    Allows Rule n id (m.0, c) (gate_at (length m.0.got)) (λ x. x) (GatePeeked (m.0, c)))
    (sym bare) (peeks id n m.0 rest drains))

pub reads_at : (id n i : ℕ) (m : Me') (x : Posting) → m.0.stage ≡ Seen x → m.0.drains ≡ true
    → m.1 ≡ [] → i ≡ handle_at (length m.0.got) → Allows Rule n id m i (λ y. y) (HandleLoaded m)
reads_at id n i m x seen drains bare index =
    subst (λ (j : ℕ). Allows Rule n id m j (λ y. y) (HandleLoaded m)) (sym index)
    (subst (λ (c : List (ℕ × Unit {0})).
    Allows Rule n id (m.0, c) (handle_at (length m.0.got)) (λ y. y) (HandleLoaded (m.0, c)))
    (sym bare) (reads id n m.0 x seen drains))

pub clears_at : (id n i : ℕ) (m : Me') (x : Posting) → m.0.stage ≡ Seen x → m.0.drains ≡ true
    → m.1 ≡ [] → i ≡ gate_at (length m.0.got)
    → Allows Rule n id m i (λ _. 0) (λ _ k. k ≡ (cleared_view m.0, []))
clears_at id n i m x seen drains bare index =
    subst (λ (j : ℕ). Allows Rule n id m j (λ _. 0) (λ _ k. k ≡ (cleared_view m.0, []))) (sym index)
    (subst (λ (c : List (ℕ × Unit {0})).
    Allows Rule n id (m.0, c) (gate_at (length m.0.got)) (λ _. 0)
    (λ _ k. k ≡ (cleared_view m.0, []))) (sym bare) (clears id n m.0 x seen drains))

pub frees_at : (id n : ℕ) (m : Me') → m.0.stage ≡ Cleared → m.0.drains ≡ true → m.1 ≡ []
    → Allows Rule n id m 0 (λ x. (x + (2 ^ 64 - 1)) % 2 ^ 64) (λ _ k. k ≡ (released_view m.0, []))
frees_at id n m was drains bare = subst
    (λ (c : List (ℕ × Unit {0})). Allows Rule n id (m.0, c) 0 (λ x. (x + (2 ^ 64 - 1)) % 2 ^ 64)
    (λ _ k. k ≡ (released_view m.0, []))) (sym bare) (frees id n m.0 was drains)

pub counts_more : (counts : List ℕ) (got : List Posting) (x : Posting) (new : List ℕ) (f : ℕ)
    → CountsByPoster counts got → x.from < 64 → f ≡ x.from
    → new ≡ set counts f (slice_index counts f + 1) → CountsByPoster new (got ++ x ∷ [])
counts_more counts got x new f a low same is =
    subst (λ (l : List ℕ). CountsByPoster l (got ++ x ∷ [])) (sym is)
    (subst (λ (j : ℕ). CountsByPoster (set counts j (slice_index counts j + 1)) (got ++ x ∷ []))
    (sym same)
    (length-set counts x.from (slice_index counts x.from + 1) ∙ a.0, each))
  where
    each : (p : ℕ) → p < 64 → slice_index (set counts x.from (slice_index counts x.from + 1)) p
        ≡ length (by_poster p (got ++ x ∷ []))
    each p lt = dite (ℕ_discrete p x.from)
        (λ e. subst (λ (j : ℕ). slice_index (set counts x.from (slice_index counts x.from + 1)) j
        ≡ length (by_poster j (got ++ x ∷ []))) (sym e)
        (get_or-set_same counts x.from (slice_index counts x.from + 1) 0 (omega (arith, a.0))
        ∙ omega (
          arith,
          a.1 x.from low,
          ap length (of-append x.from got (x ∷ [])),
          length-append (by_poster x.from got) (by_poster x.from (x ∷ [])),
          ap length (of-one x.from x refl),
        )))
        (λ ne. get_or-set_other counts x.from p (slice_index counts x.from + 1) 0 ne ∙ a.1 p lt
        ∙ omega (
          arith,
          ap length (of-append p got (x ∷ [])),
          length-append (by_poster p got) (by_poster p (x ∷ [])),
          ap length (of-other p x ne),
        ))

zeros-all : (n k : ℕ) → slice_index (replicate n 0) k ≡ 0
zeros-all zero k = refl
zeros-all (suc n) zero = refl
zeros-all (suc n) (suc k) = zeros-all n k

pub counts_none : (counts : List ℕ) (got : List Posting) → counts ≡ replicate 64 0 → got ≡ []
    → CountsByPoster counts got
counts_none counts got is none = subst (λ (l : List ℕ). CountsByPoster l got) (sym is)
    (subst (λ (g : List Posting). CountsByPoster (replicate 64 0) g) (sym none)
    (refl, λ p _. zeros-all 64 p))
