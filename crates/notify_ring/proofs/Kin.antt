-- Making and ending posters keeps the rule.
use Rattle.std.proofs.Common.{◌≡◌, ◌≢◌, ⊎_elim, ℕ, zero, suc, ◌+◌, ◌-◌, ◌<◌, List, [], ◌∷◌, ◌++◌}
use Rattle.std.proofs.Common.{length, set, sym, refl, ap, ◌∙◌, subst, arith, cond, Bool, true}
use Rattle.std.proofs.Common.{false, true≢false, eqb, eq-eqb, ne_eqb, ltb, lt-ltb, le-ltb}
use Rattle.std.specs.Prelude.{slice_index}
use mathlib.Core.Logic.{dite}
use mathlib.Core.Option.{some, some-ne-none}
use native.Mathlib.Decide.{ℕ_discrete, dec_le}
use lib.ListN.{get_elem?}
use Rattle.atomic_table.specs.Table.{Splits, Joins}
use Rattle.atomic_table.proofs.Lists.{at_snoc, set_else}
use Rattle.notify_ring.specs.declared.view.Flight.TheVariants.{Idle}
use Rattle.notify_ring.specs.declared.view.Ended.{Ended}
use Rattle.notify_ring.specs.declared.view.View.{View}
use Rattle.notify_ring.specs.Postings.{flag, by_poster, gate_at}
use Rattle.list_lemmas.specs.Sums.{total}
use Rattle.notify_ring.specs.Passes.{blank, split_left, split_right, joined, owns}
use Rattle.notify_ring.specs.Rule.{first_view, claim_of, good_of, pends_of, claimed, good, pends}
use Rattle.notify_ring.specs.Rule.{poster, rooted, kids, drainer, Fits, RingHolds}
use Rattle.notify_ring.specs.Steps.{poster_part, drainer_part}
use Rattle.list_lemmas.proofs.Sums.{total-append, total-set, terms_le, total-same, alone}
use Rattle.notify_ring.proofs.Lists.{of-none}
use Rattle.notify_ring.proofs.Keeps.{off, Rule, same_fits}

kid : Bool → ℕ → ℕ
kid b n = cond b n 0

only_root : (vs : List View) → total rooted vs ≡ 1 → (id k : ℕ) (v u : View) → k ≢ id
    → get_elem? vs id ≡ some v → get_elem? vs k ≡ some u → v.root ≡ true → u.root ≡ true → ⊥
only_root vs one id k v u ne at e rv ru =
    omega (arith, terms_le rooted vs id k v u ne at e, one, ap flag rv, ap flag ru)

more : (p m : ℕ) → flag (ltb p (m + 1)) ≡ flag (ltb p m) + flag (eqb p m)
more p m = dite (ℕ_discrete p m)
    (λ e. omega (
      arith,
      ap flag (lt-ltb p (m + 1) (omega arith)),
      ap flag (le-ltb p m (omega arith)),
      ap flag (eq-eqb p m e),
    ))
    (λ ne. dite (dec_le m p)
    (λ le. omega (
      arith,
      ap flag (le-ltb p (m + 1) (omega arith)),
      ap flag (le-ltb p m le),
      ap flag (ne_eqb p m ne),
    ))
    (λ no. omega (
      arith,
      ap flag (lt-ltb p (m + 1) (omega arith)),
      ap flag (lt-ltb p m (omega arith)),
      ap flag (ne_eqb p m ne),
    )))

pub splits : (id : ℕ) (v : View) → v.root ≡ true → v.posters < 64
    → Splits Rule id v (split_left v) (split_right v)
splits id v root room s o at =
    let vs = s.views in
    let left = split_left v in
    let right = split_right v in
    let mid = set vs id left in
    let fit = o.fits id v at in
    let r = fit.root root in
    let left-kids : kids left ≡ kids v + 1 =
    ap (λ b. cond {A = ℕ} b (v.children + 1) 0) root
    ∙ ap (λ b. cond {A = ℕ} b v.children 0 + 1) (sym root) in
    let quiet : (k : ℕ) → total (pends k) (mid ++ right ∷ []) ≡ total (pends k) vs =
    λ k. omega (
      arith,
      total-append (pends k) mid (right ∷ []),
      total-same (pends k) vs id v left at refl,
    ) in
    record {
      all = o.all;
      cleared = o.cleared;
      freed = o.freed;
      made = o.made + 1;
      wide = o.wide;
      held = omega (
        arith,
        o.held,
        total-append claimed mid (right ∷ []),
        total-same claimed vs id v left at refl,
      );
      tail = o.tail;
      order = o.order;
      few = omega (
        arith,
        o.few,
        total-append good mid (right ∷ []),
        total-same good vs id v left at refl,
      );
      numbered = λ n x e. let t = o.numbered n x e in
          record { number = t.number; from = omega (arith, t.from) };
      stored = λ n x le e none. o.stored n x le e (sym (quiet n) ∙ none);
      waits = λ n le lt some-wait. o.waits n le lt (omega (arith, quiet n));
      vacant = o.vacant;
      single = λ n. omega (arith, quiet n, o.single n);
      fits = λ k u e. ⊎_elim
          (λ (old : get_elem? mid k ≡ some u).
          same_fits s.words o.all o.cleared o.freed (o.made + 1) vs id left
          (λ j x ne there. let g = o.fits j x there in
          record {
            posted = g.posted;
            full = g.full;
            ended = g.ended;
            flight = g.flight;
            root = λ is. absurd (only_root vs o.roots id j v x ne at there root is);
            child = g.child;
            drain = g.drain;
          })
          (record {
            posted = fit.posted;
            full = fit.full;
            ended = fit.ended;
            flight = fit.flight;
            root = λ _. (omega (arith, r.0), omega (arith, r.1), r.2);
            child = fit.child;
            drain = fit.drain;
          }) k u old)
          (λ (new : right ≡ u). subst (λ (x : View).
          Fits s.words o.all o.cleared o.freed (o.made + 1) x) new (record {
            full = λ le. absurd (omega (arith, le));
            posted = λ _. sym (of-none v.posters o.all
                (λ n x there same. omega (arith, (o.numbered n x there).from, r.0)));
            ended = λ j x there. absurd (some-ne-none x (sym there));
            flight = tt;
            root = λ is. absurd (true≢false (sym is));
            child = λ _. refl;
            drain = λ is. absurd (true≢false (sym is));
          }))
          (at_snoc mid right u k e);
      owners = λ p. omega (
        arith,
        o.owners p,
        total-append (owns p) mid (right ∷ []),
        total-same (owns p) vs id v left at refl,
        more p o.made,
        ap (λ m. flag (eqb p m)) r.0,
      );
      roots = omega (
        arith,
        o.roots,
        total-append rooted mid (right ∷ []),
        total-same rooted vs id v left at refl,
      );
      family = omega (
        arith,
        o.family,
        total-append poster mid (right ∷ []),
        total-same poster vs id v left at refl,
        total-append kids mid (right ∷ []),
        total-set kids vs id v left at,
        left-kids,
      );
      limit = omega (arith, r.0, room);
      seqs = o.seqs;
      drainers = omega (
        arith,
        o.drainers,
        total-append drainer mid (right ∷ []),
        total-same drainer vs id v left at refl,
      );
      bounded = o.bounded;
    }

pub joins : (id : ℕ) (v : View) (other : ℕ) (u : View) → v.root ≡ true → u.root ≡ false
    → u.posts ≡ true → u.flight ≡ Idle → Joins Rule id v other u (joined v u) blank
joins id v other u root child posts idle s o at apart there =
    let vs = s.views in
    let w = joined v u in
    let mid = set vs id w in
    let at-u : get_elem? vs other ≡ some u = sym (set_else vs id other w apart) ∙ there in
    let fv = o.fits id v at in
    let fu = o.fits other u at-u in
    let r = fv.root root in
    let no-ended : u.ended ≡ [] = fu.child child in
    let u-kids : kids u ≡ 0 = ap (λ b. cond {A = ℕ} b u.children 0) child in
    let v-kids : kids v ≡ v.children = ap (λ b. cond {A = ℕ} b v.children 0) root in
    let w-kids : kids w ≡ v.children - 1 = ap (λ b. cond {A = ℕ} b (v.children - 1) 0) root in
    let v-posts : poster v ≡ 1 = ap flag r.2 in
    let u-posts : poster u ≡ 1 = ap flag posts in
    let two = terms_le poster vs id other v u apart at at-u in
    let kids-are : total kids vs ≡ v.children =
    alone rooted kids vs id v (λ k x e unrooted. kid_free x.root x.children unrooted) o.roots at
    (ap flag root) ∙ v-kids in
    let quiet : (k : ℕ) → total (pends k) (set mid other blank) ≡ total (pends k) vs =
    λ k. omega (
      arith,
      total-set (pends k) mid other u blank there,
      total-same (pends k) vs id v w at refl,
      ap (pends_of k) idle,
    ) in
    record {
      all = o.all;
      cleared = o.cleared;
      freed = o.freed;
      made = o.made;
      wide = o.wide;
      held = omega (
        arith,
        o.held,
        total-set claimed mid other u blank there,
        total-same claimed vs id v w at refl,
        ap claim_of idle,
      );
      tail = o.tail;
      order = o.order;
      few = omega (
        arith,
        o.few,
        total-set good mid other u blank there,
        total-same good vs id v w at refl,
        ap good_of idle,
      );
      numbered = o.numbered;
      stored = λ n x le e none. o.stored n x le e (sym (quiet n) ∙ none);
      waits = λ n le lt some-wait. o.waits n le lt (omega (arith, quiet n));
      vacant = o.vacant;
      single = λ n. omega (arith, quiet n, o.single n);
      fits = same_fits s.words o.all o.cleared o.freed o.made mid other blank
          (λ j x _ e. same_fits s.words o.all o.cleared o.freed o.made vs id w (λ k y _. o.fits k y)
          (record {
            posted = fv.posted;
            full = fv.full;
            ended = λ k e there-e. ⊎_elim (λ t. fv.ended k e t)
                (λ (t : _ ≡ e). subst (λ (z : Ended). z.posted ≡ by_poster z.number o.all) t
                (fu.posted posts)) (at_snoc v.ended record { number = u.number; posted = u.posted }
                e k there-e);
            flight = fv.flight;
            root = λ is. (r.0, omega (arith, r.1), r.2);
            child = λ is. absurd (off v.root root is);
            drain = fv.drain;
          }) j x e)
          (record {
            posted = λ is. absurd (true≢false (sym is));
            full = λ le. absurd (omega (arith, le));
            ended = λ k e there-e. absurd (some-ne-none e (sym there-e));
            flight = tt;
            root = λ is. absurd (true≢false (sym is));
            child = λ _. refl;
            drain = λ is. absurd (true≢false (sym is));
          });
      owners = λ p. omega (
        arith,
        o.owners p,
        total-set (owns p) mid other u blank there,
        total-set (owns p) vs id v w at,
        total-append (λ (e : Ended). flag (eqb p e.number)) v.ended
            (record { number = u.number; posted = u.posted } ∷ []),
        ap (λ b. cond {A = ℕ} b (flag (eqb p u.number)) 0) posts,
        ap (total (λ (e : Ended). flag (eqb p e.number))) no-ended,
      );
      roots = omega (
        arith,
        o.roots,
        total-set rooted mid other u blank there,
        total-same rooted vs id v w at refl,
        ap flag child,
      );
      family = omega (
        arith,
        o.family,
        total-set poster mid other u blank there,
        total-same poster vs id v w at refl,
        total-set kids mid other u blank there,
        total-set kids vs id v w at,
        u-kids,
        v-kids,
        w-kids,
        v-posts,
        u-posts,
        two,
        kids-are,
      );
      limit = o.limit;
      seqs = o.seqs;
      drainers = omega (
        arith,
        o.drainers,
        total-set drainer mid other u blank there,
        total-same drainer vs id v w at refl,
      );
      bounded = o.bounded;
    }
  where
    kid_free : (b : Bool) (n : ℕ) → flag b ≡ 0 → cond {A = ℕ} b n 0 ≡ 0
    kid_free true n e = absurd (omega arith)
    kid_free false n e = refl

unfoldable pub zeros : ℕ → List ℕ
zeros zero = []
zeros (suc n) = 0 ∷ zeros n

zeros-at : (n k : ℕ) → slice_index (zeros n) k ≡ 0
unfolding zeros
zeros-at zero k = refl
zeros-at (suc n) zero = refl
zeros-at (suc n) (suc k) = zeros-at n k

zeros-length : (n : ℕ) → length (zeros n) ≡ n
unfolding zeros
zeros-length zero = refl
zeros-length (suc n) = ap suc (zeros-length n)

pub begins : RingHolds (zeros 514) (first_view ∷ [])
begins = record {
  all = [];
  cleared = 0;
  freed = 0;
  made = 1;
  wide = zeros-length 514;
  held = omega (arith, zeros-at 514 0);
  tail = zeros-at 514 1;
  order = (omega arith, omega arith);
  few = omega arith;
  numbered = λ n x e. absurd (some-ne-none x (sym e));
  stored = λ n x le e none. absurd (some-ne-none x (sym e));
  waits = λ n le lt some-wait. absurd (omega arith);
  vacant = λ n le lt. zeros-at 514 (gate_at n);
  single = λ n. omega arith;
  fits = λ k u e. ⊎_elim (λ (x : get_elem? [] k ≡ some u). absurd (some-ne-none u (sym x)))
      (λ (x : first_view ≡ u). subst (λ (y : View). Fits (zeros 514) [] 0 0 1 y) x (record {
        full = λ le. absurd (omega (arith, le));
        posted = λ _. refl;
        ended = λ j y there. absurd (some-ne-none y (sym there));
        flight = tt;
        root = λ _. (refl, omega arith, refl);
        child = λ is. absurd (true≢false is);
        drain = λ _. (refl, refl);
      })) (at_snoc [] first_view u k e);
  owners = λ p. first-owner p;
  roots = refl;
  family = refl;
  limit = omega arith;
  seqs = λ n x e. absurd (some-ne-none x (sym e));
  drainers = omega arith;
  bounded = λ p. omega arith;
}
  where
    first-owner : (p : ℕ) → flag (eqb p 0) + 0 + 0 ≡ flag (ltb p 1)
    first-owner p = dite (ℕ_discrete p 0)
        (λ e. omega (arith, ap flag (eq-eqb p 0 e), ap flag (lt-ltb p 1 (omega arith))))
        (λ ne. omega (arith, ap flag (ne_eqb p 0 ne), ap flag (le-ltb p 1 (omega arith))))

-- the drainer's part is cut off
pub halves : (id : ℕ) (v : View) → Splits Rule id v (poster_part v) (drainer_part v)
halves id v s o at =
    let vs = s.views in
    let left = poster_part v in
    let right = drainer_part v in
    let mid = set vs id left in
    let fit = o.fits id v at in
    let quiet : (k : ℕ) → total (pends k) (mid ++ right ∷ []) ≡ total (pends k) vs =
    λ k. omega (
      arith,
      total-append (pends k) mid (right ∷ []),
      total-same (pends k) vs id v left at refl,
    ) in
    record {
      all = o.all;
      cleared = o.cleared;
      freed = o.freed;
      made = o.made;
      wide = o.wide;
      held = omega (
        arith,
        o.held,
        total-append claimed mid (right ∷ []),
        total-same claimed vs id v left at refl,
      );
      tail = o.tail;
      order = o.order;
      few = omega (
        arith,
        o.few,
        total-append good mid (right ∷ []),
        total-same good vs id v left at refl,
      );
      numbered = o.numbered;
      seqs = o.seqs;
      stored = λ n x le e none. o.stored n x le e (sym (quiet n) ∙ none);
      waits = λ n le lt some-wait. o.waits n le lt (omega (arith, quiet n));
      vacant = o.vacant;
      single = λ n. omega (arith, quiet n, o.single n);
      fits = λ k u e. ⊎_elim
          (λ (old : get_elem? mid k ≡ some u).
          same_fits s.words o.all o.cleared o.freed o.made vs id left
          (λ j x ne there. o.fits j x there)
          (record {
            posted = fit.posted;
            full = fit.full;
            ended = fit.ended;
            flight = fit.flight;
            root = fit.root;
            child = fit.child;
            drain = λ is. absurd (true≢false (sym is));
          }) k u old)
          (λ (new : right ≡ u). subst (λ (x : View). Fits s.words o.all o.cleared o.freed o.made x)
          new (record {
            posted = λ is. absurd (true≢false (sym is));
            full = λ le. absurd (omega (arith, le));
            ended = λ j x there. absurd (some-ne-none x (sym there));
            flight = tt;
            root = λ is. absurd (true≢false (sym is));
            child = λ _. refl;
            drain = fit.drain;
          }))
          (at_snoc mid right u k e);
      owners = λ p. omega (
        arith,
        o.owners p,
        total-append (owns p) mid (right ∷ []),
        total-same (owns p) vs id v left at refl,
      );
      drainers = omega (
        arith,
        o.drainers,
        total-append drainer mid (right ∷ []),
        total-set drainer vs id v left at,
      );
      roots = omega (
        arith,
        o.roots,
        total-append rooted mid (right ∷ []),
        total-same rooted vs id v left at refl,
      );
      family = omega (
        arith,
        o.family,
        total-append poster mid (right ∷ []),
        total-same poster vs id v left at refl,
        total-append kids mid (right ∷ []),
        total-same kids vs id v left at refl,
      );
      limit = o.limit;
      bounded = o.bounded;
    }
