-- The end of a ring.
use Rattle.std.proofs.Common.{◌≡◌, ◌⊎◌, inl, inr, ⊎_elim, ℕ, List, [], ◌∷◌, ◌++◌, set, sym, refl}
use Rattle.std.proofs.Common.{ap, ◌∙◌, subst, arith, cond, Bool, true, false, true≢false, eqb, take}
use Rattle.std.proofs.Common.{drop, length}
use Rattle.std.proofs.lemmas.List.{take-append-drop, length-take-le}
use Rattle.std.specs.Prelude.{slice_index, nat_lt}
use mathlib.Core.Option.{some, some-injective, some-ne-none}
use lib.ListN.{get_elem?}
use Rattle.atomic_table.specs.Table.{Joins, Final, Seen as Saw}
use Rattle.atomic_table.proofs.Lists.{set_else}
use Rattle.notify_ring.specs.declared.posting.Posting.{Posting}
use Rattle.notify_ring.specs.declared.view.Flight.TheVariants.{Idle}
use Rattle.notify_ring.specs.declared.view.Stage.{Stage}
use Rattle.notify_ring.specs.declared.view.Stage.TheVariants.{Resting, Seen, Cleared}
use Rattle.notify_ring.specs.declared.view.Ended.{Ended}
use Rattle.notify_ring.specs.declared.view.View.{View}
use Rattle.notify_ring.specs.Postings.{flag, IsNumbered}
use Rattle.list_lemmas.specs.Sums.{total}
use Rattle.notify_ring.specs.Passes.{blank, owns, IsMerged}
use Rattle.notify_ring.specs.Rule.{claim_of, good_of, pends_of, claimed, good, pends, poster}
use Rattle.notify_ring.specs.Rule.{rooted, kids, drainer, StageFits, Fits}
use Rattle.notify_ring.specs.Steps.{with_drainer}
use Rattle.list_lemmas.proofs.Sums.{total-set, total-same, alone}
use Rattle.notify_ring.proofs.Keeps.{off, Rule, same_fits}

pub rejoins : (id : ℕ) (v : View) (other : ℕ) (u : View) → u.root ≡ false → u.posts ≡ false
    → u.flight ≡ Idle → Joins Rule id v other u (with_drainer v u) blank
rejoins id v other u unrooted silent idle s o at apart there =
    let vs = s.views in
    let w = with_drainer v u in
    let mid = set vs id w in
    let at-u : get_elem? vs other ≡ some u = sym (set_else vs id other w apart) ∙ there in
    let fv = o.fits id v at in
    let fu = o.fits other u at-u in
    let no-ended : u.ended ≡ [] = fu.child unrooted in
    let quiet : (k : ℕ) → total (pends k) (set mid other blank) ≡ total (pends k) vs =
    λ k. omega (
      arith,
      total-set (pends k) mid other u blank there,
      total-same (pends k) vs id v w at refl,
      ap (pends_of k) idle,
    ) in
    record {
      all = o.all;
      cleared = o.cleared;
      freed = o.freed;
      made = o.made;
      wide = o.wide;
      held = omega (
        arith,
        o.held,
        total-set claimed mid other u blank there,
        total-same claimed vs id v w at refl,
        ap claim_of idle,
      );
      tail = o.tail;
      order = o.order;
      few = omega (
        arith,
        o.few,
        total-set good mid other u blank there,
        total-same good vs id v w at refl,
        ap good_of idle,
      );
      numbered = o.numbered;
      seqs = o.seqs;
      stored = λ n x le e none. o.stored n x le e (sym (quiet n) ∙ none);
      waits = λ n le lt some-wait. o.waits n le lt (omega (arith, quiet n));
      vacant = o.vacant;
      single = λ n. omega (arith, quiet n, o.single n);
      fits = same_fits s.words o.all o.cleared o.freed o.made mid other blank
          (λ j x _ e. same_fits s.words o.all o.cleared o.freed o.made vs id w (λ k y _. o.fits k y)
          (record {
            posted = fv.posted;
            full = fv.full;
            ended = fv.ended;
            flight = fv.flight;
            root = fv.root;
            child = fv.child;
            drain = fu.drain;
          }) j x e)
          (record {
            posted = λ is. absurd (true≢false (sym is));
            full = λ le. absurd (omega (arith, le));
            ended = λ k e there-e. absurd (some-ne-none e (sym there-e));
            flight = tt;
            root = λ is. absurd (true≢false (sym is));
            child = λ _. refl;
            drain = λ is. absurd (true≢false (sym is));
          });
      owners = λ p. omega (
        arith,
        o.owners p,
        total-set (owns p) mid other u blank there,
        total-same (owns p) vs id v w at refl,
        ap (λ b. cond {A = ℕ} b (flag (eqb p u.number)) 0) silent,
        ap (total (λ (e : Ended). flag (eqb p e.number))) no-ended,
      );
      drainers = omega (
        arith,
        o.drainers,
        total-set drainer mid other u blank there,
        total-set drainer vs id v w at,
      );
      roots = omega (
        arith,
        o.roots,
        total-set rooted mid other u blank there,
        total-same rooted vs id v w at refl,
        ap flag unrooted,
      );
      family = omega (
        arith,
        o.family,
        total-set poster mid other u blank there,
        total-same poster vs id v w at refl,
        ap flag silent,
        total-set kids mid other u blank there,
        total-same kids vs id v w at refl,
        ap (λ b. cond {A = ℕ} b u.children 0) unrooted,
      );
      limit = o.limit;
      bounded = o.bounded;
    }

begun : (ws : List ℕ) (all : List Posting) (c f : ℕ) (got : List Posting) (t : Stage)
    → StageFits ws all c f got t → got ≡ take c all
begun ws all c f got Resting h = h.0
begun ws all c f got (Seen x) h = h.0
begun ws all c f got Cleared h = h.0

pub merges : (id : ℕ) (v : View) (words : List ℕ) (slots : List (Unit {0})) (n : ℕ) → v.root ≡ true
    → v.children ≡ 0 → v.drains ≡ true → Final (Saw Rule id v) words slots
    → get_elem? words 1 ≡ some n → IsMerged v v n
merges id v words slots n root childless drains last word =
    let s = last.0 in
    let o = last.1.0 in
    let at = last.1.1 in
    let vs = s.views in
    let fit = o.fits id v at in
    let r = fit.root root in
    let kids-are : total kids vs ≡ 0 =
    alone rooted kids vs id v (λ k x e unrooted. kid_free x.root x.children unrooted) o.roots at
    (ap flag root) ∙ ap (λ b. cond {A = ℕ} b v.children 0) root ∙ childless in
    let one : total poster vs ≡ 1 = omega (arith, o.family, kids-are) in
    let mine : (p : ℕ) → total (owns p) vs ≡ owns p v =
    λ p. alone poster (owns p) vs id v (λ k x e silent. unowned p k x e silent (o.fits k x e))
    one at (ap flag r.2) in
    record {
      all = o.all;
      long = sym o.tail ∙ found words n word s.words last.2;
      numbered = λ k x e. subst (λ (m : ℕ). IsNumbered m k x) (sym r.0) (o.numbered k x e);
      seqs = o.seqs;
      few = omega (
        arith,
        o.few,
        o.order.0,
        sym o.tail
            ∙ found words n word s.words last.2,
        ap length (begun s.words o.all o.cleared o.freed v.got v.stage (fit.drain drains)),
        length-take-le o.cleared o.all o.order.1,
      );
      own = fit.posted r.2;
      ended = fit.ended;
      each = λ p. sym (mine p) ∙ o.owners p ∙ ap (λ m. flag (nat_lt p m)) (sym r.0);
      got = (
        drop o.cleared o.all,
        ap (λ l. l ++ drop o.cleared o.all)
            (begun s.words o.all o.cleared o.freed v.got v.stage (fit.drain drains))
            ∙ take-append-drop o.cleared o.all,
      );
    }
  where
    kid_free : (b : Bool) (n : ℕ) → flag b ≡ 0 → cond {A = ℕ} b n 0 ≡ 0
    kid_free true n e = absurd (omega arith)
    kid_free false n e = refl

    flag-off : (b : Bool) → flag b ≡ 0 → b ≡ false
    flag-off true e = absurd (omega arith)
    flag-off false e = refl

    bool : (b : Bool) → (b ≡ true) ⊎ (b ≡ false)
    bool true = inl refl
    bool false = inr refl

    unowned : (p : ℕ) (k : ℕ) (x : View) → get_elem? last.0.views k ≡ some x → poster x ≡ 0
        → Fits last.0.words last.1.0.all last.1.0.cleared last.1.0.freed last.1.0.made x
        → owns p x ≡ 0
    unowned p k x e silent g =
        let quiet = flag-off x.posts silent in
        let unrooted : x.root ≡ false = ⊎_elim (λ y. absurd (off x.posts (g.root y).2 quiet))
        (λ y. y) (bool x.root) in
        omega (
          arith,
          ap (λ b. cond {A = ℕ} b (flag (eqb p x.number)) 0) quiet,
          ap (total (λ (e : Ended). flag (eqb p e.number))) (g.child unrooted),
        )

    found : (ws : List ℕ) (n : ℕ) → get_elem? ws 1 ≡ some n → (us : List ℕ) → us ≡ ws
        → slice_index us 1 ≡ n
    found [] n e us is = absurd (some-ne-none n (sym e))
    found (x ∷ []) n e us is = absurd (some-ne-none n (sym e))
    found (x ∷ y ∷ ws) n e us is = ap (λ l. slice_index l 1) is ∙ some-injective y n e

-- the same, by the views of the root poster and of the drainer
pub parts_merged : (root drainer : View) (n : ℕ)
    → IsMerged (with_drainer root drainer) (with_drainer root drainer) n → IsMerged root drainer n
parts_merged root drainer n m = record {
  all = m.all;
  long = m.long;
  numbered = m.numbered;
  seqs = m.seqs;
  few = m.few;
  own = m.own;
  ended = m.ended;
  each = m.each;
  got = m.got;
}
