-- For a caller of `put`: what was put back is what the caller had in mind.
use Rattle.std.proofs.Common.{◌≡◌, ℕ, append-nil, List, [], sym, refl, ap, ◌∙◌, subst, arith, cond}
use Rattle.std.proofs.Common.{eq-eqb, ne_eqb, Option, Some, None}
use mathlib.Core.Logic.{dite}
use native.Mathlib.Decide.{ℕ_discrete}
use Rattle.leader_token.specs.declared.kept.Found.{Found}
use Rattle.leader_token.specs.declared.kept.View.{View}
use Rattle.leader_token.specs.Lists.{is_event, Begins, NoneAbove}
use Rattle.list_lemmas.specs.Times.{times}
use Rattle.leader_token.specs.Passes.{IsGot, MayPut, IsPut, put_view}
use Rattle.leader_token.proofs.Keeps.{some-of}

is_own : (x : ℕ) → is_event x (Some x) ≡ 1
is_own x = ap (λ b. cond {A = ℕ} b 1 0) (eq-eqb x x refl)

pub mine_is : (a b : Option ℕ) → ((e : ℕ) → is_event e a ≡ is_event e b) → a ≡ b
mine_is None None h = refl
mine_is None (Some y) h = absurd (omega (arith, h y, is_own y))
mine_is (Some x) None h = absurd (omega (arith, h x, is_own x))
mine_is (Some x) (Some y) h = dite (ℕ_discrete x y) (λ e. ap (λ (n : ℕ). Some n) e)
    (λ ne. absurd (omega (arith, h x, is_own x, ap (λ b. cond {A = ℕ} b 1 0) (ne_eqb x y ne))))

module _ {E Q T : Type 0} (stands : Q → ℕ → T → List E → Type 0) (opens : List E → List ℕ)
    (marks : T → List ℕ) where
  -- a value stands for one list among those that begin alike
  abbrev pub Exact : Type 0
  Exact = (q : Q) (n m : ℕ) (t : T) (base g h : List E) → Begins base g → Begins base h
      → stands q n t g → stands q m t h → g ≡ h

  -- what was put back is what the caller had in mind, if the value stands for no other list that
  -- the base begins
  pub put_is_at : (v : View E Q) (t : T) (w : View E Q) (mine : MayPut stands opens marks v t)
      → ((m : ℕ) (g : List E) → Begins mine.base.list g → stands v.terms m t g → g ≡ mine.list)
      → IsPut stands opens marks v t w → w ≡ put_view v (marks t) mine.list mine.mine
  put_is_at v t w a only put =
      let b = put.may in
      let base : b.base ≡ a.base = some-of b.base a.base (sym b.is_base ∙ a.is_base) in
      let list : b.list ≡ a.list = only b.first b.list
      (subst (λ (f : Found E). Begins f.list b.list) base b.longer) b.stood in
      let own : b.mine ≡ a.mine = mine_is b.mine a.mine
      (λ e. omega (
        arith,
        a.events e,
        b.events e,
        ap (λ l. times e (opens l)) list,
        ap (λ (f : Found E). times e (opens f.list)) base,
      )) in
      put.view ∙ (λ i. put_view v (marks t) (list i) (own i))

  -- the same, if a value stands for one list at most among those that begin alike
  pub put_is : Exact → (v : View E Q) (t : T) (w : View E Q)
      → (mine : MayPut stands opens marks v t) → IsPut stands opens marks v t w
      → w ≡ put_view v (marks t) mine.list mine.mine
  put_is exact v t w a = put_is_at v t w a
      (λ m g begins stood. exact v.terms m a.first t a.base.list g a.list begins a.longer stood
      a.stood)

  -- a value may be given back as it was got
  pub as_it_was : (v : View E Q) (t : T) (w : View E Q) → IsGot stands opens marks v t w
      → MayPut stands opens marks w t
  as_it_was v t w got = record {
    base = record { list = got.list; marks = got.found };
    first = got.first;
    list = got.list;
    mine = w.mine;
    is_base = ap (λ (x : View E Q). x.base) got.view;
    stood = subst (λ (q : Q). stands q got.first t got.list)
        (sym (ap (λ (x : View E Q). x.terms) got.view)) got.stood;
    longer = ([], append-nil got.list);
    above = subst (λ (l : List ℕ). NoneAbove got.found l) (sym got.marked) (λ k. omega arith);
    events = λ e. refl;
  }
