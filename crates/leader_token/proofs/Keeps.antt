-- Each step keeps the rule.
use Rattle.std.proofs.Common.{◌≡◌, ℕ, zero, suc, ◌+◌, ◌-◌, ◌<◌, ◌≤◌, ◌≢◌, ◌⊎◌, inl, inr, ⊎_elim}
use Rattle.std.proofs.Common.{List, [], ◌∷◌, length, set, get_or, sym, refl, ap, ◌∙◌, subst, arith}
use Rattle.std.proofs.Common.{cond, Bool, true, false, true≢false, eqb, eq-eqb, Option, Some, None}
use mathlib.Core.Logic.{dite}
use mathlib.Core.Option.{Option as Maybe, none, some, some-injective, some-ne-none}
use native.Mathlib.Decide.{ℕ_discrete}
use lib.ListN.{get_elem?}
use lib.Seq.{set-get_or}
use prog.Atomic.{either}
use Rattle.atomic_table.specs.Table.{State, Me, Act, keeps, takes, gives, Valid, carried_after}
use Rattle.atomic_table.specs.Table.{stepped, opening, Allows, Splits, Joins, Final, Seen}
use Rattle.atomic_table.proofs.Lists.{at_set, at_snoc, set_here, set_else, set_again, at_longer}
use Rattle.atomic_table.proofs.Lists.{exchanged}
use Rattle.leader_token.specs.declared.kept.Found.{Found}
use Rattle.leader_token.specs.declared.kept.View.{View}
use Rattle.leader_token.specs.Lists.{Begins, NoneAbove, longer, is_event}
use Rattle.list_lemmas.specs.Times.{times}
use Rattle.list_lemmas.specs.Sums.{total}
use Rattle.leader_token.specs.Passes.{first_view, put_view, split_left, split_right, joined, IsGot}
use Rattle.leader_token.specs.Passes.{MayPut, IsPut, IsLast, IsOpenLater}
use Rattle.leader_token.specs.Rule.{has, turn, live, rooted, kids, event, Fits, IsSpent, RuleHolds}
use Rattle.leader_token.specs.Rule.{Claimed, MayStart, named, Released, joining, Compared}
use Rattle.leader_token.specs.Rule.{OwnEventsDiffer}
use Rattle.list_lemmas.proofs.Sums.{total-append, total-set, term_le, terms_le, total-same, alone}
use Rattle.leader_token.proofs.Lists.{begins-self, begins-trans, longer-begins, shorter-begins}
use Rattle.leader_token.proofs.Lists.{begins-shorter, shorter-length, both-begin, longer-whole}
use Rattle.leader_token.proofs.Lists.{none_above-self, none_above-trans, greater-above}
use Rattle.leader_token.proofs.Lists.{greater-length}

pub some-of : {A : Type 0} (x y : A) → Some x ≡ Some y → x ≡ y
some-of x y e = cc

some-none : {A : Type 0} (x : A) → Some x ≡ None → ⊥
some-none x e = cc

abbrev flag : Bool → ℕ
flag b = cond b 1 0

abbrev unflag : Bool → ℕ
unflag b = cond b 0 1

abbrev kid : Bool → ℕ → ℕ
kid b n = cond b n 0

off : (b : Bool) → b ≡ true → b ≡ false → ⊥
off b t f = true≢false (sym t ∙ f)

abbrev value_of : {T : Type 0} → T → List (ℕ × Option T) → T
value_of d [] = d
value_of d ((k, None) ∷ cs) = d
value_of d ((k, Some x) ∷ cs) = x

module _ {E Q T : Type 0} (stands : Q → ℕ → T → List E → Type 0) (opens : List E → List ℕ)
    (marks : T → List ℕ) where
  -- the two laws of what a token keeps
  abbrev pub Once : Type 0
  Once = (terms : Q) (first : ℕ) (value : T) (list : List E) → stands terms first value list
      → (e : ℕ) → times e (opens list) ≤ 1

  abbrev pub Many : Type 0
  Many = (one other : T) → length (marks one) ≡ length (marks other)

module _ {E Q T : Type 0} (stands : Q → ℕ → T → List E → Type 0) (opens : List E → List ℕ)
    (marks : T → List ℕ) (q : Q) where
  abbrev V : Type 0
  V = View E Q

  abbrev St : Type 0
  St = State (Option T) V

  abbrev Rule : St → Type 0
  Rule s = RuleHolds stands opens marks q s

  abbrev st : List ℕ → List (Maybe (Option T)) → List V → St
  st ws hs vs = record { words = ws; homes = hs; views = vs }

  same_fits : (h : List E) (m : List ℕ) (vs : List V) (j : ℕ) (w : V)
      → ((k : ℕ) (u : V) → k ≢ j → get_elem? vs k ≡ some u → u.spent ≡ false → Fits q h m u)
      → (w.spent ≡ false → Fits q h m w)
      → (k : ℕ) (u : V) → get_elem? (set vs j w) k ≡ some u → u.spent ≡ false → Fits q h m u
  same_fits h m vs j w others mine k u e = ⊎_elim
      (λ (x : (k ≡ j) × (w ≡ u)). subst (λ (y : V). y.spent ≡ false → Fits q h m y) x.1 mine)
      (λ (x : (k ≢ j) × (get_elem? vs k ≡ some u)). others k u x.0 x.1)
      (at_set vs j k w u e)

  same_ended : (vs : List V) (j : ℕ) (w : V)
      → ((k : ℕ) (u : V) → get_elem? vs k ≡ some u → u.spent ≡ true → IsSpent u)
      → (w.spent ≡ true → IsSpent w)
      → (k : ℕ) (u : V) → get_elem? (set vs j w) k ≡ some u → u.spent ≡ true → IsSpent u
  same_ended vs j w others mine k u e = ⊎_elim
      (λ (x : (k ≡ j) × (w ≡ u)). subst (λ (y : V). y.spent ≡ true → IsSpent y) x.1 mine)
      (λ (x : (k ≢ j) × (get_elem? vs k ≡ some u)). others k u x.1)
      (at_set vs j k w u e)

  -- a number below the length of a list with something there
  there : {A : Type 0} (l : List A) (i : ℕ) (a : A) → get_elem? l i ≡ some a → i < length l
  there [] i a e = absurd (some-ne-none a (sym e))
  there (x ∷ xs) zero a e = omega arith
  there (x ∷ xs) (suc i) a e = omega (arith, there xs i a e)

  abbrev Top : List E → List V → Type 0
  Top h vs = (k : ℕ) × (v : V) × (get_elem? vs k ≡ some v) × (v.spent ≡ false) × (v.seen ≡ h)

  -- one view still has seen all, after a step that keeps what its seat has seen
  same_top : (h : List E) (vs : List V) (j : ℕ) (v w : V) → get_elem? vs j ≡ some v
      → w.spent ≡ false → w.seen ≡ v.seen → Top h vs → Top h (set vs j w)
  same_top h vs j v w at alive same top = dite (ℕ_discrete top.0 j)
      (λ e. let is : top.1 ≡ v = some-injective top.1 v
      (sym top.2 ∙ ap (λ k. get_elem? vs k) e ∙ at) in (
        j,
        w,
        set_here vs j w (there vs j v at),
        alive,
        same ∙ ap (λ (u : V). u.seen) (sym is)
            ∙ top.4,
      ))
      (λ n. (top.0, top.1, set_else vs j top.0 w n ∙ top.2, top.3, top.4))

  word_is : (s : St) (k : Rule s) → get_or s.words 0 0 ≡ k.word
  word_is s k = ap (λ ws. get_or ws 0 0) k.words

  written : (s : St) (k : Rule s) (n : ℕ) → set s.words 0 n ≡ n ∷ []
  written s k n = ap (λ ws. set ws 0 n) k.words

  -- only roots have children, and only one view is a root
  kids_alone : (s : St) (k : Rule s) (id : ℕ) (v : V) → get_elem? s.views id ≡ some v
      → v.root ≡ true → total kids s.views ≡ v.children
  kids_alone s k id v at root =
      alone rooted kids s.views id v (λ j u e unrooted. kid_free u.root u.children unrooted) k.roots
      at (ap flag root) ∙ ap (λ b. kid b v.children) root
    where
      kid_free : (b : Bool) (n : ℕ) → flag b ≡ 0 → kid b n ≡ 0
      kid_free true n e = absurd (omega arith)
      kid_free false n e = refl

  -- a spent view has no event and no turn
  spent_free : (s : St) (k : Rule s) (f : V → ℕ) → ((u : V) → IsSpent u → f u ≡ 0) → (j : ℕ) (u : V)
      → get_elem? s.views j ≡ some u → live u ≡ 0 → f u ≡ 0
  spent_free s k f free j u at dead = free u (k.ended j u at (by_flag u.spent dead))
    where
      by_flag : (b : Bool) → unflag b ≡ 0 → b ≡ true
      by_flag true e = refl
      by_flag false e = absurd (omega arith)

  no_event : (e : ℕ) (u : V) → IsSpent u → event e u ≡ 0
  no_event e u x = ap (is_event e) x.mine

  no_turn : (u : V) → IsSpent u → turn u ≡ 0
  no_turn u x = ap has x.base

  -- the root without children is the only view that is not spent
  record Alone (s : St) (k : Rule s) (v : V) : Type 0 where
    pub list : k.list ≡ v.seen
    pub events : (e : ℕ) → times e (opens k.list) ≡ is_event e v.mine
    pub turns : k.word ≡ turn v

  is_alone : (s : St) (k : Rule s) (id : ℕ) (v : V) → get_elem? s.views id ≡ some v
      → v.spent ≡ false → v.root ≡ true → v.children ≡ 0 → Alone s k v
  is_alone s k id v at alive root childless0 =
      let childless : total kids s.views ≡ 0 = kids_alone s k id v at root ∙ childless0 in
      let one : total live s.views ≡ 1 = omega (arith, k.family) in
      let mine : live v ≡ 1 = ap unflag alive in
      record {
        list = dite (ℕ_discrete k.top.0 id)
            (λ e. let is : k.top.1 ≡ v = some-injective k.top.1 v
            (sym k.top.2 ∙ ap (λ j. get_elem? s.views j) e ∙ at) in
            sym k.top.4 ∙ ap (λ (u : V). u.seen) is)
            (λ n. absurd (omega (
              arith,
              terms_le live s.views id k.top.0 v k.top.1 n at k.top.2,
              ap unflag k.top.3,
            )));
        events = λ e. sym (k.events e) ∙ alone live (event e) s.views id v
            (spent_free s k (event e) (no_event e)) one at mine;
        turns = sym k.turns ∙ alone live turn s.views id v (spent_free s k turn no_turn) one at
            mine;
      }

  -- a step that changes nothing
  unmoved : (s : St) (k : Rule s) (id : ℕ) (v : V) → get_elem? s.views id ≡ some v → (n : ℕ)
      → n ≡ get_or s.words 0 0 → Rule (st (set s.words 0 n) s.homes (set s.views id v))
  unmoved s k id v at n is = subst (λ (t : St). Rule t)
      (λ i. st (sym (ap (λ x. set s.words 0 x) is ∙ set-get_or s.words 0 0) i) s.homes
      (sym (set_again s.views id v at) i)) k

  abbrev won : V → List E → List ℕ → V
  won v h m = record v { base = Some record { list = h; marks = m } }

  -- the claim that wins
  pub wins : (s : St) (k : Rule s) (id : ℕ) (v : V) → get_elem? s.views id ≡ some v
      → v.spent ≡ false → v.base ≡ None → k.word ≡ 0
      → Rule (st (set s.words 0 1) (set s.homes 0 none) (set s.views id (won v k.list k.found)))
  wins s k id v at alive free zero-word =
      let w = won v k.list k.found in
      let mine = k.fits id v at alive in
      record {
        list = k.list;
        found = k.found;
        word = 1;
        words = written s k 1;
        low = omega arith;
        turns = omega (arith, total-set turn s.views id v w at, k.turns, ap has free);
        home = λ e. absurd (omega arith);
        out = λ _. set_here s.homes 0 none (there s.homes 0 _ (k.home zero-word).2);
        fits = same_fits k.list k.found s.views id w (λ j u _. k.fits j u) (λ _. record {
          terms = mine.terms;
          seen = mine.seen;
          uncompared = mine.uncompared;
          marks = mine.marks;
          many = mine.many;
          base = λ b e. (
            ap (λ (x : Found E). x.list) (some-of b _ (sym e)),
            ap (λ (x : Found E). x.marks) (some-of b _ (sym e)),
          );
        });
        ended = same_ended s.views id w k.ended (λ e. absurd (off v.spent e alive));
        top = same_top k.list s.views id v w at alive refl k.top;
        events = λ e. total-same (event e) s.views id v w at refl ∙ k.events e;
        once = k.once;
        roots = total-same rooted s.views id v w at refl ∙ k.roots;
        family = omega (
          arith,
          total-same live s.views id v w at refl,
          total-same kids s.views id v w at refl,
          k.family,
        );
        many = k.many;
      }

  got : (s : St) (k : Rule s) (id : ℕ) (v : V) → get_elem? s.views id ≡ some v → v.spent ≡ false
      → (t : T) (first : ℕ) → stands q first t k.list → marks t ≡ k.found
      → IsGot stands opens marks v t (won v k.list k.found)
  got s k id v at alive t first stood marked =
      let mine = k.fits id v at alive in
      record {
        list = k.list;
        found = k.found;
        first = first;
        view = refl;
        stood = subst (λ (x : Q). stands x first t k.list) (sym mine.terms) stood;
        marked = marked;
        seen = mine.seen;
        above = mine.marks;
        many = mine.many;
        once = k.once;
        own = λ e is. omega (
          arith,
          k.once e,
          k.events e,
          term_le (event e) s.views id v at,
          ap (is_event e) is,
          ap flag (eq-eqb e e refl),
        );
        alone = λ root childless. let a = is_alone s k id v at alive root childless in
            (a.list, a.events);
      }

  abbrev Goes : St → ℕ → Me (Option T) V → (ℕ → Me (Option T) V → Type 0) → ℕ → Type 0
  Goes s id m then n = (w : V) × (a : Act (Option T)) × Valid s.homes m.1 a
      × Rule (stepped s 0 n id m.1 w a) × then (get_or s.words 0 0) (w, carried_after m.1 a)

  pub claims : (id : ℕ) (v : V) → v.spent ≡ false → v.base ≡ None
      → Allows Rule 1 id (v, []) 0 (λ n. either (eqb n 0) 1 n) (Claimed stands opens marks (v, []))
  claims id v alive free s k wide at _ =
      exchanged (get_or s.words 0 0) 0 1 (Goes s id (v, []) (Claimed stands opens marks (v, [])))
      (λ hit. let zero-word : k.word ≡ 0 = sym (word_is s k) ∙ hit in
      let home = k.home zero-word in (
        won v k.list k.found,
        takes 0 (Some home.0),
        home.2,
        wins s k id v at alive free zero-word,
        (
          (λ _. (home.0, refl, got s k id v at alive home.0 home.1 home.3 home.4)),
          λ miss. absurd (miss hit),
        ),
      ))
      (λ miss. (
        v,
        keeps,
        tt,
        unmoved s k id v at (get_or s.words 0 0) refl,
        ((λ hit. absurd (miss hit)), λ _. refl),
      ))

  -- the same, as a seat and its table have it
  pub claims_at : (id n : ℕ) → n ≡ 1 → (m : Me (Option T) V) → m.0.spent ≡ false → m.0.base ≡ None
      → m.1 ≡ []
      → Allows Rule n id m 0 (λ x. either (eqb x 0) 1 x) (Claimed stands opens marks m)
  claims_at id n one m alive free bare =
      subst (λ (k : ℕ). Allows Rule k id m 0 (λ x. either (eqb x 0) 1 x)
      (Claimed stands opens marks m)) (sym one)
      (subst (λ (c : List (ℕ × Option T)).
      Allows Rule 1 id (m.0, c) 0 (λ x. either (eqb x 0) 1 x)
      (Claimed stands opens marks (m.0, c))) (sym bare) (claims id m.0 alive free))

  -- what the views know begins a longer list too
  releases : Once stands opens marks → Many stands opens marks → (id : ℕ) (v : V) (t : T)
      → v.spent ≡ false → (may : MayPut stands opens marks v t)
      → Allows Rule 1 id (v, (0, Some t) ∷ []) 0 (λ _. 0)
      (λ _ n. (n ≡ (put_view v (marks t) may.list may.mine, []))
      × ((e : ℕ) → may.mine ≡ Some e → times e (opens may.list) ≡ 1))
  releases once many id v t alive may s k wide at _ =
      let h = may.list in
      let w = put_view v (marks t) h may.mine in
      let single : (e : ℕ) → times e (opens h) ≤ 1 = λ e. once v.terms may.first t h may.stood e in
      let had : turn v ≡ 1 = ap has may.is_base in
      let was = k.fits id v at alive in
      let list : k.list ≡ may.base.list = sym (was.base may.base may.is_base).0 in
      let grown : Begins k.list h = subst (λ (l : List E). Begins l h) (sym list) may.longer in
      let found : k.found ≡ may.base.marks = sym (was.base may.base may.is_base).1 in
      let events : (e : ℕ) → total (event e) (set s.views id w) ≡ times e (opens h) =
      λ e. omega (
        arith,
        total-set (event e) s.views id v w at,
        k.events e,
        may.events e,
        ap (λ l. times e (opens l)) list,
      ) in
      let here : get_elem? (set s.views id w) id ≡ some w =
      set_here s.views id w (there s.views id v at) in (
        w,
        gives,
        tt,
        record {
          list = h;
          found = marks t;
          word = 0;
          words = written s k 0;
          low = omega arith;
          turns = omega (arith, total-set turn s.views id v w at, k.turns, k.low);
          out = λ e. absurd (omega arith);
          home = λ _. (
            t,
            may.first,
            set_here s.homes 0 (some (Some t)) (omega arith),
            subst (λ (x : Q). stands x may.first t h) was.terms may.stood,
            refl,
          );
          fits = same_fits h (marks t) s.views id w
              (λ j u apart e aliveu. let f = k.fits j u e aliveu in record {
                terms = f.terms;
                seen = begins-trans u.seen k.list h f.seen grown;
                uncompared = begins-trans u.uncompared k.list h f.uncompared grown;
                marks = none_above-trans u.marks k.found (marks t) f.marks
                    (subst (λ (l : List ℕ). NoneAbove l (marks t)) (sym found) may.above);
                many = f.many ∙ sym (k.many t);
                base = λ b is. absurd (omega (
                  arith,
                  terms_le turn s.views id j v u apart at e,
                  ap has is,
                  k.turns,
                  k.low,
                ));
              })
              (λ _. record {
                terms = was.terms;
                seen = begins-self h;
                uncompared = begins-trans v.uncompared k.list h was.uncompared grown;
                marks = none_above-self (marks t);
                many = refl;
                base = λ b is. absurd (some-none b (sym is));
              });
          ended = same_ended s.views id w k.ended (λ e. absurd (off v.spent e alive));
          top = (id, w, here, alive, refl);
          events = events;
          once = single;
          roots = total-same rooted s.views id v w at refl ∙ k.roots;
          family = omega (
            arith,
            total-same live s.views id v w at refl,
            total-same kids s.views id v w at refl,
            k.family,
          );
          many = λ u. many u t;
        },
        (
          refl,
          λ e is. omega (
            arith,
            single e,
            events e,
            term_le (event e) (set s.views id w) id w here,
            ap (is_event e) is,
            ap flag (eq-eqb e e refl),
          ),
        ),
      )

  -- the same, as a seat and its table have it
  pub releases_at : Once stands opens marks → Many stands opens marks → (id n : ℕ) → n ≡ 1
      → (m : Me (Option T) V) (t : T) → m.1 ≡ (0, Some t) ∷ [] → m.0.spent ≡ false
      → MayPut stands opens marks m.0 t
      → Allows Rule n id m 0 (λ _. 0) (λ _. Released stands opens marks m)
  releases_at once many id n one m t held alive may =
      subst (λ (k : ℕ). Allows Rule k id m 0 (λ _. 0) (λ _. Released stands opens marks m))
      (sym one)
      (subst (λ (c : List (ℕ × Option T)).
      Allows Rule 1 id (m.0, c) 0 (λ _. 0) (λ _. Released stands opens marks (m.0, c)))
      (sym held)
      (λ s k wide at low. let r = releases once many id m.0 t alive may s k wide at low in (
        r.0,
        r.1,
        r.2,
        r.3,
        λ t' held'. subst (λ (x : T). IsPut stands opens marks m.0 x r.0
            × (carried_after ((0, Some t) ∷ []) r.1 ≡ [])) (same_value t t' held') (
              record { may = may; view = ap (λ (y : Me (Option T) V). y.0) r.4.0; own = r.4.1 },
              ap (λ (y : Me (Option T) V). y.1) r.4.0,
            ),
      )))
    where
      same_value : (x y : T) → ◌≡◌ {A = List (ℕ × Option T)} ((0, Some x) ∷ []) ((0, Some y) ∷ [])
          → x ≡ y
      same_value x y e = ap (value_of x) e

  pub splits : (id : ℕ) (v : V) → v.spent ≡ false → v.root ≡ true
      → Splits Rule id v (split_left v) (split_right v)
  splits id v alive root s k at =
      let left = split_left v in
      let right = split_right v in
      let views = set s.views id left in
      let mine = k.fits id v at alive in
      let kid_more : kids left ≡ kids v + 1 =
      ap (λ b. kid b (v.children + 1)) root ∙ ap (λ b. kid b v.children + 1) (sym root) in
      record {
        list = k.list;
        found = k.found;
        word = k.word;
        words = k.words;
        low = k.low;
        turns = omega (
          arith,
          total-append turn views (right ∷ []),
          total-same turn s.views id v left at refl,
          k.turns,
        );
        home = k.home;
        out = k.out;
        fits = λ j u e alive-u. ⊎_elim
            (λ (old : get_elem? views j ≡ some u).
            same_fits k.list k.found s.views id left (λ i x _. k.fits i x)
            (λ _. record {
              terms = mine.terms;
              seen = mine.seen;
              uncompared = mine.uncompared;
              marks = mine.marks;
              many = mine.many;
              base = mine.base;
            }) j u old
            alive-u)
            (λ (new : right ≡ u). subst (λ (x : V). Fits q k.list k.found x) new
            (record {
              terms = mine.terms;
              seen = mine.seen;
              uncompared = (k.list, refl);
              marks = mine.marks;
              many = mine.many;
              base = λ b is. absurd (some-none b (sym is));
            }))
            (at_snoc views right u j e);
        ended = λ j u e dead. ⊎_elim
            (λ (old : get_elem? views j ≡ some u).
            same_ended s.views id left k.ended (λ d. absurd (off v.spent d alive)) j u old dead)
            (λ (new : right ≡ u). absurd (off u.spent dead (ap (λ (x : V). x.spent) (sym new))))
            (at_snoc views right u j e);
        top = let t = same_top k.list s.views id v left at alive refl k.top in
            (t.0, t.1, at_longer views (right ∷ []) t.0 t.1 t.2, t.3, t.4);
        events = λ e. omega (
          arith,
          total-append (event e) views (right ∷ []),
          total-same (event e) s.views id v left at refl,
          k.events e,
        );
        once = k.once;
        many = k.many;
        roots = omega (
          arith,
          total-append rooted views (right ∷ []),
          total-same rooted s.views id v left at refl,
          k.roots,
        );
        family = omega (
          arith,
          total-append live views (right ∷ []),
          total-same live s.views id v left at refl,
          total-append kids views (right ∷ []),
          total-set kids s.views id v left at,
          kid_more,
          k.family,
        );
      }

  pub joins : (id : ℕ) (v : V) (other : ℕ) (u z : V) → v.spent ≡ false → v.root ≡ true
      → u.spent ≡ false → u.root ≡ false → u.base ≡ None → u.mine ≡ None → z.spent ≡ true
      → IsSpent z
      → Joins Rule id v other u (joining v u) z
  joins id v other u z alive root alive-u child free idle dead gone s k at apart there-u =
      let w = joining v u in
      let views = set s.views id w in
      let at-u : get_elem? s.views other ≡ some u =
      sym (set_else s.views id other w apart) ∙ there-u in
      let fv = k.fits id v at alive in
      let fu = k.fits other u at-u alive-u in
      let none-z : (f : V → ℕ) → ((x : V) → IsSpent x → f x ≡ 0) → f z ≡ 0 = λ f h. h z gone in
      let childs : total kids s.views ≡ v.children = kids_alone s k id v at root in
      let two : live v + live u ≤ total live s.views =
      terms_le live s.views id other v u apart at at-u in
      let whole : ((x : V) → x.seen ≡ k.list → (v.seen ≡ k.list) ⊎ (u.seen ≡ k.list)
      → w.seen ≡ k.list) = λ x _ which. longer-whole v.seen u.seen k.list fv.seen fu.seen which
      in
      record {
        list = k.list;
        found = k.found;
        word = k.word;
        words = k.words;
        low = k.low;
        turns = omega (
          arith,
          total-set turn views other u z there-u,
          total-same turn s.views id v w at refl,
          none-z turn no_turn,
          ap has free,
          k.turns,
        );
        home = k.home;
        out = k.out;
        fits = same_fits k.list k.found views other z
            (λ j x _ e alive-x. same_fits k.list k.found s.views id w (λ i y _. k.fits i y)
            (λ _. record {
              terms = fv.terms;
              seen = longer-begins v.seen u.seen k.list fv.seen fu.seen;
              uncompared = shorter-begins v.seen u.seen k.list fv.seen fu.seen;
              marks = greater-above v.marks u.marks k.found fv.marks fu.marks;
              many = greater-length v.marks u.marks (fv.many ∙ sym fu.many) ∙ fv.many;
              base = fv.base;
            })
            j x e alive-x)
            (λ e. absurd (off z.spent dead e));
        ended = same_ended views other z (same_ended s.views id w k.ended
            (λ d. absurd (off v.spent d alive))) (λ _. gone);
        top = after_join k id other v u z at at-u apart there-u alive fv.seen fu.seen;
        events = λ e. omega (
          arith,
          total-set (event e) views other u z there-u,
          total-same (event e) s.views id v w at refl,
          none-z (event e) (no_event e),
          ap (is_event e) idle,
          k.events e,
        );
        once = k.once;
        many = k.many;
        roots = omega (
          arith,
          total-set rooted views other u z there-u,
          total-same rooted s.views id v w at refl,
          none-z rooted (λ x g. ap flag g.root),
          ap flag child,
          k.roots,
        );
        family = omega (
          arith,
          total-set live views other u z there-u,
          total-same live s.views id v w at refl,
          total-set kids views other u z there-u,
          total-set kids s.views id v w at,
          ap unflag alive,
          ap unflag alive-u,
          ap unflag dead,
          none-z kids (λ x g. ap (λ b. kid b x.children) g.root),
          ap (λ b. kid b u.children) child,
          ap (λ b. kid b v.children) root,
          ap (λ b. kid b (v.children - 1)) root,
          childs,
          two,
          k.family,
        );
      }
    where
      after_join : {s : St} (k : Rule s) (id other : ℕ) (v u z : V) → get_elem? s.views id ≡ some v
          → get_elem? s.views other ≡ some u → ¬ (other ≡ id)
          → get_elem? (set s.views id (joining v u)) other ≡ some u
          → v.spent ≡ false → Begins v.seen k.list → Begins u.seen k.list
          → Top k.list (set (set s.views id (joining v u)) other z)
      after_join {s} k id other v u z at at-u apart there-u alive bv bu =
          let w = joining v u in
          let views = set s.views id w in
          let here : w.seen ≡ k.list → Top k.list (set views other z) =
          λ e. (
            id,
            w,
            set_else views other id z (λ x. apart (sym x))
                ∙ set_here s.views id w (there s.views id v at),
            alive,
            e,
          ) in
          let t = k.top in
          dite (ℕ_discrete t.0 id)
          (λ e. let is : t.1 ≡ v = some-injective t.1 v
          (sym t.2 ∙ ap (λ j. get_elem? s.views j) e ∙ at) in
          here (longer-whole v.seen u.seen k.list bv bu
          (inl (ap (λ (x : V). x.seen) (sym is) ∙ t.4))))
          (λ n. dite (ℕ_discrete t.0 other)
          (λ e. let is : t.1 ≡ u = some-injective t.1 u
          (sym t.2 ∙ ap (λ j. get_elem? s.views j) e ∙ at-u) in
          here (longer-whole v.seen u.seen k.list bv bu
          (inr (ap (λ (x : V). x.seen) (sym is) ∙ t.4))))
          (λ m. (
            t.0,
            t.1,
            set_else views other t.0 z m ∙ set_else s.views id t.0 w n
                ∙ t.2,
            t.3,
            t.4,
          )))

  pub compares : (id : ℕ) (m : Me (Option T) V) → m.0.spent ≡ false → (n : ℕ)
      → Allows Rule n id m 0 (λ x. x) (λ _. Compared opens m)
  compares id m alive n s k wide at _ =
      let v = m.0 in
      let w : V = record v { uncompared = [] } in
      let mine = k.fits id v at alive in (
        w,
        keeps,
        tt,
        record {
          list = k.list;
          found = k.found;
          word = k.word;
          words = set-get_or s.words 0 0 ∙ k.words;
          low = k.low;
          turns = total-same turn s.views id v w at refl ∙ k.turns;
          home = k.home;
          out = k.out;
          fits = same_fits k.list k.found s.views id w (λ j u _. k.fits j u)
              (λ _. record {
                terms = mine.terms;
                seen = mine.seen;
                uncompared = (k.list, refl);
                marks = mine.marks;
                many = mine.many;
                base = mine.base;
              });
          ended = same_ended s.views id w k.ended (λ e. absurd (off v.spent e alive));
          top = same_top k.list s.views id v w at alive refl k.top;
          events = λ e. total-same (event e) s.views id v w at refl ∙ k.events e;
          once = k.once;
          many = k.many;
          roots = total-same rooted s.views id v w at refl ∙ k.roots;
          family = omega (
            arith,
            total-same live s.views id v w at refl,
            total-same kids s.views id v w at refl,
            k.family,
          );
        },
        (
          refl,
          begins-shorter v.uncompared v.seen k.list mine.uncompared mine.seen,
          λ e is. (
            k.list,
            mine.seen,
            omega (
              arith,
              k.once e,
              k.events e,
              term_le (event e) s.views id v at,
              ap (is_event e) is,
              ap flag (eq-eqb e e refl),
            ),
          ),
        ),
      )

  pub compared_view : (m n : Me (Option T) V) (v u x : V) → m.0 ≡ joining v x → x ≡ u
      → Compared opens m n → n.0 ≡ joined v u
  compared_view m n v u x is same c =
      ap (λ (y : Me (Option T) V). y.0) c.0
      ∙ ap (λ (w : V). record w { uncompared = [] }) (is ∙ ap (joining v) same)

  pub compared_seen : (m n : Me (Option T) V) (v u x : V) → m.0 ≡ joining v x → x ≡ u
      → Compared opens m n → Begins v.seen n.0.seen × Begins u.seen n.0.seen
  compared_seen m n v u x is same c =
      let is' : m.0 ≡ joining v u = is ∙ ap (joining v) same in
      let seen : n.0.seen ≡ longer v.seen u.seen =
      ap (λ (y : Me (Option T) V). y.0.seen) c.0 ∙ ap (λ (w : V). w.seen) is' in
      let told = subst (λ (w : V). length w.uncompared ≤ length w.seen → Begins w.uncompared w.seen)
      is' c.1 in
      subst (λ (l : List E). Begins v.seen l × Begins u.seen l) (sym seen)
      (both-begin v.seen u.seen (told (shorter-length v.seen u.seen)))

  pub compared_own : (m n : Me (Option T) V) (v u x : V) → m.0 ≡ joining v x → x ≡ u
      → Compared opens m n → (e : ℕ) → v.mine ≡ Some e → IsOpenLater opens e n.0.seen
  compared_own m n v u x is same c e own =
      let is' : m.0 ≡ joining v u = is ∙ ap (joining v) same in
      let seen : n.0.seen ≡ m.0.seen = ap (λ (y : Me (Option T) V). y.0.seen) c.0 in
      subst (λ (l : List E). IsOpenLater opens e l) (sym seen)
      (c.2 e (ap (λ (w : V). w.mine) is' ∙ own))

  pub begins : Once stands opens marks → Many stands opens marks → (t : T) (first : ℕ) (h : List E)
      → stands q first t h → opens h ≡ []
      → Rule (opening (0 ∷ []) (Some t ∷ []) (first_view q h (marks t)))
  begins once many t first h stood none-open =
      let v = first_view q h (marks t) in
      record {
        list = h;
        found = marks t;
        word = 0;
        words = refl;
        low = omega arith;
        turns = refl;
        out = λ e. absurd (omega arith);
        home = λ _. (t, first, refl, stood, refl);
        fits = λ j u e _. ⊎_elim (λ (x : get_elem? [] j ≡ some u). absurd (some-ne-none u (sym x)))
            (λ (x : v ≡ u). subst (λ (y : V). Fits q h (marks t) y) x
            (record {
              terms = refl;
              seen = begins-self h;
              uncompared = (h, refl);
              marks = none_above-self (marks t);
              many = refl;
              base = λ b is. absurd (some-none b (sym is));
            }))
            (at_snoc [] v u j e);
        ended = λ j u e dead. ⊎_elim (λ (x : get_elem? [] j ≡ some u).
            absurd (some-ne-none u (sym x))) (λ (x : v ≡ u).
            absurd (off u.spent dead (ap (λ (y : V). y.spent) (sym x)))) (at_snoc [] v u j e);
        top = (0, v, refl, refl, refl);
        events = λ e. ap (times e) (sym none-open);
        once = λ e. once q first t h stood e;
        many = λ u. many u t;
        roots = refl;
        family = refl;
      }

module _ {E Q T : Type 0} (stands : Q → ℕ → T → List E → Type 0) (opens : List E → List ℕ)
    (marks : T → List ℕ) where
  pub begins_with : Once stands opens marks → Many stands opens marks
      → (d : Q) (views : List (View E Q)) (t : T) → MayStart stands opens marks views t
      → (items : List (Option T)) → items ≡ Some t ∷ [] → (log : List (View E Q)) → log ≡ views
      → RuleHolds stands opens marks (named d log).terms (opening (0 ∷ []) items (named d log))
  begins_with once many d views t m items is log names =
      subst (λ (l : List (View E Q)). RuleHolds stands opens marks (named d l).terms
      (opening (0 ∷ []) items (named d l))) (sym (names ∙ m.views_are))
      (subst (λ (xs : List (Option T)). RuleHolds stands opens marks m.terms
      (opening (0 ∷ []) xs (first_view m.terms m.list (marks t)))) (sym is)
      (begins stands opens marks m.terms once many t m.first m.list m.stood m.closed))

  pub closes : (q : Q) (id : ℕ) (v : View E Q) (ws : List ℕ) (xs : List (Option T))
      → v.spent ≡ false → v.root ≡ true → v.base ≡ None → v.children ≡ 0
      → Final (Seen (RuleHolds stands opens marks q) id v) ws xs → (t : T)
      × (get_elem? xs 0 ≡ some (Some t)) × IsLast stands opens marks v t
  closes q id v ws xs alive root free childless last =
      let k = last.1.0 in
      let at = last.1.1 in
      let a = is_alone stands opens marks q last.0 k id v at alive root childless in
      let mine = k.fits id v at alive in
      let home = k.home (a.turns ∙ ap has free) in (
        home.0,
        last.4 0 (Some home.0) home.2,
        record {
          first = home.1;
          stood = subst (λ (x : Q). stands x home.1 home.0 v.seen) (sym mine.terms)
              (subst (λ (l : List E). stands q home.1 home.0 l) a.list home.3);
          above = subst (λ (l : List ℕ). NoneAbove v.marks l) (sym home.4) mine.marks;
          many = mine.many ∙ sym (k.many home.0);
          events = λ e. ap (λ l. times e (opens l)) (sym a.list) ∙ a.events e;
        },
      )

  -- The open events are the passes' own, and two passes never have the same one
  pub own_events : OwnEventsDiffer stands opens marks
  own_events q s rule = (
    rule.events,
    λ j k e v w at-v at-w is-v is-w. dite (ℕ_discrete j k)
        (λ same. same)
        (λ apart. absurd (omega (
          arith,
          terms_le (event e) s.views j k v w (λ x. apart (sym x)) at-v
              at-w,
          ap (is_event e) is-v,
          ap (is_event e) is-w,
          ap flag (eq-eqb e e refl),
          rule.events e,
          rule.once e,
        ))),
  )
