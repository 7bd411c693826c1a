-- The rule of a token: what holds of its word, its slot and the views of all passes between any two
-- steps, and what each step tells. The word is 0 when the token is free and 1 when a pass holds
-- it.
use Rattle.std.specs.Prelude.{◌≡◌, ℕ, ◌+◌, ◌-◌, ◌≤◌, List, [], ◌∷◌, length, cond, true, false}
use Rattle.std.specs.Prelude.{Option, Some, None}
use mathlib.Core.Option.{none, some}
use lib.ListN.{get_elem?}
use Rattle.atomic_table.specs.Table.{State, Me}
use Rattle.leader_token.specs.Lists.{Begins, NoneAbove, greater, longer, shorter, is_event}
use Rattle.list_lemmas.specs.Times.{times}
use Rattle.list_lemmas.specs.Sums.{total}
use Rattle.leader_token.specs.Passes.{first_view, IsGot, IsPut, IsOpenLater}
use Rattle.leader_token.specs.declared.kept.Found.{Found}
use Rattle.leader_token.specs.declared.kept.View.{View}

-- 1 if there is something, else 0.
abbrev pub has : {A : Type 0} → Option A → ℕ
has None = 0
has (Some x) = 1

-- The slots that are out with a seat: the one slot, empty, while the pass holds the token.
abbrev pub out_for : {T E : Type 0} → Option (Found E) → List (ℕ × Option T)
out_for None = []
out_for (Some b) = (0, None) ∷ []

module _ {E Q : Type 0} where
  -- The view that a pass leaves behind when it was joined.
  abbrev pub spent : Q → View E Q
  spent q = record {
    terms = q;
    seen = [];
    uncompared = [];
    marks = [];
    base = None;
    mine = None;
    root = false;
    children = 0;
    spent = true;
  }

  -- The view that a key names.
  abbrev pub named : Q → List (View E Q) → View E Q
  named q [] = spent q
  named q (v ∷ vs) = v

  -- What a view counts for in the sums below: whether it holds the token, whether it is not spent,
  -- whether it is the root, how many children the root has, and whether its own event is e.
  abbrev pub turn : View E Q → ℕ
  turn v = has v.base

  abbrev pub live : View E Q → ℕ
  live v = cond v.spent 0 1

  abbrev pub rooted : View E Q → ℕ
  rooted v = cond v.root 1 0

  abbrev pub kids : View E Q → ℕ
  kids v = cond v.root v.children 0

  abbrev pub event : ℕ → View E Q → ℕ
  event e v = is_event e v.mine

  -- What a view that is not spent knows of the list h and the marks m.
  pub record Fits (q : Q) (h : List E) (m : List ℕ) (v : View E Q) : Type 0 where
    pub terms : v.terms ≡ q
    pub seen : Begins v.seen h
    pub uncompared : Begins v.uncompared h
    pub marks : NoneAbove v.marks m
    pub many : length v.marks ≡ length m
    pub base : (b : Found E) → v.base ≡ Some b → (b.list ≡ h) × (b.marks ≡ m)

  -- A spent view counts for nothing.
  pub record IsSpent (v : View E Q) : Type 0 where
    pub base : v.base ≡ None
    pub mine : v.mine ≡ None
    pub root : v.root ≡ false

  module _ {T : Type 0} (stands : Q → ℕ → T → List E → Type 0) (opens : List E → List ℕ)
      (marks : T → List ℕ) where
    -- The rule, with the list that the value stands for, or stood for when it was got, and the
    -- marks that it has, or had then.
    pub record RuleHolds (q : Q) (s : State (Option T) (View E Q)) : Type 0 where
      pub list : List E
      pub found : List ℕ
      pub word : ℕ
      pub words : s.words ≡ word ∷ []
      -- the word is 1 exactly if a pass holds the token, and then only one does
      pub low : word ≤ 1
      pub turns : total turn s.views ≡ word
      -- the value is in the slot exactly if the token is free
      pub home : word ≡ 0 → (t : T) × (first : ℕ) × (get_elem? s.homes 0 ≡ some (some (Some t)))
          × stands q first t list × (marks t ≡ found)
      pub out : word ≡ 1 → get_elem? s.homes 0 ≡ some none
      pub fits : (k : ℕ) (v : View E Q) → get_elem? s.views k ≡ some v → v.spent ≡ false
          → Fits q list found v
      pub ended : (k : ℕ) (v : View E Q) → get_elem? s.views k ≡ some v → v.spent ≡ true → IsSpent v
      -- one pass has seen the whole list
      pub top : (k : ℕ) × (v : View E Q) × (get_elem? s.views k ≡ some v) × (v.spent ≡ false)
          × (v.seen ≡ list)
      -- the open events are the passes' own, each of one pass alone
      pub events : (e : ℕ) → total (event e) s.views ≡ times e (opens list)
      pub once : (e : ℕ) → times e (opens list) ≤ 1
      -- one pass is the root, and its children are the passes that are not spent but itself
      pub roots : total rooted s.views ≡ 1
      pub family : total live s.views ≡ total kids s.views + 1
      -- each value has as many marks
      pub many : (t : T) → length (marks t) ≡ length found

    -- A seat took the value out of the slot.
    abbrev pub IsWon : Me (Option T) (View E Q) → Me (Option T) (View E Q) → Type 0
    IsWon m n = (t : T) × (n.1 ≡ (0, Some t) ∷ []) × IsGot stands opens marks m.0 t n.0

    -- What a claim tells, which found r in the word.
    abbrev pub Claimed : Me (Option T) (View E Q) → ℕ → Me (Option T) (View E Q) → Type 0
    Claimed m r n = (r ≡ 0 → IsWon m n) × (¬ (r ≡ 0) → n ≡ m)

    -- What a release tells: the value that the seat had is in the slot again.
    abbrev pub Released : Me (Option T) (View E Q) → Me (Option T) (View E Q) → Type 0
    Released m n = (t : T) → m.1 ≡ (0, Some t) ∷ [] → IsPut stands opens marks m.0 t n.0
        × (n.1 ≡ [])

    -- A token may be made: the one view is that of the root, of a value that leaves nothing open.
    pub record MayStart (views : List (View E Q)) (t : T) : Type 0 where
      pub terms : Q
      pub list : List E
      pub first : ℕ
      pub views_are : views ≡ first_view terms list (marks t) ∷ []
      pub stood : stands terms first t list
      pub closed : opens list ≡ []

  -- The root at a join, before its two lists were compared.
  abbrev pub joining : View E Q → View E Q → View E Q
  joining v w = record v {
    seen = longer v.seen w.seen;
    uncompared = shorter v.seen w.seen;
    marks = greater v.marks w.marks;
    children = v.children - 1;
  }

  -- What the load after a join tells: of the two lists the shorter begins the longer, and the
  -- root's own event is open in a list that the longer begins.
  abbrev pub Compared : {T : Type 0} → (List E → List ℕ) → Me (Option T) (View E Q)
      → Me (Option T) (View E Q) → Type 0
  Compared opens m n = (n ≡ (record m.0 { uncompared = [] }, m.1))
      × (length m.0.uncompared ≤ length m.0.seen → Begins m.0.uncompared m.0.seen)
      × ((e : ℕ) → m.0.mine ≡ Some e → IsOpenLater opens e m.0.seen)

-- The own events of a token's passes are, together, the open events of its list, and two passes
-- never have the same one.
abbrev pub OwnEventsDiffer : {E Q T : Type 0} → (Q → ℕ → T → List E → Type 0) → (List E → List ℕ)
    → (T → List ℕ) → Type 0
OwnEventsDiffer {E} {Q} {T} stands opens marks =
    (q : Q) (s : State (Option T) (View E Q)) → (rule : RuleHolds stands opens marks q s)
    → ((e : ℕ) → total (event e) s.views ≡ times e (opens rule.list))
    × ((j k e : ℕ) (v w : View E Q) → get_elem? s.views j ≡ some v → get_elem? s.views k ≡ some w
    → v.mine ≡ Some e → w.mine ≡ Some e → j ≡ k)
