-- What a pass knows of a token's value before and after each call. The value stands for a list of
-- entries under fixed terms, leaves events open, and has marks that never fall. Of `stands`,
-- `opens` and `marks` these definitions take what the value's type says. The discipline is that of
-- the Leader/Followers pattern: POSA2, chapter 5, where only the thread that holds the token works
-- on the shared set of handles.
use Rattle.std.specs.Prelude.{◌≡◌, ℕ, ◌+◌, ◌-◌, ◌≤◌, List, [], length, true, false, Option, Some}
use Rattle.std.specs.Prelude.{None}
use Rattle.leader_token.specs.Lists.{Begins, NoneAbove, greater, longer, is_event}
use Rattle.list_lemmas.specs.Times.{times}
use Rattle.leader_token.specs.declared.kept.Found.{Found}
use Rattle.leader_token.specs.declared.kept.View.{View}

-- the event is open in some list that this one begins
abbrev pub IsOpenLater : {E : Type 0} → (List E → List ℕ) → ℕ → List E → Type 0
IsOpenLater {E} opens e seen = (list : List E) × Begins seen list × (times e (opens list) ≡ 1)

module _ {E Q : Type 0} where
  -- The root pass when the token is made: it has seen the whole list, and made no other pass.
  abbrev pub first_view : Q → List E → List ℕ → View E Q
  first_view q h m = record {
    terms = q;
    seen = h;
    uncompared = [];
    marks = m;
    base = None;
    mine = None;
    root = true;
    children = 0;
    spent = false;
  }

  -- The root after a split: one more child.
  abbrev pub split_left : View E Q → View E Q
  split_left v = record v { children = v.children + 1 }

  -- The child: it has seen what the root has, with the root's terms and marks, and has no event.
  abbrev pub split_right : View E Q → View E Q
  split_right v = record {
    terms = v.terms;
    seen = v.seen;
    uncompared = [];
    marks = v.marks;
    base = None;
    mine = None;
    root = false;
    children = 0;
    spent = false;
  }

  -- The root after a join: the longer of both lists, the greater of each two marks, one child less.
  abbrev pub joined : View E Q → View E Q → View E Q
  joined v w = record v {
    seen = longer v.seen w.seen;
    uncompared = [];
    marks = greater v.marks w.marks;
    children = v.children - 1;
  }

  -- The pass after it put a value back that has these marks, stands for list h and leaves e open as
  -- the pass's own event.
  abbrev pub put_view : View E Q → List ℕ → List E → Option ℕ → View E Q
  put_view v m h e = record v { seen = h; marks = m; base = None; mine = e }

  module _ {T : Type 0} (stands : Q → ℕ → T → List E → Type 0) (opens : List E → List ℕ)
      (marks : T → List ℕ) where
    -- A pass with view v got the value t, and has view w from then on.
    pub record IsGot (v : View E Q) (t : T) (w : View E Q) : Type 0 where
      pub list : List E
      pub found : List ℕ
      pub first : ℕ
      -- the list and the marks found are kept as base, and nothing else changed
      pub view : w ≡ record v { base = Some record { list = list; marks = found } }
      -- the value stands for the list, which begins with all that the pass has seen
      pub stood : stands v.terms first t list
      pub seen : Begins v.seen list
      -- no mark is below the pass's
      pub marked : marks t ≡ found
      pub above : NoneAbove v.marks found
      pub many : length v.marks ≡ length found
      -- no event is open twice, and the pass's own event is open
      pub once : (e : ℕ) → times e (opens list) ≤ 1
      pub own : (e : ℕ) → v.mine ≡ Some e → times e (opens list) ≡ 1
      -- the root alone has seen the whole list, and only its own event is open
      pub alone : v.root ≡ true → v.children ≡ 0 → (list ≡ v.seen)
          × ((e : ℕ) → times e (opens list) ≡ is_event e v.mine)

    -- A pass with view v may put the value t back: for some list that its base begins the value
    -- stands, no mark is below those found, and the open events differ from those of the base by
    -- the pass's own event alone.
    pub record MayPut (v : View E Q) (t : T) : Type 0 where
      pub base : Found E
      pub first : ℕ
      pub list : List E
      pub mine : Option ℕ
      pub is_base : v.base ≡ Some base
      pub stood : stands v.terms first t list
      pub longer : Begins base.list list
      pub above : NoneAbove base.marks (marks t)
      -- each event is open as often as before, less the own event before, and with the own event
      -- after
      pub events : (e : ℕ) → times e (opens list) + is_event e v.mine
          ≡ times e (opens base.list) + is_event e mine

    -- A pass with view v put t back, and has view w from then on. Its own event, if it has one, is
    -- open.
    pub record IsPut (v : View E Q) (t : T) (w : View E Q) : Type 0 where
      pub may : MayPut v t
      pub view : w ≡ put_view v (marks t) may.list may.mine
      pub own : (e : ℕ) → may.mine ≡ Some e → times e (opens may.list) ≡ 1

    -- The value at the end, as the root with view v knows it: it stands for what the root has seen,
    -- no mark is below the root's, and only the root's own event is open.
    pub record IsLast (v : View E Q) (t : T) : Type 0 where
      pub first : ℕ
      pub stood : stands v.terms first t v.seen
      pub above : NoneAbove v.marks (marks t)
      pub many : length v.marks ≡ length (marks t)
      pub events : (e : ℕ) → times e (opens v.seen) ≡ is_event e v.mine
