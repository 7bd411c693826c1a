-- What is said of a box, said of its value, and the other way round.
use Rattle.std.proofs.Common.{◌≡◌, ℕ, List, subst, sym}
use Rattle.std.specs.Global.{Box}
use Rattle.leader_token.specs.declared.kept.View.{View}
use Rattle.leader_token.specs.Boxed.{boxed, boxed_marks}
use Rattle.leader_token.specs.Passes.{IsGot, MayPut, IsPut, IsLast}
use Rattle.leader_token.specs.Rule.{MayStart}
use Rattle.leader_token.proofs.Keeps.{Once, Many}

-- the laws of what a token keeps, of its box
pub once_boxed : {E Q T : Type 0} (stands : Q → ℕ → T → List E → Type 0) (opens : List E → List ℕ)
    (marks : T → List ℕ) → Once stands opens marks
    → Once {T = Box T} (boxed stands) opens (boxed_marks marks)
once_boxed stands opens marks once terms first box list = once terms first box.value list

pub many_boxed : {E Q T : Type 0} (stands : Q → ℕ → T → List E → Type 0) (opens : List E → List ℕ)
    (marks : T → List ℕ) → Many stands opens marks
    → Many {T = Box T} (boxed stands) opens (boxed_marks marks)
many_boxed stands opens marks many one other = many one.value other.value

module _ {E Q T : Type 0} (stands : Q → ℕ → T → List E → Type 0) (opens : List E → List ℕ)
    (marks : T → List ℕ) where
  pub got_value : (v : View E Q) (b : Box T) (w : View E Q)
      → IsGot (boxed stands) opens (boxed_marks marks) v b w → IsGot stands opens marks v b.value w
  got_value v b w g = record {
    list = g.list;
    found = g.found;
    first = g.first;
    view = g.view;
    stood = g.stood;
    seen = g.seen;
    marked = g.marked;
    above = g.above;
    many = g.many;
    once = g.once;
    own = g.own;
    alone = g.alone;
  }

  pub may_box : (v : View E Q) (b : Box T) → MayPut stands opens marks v b.value
      → MayPut (boxed stands) opens (boxed_marks marks) v b
  may_box v b m = record {
    base = m.base;
    first = m.first;
    list = m.list;
    mine = m.mine;
    is_base = m.is_base;
    stood = m.stood;
    longer = m.longer;
    above = m.above;
    events = m.events;
  }

  may_value : (v : View E Q) (b : Box T) → MayPut (boxed stands) opens (boxed_marks marks) v b
      → MayPut stands opens marks v b.value
  may_value v b m = record {
    base = m.base;
    first = m.first;
    list = m.list;
    mine = m.mine;
    is_base = m.is_base;
    stood = m.stood;
    longer = m.longer;
    above = m.above;
    events = m.events;
  }

  pub put_value : (v : View E Q) (b : Box T) (w : View E Q)
      → IsPut (boxed stands) opens (boxed_marks marks) v b w → IsPut stands opens marks v b.value w
  unfolding may_value
  put_value v b w p = record { may = may_value v b p.may; view = p.view; own = p.own }

  pub last_value : (v : View E Q) (b : Box T) (t : T) → t ≡ b.value
      → IsLast (boxed stands) opens (boxed_marks marks) v b → IsLast stands opens marks v t
  last_value v b t is l = subst (IsLast stands opens marks v) (sym is) record {
    first = l.first;
    stood = l.stood;
    above = l.above;
    many = l.many;
    events = l.events;
  }

  pub start_box : (views : List (View E Q)) (t : T) (b : Box T) → b.value ≡ t
      → MayStart stands opens marks views t
      → MayStart (boxed stands) opens (boxed_marks marks) views b
  start_box views t b is s = let m = subst (MayStart stands opens marks views) (sym is) s in
      record {
        terms = m.terms;
        list = m.list;
        first = m.first;
        views_are = m.views_are;
        stood = m.stood;
        closed = m.closed;
      }
