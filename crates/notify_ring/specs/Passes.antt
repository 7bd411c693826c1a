-- What a poster and a drainer know before and after each call.
use Rattle.std.specs.Prelude.{◌≡◌, ℕ, ◌+◌, ◌-◌, ◌^◌, ◌≤◌, ◌<◌, List, [], ◌∷◌, ◌++◌, length, take}
use Rattle.std.specs.Prelude.{cond, ◌==◌, nat_lt, Bool, true, false, Result, Ok, Err, Option, Some}
use Rattle.std.specs.Prelude.{None}
use mathlib.Core.Option.{some}
use lib.ListN.{get_elem?}
use Rattle.ev_types.specs.declared.upcall.Handle.{Handle}
use Rattle.ev_types.specs.declared.upcall.Kind.{Kind}
use Rattle.notify_ring.specs.declared.posting.Posting.{Posting}
use Rattle.notify_ring.specs.declared.posting.Full.{Full}
use Rattle.notify_ring.specs.declared.view.Flight.TheVariants.{Idle}
use Rattle.notify_ring.specs.declared.view.Stage.TheVariants.{Resting}
use Rattle.notify_ring.specs.declared.view.Ended.{Ended}
use Rattle.notify_ring.specs.declared.view.View.{View}
use Rattle.notify_ring.specs.Postings.{flag, by_poster, code, IsNumbered}
use Rattle.list_lemmas.specs.Sums.{total}

-- The view of a seat that was joined, and the empty parts of others.
abbrev pub blank : View
blank = record {
  drains = false;
  got = [];
  loads = 0;
  gate = 0;
  stage = Resting;
  posts = false;
  number = 0;
  posted = [];
  claims = 0;
  found = 0;
  flight = Idle;
  root = false;
  posters = 0;
  children = 0;
  ended = [];
}

-- The root poster when the ring is made: number 0, the only poster, with no posting.
abbrev pub root_poster : View
root_poster = record blank { posts = true; root = true; posters = 1 }

-- The drainer when the ring is made: nothing taken.
abbrev pub new_drainer : View
new_drainer = record blank { drains = true }

-- The root after a split: one more poster made, one more not joined.
abbrev pub split_left : View → View
split_left v = record v { posters = v.posters + 1; children = v.children + 1 }

-- The new poster: the next number, no posting.
abbrev pub split_right : View → View
split_right v = record blank { posts = true; number = v.posters }

-- The root after a join: it keeps the other's number and postings.
abbrev pub joined : View → View → View
joined v w = record v {
  children = v.children - 1;
  ended = v.ended ++ record { number = w.number; posted = w.posted } ∷ [];
}

-- Posting number n of the poster with view v.
abbrev pub posting_of : View → ℕ → Handle → Kind → Posting
posting_of v n handle kind = record {
  number = n;
  handle = handle;
  kind = kind;
  from = v.number;
  seq = length v.posted;
}

-- A poster with view v made one claim and has view w from then on. What the claim found decides:
-- with 256 places or more held there is no posting, and the answer names the number; else the
-- posting stands at the end of the poster's list with the number answered.
abbrev pub HasPosted : View → Handle → Kind → Result ℕ Full → View → Type 0
HasPosted v handle kind (Ok n) w =
    (w.found < 256) × (w ≡ record v {
      claims = v.claims + 1;
      found = w.found;
      posted = v.posted ++ posting_of v n handle kind ∷ [];
    })
HasPosted v handle kind (Err f) w =
    (256 ≤ f.held) × (w ≡ record v { claims = v.claims + 1; found = f.held })

-- The posting after those taken: the next number, and as many of its poster before it as were
-- taken.
pub record IsNext (got : List Posting) (x : Posting) : Type 0 where
  pub number : x.number ≡ length got
  pub from : x.from < 64
  pub seq : x.seq ≡ length (by_poster x.from got)
  pub few : x.seq < 2 ^ 56
  pub low : length got < 2 ^ 62

-- A drainer with view v loaded one gate, that of the next number, and has view w from then on. What
-- the load found decides: an empty gate, or that of the next posting, which then stands at the end
-- of the drainer's list.
abbrev pub HasTaken : View → Option Posting → View → Type 0
HasTaken v None w = w ≡ record v { loads = v.loads + 1; gate = 0 }
HasTaken v (Some x) w = IsNext v.got x
    × (w ≡ record v { got = v.got ++ x ∷ []; loads = v.loads + 1; gate = code x })

-- A drainer with view v loaded the gate of the next number once, took nothing, and has view w from
-- then on, which keeps what the load found: 0 for an empty gate.
abbrev pub HasLooked : View → Bool → View → Type 0
HasLooked v empty w = (empty ≡ (w.gate == 0))
    × (w ≡ record v { loads = v.loads + 1; gate = w.gate })

-- How often the view has the list of poster p: as its own, or of a poster that was joined.
abbrev pub owns : ℕ → View → ℕ
owns p v = cond v.posts (flag (p == v.number)) 0
    + total (λ (e : Ended). flag (p == e.number)) v.ended

-- The end, by the views of the root poster and of the drainer: there is one list of n postings,
-- numbered from 0 on, of which the posters' lists are the parts, each poster's once, and with which
-- the drainer's list begins.
pub record IsMerged (root drainer : View) (n : ℕ) : Type 0 where
  pub all : List Posting
  pub long : length all ≡ n
  pub numbered : (k : ℕ) (x : Posting) → get_elem? all k ≡ some x → IsNumbered root.posters k x
  pub own : root.posted ≡ by_poster root.number all
  pub ended : (k : ℕ) (e : Ended) → get_elem? root.ended k ≡ some e
      → e.posted ≡ by_poster e.number all
  pub each : (p : ℕ) → owns p root ≡ flag (nat_lt p root.posters)
  -- each posting's number among its poster's, also of those that were not drained
  pub seqs : (k : ℕ) (x : Posting) → get_elem? all k ≡ some x
      → x.seq ≡ length (by_poster x.from (take k all))
  pub got : (rest : List Posting) × (drainer.got ++ rest ≡ all)
  -- at most 256 were not drained
  pub few : n ≤ length drainer.got + 256
