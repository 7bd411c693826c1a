-- The rule of a ring: what holds of its words and of all views between any two steps.
use Rattle.std.specs.Prelude.{◌≡◌, ℕ, ◌+◌, ◌^◌, ◌≤◌, ◌<◌, List, [], length, take, slice_index, cond}
use Rattle.std.specs.Prelude.{◌==◌, nat_lt, Bool, true, false}
use mathlib.Core.Option.{some}
use lib.ListN.{get_elem?}
use Rattle.notify_ring.specs.declared.posting.Posting.{Posting}
use Rattle.notify_ring.specs.declared.view.Flight.{Flight}
use Rattle.notify_ring.specs.declared.view.Flight.TheVariants.{Idle, Claimed, Drawn, Written}
use Rattle.notify_ring.specs.declared.view.Stage.{Stage}
use Rattle.notify_ring.specs.declared.view.Stage.TheVariants.{Resting, Seen, Cleared}
use Rattle.notify_ring.specs.declared.view.Ended.{Ended}
use Rattle.notify_ring.specs.declared.view.View.{View}
use Rattle.notify_ring.specs.Postings.{flag, by_poster, handle_at, gate_at, code, IsNumbered}
use Rattle.list_lemmas.specs.Sums.{total}
use Rattle.notify_ring.specs.Passes.{blank, owns}

-- The one view of a new ring, before the drainer's part is split off.
abbrev pub first_view : View
first_view = record blank { drains = true; posts = true; root = true; posters = 1 }

-- 1 if a claim is in flight.
abbrev pub claim_of : Flight → ℕ
claim_of Idle = 0
claim_of (Claimed r) = 1
claim_of (Drawn x) = 0
claim_of (Written x) = 0

-- 1 if it found less than 256.
abbrev pub good_of : Flight → ℕ
good_of Idle = 0
good_of (Claimed r) = flag (nat_lt r 256)
good_of (Drawn x) = 0
good_of (Written x) = 0

-- 1 if number n was drawn and its gate is not stored.
abbrev pub pends_of : ℕ → Flight → ℕ
pends_of n Idle = 0
pends_of n (Claimed r) = 0
pends_of n (Drawn x) = flag (n == x.number)
pends_of n (Written x) = flag (n == x.number)

-- What a view counts for in the sums below.
abbrev pub claimed : View → ℕ
claimed v = claim_of v.flight

abbrev pub good : View → ℕ
good v = good_of v.flight

abbrev pub pends : ℕ → View → ℕ
pends n v = pends_of n v.flight

abbrev pub poster : View → ℕ
poster v = flag v.posts

abbrev pub rooted : View → ℕ
rooted v = flag v.root

abbrev pub kids : View → ℕ
kids v = cond v.root v.children 0

abbrev pub drainer : View → ℕ
drainer v = flag v.drains

-- What a flight says: the posting drawn stands among all postings and is not cleared, and once its
-- handle is stored, the handle word of its place has it.
abbrev pub FlightFits : List ℕ → List Posting → ℕ → Bool → Flight → Type 0
FlightFits words all cleared posts Idle = Unit {0}
FlightFits words all cleared posts (Claimed r) = posts ≡ true
FlightFits words all cleared posts (Drawn x) =
    (posts ≡ true) × (get_elem? all x.number ≡ some x) × (cleared ≤ x.number)
FlightFits words all cleared posts (Written x) =
    (posts ≡ true) × (get_elem? all x.number ≡ some x) × (cleared ≤ x.number)
    × (slice_index words (handle_at x.number) ≡ x.handle.0)

-- What a stage says: what was taken are the postings below the first gate that is not cleared, and
-- as many places were given back, or one less while a cleared place is still held. A gate that was
-- found full is that of the next posting still.
abbrev pub StageFits : List ℕ → List Posting → ℕ → ℕ → List Posting → Stage → Type 0
StageFits words all cleared freed got Resting = (got ≡ take cleared all) × (freed ≡ cleared)
StageFits words all cleared freed got (Seen x) =
    (got ≡ take cleared all) × (freed ≡ cleared) × (get_elem? all cleared ≡ some x)
    × (slice_index words (gate_at cleared) ≡ code x)
StageFits words all cleared freed got Cleared = (got ≡ take cleared all) × (freed + 1 ≡ cleared)

-- What a view knows of the words and of all postings.
pub record Fits (words : List ℕ) (all : List Posting) (cleared freed made : ℕ) (v : View) : Type 0
  where
    pub posted : v.posts ≡ true → v.posted ≡ by_poster v.number all
    pub ended : (k : ℕ) (e : Ended) → get_elem? v.ended k ≡ some e
        → e.posted ≡ by_poster e.number all
    pub flight : FlightFits words all cleared v.posts v.flight
    -- a claim that found 256 places held or in flight: at most 64 were in flight, so as many
    -- postings were drawn
    pub full : 256 ≤ v.found → 192 ≤ length all
    pub root : v.root ≡ true → (v.posters ≡ made) × (v.children < made) × (v.posts ≡ true)
    pub child : v.root ≡ false → v.ended ≡ []
    pub drain : v.drains ≡ true → StageFits words all cleared freed v.got v.stage

-- The gate word and the handle word of a posting's place are its own.
pub record IsStored (words : List ℕ) (x : Posting) : Type 0 where
  pub gate : slice_index words (gate_at x.number) ≡ code x
  pub handle : slice_index words (handle_at x.number) ≡ x.handle.0

-- The rule, with all postings in the order in which they were drawn, how many of their gates are
-- cleared again, how many places were given back, and how many posters were made.
pub record RingHolds (words : List ℕ) (views : List View) : Type 0 where
  pub all : List Posting
  pub cleared : ℕ
  pub freed : ℕ
  pub made : ℕ
  pub wide : length words ≡ 514
  -- places held are those of postings not released, and claims in flight
  pub held : slice_index words 0 + freed ≡ total claimed views + length all
  pub tail : slice_index words 1 ≡ length all
  pub order : (freed ≤ cleared) × (cleared ≤ length all)
  -- claims that found less than 256, and postings not released, are at most 256
  pub few : total good views + length all ≤ 256 + freed
  pub numbered : (n : ℕ) (x : Posting) → get_elem? all n ≡ some x → IsNumbered made n x
  pub seqs : (n : ℕ) (x : Posting) → get_elem? all n ≡ some x
      → x.seq ≡ length (by_poster x.from (take n all))
  -- a posting that is not cleared is stored, or its gate is empty and it is in one poster's flight;
  -- beyond the tail gates are empty
  pub stored : (n : ℕ) (x : Posting) → cleared ≤ n → get_elem? all n ≡ some x
      → total (pends n) views ≡ 0 → IsStored words x
  pub waits : (n : ℕ) → cleared ≤ n → n < cleared + 256 → 0 < total (pends n) views
      → slice_index words (gate_at n) ≡ 0
  pub vacant : (n : ℕ) → length all ≤ n → n < cleared + 256 → slice_index words (gate_at n) ≡ 0
  pub single : (n : ℕ) → total (pends n) views ≤ 1
  pub fits : (k : ℕ) (v : View) → get_elem? views k ≡ some v → Fits words all cleared freed made v
  -- each poster made has its list in one view, its own or the root's
  pub owners : (p : ℕ) → total (owns p) views ≡ flag (nat_lt p made)
  pub drainers : total drainer views ≤ 1
  pub roots : total rooted views ≡ 1
  pub family : total poster views ≡ total kids views + 1
  pub limit : made ≤ 64
  pub bounded : (p : ℕ) → length (by_poster p all) ≤ 2 ^ 56
