-- What was put into a pool and taken out of it. Items are numbered in the order in which they were
-- put, which is the order in which they are taken.
use Rattle.std.specs.Prelude.{◌≡◌, ℕ, ◌+◌, ◌-◌, ◌^◌, ◌≤◌, List, [], ◌∷◌, ◌++◌}
use mathlib.Core.Option.{some}
use lib.ListN.{get_elem?}
use Rattle.list_lemmas.specs.Sums.{total}
use Rattle.task_server.specs.declared.rule.Numbered.{Numbered}
use Rattle.task_server.specs.declared.rule.Log.{Log}

module _ {T : Type 0} where
  abbrev pub numbered : ℕ → T → Numbered T
  numbered n x = record { number = n; item = x }

  abbrev pub log : ℕ → List (Numbered T) → List (List (Numbered T)) → Log T
  log shares own joined = record { shares = shares; own = own; joined = joined }

  -- the log of one that can put nothing, or take nothing
  abbrev pub no_log : Log T
  no_log = log 0 [] []

  -- the log with one more item of its own
  abbrev pub with_own : ℕ → T → Log T → Log T
  with_own n x l = record l { own = l.own ++ numbered n x ∷ [] }

  -- the log with one share less, for another
  abbrev pub shared : Log T → Log T
  shared l = record l { shares = l.shares - 1 }

  -- the log of one that took another in
  abbrev pub joined : Log T → Log T → Log T
  joined l m = log (l.shares + m.shares) l.own (l.joined ++ m.own ∷ m.joined)

  -- These items stand in the list of all, each at its number, and their numbers, which rise, are at
  -- least n.
  abbrev pub IsPartOf : List T → ℕ → List (Numbered T) → Type 0
  IsPartOf all n [] = Unit {0}
  IsPartOf all n (e ∷ es) =
      (n ≤ e.number) × (get_elem? all e.number ≡ some e.item) × IsPartOf all (e.number + 1) es

  abbrev pub AreParts : List T → List (List (Numbered T)) → Type 0
  AreParts all [] = Unit {0}
  AreParts all (es ∷ ess) = IsPartOf all 0 es × AreParts all ess

  -- What the log has are parts of the list of all, each in its order; without a share it has none.
  pub record IsLogOf (all : List T) (l : Log T) : Type 0 where
    pub own : IsPartOf all 0 l.own
    pub joined : AreParts all l.joined
    pub none : l.shares ≡ 0 → (l.own ≡ []) × (l.joined ≡ [])

  -- ---- weights

  abbrev pub weight_of : (ℕ → T → ℕ) → Numbered T → ℕ
  weight_of h e = h e.number e.item

  -- what the items of a log weigh, each by its number and itself
  abbrev pub weight : (ℕ → T → ℕ) → Log T → ℕ
  weight h l = total (weight_of h) l.own + total (total (weight_of h)) l.joined

  -- what a list weighs whose first item has number n
  abbrev pub weight_from : (ℕ → T → ℕ) → ℕ → List T → ℕ
  weight_from h n [] = 0
  weight_from h n (x ∷ xs) = h n x + weight_from h (n + 1) xs

  -- ---- what a try finds

  -- The items in the queue are the last of some list, in which what this putter put stands. If it
  -- has all shares, it put the whole list, each item once.
  pub record PutsStand (l : Log T) (items : List T) : Type 0 where
    pub taken : List T
    pub stand : IsLogOf (taken ++ items) l
    pub whole : l.shares ≡ 2 ^ 32 → (h : ℕ → T → ℕ)
        → weight h l ≡ weight_from h 0 (taken ++ items)

  -- The items that are in the queue stand after some list, in which what this taker took stands.
  abbrev pub TakesStand : Log T → List T → Type 0
  TakesStand l items = (taken : List T) × IsLogOf taken l
