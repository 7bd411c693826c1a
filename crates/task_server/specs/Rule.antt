-- The rule of a pool.
use Rattle.std.specs.Prelude.{◌≡◌, ℕ, ◌^◌, List, [], ◌∷◌, ◌++◌}
use mathlib.Core.Option.{some}
use lib.ListN.{get_elem?}
use Rattle.list_lemmas.specs.Sums.{total}
use Rattle.task_server.specs.declared.rule.Log.{Log}
use Rattle.task_server.specs.declared.rule.View.{View}
use Rattle.task_server.specs.Logs.{IsLogOf, log, weight, weight_from, with_own}

module _ {T : Type 0} where
  abbrev pub view_of : Log T → Log T → View T
  view_of puts takes = record { puts = puts; takes = takes }

  -- the first pass puts and takes
  abbrev pub first_view : View T
  first_view = view_of (log (2 ^ 32) [] []) (log (2 ^ 32) [] [])

  -- one more item was put, or taken
  abbrev pub with_put : ℕ → T → View T → View T
  with_put n x v = record v { puts = with_own n x v.puts }

  abbrev pub with_taken : ℕ → T → View T → View T
  with_taken n x v = record v { takes = with_own n x v.takes }

  -- what a view knows of all items that were put, and of those that were taken
  abbrev pub Knows : List T → List T → View T → Type 0
  Knows all taken v = IsLogOf all v.puts × IsLogOf taken v.takes

  -- Between any two steps: what was put is what was taken and then what the queue holds. Each item
  -- that was put is in one log of puts, once, at its number; and each that was taken in one log of
  -- takes. There are 2^32 shares of each side.
  pub record InPool (items : List T) (views : List (View T)) : Type 0 where
    pub all : List T
    pub taken : List T
    pub is : all ≡ taken ++ items
    pub put_shares : total (λ (v : View T). v.puts.shares) views ≡ 2 ^ 32
    pub take_shares : total (λ (v : View T). v.takes.shares) views ≡ 2 ^ 32
    pub put_once : (h : ℕ → T → ℕ) → total (λ (v : View T). weight h v.puts) views
        ≡ weight_from h 0 all
    pub taken_once : (h : ℕ → T → ℕ) → total (λ (v : View T). weight h v.takes) views
        ≡ weight_from h 0 taken
    pub knows : (k : ℕ) (v : View T) → get_elem? views k ≡ some v → Knows all taken v

  -- When one pass has all shares: what was put and taken, and the items that are left.
  pub record IsSettled (puts takes : Log T) (items : List T) : Type 0 where
    pub all : List T
    pub taken : List T
    pub is : all ≡ taken ++ items
    pub put_once : (h : ℕ → T → ℕ) → weight h puts ≡ weight_from h 0 all
    pub taken_once : (h : ℕ → T → ℕ) → weight h takes ≡ weight_from h 0 taken
    pub puts_stand : IsLogOf all puts
    pub takes_stand : IsLogOf taken takes

  -- One that has all shares took the first of what is left, whatever that was.
  abbrev pub LeavesRest : View T → T → View T → Type 0
  LeavesRest v x w = (n : ℕ) × (w ≡ with_taken n x v)
      × ((items : List T) → IsSettled v.puts v.takes items
      → (rest : List T) × (items ≡ x ∷ rest) × IsSettled w.puts w.takes rest)
