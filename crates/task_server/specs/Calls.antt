-- What the calls of a pool come to.
use Rattle.std.specs.Prelude.{◌≡◌, ℕ, ◌+◌, ◌-◌, ◌^◌, min, List, [], ◌∷◌, Option, Some, None, Result}
use Rattle.std.specs.Prelude.{Ok, Err}
use Rattle.atomic_table.specs.Seated.{TableId}
use Rattle.crossbeam_queue.specs.Passes.{view}
use Rattle.list_lemmas.specs.Sums.{total}
use Rattle.task_server.specs.declared.rule.Log.{Log}
use Rattle.task_server.specs.declared.sides.Found.{Found}
use Rattle.task_server.specs.declared.sides.Found.TheVariants as found
use Rattle.task_server.specs.declared.sides.Putter.{Putter}
use Rattle.task_server.specs.declared.sides.Taker.{Taker}
use Rattle.task_server.specs.declared.sides.Left.{Left}
use Rattle.task_server.specs.declared.sides.Pool.{Pool}
use Rattle.task_server.specs.Logs.{log, weight, with_own}
use Rattle.task_server.specs.Rule.{IsSettled}

-- one try more, counted up to 2^64 - 1
abbrev pub after : ℕ → ℕ
after tries = min (tries + 1) (2 ^ 64 - 1)

-- what the try of a put found, and that of a take
abbrev pub found_by : {A E : Type 0} → Result A E → Found
found_by (Ok x) = found.Moved
found_by (Err e) = found.Refused

abbrev pub got_by : {A : Type 0} → Option A → Found
got_by (Some x) = found.Moved
got_by None = found.Refused

-- no try was made in between
abbrev pub KeepsTries : ℕ × Found → ℕ × Found → Type 0
KeepsTries old new = new ≡ old

module _ {T : Type 0} where
  -- of which pool one is
  abbrev pub pool_id : Pool T → TableId
  pool_id pool = pool.queue.table.shared.table_id

  abbrev pub putter_pool : Putter T → TableId
  putter_pool p = p.pass.table_id

  abbrev pub taker_pool : Taker T → TableId
  taker_pool t = t.pass.table_id

  -- what a putter put, and what a taker took
  abbrev pub put_log : Putter T → Log T
  put_log p = (view p.pass).puts

  abbrev pub take_log : Taker T → Log T
  take_log t = (view t.pass).takes

  -- one that has so many shares, and has made no try
  abbrev pub IsNewPutter : ℕ → Putter T → Type 0
  IsNewPutter shares p = (put_log p ≡ log shares [] []) × (p.tries ≡ 0) × (p.found ≡ found.NoTry)

  abbrev pub IsNewTaker : ℕ → Taker T → Type 0
  IsNewTaker shares t = (take_log t ≡ log shares [] []) × (t.tries ≡ 0) × (t.found ≡ found.NoTry)

  -- one more item was put, or taken, with its number in the order of all
  abbrev pub HasPut : Log T → T → Log T → Type 0
  HasPut l item m = (n : ℕ) × (m ≡ with_own n item l)

  abbrev pub HasTaken : Log T → T → Log T → Type 0
  HasTaken l item m = (n : ℕ) × (m ≡ with_own n item l)

  -- these items are left, in order
  abbrev pub Remain : Left T → List T → Type 0
  Remain left items = IsSettled (view left.pass).puts (view left.pass).takes items

  -- however items are weighed, those that were put weigh as much as those that were taken and those
  -- that are left: so each stands among the ones as often as among the others
  abbrev pub Balances : Log T → Log T → List T → Type 0
  Balances puts takes items = (h : T → ℕ)
      → weight (λ n x. h x) puts ≡ weight (λ n x. h x) takes + total h items

  -- The first of these items was taken, and the others are left; or there was none.
  abbrev pub TakesFirst : List T → Option T → (List T → Type 0) → Type 0
  TakesFirst items None left = (items ≡ []) × left []
  TakesFirst items (Some x) left = (rest : List T) × (items ≡ x ∷ rest) × left rest
