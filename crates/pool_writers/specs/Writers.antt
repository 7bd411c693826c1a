-- What a writer does with the items that it takes.
use Rattle.std.specs.Prelude.{◌≡◌, List, [], ◌∷◌, ◌++◌}
use Rattle.task_server.specs.Calls.{HasTaken, take_log, taker_pool}
use Rattle.task_server.specs.declared.item.Item.{Item}
use Rattle.task_server.specs.declared.rule.Log.{Log}
use Rattle.task_server.specs.declared.sides.Taker.{Taker}
use Rattle.pool_writers.specs.declared.writer.Ended.{Ended}
use Rattle.pool_writers.specs.declared.writer.Writer.{Writer}

-- these items were taken, one after another, and nothing else
abbrev pub HaveTaken : {T : Type 0} → Log T → List T → Log T → Type 0
HaveTaken {T} old [] new = new ≡ old
HaveTaken {T} old (item ∷ items) new = (next : Log T) × HasTaken old item next
    × HaveTaken next items new

-- Some items were taken, and nothing else. Just these were served, each once and in order, after
-- what was served before.
abbrev pub ServesTaken : Log Item → List Item → Log Item → List Item → Type 0
ServesTaken took served takes serves = (items : List Item) × HaveTaken took items takes
    × (serves ≡ served ++ items)

-- the taker that a writer takes with, and its service
abbrev pub taker_of : {S : Type 0} → Writer S → Taker Item
taker_of writer = writer.taker

abbrev pub service_of : {S : Type 0} → Writer S → S
service_of writer = writer.service

-- A writer has ended so: what it took its service was served. `served` tells what that was of a
-- service.
pub record HasServed {S : Type 0} (served : S → List Item) (writer : Writer S) (ended : Ended S)
    : Type 0 where
  pub pool : taker_pool ended.taker ≡ taker_pool (taker_of writer)
  pub serves : ServesTaken (take_log (taker_of writer)) (served (service_of writer))
      (take_log ended.taker) (served ended.service)
