-- What a journal tells of one timer, one event and one turn of a handler.
use Rattle.std.specs.Prelude.{ℕ}
use Rattle.ev_types.specs.declared.upcall.Answer.{Answer}
use Rattle.ev_types.specs.declared.upcall.Upcall.{Upcall}

-- a timer as it was set: the number of its handle, and its period in milliseconds, 0 for once
pub record Timer : Type 0 where
  pub handle : ℕ
  pub every : ℕ

-- an event: the number of its handle, and the upcall that it asks for
pub record Event : Type 0 where
  pub handle : ℕ
  pub upcall : Upcall

-- one turn of a handler: its upcall, the moment at which that began, its answer and its note
pub record Item (N : Type 0) : Type 0 where
  pub upcall : Upcall
  pub moment : ℕ
  pub answer : Answer
  pub note : N

-- the turn that offered a handler: its note, and the moment at which it began
pub record Origin (N : Type 0) : Type 0 where
  pub note : N
  pub moment : ℕ
