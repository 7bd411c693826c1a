-- What contracts see of a stream, and what its calls do (C++NPv2 chapter 9: `ACE_Stream`). The
-- parameters X and F are those of a boxed task.
use Rattle.std.specs.Prelude.{◌≡◌, ◌<◌, ◌≤◌, ◌==◌, ℕ, Bool, true, false, List, [], ◌∷◌, ◌++◌}
use Rattle.std.specs.Prelude.{length}
use Rattle.std.specs.List.{list_any}
use Rattle.std.specs.declared.alloc.Global.{Global}
use Rattle.std.specs.declared.dyn_box.DynBox.{DynBox}
use Rattle.module_stream.specs.declared.stream.Module.{Module}
use Rattle.module_stream.specs.declared.stream.Stream.{Stream}
use Rattle.module_stream.specs.declared.stream.PushRefused.{PushRefused}
use Rattle.module_stream.specs.declared.stream.PushRefused.TheVariants as push
use Rattle.module_stream.specs.declared.stream.StreamRefused.{StreamRefused}
use Rattle.module_stream.specs.declared.stream.StreamRefused.TheVariants as refused

-- the names of its modules, from tail to head
abbrev pub names_of : {X : Type 0} {F : X → Type 0} → Stream X F → List ℕ
names_of stream = stream.names.items

-- the tasks of the writer side, from head to tail: messages go through them in this order
abbrev pub writers_of : {X : Type 0} {F : X → Type 0} → Stream X F → List (DynBox X Global F)
writers_of stream = stream.writers.items

-- the tasks of the reader side, from tail to head
abbrev pub readers_of : {X : Type 0} {F : X → Type 0} → Stream X F → List (DynBox X Global F)
readers_of stream = stream.readers.items

-- whether a message was put into it, or it was finished
abbrev pub has_started : {X : Type 0} {F : X → Type 0} → Stream X F → Bool
has_started stream = stream.started

-- whether it takes no more messages
abbrev pub is_spent : {X : Type 0} {F : X → Type 0} → Stream X F → Bool
is_spent stream = stream.spent

-- it takes messages before and after
abbrev pub StaysOpen : {X : Type 0} {F : X → Type 0} → Stream X F → Stream X F → Type 0
StaysOpen old new = (is_spent old ≡ false) × (is_spent new ≡ false)

-- a stream without modules
pub record IsEmptyStream {X : Type 0} {F : X → Type 0} (stream : Stream X F) : Type 0 where
  pub names : names_of stream ≡ []
  pub writers : writers_of stream ≡ []
  pub readers : readers_of stream ≡ []
  pub started : has_started stream ≡ false
  pub spent : is_spent stream ≡ false

-- contracts see the same of both
pub record IsUnchanged {X : Type 0} {F : X → Type 0} (old new : Stream X F) : Type 0 where
  pub names : names_of new ≡ names_of old
  pub writers : writers_of new ≡ writers_of old
  pub readers : readers_of new ≡ readers_of old
  pub started : has_started new ≡ has_started old
  pub spent : is_spent new ≡ is_spent old

-- the second has one module more, just below the head: its writer comes first from the head, and
-- its reader last from the tail
pub record HasOneMore {X : Type 0} {F : X → Type 0} (less : Stream X F) (added : Module X F)
    (more : Stream X F) : Type 0 where
  pub names : names_of more ≡ names_of less ++ added.name ∷ []
  pub writers : writers_of more ≡ added.writer ∷ writers_of less
  pub readers : readers_of more ≡ readers_of less ++ added.reader ∷ []
  pub started : has_started more ≡ has_started less
  pub spent : is_spent more ≡ is_spent less

-- a module of that name is in the stream
abbrev pub has_name : {X : Type 0} {F : X → Type 0} → Stream X F → ℕ → Bool
has_name stream name = list_any (λ other. other == name) (names_of stream)

-- a stream takes a module: none of that name is in it, and there are fewer than 16
pub record TakesModule {X : Type 0} {F : X → Type 0} (stream : Stream X F) (name : ℕ) : Type 0 where
  pub other_name : has_name stream name ≡ false
  pub below : length (names_of stream) < 16

-- A module of the same name, and 16 modules, are why one is refused. Only if the stream takes
-- the module can memory lack for it.
abbrev pub RefusesModule : {X : Type 0} {F : X → Type 0} → Stream X F → ℕ → PushRefused → Type 0
RefusesModule stream name push.SameName = has_name stream name ≡ true
RefusesModule stream name (push.Full modules) =
    (has_name stream name ≡ false) × (modules ≡ length (names_of stream)) × (16 ≤ modules)
RefusesModule stream name push.NoMemory = TakesModule stream name

-- A spent stream refuses each message, and is as before. Want of memory leaves a stream spent that
-- was not.
abbrev pub RefusesMessage : {X : Type 0} {F : X → Type 0} → Stream X F → StreamRefused → Stream X F
    → Type 0
RefusesMessage old refused.Spent new = (is_spent old ≡ true) × IsUnchanged old new
RefusesMessage old refused.NoMemory new = (is_spent old ≡ false) × (is_spent new ≡ true)
