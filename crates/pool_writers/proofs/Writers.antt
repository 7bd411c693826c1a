-- That what is taken and then served goes on to be the same items.
use Rattle.std.proofs.Common.{◌≡◌, List, [], ◌∷◌, ◌++◌, append_assoc, ap, refl, subst, ◌∙◌}
use Rattle.task_server.specs.Calls.{HasTaken}
use Rattle.task_server.specs.declared.item.Item.{Item}
use Rattle.task_server.specs.declared.rule.Log.{Log}
use Rattle.pool_writers.specs.Writers.{HaveTaken, ServesTaken}

taken_more : {T : Type 0} (old : Log T) (items : List T) (took took_more : Log T) (item : T)
    → HaveTaken old items took → HasTaken took item took_more
    → HaveTaken old (items ++ item ∷ []) took_more
taken_more {T} old [] took took_more item same one =
    (took_more, subst (λ (l : Log T). HasTaken l item took_more) same one, refl)
taken_more {T} old (first ∷ items) took took_more item taken one =
    (taken.0, taken.1, taken_more taken.0 items took took_more item taken.2 one)

-- one more item was taken and then served
pub serves_more : (old : Log Item) (before : List Item) (took took_more : Log Item)
    (served served_more : List Item) (item : Item) → ServesTaken old before took served
    → HasTaken took item took_more → served_more ≡ served ++ item ∷ []
    → ServesTaken old before took_more served_more
serves_more old before took took_more served served_more item so_far one more = (
  so_far.0 ++ item ∷ [],
  taken_more old so_far.0 took took_more item so_far.1 one,
  more ∙ ap (λ (l : List Item). l ++ item ∷ []) so_far.2
      ∙ append_assoc before so_far.0 (item ∷ []),
)
