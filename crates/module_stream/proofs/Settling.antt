-- A thread that has ended: what it took is all that was put, and what came back is all that it
-- sent.
use Rattle.std.proofs.Common.{◌≡◌, Bool, true, false, true≢false, List, [], ◌∷◌, ◌++◌, get_or, drop}
use Rattle.std.proofs.Common.{refl, sym, ap, ◌∙◌, subst}
use Rattle.message_block.specs.Messages.{MessageState}
use Rattle.message_lines.specs.declared.line.Item.{Item}
use Rattle.message_lines.specs.declared.line.Item.TheVariants.{One, Many, Stop}
use Rattle.message_lines.specs.Boxes.{ones, stop_if}
use Rattle.module_stream.specs.Progress.{Gives, Progress}
use Rattle.module_stream.proofs.Steps.{progress_dropped}

is_stop : Item → Bool
is_stop Stop = true
is_stop (One message) = false
is_stop (Many batch) = false

message_or : MessageState → Item → MessageState
message_or other Stop = other
message_or other (One message) = message
message_or other (Many batch) = other

first_is : (x y : Item) (xs ys : List Item) → x ∷ xs ≡ y ∷ ys → x ≡ y
first_is x y xs ys e = ap (λ l. get_or l 0 x) e

rest_is : (x y : Item) (xs ys : List Item) → x ∷ xs ≡ y ∷ ys → xs ≡ ys
rest_is x y xs ys e = ap (drop 1) e

-- if what was got through a line has come to its end, it is all that was sent
pub got_all : (sent got : List MessageState) (more : List Item)
    → ones sent ++ Stop ∷ [] ≡ (ones got ++ Stop ∷ []) ++ more → sent ≡ got
unfolding is_stop message_or
got_all [] [] more e = refl
got_all [] (y ∷ ys) more e = absurd
    (true≢false (ap is_stop (first_is Stop (One y) [] ((ones ys ++ Stop ∷ []) ++ more) e)))
got_all (x ∷ xs) [] more e = absurd
    (true≢false (sym (ap is_stop (first_is (One x) Stop (ones xs ++ Stop ∷ []) more e))))
got_all (x ∷ xs) (y ∷ ys) more e =
    let same : x ≡ y = ap (message_or x)
    (first_is (One x) (One y) (ones xs ++ Stop ∷ []) ((ones ys ++ Stop ∷ []) ++ more) e) in
    let rest : xs ≡ ys = got_all xs ys more
    (rest_is (One x) (One y) (ones xs ++ Stop ∷ []) ((ones ys ++ Stop ∷ []) ++ more) e) in
    ap (λ z. z ∷ xs) same ∙ ap (λ l. y ∷ l) rest

-- what came back of what was put
pub settled : (first rest : Gives) (put answered messages dropped taken sent : List MessageState)
    (lost short both over : Bool) (in_feed in_came : List Item) →
    ones put ++ Stop ∷ [] ≡ (ones taken ++ Stop ∷ []) ++ in_feed →
    ones sent ++ Stop ∷ [] ≡ (ones ((answered ++ messages) ++ dropped) ++ stop_if over) ++ in_came
    → over ≡ true →
    (short ≡ false → dropped ≡ []) → (both ≡ false → (lost ≡ false) × (short ≡ false)) →
    Progress first taken sent lost rest → Progress first put (answered ++ messages) both rest
settled first rest put answered messages dropped taken sent lost short both over in_feed in_came
    feed came ends none clear h =
    let all_taken : put ≡ taken = got_all put taken in_feed feed in
    let all_came : sent ≡ (answered ++ messages) ++ dropped =
    got_all sent ((answered ++ messages) ++ dropped) in_came
    (came ∙ ap (λ b. (ones ((answered ++ messages) ++ dropped) ++ stop_if b) ++ in_came) ends)
    in
    let now : Progress first put ((answered ++ messages) ++ dropped) lost rest =
    subst (λ l. Progress first l ((answered ++ messages) ++ dropped) lost rest) (sym all_taken)
    (subst (λ l. Progress first taken l lost rest) all_came h) in
    progress_dropped first rest put (answered ++ messages) dropped lost both (λ e. none (clear e).1)
    (λ e. (clear e).0) now
