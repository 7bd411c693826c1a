-- Messages that go through tasks one after another.
use Rattle.std.proofs.Common.{◌≡◌, ℕ, zero, suc, ◌+◌, ◌-◌, ◌<◌, ◌≤◌, List, [], ◌∷◌, ◌++◌, length}
use Rattle.std.proofs.Common.{get_or, set, take, drop, refl, sym, ap, ◌∙◌, subst, arith}
use Rattle.std.proofs.Common.{append_assoc}
use Rattle.std.proofs.Math.Seq.{take-suc, take-suc-set, drop-cons, drop-length}
use Rattle.std.proofs.lemmas.List.{drop-drop, drop-set-lt, take_all, take-append-le}
use Rattle.message_block.specs.Messages.{MessageState}
use Rattle.module_stream.specs.Composition.{Comes, GiveTheSame, IsPassedBy, through}

-- through tasks in two parts
pub through-append : {T : Type 0} (gives : T → List MessageState → List MessageState)
    (xs ys : List T) (messages : List MessageState)
    → through gives (xs ++ ys) messages ≡ through gives ys (through gives xs messages)
through-append gives [] ys messages = refl
through-append gives (x ∷ xs) ys messages = through-append gives xs ys (gives x messages)

-- what is left after one more
drop_one : {T : Type 0} (xs : List T) (i : ℕ) → drop 1 (drop i xs) ≡ drop (suc i) xs
drop_one [] zero = refl
drop_one [] (suc i) = refl
drop_one (x ∷ xs) zero = refl
drop_one (x ∷ xs) (suc i) = drop_one xs i

pub next_drop : {T : Type 0} (xs ys : List T) (i : ℕ) → drop i xs ≡ drop i ys
    → drop (suc i) xs ≡ drop (suc i) ys
next_drop xs ys i e = sym (drop_one xs i) ∙ (ap (drop 1) e ∙ drop_one ys i)

-- one more message was put into a task
pub comes_more : (before now after : List MessageState → List MessageState)
    (put out given all : List MessageState) (message : MessageState)
    → Comes before put out now → Comes now (message ∷ []) given after → all ≡ out ++ given
    → Comes before (put ++ message ∷ []) all after
comes_more before now after put out given all message h g e = λ more.
    ap before (append_assoc put (message ∷ []) more)
    ∙ (h (message ∷ more)
    ∙ (ap (λ l. out ++ l) (g more)
    ∙ (sym (append_assoc out given (after more)) ∙ ap (λ l. l ++ after more) (sym e))))

-- a row of tasks that was lent as a slice, and is written back
pub written_back : {T : Type 0} (gives : T → List MessageState → List MessageState)
    (items lent new : List T) (n : ℕ) (put put' out out' : List MessageState)
    → lent ≡ items → put' ≡ put → out' ≡ out → length new ≡ n
    → Comes (through gives lent) put out (through gives new)
    → Comes (through gives items) put' out'
    (through gives (take n (new ++ drop (length new) items)))
written_back gives items lent new n put put' out out' same same_put same_out long h = λ more.
    let back : take n (new ++ drop (length new) items) ≡ new =
    take-append-le n new (drop (length new) items) (omega arith)
    ∙ take_all n new (omega arith) in
    ap (λ row. through gives row (put' ++ more)) (sym same)
    ∙ (ap (λ l. through gives lent (l ++ more)) same_put
    ∙ (h more ∙ (ap (λ l. l ++ through gives new more) (sym same_out)
    ∙ ap (λ row. out' ++ through gives row more) (sym back))))

-- Messages were put into the first tasks of a row, and these came out of the last of them.
pub record HasPassed {T : Type 0} (gives : T → List MessageState → List MessageState)
    (before now : List T) (place : ℕ) (put messages : List MessageState) : Type 0 where
  pub comes : (more : List MessageState)
      → through gives before (put ++ more)
      ≡ through gives (drop place before) (messages ++ through gives (take place now) more)
  pub same : drop place now ≡ drop place before

passed_set : {T : Type 0} (gives : T → List MessageState → List MessageState) (before now : List T)
    (place : ℕ) (put messages out : List MessageState) (x x' : T)
    → HasPassed gives before now place put messages → place < length now → x ≡ get_or now place x
    → Comes (gives x) messages out (gives x')
    → HasPassed gives before (set now place x') (suc place) put out
passed_set gives before now place put messages out x x' h lt is comes = record {
  comes = λ more.
      let front : drop place before ≡ x ∷ drop (suc place) before =
      sym h.same ∙ (drop-cons now place x lt
      ∙ (ap (λ y. y ∷ drop (suc place) now) (sym is)
      ∙ ap (λ ys. x ∷ ys) (next_drop now before place h.same))) in
      h.comes more
      ∙ (ap (λ row. through gives row (messages ++ through gives (take place now) more)) front
      ∙ (ap (through gives (drop (suc place) before)) (comes (through gives (take place now) more))
      ∙ ap (λ given. through gives (drop (suc place) before) (out ++ given))
      (sym (through-append gives (take place now) (x' ∷ []) more)
      ∙ ap (λ row. through gives row more) (sym (take-suc-set now place x' lt)))));
  same = drop-set-lt (suc place) now place x' (omega arith) ∙ next_drop now before place h.same;
}

pub passed_more : {T : Type 0} (gives : T → List MessageState → List MessageState)
    (before now after : List T) (place next : ℕ) (put messages out : List MessageState) (x x' : T)
    → after ≡ set now place x' → next ≡ suc place → HasPassed gives before now place put messages
    → place < length now → x ≡ get_or now place x → Comes (gives x) messages out (gives x')
    → HasPassed gives before after next put out
passed_more gives before now after place next put messages out x x' stored up h lt is comes =
    subst (λ (k : ℕ). HasPassed gives before after k put out) (sym up)
    (subst (λ row. HasPassed gives before row (suc place) put out) (sym stored)
    (passed_set gives before now place put messages out x x' h lt is comes))

-- an empty part of a row gives what it gets
pub none_passed_by : {T : Type 0} (gives : T → List MessageState → List MessageState)
    (tasks : List T) (from : ℕ) → IsPassedBy gives tasks from from
none_passed_by gives tasks from = record {
  order = omega arith;
  front = λ messages. refl;
  rest = λ messages. refl;
}

-- and so does a part with one more task that gives what it gets
pub more_passed_by : {T : Type 0} (gives : T → List MessageState → List MessageState)
    (tasks : List T) (from to next : ℕ) (x : T)
    → next ≡ suc to → IsPassedBy gives tasks from to → to < length tasks → x ≡ get_or tasks to x
    → GiveTheSame (gives x) (λ given. given)
    → IsPassedBy gives tasks from next
more_passed_by gives tasks from to next x up h lt is same =
    let front : take (suc to) tasks ≡ take to tasks ++ (x ∷ []) =
    take-suc tasks to x lt ∙ ap (λ y. take to tasks ++ (y ∷ [])) (sym is) in
    let rest : drop to tasks ≡ x ∷ drop (suc to) tasks =
    drop-cons tasks to x lt ∙ ap (λ y. y ∷ drop (suc to) tasks) (sym is) in
    subst (λ (k : ℕ). IsPassedBy gives tasks from k) (sym up) (record {
      order = omega (arith, h.order);
      front = λ messages.
          ap (λ row. through gives row messages) front
          ∙ (through-append gives (take to tasks) (x ∷ []) messages
          ∙ (same (through gives (take to tasks) messages) ∙ h.front messages));
      rest = λ messages.
          h.rest messages ∙ (ap (λ row. through gives row messages) rest
          ∙ ap (through gives (drop (suc to) tasks)) (same messages));
    })

-- all tasks of a row, which was lent as a slice, give what they get: what was put comes out as it
-- was
pub comes_past : {T : Type 0} (gives : T → List MessageState → List MessageState)
    (items lent : List T) (to : ℕ) (put : List MessageState)
    → lent ≡ items → IsPassedBy gives lent 0 to → to ≡ length items
    → Comes (through gives items) put put (through gives items)
comes_past gives items lent to put same_row h all = λ more.
    let none : drop to lent ≡ [] = ap (drop to) same_row
    ∙ (ap (λ k. drop k items) all ∙ drop-length items) in
    let same : GiveTheSame (through gives items) (λ given. given) =
    λ messages. ap (λ row. through gives row messages) (sym same_row)
    ∙ (h.rest messages ∙ ap (λ row. through gives row messages) none) in
    same (put ++ more) ∙ ap (λ l. put ++ l) (sym (same more))

later_drop : {T : Type 0} (xs ys : List T) (i j : ℕ) → i ≤ j → drop i xs ≡ drop i ys
    → drop j xs ≡ drop j ys
later_drop xs ys i j le e =
    let there : i + (j - i) ≡ j = omega arith in
    ap (λ k. drop k xs) (sym there)
    ∙ (sym (drop-drop (j - i) i xs) ∙ (ap (drop (j - i)) e
    ∙ (drop-drop (j - i) i ys ∙ ap (λ k. drop k ys) there)))

-- messages come past a part of a row that gives what it gets
pub passed_by : {T : Type 0} (gives : T → List MessageState → List MessageState)
    (before now : List T) (place next : ℕ) (put messages : List MessageState)
    → HasPassed gives before now place put messages → IsPassedBy gives now place next
    → HasPassed gives before now next put messages
passed_by gives before now place next put messages h past = record {
  comes = λ more.
      h.comes more
      ∙ (ap (λ row. through gives row (messages ++ through gives (take place now) more))
      (sym h.same)
      ∙ (past.rest (messages ++ through gives (take place now) more)
      ∙ (ap (λ row. through gives row (messages ++ through gives (take place now) more))
      (later_drop now before place next past.order h.same)
      ∙ ap (λ given. through gives (drop next before) (messages ++ given))
      (sym (past.front more)))));
  same = later_drop now before place next past.order h.same;
}

-- a message is put after the first tasks of a row, which give what they get
pub passed_first : {T : Type 0} (gives : T → List MessageState → List MessageState) (tasks : List T)
    (place : ℕ) (put : List MessageState)
    → IsPassedBy gives tasks 0 place → HasPassed gives tasks tasks place put put
passed_first gives tasks place put past =
    passed_by gives tasks tasks 0 place put put (record { comes = λ more. refl; same = refl }) past

pub passed_all : {T : Type 0} (gives : T → List MessageState → List MessageState)
    (before now : List T) (place : ℕ) (put messages : List MessageState)
    → HasPassed gives before now place put messages → place ≡ length now
    → Comes (through gives before) put messages (through gives now)
passed_all gives before now place put messages h all = λ more.
    let none : drop place before ≡ [] = sym h.same ∙ (ap (λ k. drop k now) all ∙ drop-length now) in
    h.comes more
    ∙ (ap (λ row. through gives row (messages ++ through gives (take place now) more)) none
    ∙ ap (λ row. messages ++ through gives row more) (take_all place now (omega arith)))

-- The first tasks of a row were finished, and these came out of the last of them.
pub record HasFinished {T : Type 0} (gives : T → List MessageState → List MessageState)
    (before now : List T) (place : ℕ) (put messages : List MessageState) : Type 0 where
  pub given : through gives before put ≡ through gives (drop place before) messages
  pub same : drop place now ≡ drop place before

finished_set : {T : Type 0} (gives : T → List MessageState → List MessageState)
    (before now : List T) (place : ℕ) (put messages out : List MessageState) (x x' : T)
    → HasFinished gives before now place put messages → place < length now → x ≡ get_or now place x
    → out ≡ gives x messages
    → HasFinished gives before (set now place x') (suc place) put out
finished_set gives before now place put messages out x x' h lt is gave = record {
  given =
      let front : drop place before ≡ x ∷ drop (suc place) before =
      sym h.same ∙ (drop-cons now place x lt
      ∙ (ap (λ y. y ∷ drop (suc place) now) (sym is)
      ∙ ap (λ ys. x ∷ ys) (next_drop now before place h.same))) in
      h.given ∙ (ap (λ row. through gives row messages) front
      ∙ ap (through gives (drop (suc place) before)) (sym gave));
  same = drop-set-lt (suc place) now place x' (omega arith) ∙ next_drop now before place h.same;
}

pub finished_more : {T : Type 0} (gives : T → List MessageState → List MessageState)
    (before now after : List T) (place next : ℕ) (put messages out : List MessageState) (x x' : T)
    → after ≡ set now place x' → next ≡ suc place → HasFinished gives before now place put messages
    → place < length now → x ≡ get_or now place x → out ≡ gives x messages
    → HasFinished gives before after next put out
finished_more gives before now after place next put messages out x x' stored up h lt is gave =
    subst (λ (k : ℕ). HasFinished gives before after k put out) (sym up)
    (subst (λ row. HasFinished gives before row (suc place) put out) (sym stored)
    (finished_set gives before now place put messages out x x' h lt is gave))

pub finished_all : {T : Type 0} (gives : T → List MessageState → List MessageState)
    (before now : List T) (place : ℕ) (put messages : List MessageState)
    → HasFinished gives before now place put messages → place ≡ length now
    → messages ≡ through gives before put
finished_all gives before now place put messages h all =
    let none : drop place before ≡ [] = sym h.same ∙ (ap (λ k. drop k now) all ∙ drop-length now) in
    sym (h.given ∙ ap (λ row. through gives row messages) none)
