-- The bar of an upcall begins at its `Started`.
use Rattle.std.proofs.Common.{rules, ◌≡◌, ◌≢◌, ◌∙◌, ℕ, zero, suc, ◌<◌, ◌||◌, Bool, true, false}
use Rattle.std.proofs.Common.{cond, List, [], ◌∷◌, ◌++◌, length, set, Some, refl, sym, ap, arith}
use Rattle.std.proofs.Common.{subst, length-append, ⊎_elim, slice_get}
use Rattle.std.proofs.lemmas.Bool.{false≢true, and_parts, cases_eq, ne_eqb, eq-eqb, cond-true}
use Rattle.std.proofs.lemmas.List.{length-set, length-reverse, get_or-set_same, get_or-set_other}
use Rattle.std.specs.Prelude.{nat_lt}
use Rattle.std.specs.List.{list_any}
use Rattle.reactor_journal.specs.declared.entry.Entry.{Entry}
use Rattle.reactor_journal.specs.declared.entry.Entry.TheVariants.{Started}
use Rattle.reactor_journal.specs.Past.{past_of, starts, was_started}
use Rattle.reactor_journal.specs.Follow.{is_legal, may_follow}
use Rattle.reactor_journal.proofs.Basics.{event_at-within}
use Rattle.reactor_journal.proofs.OneOpen.{started_is_able, able_is_event}
use Rattle.std.proofs.lemmas.List.{reverse-append, reverse-reverse}
use Rattle.log_handler.specs.declared.note.ServerNote.{ServerNote}
use Rattle.journal_picture.specs.Places.{tables, start_set}
use Rattle.journal_picture.specs.Laws.{BeginsAtItsStart}
use Rattle.journal_picture.proofs.Lanes.{Stands, stands_first, number_there}
use Rattle.journal_picture.proofs.Marking.{lanes_counted}

-- ---- entries of a list

get_first : {A : Type 0} (xs ys : List A) (k : ℕ) (x : A) → slice_get xs k ≡ Some x
    → slice_get (xs ++ ys) k ≡ Some x
get_first [] ys k x h = cc
get_first (y ∷ xs) ys zero x h = h
get_first (y ∷ xs) ys (suc k) x h = get_first xs ys k x h

get_last : {A : Type 0} (xs : List A) (x : A) → slice_get (xs ++ x ∷ []) (length xs) ≡ Some x
get_last [] x = refl
get_last (y ∷ xs) x = get_last xs x

-- ---- starts

set_length : (event number : ℕ) (starts : List ℕ)
    → length (start_set event number starts) ≡ length starts
set_length event number starts = by_test (nat_lt event (length starts))
  where
    by_test : (b : Bool) → length (cond b (set starts event number) starts) ≡ length starts
    by_test true = length-set starts event number
    by_test false = refl

set_stands : (event number : ℕ) (starts : List ℕ) → event < length starts
    → Stands (start_set event number starts) event number
set_stands event number starts inside =
    let test : nat_lt event (length starts) ≡ true = search rules in
    let long = length-set starts event number in
    subst (λ (ns : List ℕ). Stands ns event number)
    (sym (cond-true (nat_lt event (length starts)) (set starts event number) starts test))
    (record { within = omega arith; is = get_or-set_same starts event number 0 inside })

set_other : (event number : ℕ) (starts : List ℕ) (at there : ℕ) → at ≢ event
    → Stands starts at there → Stands (start_set event number starts) at there
set_other event number starts at there other s = by_test (nat_lt event (length starts))
  where
    by_test : (b : Bool) → Stands (cond b (set starts event number) starts) at there
    by_test true =
        let long = length-set starts event number in
        let within = s.within in
        record { within = omega arith; is = get_or-set_other starts event at number 0 other ∙ s.is }
    by_test false = s

starts_counted : (handles : ℕ) (past : List (Entry ServerNote))
    → length (tables handles past).starts ≡ length past
starts_counted handles [] = refl
starts_counted handles (Started event ∷ past) =
    let n = length (tables handles past).lanes in
    let long = length-append (start_set event n (tables handles past).starts) (n ∷ []) in
    let same = set_length event n (tables handles past).starts in
    let counted = starts_counted handles past in
    omega arith
starts_counted handles (_ ∷ past) =
    let n = length (tables handles past).lanes in
    let long = length-append (tables handles past).starts (n ∷ []) in
    let counted = starts_counted handles past in
    omega arith

-- the number that is kept of a started event is that of a `Started` of it
record Begins (handles : ℕ) (past : List (Entry ServerNote)) (event : ℕ) : Type 0 where
  start : ℕ
  stands : Stands (tables handles past).starts event start
  is : slice_get (past_of past) start ≡ Some (Started event)

-- with one entry more
later : (past : List (Entry ServerNote)) (e : Entry ServerNote) (k : ℕ) (x : Entry ServerNote)
    → slice_get (past_of past) k ≡ Some x → slice_get (past_of (e ∷ past)) k ≡ Some x
later past e k x h = ap (λ (es : List (Entry ServerNote)). slice_get es k)
    (reverse-append (e ∷ []) past) ∙ get_first (past_of past) (e ∷ []) k x h

latest : (past : List (Entry ServerNote)) (e : Entry ServerNote)
    → slice_get (past_of (e ∷ past)) (length past) ≡ Some e
latest past e =
    ap (λ (es : List (Entry ServerNote)). slice_get es (length past)) (reverse-append (e ∷ []) past)
    ∙ ap (λ (k : ℕ). slice_get (past_of past ++ e ∷ []) k) (sym (length-reverse past))
    ∙ get_last (past_of past) e

begins : (handles most : ℕ) (past : List (Entry ServerNote)) (event : ℕ) → is_legal most past ≡ true
    → was_started past event ≡ true → Begins handles past event
begins handles most [] event legal h = absurd (false≢true h)
begins handles most (Started i ∷ past) event legal h =
    let e : Entry ServerNote = Started i in
    let n = length (tables handles past).lanes in
    let parts : (may_follow most past e ≡ true) × (is_legal most past ≡ true) =
    and_parts _ _ legal in
    let lanes : n ≡ length past = lanes_counted handles past in
    let counted : length (tables handles past).starts ≡ length past = starts_counted handles past in
    ⊎_elim
    (λ (q : i ≡ event).
    let inside : event < length past =
    event_at-within past event (able_is_event past event
    (started_is_able most past e event parts.0 (eq-eqb i event q))) in
    let new : Stands (start_set event n (tables handles past).starts) event n =
    set_stands event n (tables handles past).starts (omega arith) in
    let this : slice_get (past_of (e ∷ past)) n ≡ Some e =
    ap (λ (k : ℕ). slice_get (past_of (e ∷ past)) k) lanes ∙ latest past e in
    record {
      start = n;
      stands = stands_first (start_set i n (tables handles past).starts) (n ∷ []) event n
          (subst (λ (j : ℕ). Stands (start_set j n (tables handles past).starts) event n) (sym q)
          new);
      is = this ∙ ap (λ (j : ℕ). Some (Started j)) q;
    })
    (λ (q : i ≢ event).
    let old : was_started past event ≡ true =
    sym (ap (λ (b : Bool). b || list_any (starts event) past) (ne_eqb i event q)) ∙ h in
    let before = begins handles most past event parts.1 old in
    record {
      start = before.start;
      stands = stands_first (start_set i n (tables handles past).starts) (n ∷ []) event before.start
          (set_other i n (tables handles past).starts event before.start (λ same. q (sym same))
          before.stands);
      is = later past e before.start (Started event) before.is;
    })
    (cases_eq i event)
begins handles most (e ∷ past) event legal h =
    let before = begins handles most past event (and_parts _ _ legal).1 h in
    record {
      start = before.start;
      stands = stands_first (tables handles past).starts (length (tables handles past).lanes ∷ [])
          event before.start before.stands;
      is = later past e before.start (Started event) before.is;
    }

pub begins_at_its_start : BeginsAtItsStart
begins_at_its_start = λ handles most event answer note before legal started.
    let b = begins handles most (past_of before) event legal started in
    ap (λ (k : ℕ). slice_get before k)
    (number_there (tables handles (past_of before)).starts event b.start event b.stands)
    ∙ sym (ap (λ (es : List (Entry ServerNote)). slice_get es b.start) (reverse-reverse before))
    ∙ b.is
