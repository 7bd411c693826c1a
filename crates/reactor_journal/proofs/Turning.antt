-- A journal and its past.
use Rattle.std.proofs.Common.{ℕ, suc, ◌≡◌, ◌+◌, Bool, true, false, List, [], ◌∷◌, ◌++◌, length}
use Rattle.std.proofs.Common.{refl, sym, ap, ◌∙◌, subst, arith, cond, append_assoc, take, get_or}
use Rattle.std.proofs.Common.{◌<◌}
use Rattle.std.proofs.lemmas.Bool.{and_parts, and_from}
use Rattle.std.proofs.lemmas.List.{reverse-append, take_more}
use Rattle.std.proofs.Math.Seq.{take-length}
use Rattle.reactor_journal.specs.declared.entry.Entry.{Entry}
use Rattle.reactor_journal.specs.Past.{past_of, count}
use Rattle.reactor_journal.specs.Follow.{Legal, is_legal, may_follow}

-- one more entry at the end is the first of the past
pub past_of-more : {N : Type 0} (journal : List (Entry N)) (e : Entry N)
    → past_of (journal ++ e ∷ []) ≡ e ∷ past_of journal
past_of-more journal e = reverse-append journal (e ∷ [])

pub past_of-append : {N : Type 0} (journal more : List (Entry N))
    → past_of (journal ++ more) ≡ past_of more ++ past_of journal
past_of-append journal more = reverse-append journal more

pub Legal-more : {N : Type 0} (journal : List (Entry N)) (e : Entry N) (most : ℕ)
    → Legal journal most → may_follow most (past_of journal) e ≡ true
    → Legal (journal ++ e ∷ []) most
Legal-more journal e most legal may =
    subst (λ p. is_legal most p ≡ true) (sym (past_of-more journal e)) (and_from _ _ may legal)

pub Legal-last : {N : Type 0} (journal : List (Entry N)) (e : Entry N) (most : ℕ)
    → Legal (journal ++ e ∷ []) most → (may_follow most (past_of journal) e ≡ true)
    × (Legal journal most)
Legal-last journal e most legal = and_parts _ _
    (subst (λ p. is_legal most p ≡ true) (past_of-more journal e) legal)

pub is_legal-front : {N : Type 0} (most : ℕ) (later past : List (Entry N))
    → is_legal most (later ++ past) ≡ true → is_legal most past ≡ true
is_legal-front most [] past legal = legal
is_legal-front most (e ∷ later) past legal = is_legal-front most later past (and_parts _ _ legal).1

-- each front of a legal journal is legal
pub Legal-front : {N : Type 0} (journal more : List (Entry N)) (most : ℕ)
    → Legal (journal ++ more) most → Legal journal most
Legal-front journal more most legal =
    is_legal-front most (past_of more) (past_of journal)
    (subst (λ p. is_legal most p ≡ true) (past_of-append journal more) legal)

pub count-append : {A : Type 0} (p : A → Bool) (xs ys : List A)
    → count p (xs ++ ys) ≡ count p xs + count p ys
count-append p [] ys = omega arith
count-append p (x ∷ xs) ys = cases (p x) (count-append p xs ys)
  where
    cases : (b : Bool) → count p (xs ++ ys) ≡ count p xs + count p ys
        → ◌≡◌ {A = ℕ} (cond b (suc (count p (xs ++ ys))) (count p (xs ++ ys)))
        (cond b (suc (count p xs)) (count p xs) + count p ys)
    cases true h = omega arith
    cases false h = h

pub count-past : {N : Type 0} (p : Entry N → Bool) (journal : List (Entry N))
    → count p (past_of journal) ≡ count p journal
count-past p [] = refl
count-past p (e ∷ journal) =
    let turned : past_of (e ∷ journal) ≡ past_of journal ++ e ∷ [] =
    reverse-append (e ∷ []) journal in
    let sum : count p (past_of (e ∷ journal)) ≡ count p (past_of journal) + count p (e ∷ []) =
    ap (count p) turned ∙ count-append p (past_of journal) (e ∷ []) in
    let one : count p (e ∷ journal) ≡ count p (e ∷ []) + count p journal =
    count-append p (e ∷ []) journal in
    let rest : count p (past_of journal) ≡ count p journal = count-past p journal in
    omega arith

pub past_split : {N : Type 0} (before after : List (Entry N)) (e : Entry N)
    → past_of (before ++ e ∷ after) ≡ past_of after ++ (e ∷ past_of before)
past_split before after e =
    reverse-append before (e ∷ after) ∙ (ap (λ p. p ++ past_of before)
    (reverse-append (e ∷ []) after) ∙ append_assoc (past_of after) (e ∷ []) (past_of before))

-- the first i + 1 entries, for a loop
pub past_more : {N : Type 0} (journal : List (Entry N)) (i : ℕ) (d : Entry N) → i < length journal
    → past_of (take (i + 1) journal) ≡ get_or journal i d ∷ past_of (take i journal)
past_more journal i d lt = ap past_of (take_more journal i d lt)
    ∙ past_of-more (take i journal) (get_or journal i d)

pub past_all : {N : Type 0} (journal : List (Entry N))
    → past_of (take (length journal) journal) ≡ past_of journal
past_all journal = ap past_of (take-length journal)

-- for a function that appends an entry
pub ruleset appending = (past_of-more, Legal-more)
