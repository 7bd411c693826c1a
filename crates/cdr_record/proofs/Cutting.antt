-- What a list that goes on is read as: first what it was read as before, and then what is left with
-- the rest.
use Rattle.std.proofs.Common.{◌≡◌, ◌≤◌, ◌<◌, ℕ, zero, suc, ◌+◌, List, [], ◌∷◌, ◌++◌, length, drop}
use Rattle.std.proofs.Common.{refl, sym, ◌∙◌, ap, arith}
use Rattle.std.proofs.lemmas.List.{length-append, length-drop, drop-append-le}
use Rattle.cdr_record.specs.declared.grammar.First.{First}
use Rattle.cdr_record.specs.declared.grammar.First.TheVariants.{More, Bad, One}
use Rattle.cdr_record.specs.Grammar.{first_of, record_in}
use Rattle.cdr_record.specs.Decoding.{records_within, left_within, records_of, left_of, taken_of}
use Rattle.cdr_record.proofs.Growing.{first_one, one_within, one_stays, record_in-append}

-- no record stands first
abbrev pub Stops : First → Type 0
Stops (One n) = ⊥
Stops _ = Unit {0}

pub first_nil : first_of [] ≡ More
unfolding first_of
first_nil = refl

-- ---- one step

records_within-one : (k n : ℕ) (t : List ℕ) → first_of t ≡ One n
    → records_within (suc k) t ≡ record_in t ∷ records_within k (drop n t)
records_within-one k n t e = rw (e, records_within) refl

left_within-one : (k n : ℕ) (t : List ℕ) → first_of t ≡ One n
    → left_within (suc k) t ≡ left_within k (drop n t)
left_within-one k n t e = rw (e, left_within) refl

records_within-stop : (k : ℕ) (t : List ℕ) (v : First) → first_of t ≡ v → Stops v
    → records_within (suc k) t ≡ []
records_within-stop k t More e s = rw (e, records_within) refl
records_within-stop k t (Bad w) e s = rw (e, records_within) refl
records_within-stop k t (One n) e s = absurd s

left_within-stop : (k : ℕ) (t : List ℕ) (v : First) → first_of t ≡ v → Stops v
    → left_within (suc k) t ≡ t
left_within-stop k t More e s = rw (e, left_within) refl
left_within-stop k t (Bad w) e s = rw (e, left_within) refl
left_within-stop k t (One n) e s = absurd s

-- ---- as many turns as there are bytes are enough

-- after a record fewer bytes are left
pub fewer : (t : List ℕ) (n k : ℕ) → first_of t ≡ One n → length t ≤ suc k → length (drop n t) ≤ k
fewer t n k e h = let w = one_within t n e in omega (arith, length-drop n t, w.0, w.1)

-- the reading of the rest does not depend on the turns
pub record SameReading (j k : ℕ) (t : List ℕ) : Type 0 where
  pub records : records_within j t ≡ records_within k t
  pub left : left_within j t ≡ left_within k t

same_by_first : (j k : ℕ) (t : List ℕ) (v : First) → first_of t ≡ v
    → ((n : ℕ) → first_of t ≡ One n → SameReading j k (drop n t)) → SameReading (suc j) (suc k) t
same_by_first j k t More e go = record {
  records = records_within-stop j t More e tt ∙ sym (records_within-stop k t More e tt);
  left = left_within-stop j t More e tt ∙ sym (left_within-stop k t More e tt);
}
same_by_first j k t (Bad w) e go = record {
  records = records_within-stop j t (Bad w) e tt ∙ sym (records_within-stop k t (Bad w) e tt);
  left = left_within-stop j t (Bad w) e tt ∙ sym (left_within-stop k t (Bad w) e tt);
}
same_by_first j k t (One n) e go =
    let rest = go n e in
    record {
      records = records_within-one j n t e ∙ ap (λ rs. record_in t ∷ rs) rest.records
          ∙ sym (records_within-one k n t e);
      left = left_within-one j n t e ∙ rest.left ∙ sym (left_within-one k n t e);
    }

nothing_within : (k : ℕ) → SameReading zero k []
nothing_within zero = record { records = refl; left = refl }
nothing_within (suc k) = record {
  records = sym (records_within-stop k [] More first_nil tt);
  left = sym (left_within-stop k [] More first_nil tt);
}

nothing_within' : (k : ℕ) → SameReading k zero []
nothing_within' k = let s = nothing_within k in
    record { records = sym s.records; left = sym s.left }

pub same_turns : (j k : ℕ) (t : List ℕ) → length t ≤ j → length t ≤ k → SameReading j k t
same_turns zero k [] hj hk = nothing_within k
same_turns zero k (x ∷ t) hj hk = absurd (omega arith)
same_turns (suc j) zero [] hj hk = nothing_within' (suc j)
same_turns (suc j) zero (x ∷ t) hj hk = absurd (omega arith)
same_turns (suc j) (suc k) t hj hk =
    same_by_first j k t (first_of t) refl
    (λ n e. same_turns j k (drop n t) (fewer t n j e hj) (fewer t n k e hk))

-- ---- the step without turns

one_is_some : (n : ℕ) (t : List ℕ) → first_of t ≡ One n → 0 < length t
one_is_some n t e = let w = one_within t n e in omega (arith, w.0, w.1)

pub record StepsOver (t : List ℕ) (n : ℕ) : Type 0 where
  pub records : records_of t ≡ record_in t ∷ records_of (drop n t)
  pub left : left_of t ≡ left_of (drop n t)

pub steps_over : (t : List ℕ) (n : ℕ) → first_of t ≡ One n → StepsOver t n
unfolding records_of left_of
steps_over [] n e = let l = one_is_some n [] e in absurd (omega (arith, l))
steps_over (x ∷ t) n e =
    let small = fewer (x ∷ t) n (length t) e (omega arith) in
    let same = same_turns (length t) (length (drop n (x ∷ t))) (drop n (x ∷ t)) small (omega arith)
    in
    record {
      records = records_within-one (length t) n (x ∷ t) e
          ∙ ap (λ rs. record_in (x ∷ t) ∷ rs) same.records;
      left = left_within-one (length t) n (x ∷ t) e ∙ same.left;
    }

pub record StopsAt (t : List ℕ) : Type 0 where
  pub records : records_of t ≡ []
  pub left : left_of t ≡ t

pub stops_at : (t : List ℕ) (v : First) → first_of t ≡ v → Stops v → StopsAt t
unfolding records_of left_of
stops_at [] v e s = record { records = refl; left = refl }
stops_at (x ∷ t) v e s = record {
  records = records_within-stop (length t) (x ∷ t) v e s;
  left = left_within-stop (length t) (x ∷ t) v e s;
}

-- ---- what is left, and what goes on

-- nothing more can be taken off what is left, which is no longer than the list
pub record IsLeft (t left : List ℕ) : Type 0 where
  pub stops : Stops (first_of left)
  pub within : length left ≤ length t

left_by_first : (t : List ℕ) (v : First) → first_of t ≡ v
    → ((n : ℕ) → first_of t ≡ One n → IsLeft (drop n t) (left_of (drop n t))) → IsLeft t (left_of t)
left_by_first t More e go = let s = stops_at t More e tt in
    rw s.left (record { stops = rw e tt; within = omega arith })
left_by_first t (Bad w) e go = let s = stops_at t (Bad w) e tt in
    rw s.left (record { stops = rw e tt; within = omega arith })
left_by_first t (One n) e go =
    let s = steps_over t n e in
    let rest = go n e in
    rw s.left (record { stops = rest.stops; within = omega (arith, rest.within, length-drop n t) })

left_in_turns : (k : ℕ) (t : List ℕ) → length t ≤ k → IsLeft t (left_of t)
left_in_turns zero [] h = let s = stops_at [] More first_nil tt in
    rw s.left (record { stops = rw first_nil tt; within = omega arith })
left_in_turns zero (x ∷ t) h = absurd (omega arith)
left_in_turns (suc k) t h = left_by_first t (first_of t) refl
    (λ n e. left_in_turns k (drop n t) (fewer t n k e h))

pub is_left : (t : List ℕ) → IsLeft t (left_of t)
is_left t = left_in_turns (length t) t (omega arith)

-- the list with more after it is read on from what was left of it
pub record GoesOn (t u : List ℕ) : Type 0 where
  pub records : records_of (t ++ u) ≡ records_of t ++ records_of (left_of t ++ u)
  pub left : left_of (t ++ u) ≡ left_of (left_of t ++ u)

-- the record at the front stays
pub one_goes_on : (t u : List ℕ) (n : ℕ) → first_of t ≡ One n → record_in (t ++ u) ≡ record_in t
one_goes_on t u n e =
    let w = (first_one t n e).0 in
    record_in-append t u (omega (arith, w.whole, w.least)) (omega (arith, w.whole, w.least, w.room))

goes_on_by_first : (t u : List ℕ) (v : First) → first_of t ≡ v
    → ((n : ℕ) → first_of t ≡ One n → GoesOn (drop n t) u) → GoesOn t u
goes_on_by_first t u More e go = let s = stops_at t More e tt in
    record { records = rw (s.records, s.left) refl; left = rw s.left refl }
goes_on_by_first t u (Bad w) e go = let s = stops_at t (Bad w) e tt in
    record { records = rw (s.records, s.left) refl; left = rw s.left refl }
goes_on_by_first t u (One n) e go =
    let s = steps_over t n e in
    let grown = steps_over (t ++ u) n (one_stays t u n e) in
    let rest = go n e in
    let cut : drop n (t ++ u) ≡ drop n t ++ u = drop-append-le n t u (one_within t n e).1 in
    record {
      records = grown.records ∙ rw (one_goes_on t u n e, cut, rest.records, s.records, s.left) refl;
      left = grown.left ∙ rw (cut, rest.left, s.left) refl;
    }

goes_on_in_turns : (k : ℕ) (t u : List ℕ) → length t ≤ k → GoesOn t u
goes_on_in_turns zero [] u h = let s = stops_at [] More first_nil tt in
    record { records = rw (s.records, s.left) refl; left = rw s.left refl }
goes_on_in_turns zero (x ∷ t) u h = absurd (omega arith)
goes_on_in_turns (suc k) t u h = goes_on_by_first t u (first_of t) refl
    (λ n e. goes_on_in_turns k (drop n t) u (fewer t n k e h))

pub goes_on : (t u : List ℕ) → GoesOn t u
goes_on t u = goes_on_in_turns (length t) t u (omega arith)

-- the bytes that the records take, all in all
pub taken_of-append : (t u : List ℕ) → taken_of (t ++ u) ≡ taken_of t + taken_of (left_of t ++ u)
taken_of-append t u =
    let all = ap length ((goes_on t u).left) in
    let before = (is_left t).within in
    let after = (is_left (left_of t ++ u)).within in
    omega (arith, all, before, after, length-append t u, length-append (left_of t) u)
