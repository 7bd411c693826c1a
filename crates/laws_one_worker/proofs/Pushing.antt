-- Entries that a call appends, one by one, to the past.
use Rattle.std.proofs.Common.{ℕ, ◌≡◌, ◌∙◌, Bool, true, false, ◌||◌, List, [], ◌∷◌, ◌++◌, refl, sym}
use Rattle.std.proofs.Common.{ap, append-nil, append_assoc}
use Rattle.std.specs.List.{list_any, list_all}
use Rattle.std.proofs.lemmas.Bool.{or_from, and_parts, or_parts, both_ways}
use Rattle.std.proofs.lemmas.List.{reverse-append}
use Rattle.laws_script_calls.specs.reactor_journal.specs.declared.entry.Entry.{Entry}
use Rattle.laws_script_calls.specs.reactor_journal.specs.Past.{past_of}
use Rattle.laws_script_calls.specs.reactor_journal.specs.Follow.{is_legal, may_follow}
use Rattle.laws_script_calls.specs.laws_script_runs.specs.Steps.{EachStep}

-- the past with these entries after it
abbrev pub pushed : {N : Type 0} → List (Entry N) → List (Entry N) → List (Entry N)
pushed past [] = past
pushed past (e ∷ es) = pushed (e ∷ past) es

pub past_one : {N : Type 0} (h : List (Entry N)) (e : Entry N)
    → past_of (h ++ e ∷ []) ≡ e ∷ past_of h
past_one h e = reverse-append h (e ∷ [])

pub past_pushed : {N : Type 0} (h es : List (Entry N)) → past_of (h ++ es) ≡ pushed (past_of h) es
past_pushed h [] = ap past_of (append-nil h)
past_pushed h (e ∷ es) = ap past_of (sym (append_assoc h (e ∷ []) es))
    ∙ past_pushed (h ++ e ∷ []) es ∙ ap (λ (p : List (Entry _)). pushed p es) (past_one h e)

pub pushed_more : {N : Type 0} (past xs ys : List (Entry N))
    → pushed past (xs ++ ys) ≡ pushed (pushed past xs) ys
pushed_more past [] ys = refl
pushed_more past (x ∷ xs) ys = pushed_more (x ∷ past) xs ys

-- each of the entries is so, after the past and the entries before it
abbrev pub EachPushed : {N : Type 0} → (List (Entry N) → Entry N → Type 0) → List (Entry N)
    → List (Entry N) → Type 0
EachPushed P past [] = Unit {0}
EachPushed P past (e ∷ es) = P past e × EachPushed P (e ∷ past) es

pub each_pushed : {N : Type 0} (P : List (Entry N) → Entry N → Type 0) (past es : List (Entry N))
    → EachStep P past → EachPushed P past es → EachStep P (pushed past es)
each_pushed P past [] each new = each
each_pushed P past (e ∷ es) each new = each_pushed P (e ∷ past) es (new.0, each) new.1

-- if each entry is so, each is so in another way
pub each_map : {N : Type 0} (P Q : List (Entry N) → Entry N → Type 0)
    → ((past : List (Entry N)) (e : Entry N) → P past e → Q past e) → (past : List (Entry N))
    → EachStep P past → EachStep Q past
each_map P Q f [] each = tt
each_map P Q f (e ∷ past) each = (f past e each.0, each_map P Q f past each.1)

-- what holds at each place of the past
pub each_place : {N : Type 0} (Q : List (Entry N) → Entry N → Type 0)
    (whole later past : List (Entry N)) → whole ≡ later ++ past
    → ((later : List (Entry N)) (e : Entry N) (before : List (Entry N))
    → whole ≡ later ++ e ∷ before → Q before e) → EachStep Q past
each_place Q whole later [] is at = tt
each_place Q whole later (e ∷ past) is at = (
  at later e past is,
  each_place Q whole (later ++ e ∷ []) past
      (is ∙ sym (append_assoc later (e ∷ []) past)) at,
)

-- a pushed past is legal only if the past before is
pub legal_before : {N : Type 0} (most : ℕ) (past es : List (Entry N))
    → is_legal most (pushed past es) ≡ true → is_legal most past ≡ true
legal_before most past [] legal = legal
legal_before most past (e ∷ es) legal =
    (and_parts (may_follow most past e) (is_legal most past)
    (legal_before most (e ∷ past) es legal)).1

-- a test that no entry of a pushed past passes
pub none_before : {N : Type 0} (p : Entry N → Bool) (past es : List (Entry N))
    → list_any p (pushed past es) ≡ false → list_any p past ≡ false
none_before p past [] h = h
none_before p past (e ∷ es) h = (or_parts (p e) (list_any p past) (none_before p (e ∷ past) es h)).1

pub none_pushed : {N : Type 0} (p : Entry N → Bool) (past es : List (Entry N))
    → list_any p (pushed past es) ≡ false → list_any p es ≡ false
none_pushed p past [] h = refl
none_pushed p past (e ∷ es) h =
    ap (λ (b : Bool). b || list_any p es)
    (or_parts (p e) (list_any p past) (none_before p (e ∷ past) es h)).0
    ∙ none_pushed p (e ∷ past) es h

-- entries that all pass a test that none passes are none
pub none_at_all : {A : Type 0} (p q : A → Bool) → ((a : A) → p a ≡ true → q a ≡ true)
    → (xs : List A) → list_all p xs ≡ true → list_any q xs ≡ false → xs ≡ []
none_at_all p q same [] all none = refl
none_at_all p q same (x ∷ xs) all none =
    absurd (both_ways (q x) (or_parts (q x) (list_any q xs) none).0
    (same x (and_parts (p x) (list_all p xs) all).0))

-- a test that no entry of the past passes, by its place
pub none_placed : {N : Type 0} (p : Entry N → Bool) (whole later past : List (Entry N))
    → whole ≡ later ++ past → ((later : List (Entry N)) (e : Entry N) (before : List (Entry N))
    → whole ≡ later ++ e ∷ before → p e ≡ false)
    → list_any p past ≡ false
none_placed p whole later [] is at = refl
none_placed p whole later (e ∷ past) is at =
    or_from _ _ (at later e past is) (none_placed p whole (later ++ e ∷ []) past
    (is ∙ sym (append_assoc later (e ∷ []) past)) at)
