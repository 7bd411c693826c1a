-- How the story of a connection is made in a script: pieces with their pauses, and then nothing,
-- the end or a failure.
use Rattle.std.proofs.Common.{◌≡◌, ◌∙◌, ◌+◌, ◌||◌, ℕ, arith, Bool, true, false, not, cond, List, []}
use Rattle.std.proofs.Common.{◌∷◌, ◌++◌, length, refl, sym, ap, subst}
use Rattle.std.proofs.lemmas.Bool.{or_parts, not-true, cond-false}
use Rattle.std.specs.List.{list_any}
use Rattle.event_script.specs.ev_base.specs.Story.{Part, Piece, Pausing, Ending, Failing}
use Rattle.event_script.specs.Script.{ScriptStep, Opens, Brings, Shuts, Fails, ListenerFails, is_of}
use Rattle.event_script.specs.Script.{shuts, fails}
use Rattle.event_script.specs.Stories.{story, parts_of, bytes_of, bytes_brought, was_shut}
use Rattle.event_script.specs.Stories.{has_failed}
use Rattle.laws_script_turns.specs.Laws.{steps_on, is_orderly}
use Rattle.laws_script_turns.proofs.Parts.{bytes_in, paired}

pub data Tail : Type 0 where
  OpenTail : Tail
  ShutTail : Tail
  FailTail : Tail

abbrev pub tail_parts : Tail → List Part
tail_parts OpenTail = []
tail_parts ShutTail = Ending ∷ []
tail_parts FailTail = Failing ∷ []

abbrev pub is_shut : Tail → Bool
is_shut ShutTail = true
is_shut _ = false

abbrev pub is_failed : Tail → Bool
is_failed FailTail = true
is_failed _ = false

pub record Shape (parts : List Part) (bytes : List ℕ) (shut failed : Bool) (count : ℕ) : Type 0
  where
    pub pieces : List (List ℕ)
    pub tail : Tail
    pub is : parts ≡ paired pieces ++ tail_parts tail
    pub brought : bytes ≡ bytes_in (paired pieces)
    pub was_shut : shut ≡ is_shut tail
    pub has_failed : failed ≡ is_failed tail
    pub counts : count ≡ length pieces + length (tail_parts tail)

-- a script that has no step of the connection
record Nothing (c : ℕ) (steps : List ScriptStep) : Type 0 where
  story : story c steps ≡ []
  bytes : bytes_of c steps ≡ []
  shut : was_shut c steps ≡ false
  failed : has_failed c steps ≡ false
  count : steps_on c steps ≡ 0

record NothingOne (c : ℕ) (step : ScriptStep) : Type 0 where
  parts : parts_of c step ≡ []
  bytes : bytes_brought c step ≡ []
  shut : shuts c step ≡ false
  failed : fails c step ≡ false

nothing_one : (c : ℕ) (step : ScriptStep) → is_of c step ≡ false → NothingOne c step
nothing_one c (Opens conn) h = record { parts = refl; bytes = refl; shut = refl; failed = refl }
nothing_one c (Brings conn bytes) h =
    record { parts = cond-false _ _ _ h; bytes = cond-false _ _ _ h; shut = refl; failed = refl }
nothing_one c (Shuts conn) h = record {
  parts = cond-false _ _ _ h;
  bytes = refl;
  shut = h;
  failed = refl;
}
nothing_one c (Fails conn) h = record {
  parts = cond-false _ _ _ h;
  bytes = refl;
  shut = refl;
  failed = h;
}
nothing_one c ListenerFails h = record { parts = refl; bytes = refl; shut = refl; failed = refl }

nothing : (c : ℕ) (steps : List ScriptStep) → list_any (is_of c) steps ≡ false → Nothing c steps
nothing c [] h = record { story = refl; bytes = refl; shut = refl; failed = refl; count = refl }
nothing c (step ∷ steps) h =
    let parts : (is_of c step ≡ false) × (list_any (is_of c) steps ≡ false) = or_parts _ _ h in
    let one = nothing_one c step parts.0 in
    let rest = nothing c steps parts.1 in
    record {
      story = ap (λ (x : List Part). x ++ story c steps) one.parts ∙ rest.story;
      bytes = ap (λ (x : List ℕ). x ++ bytes_of c steps) one.bytes ∙ rest.bytes;
      shut = ap (λ (b : Bool). b || was_shut c steps) one.shut ∙ rest.shut;
      failed = ap (λ (b : Bool). b || has_failed c steps) one.failed ∙ rest.failed;
      count = ap (λ (n : ℕ). n + steps_on c steps) (cond-false (is_of c step) 1 0 parts.0)
          ∙ zero_more (steps_on c steps) ∙ rest.count;
    }
  where
    zero_more : (n : ℕ) → 0 + n ≡ n
    zero_more n = omega arith

zero_plus : (n : ℕ) → 0 + n ≡ n
zero_plus n = omega arith

brings : (b : Bool) (piece : List ℕ) (parts : List Part) (bytes : List ℕ) (shut failed : Bool)
    (count : ℕ) → Shape parts bytes shut failed count
    → Shape (cond b (Piece piece ∷ Pausing ∷ []) [] ++ parts) (cond b piece [] ++ bytes) shut failed
    (cond b 1 0 + count)
brings true piece parts bytes shut failed count s = record {
  pieces = piece ∷ s.pieces;
  tail = s.tail;
  is = ap (λ (x : List Part). Piece piece ∷ Pausing ∷ x) s.is;
  brought = ap (λ (x : List ℕ). piece ++ x) s.brought;
  was_shut = s.was_shut;
  has_failed = s.has_failed;
  counts = omega (arith, s.counts);
}
brings false piece parts bytes shut failed count s =
    subst (Shape parts bytes shut failed) (sym (zero_plus count)) s

shutting : (c conn : ℕ) (steps : List ScriptStep) (b : Bool)
    → cond b (not (list_any (is_of c) steps)) (is_orderly c steps) ≡ true
    → (is_orderly c steps ≡ true → Shape (story c steps) (bytes_of c steps) (was_shut c steps)
    (has_failed c steps) (steps_on c steps))
    → Shape (cond b (Ending ∷ []) [] ++ story c steps) (bytes_of c steps) (b || was_shut c steps)
    (has_failed c steps) (cond b 1 0 + steps_on c steps)
shutting c conn steps true orderly more =
    let none = nothing c steps (not-true _ orderly) in
    record {
      pieces = [];
      tail = ShutTail;
      is = ap (λ (x : List Part). Ending ∷ x) none.story;
      brought = none.bytes;
      was_shut = refl;
      has_failed = none.failed;
      counts = omega (arith, none.count);
    }
shutting c conn steps false orderly more =
    subst (Shape (story c steps) (bytes_of c steps) (was_shut c steps) (has_failed c steps))
    (sym (zero_plus (steps_on c steps))) (more orderly)

failing : (c conn : ℕ) (steps : List ScriptStep) (b : Bool)
    → cond b (not (list_any (is_of c) steps)) (is_orderly c steps) ≡ true
    → (is_orderly c steps ≡ true → Shape (story c steps) (bytes_of c steps) (was_shut c steps)
    (has_failed c steps) (steps_on c steps))
    → Shape (cond b (Failing ∷ []) [] ++ story c steps) (bytes_of c steps) (was_shut c steps)
    (b || has_failed c steps) (cond b 1 0 + steps_on c steps)
failing c conn steps true orderly more =
    let none = nothing c steps (not-true _ orderly) in
    record {
      pieces = [];
      tail = FailTail;
      is = ap (λ (x : List Part). Failing ∷ x) none.story;
      brought = none.bytes;
      was_shut = none.shut;
      has_failed = refl;
      counts = omega (arith, none.count);
    }
failing c conn steps false orderly more =
    subst (Shape (story c steps) (bytes_of c steps) (was_shut c steps) (has_failed c steps))
    (sym (zero_plus (steps_on c steps))) (more orderly)

pub shape : (c : ℕ) (steps : List ScriptStep) → is_orderly c steps ≡ true
    → Shape (story c steps) (bytes_of c steps) (was_shut c steps) (has_failed c steps)
    (steps_on c steps)
shape c [] o = record {
  pieces = [];
  tail = OpenTail;
  is = refl;
  brought = refl;
  was_shut = refl;
  has_failed = refl;
  counts = refl;
}
shape c (Opens conn ∷ steps) o = subst
    (Shape (story c steps) (bytes_of c steps) (was_shut c steps) (has_failed c steps))
    (sym (zero_plus (steps_on c steps))) (shape c steps o)
shape c (ListenerFails ∷ steps) o =
    subst (Shape (story c steps) (bytes_of c steps) (was_shut c steps) (has_failed c steps))
    (sym (zero_plus (steps_on c steps))) (shape c steps o)
shape c (Brings conn bytes ∷ steps) o = brings _ bytes _ _ _ _ _ (shape c steps o)
shape c (Shuts conn ∷ steps) o = shutting c conn steps _ o (shape c steps)
shape c (Fails conn ∷ steps) o = failing c conn steps _ o (shape c steps)
