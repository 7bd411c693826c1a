-- The bytes of the story that a script has of a connection, and where the connection was shut or
-- failed in it.
use Rattle.std.proofs.Common.{◌≡◌, ◌==◌, ◌∙◌, ◌||◌, ℕ, Bool, true, false, cond, List, [], ◌∷◌, ◌++◌}
use Rattle.std.proofs.Common.{refl, sym, ap, append-nil}
use Rattle.std.specs.List.{list_any}
use Rattle.std.proofs.lemmas.List.Folds.{list_any-append}
use Rattle.event_script.specs.ev_base.specs.Story.{Part, Piece, Pausing, Ending, Failing}
use Rattle.acceptor.specs.log_handler.specs.Connection.{Progress}
use Rattle.event_script.specs.Script.{ScriptStep, Opens, Brings, Shuts, Fails, ListenerFails, shuts}
use Rattle.event_script.specs.Script.{fails}
use Rattle.event_script.specs.Stories.{story, parts_of, bytes_of, bytes_brought, was_shut}
use Rattle.event_script.specs.Stories.{has_failed}
use Rattle.laws_script_turns.proofs.Parts.{bytes_in, bytes_in-append}
use Rattle.laws_script_turns.proofs.Reading.{StopsAt}

-- ---- bytes

piece_bytes : (b : Bool) (bytes : List ℕ)
    → bytes_in (cond b (Piece bytes ∷ Pausing ∷ []) []) ≡ cond b bytes []
piece_bytes true bytes = append-nil bytes
piece_bytes false bytes = refl

no_bytes : (b : Bool) (part : Part) → bytes_in (part ∷ []) ≡ []
    → bytes_in (cond b (part ∷ []) []) ≡ []
no_bytes true part none = none
no_bytes false part none = refl

step_bytes : (c : ℕ) (step : ScriptStep) → bytes_in (parts_of c step) ≡ bytes_brought c step
step_bytes c (Opens conn) = refl
step_bytes c (Brings conn bytes) = piece_bytes (conn == c) bytes
step_bytes c (Shuts conn) = no_bytes (conn == c) Ending refl
step_bytes c (Fails conn) = no_bytes (conn == c) Failing refl
step_bytes c ListenerFails = refl

pub story_bytes : (c : ℕ) (steps : List ScriptStep) → bytes_in (story c steps) ≡ bytes_of c steps
story_bytes c [] = refl
story_bytes c (step ∷ steps) =
    bytes_in-append (parts_of c step) (story c steps)
    ∙ ap (λ (t : List ℕ). t ++ bytes_in (story c steps)) (step_bytes c step)
    ∙ ap (λ (t : List ℕ). bytes_brought c step ++ t) (story_bytes c steps)

-- ---- the steps that shut it and fail it

abbrev is_ending : Part → Bool
is_ending Ending = true
is_ending _ = false

abbrev is_failing : Part → Bool
is_failing Failing = true
is_failing _ = false

none_such : (p : Part → Bool) (parts : List Part) → list_any p parts ≡ false → (b : Bool)
    → list_any p (cond b parts []) ≡ false
none_such p parts none true = none
none_such p parts none false = refl

one_such : (p : Part → Bool) (part : Part) → p part ≡ true → (b : Bool)
    → list_any p (cond b (part ∷ []) []) ≡ b
one_such p part is true = ap (λ (b : Bool). b || false) is
one_such p part is false = refl

step_shuts : (c : ℕ) (step : ScriptStep) → list_any is_ending (parts_of c step) ≡ shuts c step
step_shuts c (Opens conn) = refl
step_shuts c (Brings conn bytes) = none_such is_ending (Piece bytes ∷ Pausing ∷ []) refl (conn == c)
step_shuts c (Shuts conn) = one_such is_ending Ending refl (conn == c)
step_shuts c (Fails conn) = none_such is_ending (Failing ∷ []) refl (conn == c)
step_shuts c ListenerFails = refl

step_fails : (c : ℕ) (step : ScriptStep) → list_any is_failing (parts_of c step) ≡ fails c step
step_fails c (Opens conn) = refl
step_fails c (Brings conn bytes) =
    none_such is_failing (Piece bytes ∷ Pausing ∷ []) refl (conn == c)
step_fails c (Shuts conn) = none_such is_failing (Ending ∷ []) refl (conn == c)
step_fails c (Fails conn) = one_such is_failing Failing refl (conn == c)
step_fails c ListenerFails = refl

story_any : (p : Part → Bool) (q : ScriptStep → Bool) (c : ℕ)
    → ((step : ScriptStep) → list_any p (parts_of c step) ≡ q step) → (steps : List ScriptStep)
    → list_any p (story c steps) ≡ list_any q steps
story_any p q c one [] = refl
story_any p q c one (step ∷ steps) =
    list_any-append p (parts_of c step) (story c steps)
    ∙ ap (λ (b : Bool). b || list_any p (story c steps)) (one step)
    ∙ ap (λ (b : Bool). q step || b) (story_any p q c one steps)

or_true : (b : Bool) → (b || true) ≡ true
or_true true = refl
or_true false = refl

stands_in : (p : Part → Bool) (given : List Part) (part : Part) (rest : List Part) → p part ≡ true
    → list_any p (given ++ part ∷ rest) ≡ true
stands_in p given part rest is = list_any-append p given (part ∷ rest)
    ∙ ap (λ (b : Bool). list_any p given || (b || list_any p rest)) is ∙ or_true (list_any p given)

pub shut_there : (c : ℕ) (steps : List ScriptStep) (p : Progress) → StopsAt Ending (story c steps) p
    → was_shut c steps ≡ true
shut_there c steps p stops = sym (story_any is_ending (shuts c) c (step_shuts c) steps)
    ∙ ap (list_any is_ending) (sym stops.whole)
    ∙ stands_in is_ending stops.given Ending stops.rest refl

pub failed_there : (c : ℕ) (steps : List ScriptStep) (p : Progress)
    → StopsAt Failing (story c steps) p → has_failed c steps ≡ true
failed_there c steps p stops = sym (story_any is_failing (fails c) c (step_fails c) steps)
    ∙ ap (list_any is_failing) (sym stops.whole)
    ∙ stands_in is_failing stops.given Failing stops.rest refl
