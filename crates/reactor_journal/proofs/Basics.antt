-- How events and entries stand at their numbers.
use Rattle.std.proofs.Common.{ℕ, ◌≡◌, ◌≢◌, ◌<◌, ◌==◌, true, false, not, ◌&&◌, ◌||◌, List, [], ◌∷◌}
use Rattle.std.proofs.Common.{length, refl, sym, ap, ◌∙◌, arith, Option, Some, None, is_some}
use Rattle.std.proofs.Common.{⊎_elim}
use Rattle.std.proofs.lemmas.Bool.{false≢true, ne_eqb, eq-eqb, and_parts, cases_eq}
use Rattle.reactor_journal.specs.declared.entry.Entry.{Entry}
use Rattle.reactor_journal.specs.Event.{Event}
use Rattle.reactor_journal.specs.Past.{event_at, event_made, belongs_to, timer_of, was_opened}
use Rattle.reactor_journal.specs.Past.{was_removed, is_event, ended}
use Rattle.reactor_journal.specs.Follow.{may_follow, fits, winds_up}

pub event_at-last : {N : Type 0} (e : Entry N) (past : List (Entry N)) (i : ℕ) → i ≡ length past
    → event_at (e ∷ past) i ≡ event_made e (timer_of past) (event_at past)
    (λ x. was_opened past x && not (was_removed past x))
event_at-last e past i h = let t : (i == length past) ≡ true = eq-eqb i (length past) h in
    rw (t, event_at) refl

pub event_at-other : {N : Type 0} (e : Entry N) (past : List (Entry N)) (i : ℕ) → i ≢ length past
    → event_at (e ∷ past) i ≡ event_at past i
event_at-other e past i h = let t : (i == length past) ≡ false = ne_eqb i (length past) h in
    rw (t, event_at) refl

-- an event stands among the entries
pub event_at-within : {N : Type 0} (past : List (Entry N)) (i : ℕ) → is_event past i ≡ true
    → i < length past
event_at-within [] i h = absurd (false≢true h)
event_at-within (e ∷ past) i h =
    ⊎_elim
    (λ (q : i ≡ length past). omega arith)
    (λ (q : i ≢ length past). let k : i < length past =
    event_at-within past i (sym (ap is_some (event_at-other e past i q)) ∙ h) in omega arith)
    (cases_eq i (length past))

pub event_at-before : {N : Type 0} (e : Entry N) (past : List (Entry N)) (i : ℕ)
    → is_event past i ≡ true
    → event_at (e ∷ past) i ≡ event_at past i
event_at-before e past i h = let k : i < length past = event_at-within past i h in
    event_at-other e past i (omega arith)

pub belongs_is_event : {N : Type 0} (past : List (Entry N)) (i x : ℕ)
    → belongs_to x (event_at past i) ≡ true → is_event past i ≡ true
belongs_is_event past i x h = belongs_some x (event_at past i) h
  where
    belongs_some : (x : ℕ) (event : Option Event) → belongs_to x event ≡ true → is_some event ≡ true
    belongs_some x None h = absurd (false≢true h)
    belongs_some x (Some event) h = refl

-- what may follow meets the case of its kind
pub may_fits : {N : Type 0} (most : ℕ) (past : List (Entry N)) (e : Entry N)
    → may_follow most past e ≡ true → fits most past e ≡ true
unfolding may_follow
may_fits most past e may = (and_parts (winds_up e || not (ended past)) (fits most past e) may).1
