-- While an event of a handle is open, the handler of it has no further turn.
use Rattle.std.proofs.Common.{ℕ, ◌≡◌, true, false, not, ◌||◌, List, [], ◌∷◌, ◌++◌, refl, ap, ◌∙◌}
use Rattle.std.proofs.Common.{subst, Option, Some, None, is_some, ⊎_elim}
use Rattle.std.proofs.lemmas.Bool.{false≢true, and_parts, or_parts, and_from, or_right, not-true}
use Rattle.std.proofs.lemmas.Bool.{both_ways, cases_Bool, eq-eqb, eqb-true}
use Rattle.std.proofs.lemmas.List.{append-nil}
use Rattle.ev_types.specs.declared.upcall.Answer.{Answer}
use Rattle.reactor_journal.specs.declared.entry.Entry.{Entry}
use Rattle.reactor_journal.specs.declared.entry.Entry.TheVariants.{Returned}
use Rattle.reactor_journal.specs.Event.{Event}
use Rattle.reactor_journal.specs.Past.{event_at, belongs_to, starts, returns, was_started}
use Rattle.reactor_journal.specs.Past.{was_returned, is_event, is_open, had, items_made, item_of}
use Rattle.reactor_journal.specs.Follow.{may_follow, is_legal}
use Rattle.reactor_journal.proofs.Basics.{may_fits, event_at-before, belongs_is_event}
use Rattle.reactor_journal.proofs.OneOpen.{one_open}

-- what is returned was open
pub returned_is_open : {N : Type 0} (most : ℕ) (past : List (Entry N)) (e : Entry N) (i : ℕ)
    → may_follow most past e ≡ true → returns i e ≡ true → is_open past i ≡ true
returned_is_open most past (Returned event answer note) i may r =
    subst (λ (k : ℕ). is_open past k ≡ true) (eqb-true event i r)
    (may_fits most past (Returned event answer note) may)
returned_is_open most past _ i may r = absurd (false≢true r)

pub no_turn : {N : Type 0} (x : ℕ) (event : Option Event) (moment : ℕ) (answer : Answer) (note : N)
    → belongs_to x event ≡ false → item_of x event moment answer note ≡ []
no_turn x None moment answer note h = refl
no_turn x (Some event) moment answer note h = rw h refl

-- an entry that returns no event of x makes no turn of it
pub quiet : {N : Type 0} (past : List (Entry N)) (x : ℕ) (e : Entry N)
    → ((j : ℕ) → returns j e ≡ true → belongs_to x (event_at past j) ≡ false)
    → items_made past x e ≡ []
quiet past x (Returned event answer note) h =
    no_turn x (event_at past event) _ answer note (h event (eq-eqb event event refl))
quiet past x _ h = refl

pub started_still : {N : Type 0} (later past : List (Entry N)) (i : ℕ) → was_started past i ≡ true
    → was_started (later ++ past) i ≡ true
started_still [] past i h = h
started_still (e ∷ later) past i h = or_right _ _ (started_still later past i h)

-- what holds of an open event that is open still, with more entries before it (the latest first)
pub open_before : {N : Type 0} (later past : List (Entry N)) (e : Entry N) (i : ℕ)
    → is_open past i ≡ true → is_open (e ∷ (later ++ past)) i ≡ true
    → is_open (later ++ past) i ≡ true
open_before later past e i o now_open =
    let p : ((starts i e || was_started (later ++ past) i) ≡ true)
    × (not (returns i e || was_returned (later ++ past) i) ≡ true) = and_parts _ _ now_open in
    let r : (returns i e ≡ false) × (was_returned (later ++ past) i ≡ false) =
    or_parts _ _ (not-true _ p.1) in
    and_from _ _ (started_still later past i (and_parts _ _ o).0) (ap not r.1)

-- an event stays what it is
pub event_still : {N : Type 0} (later past : List (Entry N)) (i : ℕ) → is_event past i ≡ true
    → event_at (later ++ past) i ≡ event_at past i
event_still [] past i h = refl
event_still (e ∷ later) past i h =
    let same : event_at (later ++ past) i ≡ event_at past i = event_still later past i h in
    event_at-before e (later ++ past) i (ap is_some same ∙ h) ∙ same

pub same_had : {N : Type 0} (most : ℕ) (later past : List (Entry N)) (i x : ℕ)
    → is_legal most (later ++ past) ≡ true
    → is_open past i ≡ true → belongs_to x (event_at past i) ≡ true
    → is_open (later ++ past) i ≡ true → had (later ++ past) x ≡ had past x
same_had most [] past i x legal o b still = refl
same_had most (e ∷ later) past i x legal o b still =
    let parts : (may_follow most (later ++ past) e ≡ true)
    × (is_legal most (later ++ past) ≡ true) = and_parts _ _ legal in
    let was_open : is_open (later ++ past) i ≡ true = open_before later past e i o still in
    let mine : belongs_to x (event_at (later ++ past) i) ≡ true =
    ap (belongs_to x) (event_still later past i (belongs_is_event past i x b)) ∙ b in
    let before : had (later ++ past) x ≡ had past x =
    same_had most later past i x parts.1 o b was_open in
    let not_returned : returns i e ≡ false =
    (or_parts _ _ (not-true _ (and_parts _ _ still).1)).0 in
    let other : (j : ℕ) → returns j e ≡ true → belongs_to x (event_at (later ++ past) j) ≡ false =
    λ j r. ⊎_elim
    (λ (t : belongs_to x (event_at (later ++ past) j) ≡ true).
    let same : i ≡ j = one_open most (later ++ past) parts.1 i j x was_open
    (returned_is_open most (later ++ past) e j parts.0 r) mine t in
    absurd (both_ways (returns j e) (subst (λ (k : ℕ). returns k e ≡ false) same not_returned) r))
    (λ (f : belongs_to x (event_at (later ++ past) j) ≡ false). f)
    (cases_Bool (belongs_to x (event_at (later ++ past) j)))
    in
    ap (λ turns. had (later ++ past) x ++ turns) (quiet (later ++ past) x e other)
    ∙ (append-nil _ ∙ before)
