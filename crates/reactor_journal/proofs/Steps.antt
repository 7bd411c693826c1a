-- What one more entry changes. Most of it holds by computation; what doesn't stands here.
use Rattle.std.proofs.Common.{ℕ, ◌≡◌, ◌≢◌, ◌<◌, ◌==◌, Bool, true, false, not, ◌&&◌, ◌||◌, List, []}
use Rattle.std.proofs.Common.{◌∷◌, length, refl, sym, ap, ◌∙◌, subst, ⊎_elim}
use Rattle.std.proofs.lemmas.Bool.{false≢true, and_parts, or_cases, or_parts, and_from, or_from}
use Rattle.std.proofs.lemmas.Bool.{or_right, or_left, not-true, both_ways, cases_Bool, eq-eqb}
use Rattle.std.proofs.lemmas.Bool.{ne_eqb, eqb-true, eqb-false}
use Rattle.ev_types.specs.declared.upcall.Answer.{Answer}
use Rattle.reactor_journal.specs.declared.entry.Entry.{Entry}
use Rattle.reactor_journal.specs.declared.entry.Entry.TheVariants.{Started, Returned}
use Rattle.reactor_journal.specs.Past.{starts, returns, event_at, belongs_to, is_event, was_started}
use Rattle.reactor_journal.specs.Past.{was_returned, is_open, is_busy, is_able}
use Rattle.reactor_journal.specs.Follow.{may_follow, is_legal}
use Rattle.reactor_journal.proofs.Basics.{may_fits, event_at-before, event_at-within}
use Rattle.reactor_journal.proofs.Basics.{belongs_is_event}
use Rattle.reactor_journal.proofs.OneOpen.{started_is_able, able_is_event, open_is_busy, open_cases}
use Rattle.reactor_journal.proofs.OneOpen.{started_is_event, one_open}
use Rattle.reactor_journal.proofs.Fates.{able_not_started}
use Rattle.reactor_journal.proofs.HadLaw.{returned_is_open}
use Rattle.reactor_journal.proofs.Closing.{any_below-some}

pub same_tests : (a b : Bool) → (a ≡ true → b ≡ true) → (b ≡ true → a ≡ true) → a ≡ b
same_tests true b f g = sym (f refl)
same_tests false true f g = g refl
same_tests false false f g = refl

-- what is busy has an open event
pub busy_event : {N : Type 0} (past : List (Entry N)) (x : ℕ) → is_busy past x ≡ true → (i : ℕ)
    × (is_open past i ≡ true) × (belongs_to x (event_at past i) ≡ true)
unfolding is_busy
busy_event past x h =
    let found : (i : ℕ) × (i < length past)
    × ((is_open past i && belongs_to x (event_at past i)) ≡ true) =
    any_below-some (length past) _ h in
    let both : (is_open past found.0 ≡ true) × (belongs_to x (event_at past found.0) ≡ true) =
    and_parts _ _ found.2 in
    (found.0, both.0, both.1)

-- one with an open event is busy
pub event_busy : {N : Type 0} (past : List (Entry N)) (x i : ℕ) → is_open past i ≡ true
    → belongs_to x (event_at past i) ≡ true → is_busy past x ≡ true
event_busy past x i o b = open_is_busy past i x
    (event_at-within past i (belongs_is_event past i x b)) o b

pub open_parts : {N : Type 0} (past : List (Entry N)) (i : ℕ) → is_open past i ≡ true
    → (was_started past i ≡ true) × (was_returned past i ≡ false)
open_parts past i o =
    let p : (was_started past i ≡ true) × (not (was_returned past i) ≡ true) =
    and_parts (was_started past i) (not (was_returned past i)) o in
    (p.0, not-true _ p.1)

pub open_from : {N : Type 0} (past : List (Entry N)) (i : ℕ) → was_started past i ≡ true
    → was_returned past i ≡ false → is_open past i ≡ true
open_from past i s r = and_from (was_started past i) (not (was_returned past i)) s (ap not r)

-- what was returned was started
pub returned_was_started : {N : Type 0} (most : ℕ) (past : List (Entry N)) (i : ℕ)
    → is_legal most past ≡ true → was_returned past i ≡ true → was_started past i ≡ true
returned_was_started most [] i legal h = h
returned_was_started most (e ∷ past) i legal h =
    let parts : (may_follow most past e ≡ true) × (is_legal most past ≡ true) =
    and_parts _ _ legal in
    ⊎_elim
    (λ (r : returns i e ≡ true). or_right (starts i e) _
    (open_parts past i (returned_is_open most past e i parts.0 r)).0)
    (λ (r : was_returned past i ≡ true).
    or_right (starts i e) _ (returned_was_started most past i parts.1 r))
    (or_cases (returns i e) (was_returned past i) h)

-- what is open was there before the entry
pub open_is_event : {N : Type 0} (most : ℕ) (past : List (Entry N)) (i : ℕ)
    → is_legal most past ≡ true → is_open past i ≡ true → is_event past i ≡ true
open_is_event most past i legal o = started_is_event most past legal i (and_parts _ _ o).0

-- an open event that the entry does not return is open still
pub open_after : {N : Type 0} (e : Entry N) (past : List (Entry N)) (i : ℕ) → is_open past i ≡ true
    → returns i e ≡ false → is_open (e ∷ past) i ≡ true
open_after e past i o r =
    open_from (e ∷ past) i (or_right (starts i e) (was_started past i) (open_parts past i o).0)
    (or_from (returns i e) (was_returned past i) r (open_parts past i o).1)

-- ---- busy handles

pub busy-started : {N : Type 0} (most : ℕ) (past : List (Entry N)) (event x : ℕ)
    → is_legal most past ≡ true → may_follow most past (Started event) ≡ true
    → is_busy (Started event ∷ past) x ≡ (belongs_to x (event_at past event) || is_busy past x)
busy-started {N} most past event x legal may =
    let e : Entry N = Started event in
    let able : is_able past event ≡ true =
    started_is_able most past e event may (eq-eqb event event refl) in
    let same : event_at (e ∷ past) event ≡ event_at past event =
    event_at-before e past event (able_is_event past event able) in
    let not_returned : was_returned past event ≡ false =
    ⊎_elim
    (λ (t : was_returned past event ≡ true).
    absurd (both_ways (was_started past event) (able_not_started past event able)
    (returned_was_started most past event legal t)))
    (λ (f : was_returned past event ≡ false). f)
    (cases_Bool (was_returned past event))
    in
    same_tests _ _
    (λ h.
    let b : (i : ℕ) × (is_open (e ∷ past) i ≡ true)
    × (belongs_to x (event_at (e ∷ past) i) ≡ true) = busy_event (e ∷ past) x h in
    ⊎_elim
    (λ (s : starts b.0 e ≡ true). or_left _ _
    (sym (ap (belongs_to x) same) ∙ subst
    (λ (k : ℕ). belongs_to x (event_at (e ∷ past) k) ≡ true) (sym (eqb-true event b.0 s)) b.2))
    (λ (o : is_open past b.0 ≡ true). or_right _ _
    (event_busy past x b.0 o (sym (ap (belongs_to x)
    (event_at-before e past b.0 (open_is_event most past b.0 legal o))) ∙ b.2)))
    (open_cases e past b.0 b.1))
    (λ h.
    ⊎_elim
    (λ (m : belongs_to x (event_at past event) ≡ true).
    event_busy (e ∷ past) x event (open_from (e ∷ past) event
    (or_left (event == event) (was_started past event) (eq-eqb event event refl)) not_returned)
    (ap (belongs_to x) same ∙ m))
    (λ (m : is_busy past x ≡ true).
    let b : (i : ℕ) × (is_open past i ≡ true) × (belongs_to x (event_at past i) ≡ true) =
    busy_event past x m in
    event_busy (e ∷ past) x b.0 (open_after e past b.0 b.1 refl)
    (ap (belongs_to x) (event_at-before e past b.0 (belongs_is_event past b.0 x b.2)) ∙ b.2))
    (or_cases _ _ h))

pub busy-returned : {N : Type 0} (most : ℕ) (past : List (Entry N)) (event x : ℕ) (answer : Answer)
    (note : N) → is_legal most past ≡ true
    → may_follow most past (Returned event answer note) ≡ true
    → is_busy (Returned event answer note ∷ past) x
    ≡ (not (belongs_to x (event_at past event)) && is_busy past x)
busy-returned {N} most past event x answer note legal may =
    let e : Entry N = Returned event answer note in
    let was_open : is_open past event ≡ true = may_fits most past e may in
    same_tests _ _
    (λ h.
    let b : (i : ℕ) × (is_open (e ∷ past) i ≡ true)
    × (belongs_to x (event_at (e ∷ past) i) ≡ true) = busy_event (e ∷ past) x h in
    let o : is_open past b.0 ≡ true = ⊎_elim (λ (s : starts b.0 e ≡ true). absurd (false≢true s))
    (λ (o : is_open past b.0 ≡ true). o) (open_cases e past b.0 b.1) in
    let m : belongs_to x (event_at past b.0) ≡ true =
    sym (ap (belongs_to x) (event_at-before e past b.0 (open_is_event most past b.0 legal o)))
    ∙ b.2 in
    let not_this : returns b.0 e ≡ false = (or_parts _ _ (not-true _ (and_parts _ _ b.1).1)).0 in
    and_from _ _
    (ap not
    (⊎_elim
    (λ (t : belongs_to x (event_at past event) ≡ true).
    absurd (eqb-false event b.0 not_this (one_open most past legal event b.0 x was_open o t m)))
    (λ (f : belongs_to x (event_at past event) ≡ false). f)
    (cases_Bool (belongs_to x (event_at past event)))))
    (event_busy past x b.0 o m))
    (λ h.
    let parts : (not (belongs_to x (event_at past event)) ≡ true) × (is_busy past x ≡ true) =
    and_parts _ _ h in
    let b : (i : ℕ) × (is_open past i ≡ true) × (belongs_to x (event_at past i) ≡ true) =
    busy_event past x parts.1 in
    let other : event ≢ b.0 = λ q. both_ways _
    (subst (λ (k : ℕ). belongs_to x (event_at past k) ≡ false) q (not-true _ parts.0)) b.2 in
    event_busy (e ∷ past) x b.0 (open_after e past b.0 b.1 (ne_eqb event b.0 other))
    (ap (belongs_to x) (event_at-before e past b.0 (belongs_is_event past b.0 x b.2)) ∙ b.2))

-- no other entry makes a handle busy or idle
pub busy-other : {N : Type 0} (most : ℕ) (past : List (Entry N)) (e : Entry N) (x : ℕ)
    → is_legal most past ≡ true → ((i : ℕ) → starts i e ≡ false) → ((i : ℕ) → returns i e ≡ false)
    → is_busy (e ∷ past) x ≡ is_busy past x
busy-other most past e x legal no_start no_return =
    same_tests _ _
    (λ h.
    let b : (i : ℕ) × (is_open (e ∷ past) i ≡ true)
    × (belongs_to x (event_at (e ∷ past) i) ≡ true) = busy_event (e ∷ past) x h in
    let o : is_open past b.0 ≡ true = ⊎_elim
    (λ (s : starts b.0 e ≡ true). absurd (both_ways _ (no_start b.0) s))
    (λ (o : is_open past b.0 ≡ true). o) (open_cases e past b.0 b.1) in
    event_busy past x b.0 o (sym (ap (belongs_to x)
    (event_at-before e past b.0 (open_is_event most past b.0 legal o))) ∙ b.2))
    (λ h.
    let b : (i : ℕ) × (is_open past i ≡ true) × (belongs_to x (event_at past i) ≡ true) =
    busy_event past x h in
    event_busy (e ∷ past) x b.0 (open_after e past b.0 b.1 (no_return b.0))
    (ap (belongs_to x) (event_at-before e past b.0 (belongs_is_event past b.0 x b.2)) ∙ b.2))

pub ruleset busy_steps = (busy-started, busy-returned, busy-other)
