-- What was never opened was never suspended, removed or closed, and has no open event.
use Rattle.std.proofs.Common.{ℕ, ◌≡◌, ◌≢◌, ◌<◌, ◌==◌, Bool, true, false, List, [], ◌∷◌, sym, ap}
use Rattle.std.proofs.Common.{◌∙◌, subst, arith, ⊎_elim}
use Rattle.std.proofs.lemmas.Bool.{false≢true, and_parts, or_cases, or_left, or_right, eqb-true}
use Rattle.std.proofs.lemmas.Bool.{eq-eqb, cases_eq, cases_Bool}
use Rattle.ev_types.specs.declared.upcall.Answer.TheVariants.{Close}
use Rattle.reactor_journal.specs.declared.entry.Entry.{Entry}
use Rattle.reactor_journal.specs.declared.entry.Entry.TheVariants.{Opened, Suspended, Resumed}
use Rattle.reactor_journal.specs.declared.entry.Entry.TheVariants.{Returned, Removed}
use Rattle.reactor_journal.specs.Past.{event_at, belongs_to, starts, ends, opened, is_open}
use Rattle.reactor_journal.specs.Past.{is_event, is_able, was_opened, was_removed, was_closed}
use Rattle.reactor_journal.specs.Past.{is_suspended}
use Rattle.reactor_journal.specs.Follow.{may_follow, is_legal}
use Rattle.reactor_journal.proofs.Basics.{may_fits, event_at-before}
use Rattle.reactor_journal.proofs.OneOpen.{started_is_able, able_is_event, open_cases}
use Rattle.reactor_journal.proofs.OneOpen.{started_is_event}
use Rattle.reactor_journal.proofs.Alive.{alive_was_opened, opened_below}
use Rattle.reactor_journal.proofs.Timers.{able_alive}
use Rattle.reactor_journal.proofs.Closing.{closed_gone}

-- the handle of an open event was opened
pub open_opened : {N : Type 0} (most : ℕ) (past : List (Entry N)) (i x : ℕ)
    → is_legal most past ≡ true → is_open past i ≡ true → belongs_to x (event_at past i) ≡ true
    → was_opened past x ≡ true
open_opened most [] i x legal o b = absurd (false≢true o)
open_opened {N} most (e ∷ past) i x legal o b =
    let parts : (may_follow most past e ≡ true) × (is_legal most past ≡ true) =
    and_parts _ _ legal in
    ⊎_elim
    (λ (s : starts i e ≡ true).
    let able : is_able past i ≡ true = started_is_able most past e i parts.0 s in
    let mine : belongs_to x (event_at past i) ≡ true =
    sym (ap (belongs_to x) (event_at-before e past i (able_is_event past i able))) ∙ b in
    or_right _ _ (alive_was_opened past x (able_alive past i x able mine)))
    (λ (h : is_open past i ≡ true).
    let event : is_event past i ≡ true = started_is_event most past parts.1 i (and_parts _ _ h).0 in
    or_right _ _ (open_opened most past i x parts.1 h
    (sym (ap (belongs_to x) (event_at-before e past i event)) ∙ b)))
    (open_cases e past i o)

ends_opened : {N : Type 0} (most : ℕ) (e : Entry N) (past : List (Entry N)) (x : ℕ)
    → is_legal most past ≡ true → may_follow most past e ≡ true → ends x (event_at past) e ≡ true
    → was_opened past x ≡ true
ends_opened most (Removed handle) past x legal may h =
    subst (λ (k : ℕ). was_opened past k ≡ true) (eqb-true handle.0 x h)
    (alive_was_opened past handle.0 (may_fits most past (Removed handle) may))
ends_opened most (Returned event Close note) past x legal may h =
    open_opened most past event x legal (may_fits most past (Returned event Close note) may) h
ends_opened most _ past x legal may h = absurd (false≢true h)

pub removed_opened : {N : Type 0} (most : ℕ) (past : List (Entry N)) (x : ℕ)
    → is_legal most past ≡ true → was_removed past x ≡ true → was_opened past x ≡ true
removed_opened most [] x legal h = absurd (false≢true h)
removed_opened most (e ∷ past) x legal h =
    let parts : (may_follow most past e ≡ true) × (is_legal most past ≡ true) =
    and_parts _ _ legal in
    ⊎_elim
    (λ (t : ends x (event_at past) e ≡ true).
    or_right _ _ (ends_opened most e past x parts.1 parts.0 t))
    (λ (t : was_removed past x ≡ true). or_right _ _ (removed_opened most past x parts.1 t))
    (or_cases (ends x (event_at past) e) (was_removed past x) h)

pub suspended_opened : {N : Type 0} (most : ℕ) (past : List (Entry N)) (x : ℕ)
    → is_legal most past ≡ true → is_suspended past x ≡ true → was_opened past x ≡ true
suspended_opened most [] x legal h = absurd (false≢true h)
suspended_opened most (Suspended handle ∷ past) x legal h =
    let parts : (may_follow most past (Suspended handle) ≡ true) × (is_legal most past ≡ true) =
    and_parts _ _ legal in
    ⊎_elim
    (λ (t : (handle.0 == x) ≡ true). subst (λ (k : ℕ). was_opened past k ≡ true)
    (eqb-true handle.0 x t) (alive_was_opened past handle.0
    (and_parts _ _ (may_fits most past (Suspended handle) parts.0)).0))
    (λ (t : is_suspended past x ≡ true). suspended_opened most past x parts.1 t)
    (or_cases (handle.0 == x) (is_suspended past x) h)
suspended_opened most (Resumed handle ∷ past) x legal h =
    suspended_opened most past x (and_parts _ _ legal).1 (and_parts _ _ h).1
suspended_opened most (Opened handle mask ∷ past) x legal h =
    or_right _ _ (suspended_opened most past x (and_parts _ _ legal).1 h)
suspended_opened most (_ ∷ past) x legal h = suspended_opened most past x (and_parts _ _ legal).1 h

pub closed_opened : {N : Type 0} (most : ℕ) (past : List (Entry N)) (x : ℕ)
    → is_legal most past ≡ true → was_closed past x ≡ true → was_opened past x ≡ true
closed_opened most past x legal h = (closed_gone most past x legal h).opened

-- each number below the count of handles was opened
pub below_opened : {N : Type 0} (most : ℕ) (past : List (Entry N)) (x : ℕ)
    → is_legal most past ≡ true → x < opened past → was_opened past x ≡ true
below_opened most [] x legal lt = absurd (omega arith)
below_opened most (Opened handle mask ∷ past) x legal lt =
    let parts : (may_follow most past (Opened handle mask) ≡ true) × (is_legal most past ≡ true) =
    and_parts _ _ legal in
    let is : handle.0 ≡ opened past = eqb-true _ _
    (and_parts _ _ (may_fits most past (Opened handle mask) parts.0)).0 in
    ⊎_elim
    (λ (q : x ≡ opened past). or_left (handle.0 == x) (was_opened past x)
    (eq-eqb handle.0 x (is ∙ sym q)))
    (λ (q : x ≢ opened past). or_right (handle.0 == x) (was_opened past x)
    (below_opened most past x parts.1 (omega arith)))
    (cases_eq x (opened past))
below_opened most (_ ∷ past) x legal lt = below_opened most past x (and_parts _ _ legal).1 lt

-- the next handle is bare
pub record Bare {N : Type 0} (past : List (Entry N)) (x : ℕ) : Type 0 where
  pub opened : was_opened past x ≡ false
  pub removed : was_removed past x ≡ false
  pub suspended : is_suspended past x ≡ false
  pub closed : was_closed past x ≡ false

not_from : (b : Bool) → (b ≡ true → ⊥) → b ≡ false
not_from b f = ⊎_elim (λ (t : b ≡ true). absurd (f t)) (λ (n : b ≡ false). n) (cases_Bool b)

pub next_is_bare : {N : Type 0} (most : ℕ) (past : List (Entry N)) (x : ℕ)
    → is_legal most past ≡ true → opened past ≡ x → Bare past x
next_is_bare most past x legal q =
    let fresh : was_opened past x ≡ true → ⊥ = λ t. let k : x < opened past =
    opened_below most past x legal t in absurd (omega arith) in
    record {
      opened = not_from _ fresh;
      removed = not_from _ (λ t. fresh (removed_opened most past x legal t));
      suspended = not_from _ (λ t. fresh (suspended_opened most past x legal t));
      closed = not_from _ (λ t. fresh (closed_opened most past x legal t));
    }
