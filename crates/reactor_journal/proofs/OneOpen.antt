-- No handle has two open events.
use Rattle.std.proofs.Common.{ℕ, zero, suc, ◌≡◌, ◌≢◌, ◌<◌, Bool, true, false, not, ◌&&◌, ◌||◌, List}
use Rattle.std.proofs.Common.{[], ◌∷◌, length, sym, ap, ◌∙◌, subst, arith, Option, Some, None}
use Rattle.std.proofs.Common.{is_some, ◌⊎◌, inl, inr, ⊎_elim}
use Rattle.std.proofs.lemmas.Bool.{false≢true, eqb-true, and_parts, or_cases, or_parts, and_from}
use Rattle.std.proofs.lemmas.Bool.{cases_eq, not-true, both_ways, or_left, or_right}
use Rattle.reactor_journal.specs.declared.entry.Entry.{Entry}
use Rattle.reactor_journal.specs.declared.entry.Entry.TheVariants.{Started}
use Rattle.reactor_journal.specs.Event.{Event}
use Rattle.reactor_journal.specs.Past.{any_below, event_at, belongs_to, starts, returns}
use Rattle.reactor_journal.specs.Past.{was_started, was_returned, is_event, is_open, is_busy}
use Rattle.reactor_journal.specs.Past.{is_able, is_pick, may_run}
use Rattle.reactor_journal.specs.Follow.{may_follow, is_legal}
use Rattle.reactor_journal.proofs.Basics.{event_at-within, event_at-before}

pub any_below-from : (n : ℕ) (test : ℕ → Bool) (i : ℕ) → i < n → test i ≡ true
    → any_below n test ≡ true
any_below-from zero test i lt h = absurd (omega arith)
any_below-from (suc n) test i lt h =
    ⊎_elim
    (λ (q : i ≡ n). or_left (test n) (any_below n test) (sym (ap test q) ∙ h))
    (λ (q : i ≢ n). or_right (test n) (any_below n test) (any_below-from n test i (omega arith) h))
    (cases_eq i n)

-- what may be started is able
pub started_is_able : {N : Type 0} (most : ℕ) (past : List (Entry N)) (e : Entry N) (i : ℕ)
    → may_follow most past e ≡ true → starts i e ≡ true → is_able past i ≡ true
unfolding may_follow is_pick
started_is_able most past (Started event) i may s =
    let q : event ≡ i = eqb-true event i s in
    let pick : is_pick past event ≡ true = (and_parts _ _ (and_parts _ _ may).1).0 in
    subst (λ (k : ℕ). is_able past k ≡ true) q (and_parts _ _ pick).0
started_is_able most past _ i may s = absurd (false≢true s)

pub able_is_event : {N : Type 0} (past : List (Entry N)) (i : ℕ) → is_able past i ≡ true
    → is_event past i ≡ true
unfolding is_able
able_is_event past i h = (and_parts _ _ (and_parts _ _ h).0).0

-- whose event is able is not busy
pub may_run_idle : {N : Type 0} (past : List (Entry N)) (x : ℕ) (event : Option Event)
    → may_run past event ≡ true → belongs_to x event ≡ true → is_busy past x ≡ false
may_run_idle past x None h b = absurd (false≢true b)
may_run_idle past x (Some event) h b =
    let q : event.handle ≡ x = eqb-true event.handle x b in
    subst (λ (k : ℕ). is_busy past k ≡ false) q (not-true _ (and_parts _ _ (and_parts _ _ h).1).0)

pub able_is_idle : {N : Type 0} (past : List (Entry N)) (i x : ℕ) → is_able past i ≡ true
    → belongs_to x (event_at past i) ≡ true → is_busy past x ≡ false
unfolding is_able
able_is_idle past i x h b = may_run_idle past x (event_at past i) (and_parts _ _ h).1 b

-- whose event is open is busy
pub open_is_busy : {N : Type 0} (past : List (Entry N)) (i x : ℕ) → i < length past
    → is_open past i ≡ true → belongs_to x (event_at past i) ≡ true → is_busy past x ≡ true
unfolding is_busy
open_is_busy past i x lt o b =
    any_below-from (length past) (λ j. is_open past j && belongs_to x (event_at past j)) i lt
    (and_from _ _ o b)

-- what was started is an event
pub started_is_event : {N : Type 0} (most : ℕ) (past : List (Entry N)) → is_legal most past ≡ true
    → (i : ℕ) → was_started past i ≡ true → is_event past i ≡ true
started_is_event most [] legal i s = absurd (false≢true s)
started_is_event most (e ∷ past) legal i s =
    let parts : (may_follow most past e ≡ true) × (is_legal most past ≡ true) =
    and_parts _ _ legal in
    let before : is_event past i ≡ true =
    ⊎_elim
    (λ (h : starts i e ≡ true). able_is_event past i (started_is_able most past e i parts.0 h))
    (λ (h : was_started past i ≡ true). started_is_event most past parts.1 i h)
    (or_cases (starts i e) (was_started past i) s)
    in
    ap is_some (event_at-before e past i before) ∙ before

-- an event that is open now was started just now, or was open before
pub open_cases : {N : Type 0} (e : Entry N) (past : List (Entry N)) (i : ℕ)
    → is_open (e ∷ past) i ≡ true → (starts i e ≡ true) ⊎ (is_open past i ≡ true)
open_cases e past i o =
    let p : ((starts i e || was_started past i) ≡ true)
    × (not (returns i e || was_returned past i) ≡ true) = and_parts _ _ o in
    let r : (returns i e ≡ false) × (was_returned past i ≡ false) = or_parts _ _ (not-true _ p.1) in
    ⊎_elim
    (λ (h : starts i e ≡ true). inl h)
    (λ (h : was_started past i ≡ true). inr (and_from _ _ h (ap not r.1)))
    (or_cases (starts i e) (was_started past i) p.0)

pub starts_one : {N : Type 0} (e : Entry N) (i j : ℕ) → starts i e ≡ true → starts j e ≡ true
    → i ≡ j
starts_one (Started event) i j h k = sym (eqb-true event i h) ∙ eqb-true event j k
starts_one _ i j h k = absurd (false≢true h)

pub one_open : {N : Type 0} (most : ℕ) (past : List (Entry N)) → is_legal most past ≡ true
    → (i j x : ℕ)
    → is_open past i ≡ true → is_open past j ≡ true → belongs_to x (event_at past i) ≡ true
    → belongs_to x (event_at past j) ≡ true → i ≡ j
one_open most [] legal i j x oi oj bi bj = absurd (false≢true oi)
one_open {N} most (e ∷ past) legal i j x oi oj bi bj =
    let parts : (may_follow most past e ≡ true) × (is_legal most past ≡ true) =
    and_parts _ _ legal in
    let event_of_open : (k : ℕ) → is_open past k ≡ true → is_event past k ≡ true =
    λ k o. started_is_event most past parts.1 k (and_parts _ _ o).0 in
    let event_of_new : (k : ℕ) → starts k e ≡ true → is_event past k ≡ true =
    λ k s. able_is_event past k (started_is_able most past e k parts.0 s) in
    let back : (k : ℕ) → is_event past k ≡ true → belongs_to x (event_at (e ∷ past) k) ≡ true
    → belongs_to x (event_at past k) ≡ true =
    λ k h b. sym (ap (belongs_to x) (event_at-before e past k h)) ∙ b in
    let clash : (k l : ℕ) → starts k e ≡ true → belongs_to x (event_at (e ∷ past) k) ≡ true
    → is_open past l ≡ true → belongs_to x (event_at (e ∷ past) l) ≡ true → ⊥ =
    λ k l s bk o bl.
    both_ways (is_busy past x)
    (able_is_idle past k x (started_is_able most past e k parts.0 s) (back k (event_of_new k s) bk))
    (open_is_busy past l x (event_at-within past l (event_of_open l o)) o
    (back l (event_of_open l o) bl))
    in
    ⊎_elim
    (λ (si : starts i e ≡ true). ⊎_elim (λ (sj : starts j e ≡ true). starts_one e i j si sj)
    (λ (pj : is_open past j ≡ true). absurd (clash i j si bi pj bj)) (open_cases e past j oj))
    (λ (pi : is_open past i ≡ true). ⊎_elim
    (λ (sj : starts j e ≡ true). absurd (clash j i sj bj pi bi))
    (λ (pj : is_open past j ≡ true). one_open most past parts.1 i j x pi pj
    (back i (event_of_open i pi) bi) (back j (event_of_open j pj) bj)) (open_cases e past j oj))
    (open_cases e past i oi)
