-- An event stands among the open ones once, and exactly if it is open; and the moment that a
-- journal sums up to.
use Rattle.std.proofs.Common.{ℕ, ◌+◌, ◌≡◌, ◌==◌, Bool, true, false, not, ◌&&◌, List, [], ◌∷◌, refl}
use Rattle.std.proofs.Common.{sym, ap, ◌∙◌, arith, cond, subst, ⊎_elim}
use Rattle.std.proofs.lemmas.Bool.{and_parts, eq-eqb, eqb-true, cases_Bool, both_ways}
use Rattle.reactor_summary.specs.reactor_journal.specs.declared.entry.Entry.{Entry}
use Rattle.reactor_summary.specs.reactor_journal.specs.declared.entry.Entry.TheVariants.{Opened}
use Rattle.reactor_summary.specs.reactor_journal.specs.declared.entry.Entry.TheVariants.{Scheduled}
use Rattle.reactor_summary.specs.reactor_journal.specs.declared.entry.Entry.TheVariants.{Cancelled}
use Rattle.reactor_summary.specs.reactor_journal.specs.declared.entry.Entry.TheVariants.{Polled}
use Rattle.reactor_summary.specs.reactor_journal.specs.declared.entry.Entry.TheVariants.{Due, Ready}
use Rattle.reactor_summary.specs.reactor_journal.specs.declared.entry.Entry.TheVariants.{Posted}
use Rattle.reactor_summary.specs.reactor_journal.specs.declared.entry.Entry.TheVariants.{Stale}
use Rattle.reactor_summary.specs.reactor_journal.specs.declared.entry.Entry.TheVariants.{Started}
use Rattle.reactor_summary.specs.reactor_journal.specs.declared.entry.Entry.TheVariants.{Returned}
use Rattle.reactor_summary.specs.reactor_journal.specs.declared.entry.Entry.TheVariants.{Masked}
use Rattle.reactor_summary.specs.reactor_journal.specs.declared.entry.Entry.TheVariants.{Suspended}
use Rattle.reactor_summary.specs.reactor_journal.specs.declared.entry.Entry.TheVariants.{Resumed}
use Rattle.reactor_summary.specs.reactor_journal.specs.declared.entry.Entry.TheVariants.{Refused}
use Rattle.reactor_summary.specs.reactor_journal.specs.declared.entry.Entry.TheVariants.{Removed}
use Rattle.reactor_summary.specs.reactor_journal.specs.declared.entry.Entry.TheVariants.{Closed}
use Rattle.reactor_summary.specs.reactor_journal.specs.declared.entry.Entry.TheVariants.{Ended}
use Rattle.reactor_summary.specs.reactor_journal.specs.Past.{was_started, was_returned, is_open}
use Rattle.reactor_summary.specs.reactor_journal.specs.Past.{now, now_after}
use Rattle.reactor_summary.specs.reactor_journal.specs.Follow.{is_legal, may_follow}
use Rattle.reactor_summary.specs.reactor_journal.proofs.Fates.{able_not_started}
use Rattle.reactor_summary.specs.reactor_journal.proofs.OneOpen.{started_is_able}
use Rattle.reactor_summary.specs.reactor_journal.proofs.Steps.{same_tests, returned_was_started}
use Rattle.reactor_summary.specs.Summary.{summary}
use Rattle.list_lemmas.specs.Times.{times}
use Rattle.list_lemmas.proofs.Times.{times_filter}
use Rattle.laws_turns.specs.Opens.{open_events}

eqb_turned : (a b : ℕ) → (a == b) ≡ (b == a)
eqb_turned a b = same_tests (a == b) (b == a) (λ q. eq-eqb b a (sym (eqb-true a b q)))
    (λ q. eq-eqb a b (sym (eqb-true b a q)))

-- among the open events of a legal past stands each that is open, once, and no other
pub opens_are : {N : Type 0} (most : ℕ) (past : List (Entry N)) (i : ℕ) → is_legal most past ≡ true
    → times i (open_events past) ≡ cond (is_open past i) 1 0
opens_are most [] i legal = refl
opens_are most (Started event ∷ past) i legal =
    let p : (may_follow most past (Started event) ≡ true) × (is_legal most past ≡ true) =
    and_parts _ _ legal in
    let rec : times i (open_events past) ≡ cond (is_open past i) 1 0 = opens_are most past i p.1 in
    let fresh : was_started past event ≡ false =
    able_not_started past event (started_is_able most past (Started event) event p.0
    (eq-eqb event event refl)) in
    let unreturned : was_returned past event ≡ false =
    ⊎_elim (λ (r : was_returned past event ≡ true).
    absurd (both_ways (was_started past event) fresh
    (returned_was_started most past event p.1 r))) (λ (r : was_returned past event ≡ false). r)
    (cases_Bool (was_returned past event)) in
    ⊎_elim
    (λ (q : (event == i) ≡ true).
    let same : event ≡ i = eqb-true event i q in
    let s : was_started past i ≡ false = subst (λ (k : ℕ). was_started past k ≡ false) same fresh in
    let r : was_returned past i ≡ false =
    subst (λ (k : ℕ). was_returned past k ≡ false) same unreturned in
    let zero_before : times i (open_events past) ≡ 0 =
    rec ∙ ap (λ (b : Bool). cond {A = ℕ} (b && not (was_returned past i)) 1 0) s in
    rw (eqb_turned i event, q) (ap (λ (n : ℕ). 1 + n) zero_before
    ∙ sym (ap (λ (b : Bool). cond {A = ℕ} (not b) 1 0) r)))
    (λ (q : (event == i) ≡ false). rw (eqb_turned i event, q) (omega (arith, rec)))
    (cases_Bool (event == i))
opens_are most (Returned event answer note ∷ past) i legal =
    let rec : times i (open_events past) ≡ cond (is_open past i) 1 0 =
    opens_are most past i (and_parts _ _ legal).1 in
    times_filter i event (open_events past)
    ∙ ⊎_elim
    (λ (q : (event == i) ≡ true). rw (eqb_turned i event, q) (none (was_started past i)))
    (λ (q : (event == i) ≡ false). rw (eqb_turned i event, q) rec)
    (cases_Bool (event == i))
  where
    none : (b : Bool) → ◌≡◌ {A = ℕ} 0 (cond (b && false) 1 0)
    none true = refl
    none false = refl
opens_are most (Opened handle mask ∷ past) i legal = opens_are most past i (and_parts _ _ legal).1
opens_are most (Scheduled timer handle first every ∷ past) i legal =
    opens_are most past i (and_parts _ _ legal).1
opens_are most (Cancelled timer ∷ past) i legal = opens_are most past i (and_parts _ _ legal).1
opens_are most (Polled moment ∷ past) i legal = opens_are most past i (and_parts _ _ legal).1
opens_are most (Due timer ∷ past) i legal = opens_are most past i (and_parts _ _ legal).1
opens_are most (Ready handle kind ∷ past) i legal = opens_are most past i (and_parts _ _ legal).1
opens_are most (Posted handle kind from seq ∷ past) i legal =
    opens_are most past i (and_parts _ _ legal).1
opens_are most (Stale handle from seq ∷ past) i legal =
    opens_are most past i (and_parts _ _ legal).1
opens_are most (Masked handle mask ∷ past) i legal = opens_are most past i (and_parts _ _ legal).1
opens_are most (Suspended handle ∷ past) i legal = opens_are most past i (and_parts _ _ legal).1
opens_are most (Resumed handle ∷ past) i legal = opens_are most past i (and_parts _ _ legal).1
opens_are most (Refused live fault note ∷ past) i legal =
    opens_are most past i (and_parts _ _ legal).1
opens_are most (Removed handle ∷ past) i legal = opens_are most past i (and_parts _ _ legal).1
opens_are most (Closed handle note ∷ past) i legal = opens_are most past i (and_parts _ _ legal).1
opens_are most (Ended ∷ past) i legal = opens_are most past i (and_parts _ _ legal).1

-- ---- the moment

pub moment_is : {N : Type 0} (past : List (Entry N)) → (summary past).moment ≡ now past
moment_is [] = refl
moment_is (e ∷ past) = ap (now_after e) (moment_is past)
