-- The numbers of a legal journal.
use Rattle.std.proofs.Common.{ℕ, suc, ◌≡◌, ◌≤◌, ◌<◌, ◌-◌, ◌^◌, ◌==◌, Bool, true, false}
use Rattle.std.proofs.Common.{cond, ◌||◌, List, [], ◌∷◌, length, ap, refl, arith}
use Rattle.std.specs.List.{list_any}
use Rattle.std.proofs.lemmas.Bool.{false≢true, and_parts, eqb-true, eq-eqb, ltb-true}
use Rattle.laws_script_taken.specs.ev_types.specs.declared.upcall.Handle.{Handle}
use Rattle.laws_script_taken.specs.ev_types.specs.declared.upcall.Mask.{Mask}
use Rattle.laws_script_taken.specs.reactor_journal.specs.declared.entry.Entry.{Entry}
use Rattle.laws_script_taken.specs.reactor_journal.specs.declared.entry.Entry.TheVariants.{Opened}
use Rattle.laws_script_taken.specs.reactor_journal.specs.declared.entry.Entry.TheVariants.{Started}
use Rattle.laws_script_taken.specs.reactor_journal.specs.Past.{count, opened}
use Rattle.laws_script_taken.specs.reactor_journal.specs.Past.{scheduled}
use Rattle.laws_script_taken.specs.reactor_journal.specs.Past.{live}
use Rattle.laws_script_taken.specs.reactor_journal.specs.Past.{is_opened}
use Rattle.laws_script_taken.specs.reactor_journal.specs.Past.{is_scheduled}
use Rattle.laws_script_taken.specs.reactor_journal.specs.Past.{is_closed}
use Rattle.laws_script_taken.specs.reactor_journal.specs.Past.{is_alive}
use Rattle.laws_script_taken.specs.reactor_journal.specs.Past.{was_opened}
use Rattle.laws_script_taken.specs.reactor_journal.specs.Past.{was_started}
use Rattle.laws_script_taken.specs.reactor_journal.specs.Past.{is_open}
use Rattle.laws_script_taken.specs.reactor_journal.specs.Past.{armed, now}
use Rattle.laws_script_taken.specs.reactor_journal.specs.Past.{waits_for_closed}
use Rattle.laws_script_taken.specs.reactor_journal.specs.Follow.{may_follow}
use Rattle.laws_script_taken.specs.reactor_journal.specs.Follow.{is_legal}
use Rattle.laws_script_taken.specs.reactor_journal.specs.Follow.{fits}
use Rattle.laws_script_taken.specs.reactor_journal.specs.Follow.{most_handles}
use Rattle.laws_script_taken.specs.reactor_journal.specs.Follow.{is_first_due}
use Rattle.laws_script_taken.specs.reactor_journal.proofs.Basics.{may_fits}
use Rattle.laws_script_taken.specs.reactor_journal.proofs.Basics.{event_at-within}
use Rattle.laws_script_taken.specs.reactor_journal.proofs.Alive.{alive_was_opened}
use Rattle.laws_script_taken.specs.reactor_journal.proofs.Alive.{opened_below}
use Rattle.laws_script_taken.specs.reactor_journal.proofs.Armed.{armed_known}
use Rattle.laws_script_taken.specs.reactor_journal.proofs.OneOpen.{started_is_event}
use Rattle.laws_script_taken.specs.reactor_journal.proofs.Steps.{open_is_event}

count_few : {A : Type 0} (p : A → Bool) (xs : List A) → count p xs ≤ length xs
count_few p [] = omega arith
count_few p (x ∷ xs) = by (p x) (count_few p xs)
  where
    by : (b : Bool) → count p xs ≤ length xs
        → cond b (suc (count p xs)) (count p xs) ≤ suc (length xs)
    by true le = omega (arith, le)
    by false le = omega (arith, le)

module _ {N : Type 0} (most : ℕ) where
  fits_here : (past : List (Entry N)) (e : Entry N) → is_legal most (e ∷ past) ≡ true
      → (fits most past e ≡ true) × (is_legal most past ≡ true)
  fits_here past e legal =
      let parts = and_parts (may_follow most past e) (is_legal most past) legal in
      (may_fits most past e parts.0, parts.1)

  opens_few : (past : List (Entry N)) (e : Entry N) → fits most past e ≡ true → is_opened e ≡ true
      → opened past < most_handles
  opens_few past (Opened handle mask) fit is =
      ltb-true (opened past) most_handles (and_parts _ _ (and_parts _ _ fit).1).1
  opens_few past _ fit is = absurd (false≢true is)

  pub opened_few : (past : List (Entry N)) → is_legal most past ≡ true → opened past ≤ most_handles
  opened_few [] legal = omega arith
  opened_few (e ∷ past) legal =
      let here = fits_here past e legal in
      by (is_opened e) refl (opens_few past e here.0) (opened_few past here.1)
    where
      by : (b : Bool) → is_opened e ≡ b → (is_opened e ≡ true → opened past < most_handles)
          → opened past ≤ most_handles
          → cond b (suc (opened past)) (opened past) ≤ most_handles
      by true is few le = let lt = few is in omega (arith, lt)
      by false is few le = le

  pub opened_here : (past : List (Entry N)) (handle : Handle) (mask : Mask)
      → is_legal most (Opened handle mask ∷ past) ≡ true → handle.0 < 2 ^ 64
  opened_here past handle mask legal =
      let fit = (fits_here past (Opened handle mask) legal).0 in
      let same = eqb-true handle.0 (opened past) (and_parts _ _ fit).0 in
      let few = opens_few past (Opened handle mask) fit refl in
      omega (arith, same, few)

  -- a handle that was opened has a number of 32 bits
  pub opened_within : (past : List (Entry N)) (x : ℕ) → is_legal most past ≡ true
      → was_opened past x ≡ true → x < 2 ^ 64
  opened_within past x legal was =
      let below = opened_below most past x legal was in
      let few = opened_few past legal in
      omega (arith, below, few)

  pub alive_within : (past : List (Entry N)) (x : ℕ) → is_legal most past ≡ true
      → is_alive past x ≡ true → x < 2 ^ 64
  alive_within past x legal alive = opened_within past x legal (alive_was_opened past x alive)

  pub waiting_within : (past : List (Entry N)) (x : ℕ) → is_legal most past ≡ true
      → waits_for_closed past x ≡ true → x < 2 ^ 64
  unfolding waits_for_closed
  waiting_within past x legal waits = opened_within past x legal (and_parts _ _ waits).0

  pub live_within : (past : List (Entry N)) → is_legal most past ≡ true → live past < 2 ^ 64
  live_within past legal = let few = opened_few past legal in
      less (count is_opened past) (count is_closed past) few
    where
      less : (a b : ℕ) → a ≤ most_handles → a - b < 2 ^ 64
      less a b le = omega (arith, le)

  module _ (past : List (Entry N)) (short : length past < 2 ^ 64) where
    pub scheduled_within : scheduled past < 2 ^ 64
    scheduled_within = let few = count_few is_scheduled past in omega (arith, few, short)

    pub due_within : (timer : ℕ) → is_legal most past ≡ true
        → is_first_due (now past) timer (armed past) ≡ true → timer < 2 ^ 64
    due_within timer legal due =
        let known = armed_known most past timer legal (first_armed (armed past) due) in
        let few = scheduled_within in omega (arith, known, few)
      where
        first_armed : (ds : List (ℕ × ℕ)) → is_first_due (now past) timer ds ≡ true
            → list_any (λ (d : ℕ × ℕ). d.1 == timer) ds ≡ true
        first_armed [] h = absurd (false≢true h)
        first_armed (d ∷ ds) h = ap (λ (b : Bool). b || list_any (λ (a : ℕ × ℕ). a.1 == timer) ds)
            (and_parts _ _ h).0

    pub started_within : (event : ℕ) → is_legal most (Started event ∷ past) ≡ true
        → suc (length past) < 2 ^ 64 → event < 2 ^ 64
    started_within event legal short =
        let made = started_is_event most (Started event ∷ past) legal event
        (ap (λ (b : Bool). b || was_started past event) (eq-eqb event event refl)) in
        let within = event_at-within (Started event ∷ past) event made in
        omega (arith, within, short)

    pub open_within : (event : ℕ) → is_legal most past ≡ true → is_open past event ≡ true
        → event < 2 ^ 64
    open_within event legal is =
        let within = event_at-within past event (open_is_event most past event legal is) in
        omega (arith, within, short)
