-- A handle is closed once, and is named by no entry after that but `Stale`.
use Rattle.std.proofs.Common.{ℕ, zero, suc, ◌≡◌, ◌≢◌, ◌<◌, ◌≤◌, ◌==◌, Bool, true, false, not, ◌&&◌}
use Rattle.std.proofs.Common.{List, [], ◌∷◌, length, refl, sym, ap, ◌∙◌, subst, arith, cond, Option}
use Rattle.std.proofs.Common.{Some, None, option_map, ⊎_elim}
use Rattle.std.proofs.lemmas.Bool.{false≢true, and_parts, or_cases, or_parts, and_from, or_right}
use Rattle.std.proofs.lemmas.Bool.{or_left, not-true, both_ways, cases_Bool, cases_eq, eq-eqb}
use Rattle.std.proofs.lemmas.Bool.{eqb-true, cond-true, cond-false}
use Rattle.std.specs.List.{list_any}
use Rattle.std.specs.Prelude.{nat_le}
use Rattle.ev_types.specs.declared.upcall.Answer.TheVariants.{Again, Close}
use Rattle.reactor_journal.specs.declared.entry.Entry.{Entry}
use Rattle.reactor_journal.specs.declared.entry.Entry.TheVariants.{Opened, Scheduled, Cancelled}
use Rattle.reactor_journal.specs.declared.entry.Entry.TheVariants.{Polled, Due, Ready, Posted}
use Rattle.reactor_journal.specs.declared.entry.Entry.TheVariants.{Stale, Started, Returned, Masked}
use Rattle.reactor_journal.specs.declared.entry.Entry.TheVariants.{Suspended, Resumed, Refused}
use Rattle.reactor_journal.specs.declared.entry.Entry.TheVariants.{Removed, Closed, Ended}
use Rattle.reactor_journal.specs.Event.{Timer}
use Rattle.reactor_journal.specs.Event.{Event}
use Rattle.reactor_journal.specs.Past.{any_below, count, closes, starts, timer_of, timeout_of}
use Rattle.reactor_journal.specs.Past.{is_timer_of, event_at, event_made, only_if_alive, belongs_to}
use Rattle.reactor_journal.specs.Past.{ends, drops_it, is_event, is_alive, was_opened, was_removed}
use Rattle.reactor_journal.specs.Past.{was_closed, was_started, was_taken, is_open, is_busy}
use Rattle.reactor_journal.specs.Past.{is_able, is_waiting, armed, is_armed, waits_for_closed}
use Rattle.reactor_journal.specs.Past.{opened, names, is_stale}
use Rattle.reactor_journal.specs.Follow.{may_follow, is_legal, is_timeout_event, timeout_waits}
use Rattle.reactor_journal.specs.Follow.{is_first_due}
use Rattle.reactor_journal.proofs.Basics.{may_fits, event_at-other, event_at-last, event_at-before}
use Rattle.reactor_journal.proofs.Basics.{event_at-within, belongs_is_event}
use Rattle.reactor_journal.proofs.OneOpen.{started_is_able, able_is_event, open_is_busy, open_cases}
use Rattle.reactor_journal.proofs.OneOpen.{started_is_event}
use Rattle.reactor_journal.proofs.Fates.{count_none}
use Rattle.reactor_journal.proofs.Alive.{alive_after, not_both, opened_below, dead_was_removed}
use Rattle.reactor_journal.proofs.Timers.{armed_alive, able_alive, timeout_owned}

-- what ends the life of a handle drops its events
pub end_drops : {N : Type 0} (events : ℕ → Option Event) (e : Entry N) (x : ℕ)
    (event : Option Event) → belongs_to x event ≡ true → ends x events e ≡ true
    → drops_it event events e ≡ true
end_drops events e x None b h = absurd (false≢true b)
end_drops events (Removed handle) x (Some event) b h = let q : event.handle ≡ x = eqb-true _ _ b in
    let r : handle.0 ≡ x = eqb-true _ _ h in eq-eqb handle.0 event.handle (omega arith)
end_drops events (Returned other Close note) x (Some event) b h =
    subst (λ (k : ℕ). belongs_to k (events other) ≡ true) (sym (eqb-true event.handle x b)) h
end_drops events _ x (Some event) b h = absurd (false≢true h)

pub first_due_armed : (moment t : ℕ) (ds : List (ℕ × ℕ)) → is_first_due moment t ds ≡ true
    → list_any (λ (d : ℕ × ℕ). d.1 == t) ds ≡ true
first_due_armed moment t [] h = absurd (false≢true h)
first_due_armed moment t (d ∷ ds) h =
    or_left (d.1 == t) _ (and_parts (d.1 == t) (nat_le d.0 moment) h).0

-- what comes due was armed
pub due_is_armed : {N : Type 0} (most : ℕ) (past : List (Entry N)) (timer : ℕ)
    → may_follow most past (Due timer) ≡ true → is_armed past timer ≡ true
due_is_armed most past timer may =
    first_due_armed _ timer (armed past) (and_parts _ _ (may_fits most past (Due timer) may)).1

-- the handle of an event that an entry makes is alive
pub made_alive : {N : Type 0} (most : ℕ) (e : Entry N) (past : List (Entry N)) (x : ℕ)
    → is_legal most past ≡ true → may_follow most past e ≡ true
    → belongs_to x (event_made e (timer_of past) (event_at past) (is_alive past)) ≡ true
    → (is_alive past x ≡ true) × (ends x (event_at past) e ≡ false)
made_alive most (Due timer) past x legal may b = (
  armed_alive most past legal timer x (due_is_armed most past timer may)
      (as_timer (timer_of past timer) b),
  refl,
)
  where
    as_timer : (s : Option Timer) → belongs_to x (option_map (timeout_of timer) s) ≡ true
        → is_timer_of x s ≡ true
    as_timer None b = absurd (false≢true b)
    as_timer (Some s) b = b
made_alive most (Ready handle kind) past x legal may b = (
  subst (λ (k : ℕ). is_alive past k ≡ true) (eqb-true handle.0 x b)
      (and_parts _ _ (and_parts _ _ (and_parts _ _
      (may_fits most past (Ready handle kind) may)).1).1).0,
  refl,
)
made_alive most (Posted handle kind from seq) past x legal may b = (
  subst (λ (k : ℕ). is_alive past k ≡ true) (eqb-true handle.0 x b)
      (may_fits most past (Posted handle kind from seq) may),
  refl,
)
made_alive {N} most (Returned other Again note) past x legal may b =
    (kept_alive (event_at past other) b, refl)
  where
    kept_if : (event : Event) (c : Bool) → is_alive past event.handle ≡ c
        → belongs_to x (cond c (Some event) None) ≡ true → is_alive past x ≡ true
    kept_if event true q b = subst (λ (k : ℕ). is_alive past k ≡ true) (eqb-true event.handle x b) q
    kept_if event false q b = absurd (false≢true b)

    kept_alive : (event : Option Event) → belongs_to x (only_if_alive (is_alive past) event) ≡ true
        → is_alive past x ≡ true
    kept_alive None b = absurd (false≢true b)
    kept_alive (Some event) b = kept_if event (is_alive past event.handle) refl b
made_alive most _ past x legal may b = absurd (false≢true b)

-- the handle of each event that waits is alive
pub waiting_alive : {N : Type 0} (most : ℕ) (past : List (Entry N)) (i x : ℕ)
    → is_legal most past ≡ true → is_waiting past i ≡ true → belongs_to x (event_at past i) ≡ true
    → is_alive past x ≡ true
waiting_alive most [] i x legal w b = absurd (false≢true b)
waiting_alive {N} most (e ∷ past) i x legal w b =
    let parts : (may_follow most past e ≡ true) × (is_legal most past ≡ true) =
    and_parts _ _ legal in
    let idle : (is_event (e ∷ past) i ≡ true) × (not (was_started (e ∷ past) i) ≡ true)
    × (not (was_taken (e ∷ past) i) ≡ true) = (
      (and_parts _ _ w).0,
      (and_parts _ _ (and_parts _ _ w).1).0,
      (and_parts _ _ (and_parts _ _ w).1).1,
    ) in
    let not_started : was_started past i ≡ false = (or_parts _ _ (not-true _ idle.1)).1 in
    let not_taken : (drops_it (event_at past i) (event_at past) e ≡ false)
    × (was_taken past i ≡ false) = or_parts _ _ (not-true _ idle.2) in
    ⊎_elim
    (λ (q : i ≡ length past).
    let made : (is_alive past x ≡ true) × (ends x (event_at past) e ≡ false) =
    made_alive most e past x parts.1 parts.0
    (sym (ap (belongs_to x) (event_at-last e past i q)) ∙ b) in
    alive_after e past x made.0 made.1)
    (λ (q : i ≢ length past).
    let old : event_at (e ∷ past) i ≡ event_at past i = event_at-other e past i q in
    let mine : belongs_to x (event_at past i) ≡ true = sym (ap (belongs_to x) old) ∙ b in
    let waited : is_waiting past i ≡ true =
    and_from _ _ (belongs_is_event past i x mine)
    (and_from _ _ (ap not not_started) (ap not not_taken.1)) in
    alive_after e past x (waiting_alive most past i x parts.1 waited mine)
    (⊎_elim
    (λ (t : ends x (event_at past) e ≡ true).
    absurd (both_ways _ not_taken.0 (end_drops (event_at past) e x (event_at past i) mine t)))
    (λ (f : ends x (event_at past) e ≡ false). f)
    (cases_Bool (ends x (event_at past) e))))
    (cases_eq i (length past))

pub any_below-some : (n : ℕ) (test : ℕ → Bool) → any_below n test ≡ true → (i : ℕ) × (i < n)
    × (test i ≡ true)
any_below-some zero test h = absurd (false≢true h)
any_below-some (suc n) test h =
    ⊎_elim
    (λ (t : test n ≡ true). (n, omega arith, t))
    (λ (t : any_below n test ≡ true). let r : (i : ℕ) × (i < n) × (test i ≡ true) =
    any_below-some n test t in (r.0, omega arith, r.2))
    (or_cases (test n) (any_below n test) h)

-- what the closing of a handle needs
pub closing : {N : Type 0} (past : List (Entry N)) (x : ℕ) → waits_for_closed past x ≡ true
    → (was_opened past x ≡ true) × (is_alive past x ≡ false) × (is_busy past x ≡ false)
    × (was_closed past x ≡ false)
unfolding waits_for_closed
closing past x h =
    let a : (was_opened past x ≡ true)
    × ((not (is_alive past x) && (not (is_busy past x) && not (was_closed past x))) ≡ true) =
    and_parts _ _ h in
    let b : (not (is_alive past x) ≡ true)
    × ((not (is_busy past x) && not (was_closed past x)) ≡ true) = and_parts _ _ a.1 in
    let c : (not (is_busy past x) ≡ true) × (not (was_closed past x) ≡ true) = and_parts _ _ b.1 in
    (a.0, not-true _ b.0, not-true _ c.0, not-true _ c.1)

-- a handle that was closed: it was opened and removed, and none of its events is open
pub record Gone {N : Type 0} (past : List (Entry N)) (x : ℕ) : Type 0 where
  pub opened : was_opened past x ≡ true
  pub removed : was_removed past x ≡ true
  pub idle : (i : ℕ) → is_open past i ≡ true → belongs_to x (event_at past i) ≡ true → ⊥

-- it stays so
pub gone_still : {N : Type 0} (most : ℕ) (e : Entry N) (past : List (Entry N)) (x : ℕ)
    → is_legal most (e ∷ past) ≡ true → Gone past x → Gone (e ∷ past) x
gone_still most e past x legal g =
    let parts : (may_follow most past e ≡ true) × (is_legal most past ≡ true) =
    and_parts _ _ legal in
    record {
      opened = or_right _ _ g.opened;
      removed = or_right _ _ g.removed;
      idle = λ i o b.
          ⊎_elim
          (λ (s : starts i e ≡ true).
          let able : is_able past i ≡ true = started_is_able most past e i parts.0 s in
          let mine : belongs_to x (event_at past i) ≡ true =
          sym (ap (belongs_to x) (event_at-before e past i (able_is_event past i able))) ∙ b in
          not_both past x (able_alive past i x able mine) g.removed)
          (λ (h : is_open past i ≡ true).
          let event : is_event past i ≡ true =
          started_is_event most past parts.1 i (and_parts _ _ h).0 in
          g.idle i h (sym (ap (belongs_to x) (event_at-before e past i event)) ∙ b))
          (open_cases e past i o);
    }

pub gone_first : {N : Type 0} (most : ℕ) (past : List (Entry N)) (x : ℕ)
    → waits_for_closed past x ≡ true → Gone past x
gone_first most past x h =
    let c : (was_opened past x ≡ true) × (is_alive past x ≡ false) × (is_busy past x ≡ false)
    × (was_closed past x ≡ false) = closing past x h in
    record {
      opened = c.0;
      removed = dead_was_removed past x c.0 c.1;
      idle = λ i o b. both_ways (is_busy past x) c.2
          (open_is_busy past i x (event_at-within past i (belongs_is_event past i x b)) o b);
    }

pub closed_waits : {N : Type 0} (most : ℕ) (past : List (Entry N)) (e : Entry N) (x : ℕ)
    → may_follow most past e ≡ true → closes x e ≡ true → waits_for_closed past x ≡ true
closed_waits most past (Closed handle note) x may c =
    subst (λ (k : ℕ). waits_for_closed past k ≡ true) (eqb-true handle.0 x c)
    (may_fits most past (Closed handle note) may)
closed_waits most past _ x may c = absurd (false≢true c)

pub closed_gone : {N : Type 0} (most : ℕ) (past : List (Entry N)) (x : ℕ)
    → is_legal most past ≡ true → was_closed past x ≡ true → Gone past x
closed_gone most [] x legal c = absurd (false≢true c)
closed_gone most (e ∷ past) x legal c =
    let parts : (may_follow most past e ≡ true) × (is_legal most past ≡ true) =
    and_parts _ _ legal in
    ⊎_elim
    (λ (h : closes x e ≡ true). gone_still most e past x legal
    (gone_first most past x (closed_waits most past e x parts.0 h)))
    (λ (h : was_closed past x ≡ true).
    gone_still most e past x legal (closed_gone most past x parts.1 h))
    (or_cases (closes x e) (was_closed past x) c)

pub closed_once : {N : Type 0} (most : ℕ) (past : List (Entry N)) (x : ℕ)
    → is_legal most past ≡ true → count (closes x) past ≤ 1
closed_once most [] x legal = omega arith
closed_once most (e ∷ past) x legal =
    let parts : (may_follow most past e ≡ true) × (is_legal most past ≡ true) =
    and_parts _ _ legal in
    let before : count (closes x) past ≤ 1 = closed_once most past x parts.1 in
    ⊎_elim
    (λ (h : closes x e ≡ true).
    let none : count (closes x) past ≡ 0 =
    count_none (closes x) past (closing past x (closed_waits most past e x parts.0 h)).3 in
    let one : count (closes x) (e ∷ past) ≡ suc (count (closes x) past) = cond-true _ _ _ h in
    omega arith)
    (λ (h : closes x e ≡ false).
    let one : count (closes x) (e ∷ past) ≡ count (closes x) past = cond-false _ _ _ h in
    omega arith)
    (cases_Bool (closes x e))

-- an entry that needs x alive can't follow once x is gone
pub dead : {N : Type 0} (most : ℕ) (past : List (Entry N)) (h x : ℕ) → Gone past x → (h == x) ≡ true
    → is_alive past h ≡ true → ⊥
dead most past h x g q a = not_both past x
    (subst (λ (k : ℕ). is_alive past k ≡ true) (eqb-true h x q) a) g.removed

pub late_timeout : {N : Type 0} (most : ℕ) (past : List (Entry N)) (t x : ℕ)
    → is_legal most past ≡ true → Gone past x → is_timer_of x (timer_of past t) ≡ true
    → timeout_waits past t ≡ true → ⊥
unfolding timeout_waits
late_timeout most past t x legal g n h =
    let found : (i : ℕ) × (i < length past)
    × ((is_waiting past i && is_timeout_event t (event_at past i)) ≡ true) =
    any_below-some (length past) _ h in
    let both : (is_waiting past found.0 ≡ true)
    × (is_timeout_event t (event_at past found.0) ≡ true) = and_parts _ _ found.2 in
    not_both past x (waiting_alive most past found.0 x legal both.0
    (timeout_owned most past t legal found.0 both.1 x ∙ n)) g.removed

-- after the closing of a handle, only `Stale` names it
pub only_stale : {N : Type 0} (most : ℕ) (past : List (Entry N)) (e : Entry N) (x : ℕ)
    → is_legal most past ≡ true → may_follow most past e ≡ true → was_closed past x ≡ true
    → names past e x ≡ true → is_stale e ≡ true
only_stale most past (Opened handle mask) x legal may c n =
    let below : x < opened past = opened_below most past x legal
    (closed_gone most past x legal c).opened in
    let new : handle.0 ≡ opened past =
    eqb-true _ _ (and_parts _ _ (may_fits most past (Opened handle mask) may)).0 in
    let same : handle.0 ≡ x = eqb-true _ _ n in
    absurd (omega arith)
only_stale most past (Scheduled timer handle first every) x legal may c n =
    absurd (dead most past handle.0 x (closed_gone most past x legal c) n
    (and_parts _ _ (and_parts _ _ (may_fits most past (Scheduled timer handle first every)
    may)).1).0)
only_stale most past (Cancelled timer) x legal may c n =
    let g : Gone past x = closed_gone most past x legal c in
    ⊎_elim
    (λ (h : is_armed past timer ≡ true).
    not_both past x (armed_alive most past legal timer x h n) g.removed)
    (λ (h : timeout_waits past timer ≡ true). absurd (late_timeout most past timer x legal g n h))
    (or_cases (is_armed past timer) (timeout_waits past timer)
    (may_fits most past (Cancelled timer) may))
only_stale most past (Polled moment) x legal may c n = absurd (false≢true n)
only_stale most past (Due timer) x legal may c n =
    not_both past x (armed_alive most past legal timer x (due_is_armed most past timer may) n)
    (closed_gone most past x legal c).removed
only_stale most past (Ready handle kind) x legal may c n =
    absurd (dead most past handle.0 x (closed_gone most past x legal c) n
    (and_parts _ _ (and_parts _ _ (and_parts _ _
    (may_fits most past (Ready handle kind) may)).1).1).0)
only_stale most past (Posted handle kind from seq) x legal may c n =
    absurd (dead most past handle.0 x (closed_gone most past x legal c) n
    (may_fits most past (Posted handle kind from seq) may))
only_stale most past (Stale handle from seq) x legal may c n = refl
only_stale most past (Started event) x legal may c n =
    not_both past x (able_alive past event x
    (started_is_able most past (Started event) event may (eq-eqb event event refl)) n)
    (closed_gone most past x legal c).removed
only_stale most past (Returned event answer note) x legal may c n =
    absurd ((closed_gone most past x legal c).idle event
    (may_fits most past (Returned event answer note) may) n)
only_stale most past (Masked handle mask) x legal may c n =
    absurd (dead most past handle.0 x (closed_gone most past x legal c) n
    (may_fits most past (Masked handle mask) may))
only_stale most past (Suspended handle) x legal may c n =
    absurd (dead most past handle.0 x (closed_gone most past x legal c) n
    (and_parts _ _ (may_fits most past (Suspended handle) may)).0)
only_stale most past (Resumed handle) x legal may c n =
    absurd (dead most past handle.0 x (closed_gone most past x legal c) n
    (and_parts _ _ (may_fits most past (Resumed handle) may)).0)
only_stale most past (Refused number fault note) x legal may c n = absurd (false≢true n)
only_stale most past (Removed handle) x legal may c n =
    absurd (dead most past handle.0 x (closed_gone most past x legal c) n
    (may_fits most past (Removed handle) may))
only_stale most past (Closed handle note) x legal may c n =
    let not_yet : was_closed past handle.0 ≡ false =
    (closing past handle.0 (may_fits most past (Closed handle note) may)).3 in
    absurd (both_ways (was_closed past x)
    (subst (λ (k : ℕ). was_closed past k ≡ false) (eqb-true handle.0 x n) not_yet) c)
only_stale most past Ended x legal may c n = absurd (false≢true n)
