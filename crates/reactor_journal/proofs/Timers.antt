-- Timers keep their handles, and those that are armed have handles that are alive.
use Rattle.std.proofs.Common.{ℕ, ◌≡◌, ◌≢◌, ◌<◌, ◌==◌, Bool, true, false, not, ◌&&◌, ◌||◌, List, []}
use Rattle.std.proofs.Common.{◌∷◌, length, refl, sym, ap, ◌∙◌, subst, arith, cond, Option, Some}
use Rattle.std.proofs.Common.{None, is_some, option_map, ◌⊎◌, inl, inr, ⊎_elim}
use Rattle.std.proofs.lemmas.Bool.{false≢true, and_parts, or_cases, or_right, or_left, not-true}
use Rattle.std.proofs.lemmas.Bool.{both_ways, cases_Bool, cases_eq, eq-eqb, ne_eqb, eqb-true}
use Rattle.std.proofs.lemmas.Bool.{cond-true, cond-false}
use Rattle.std.specs.List.{list_any, filter}
use Rattle.ev_types.specs.declared.upcall.Kind.{Kind}
use Rattle.ev_types.specs.declared.upcall.Kind.TheVariants.{Read, Write, Except}
use Rattle.ev_types.specs.declared.upcall.Answer.TheVariants.{Again, Close}
use Rattle.reactor_journal.specs.declared.entry.Entry.{Entry}
use Rattle.reactor_journal.specs.declared.entry.Entry.TheVariants.{Scheduled, Cancelled, Due, Ready}
use Rattle.reactor_journal.specs.declared.entry.Entry.TheVariants.{Started, Returned, Removed}
use Rattle.reactor_journal.specs.Event.{Timer}
use Rattle.reactor_journal.specs.Event.{Event}
use Rattle.reactor_journal.specs.Past.{timer_of, is_timer_of, scheduled, event_at, event_made}
use Rattle.reactor_journal.specs.Past.{upcall_of, timeout_of, only_if_alive, is_timeout_of}
use Rattle.reactor_journal.specs.Past.{belongs_to, is_alive, was_opened, was_removed, armed}
use Rattle.reactor_journal.specs.Past.{is_armed, with_deadline, comes_before, without_handle}
use Rattle.reactor_journal.specs.Past.{without_owner, with_rearmed, rearms, period, due_at}
use Rattle.reactor_journal.specs.Past.{due_made, is_able, may_run}
use Rattle.reactor_journal.specs.Follow.{may_follow, is_legal, is_timeout_event}
use Rattle.reactor_journal.proofs.Basics.{may_fits, event_at-other, event_at-last}
use Rattle.reactor_journal.proofs.OneOpen.{started_is_able, able_is_event}
use Rattle.reactor_journal.proofs.Alive.{alive_after}

-- the timers are numbered in the order in which they were set
pub timer_below : {N : Type 0} (most : ℕ) (past : List (Entry N)) (t x : ℕ)
    → is_legal most past ≡ true → is_timer_of x (timer_of past t) ≡ true → t < scheduled past
timer_below most [] t x legal h = absurd (false≢true h)
timer_below {N} most (Scheduled timer handle first every ∷ past) t x legal h =
    let e : Entry N = Scheduled timer handle first every in
    let parts : (may_follow most past e ≡ true) × (is_legal most past ≡ true) =
    and_parts _ _ legal in
    let is : timer ≡ scheduled past = eqb-true _ _ (and_parts _ _ (may_fits most past e parts.0)).0
    in
    ⊎_elim
    (λ (q : timer ≡ t). omega arith)
    (λ (q : timer ≢ t).
    let old : timer_of (e ∷ past) t ≡ timer_of past t = cond-false _ _ _ (ne_eqb timer t q) in
    let k : t < scheduled past = timer_below most past t x parts.1
    (sym (ap (is_timer_of x) old) ∙ h) in
    omega arith)
    (cases_eq timer t)
timer_below most (_ ∷ past) t x legal h = timer_below most past t x (and_parts _ _ legal).1 h

-- a timer keeps its handle
pub timer_stays : {N : Type 0} (most : ℕ) (e : Entry N) (past : List (Entry N)) (t x : ℕ)
    → is_legal most (e ∷ past) ≡ true → is_timer_of x (timer_of past t) ≡ true
    → timer_of (e ∷ past) t ≡ timer_of past t
timer_stays {N} most (Scheduled timer handle first every) past t x legal h =
    let e : Entry N = Scheduled timer handle first every in
    let parts : (may_follow most past e ≡ true) × (is_legal most past ≡ true) =
    and_parts _ _ legal in
    let is : timer ≡ scheduled past = eqb-true _ _ (and_parts _ _ (may_fits most past e parts.0)).0
    in
    let below : t < scheduled past = timer_below most past t x parts.1 h in
    cond-false _ _ _ (ne_eqb timer t (omega arith))
timer_stays most _ past t x legal h = refl

-- no report and no notification is a timeout
pub no_timeout : (t : ℕ) (kind : Kind) → is_timeout_of t (upcall_of kind) ≡ true → ⊥
no_timeout t Read h = false≢true h
no_timeout t Write h = false≢true h
no_timeout t Except h = false≢true h

-- the event is a timeout of t only if it belongs to the handle of t
abbrev pub OwnedAs : ℕ → Option Timer → Option Event → Type 0
OwnedAs t timer event = is_timeout_event t event ≡ true → (x : ℕ)
    → belongs_to x event ≡ is_timer_of x timer

pub kept_owned : (t : ℕ) (timer : Option Timer) (alive : ℕ → Bool) (event : Option Event)
    → OwnedAs t timer event → OwnedAs t timer (only_if_alive alive event)
kept_owned t timer alive None own = own
kept_owned t timer alive (Some event) own =
    cond_either (alive event.handle) (Some event) None own (λ h. absurd (false≢true h))
  where
    cond_either : (b : Bool) (x y : Option Event) → OwnedAs t timer x → OwnedAs t timer y
        → OwnedAs t timer (cond b x y)
    cond_either true x y p q = p
    cond_either false x y p q = q

-- the event that an entry makes
pub made_owned : {N : Type 0} (e : Entry N) (past : List (Entry N)) (t : ℕ)
    → ((j : ℕ) → OwnedAs t (timer_of past t) (event_at past j))
    → OwnedAs t (timer_of past t) (event_made e (timer_of past) (event_at past)
    (λ x. was_opened past x && not (was_removed past x)))
made_owned (Due timer) past t own =
    ⊎_elim
    (λ (q : timer ≡ t). subst (λ (k : ℕ).
    OwnedAs t (timer_of past k) (option_map (timeout_of timer) (timer_of past timer))) q
    (as_set (timer_of past timer)))
    (λ (q : timer ≢ t) h. absurd (not_this q (timer_of past timer) h))
    (cases_eq timer t)
  where
    as_set : (s : Option Timer) → OwnedAs t s (option_map (timeout_of timer) s)
    as_set None = λ h x. refl
    as_set (Some s) = λ h x. refl

    not_this : (timer ≢ t) → (s : Option Timer)
        → is_timeout_event t (option_map (timeout_of timer) s) ≡ true → ⊥
    not_this q None h = false≢true h
    not_this q (Some s) h = q (eqb-true timer t h)
made_owned (Ready handle kind) past t own = λ h. absurd (no_timeout t kind h)
made_owned (Returned event Again note) past t own =
    kept_owned t (timer_of past t) (is_alive past) (event_at past event) (own event)
made_owned _ past t own = λ h. absurd (false≢true h)

pub known_handle : (t : ℕ) (timer : Option Timer) (event : Option Event) → OwnedAs t timer event
    → is_timeout_event t event ≡ true → (x : ℕ) × (is_timer_of x timer ≡ true)
known_handle t timer None own h = absurd (false≢true h)
known_handle t timer (Some event) own h =
    (event.handle, sym (own h event.handle) ∙ eq-eqb event.handle event.handle refl)

-- each timeout of t belongs to the handle of t
pub timeout_owned : {N : Type 0} (most : ℕ) (past : List (Entry N)) (t : ℕ)
    → is_legal most past ≡ true → (i : ℕ)
    → is_timeout_event t (event_at past i) ≡ true → (x : ℕ)
    → belongs_to x (event_at past i) ≡ is_timer_of x (timer_of past t)
timeout_owned most [] t legal i h x = absurd (false≢true h)
timeout_owned {N} most (e ∷ past) t legal i h x =
    let parts : (may_follow most past e ≡ true) × (is_legal most past ≡ true) =
    and_parts _ _ legal in
    let own : (event : Option Event) → event_at (e ∷ past) i ≡ event
    → OwnedAs t (timer_of past t) event
    → belongs_to x (event_at (e ∷ past) i) ≡ is_timer_of x (timer_of (e ∷ past) t) =
    λ event same own.
    let is : is_timeout_event t event ≡ true = sym (ap (is_timeout_event t) same) ∙ h in
    let known : (y : ℕ) × (is_timer_of y (timer_of past t) ≡ true) =
    known_handle t (timer_of past t) event own is in
    let stays : timer_of (e ∷ past) t ≡ timer_of past t =
    timer_stays most e past t known.0 legal known.1 in
    ap (belongs_to x) same ∙ (own is x ∙ sym (ap (is_timer_of x) stays))
    in
    ⊎_elim
    (λ (q : i ≡ length past). own _ (event_at-last e past i q)
    (made_owned e past t (λ j. timeout_owned most past t parts.1 j)))
    (λ (q : i ≢ length past). own _ (event_at-other e past i q)
    (timeout_owned most past t parts.1 i))
    (cases_eq i (length past))

-- ---- what stands in the list of armed timers

pub filtered_step : {A : Type 0} (p q : A → Bool) (y : A) (ys : List A)
    → (list_any p (filter q ys) ≡ true → (z : A) × (p z ≡ true) × (q z ≡ true)
    × (list_any p ys ≡ true))
    → (b : Bool) → q y ≡ b → list_any p (cond b (y ∷ filter q ys) (filter q ys)) ≡ true
    → (z : A) × (p z ≡ true) × (q z ≡ true) × ((p y || list_any p ys) ≡ true)
filtered_step {A} p q y ys found true is k =
    ⊎_elim
    (λ (t : p y ≡ true). (y, t, is, or_left (p y) _ t))
    (λ (t : list_any p (filter q ys) ≡ true). let r : (z : A) × (p z ≡ true) × (q z ≡ true)
    × (list_any p ys ≡ true) = found t in (r.0, r.1, r.2, or_right (p y) _ r.3))
    (or_cases (p y) _ k)
filtered_step {A} p q y ys found false is k =
    let r : (z : A) × (p z ≡ true) × (q z ≡ true) × (list_any p ys ≡ true) = found k in
    (r.0, r.1, r.2, or_right (p y) _ r.3)

pub any_filtered : {A : Type 0} (p q : A → Bool) (xs : List A) → list_any p (filter q xs) ≡ true
    → (y : A) × (p y ≡ true) × (q y ≡ true) × (list_any p xs ≡ true)
any_filtered p q [] h = absurd (false≢true h)
any_filtered p q (y ∷ ys) h = filtered_step p q y ys (any_filtered p q ys) (q y) refl h

pub any_with : (p : ℕ × ℕ → Bool) (a : ℕ × ℕ) (ds : List (ℕ × ℕ))
    → list_any p (with_deadline a ds) ≡ true → (p a ≡ true) ⊎ (list_any p ds ≡ true)
any_with p a [] h = ⊎_elim (λ (t : p a ≡ true). inl t) (λ (t : false ≡ true). absurd (false≢true t))
    (or_cases (p a) false h)
any_with p a (d ∷ ds) h = with_step p a d ds (any_with p a ds) (comes_before a d) h
  where
    with_step : (p : ℕ × ℕ → Bool) (a d : ℕ × ℕ) (ds : List (ℕ × ℕ))
        → (list_any p (with_deadline a ds) ≡ true → (p a ≡ true) ⊎ (list_any p ds ≡ true))
        → (b : Bool) → list_any p (cond b (a ∷ d ∷ ds) (d ∷ with_deadline a ds)) ≡ true
        → (p a ≡ true) ⊎ ((p d || list_any p ds) ≡ true)
    with_step p a d ds found true k = or_cases (p a) (p d || list_any p ds) k
    with_step p a d ds found false k =
        ⊎_elim
        (λ (t : p d ≡ true). inr (or_left (p d) _ t))
        (λ (t : list_any p (with_deadline a ds) ≡ true).
        ⊎_elim (λ (u : p a ≡ true). inl u)
        (λ (u : list_any p ds ≡ true). inr (or_right (p d) _ u)) (found t))
        (or_cases (p d) _ k)

-- the timer that is set again is the one whose timeout is started
pub rearms_due : {N : Type 0} (past : List (Entry N)) (due : Option ℕ) (t : ℕ)
    → rearms past due ≡ Some t → due ≡ Some t
rearms_due past None t h = h
rearms_due past (Some timer) t h =
    ⊎_elim (λ (b : (period (timer_of past timer) == 0) ≡ true).
    absurd (none (sym (cond-true _ _ _ b) ∙ h)))
    (λ (b : (period (timer_of past timer) == 0) ≡ false). sym (cond-false _ _ _ b) ∙ h)
    (cases_Bool (period (timer_of past timer) == 0))
  where
    none : ◌≡◌ {A = Option ℕ} None (Some t) → ⊥
    none q = cc

pub due_at-last : {N : Type 0} (e : Entry N) (past : List (Entry N)) (i : ℕ) → i ≡ length past
    → due_at (e ∷ past) i ≡ due_made e
due_at-last e past i h = let t : (i == length past) ≡ true = eq-eqb i (length past) h in
    rw (t, due_at) refl

pub due_at-other : {N : Type 0} (e : Entry N) (past : List (Entry N)) (i : ℕ) → i ≢ length past
    → due_at (e ∷ past) i ≡ due_at past i
due_at-other e past i h = let t : (i == length past) ≡ false = ne_eqb i (length past) h in
    rw (t, due_at) refl

pub set_timeout : (timer t : ℕ) (s : Option Timer) → Some timer ≡ Some t
    → is_some (option_map (timeout_of timer) s) ≡ true
    → is_timeout_event t (option_map (timeout_of timer) s) ≡ true
set_timeout timer t None q h = absurd (false≢true h)
set_timeout timer t (Some s) q h = let same : timer ≡ t = cc in eq-eqb timer t same

pub made_timeout : {N : Type 0} (e : Entry N) (past : List (Entry N)) (t : ℕ) → due_made e ≡ Some t
    → is_some (event_made e (timer_of past) (event_at past) (is_alive past)) ≡ true
    → is_timeout_event t (event_made e (timer_of past) (event_at past) (is_alive past)) ≡ true
made_timeout (Due timer) past t q h = set_timeout timer t (timer_of past timer) q h
made_timeout _ past t q h = absurd (none q)
  where
    none : ◌≡◌ {A = Option ℕ} None (Some t) → ⊥
    none q = cc

-- the `Due` of t is a timeout of t
pub due_timeout : {N : Type 0} (past : List (Entry N)) (i t : ℕ) → due_at past i ≡ Some t
    → is_some (event_at past i) ≡ true → is_timeout_event t (event_at past i) ≡ true
due_timeout [] i t q h = absurd (false≢true h)
due_timeout (e ∷ past) i t q h =
    ⊎_elim
    (λ (k : i ≡ length past).
    let made : event_at (e ∷ past) i ≡ event_made e (timer_of past) (event_at past)
    (is_alive past) = event_at-last e past i k in
    ap (is_timeout_event t) made ∙ made_timeout e past t (sym (due_at-last e past i k) ∙ q)
    (sym (ap is_some made) ∙ h))
    (λ (k : i ≢ length past).
    let old : event_at (e ∷ past) i ≡ event_at past i = event_at-other e past i k in
    ap (is_timeout_event t) old ∙ due_timeout past i t (sym (due_at-other e past i k) ∙ q)
    (sym (ap is_some old) ∙ h))
    (cases_eq i (length past))

-- a timer that is left when those of a handle are taken away is not of that handle
pub kept_of : {N : Type 0} (past : List (Entry N)) (t x y : ℕ)
    → is_timer_of x (timer_of past t) ≡ true
    → list_any (λ (d : ℕ × ℕ). d.1 == t) (without_handle past y (armed past)) ≡ true
    → (is_armed past t ≡ true) × ((y == x) ≡ false)
kept_of past t x y h a =
    let found : (d : ℕ × ℕ) × ((d.1 == t) ≡ true) × (not (is_timer_of y (timer_of past d.1)) ≡ true)
    × (is_armed past t ≡ true) =
    any_filtered (λ (d : ℕ × ℕ). d.1 == t) (λ (d : ℕ × ℕ). not (is_timer_of y (timer_of past d.1)))
    (armed past) a
    in
    let of_y : is_timer_of y (timer_of past t) ≡ false =
    subst (λ (k : ℕ). is_timer_of y (timer_of past k) ≡ false) (eqb-true _ _ found.1)
    (not-true _ found.2) in (
      found.3,
      ⊎_elim
          (λ (b : (y == x) ≡ true). absurd (both_ways (is_timer_of y (timer_of past t)) of_y
          (subst (λ (k : ℕ). is_timer_of k (timer_of past t) ≡ true) (sym (eqb-true y x b)) h)))
          (λ (b : (y == x) ≡ false). b)
          (cases_Bool (y == x)),
    )

pub kept_timer : {N : Type 0} (past : List (Entry N)) (t x : ℕ)
    → is_timer_of x (timer_of past t) ≡ true → (event : Option Event)
    → list_any (λ (d : ℕ × ℕ). d.1 == t) (without_owner past event (armed past)) ≡ true
    → (is_armed past t ≡ true) × (belongs_to x event ≡ false)
kept_timer past t x h None a = (a, refl)
kept_timer past t x h (Some event) a = kept_of past t x event.handle h a

pub may_run_alive : {N : Type 0} (past : List (Entry N)) (x : ℕ) (event : Option Event)
    → may_run past event ≡ true → belongs_to x event ≡ true → is_alive past x ≡ true
may_run_alive past x None h b = absurd (false≢true b)
may_run_alive past x (Some event) h b =
    subst (λ (k : ℕ). is_alive past k ≡ true) (eqb-true event.handle x b) (and_parts _ _ h).0

-- whose event is able is alive
pub able_alive : {N : Type 0} (past : List (Entry N)) (i x : ℕ) → is_able past i ≡ true
    → belongs_to x (event_at past i) ≡ true → is_alive past x ≡ true
unfolding is_able
able_alive past i x h b = may_run_alive past x (event_at past i) (and_parts _ _ h).1 b

pub rearmed_alive : {N : Type 0} (most : ℕ) (past : List (Entry N)) (event t x : ℕ)
    → is_legal most past ≡ true → is_able past event ≡ true → is_timer_of x (timer_of past t) ≡ true
    → (is_armed past t ≡ true → is_alive past x ≡ true) → (again : Option ℕ)
    → rearms past (due_at past event) ≡ again
    → list_any (λ (d : ℕ × ℕ). d.1 == t) (with_rearmed past again (armed past)) ≡ true
    → is_alive past x ≡ true
rearmed_alive most past event t x legal able h before None is a = before a
rearmed_alive most past event t x legal able h before (Some timer) is a =
    ⊎_elim
    (λ (b : (timer == t) ≡ true).
    let due : due_at past event ≡ Some t =
    rearms_due past (due_at past event) timer is ∙ ap Some (eqb-true timer t b) in
    let timeout : is_timeout_event t (event_at past event) ≡ true =
    due_timeout past event t due (able_is_event past event able) in
    able_alive past event x able (timeout_owned most past t legal event timeout x ∙ h))
    (λ (b : is_armed past t ≡ true). before b)
    (any_with (λ (d : ℕ × ℕ). d.1 == t) _ (armed past) a)

-- the handle of each armed timer is alive
pub armed_alive : {N : Type 0} (most : ℕ) (past : List (Entry N)) → is_legal most past ≡ true
    → (t x : ℕ) → is_armed past t ≡ true → is_timer_of x (timer_of past t) ≡ true
    → is_alive past x ≡ true
armed_alive most [] legal t x a h = absurd (false≢true a)
armed_alive {N} most (Scheduled timer handle first every ∷ past) legal t x a h =
    let e : Entry N = Scheduled timer handle first every in
    let parts : (may_follow most past e ≡ true) × (is_legal most past ≡ true) =
    and_parts _ _ legal in
    ⊎_elim
    (λ (b : (timer == t) ≡ true).
    let set : timer_of (e ∷ past) t ≡ Some (record { handle = handle.0; every = every }) =
    cond-true _ _ _ b in
    let q : handle.0 ≡ x = eqb-true _ _ (sym (ap (is_timer_of x) set) ∙ h) in
    let alive : is_alive past handle.0 ≡ true =
    (and_parts _ _ (and_parts _ _ (may_fits most past e parts.0)).1).0 in
    alive_after e past x (subst (λ (k : ℕ). is_alive past k ≡ true) q alive) refl)
    (λ (b : (timer == t) ≡ false).
    let old : timer_of (e ∷ past) t ≡ timer_of past t = cond-false _ _ _ b in
    let before : is_armed past t ≡ true =
    ⊎_elim (λ (k : (timer == t) ≡ true). absurd (both_ways (timer == t) b k))
    (λ (k : is_armed past t ≡ true). k) (any_with (λ d. d.1 == t) (first, timer) (armed past) a)
    in
    alive_after e past x (armed_alive most past parts.1 t x before
    (sym (ap (is_timer_of x) old) ∙ h)) refl)
    (cases_Bool (timer == t))
armed_alive {N} most (Cancelled timer ∷ past) legal t x a h =
    alive_after (Cancelled timer) past x
    (armed_alive most past (and_parts _ _ legal).1 t x
    (any_filtered (λ d. d.1 == t) (λ d. not (d.1 == timer)) (armed past) a).3 h) refl
armed_alive {N} most (Due timer ∷ past) legal t x a h =
    alive_after (Due timer) past x (armed_alive most past (and_parts _ _ legal).1 t x
    (any_filtered (λ d. d.1 == t) (λ d. not (d.1 == timer)) (armed past) a).3 h) refl
armed_alive {N} most (Started event ∷ past) legal t x a h =
    let e : Entry N = Started event in
    let parts : (may_follow most past e ≡ true) × (is_legal most past ≡ true) =
    and_parts _ _ legal in
    let able : is_able past event ≡ true =
    started_is_able most past e event parts.0 (eq-eqb event event refl) in
    alive_after e past x
    (rearmed_alive most past event t x parts.1 able h (λ k. armed_alive most past parts.1 t x k h)
    (rearms past (due_at past event)) refl a)
    refl
armed_alive {N} most (Returned event Close note ∷ past) legal t x a h =
    let parts : (may_follow most past (Returned event Close note) ≡ true)
    × (is_legal most past ≡ true) = and_parts _ _ legal in
    let kept : (is_armed past t ≡ true) × (belongs_to x (event_at past event) ≡ false) =
    kept_timer past t x h (event_at past event) a in
    alive_after (Returned event Close note) past x (armed_alive most past parts.1 t x kept.0 h)
    kept.1
armed_alive {N} most (Removed handle ∷ past) legal t x a h =
    let parts : (may_follow most past (Removed handle) ≡ true) × (is_legal most past ≡ true) =
    and_parts _ _ legal in
    let kept : (is_armed past t ≡ true) × ((handle.0 == x) ≡ false) =
    kept_of past t x handle.0 h a in
    alive_after (Removed handle) past x (armed_alive most past parts.1 t x kept.0 h) kept.1
armed_alive most (e ∷ past) legal t x a h =
    alive_after e past x (armed_alive most past (and_parts _ _ legal).1 t x a h) refl
