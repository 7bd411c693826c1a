-- Turns and lives.
use Rattle.std.proofs.Common.{ℕ, ◌≡◌, ◌==◌, Bool, true, false, not, List, [], ◌∷◌, ◌++◌, refl, sym}
use Rattle.std.proofs.Common.{ap, ◌∙◌, subst, cond, Option, Some, None, ⊎_elim}
use Rattle.std.proofs.lemmas.Bool.{false≢true, and_parts, and_from, or_parts, not-true, both_ways}
use Rattle.std.proofs.lemmas.Bool.{cases_Bool, cond-true, eq-eqb}
use Rattle.std.proofs.lemmas.List.{append-nil}
use Rattle.std.specs.List.{list_all}
use Rattle.reactor_summary.specs.ev_types.specs.declared.upcall.Answer.{Answer}
use Rattle.reactor_summary.specs.ev_types.specs.declared.upcall.Answer.TheVariants.{Keep, Again}
use Rattle.reactor_summary.specs.ev_types.specs.declared.upcall.Answer.TheVariants.{Close}
use Rattle.reactor_summary.specs.ev_types.specs.declared.upcall.Why.{Why}
use Rattle.reactor_summary.specs.ev_types.specs.declared.upcall.Why.TheVariants.{Own}
use Rattle.reactor_summary.specs.ev_types.specs.declared.upcall.Why.TheVariants.{
  Removed as RemovedBy,
}
use Rattle.reactor_summary.specs.reactor_journal.specs.Event.{Event, Item}
use Rattle.reactor_summary.specs.reactor_journal.specs.declared.entry.Entry.{Entry}
use Rattle.reactor_summary.specs.reactor_journal.specs.declared.entry.Entry.TheVariants.{Returned}
use Rattle.reactor_summary.specs.reactor_journal.specs.Past.{event_at, belongs_to, starts, returns}
use Rattle.reactor_summary.specs.reactor_journal.specs.Past.{ends, opens, is_open, is_alive}
use Rattle.reactor_summary.specs.reactor_journal.specs.Past.{is_event, was_opened, was_removed, had}
use Rattle.reactor_summary.specs.reactor_journal.specs.Past.{items_made, item_of, started_at}
use Rattle.reactor_summary.specs.reactor_journal.specs.Past.{ended_itself, closes_itself, reason_of}
use Rattle.reactor_summary.specs.reactor_journal.specs.Follow.{may_follow, is_legal}
use Rattle.reactor_summary.specs.reactor_journal.proofs.Basics.{may_fits, event_at-before}
use Rattle.reactor_summary.specs.reactor_journal.proofs.OneOpen.{started_is_able, able_is_event}
use Rattle.reactor_summary.specs.reactor_journal.proofs.OneOpen.{open_cases, started_is_event}
use Rattle.reactor_summary.specs.reactor_journal.proofs.OneOpen.{one_open}
use Rattle.reactor_summary.specs.reactor_journal.proofs.Alive.{alive_not_removed, not_both}
use Rattle.reactor_summary.specs.reactor_journal.proofs.Timers.{able_alive}
use Rattle.reactor_summary.specs.reactor_journal.proofs.HadLaw.{quiet, returned_is_open}
use Rattle.reactor_summary.proofs.Opened.{open_opened}
use Rattle.laws_turns.specs.Laws.{stays}

all-append : {A : Type 0} (p : A → Bool) (xs ys : List A) → list_all p xs ≡ true
    → list_all p ys ≡ true → list_all p (xs ++ ys) ≡ true
all-append p [] ys h k = k
all-append p (x ∷ xs) ys h k =
    let both : (p x ≡ true) × (list_all p xs ≡ true) = and_parts _ _ h in
    and_from (p x) (list_all p (xs ++ ys)) both.0 (all-append p xs ys both.1 k)

no_mine : {N : Type 0} (most : ℕ) (e : Entry N) (past : List (Entry N)) (x : ℕ)
    → is_legal most past ≡ true → may_follow most past e ≡ true → was_opened past x ≡ false
    → (j : ℕ) → returns j e ≡ true → belongs_to x (event_at past j) ≡ false
no_mine most e past x legal may unopened j r =
    ⊎_elim
    (λ (t : belongs_to x (event_at past j) ≡ true).
    absurd (both_ways _ unopened (open_opened most past j x legal
    (returned_is_open most past e j may r) t)))
    (λ (f : belongs_to x (event_at past j) ≡ false). f)
    (cases_Bool (belongs_to x (event_at past j)))

-- a handle that was not opened has had no turn
pub had_none : {N : Type 0} (most : ℕ) (past : List (Entry N)) (x : ℕ) → is_legal most past ≡ true
    → was_opened past x ≡ false → had past x ≡ []
had_none most [] x legal h = refl
had_none most (e ∷ past) x legal h =
    let parts : (may_follow most past e ≡ true) × (is_legal most past ≡ true) =
    and_parts _ _ legal in
    let old : was_opened past x ≡ false = (or_parts (opens x e) (was_opened past x) h).1 in
    ap (λ items. items ++ items_made past x e) (had_none most past x parts.1 old)
    ∙ quiet past x e (no_mine most e past x parts.1 parts.0 old)

-- the turn that the entry records is not answered by Close, if the entry ends no life
item_stays : {N : Type 0} (x : ℕ) (event : Option Event) (moment : ℕ) (answer : Answer) (note : N)
    → (answer ≡ Close → belongs_to x event ≡ false)
    → list_all (λ (item : Item N). stays item.answer) (item_of x event moment answer note) ≡ true
item_stays x None moment answer note h = refl
item_stays {N} x (Some event) moment answer note h = by_cases (event.handle == x) answer h
  where
    by_cases : (b : Bool) (answer : Answer) → (answer ≡ Close → b ≡ false)
        → list_all (λ (item : Item N). stays item.answer)
        (cond b (record { upcall = event.upcall; moment = moment; answer = answer; note = note }
        ∷ []) []) ≡ true
    by_cases true Keep h = refl
    by_cases true Again h = refl
    by_cases true Close h = absurd (false≢true (sym (h refl)))
    by_cases false answer h = refl

made_stays : {N : Type 0} (e : Entry N) (past : List (Entry N)) (x : ℕ)
    → ends x (event_at past) e ≡ false
    → list_all (λ (item : Item N). stays item.answer) (items_made past x e) ≡ true
made_stays (Returned event Keep note) past x h =
    item_stays x (event_at past event) (started_at past event) Keep note (λ q. absurd (not_close q))
  where
    not_close : ◌≡◌ {A = Answer} Keep Close → ⊥
    not_close q = cc
made_stays (Returned event Again note) past x h =
    item_stays x (event_at past event) (started_at past event) Again note
    (λ q. absurd (not_close q))
  where
    not_close : ◌≡◌ {A = Answer} Again Close → ⊥
    not_close q = cc
made_stays (Returned event Close note) past x h =
    item_stays x (event_at past event) (started_at past event) Close note (λ q. h)
made_stays _ past x h = refl

pub had_stays : {N : Type 0} (most : ℕ) (past : List (Entry N)) (x : ℕ) → is_legal most past ≡ true
    → is_alive past x ≡ true → list_all (λ (item : Item N). stays item.answer) (had past x) ≡ true
had_stays most [] x legal h = refl
had_stays {N} most (e ∷ past) x legal h =
    let parts : (may_follow most past e ≡ true) × (is_legal most past ≡ true) =
    and_parts _ _ legal in
    let lives : (ends x (event_at past) e ≡ false) × (was_removed past x ≡ false) =
    or_parts _ _ (alive_not_removed (e ∷ past) x h) in
    ⊎_elim
    (λ (o : was_opened past x ≡ true).
    all-append (λ (item : Item N). stays item.answer) (had past x) (items_made past x e)
    (had_stays most past x parts.1 (and_from (was_opened past x) (not (was_removed past x)) o
    (ap not lives.1)))
    (made_stays e past x lives.0))
    (λ (o : was_opened past x ≡ false).
    ap (list_all (λ (item : Item N). stays item.answer))
    (ap (λ items. items ++ items_made past x e) (had_none most past x parts.1 o)
    ∙ quiet past x e (no_mine most e past x parts.1 parts.0 o)))
    (cases_Bool (was_opened past x))

-- ---- the handler that ended its own life

step_old : {N : Type 0} (e : Entry N) (past : List (Entry N)) (x : ℕ) → was_removed past x ≡ true
    → ended_itself (e ∷ past) x ≡ ended_itself past x
step_old e past x h = rw (h, ended_itself) refl

step_new : {N : Type 0} (e : Entry N) (past : List (Entry N)) (x : ℕ) → was_removed past x ≡ false
    → ended_itself (e ∷ past) x ≡ closes_itself x (event_at past) e
step_new e past x h = rw (h, ended_itself) refl

closing_other : {N : Type 0} (most : ℕ) (e : Entry N) (past : List (Entry N)) (x i : ℕ)
    → is_legal most past ≡ true → may_follow most past e ≡ true
    → closes_itself x (event_at past) e ≡ true → is_open (e ∷ past) i ≡ true
    → belongs_to x (event_at past i) ≡ true → ⊥
closing_other {N} most (Returned event Close note) past x i legal may c o b =
    let e : Entry N = Returned event Close note in
    let was : is_open past i ≡ true = ⊎_elim (λ (s : starts i e ≡ true). absurd (false≢true s))
    (λ (k : is_open past i ≡ true). k) (open_cases e past i o) in
    let same : event ≡ i = one_open most past legal event i x (may_fits most past e may) was c b in
    let not_returned : (event == i) ≡ false = (or_parts _ _ (not-true _ (and_parts _ _ o).1)).0 in
    both_ways _ not_returned (eq-eqb event i same)
closing_other most _ past x i legal may c o b = false≢true c

pub ended_idle : {N : Type 0} (most : ℕ) (past : List (Entry N)) (x : ℕ) → is_legal most past ≡ true
    → ended_itself past x ≡ true → (i : ℕ) → is_open past i ≡ true
    → belongs_to x (event_at past i) ≡ true → ⊥
ended_idle most [] x legal h i o b = false≢true h
ended_idle {N} most (e ∷ past) x legal h i o b =
    let parts : (may_follow most past e ≡ true) × (is_legal most past ≡ true) =
    and_parts _ _ legal in
    let event : is_event past i ≡ true =
    ⊎_elim
    (λ (s : starts i e ≡ true). able_is_event past i (started_is_able most past e i parts.0 s))
    (λ (k : is_open past i ≡ true). started_is_event most past parts.1 i (and_parts _ _ k).0)
    (open_cases e past i o)
    in
    let mine : belongs_to x (event_at past i) ≡ true =
    sym (ap (belongs_to x) (event_at-before e past i event)) ∙ b in
    ⊎_elim
    (λ (r : was_removed past x ≡ true).
    ⊎_elim
    (λ (s : starts i e ≡ true). not_both past x
    (able_alive past i x (started_is_able most past e i parts.0 s) mine) r)
    (λ (k : is_open past i ≡ true). ended_idle most past x parts.1 (sym (step_old e past x r) ∙ h) i
    k mine)
    (open_cases e past i o))
    (λ (r : was_removed past x ≡ false).
    closing_other most e past x i parts.1 parts.0 (sym (step_new e past x r) ∙ h) o mine)
    (cases_Bool (was_removed past x))

pub record Last (N : Type 0) (items : List (Item N)) : Type 0 where
  pub before : List (Item N)
  pub last : Item N
  pub are : items ≡ before ++ last ∷ []
  pub closes : last.answer ≡ Close

item_last : {N : Type 0} (items : List (Item N)) (x : ℕ) (event : Option Event) (moment : ℕ)
    (note : N) → belongs_to x event ≡ true → Last N (items ++ item_of x event moment Close note)
item_last items x None moment note h = absurd (false≢true h)
item_last items x (Some event) moment note h =
    record {
      before = items;
      last = record { upcall = event.upcall; moment = moment; answer = Close; note = note };
      are = ap (λ ys. items ++ ys) (cond-true (event.handle == x) _ _ h);
      closes = refl;
    }

made_last : {N : Type 0} (e : Entry N) (past : List (Entry N)) (x : ℕ)
    → closes_itself x (event_at past) e ≡ true → Last N (had past x ++ items_made past x e)
made_last (Returned event Close note) past x h =
    item_last (had past x) x (event_at past event) (started_at past event) note h
made_last _ past x h = absurd (false≢true h)

pub ended_last : {N : Type 0} (most : ℕ) (past : List (Entry N)) (x : ℕ) → is_legal most past ≡ true
    → ended_itself past x ≡ true → Last N (had past x)
ended_last most [] x legal h = absurd (false≢true h)
ended_last {N} most (e ∷ past) x legal h =
    let parts : (may_follow most past e ≡ true) × (is_legal most past ≡ true) =
    and_parts _ _ legal in
    ⊎_elim
    (λ (r : was_removed past x ≡ true).
    let ended : ended_itself past x ≡ true = sym (step_old e past x r) ∙ h in
    let none : items_made past x e ≡ [] =
    quiet past x e (λ j t.
    ⊎_elim
    (λ (b : belongs_to x (event_at past j) ≡ true).
    absurd (ended_idle most past x parts.1 ended j (returned_is_open most past e j parts.0 t)
    b))
    (λ (b : belongs_to x (event_at past j) ≡ false). b)
    (cases_Bool (belongs_to x (event_at past j))))
    in
    subst (Last N) (sym (ap (λ items. had past x ++ items) none ∙ append-nil (had past x)))
    (ended_last most past x parts.1 ended))
    (λ (r : was_removed past x ≡ false). made_last e past x (sym (step_new e past x r) ∙ h))
    (cases_Bool (was_removed past x))

pub own_reason : {N : Type 0} (past : List (Entry N)) (x : ℕ) → reason_of past x ≡ Own
    → ended_itself past x ≡ true
own_reason past x h = by_cases (ended_itself past x) h
  where
    by_cases : (b : Bool) → ◌≡◌ {A = Why} (cond b Own RemovedBy) Own → b ≡ true
    by_cases true h = refl
    by_cases false h = absurd (other h)
      where
        other : ◌≡◌ {A = Why} RemovedBy Own → ⊥
        other q = cc
