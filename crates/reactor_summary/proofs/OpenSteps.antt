-- The open events after one more entry.
use Rattle.std.proofs.Common.{ℕ, ◌≡◌, ◌==◌, Bool, true, false, not, ◌||◌, List, [], ◌∷◌, refl, sym}
use Rattle.std.proofs.Common.{ap, ◌∙◌, subst, Some, option_map, ⊎_elim}
use Rattle.std.proofs.lemmas.Bool.{false≢true, and_parts, or_parts, or_left, or_right, eqb-true}
use Rattle.std.proofs.lemmas.Bool.{eq-eqb, cases_Bool, cond-true, not-true, both_ways}
use Rattle.std.proofs.lemmas.List.Folds.{list_any-append}
use Rattle.std.specs.List.{list_any}
use Rattle.reactor_journal.specs.Event.{Event}
use Rattle.reactor_journal.specs.declared.entry.Entry.{Entry}
use Rattle.reactor_journal.specs.declared.entry.Entry.TheVariants.{Started, Returned}
use Rattle.reactor_journal.specs.Past as P
use Rattle.reactor_journal.specs.Follow.{may_follow, is_legal}
use Rattle.reactor_journal.proofs.Basics.{event_at-before}
use Rattle.reactor_journal.proofs.OneOpen.{started_is_able, able_is_event, started_is_event}
use Rattle.reactor_journal.proofs.OneOpen.{open_cases}
use Rattle.reactor_journal.proofs.Fates.{able_not_started}
use Rattle.reactor_journal.proofs.Steps.{open_parts, open_from, returned_was_started}
use Rattle.reactor_journal.proofs.Armed.{able_waits}
use Rattle.reactor_summary.specs.declared.parts.OpenEvent.{OpenEvent}
use Rattle.reactor_summary.specs.Summary as S
use Rattle.reactor_summary.specs.Summary.{Summary}
use Rattle.reactor_summary.specs.Tells as T
use Rattle.reactor_summary.specs.Tells.{Tells, Each, listed}
use Rattle.reactor_summary.proofs.Lists.{each_same, each_append, each_filter, any_filter-from}
use Rattle.reactor_summary.proofs.Reading.{open_some, waiting_event_at}
use Rattle.reactor_summary.proofs.Found.{waiting_found}

abbrev Is : {N : Type 0} → List (Entry N) → OpenEvent → Type 0
Is past o = T.open_event past o.event ≡ Some o

-- an open event that stands open stays what it is
is_still : {N : Type 0} (most : ℕ) (e : Entry N) (past : List (Entry N)) (o : OpenEvent)
    → is_legal most past ≡ true → may_follow most past e ≡ true → P.returns o.event e ≡ false
    → Is past o → Is (e ∷ past) o
is_still most e past o legal may r is =
    let parts : (P.is_open past o.event ≡ true)
    × (option_map (T.as_open past o.event) (P.event_at past o.event) ≡ Some o) =
    open_some past o.event o is in
    let was : (P.was_started past o.event ≡ true) × (P.was_returned past o.event ≡ false) =
    open_parts past o.event parts.0 in
    let event : P.is_event past o.event ≡ true = started_is_event most past legal o.event was.0 in
    let not_now : P.starts o.event e ≡ false =
    ⊎_elim
    (λ (s : P.starts o.event e ≡ true).
    absurd (both_ways (P.was_started past o.event)
    (able_not_started past o.event (started_is_able most past e o.event may s)) was.0))
    (λ (s : P.starts o.event e ≡ false). s)
    (cases_Bool (P.starts o.event e))
    in
    let still : P.is_open (e ∷ past) o.event ≡ true =
    open_from (e ∷ past) o.event (or_right (P.starts o.event e) (P.was_started past o.event)
    was.0) (ap (λ b. b || P.was_returned past o.event) r ∙ was.1) in
    let at : P.event_at (e ∷ past) o.event ≡ P.event_at past o.event =
    event_at-before e past o.event event in
    let moment : P.started_at (e ∷ past) o.event ≡ P.started_at past o.event =
    started_then (P.starts o.event e) not_now in
    cond-true _ _ _ still
    ∙ (ap (option_map (T.as_open (e ∷ past) o.event)) at
    ∙ (ap (λ (m : ℕ). option_map (λ (ev : Event).
    record {
      event = o.event;
      handle = record { 0 = ev.handle };
      upcall = ev.upcall;
      moment = m;
    }) (P.event_at past o.event)) moment
    ∙ parts.1))
  where
    started_then : (b : Bool) → b ≡ false
        → ◌≡◌ {A = ℕ} (elim b [ true ↦ P.now past | false ↦ P.started_at past o.event ])
        (P.started_at past o.event)
    started_then true h = absurd (false≢true (sym h))
    started_then false h = refl

-- the event that is started
abbrev opened_new : {N : Type 0} → List (Entry N) → ℕ → Event → OpenEvent
opened_new past i event = record {
  event = i;
  handle = record { 0 = event.handle };
  upcall = event.upcall;
  moment = P.now past;
}

pub started_found : {N : Type 0} (most : ℕ) (past : List (Entry N)) (s : Summary) (i : ℕ)
    → may_follow most past (Started i) ≡ true → Tells past s
    → (event : Event) × (P.event_at past i ≡ Some event) × (P.is_waiting past i ≡ true)
    × (S.waiting_event s i ≡ Some (T.as_waiting past i event))
started_found most past s i may t =
    let able : P.is_able past i ≡ true =
    started_is_able most past (Started i) i may (eq-eqb i i refl) in
    let waits : P.is_waiting past i ≡ true = able_waits past i able in
    let ev : (ev : Event) × (P.event_at past i ≡ Some ev) = waiting_event_at past i waits in
    (ev.0, ev.1, waits, waiting_found past s i ev.0 t waits ev.1)

new_is : {N : Type 0} (most : ℕ) (past : List (Entry N)) (i : ℕ) (event : Event)
    → is_legal most past ≡ true → may_follow most past (Started i) ≡ true
    → P.event_at past i ≡ Some event → Is (Started i ∷ past) (opened_new past i event)
new_is {N} most past i event legal may at =
    let e : Entry N = Started i in
    let self : (i == i) ≡ true = eq-eqb i i refl in
    let able : P.is_able past i ≡ true = started_is_able most past (Started i) i may self in
    let not_returned : P.was_returned past i ≡ false =
    ⊎_elim
    (λ (r : P.was_returned past i ≡ true).
    absurd (both_ways (P.was_started past i) (able_not_started past i able)
    (returned_was_started most past i legal r)))
    (λ (r : P.was_returned past i ≡ false). r)
    (cases_Bool (P.was_returned past i))
    in
    let now_open : P.is_open (e ∷ past) i ≡ true =
    open_from (e ∷ past) i (or_left (i == i) (P.was_started past i) self) not_returned in
    let at_now : P.event_at (e ∷ past) i ≡ Some event =
    event_at-before e past i (able_is_event past i able) ∙ at in
    cond-true _ _ _ now_open
    ∙ (ap (option_map (T.as_open (e ∷ past) i)) at_now
    ∙ ap (λ (m : ℕ). Some (record {
      event = i;
      handle = record { 0 = event.handle };
      upcall = event.upcall;
      moment = m;
    })) (started_then (i == i) self))
  where
    started_then : (b : Bool) → b ≡ true
        → ◌≡◌ {A = ℕ} (elim b [ true ↦ P.now past | false ↦ P.started_at past i ]) (P.now past)
    started_then true h = refl
    started_then false h = absurd (false≢true h)

opens_are : {N : Type 0} (most : ℕ) (past : List (Entry N)) (s : Summary) (i : ℕ) (event : Event)
    → Tells past s → S.waiting_event s i ≡ Some (T.as_waiting past i event)
    → S.opens_from s.moment (S.waiting_event s i) ≡ opened_new past i event ∷ []
opens_are most past s i event t found =
    ap (S.opens_from s.moment) found ∙ ap
    (λ (m : ℕ). record {
      event = i;
      handle = record { 0 = event.handle };
      upcall = event.upcall;
      moment = m;
    } ∷ []) t.moment

pub opens_step : {N : Type 0} (most : ℕ) (e : Entry N) (past : List (Entry N)) (s : Summary)
    → is_legal most past ≡ true → may_follow most past e ≡ true → Tells past s
    → Each (λ o. T.open_event (e ∷ past) o.event ≡ Some o) (S.opens_after s e)
opens_step {N} most (Started i) past s legal may t =
    let r : (event : Event) × (P.event_at past i ≡ Some event) × (P.is_waiting past i ≡ true)
    × (S.waiting_event s i ≡ Some (T.as_waiting past i event)) =
    started_found most past s i may t in
    each_append (Is (Started i ∷ past)) s.opens (S.opens_from s.moment (S.waiting_event s i))
    (each_same (Is past) (Is (Started i ∷ past)) s.opens
    (λ o is. is_still most (Started i) past o legal may refl is) t.opens)
    (subst (Each (Is (Started i ∷ past))) (sym (opens_are most past s i r.0 t r.3))
    (new_is most past i r.0 legal may r.1, tt))
opens_step most (Returned i answer note) past s legal may t =
    each_filter (Is past) (Is (Returned i answer note ∷ past))
    (λ (o : OpenEvent). not (i == o.event)) s.opens
    (λ o is k. is_still most (Returned i answer note) past o legal may (not-true _ k) is) t.opens
opens_step most e past s legal may t =
    each_same (Is past) (Is (e ∷ past)) s.opens (λ o is. is_still most e past o legal may refl is)
    t.opens

no_start : {N : Type 0} (e : Entry N) (past : List (Entry N)) (j : ℕ) → P.starts j e ≡ false
    → P.is_open (e ∷ past) j ≡ true → P.is_open past j ≡ true
no_start e past j s o =
    ⊎_elim
    (λ (k : P.starts j e ≡ true). absurd (both_ways (P.starts j e) s k))
    (λ (k : P.is_open past j ≡ true). k)
    (open_cases e past j o)

pub all_opens_step : {N : Type 0} (most : ℕ) (e : Entry N) (past : List (Entry N)) (s : Summary)
    → is_legal most past ≡ true → may_follow most past e ≡ true → Tells past s
    → (j : ℕ) → P.is_open (e ∷ past) j ≡ true
    → list_any (λ o. o.event == j) (S.opens_after s e) ≡ true
all_opens_step most (Started i) past s legal may t j o =
    let r : (event : Event) × (P.event_at past i ≡ Some event) × (P.is_waiting past i ≡ true)
    × (S.waiting_event s i ≡ Some (T.as_waiting past i event)) =
    started_found most past s i may t in
    list_any-append (λ (o : OpenEvent). o.event == j) s.opens
    (S.opens_from s.moment (S.waiting_event s i))
    ∙ ⊎_elim
    (λ (k : (i == j) ≡ true).
    or_right (list_any (λ (o : OpenEvent). o.event == j) s.opens) _
    (ap (list_any (λ (o : OpenEvent). o.event == j)) (opens_are most past s i r.0 t r.3)
    ∙ or_left (i == j) false k))
    (λ (k : P.is_open past j ≡ true). or_left (list_any (λ (o : OpenEvent). o.event == j) s.opens) _
    (t.all_opens j k))
    (open_cases (Started i) past j o)
all_opens_step most (Returned i answer note) past s legal may t j o =
    let not_now : (i == j) ≡ false = (or_parts _ _ (not-true _ (and_parts _ _ o).1)).0 in
    any_filter-from (λ (o : OpenEvent). not (i == o.event)) (λ (o : OpenEvent). o.event == j)
    s.opens
    (λ a q. ap not (subst (λ (k : ℕ). (i == k) ≡ false) (sym (eqb-true a.event j q)) not_now))
    (t.all_opens j (no_start (Returned i answer note) past j refl o))
all_opens_step most e past s legal may t j o = t.all_opens j (no_start e past j refl o)
