-- Events of a handle, its reports and its turns.
use Rattle.std.proofs.Common.{ℕ, zero, suc, ◌≡◌, ◌≢◌, ◌==◌, ◌<◌, ◌+◌, Bool, true, false, not, cond}
use Rattle.std.proofs.Common.{◌&&◌, ◌||◌, List, [], ◌∷◌, ◌++◌, length, refl, sym, ap, ◌∙◌, subst}
use Rattle.std.proofs.Common.{arith, Option, Some, None, is_some, option_map, ⊎_elim}
use Rattle.std.proofs.lemmas.Bool.{false≢true, and_parts, and_from, or_parts, not-true, both_ways}
use Rattle.std.proofs.lemmas.Bool.{cases_Bool, eqb-true, eq-eqb, ne_eqb, cases_eq}
use Rattle.std.specs.List.{list_any}
use Rattle.reactor_summary.specs.ev_types.specs.declared.upcall.Answer.{Answer}
use Rattle.reactor_summary.specs.ev_types.specs.declared.upcall.Answer.TheVariants.{Keep, Again}
use Rattle.reactor_summary.specs.ev_types.specs.declared.upcall.Answer.TheVariants.{Close}
use Rattle.reactor_summary.specs.ev_types.specs.declared.upcall.Kind.{Kind}
use Rattle.reactor_summary.specs.reactor_journal.specs.Event.{Event, Item, Timer}
use Rattle.reactor_summary.specs.reactor_journal.specs.declared.entry.Entry.{Entry}
use Rattle.reactor_summary.specs.reactor_journal.specs.declared.entry.Entry.TheVariants.{Opened}
use Rattle.reactor_summary.specs.reactor_journal.specs.declared.entry.Entry.TheVariants.{Scheduled}
use Rattle.reactor_summary.specs.reactor_journal.specs.declared.entry.Entry.TheVariants.{Cancelled}
use Rattle.reactor_summary.specs.reactor_journal.specs.declared.entry.Entry.TheVariants.{Polled}
use Rattle.reactor_summary.specs.reactor_journal.specs.declared.entry.Entry.TheVariants.{Due, Ready}
use Rattle.reactor_summary.specs.reactor_journal.specs.declared.entry.Entry.TheVariants.{Posted}
use Rattle.reactor_summary.specs.reactor_journal.specs.declared.entry.Entry.TheVariants.{Stale}
use Rattle.reactor_summary.specs.reactor_journal.specs.declared.entry.Entry.TheVariants.{Started}
use Rattle.reactor_summary.specs.reactor_journal.specs.declared.entry.Entry.TheVariants.{Returned}
use Rattle.reactor_summary.specs.reactor_journal.specs.declared.entry.Entry.TheVariants.{Masked}
use Rattle.reactor_summary.specs.reactor_journal.specs.declared.entry.Entry.TheVariants.{Suspended}
use Rattle.reactor_summary.specs.reactor_journal.specs.declared.entry.Entry.TheVariants.{Resumed}
use Rattle.reactor_summary.specs.reactor_journal.specs.declared.entry.Entry.TheVariants.{Refused}
use Rattle.reactor_summary.specs.reactor_journal.specs.declared.entry.Entry.TheVariants.{Removed}
use Rattle.reactor_summary.specs.reactor_journal.specs.declared.entry.Entry.TheVariants.{Closed}
use Rattle.reactor_summary.specs.reactor_journal.specs.declared.entry.Entry.TheVariants.{Ended}
use Rattle.reactor_summary.specs.reactor_journal.specs.Past.{count, count_below, belongs_to}
use Rattle.reactor_summary.specs.reactor_journal.specs.Past.{only_if_alive, event_at, event_made}
use Rattle.reactor_summary.specs.reactor_journal.specs.Past.{timer_of, timeout_of, was_opened}
use Rattle.reactor_summary.specs.reactor_journal.specs.Past.{was_removed, was_started, was_returned}
use Rattle.reactor_summary.specs.reactor_journal.specs.Past.{was_taken, is_alive, is_event, is_open}
use Rattle.reactor_summary.specs.reactor_journal.specs.Past.{is_busy, is_suspended, is_able}
use Rattle.reactor_summary.specs.reactor_journal.specs.Past.{may_run, is_pick, ends, drops_it}
use Rattle.reactor_summary.specs.reactor_journal.specs.Past.{returns, had, items_made, item_of}
use Rattle.reactor_summary.specs.reactor_journal.specs.Past.{started_at}
use Rattle.reactor_summary.specs.reactor_journal.specs.Follow.{may_follow, is_legal}
use Rattle.reactor_summary.specs.reactor_journal.proofs.Basics.{event_at-last, event_at-other}
use Rattle.reactor_summary.specs.reactor_journal.proofs.Basics.{event_at-before, event_at-within}
use Rattle.reactor_summary.specs.reactor_journal.proofs.Basics.{belongs_is_event}
use Rattle.reactor_summary.specs.reactor_journal.proofs.Alive.{alive_not_removed}
use Rattle.reactor_summary.specs.reactor_journal.proofs.Live.{same_below}
use Rattle.reactor_summary.specs.reactor_journal.proofs.OneOpen.{started_is_event}
use Rattle.reactor_summary.specs.reactor_journal.proofs.Steps.{returned_was_started, open_is_event}
use Rattle.reactor_summary.specs.reactor_journal.proofs.Steps.{busy_event, open_from, open_parts}
use Rattle.reactor_summary.specs.reactor_journal.proofs.Picking.{pick_some}
use Rattle.reactor_summary.specs.reactor_journal.proofs.HadLaw.{returned_is_open}
use Rattle.reactor_summary.specs.reactor_journal.proofs.Turning.{count-append}
use Rattle.reactor_summary.proofs.Opened.{open_opened}
use Rattle.laws_reports.specs.Laws.{is_of, is_again, reports, rests, holds_back}

module _ (k : Kind) where
  -- ---- events of one kind of report of a handle

  abbrev mine : ℕ → Option Event → Bool
  mine x None = false
  mine x (Some event) = event.handle == x && is_of k event.upcall

  mine_belongs : (x : ℕ) (event : Option Event) → mine x event ≡ true → belongs_to x event ≡ true
  mine_belongs x None h = h
  mine_belongs x (Some event) h = (and_parts _ _ h).0

  -- whether entry i is one that has not returned
  abbrev pending : {N : Type 0} → List (Entry N) → ℕ → ℕ → Bool
  pending past x i = mine x (event_at past i) && not (was_returned past i)

  abbrev on_kind : {N : Type 0} → Item N → Bool
  on_kind item = is_of k item.upcall

  abbrev asks : {N : Type 0} → Item N → Bool
  asks item = is_of k item.upcall && is_again item.answer

  -- ---- the turn that a `Returned` records

  one_input : {N : Type 0} (x : ℕ) (event : Option Event) (moment : ℕ) (answer : Answer) (note : N)
      → count on_kind (item_of x event moment answer note) ≡ cond (mine x event) 1 0
  one_input x None moment answer note = refl
  one_input x (Some event) moment answer note =
      by_cases (event.handle == x) (is_of k event.upcall) refl
    where
      by_cases : (b i : Bool) → is_of k event.upcall ≡ i
          → count on_kind (cond b (record {
            upcall = event.upcall;
            moment = moment;
            answer = answer;
            note = note;
          } ∷ []) []) ≡ cond (b && i) 1 0
      by_cases true i h = ap (λ (k : Bool). cond k (suc 0) 0) h
      by_cases false i h = refl

  one_ask : {N : Type 0} (x : ℕ) (event : Option Event) (moment : ℕ) (answer : Answer) (note : N)
      → count asks (item_of x event moment answer note) ≡ cond (mine x event && is_again answer) 1 0
  one_ask x None moment answer note = refl
  one_ask x (Some event) moment answer note =
      by_cases (event.handle == x) (is_of k event.upcall) refl
    where
      by_cases : (b i : Bool) → is_of k event.upcall ≡ i
          → count asks (cond b (record {
            upcall = event.upcall;
            moment = moment;
            answer = answer;
            note = note;
          } ∷ []) []) ≡ cond ((b && i) && is_again answer) 1 0
      by_cases true i h = ap (λ (k : Bool). cond (k && is_again answer) (suc 0) 0) h
      by_cases false i h = refl

  again_mine : (x : ℕ) (alive : ℕ → Bool) (event : Option Event)
      → (mine x event ≡ true → alive x ≡ true) → mine x (only_if_alive alive event) ≡ mine x event
  again_mine x alive None h = refl
  again_mine x alive (Some event) h = by_cases (alive event.handle) refl
    where
      by_cases : (b : Bool) → alive event.handle ≡ b
          → mine x (cond b (Some event) None) ≡ mine x (Some event)
      by_cases true e = refl
      by_cases false e = ⊎_elim (λ (t : mine x (Some event) ≡ true).
          let same : event.handle ≡ x = eqb-true _ _ (and_parts _ _ t).0 in
          absurd (both_ways _ e (ap alive same ∙ h t))) (λ (f : mine x (Some event) ≡ false). sym f)
          (cases_Bool (mine x (Some event)))

  -- ---- numbers

  not_within : (n : ℕ) → n < n → ⊥
  not_within n h = omega arith

  -- an entry that stands at no number has not returned
  none_returned : {N : Type 0} (most : ℕ) (past : List (Entry N)) → is_legal most past ≡ true
      → was_returned past (length past) ≡ false
  none_returned most past legal = ⊎_elim
      (λ (t : was_returned past (length past) ≡ true).
      absurd (not_within (length past) (event_at-within past (length past)
      (started_is_event most past legal (length past)
      (returned_was_started most past (length past) legal t)))))
      (λ (f : was_returned past (length past) ≡ false). f)
      (cases_Bool (was_returned past (length past)))

  -- a test that changed at one number
  step_count : (b c : Bool) (n k : ℕ) → n ≡ k → b ≡ c → cond b (suc n) n ≡ cond c (suc k) k
  step_count b c n k e f = ap (λ (t : Bool). cond t (suc n) n) f
      ∙ ap (λ (m : ℕ). cond c (suc m) m) e

  one_less : (n k : ℕ) (p q : ℕ → Bool) → k < n → (m : Bool) → p k ≡ m → q k ≡ false
      → ((i : ℕ) → i < n → i ≢ k → p i ≡ q i) → count_below n p ≡ cond m 1 0 + count_below n q
  one_less zero k p q lt m is not_ same = absurd (omega arith)
  one_less (suc n) k p q lt m is not_ same =
      ⊎_elim here (λ (ne : k ≢ n). below ne
      (one_less n k p q (omega arith) m is not_ (λ i l. same i (omega arith)))) (cases_eq k n)
    where
      here : k ≡ n → count_below (suc n) p ≡ cond m 1 0 + count_below (suc n) q
      here e =
          let rest : count_below n p ≡ count_below n q =
          same_below n p q (λ i l. same i (omega arith) (omega arith)) in
          step_count (p n) m (count_below n p) (count_below n q) rest (ap p (sym e) ∙ is)
          ∙ added m (count_below n q)
          ∙ ap (λ (r : ℕ). cond m 1 0 + r) (sym
          (ap (λ (b : Bool). cond b (suc (count_below n q)) (count_below n q))
          (ap q (sym e) ∙ not_)))
        where
          added : (b : Bool) (r : ℕ) → cond b (suc r) r ≡ cond b 1 0 + r
          added true r = omega arith
          added false r = omega arith

      below : k ≢ n → count_below n p ≡ cond m 1 0 + count_below n q
          → count_below (suc n) p ≡ cond m 1 0 + count_below (suc n) q
      below ne rest =
          step_count (p n) (q n) (count_below n p) (cond m 1 0 + count_below n q) rest
          (same n (omega arith) (λ h. ne (sym h))) ∙ moved (q n) (cond m 1 0) (count_below n q)
        where
          moved : (b : Bool) (a r : ℕ) → cond b (suc (a + r)) (a + r) ≡ a + cond b (suc r) r
          moved true a r = omega arith
          moved false a r = omega arith

  -- how many events of input have not returned
  abbrev waits : {N : Type 0} → List (Entry N) → ℕ → ℕ
  waits past x = count_below (length past) (pending past x)

  -- ---- one more entry

  -- what an entry is of which nothing returns
  record IsOther {N : Type 0} (e : Entry N) (past : List (Entry N)) (x : ℕ) : Type 0 where
    none : (i : ℕ) → returns i e ≡ false
    items : items_made past x e ≡ []
    made : mine x (event_made e (timer_of past) (event_at past)
        (λ y. was_opened past y && not (was_removed past y))) ≡ reports k x e

  module _ {N : Type 0} (most : ℕ) (e : Entry N) (past : List (Entry N)) (x : ℕ)
      (legal : is_legal most past ≡ true) where
    old_pending : ((i : ℕ) → returns i e ≡ false) → (i : ℕ) → i < length past
        → pending (e ∷ past) x i ≡ pending past x i
    old_pending none i within =
        ap (λ (event : Option Event). mine x event && not (was_returned (e ∷ past) i))
        (event_at-other e past i (omega arith))
        ∙ ap (λ (b : Bool). mine x (event_at past i) && not (b || was_returned past i)) (none i)

    new_pending : (m : Bool) → returns (length past) e ≡ false
        → mine x (event_made e (timer_of past) (event_at past)
        (λ y. was_opened past y && not (was_removed past y))) ≡ m
        → pending (e ∷ past) x (length past) ≡ m
    new_pending m none made =
        ap (λ (event : Option Event). mine x event && not (was_returned (e ∷ past) (length past)))
        (event_at-last e past (length past) refl)
        ∙ ap (λ (b : Bool). b && not (was_returned (e ∷ past) (length past))) made
        ∙ ap (λ (b : Bool). m && not (b || was_returned past (length past))) none
        ∙ ap (λ (b : Bool). m && not b) (none_returned most past legal) ∙ and_true m
      where
        and_true : (b : Bool) → (b && true) ≡ b
        and_true true = refl
        and_true false = refl

    others_wait : IsOther e past x → waits (e ∷ past) x ≡ cond (reports k x e) 1 0 + waits past x
    others_wait o =
        ap (λ (b : Bool). cond b (suc (count_below (length past) (pending (e ∷ past) x)))
        (count_below (length past) (pending (e ∷ past) x)))
        (new_pending (reports k x e) (o.none (length past)) o.made)
        ∙ ap (λ (n : ℕ). cond (reports k x e) (suc n) n)
        (same_below (length past) (pending (e ∷ past) x) (pending past x) (old_pending o.none))
        ∙ counted (reports k x e) (waits past x)
      where
        counted : (b : Bool) (n : ℕ) → cond b (suc n) n ≡ cond b 1 0 + n
        counted true n = omega arith
        counted false n = omega arith

  -- the reports and the turns that asked for the next are as many as the turns of input and the
  -- events that wait for theirs
  record Balances {N : Type 0} (past : List (Entry N)) (x : ℕ) : Type 0 where
    total : count (reports k x) past + count asks (had past x)
        ≡ count on_kind (had past x) + waits past x

  balance_other : {N : Type 0} (most : ℕ) (e : Entry N) (past : List (Entry N)) (x : ℕ)
      → is_legal most past ≡ true → IsOther e past x → Balances past x → Balances (e ∷ past) x
  balance_other most e past x legal o b =
      let wait = others_wait most e past x legal o in
      let same : had past x ++ items_made past x e ≡ had past x =
      ap (λ (items : List (Item _)). had past x ++ items) o.items ∙ append_none (had past x) in
      record {
        total = totals (reports k x e) (count (reports k x) past) (count asks (had past x))
            (count on_kind (had past x)) (waits past x) (waits (e ∷ past) x)
            (count asks (had (e ∷ past) x)) (count on_kind (had (e ∷ past) x)) b.total wait
            (ap (count asks) same) (ap (count on_kind) same);
      }
    where
      append_none : {A : Type 0} (xs : List A) → xs ++ [] ≡ xs
      append_none [] = refl
      append_none (y ∷ ys) = ap (λ zs. y ∷ zs) (append_none ys)

      totals : (m : Bool) (r a i w w' a' i' : ℕ) → r + a ≡ i + w → w' ≡ cond m 1 0 + w → a' ≡ a
          → i' ≡ i → cond m (suc r) r + a' ≡ i' + w'
      totals true r a i w w' a' i' e f g h = omega arith
      totals false r a i w w' a' i' e f g h = omega arith

  -- ---- a turn is settled

  balance_returned : {N : Type 0} (most : ℕ) (event : ℕ) (answer : Answer) (note : N)
      (past : List (Entry N)) (x : ℕ) → is_legal most past ≡ true
      → may_follow most past (Returned event answer note) ≡ true
      → was_removed (Returned event answer note ∷ past) x ≡ false → Balances past x
      → Balances (Returned event answer note ∷ past) x
  balance_returned {N} most event answer note past x legal may lives b =
      record { total = totals (mine x (event_at past event)) (is_again answer) refl refl }
    where
      e : Entry N
      e = Returned event answer note

      is_open_now : is_open past event ≡ true
      is_open_now = returned_is_open most past e event may (eq-eqb event event refl)

      within : event < length past
      within = event_at-within past event (open_is_event most past event legal is_open_now)

      other_end : returns (length past) e ≡ false
      other_end = ne_eqb event (length past) (omega (arith, within))

      not_removed : was_removed past x ≡ false
      not_removed = (or_parts (ends x (event_at past) e) (was_removed past x) lives).1

      alive : mine x (event_at past event) ≡ true
          → (was_opened past x && not (was_removed past x)) ≡ true
      alive m = and_from _ _ (open_opened most past event x legal is_open_now
          (mine_belongs x (event_at past event) m)) (ap not not_removed)

      made : mine x (event_made e (timer_of past) (event_at past)
          (λ y. was_opened past y && not (was_removed past y)))
          ≡ (mine x (event_at past event) && is_again answer)
      made = by_answer answer
        where
          by_answer : (a : Answer) → mine x (event_made (Returned event a note) (timer_of past)
              (event_at past) (λ y. was_opened past y && not (was_removed past y)))
              ≡ (mine x (event_at past event) && is_again a)
          by_answer Keep = sym (and_false (mine x (event_at past event)))
            where
              and_false : (b : Bool) → (b && false) ≡ false
              and_false true = refl
              and_false false = refl
          by_answer Again = again_mine x (λ y. was_opened past y && not (was_removed past y))
              (event_at past event) alive ∙ sym (and_true (mine x (event_at past event)))
            where
              and_true : (b : Bool) → (b && true) ≡ b
              and_true true = refl
              and_true false = refl
          by_answer Close = sym (and_false (mine x (event_at past event)))
            where
              and_false : (b : Bool) → (b && false) ≡ false
              and_false true = refl
              and_false false = refl

      new_waits : waits (e ∷ past) x ≡ cond (mine x (event_at past event) && is_again answer) 1 0
          + count_below (length past) (pending (e ∷ past) x)
      new_waits = ap (λ (b : Bool). cond b (suc (count_below (length past) (pending (e ∷ past) x)))
          (count_below (length past) (pending (e ∷ past) x)))
          (new_pending most e past x legal _ other_end made)
          ∙ counted (mine x (event_at past event) && is_again answer)
          (count_below (length past) (pending (e ∷ past) x))
        where
          counted : (b : Bool) (n : ℕ) → cond b (suc n) n ≡ cond b 1 0 + n
          counted true n = omega arith
          counted false n = omega arith

      was_pending : pending past x event ≡ mine x (event_at past event)
      was_pending = ap (λ (b : Bool). mine x (event_at past event) && not b)
          (open_parts past event is_open_now).1 ∙ and_true (mine x (event_at past event))
        where
          and_true : (b : Bool) → (b && true) ≡ b
          and_true true = refl
          and_true false = refl

      is_not_pending : pending (e ∷ past) x event ≡ false
      is_not_pending = ap (λ (b : Bool). mine x (event_at (e ∷ past) event)
          && not (b || was_returned past event)) (eq-eqb event event refl)
          ∙ and_false (mine x (event_at (e ∷ past) event))
        where
          and_false : (b : Bool) → (b && false) ≡ false
          and_false true = refl
          and_false false = refl

      other_pending : (i : ℕ) → i < length past → i ≢ event
          → pending past x i ≡ pending (e ∷ past) x i
      other_pending i lt ne =
          sym (ap (λ (o : Option Event). mine x o && not (was_returned (e ∷ past) i))
          (event_at-other e past i (omega arith))
          ∙ ap (λ (b : Bool). mine x (event_at past i) && not (b || was_returned past i))
          (ne_eqb event i (λ q. ne (sym q))))

      fewer : waits past x ≡ cond (mine x (event_at past event)) 1 0
          + count_below (length past) (pending (e ∷ past) x)
      fewer = one_less (length past) event (pending past x) (pending (e ∷ past) x) within
          (mine x (event_at past event)) was_pending is_not_pending other_pending

      inputs : count on_kind (had (e ∷ past) x)
          ≡ count on_kind (had past x) + cond (mine x (event_at past event)) 1 0
      inputs = count-append on_kind (had past x) (items_made past x e)
          ∙ ap (λ (n : ℕ). count on_kind (had past x) + n)
          (one_input x (event_at past event) (started_at past event) answer note)

      asked : count asks (had (e ∷ past) x)
          ≡ count asks (had past x) + cond (mine x (event_at past event) && is_again answer) 1 0
      asked = count-append asks (had past x) (items_made past x e)
          ∙ ap (λ (n : ℕ). count asks (had past x) + n)
          (one_ask x (event_at past event) (started_at past event) answer note)

      totals : (m a : Bool) → mine x (event_at past event) ≡ m → is_again answer ≡ a
          → count (reports k x) (e ∷ past) + count asks (had (e ∷ past) x)
          ≡ count on_kind (had (e ∷ past) x) + waits (e ∷ past) x
      totals m a h q = sums (count (reports k x) past) (count asks (had past x))
          (count on_kind (had past x)) (waits past x) (cond (mine x (event_at past event)) 1 0)
          (cond (mine x (event_at past event) && is_again answer) 1 0)
          (count_below (length past) (pending (e ∷ past) x)) _ _ _ b.total asked inputs new_waits
          fewer
        where
          sums : (r k i w m a c k' i' w' : ℕ) → r + k ≡ i + w → k' ≡ k + a → i' ≡ i + m → w' ≡ a + c
              → w ≡ m + c → r + k' ≡ i' + w'
          sums r k i w m a c k' i' w' e f g h j = omega arith

  -- ---- every entry

  and_none : (b : Bool) → (b && false) ≡ false
  and_none true = refl
  and_none false = refl

  due_not_mine : (x t : ℕ) (timer : Option Timer) → mine x (option_map (timeout_of t) timer) ≡ false
  due_not_mine x t None = refl
  due_not_mine x t (Some timer) = and_none (timer.handle == x)

  balance : {N : Type 0} (most : ℕ) (past : List (Entry N)) (x : ℕ) → is_legal most past ≡ true
      → was_removed past x ≡ false → Balances past x
  balance most [] x legal lives = record { total = refl }
  balance {N} most (e ∷ past) x legal lives =
      by_entry e may lives (balance most past x before lived)
    where
      before : is_legal most past ≡ true
      before = (and_parts (may_follow most past e) (is_legal most past) legal).1

      may : may_follow most past e ≡ true
      may = (and_parts (may_follow most past e) (is_legal most past) legal).0

      lived : was_removed past x ≡ false
      lived = (or_parts (ends x (event_at past) e) (was_removed past x) lives).1

      by_entry : (e : Entry N) → may_follow most past e ≡ true → was_removed (e ∷ past) x ≡ false
          → Balances past x → Balances (e ∷ past) x
      by_entry (Returned event answer note) m l rest =
          balance_returned most event answer note past x before m l rest
      by_entry (Due timer) m l rest = balance_other most (Due timer) past x before
          (record {
            none = λ i. refl;
            items = refl;
            made = due_not_mine x timer (timer_of past timer);
          }) rest
      by_entry (Posted handle kind from seq) m l rest =
          balance_other most (Posted handle kind from seq) past x before
          (record { none = λ i. refl; items = refl; made = and_none (handle.0 == x) }) rest
      by_entry (Ready handle kind) m l rest =
          balance_other most (Ready handle kind) past x before
          (record { none = λ i. refl; items = refl; made = refl }) rest
      by_entry (Opened handle mask) m l rest =
          balance_other most (Opened handle mask) past x before
          (record { none = λ i. refl; items = refl; made = refl }) rest
      by_entry (Scheduled timer handle first every) m l rest =
          balance_other most (Scheduled timer handle first every) past x before
          (record { none = λ i. refl; items = refl; made = refl }) rest
      by_entry (Cancelled timer) m l rest =
          balance_other most (Cancelled timer) past x before
          (record { none = λ i. refl; items = refl; made = refl }) rest
      by_entry (Polled moment) m l rest =
          balance_other most (Polled moment) past x before
          (record { none = λ i. refl; items = refl; made = refl }) rest
      by_entry (Stale handle from seq) m l rest =
          balance_other most (Stale handle from seq) past x before
          (record { none = λ i. refl; items = refl; made = refl }) rest
      by_entry (Started event) m l rest =
          balance_other most (Started event) past x before
          (record { none = λ i. refl; items = refl; made = refl }) rest
      by_entry (Masked handle mask) m l rest =
          balance_other most (Masked handle mask) past x before
          (record { none = λ i. refl; items = refl; made = refl }) rest
      by_entry (Suspended handle) m l rest =
          balance_other most (Suspended handle) past x before
          (record { none = λ i. refl; items = refl; made = refl }) rest
      by_entry (Resumed handle) m l rest =
          balance_other most (Resumed handle) past x before
          (record { none = λ i. refl; items = refl; made = refl }) rest
      by_entry (Refused live fault note) m l rest =
          balance_other most (Refused live fault note) past x before
          (record { none = λ i. refl; items = refl; made = refl }) rest
      by_entry (Removed handle) m l rest =
          balance_other most (Removed handle) past x before
          (record { none = λ i. refl; items = refl; made = refl }) rest
      by_entry (Closed handle note) m l rest =
          balance_other most (Closed handle note) past x before
          (record { none = λ i. refl; items = refl; made = refl }) rest
      by_entry Ended m l rest = balance_other most Ended past x before
          (record { none = λ i. refl; items = refl; made = refl }) rest

  -- ---- nothing waits

  -- what was taken is an event
  dropped_some : {N : Type 0} (event : Option Event) (events : ℕ → Option Event) (e : Entry N)
      → drops_it event events e ≡ true → is_some event ≡ true
  dropped_some None events e h = absurd (false≢true h)
  dropped_some (Some event) events e h = refl

  taken_event : {N : Type 0} (past : List (Entry N)) (i : ℕ) → was_taken past i ≡ true
      → is_event past i ≡ true
  taken_event [] i t = absurd (false≢true t)
  taken_event {N} (e ∷ past) i t =
      let is : is_event past i ≡ true = ⊎_elim
      (λ (d : drops_it (event_at past i) (event_at past) e ≡ true).
      dropped_some (event_at past i) (event_at past) e d)
      (λ (d : drops_it (event_at past i) (event_at past) e ≡ false).
      taken_event past i (sym (ap (λ (b : Bool). b || was_taken past i) d) ∙ t))
      (cases_Bool (drops_it (event_at past i) (event_at past) e)) in
      ap is_some (event_at-before e past i is) ∙ is

  -- no handle is held back
  never_suspended : {N : Type 0} (past : List (Entry N)) (x : ℕ) → list_any holds_back past ≡ false
      → is_suspended past x ≡ false
  never_suspended [] x h = refl
  never_suspended {N} (e ∷ past) x h =
      by_entry e (or_parts (holds_back e) (list_any holds_back past) h).0
      (never_suspended past x (or_parts (holds_back e) (list_any holds_back past) h).1)
    where
      by_entry : (e : Entry N) → holds_back e ≡ false → is_suspended past x ≡ false
          → is_suspended (e ∷ past) x ≡ false
      by_entry (Suspended handle) f r = absurd (false≢true (sym f))
      by_entry (Resumed handle) f r = ap (λ (b : Bool). not (handle.0 == x) && b) r
          ∙ and_none (not (handle.0 == x))
      by_entry _ f r = r

  -- if nothing holds events back, only the end of its handle takes one
  taken_removed : {N : Type 0} (past : List (Entry N)) (i x : ℕ) → list_any holds_back past ≡ false
      → belongs_to x (event_at past i) ≡ true → was_taken past i ≡ true → was_removed past x ≡ true
  taken_removed [] i x free b t = absurd (false≢true t)
  taken_removed {N} (e ∷ past) i x free b t =
      ⊎_elim here (later (taken_removed past i x frees.1))
      (cases_Bool (drops_it (event_at past i) (event_at past) e))
    where
      frees : (holds_back e ≡ false) × (list_any holds_back past ≡ false)
      frees = or_parts _ _ free

      owned : is_event past i ≡ true → belongs_to x (event_at past i) ≡ true
      owned is = sym (ap (belongs_to x) (event_at-other e past i
          (less (event_at-within past i is))))
          ∙ b
        where
          less : i < length past → i ≢ length past
          less l = omega arith

      dropped_event : (event : Option Event) → event_at past i ≡ event
          → drops_it event (event_at past) e ≡ true → is_event past i ≡ true
      dropped_event None at d = absurd (false≢true d)
      dropped_event (Some event) at d = ap is_some at

      dropping : (e : Entry N) (event : Option Event) → holds_back e ≡ false
          → belongs_to x event ≡ true → drops_it event (event_at past) e ≡ true
          → ends x (event_at past) e ≡ true
      dropping e None h k d = absurd (false≢true k)
      dropping (Removed handle) (Some event) h k d =
          ap (λ (n : ℕ). handle.0 == n) (sym (eqb-true _ _ k)) ∙ d
      dropping (Returned other Close note) (Some event) h k d =
          ap (λ (n : ℕ). belongs_to n (event_at past other)) (sym (eqb-true _ _ k)) ∙ d
      dropping (Masked handle mask) (Some event) h k d = absurd (false≢true (sym h))
      dropping (Cancelled timer) (Some event) h k d = absurd (false≢true (sym h))
      dropping _ (Some event) h k d = absurd (false≢true d)

      here : drops_it (event_at past i) (event_at past) e ≡ true → was_removed (e ∷ past) x ≡ true
      here d = ap (λ (b : Bool). b || was_removed past x)
          (dropping e (event_at past i) frees.0 (owned (dropped_event (event_at past i) refl d)) d)

      or_right : (b c : Bool) → c ≡ true → (b || c) ≡ true
      or_right true c h = refl
      or_right false c h = h

      later : (belongs_to x (event_at past i) ≡ true → was_taken past i ≡ true
          → was_removed past x ≡ true) → drops_it (event_at past i) (event_at past) e ≡ false
          → was_removed (e ∷ past) x ≡ true
      later more d =
          let was : was_taken past i ≡ true =
          sym (ap (λ (b : Bool). b || was_taken past i) d) ∙ t in
          or_right (ends x (event_at past) e) (was_removed past x)
          (more (owned (taken_event past i was)) was)

  module _ {N : Type 0} (most : ℕ) (past : List (Entry N)) (x : ℕ)
      (legal : is_legal most past ≡ true)
      (free : list_any holds_back past ≡ false) (alive : is_alive past x ≡ true)
      (no_pick : (i : ℕ) → is_pick past i ≡ false) (none_open : (i : ℕ) → is_open past i ≡ false)
    where
      not_busy : is_busy past x ≡ false
      not_busy = ⊎_elim (λ (t : is_busy past x ≡ true). let event = busy_event past x t in
          absurd (both_ways _ (none_open event.0) event.1)) (λ (f : is_busy past x ≡ false). f)
          (cases_Bool (is_busy past x))

      not_suspended : is_suspended past x ≡ false
      not_suspended = never_suspended past x free

      may_start : (event : Option Event) → belongs_to x event ≡ true → may_run past event ≡ true
      may_start None b = absurd (false≢true b)
      may_start (Some event) b =
          let same : x ≡ event.handle = sym (eqb-true _ _ b) in
          subst (λ (y : ℕ). (is_alive past y && (not (is_busy past y) && not (is_suspended past y)))
          ≡ true) same (and_from _ _ alive (and_from _ _ (ap not not_busy) (ap not not_suspended)))

      able : (i : ℕ) → belongs_to x (event_at past i) ≡ true → was_started past i ≡ false
          → is_able past i ≡ true
      unfolding is_able
      able i b s =
          let not_taken : was_taken past i ≡ false =
          ⊎_elim (λ (t : was_taken past i ≡ true).
          absurd (both_ways _ (alive_not_removed past x alive) (taken_removed past i x free b t)))
          (λ (f : was_taken past i ≡ false). f) (cases_Bool (was_taken past i)) in
          and_from _ _ (and_from _ _ (belongs_is_event past i x b)
          (and_from _ _ (ap not s) (ap not not_taken))) (may_start (event_at past i) b)

      none_pending : (i : ℕ) → pending past x i ≡ false
      none_pending i = ⊎_elim some (λ (f : pending past x i ≡ false). f)
          (cases_Bool (pending past x i))
        where
          some : pending past x i ≡ true → pending past x i ≡ false
          some t =
              let parts = and_parts (mine x (event_at past i)) (not (was_returned past i)) t in
              let b : belongs_to x (event_at past i) ≡ true =
              mine_belongs x (event_at past i) parts.0 in
              absurd (⊎_elim
              (λ (s : was_started past i ≡ true).
              both_ways _ (none_open i) (open_from past i s (not-true _ parts.1)))
              (λ (s : was_started past i ≡ false). let pick = pick_some past i (able i b s) in
              both_ways _ (no_pick pick.0) pick.1)
              (cases_Bool (was_started past i)))

      none_waits : waits past x ≡ 0
      none_waits = none (length past) (pending past x) none_pending
        where
          none : (n : ℕ) (p : ℕ → Bool) → ((i : ℕ) → p i ≡ false) → count_below n p ≡ 0
          none zero p h = refl
          none (suc n) p h = ap (λ (b : Bool). cond b (suc (count_below n p)) (count_below n p))
              (h n)
              ∙ none n p h

      pub answered : count (rests k) (had past x) ≡ count (reports k x) past
      answered = sums (count (reports k x) past) (count asks (had past x))
          (count on_kind (had past x)) (waits past x) (count (rests k) (had past x))
          (balance most past x legal (alive_not_removed past x alive)).total none_waits
          (split (had past x))
        where
          sums : (r a i w k : ℕ) → r + a ≡ i + w → w ≡ 0 → i ≡ a + k → k ≡ r
          sums r a i w k e f g = omega arith

          split : (items : List (Item N)) → count on_kind items
              ≡ count asks items + count (rests k) items
          split [] = refl
          split (item ∷ items) = both (is_of k item.upcall) (is_again item.answer)
              (count on_kind items) (count asks items) (count (rests k) items) (split items)
            where
              both : (i a : Bool) (n k r : ℕ) → n ≡ k + r
                  → cond i (suc n) n ≡ cond (i && a) (suc k) k + cond (i && not a) (suc r) r
              both true true n k r e = omega arith
              both true false n k r e = omega arith
              both false a n k r e = e
