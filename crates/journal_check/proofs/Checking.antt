-- Steps of the check.
use Rattle.std.proofs.Common.{◌==◌, ℕ, suc, ◌≡◌, ◌+◌, ◌^◌, ◌<◌, ◌≤◌, Bool, true, false, not}
use Rattle.std.proofs.Common.{option_map, List, [], ◌∷◌, ◌++◌, length, take, drop, take-append-drop}
use Rattle.std.proofs.Common.{get_or, refl, sym, ap, ◌∙◌, subst, arith, cond, Option, Some, None}
use Rattle.std.proofs.Common.{⊎_elim, inl, inr}
use Rattle.std.proofs.lemmas.Bool.{and_from, and_left, and_parts, both_ways, cases_Bool}
use Rattle.std.proofs.lemmas.Bool.{cases_order, cond-false, cond-true, eq-eqb, eqb-true}
use Rattle.std.proofs.lemmas.Bool.{false_from_ne_true, false≢true, ne_eqb, not-true, or_from}
use Rattle.std.proofs.lemmas.Bool.{or_parts}
use Rattle.std.proofs.lemmas.List.{take-take, length-reverse, length-take-le}
use Rattle.std.specs.List.{list_any}
use Rattle.std.specs.Prelude.{Ok, Err, OnOk}
use Rattle.std.specs.declared.result.Result.{Result}
use Rattle.reactor_journal.specs.Event.{Event, Timer}
use Rattle.reactor_journal.specs.declared.entry.Entry.{Entry}
use Rattle.reactor_journal.specs.declared.entry.Entry.TheVariants.{Opened, Scheduled, Due, Started}
use Rattle.reactor_journal.specs.Past as P
use Rattle.reactor_journal.specs.Past.{past_of, count}
use Rattle.reactor_journal.specs.Follow as F
use Rattle.reactor_journal.specs.Follow.{is_legal, Legal}
use Rattle.reactor_journal.proofs.Basics.{may_fits}
use Rattle.reactor_journal.proofs.Armed.{armed_known, due_timers}
use Rattle.reactor_journal.proofs.Timers.{timeout_owned}
use Rattle.reactor_journal.proofs.Turning.{past_more, Legal-front}
use Rattle.reactor_summary.specs.declared.parts.LiveHandle.{LiveHandle}
use Rattle.reactor_summary.specs.declared.parts.OpenEvent.{OpenEvent}
use Rattle.reactor_summary.specs.declared.parts.WaitingEvent.{WaitingEvent}
use Rattle.reactor_summary.specs.Summary as S
use Rattle.reactor_summary.specs.Summary.{Summary, summary}
use Rattle.reactor_summary.specs.Tells as T
use Rattle.reactor_summary.specs.Tells.{Tells, Each, listed}
use Rattle.reactor_summary.specs.Rules as R
use Rattle.reactor_summary.proofs.Told.{told}
use Rattle.reactor_summary.proofs.Reading.{open_is, first_due_is, armed_is, live_some, waiting_some}
use Rattle.reactor_summary.proofs.Picks.{pick_is}
use Rattle.reactor_summary.proofs.Follows.{may_follow_is}
use Rattle.journal_check.specs.declared.reading.CheckRefused.{CheckRefused}
use Rattle.journal_check.specs.declared.reading.CheckRefused.TheVariants.{Illegal, NoMemory}
use Rattle.journal_check.specs.Small.{IsSmall}
use Rattle.journal_check.specs.Index.{is_idle}
use Rattle.journal_check.specs.Next.{IsNext}
use Rattle.journal_check.specs.Fronts.{IsUpToDate}
use Rattle.journal_check.specs.Sound.{IsSound}
use Rattle.journal_check.proofs.Best.{each_listed}
use Rattle.journal_check.specs.Refusal.{RefusesAt, IsUnlessNoMemory}

-- ---- the numbers of a summary are small

count_le : {A : Type 0} (p : A → Bool) (xs : List A) → count p xs ≤ length xs
count_le p [] = omega arith
count_le p (x ∷ xs) =
    let rest : count p xs ≤ length xs = count_le p xs in
    ⊎_elim
    (λ (t : p x ≡ true). let is : cond (p x) (suc (count p xs)) (count p xs) ≡ suc (count p xs) =
    cond-true (p x) (suc (count p xs)) (count p xs) t in omega arith)
    (λ (f : p x ≡ false). let is : cond (p x) (suc (count p xs)) (count p xs) ≡ count p xs =
    cond-false (p x) (suc (count p xs)) (count p xs) f in omega arith)
    (cases_Bool (p x))

pub small : {N : Type 0} (most : ℕ) (past : List (Entry N)) → is_legal most past ≡ true
    → length past + 1 < 2 ^ 64 → IsSmall (summary past)
small most past legal h =
    let t : Tells past (summary past) = told most past legal in
    let opened : P.count P.is_opened past ≤ length past = count_le P.is_opened past in
    let closed : P.count P.is_closed past ≤ length past = count_le P.is_closed past in
    let scheduled : P.count P.is_scheduled past ≤ length past = count_le P.is_scheduled past in
    let refused : P.count T.is_refused past ≤ length past = count_le T.is_refused past in
    record {
      entries = subst (λ (n : ℕ). n + 1 < 2 ^ 64) (sym t.entries) h;
      opened = subst (λ (n : ℕ). n ≤ (summary past).entries) (sym t.opened)
          (subst (λ (n : ℕ). P.count P.is_opened past ≤ n) (sym t.entries) opened);
      closed = subst (λ (n : ℕ). n ≤ (summary past).entries) (sym t.closed)
          (subst (λ (n : ℕ). P.count P.is_closed past ≤ n) (sym t.entries) closed);
      scheduled = subst (λ (n : ℕ). n ≤ (summary past).entries) (sym t.scheduled)
          (subst (λ (n : ℕ). P.count P.is_scheduled past ≤ n) (sym t.entries) scheduled);
      refused = subst (λ (n : ℕ). n ≤ (summary past).entries) (sym t.refused)
          (subst (λ (n : ℕ). P.count T.is_refused past ≤ n) (sym t.entries) refused);
    }

pub length-past : {N : Type 0} (journal : List (Entry N)) (k : ℕ) → k ≤ length journal
    → length (past_of (take k journal)) ≡ k
length-past journal k h = length-reverse (take k journal) ∙ length-take-le k journal h

-- ---- the waiting events of a legal journal

-- the timer of a timeout that waits is not armed
waiting_idle : {N : Type 0} (most : ℕ) (past : List (Entry N)) (k : ℕ) (w : WaitingEvent)
    → is_legal most past ≡ true → T.waiting_event past k ≡ Some w
    → is_idle w.due (summary past).armed ≡ true
waiting_idle {N} most past k w legal is =
    let v : (ev : Event) × (P.is_waiting past k ≡ true) × (P.event_at past k ≡ Some ev)
    × (T.as_waiting past k ev ≡ w) = waiting_some past k w is in
    subst (λ (a : WaitingEvent). is_idle a.due (summary past).armed ≡ true) v.3
    (by_due v.1 (P.due_at past k) refl)
  where
    by_due : P.is_waiting past k ≡ true → (due : Option ℕ) → P.due_at past k ≡ due
        → is_idle (option_map (T.due_timer past) due) (summary past).armed ≡ true
    by_due waits None q = refl
    by_due waits (Some t) q = ap not (armed_is past (summary past) t (told most past legal)
        ∙ (due_timers most past legal).idle k t waits q)

-- no waiting event is open
waiting_closed : {N : Type 0} (past : List (Entry N)) (s : Summary) (k : ℕ) (w : WaitingEvent)
    → Tells past s → T.waiting_event past k ≡ Some w
    → list_any (λ (o : OpenEvent). w.event == o.event) s.opens ≡ false
waiting_closed past s k w t is =
    let v : (ev : Event) × (P.is_waiting past k ≡ true) × (P.event_at past k ≡ Some ev)
    × (T.as_waiting past k ev ≡ w) = waiting_some past k w is in
    let idle : (not (P.was_started past k) ≡ true) × (not (P.was_taken past k) ≡ true) =
    and_parts _ _ (and_parts (P.is_event past k) _ v.1).1 in
    let closed : P.is_open past k ≡ false = and_left (P.was_started past k) _ (not-true _ idle.0) in
    let number : k ≡ w.event = ap (λ (a : WaitingEvent). a.event) v.3 in
    turned w.event s.opens (ap (λ (n : ℕ). S.is_open s n) (sym number)
    ∙ (open_is past s k t ∙ closed))
  where
    turned : (i : ℕ) (os : List OpenEvent) → list_any (λ (o : OpenEvent). o.event == i) os ≡ false
        → list_any (λ (o : OpenEvent). i == o.event) os ≡ false
    turned i [] h = refl
    turned i (o ∷ os) h =
        let both : ((o.event == i) ≡ false)
        × (list_any (λ (o : OpenEvent). o.event == i) os ≡ false) =
        or_parts (o.event == i) _ h in
        or_from (i == o.event) _ (ne_eqb i o.event
        (λ q. both_ways _ both.0 (eq-eqb o.event i (sym q)))) (turned i os both.1)

-- a timeout is of the handle of its timer
timeout_handle : {N : Type 0} (most : ℕ) (past : List (Entry N)) (n k : ℕ) (w : WaitingEvent)
    → is_legal most past ≡ true → T.waiting_event past k ≡ Some w
    → P.is_timeout_of n w.upcall ≡ true → w.handle.0 ≡ T.owner (P.timer_of past n)
timeout_handle most past n k w legal is h =
    let v : (ev : Event) × (P.is_waiting past k ≡ true) × (P.event_at past k ≡ Some ev)
    × (T.as_waiting past k ev ≡ w) = waiting_some past k w is in
    let timeout : P.is_timeout_of n v.0.upcall ≡ true =
    ap (λ (a : WaitingEvent). P.is_timeout_of n a.upcall) v.3 ∙ h in
    let own : (x : ℕ) → P.belongs_to x (P.event_at past k) ≡ P.is_timer_of x (P.timer_of past n) =
    timeout_owned most past n legal k (ap (F.is_timeout_event n) v.2 ∙ timeout) in
    let mine : P.is_timer_of v.0.handle (P.timer_of past n) ≡ true =
    sym (own v.0.handle) ∙ (ap (P.belongs_to v.0.handle) v.2
    ∙ eq-eqb v.0.handle v.0.handle refl) in
    ap (λ (a : WaitingEvent). a.handle.0) (sym v.3) ∙ owner_of v.0.handle (P.timer_of past n) mine
  where
    owner_of : (x : ℕ) (timer : Option Timer) → P.is_timer_of x timer ≡ true → x ≡ T.owner timer
    owner_of x None q = absurd (false≢true q)
    owner_of x (Some timer) q = sym (eqb-true timer.handle x q)

pub sound : {N : Type 0} (most : ℕ) (past : List (Entry N)) → is_legal most past ≡ true
    → IsSound (summary past)
sound most past legal =
    let t : Tells past (summary past) = told most past legal in
    let s : Summary = summary past in
    record {
      event = T.waiting_event past;
      bound = length past;
      listed = t.waiting;
      own = λ k w is.
          let v : (ev : Event) × (P.is_waiting past k ≡ true) × (P.event_at past k ≡ Some ev)
          × (T.as_waiting past k ev ≡ w) = waiting_some past k w is in
          sym (ap (λ (a : WaitingEvent). a.event) v.3);
      past = subst (Each (λ (w : WaitingEvent). w.event < (summary past).entries)) (sym t.waiting)
          (each_listed (λ (w : WaitingEvent). w.event < (summary past).entries)
          (T.waiting_event past) (length past)
          (λ k w lt is.
          let v : (ev : Event) × (P.is_waiting past k ≡ true) × (P.event_at past k ≡ Some ev)
          × (T.as_waiting past k ev ≡ w) = waiting_some past k w is in
          subst (λ (a : WaitingEvent). a.event < (summary past).entries) v.3
          (subst (λ (n : ℕ). k < n) (sym t.entries) lt)));
      idle = subst (Each (λ (w : WaitingEvent). is_idle w.due (summary past).armed ≡ true))
          (sym t.waiting)
          (each_listed (λ (w : WaitingEvent). is_idle w.due (summary past).armed ≡ true)
          (T.waiting_event past) (length past)
          (λ k w lt is. waiting_idle most past k w legal is));
      fresh = λ n le. false_from_ne_true _ (λ h.
          let known : n < P.scheduled past =
          armed_known most past n legal (sym (armed_is past s n t) ∙ h) in
          let number : (summary past).scheduled ≡ P.scheduled past = t.scheduled in
          omega arith);
      owned = λ n. record {
        owner = T.owner (P.timer_of past n);
        mine = subst (Each (λ (w : WaitingEvent). P.is_timeout_of n w.upcall ≡ true
            → w.handle.0 ≡ T.owner (P.timer_of past n))) (sym t.waiting)
            (each_listed (λ (w : WaitingEvent). P.is_timeout_of n w.upcall ≡ true
            → w.handle.0 ≡ T.owner (P.timer_of past n)) (T.waiting_event past) (length past)
            (λ k w lt is. timeout_handle most past n k w legal is));
      };
      numbered = subst (Each (λ (h : LiveHandle). h.handle.0 < (summary past).opened))
          (sym t.handles)
          (each_listed (λ (h : LiveHandle). h.handle.0 < (summary past).opened) (T.live_handle past)
          (P.opened past)
          (λ k h lt is. subst (λ (a : LiveHandle). a.handle.0 < (summary past).opened)
          (live_some past k h is).1 (subst (λ (n : ℕ). k < n) (sym t.opened) lt)));
      settled = subst (Each (λ (w : WaitingEvent).
          list_any (λ (o : OpenEvent). w.event == o.event) (summary past).opens ≡ false))
          (sym t.waiting)
          (each_listed (λ (w : WaitingEvent).
          list_any (λ (o : OpenEvent). w.event == o.event) (summary past).opens ≡ false)
          (T.waiting_event past) (length past)
          (λ k w lt is. waiting_closed past (summary past) k w t is));
      opened = T.open_event past;
      opens = t.opens;
    }

-- ---- what the check knows of the first entries

pub record Read {N : Type 0} (most : ℕ) (past : List (Entry N)) (machine : Summary)
    (fronts : ℕ × ℕ → Bool) (closing : ℕ → Bool) (due ready : Bool) : Type 0 where
  pub legal : is_legal most past ≡ true
  pub is : machine ≡ summary past
  pub index : IsUpToDate machine fronts closing
  pub follows_due : due ≡ F.follows_due past
  pub follows_ready : ready ≡ F.follows_ready past

pub read_none : {N : Type 0} (most : ℕ) (machine : Summary) (fronts : ℕ × ℕ → Bool)
    (closing : ℕ → Bool) → machine ≡ S.nothing → IsUpToDate machine fronts closing
    → Read {N = N} most [] machine fronts closing false false
read_none most machine fronts closing q u =
    record { legal = refl; is = q; index = u; follows_due = refl; follows_ready = refl }

pub read_sound : {N : Type 0} (most : ℕ) (past : List (Entry N)) (machine : Summary)
    → is_legal most past ≡ true → machine ≡ summary past → IsSound machine
read_sound most past machine legal q = subst IsSound (sym q) (sound most past legal)

-- and of the summary after one more
pub next_sound : {N : Type 0} (most : ℕ) (past : List (Entry N)) (e : Entry N) (machine : Summary)
    → is_legal most past ≡ true → machine ≡ summary past → F.may_follow most past e ≡ true
    → IsSound (S.step machine e)
next_sound most past e machine legal q may =
    subst (λ (s : Summary). IsSound (S.step s e)) (sym q)
    (sound most (e ∷ past) (and_from _ _ may legal))

-- what the machine says of the next entry
pub says_follow : {N : Type 0} (most : ℕ) (past : List (Entry N)) (machine : Summary)
    (fronts : ℕ × ℕ → Bool) (closing : ℕ → Bool) (due ready : Bool) (e : Entry N)
    → Read most past machine fronts closing due ready
    → R.may_follow most due ready machine e ≡ F.may_follow most past e
says_follow most past machine fronts closing due ready e r =
    ap (λ b. R.may_follow most b ready machine e) r.follows_due
    ∙ (ap (λ b. R.may_follow most (F.follows_due past) b machine e) r.follows_ready
    ∙ (ap (λ (s : Summary). R.may_follow most (F.follows_due past) (F.follows_ready past) s e) r.is
    ∙ may_follow_is most past (summary past) e r.legal (told most past r.legal)))

pub small_base : {N : Type 0} (most : ℕ) (past : List (Entry N)) (machine : Summary)
    → is_legal most past ≡ true → machine ≡ summary past → length past + 1 < 2 ^ 64
    → IsSmall machine
small_base most past machine legal q h = subst IsSmall (sym q) (small most past legal h)

pub says_first : {N : Type 0} (most : ℕ) (past : List (Entry N)) (machine : Summary) (e : Entry N)
    (timer : ℕ) → machine ≡ summary past → is_legal most past ≡ true
    → F.may_follow most past e ≡ true → e ≡ Due timer → S.is_first_due machine timer ≡ true
says_first {N} most past machine e timer q legal may is =
    let now_due : F.may_follow most past (Due timer) ≡ true =
    subst (λ (d : Entry N). F.may_follow most past d ≡ true) is may in
    ap (λ (s : Summary). S.is_first_due s timer) q
    ∙ (first_due_is past (summary past) timer (told most past legal)
    ∙ (and_parts (F.follows_due past) _ (may_fits most past (Due timer) now_due)).1)

-- what the rules say of an entry that may follow
pub says_next : {N : Type 0} (most : ℕ) (past : List (Entry N)) (e : Entry N)
    → is_legal most past ≡ true → F.may_follow most past e ≡ true → (machine : Summary)
    → machine ≡ summary past → IsNext machine e
says_next {N} most past e legal may machine q =
    let t : Tells past (summary past) = told most past legal in
    subst (λ (s : Summary). IsNext s e) (sym q)
    (record {
      opened = λ handle mask is. eqb-true handle.0 (P.opened past)
          (and_parts _ _ (fits (Opened handle mask) is)).0 ∙ sym t.opened;
      scheduled = λ timer handle first every is.
          eqb-true timer (P.scheduled past) (and_parts _ _
          (fits (Scheduled timer handle first every) is)).0 ∙ sym t.scheduled;
      started = λ event is. pick_is most past (summary past) event legal t
          ∙ (and_parts (P.is_pick past event) _ (fits (Started event) is)).0;
    })
  where
    fits : (d : Entry N) → e ≡ d → F.fits most past d ≡ true
    fits d is = may_fits most past d (subst (λ (c : Entry N). F.may_follow most past c ≡ true) is
        may)

-- one more entry
pub read_more : {N : Type 0} (most : ℕ) (journal : List (Entry N)) (k : ℕ) (e : Entry N)
    (machine later : Summary) (fronts fronts_then : ℕ × ℕ → Bool) (closing closing_then : ℕ → Bool)
    (due ready : Bool) → k < length journal → e ≡ get_or journal k e
    → Read most (past_of (take k journal)) machine fronts closing due ready
    → F.may_follow most (past_of (take k journal)) e ≡ true → later ≡ S.step machine e
    → IsUpToDate later fronts_then closing_then
    → (now_due now_ready : Bool) → ((past : List (Entry N)) → now_due ≡ F.follows_due (e ∷ past))
    → ((past : List (Entry N)) → now_ready ≡ F.follows_ready (e ∷ past))
    → Read most (past_of (take (k + 1) journal)) later fronts_then closing_then now_due now_ready
read_more {N} most journal k e machine later fronts fronts_then closing closing_then due ready lt is
    r may stepped index now_due now_ready hd hr =
    let more : past_of (take (k + 1) journal) ≡ e ∷ past_of (take k journal) =
    past_more journal k e lt ∙ ap (λ (d : Entry N). d ∷ past_of (take k journal)) (sym is) in
    subst (λ (p : List (Entry N)). Read most p later fronts_then closing_then now_due now_ready)
    (sym more)
    (record {
      legal = and_from (F.may_follow most (past_of (take k journal)) e)
          (is_legal most (past_of (take k journal))) may r.legal;
      is = stepped ∙ ap (λ (s : Summary). S.step s e) r.is;
      index = index;
      follows_due = hd (past_of (take k journal));
      follows_ready = hr (past_of (take k journal));
    })

pub refused_at : {N : Type 0} (journal : List (Entry N)) (most k : ℕ) (d : Entry N)
    → k < length journal → is_legal most (past_of (take k journal)) ≡ true
    → F.may_follow most (past_of (take k journal)) (get_or journal k d) ≡ false
    → RefusesAt journal most k
refused_at journal most k d lt legal may = (
  lt,
  legal,
  λ all. both_ways _ may
      (and_parts _ _ (subst (λ p. is_legal most p ≡ true) (past_more journal k d lt) all)).0,
)

-- ---- where a journal is refused

pub legal_shorter : {N : Type 0} (journal : List (Entry N)) (most n m : ℕ) → n ≤ m
    → Legal (take m journal) most → Legal (take n journal) most
legal_shorter journal most n m le legal =
    let cut : take n (take m journal) ≡ take n journal = take-take n m journal le in
    let split : take n (take m journal) ++ drop n (take m journal) ≡ take m journal =
    take-append-drop n (take m journal) in
    subst (λ j. Legal j most) cut (Legal-front (take n (take m journal)) (drop n (take m journal))
    most (subst (λ j. Legal j most) (sym split) legal))

pub legal_front_of_whole : {N : Type 0} (journal : List (Entry N)) (most n : ℕ) → Legal journal most
    → Legal (take n journal) most
legal_front_of_whole journal most n legal =
    Legal-front (take n journal) (drop n journal) most
    (subst (λ j. Legal j most) (sym (take-append-drop n journal)) legal)

pub refuses_once : {N : Type 0} (journal : List (Entry N)) (most a b : ℕ) → RefusesAt journal most a
    → RefusesAt journal most b → a ≡ b
refuses_once journal most a b h k =
    ⊎_elim
    (λ (q : a ≡ b). q)
    (⊎_elim
    (λ (lt : a < b). absurd (h.2 (legal_shorter journal most (a + 1) b (omega arith) k.1)))
    (λ (lt : b < a). absurd (k.2 (legal_shorter journal most (b + 1) a (omega arith) h.1))))
    (cases_order a b)

-- ---- the answer

pub ok_where_legal : {N : Type 0} (journal : List (Entry N)) (most : ℕ)
    (result : Result (Unit {0}) CheckRefused)
    → ((at : ℕ) → result ≡ Err (Illegal at) → RefusesAt journal most at) → Legal journal most
    → IsUnlessNoMemory result (Ok tt)
ok_where_legal journal most (Ok tt) h legal = inl refl
ok_where_legal journal most (Err (Illegal at)) h legal =
    absurd ((h at refl).2 (legal_front_of_whole journal most (at + 1) legal))
ok_where_legal journal most (Err NoMemory) h legal = inr refl

pub illegal_where_refused : {N : Type 0} (journal : List (Entry N)) (most : ℕ)
    (result : Result (Unit {0}) CheckRefused) → OnOk result (Legal journal most)
    → ((at : ℕ) → result ≡ Err (Illegal at) → RefusesAt journal most at) → (at : ℕ)
    → RefusesAt journal most at → IsUnlessNoMemory result (Err (Illegal at))
illegal_where_refused journal most (Ok tt) ok h at r =
    absurd (r.2 (legal_front_of_whole journal most (at + 1) ok))
illegal_where_refused journal most (Err (Illegal place)) ok h at r =
    inl (ap (λ (k : ℕ). Err (Illegal k)) (refuses_once journal most place at (h place refl) r))
illegal_where_refused journal most (Err NoMemory) ok h at r = inr refl
