-- A timer that is taken away.
use Rattle.std.proofs.Common.{ℕ, ◌≡◌, ◌<◌, ◌==◌, Bool, true, false, not, ◌||◌, List, [], ◌∷◌}
use Rattle.std.proofs.Common.{length, refl, sym, ap, ◌∙◌, cond, Option, Some, None, is_some}
use Rattle.std.proofs.Common.{option_map, Result, Ok, Err, ⊎_elim}
use Rattle.std.proofs.lemmas.Bool.{false≢true, and_parts, and_from, or_left, or_cases, both_ways}
use Rattle.std.proofs.lemmas.Bool.{cases_Bool, eq-eqb}
use Rattle.std.specs.List.{list_any, find}
use Rattle.std.specs.Prelude.{nat_le}
use Rattle.reactor_summary.specs.ev_types.specs.declared.upcall.Handle.{Handle}
use Rattle.reactor_model.specs.reactor_journal.specs.Event.{Event, Timer}
use Rattle.reactor_model.specs.reactor_journal.specs.declared.entry.Entry.{Entry}
use Rattle.reactor_model.specs.reactor_journal.specs.declared.entry.Entry.TheVariants.{Cancelled}
use Rattle.reactor_model.specs.reactor_journal.specs.Past as P
use Rattle.reactor_model.specs.reactor_journal.specs.Follow as F
use Rattle.reactor_model.specs.reactor_journal.specs.Follow.{is_legal}
use Rattle.reactor_model.specs.reactor_journal.proofs.Armed.{filtered_any, armed_set}
use Rattle.reactor_model.specs.reactor_journal.proofs.Timers.{armed_alive}
use Rattle.reactor_model.specs.reactor_journal.proofs.Closing.{waiting_alive}
use Rattle.reactor_summary.specs.declared.parts.WaitingEvent.{WaitingEvent}
use Rattle.reactor_summary.specs.declared.parts.ArmedTimer.{ArmedTimer}
use Rattle.reactor_summary.specs.Summary as S
use Rattle.reactor_summary.specs.Summary.{Summary, summary, step, is_overdue, is_armed}
use Rattle.reactor_summary.specs.Summary.{timeout_waits, is_alive}
use Rattle.reactor_summary.specs.Rules as R
use Rattle.reactor_summary.specs.Tells as T
use Rattle.reactor_summary.specs.Tells.{Tells}
use Rattle.reactor_summary.proofs.Told.{told}
use Rattle.reactor_summary.proofs.Lists.{any_listed-some}
use Rattle.reactor_summary.proofs.Reading.{armed_is, alive_is, overdue_is, waiting_some}
use Rattle.reactor_core.specs.Stands.{IsSettled}
use Rattle.reactor_core.specs.Timers.{is_pending, IsCancelAnswer}
use Rattle.reactor_core.specs.declared.timers.CancelRefused.{CancelRefused}
use Rattle.reactor_core.specs.declared.timers.CancelRefused.TheVariants.{NotArmed, NoMemory}
use Rattle.reactor_core.proofs.Suspension.{running}

-- ---- whether it is there to be taken

found_is : {A B : Type 0} (f : A → B) (p : A → Bool) (xs : List A)
    → is_some (option_map f (find p xs)) ≡ list_any p xs
found_is f p [] = refl
found_is {A} f p (x ∷ xs) = by_cases (p x) (found_is f p xs)
  where
    by_cases : (b : Bool) → is_some (option_map f (find p xs)) ≡ list_any p xs
        → is_some (option_map f (cond b (Some x) (find p xs))) ≡ (b || list_any p xs)
    by_cases true rec = refl
    by_cases false rec = rec

pub armed_found : (s : Summary) (t : ℕ) (found : Option Handle)
    → found ≡ option_map (λ (a : ArmedTimer). a.handle) (S.armed_timer s t)
    → is_some found ≡ is_armed s t
armed_found s t found q = ap is_some q
    ∙ found_is (λ (a : ArmedTimer). a.handle) (λ (a : ArmedTimer). a.timer == t) s.armed

pub timeout_found : (s : Summary) (t : ℕ) (found : Option Handle)
    → found ≡ option_map (λ (w : WaitingEvent). w.handle)
    (find (λ (w : WaitingEvent). P.is_timeout_of t w.upcall) s.waiting)
    → is_some found ≡ timeout_waits s t
timeout_found s t found q = ap is_some q
    ∙ found_is (λ (w : WaitingEvent). w.handle) (λ (w : WaitingEvent). P.is_timeout_of t w.upcall)
    s.waiting

pub pending_armed : (s : Summary) (t : ℕ) (b : Bool) → b ≡ is_armed s t → b ≡ true
    → b ≡ is_pending s t
pending_armed s t b q there = there
    ∙ sym (or_left (is_armed s t) (timeout_waits s t) (sym q ∙ there))

pub pending_waits : (s : Summary) (t : ℕ) (b c : Bool) → b ≡ is_armed s t → b ≡ false
    → c ≡ timeout_waits s t → c ≡ is_pending s t
pending_waits s t b c q none r = r ∙ sym (ap (λ a. a || timeout_waits s t) (sym q ∙ none))

-- ---- the answers

pub cancel_not_armed : (s : Summary) (t : ℕ) → is_pending s t ≡ false
    → IsCancelAnswer s t (Err NotArmed)
cancel_not_armed s t none = (λ q. none, λ q. refl)

cancel_else : (s : Summary) (t : ℕ) (result : Result (Unit {0}) CancelRefused)
    → is_pending s t ≡ true → (result ≡ Err NotArmed → ⊥) → IsCancelAnswer s t result
cancel_else s t result there n = (
  λ q. absurd (n q),
  λ q. absurd (both_ways (is_pending s t) q there),
)

pub cancel_ok : (s : Summary) (t : ℕ) → is_pending s t ≡ true → IsCancelAnswer s t (Ok tt)
cancel_ok s t there = cancel_else s t (Ok tt) there (λ q. apart q)
  where
    apart : ◌≡◌ {A = Result (Unit {0}) CancelRefused} (Ok tt) (Err NotArmed) → ⊥
    apart q = cc

pub cancel_no_memory : (s : Summary) (t : ℕ) → is_pending s t ≡ true
    → IsCancelAnswer s t (Err NoMemory)
cancel_no_memory s t there = cancel_else s t (Err NoMemory) there (λ q. apart q)
  where
    apart : ◌≡◌ {A = Result (Unit {0}) CancelRefused} (Err NoMemory) (Err NotArmed) → ⊥
    apart q = cc

-- ---- the entry

-- the handle of an armed timer is alive, and so is that of a timeout that waits
owned : {N : Type 0} (past : List (Entry N)) (t : ℕ) (timer : Option Timer)
    → P.timer_of past t ≡ timer → is_some timer ≡ true → (x : ℕ)
    × (P.is_timer_of x (P.timer_of past t) ≡ true)
owned past t None q h = absurd (false≢true h)
owned past t (Some timer) q h = (
  timer.handle,
  ap (P.is_timer_of timer.handle) q
      ∙ eq-eqb timer.handle timer.handle refl,
)

armed_owner : {N : Type 0} (most : ℕ) (past : List (Entry N)) (t : ℕ) → is_legal most past ≡ true
    → is_armed (summary past) t ≡ true → (x : ℕ) × (is_alive (summary past) x ≡ true)
armed_owner most past t legal armed =
    let tells : Tells past (summary past) = told most past legal in
    let there : P.is_armed past t ≡ true = sym (armed_is past (summary past) t tells) ∙ armed in
    let o : (x : ℕ) × (P.is_timer_of x (P.timer_of past t) ≡ true) =
    owned past t (P.timer_of past t) refl (armed_set past t there) in (
      o.0,
      alive_is most past (summary past) o.0 legal tells
          ∙ armed_alive most past legal t o.0 there o.1,
    )

timeout_owner : {N : Type 0} (most : ℕ) (past : List (Entry N)) (t : ℕ) → is_legal most past ≡ true
    → timeout_waits (summary past) t ≡ true → (x : ℕ) × (is_alive (summary past) x ≡ true)
timeout_owner most past t legal waits =
    let tells : Tells past (summary past) = told most past legal in
    let test : WaitingEvent → Bool = λ (w : WaitingEvent). P.is_timeout_of t w.upcall in
    let r : (k : ℕ) × (w : WaitingEvent) × (k < length past) × (T.waiting_event past k ≡ Some w)
    × (test w ≡ true) = any_listed-some test (T.waiting_event past) (length past)
    (sym (ap (list_any test) tells.waiting) ∙ waits) in
    let v : (event : Event) × (P.is_waiting past r.0 ≡ true) × (P.event_at past r.0 ≡ Some event)
    × (T.as_waiting past r.0 event ≡ r.1) = waiting_some past r.0 r.1 r.3 in
    let mine : P.belongs_to v.0.handle (P.event_at past r.0) ≡ true =
    ap (P.belongs_to v.0.handle) v.2 ∙ eq-eqb v.0.handle v.0.handle refl in (
      v.0.handle,
      alive_is most past (summary past) v.0.handle legal tells
          ∙ waiting_alive most past r.0 v.0.handle legal v.1 mine,
    )

-- so the reactor was not stopped
pub cancelled_follows : {N : Type 0} (most : ℕ) (due ready : Bool) (past : List (Entry N)) (t : ℕ)
    → is_legal most past ≡ true → IsSettled (summary past) → is_pending (summary past) t ≡ true
    → R.may_follow {N = N} most due ready (summary past) (Cancelled t) ≡ true
cancelled_follows most due ready past t legal settled there =
    let owner : (x : ℕ) × (is_alive (summary past) x ≡ true) =
    ⊎_elim
    (λ (k : is_armed (summary past) t ≡ true). armed_owner most past t legal k)
    (λ (k : timeout_waits (summary past) t ≡ true). timeout_owner most past t legal k)
    (or_cases (is_armed (summary past) t) (timeout_waits (summary past) t) there)
    in
    and_from (false || not (summary past).ended) _
    (ap not (running (summary past) owner.0 settled owner.1)) there

-- no deadline is reached by the others
pub due_cancelled : {N : Type 0} (most : ℕ) (past : List (Entry N)) (t : ℕ)
    → is_legal most (Cancelled t ∷ past) ≡ true → is_overdue (summary past) ≡ false
    → is_overdue (summary (Cancelled t ∷ past)) ≡ false
due_cancelled {N} most past t legal none =
    let e : Entry N = Cancelled t in
    let before : is_legal most past ≡ true =
    (and_parts (F.may_follow most past e) (is_legal most past) legal).1 in
    let old : P.is_overdue past ≡ false =
    sym (overdue_is most past (summary past) before (told most past before)) ∙ none in
    overdue_is most (e ∷ past) (summary (e ∷ past)) legal (told most (e ∷ past) legal)
    ∙ ⊎_elim
    (λ (k : P.is_overdue (e ∷ past) ≡ true).
    absurd (both_ways (P.is_overdue past) old
    (filtered_any (λ (d : ℕ × ℕ). nat_le d.0 (P.now past)) (λ (d : ℕ × ℕ). not (d.1 == t))
    (P.armed past) k)))
    (λ (k : P.is_overdue (e ∷ past) ≡ false). k)
    (cases_Bool (P.is_overdue (e ∷ past)))
