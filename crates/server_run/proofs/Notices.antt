-- What is drained of a ring was posted, and what a turn was notified of stands in the journal.
use Rattle.std.proofs.Common.{ℕ, ◌≡◌, ◌==◌, Bool, true, false, not, ◌&&◌, ◌||◌, if◌then◌else◌}
use Rattle.std.proofs.Common.{List, [], ◌∷◌, length, filter, refl, ap, ◌∙◌, Option, Some}
use Rattle.std.proofs.Common.{None}
use Rattle.std.proofs.lemmas.Bool.{and_parts, and_from, or_right, false≢true}
use Rattle.std.specs.List.{list_all, list_any}
use Rattle.std.specs.Prelude.{option_map}
use Rattle.ev_base.specs.ev_types.specs.declared.upcall.Answer.TheVariants.{Again}
use Rattle.ev_base.specs.ev_types.specs.declared.upcall.Kind.{Kind}
use Rattle.ev_base.specs.ev_types.specs.declared.upcall.Kind.TheVariants.{Read, Write, Except}
use Rattle.ev_base.specs.ev_types.specs.declared.upcall.Upcall.TheVariants.{Input, Output}
use Rattle.ev_base.specs.ev_types.specs.declared.upcall.Upcall.TheVariants.{Except as ExceptUp}
use Rattle.ev_base.specs.ev_types.specs.declared.upcall.Upcall.TheVariants.{Timeout, Notice}
use Rattle.log_handler.specs.reactor_journal.specs.Event.{Event, Timer}
use Rattle.log_handler.specs.reactor_journal.specs.declared.entry.Entry.{Entry}
use Rattle.log_handler.specs.reactor_journal.specs.declared.entry.Entry.TheVariants.{Due}
use Rattle.log_handler.specs.reactor_journal.specs.declared.entry.Entry.TheVariants.{Ready}
use Rattle.log_handler.specs.reactor_journal.specs.declared.entry.Entry.TheVariants.{Posted}
use Rattle.log_handler.specs.reactor_journal.specs.declared.entry.Entry.TheVariants.{Returned}
use Rattle.log_handler.specs.reactor_journal.specs.Past.{event_at, event_made}
use Rattle.log_handler.specs.reactor_journal.specs.Past.{only_if_alive}
use Rattle.log_handler.specs.reactor_journal.specs.Past.{timer_of, timeout_of}
use Rattle.log_handler.specs.reactor_journal.specs.Past.{upcall_of}
use Rattle.log_handler.specs.reactor_journal.specs.Past.{was_opened}
use Rattle.log_handler.specs.reactor_journal.specs.Past.{was_removed}
use Rattle.laws_script_taken.specs.reactor_model.specs.Entries.{is_notice}

-- ---- an event of a notification

no_event : {P : Type 0} (event : Event) → ◌≡◌ {A = Option Event} None (Some event) → P
no_event event q = absurd cc

is_some : (a b : Event) → ◌≡◌ {A = Option Event} (Some a) (Some b) → a ≡ b
is_some a b q = cc

no_timeout : (timer : Option Timer) (t : ℕ) (event : Event) (kind : Kind)
    → option_map (timeout_of t) timer ≡ Some event → event.upcall ≡ Notice kind → ⊥
no_timeout None t event kind q n = no_event event q
no_timeout (Some timer) t event kind q n =
    let up : Timeout t ≡ Notice kind = ap (λ (e : Event). e.upcall) (is_some _ event q) ∙ n in
    cc

no_ready : (of kind : Kind) (event : Event) (x : ℕ)
    → Some (record { handle = x; upcall = upcall_of of }) ≡ Some event → event.upcall ≡ Notice kind
    → ⊥
no_ready Read kind event x q n = let up : Input ≡ Notice kind =
    ap (λ (e : Event). e.upcall) (is_some _ event q) ∙ n in cc
no_ready Write kind event x q n = let up : Output ≡ Notice kind =
    ap (λ (e : Event). e.upcall) (is_some _ event q) ∙ n in cc
no_ready Except kind event x q n = let up : ExceptUp ≡ Notice kind =
    ap (λ (e : Event). e.upcall) (is_some _ event q) ∙ n in cc

was_alive : (alive : ℕ → Bool) (found : Option Event) (event : Event)
    → only_if_alive alive found ≡ Some event → found ≡ Some event
was_alive alive None event q = no_event event q
was_alive alive (Some before) event q = by (alive before.handle) q
  where
    by : (b : Bool) → (if b then Some before else None) ≡ Some event → Some before ≡ Some event
    by true q = q
    by false q = no_event event q

module _ {N : Type 0} (past : List (Entry N)) (event : Event) (kind : Kind)
    (n : event.upcall ≡ Notice kind) (before : (i : ℕ) → event_at past i ≡ Some event
    → list_any is_notice past ≡ true) where
  notice_made : (e : Entry N) (alive : ℕ → Bool)
      → event_made e (timer_of past) (event_at past) alive ≡ Some event
      → (is_notice e || list_any is_notice past) ≡ true
  notice_made (Due timer) alive q = absurd (no_timeout (timer_of past timer) timer event kind q n)
  notice_made (Ready handle of) alive q = absurd (no_ready of kind event handle.0 q n)
  notice_made (Posted handle of from seq) alive q = refl
  notice_made (Returned other Again note) alive q =
      before other (was_alive alive (event_at past other) event q)
  notice_made _ alive q = no_event event q

  notice_at : (e : Entry N) (alive : ℕ → Bool) (i : ℕ) (b : Bool)
      → elim b [
        | true ↦ event_made e (timer_of past) (event_at past) alive
        | false ↦ event_at past
            i
      ] ≡ Some event → (is_notice e || list_any is_notice past) ≡ true
  notice_at e alive i true q = notice_made e alive q
  notice_at e alive i false q = or_right (is_notice e) (list_any is_notice past) (before i q)

-- if an event asks for a notice, there is a notification
pub notice_there : {N : Type 0} (past : List (Entry N)) (i : ℕ) (event : Event) (kind : Kind)
    → event_at past i ≡ Some event → event.upcall ≡ Notice kind → list_any is_notice past ≡ true
notice_there [] i event kind q n = no_event event q
notice_there (e ∷ past) i event kind q n =
    notice_at past event kind n (λ j k. notice_there past j event kind k n) e
    (λ x. was_opened past x && not (was_removed past x)) i (i == length past) q

-- ---- tests of lists

filter_more : {A : Type 0} (test p : A → Bool) (x : A) (xs : List A) (b : Bool) → test x ≡ b
    → ((x : A) → test x ≡ false → p x ≡ true)
    → (list_all p (filter test xs) ≡ true → list_all p xs ≡ true)
    → list_all p (if b then x ∷ filter test xs else filter test xs) ≡ true
    → (p x && list_all p xs) ≡ true
filter_more test p x xs true is others before all = let parts =
    and_parts (p x) (list_all p (filter test xs)) all in
    and_from (p x) (list_all p xs) parts.0 (before parts.1)
filter_more test p x xs false is others before all =
    and_from (p x) (list_all p xs) (others x is) (before all)

-- what holds of all that pass a test, and of each that does not, holds of all
pub all_of_filter : {A : Type 0} (test p : A → Bool) (xs : List A)
    → ((x : A) → test x ≡ false → p x ≡ true) → list_all p (filter test xs) ≡ true
    → list_all p xs ≡ true
all_of_filter test p [] others all = refl
all_of_filter test p (x ∷ xs) others all =
    filter_more test p x xs (test x) refl others (all_of_filter test p xs others) all

none_more : (b rest none : Bool) → (none ≡ true → rest ≡ false) → (not b && none) ≡ true
    → (b || rest) ≡ false
none_more true rest none before all = absurd (false≢true all)
none_more false rest none before all = before all

-- if all fail a test, none passes
pub none_of_all : {A : Type 0} (test : A → Bool) (xs : List A)
    → list_all (λ x. not (test x)) xs ≡ true → list_any test xs ≡ false
none_of_all test [] all = refl
none_of_all test (x ∷ xs) all = none_more (test x) (list_any test xs)
    (list_all (λ x. not (test x)) xs) (none_of_all test xs) all
