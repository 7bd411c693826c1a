-- What a net's calls have of a history: the moments of waits, and the reports that they gave.
use Rattle.std.proofs.Common.{ℕ, suc, ◌≡◌, ◌≤◌, ◌+◌, ◌==◌, ◌&&◌, ◌||◌, ◌⊎◌, inl, inr, ⊎_elim, Bool}
use Rattle.std.proofs.Common.{true, false, not, List, [], ◌∷◌, ◌++◌, refl, sym, ap, ◌∙◌, subst}
use Rattle.std.proofs.Common.{arith, cond}
use Rattle.std.proofs.lemmas.Bool.{false≢true, and_parts, and_from, or_parts, cases_Bool, cond-true}
use Rattle.std.proofs.lemmas.Bool.{cond-false, eqb-true}
use Rattle.std.specs.List.{list_all, filter}
use Rattle.ev_base.specs.Net.{Call, Waits, Attaches, SetsMask, Retires, TurnsAway}
use Rattle.ev_base.specs.Terms.{Terms}
use Rattle.ev_base.specs.declared.net.Report.{Report}
use Rattle.ev_base.specs.ev_types.specs.declared.upcall.Kind.{Kind}
use Rattle.ev_base.specs.ev_types.specs.declared.upcall.Kind.TheVariants as kind
use Rattle.ev_base.specs.ev_types.specs.declared.upcall.Mask.{Mask}
use Rattle.reactor_model.specs.Handling.{Handling}
use Rattle.reactor_model.specs.reactor_journal.specs.declared.entry.Entry.{Entry}
use Rattle.reactor_model.specs.reactor_journal.specs.declared.entry.Entry.TheVariants as entry
use Rattle.reactor_model.specs.reactor_journal.specs.Past.{count}
use Rattle.reactor_model.specs.reactor_journal.specs.Past as P
use Rattle.reactor_model.specs.reactor_journal.specs.Follow as F
use Rattle.reactor_model.specs.reactor_journal.specs.Follow.{is_legal}
use Rattle.reactor_core.specs.Calls.{AreCalls, CallsBy, IsCallOf, is_taken, makes_call}
use Rattle.reactor_model.specs.Entries.{taken_before}
use Rattle.reactor_core.specs.reactor_summary.specs.Summary as S
use Rattle.reactor_core.specs.reactor_summary.specs.Summary.{Summary, summary}
use Rattle.reactor_core.specs.reactor_summary.proofs.Reading.{wanted_is}
use Rattle.reactor_core.specs.reactor_summary.proofs.Told.{told}
use Rattle.connector_run.specs.Phases.{is_served, write_alone}
use Rattle.connector_run.proofs.Waits.{base}
use Rattle.cmd_forward.specs.Runs.{WasAnsweredAt, is_write, reports_in, tells_write}

-- ---- a moment that was read of a wait

abbrev pub Polls : {N : Type 0} → ℕ → List (Entry N) → Type 0
Polls moment [] = ⊥
Polls {N} moment (e ∷ past) = (e ≡ entry.Polled moment) ⊎ Polls moment past

pub polls_now : {N : Type 0} (past : List (Entry N)) → 1 ≤ P.now past → Polls (P.now past) past
polls_now [] some = absurd (omega (arith, some))
polls_now (entry.Polled moment ∷ past) some = inl refl
polls_now (_ ∷ past) some = inr (polls_now past some)

-- an event that was started then
module _ {N : Type 0} (e : Entry N) (past : List (Entry N)) (i : ℕ) where
  abbrev picked : Bool → ℕ
  picked b = elim b [ true ↦ P.now past | false ↦ P.started_at past i ]

  started_so : (1 ≤ P.started_at past i → Polls (P.started_at past i) past) → (b : Bool)
      → 1 ≤ picked b → Polls (picked b) (e ∷ past)
  started_so earlier true some = inr (polls_now past some)
  started_so earlier false some = inr (earlier some)

pub polls_started : {N : Type 0} (past : List (Entry N)) (i : ℕ) → 1 ≤ P.started_at past i
    → Polls (P.started_at past i) past
polls_started [] i some = absurd (omega (arith, some))
polls_started (e ∷ past) i some =
    started_so e past i (polls_started past i) (P.starts i e) some

module _ {H E N : Type 0} (means : Handling H E N) (t : Terms) where
  answered_call : (moment : ℕ) (past : List (Entry N)) (taken : List Report) (call : Call)
      (calls : List Call) → IsCallOf means t past taken (entry.Polled moment) call
      → WasAnsweredAt moment (call ∷ calls)
  answered_call moment past taken (Waits most answer reports) calls is = record {
    later = [];
    most = most;
    answer = answer;
    reports = reports;
    earlier = calls;
    is = refl;
    at = is.moment;
  }
  answered_call moment past taken (Attaches handle mask serial) calls is = absurd is
  answered_call moment past taken (SetsMask handle mask) calls is = absurd is
  answered_call moment past taken (Retires handle) calls is = absurd is
  answered_call moment past taken (TurnsAway serial) calls is = absurd is

  one_later : (moment : ℕ) (call : Call) (calls : List Call) → WasAnsweredAt moment calls
      → WasAnsweredAt moment (call ∷ calls)
  one_later moment call calls w = record {
    later = call ∷ w.later;
    most = w.most;
    answer = w.answer;
    reports = w.reports;
    earlier = w.earlier;
    is = ap (λ cs. call ∷ cs) w.is;
    at = w.at;
  }

  pub was_answered : (moment : ℕ) (past : List (Entry N)) (taken : List Report) (calls : List Call)
      → AreCalls means t past taken calls → Polls moment past → WasAnsweredAt moment calls
  was_answered moment [] taken calls are polls = absurd polls
  was_answered moment (e ∷ past) taken calls are polls =
      by (was_answered moment past (taken_before e taken)) (makes_call e) refl calls are polls
    where
      by : ((rest : List Call) → AreCalls means t past (taken_before e taken) rest
          → Polls moment past → WasAnsweredAt moment rest) → (b : Bool) → makes_call e ≡ b
          → (calls : List Call) → CallsBy means t b e past taken calls
          (λ rest. AreCalls means t past (taken_before e taken) rest) → Polls moment (e ∷ past)
          → WasAnsweredAt moment calls
      by more false b calls are (inl is) =
          absurd (false≢true (sym b ∙ ap makes_call is))
      by more false b calls are (inr polls) = more calls are polls
      by more true b [] are polls = absurd are
      by more true b (call ∷ calls) are (inl is) =
          answered_call moment past taken call calls
          (subst (λ (x : Entry N). IsCallOf means t past taken x call) is are.0)
      by more true b (call ∷ calls) are (inr polls) =
          one_later moment call calls (more calls are.1 polls)

-- ---- reports

abbrev pub readies : {N : Type 0} → Entry N → Bool
readies (entry.Ready handle kind) = handle.0 == 0 && is_write kind
readies _ = false

mask_stays : {N : Type 0} (wait : ℕ) (es : List (Entry N)) → list_all is_served es ≡ true
    → P.mask_of (es ++ base wait) 0 ≡ write_alone
mask_stays wait [] kinds = refl
mask_stays {N} wait (e ∷ es) kinds =
    let k = and_parts (is_served e) (list_all is_served es) kinds in
    by_entry e k.0 ∙ mask_stays wait es k.1
  where
    by_entry : (e : Entry N) → is_served e ≡ true
        → P.mask_of (e ∷ (es ++ base wait)) 0 ≡ P.mask_of (es ++ base wait) 0
    by_entry (entry.Opened handle mask) is = absurd (false≢true is)
    by_entry (entry.Masked handle mask) is = absurd (false≢true is)
    by_entry _ is = refl

pub stays_opened : {N : Type 0} (wait : ℕ) (es : List (Entry N))
    → P.was_opened (es ++ base wait) 0 ≡ true
stays_opened wait [] = refl
stays_opened wait (e ∷ es) = or_true (P.opens 0 e) _ (stays_opened wait es)
  where
    or_true : (a b : Bool) → b ≡ true → (a || b) ≡ true
    or_true true b q = refl
    or_true false b q = q

fewer : {A : Type 0} (p q : A → Bool) (xs : List A) → ((a : A) → q a ≡ true → p a ≡ true)
    → count q xs ≤ count q (filter p xs)
fewer p q [] f = omega arith
fewer {A} p q (x ∷ xs) f = go (fewer p q xs f) (q x) refl
  where
    go : count q xs ≤ count q (filter p xs) → (b : Bool) → q x ≡ b
        → count q (x ∷ xs) ≤ count q (filter p (x ∷ xs))
    go less true b =
        let left : count q (x ∷ xs) ≡ suc (count q xs) =
        cond-true (q x) (suc (count q xs)) (count q xs) b in
        let right : count q (filter p (x ∷ xs)) ≡ suc (count q (filter p xs)) =
        ap (count q) (cond-true (p x) (x ∷ filter p xs) (filter p xs) (f x b))
        ∙ cond-true (q x) (suc (count q (filter p xs))) (count q (filter p xs)) b in
        omega (arith, less, left, right)
    go less false b =
        let left : count q (x ∷ xs) ≡ count q xs =
        cond-false (q x) (suc (count q xs)) (count q xs) b in
        ⊎_elim
        (λ (t : p x ≡ true).
        let right : count q (filter p (x ∷ xs)) ≡ count q (filter p xs) =
        ap (count q) (cond-true (p x) (x ∷ filter p xs) (filter p xs) t)
        ∙ cond-false (q x) (suc (count q (filter p xs))) (count q (filter p xs)) b in
        omega (arith, less, left, right))
        (λ (n : p x ≡ false).
        let right : count q (filter p (x ∷ xs)) ≡ count q (filter p xs) =
        ap (count q) (cond-false (p x) (x ∷ filter p xs) (filter p xs) n) in
        omega (arith, less, left, right))
        (cases_Bool (p x))

module _ {H E N : Type 0} (means : Handling H E N) (t : Terms) (wait most : ℕ) where
  -- the reports of the handle are taken while it is alive
  takes : (es : List (Entry N)) → list_all is_served es ≡ true
      → is_legal most (es ++ base wait) ≡ true → P.was_removed (es ++ base wait) 0 ≡ false
      → (r : Report) → tells_write r ≡ true → is_taken (summary (es ++ base wait)) r ≡ true
  takes es kinds legal lives r tells =
      let p = and_parts (r.handle.0 == 0) (is_write r.kind) tells in
      let past = es ++ base wait in
      let alive : P.is_alive past 0 ≡ true =
      and_from _ _ (stays_opened wait es) (ap not lives) in
      let wanted : S.is_wanted (summary past) 0 kind.Write ≡ true =
      wanted_is most past (summary past) 0 kind.Write legal (told most past legal)
      ∙ and_from _ _ alive (ap (λ (m : Mask). m.write) (mask_stays wait es kinds)) in
      ap (λ (n : ℕ). S.is_wanted (summary past) n r.kind) (eqb-true r.handle.0 0 p.0)
      ∙ (ap (S.is_wanted (summary past) 0) (written r.kind p.1) ∙ wanted)
    where
      written : (k : Kind) → is_write k ≡ true → k ≡ kind.Write
      written kind.Write q = refl
      written kind.Read q = absurd (false≢true q)
      written kind.Except q = absurd (false≢true q)

  none_reported : (calls : List Call) → calls ≡ [] → reports_in calls ≡ 0
  none_reported calls none = ap reports_in none

  first_reported : (taken : List Report) (calls : List Call)
      → AreCalls means t (base wait) taken calls → reports_in calls ≡ 0
  first_reported taken [] are = absurd are
  first_reported taken (Waits most answer reports ∷ calls) are = absurd are.0
  first_reported taken (Attaches handle mask serial ∷ calls) are = none_reported calls are.1
  first_reported taken (SetsMask handle mask ∷ calls) are = absurd are.0
  first_reported taken (Retires handle ∷ calls) are = absurd are.0
  first_reported taken (TurnsAway serial ∷ calls) are = absurd are.0

  -- it is so of the entries before
  abbrev Earlier : List (Entry N) → Type 0
  Earlier past = (taken : List Report) (calls : List Call) → AreCalls means t past taken calls
      → reports_in calls ≤ count readies past + count tells_write taken

  by_wait : (es : List (Entry N)) (taken : List Report) (moment : ℕ) → list_all is_served es ≡ true
      → is_legal most (es ++ base wait) ≡ true → P.was_removed (es ++ base wait) 0 ≡ false
      → Earlier (es ++ base wait) → (calls : List Call)
      → AreCalls means t (entry.Polled moment ∷ (es ++ base wait)) taken calls
      → reports_in calls ≤ count readies (es ++ base wait) + count tells_write taken
  by_wait es taken moment kinds legal lives earlier [] are = absurd are
  by_wait es taken moment kinds legal lives earlier (Waits asked answer reports ∷ calls) are =
      let past = es ++ base wait in
      let rest : reports_in calls ≤ count readies past + 0 = earlier [] calls are.1 in
      let less : count tells_write reports
      ≤ count tells_write (filter (is_taken (summary past)) reports) =
      fewer (is_taken (summary past)) tells_write reports (takes es kinds legal lives) in
      let same : count tells_write taken
      ≡ count tells_write (filter (is_taken (summary past)) reports) =
      ap (count tells_write) are.0.are_taken in
      omega (arith, rest, less, same)
  by_wait es taken moment kinds legal lives earlier (Attaches handle mask serial ∷ calls) are =
      absurd are.0
  by_wait es taken moment kinds legal lives earlier (SetsMask handle mask ∷ calls) are =
      absurd are.0
  by_wait es taken moment kinds legal lives earlier (Retires handle ∷ calls) are = absurd are.0
  by_wait es taken moment kinds legal lives earlier (TurnsAway serial ∷ calls) are = absurd are.0

  pub reported : (es : List (Entry N)) (taken : List Report) (calls : List Call)
      → list_all is_served es ≡ true → is_legal most (es ++ base wait) ≡ true
      → P.was_removed (es ++ base wait) 0 ≡ false → AreCalls means t (es ++ base wait) taken calls
      → reports_in calls ≤ count readies (es ++ base wait) + count tells_write taken
  reported [] taken calls kinds legal lives are =
      let none = first_reported taken calls are in
      omega (arith, none)
  reported (e ∷ es) taken calls kinds legal lives are =
      let k = and_parts (is_served e) (list_all is_served es) kinds in
      let l = and_parts (F.may_follow most (es ++ base wait) e) (is_legal most (es ++ base wait))
      legal in
      let r = or_parts (P.ends 0 (P.event_at (es ++ base wait)) e)
      (P.was_removed (es ++ base wait) 0) lives in
      by_entry e k.0 k.1 l.1 r.1
      (λ taken calls. reported es taken calls k.1 l.1 r.1) calls are
    where
      one_more : (b : Bool) (n a c : ℕ) → n ≤ a + cond b (suc c) c → n ≤ cond b (suc a) a + c
      one_more true n a c le = omega (arith, le)
      one_more false n a c le = le

      by_entry : (e : Entry N) → is_served e ≡ true → list_all is_served es ≡ true
          → is_legal most (es ++ base wait) ≡ true → P.was_removed (es ++ base wait) 0 ≡ false
          → Earlier (es ++ base wait)
          → (calls : List Call) → AreCalls means t (e ∷ (es ++ base wait)) taken calls
          → reports_in calls ≤ count readies (e ∷ (es ++ base wait)) + count tells_write taken
      by_entry (entry.Polled moment) is kinds legal lives earlier calls are =
          by_wait es taken moment kinds legal lives earlier calls are
      by_entry (entry.Ready handle kind) is kinds legal lives earlier calls are =
          one_more (handle.0 == 0 && is_write kind) (reports_in calls)
          (count readies (es ++ base wait))
          (count tells_write taken)
          (earlier (record { handle = handle; kind = kind } ∷ taken) calls are)
      by_entry (entry.Due timer) is kinds legal lives earlier calls are = earlier taken calls are
      by_entry (entry.Started event) is kinds legal lives earlier calls are =
          earlier taken calls are
      by_entry (entry.Returned event answer note) is kinds legal lives earlier calls are =
          earlier taken calls are
      by_entry _ is kinds legal lives earlier calls are = absurd (false≢true is)
