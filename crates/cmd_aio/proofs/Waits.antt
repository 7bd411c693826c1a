-- That no wait of a run has a limit: no timer is set in it, and its loop has no limit of its own.
use Rattle.std.proofs.Common.{ℕ, suc, ◌≡◌, ◌-◌, ◌==◌, Bool, true, false, not, List, [], ◌∷◌, ◌++◌}
use Rattle.std.proofs.Common.{map, refl, sym, ap, ◌∙◌, subst, arith, Option, Some, None}
use Rattle.std.specs.Prelude.{option_map, if◌then◌else◌}
use Rattle.std.proofs.lemmas.Bool.{and_parts, false≢true}
use Rattle.ev_base.specs.Net.{Call, Attaches, Retires, SetsMask, TurnsAway, Waits}
use Rattle.ev_base.specs.Terms.{Terms}
use Rattle.ev_base.specs.declared.net.Report.{Report}
use Rattle.ev_base.specs.ev_types.specs.declared.upcall.Answer.TheVariants.{Close}
use Rattle.ev_base.specs.ev_types.specs.declared.upcall.Handle.{Handle}
use Rattle.reactor_model.specs.Entries.{taken_before}
use Rattle.reactor_model.specs.Handling.{Handling}
use Rattle.reactor_model.specs.reactor_journal.specs.Event.{Event, Timer}
use Rattle.reactor_model.specs.reactor_journal.specs.Follow.{is_legal}
use Rattle.reactor_model.specs.reactor_journal.specs.Past.{armed, armed_after, count, due_at}
use Rattle.reactor_model.specs.reactor_journal.specs.Past.{event_at, past_of, period, rearms}
use Rattle.reactor_model.specs.reactor_journal.specs.Past.{timer_of, with_rearmed, without_handle}
use Rattle.reactor_model.specs.reactor_journal.specs.Past.{without_owner, without_timer}
use Rattle.reactor_model.specs.reactor_journal.specs.declared.entry.Entry.{Entry}
use Rattle.reactor_model.specs.reactor_journal.specs.declared.entry.Entry.TheVariants as entry
use Rattle.reactor_model.specs.reactor_journal.proofs.Turning.{count-append, count-past}
use Rattle.reactor_core.specs.Calls.{AreCalls, CallsBy, IsAskedFor, IsCallOf, makes_call, time_left}
use Rattle.reactor_core.specs.Ends.{WhereTold}
use Rattle.reactor_core.specs.Removing.{AreRemovals}
use Rattle.reactor_core.specs.Settling.{IsClosing}
use Rattle.reactor_core.specs.reactor_state.specs.Tables.{first_armed_deadline}
use Rattle.reactor_core.specs.reactor_summary.specs.Summary.{summary}
use Rattle.reactor_core.specs.reactor_summary.specs.Tells.{armed_timer}
use Rattle.reactor_core.specs.reactor_summary.specs.declared.parts.ArmedTimer.{ArmedTimer}
use Rattle.reactor_core.specs.reactor_summary.specs.declared.parts.LiveHandle.{LiveHandle}
use Rattle.reactor_core.specs.reactor_summary.proofs.Told.{told}
use Rattle.cmd_aio.specs.Leaving.{AskedWithoutLimit}
use Rattle.cmd_aio.proofs.Unstopped.{IsPlain, is_odd, none_left, plain_last}

-- ---- entries that set no timer

abbrev pub is_set : {N : Type 0} → Entry N → Bool
is_set (entry.Scheduled timer handle first every) = true
is_set _ = false

abbrev pub SetsNone : {N : Type 0} → List (Entry N) → Type 0
SetsNone es = count is_set es ≡ 0

none_last : {N : Type 0} (e : Entry N) (past : List (Entry N)) → SetsNone (e ∷ past)
    → (is_set e ≡ false) × SetsNone past
none_last e past q = none_left (is_set e) (count is_set past) q

none_both : {N : Type 0} (xs ys : List (Entry N)) → SetsNone xs → SetsNone ys → SetsNone (xs ++ ys)
none_both xs ys first second = omega (arith, count-append is_set xs ys, first, second)

plain_sets : {N : Type 0} (es : List (Entry N)) → IsPlain es → SetsNone es
plain_sets [] plain = refl
plain_sets {N} (e ∷ es) plain =
    let p : (is_odd e ≡ false) × IsPlain es = plain_last e es plain in
    subst (λ (b : Bool). (if b then suc (count is_set es) else count is_set es) ≡ 0)
    (sym (by e p.0)) (plain_sets es p.1)
  where
    by : (e : Entry N) → is_odd e ≡ false → is_set e ≡ false
    by (entry.Scheduled timer handle first every) q = absurd (false≢true (sym q))
    by _ q = refl

none_closing : {N : Type 0} (b : Bool) (handle : Handle) (es : List (Entry N))
    → IsClosing b handle es → SetsNone es
none_closing true handle es c = subst SetsNone (sym c.1) refl
none_closing false handle es c = subst SetsNone (sym c) refl

none_removed : {N : Type 0} (busy : ℕ → Bool) (handles : List LiveHandle) (es : List (Entry N))
    → AreRemovals busy handles es → SetsNone es
none_removed busy [] es a = subst SetsNone (sym a) refl
none_removed busy (h ∷ hs) es a =
    subst SetsNone (sym a.4)
    (none_both a.0 a.1 (none_closing (not (busy h.handle.0)) h.handle a.0 a.2)
    (none_removed busy hs a.1 a.3))

-- a run that sets none, and its end
pub sets_none : {N : Type 0} (run more removals : List (Entry N)) (busy : ℕ → Bool)
    (handles : List LiveHandle) → IsPlain run → AreRemovals busy handles removals
    → more ≡ entry.Ended ∷ removals → SetsNone (past_of (run ++ more))
sets_none {N} run more removals busy handles plain are is =
    count-past is_set (run ++ more)
    ∙ subst (λ (es : List (Entry N)). SetsNone (run ++ es)) (sym is)
    (none_both run (entry.Ended ∷ removals) (plain_sets run plain)
    (none_removed busy handles removals are))

-- ---- so no timer is armed

none_known : {N : Type 0} (past : List (Entry N)) (t : ℕ) → SetsNone past → timer_of past t ≡ None
none_known [] t none = refl
none_known (entry.Scheduled timer handle first every ∷ past) t none = absurd (omega (arith, none))
none_known (_ ∷ past) t none = none_known past t none

none_again : {N : Type 0} (past : List (Entry N)) (due : Option ℕ) → SetsNone past
    → rearms past due ≡ None
none_again past None none = refl
none_again past (Some t) none =
    subst (λ (timer : Option Timer).
    ◌≡◌ {A = Option ℕ} (if period timer == 0 then None else Some t) None)
    (sym (none_known past t none)) refl

armed_still : {N : Type 0} (e : Entry N) (past : List (Entry N)) → is_set e ≡ false
    → SetsNone past → armed past ≡ [] → armed_after past e (armed past) ≡ []
armed_still (entry.Scheduled timer handle first every) past set none are =
    absurd (false≢true (sym set))
armed_still (entry.Cancelled timer) past set none are = ap (without_timer timer) are
armed_still (entry.Due timer) past set none are = ap (without_timer timer) are
armed_still (entry.Started event) past set none are =
    ap (λ (again : Option ℕ). with_rearmed past again (armed past))
    (none_again past (due_at past event) none) ∙ are
armed_still (entry.Returned event Close note) past set none are = by (event_at past event)
  where
    by : (event : Option Event) → without_owner past event (armed past) ≡ []
    by None = are
    by (Some event) = ap (without_handle past event.handle) are
armed_still (entry.Removed handle) past set none are = ap (without_handle past handle.0) are
armed_still _ past set none are = are

none_armed : {N : Type 0} (past : List (Entry N)) → SetsNone past → armed past ≡ []
none_armed [] none = refl
none_armed (e ∷ past) none =
    let p : (is_set e ≡ false) × SetsNone past = none_last e past none in
    armed_still e past p.0 p.1 (none_armed past p.1)

none_left_of : {N : Type 0} (most : ℕ) (past : List (Entry N)) → is_legal most past ≡ true
    → SetsNone past → time_left (summary past) ≡ None
none_left_of most past legal none =
    let are : (summary past).armed ≡ [] = (told most past legal).armed
    ∙ ap (map (armed_timer past)) (none_armed past none) in
    ap (λ (timers : List ArmedTimer). option_map (λ (deadline : ℕ).
    deadline - (summary past).moment) (first_armed_deadline timers)) are

-- ---- so no wait was asked with a limit

module _ {H E N : Type 0} (means : Handling H E N) (t : Terms) (limit : t.limit ≡ Some None) where
  one_more : (e : Entry N) (past : List (Entry N)) (taken : List Report) (call : Call)
      (calls : List Call) → time_left (summary past) ≡ None → IsCallOf means t past taken e call
      → AskedWithoutLimit calls → AskedWithoutLimit (call ∷ calls)
  one_more (entry.Polled moment) past taken (Waits most answer reports) calls none is rest = (
    subst (λ (l : Option (Option ℕ)). IsAskedFor l (summary past) most) limit is.asked ∙ none,
    rest,
  )
  one_more e past taken (Attaches x given serial) calls none is rest = rest
  one_more e past taken (SetsMask x given) calls none is rest = rest
  one_more e past taken (Retires x) calls none is rest = rest
  one_more e past taken (TurnsAway serial) calls none is rest = rest
  one_more _ past taken (Waits most answer reports) calls none is rest = absurd is

  asked : (most : ℕ) (past : List (Entry N)) (taken : List Report) (calls : List Call)
      → is_legal most past ≡ true → SetsNone past → AreCalls means t past taken calls
      → AskedWithoutLimit calls
  asked most [] taken calls legal none are = subst AskedWithoutLimit (sym are) tt
  asked most (e ∷ past) taken calls legal none are =
      let before : is_legal most past ≡ true = (and_parts _ _ legal).1 in
      let p : (is_set e ≡ false) × SetsNone past = none_last e past none in
      by (λ rest more. asked most past (taken_before e taken) rest before p.1 more)
      (none_left_of most past before p.1) (makes_call e) calls are
    where
      by : ((rest : List Call) → AreCalls means t past (taken_before e taken) rest
          → AskedWithoutLimit rest) → time_left (summary past) ≡ None → (b : Bool)
          → (calls : List Call) → CallsBy means t b e past taken calls
          (λ rest. AreCalls means t past (taken_before e taken) rest) → AskedWithoutLimit calls
      by more left false calls are = more calls are
      by more left true [] are = absurd are
      by more left true (call ∷ calls) are =
          one_more e past taken call calls left are.0 (more calls are.1)

  pub asked_if_told : (most : ℕ) (past : List (Entry N)) (calls : Option (List Call))
      → is_legal most past ≡ true → SetsNone past
      → WhereTold (λ calls. AreCalls means t past [] calls) calls
      → WhereTold AskedWithoutLimit calls
  asked_if_told most past None legal none are = tt
  asked_if_told most past (Some calls) legal none are = asked most past [] calls legal none are
