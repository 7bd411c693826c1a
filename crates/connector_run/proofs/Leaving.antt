-- What the net of a run of one connector has taken back.
use Rattle.std.proofs.Common.{ℕ, ◌≡◌, ◌≤◌, ◌==◌, ◌&&◌, ◌||◌, true, false, not, List, [], ◌∷◌}
use Rattle.std.proofs.Common.{◌++◌, length, refl}
use Rattle.std.proofs.Common.{sym, ap, ◌∙◌, subst, arith, Option, Some, None, cond, drop}
use Rattle.std.proofs.lemmas.List.{append-nil, append_assoc, drop-append-le}
use Rattle.std.specs.List.{list_any, filter}
use Rattle.ev_base.specs.Net.{NetFacts, Call}
use Rattle.ev_base.specs.declared.net.Waited.{Waited}
use Rattle.ev_base.specs.declared.net.Waited.TheVariants as waited
use Rattle.ev_base.specs.Terms.{Terms}
use Rattle.ev_base.specs.ev_types.specs.declared.upcall.Answer.TheVariants.{Close}
use Rattle.ev_base.specs.ev_types.specs.declared.upcall.Handle.{Handle}
use Rattle.timer_queue.specs.declared.timer.Timer.{Timer}
use Rattle.reactor_model.specs.Handling.{Handling}
use Rattle.reactor_model.specs.reactor_journal.specs.Event.{Item}
use Rattle.reactor_model.specs.reactor_journal.specs.declared.entry.Entry.{Entry}
use Rattle.reactor_model.specs.reactor_journal.specs.declared.entry.Entry.TheVariants as entry
use Rattle.reactor_model.specs.reactor_journal.specs.Past.{past_of, had, origin_of, reason_of}
use Rattle.reactor_model.specs.reactor_journal.specs.Past.{count, is_closed}
use Rattle.reactor_model.specs.reactor_journal.specs.Follow.{Legal}
use Rattle.reactor_model.specs.reactor_journal.proofs.Turning.{past_of-more, Legal-front}
use Rattle.reactor_core.specs.reactor_summary.specs.Summary.{Summary, is_alive, is_busy}
use Rattle.reactor_core.specs.reactor_summary.specs.Tells.{is_refused}
use Rattle.reactor_core.specs.reactor_summary.specs.declared.parts.LiveHandle.{LiveHandle}
use Rattle.reactor_core.specs.reactor_summary.proofs.Told.{told}
use Rattle.reactor_core.specs.Acting.{StopAppends}
use Rattle.reactor_core.specs.Beginning.{PartsStand}
use Rattle.reactor_core.specs.Ends.{AreRetired, AreTurnedAway, WhereTold}
use Rattle.reactor_core.specs.Marks.{MarksStand, answers, is_polled, last_over, told_answers}
use Rattle.reactor_core.specs.Removing.{AreRemovals}
use Rattle.reactor_core.specs.Settling.{IsClosing}
use Rattle.reactor_core.specs.Stands.{Meaning, NetStands}
use Rattle.reactor_core.specs.declared.marks.WaitMarks.{WaitMarks}
use Rattle.reactor_core.specs.declared.reactor.Parts.{Parts}
use Rattle.reactor_core.proofs.Dispatch.{had_returned}
use Rattle.reactor_core.proofs.Started.{alive_no_close}
use Rattle.core_loop.specs.Leading.{LeavesFrom, NoneOpen, closed_of}
use Rattle.core_loop.proofs.Keeping.{sum, sum_more}
use Rattle.connector_run.specs.Leaving.{LastWaitWasOver, LeavesOne, LeavesClosed, LeavesAlive}
use Rattle.connector_run.specs.Phases.{ClosedItself, IsAlive, one_handle}

-- ---- what the stop appended

pub stops_shut : {N : Type 0} (s : Summary) (entries : List (Entry N)) → s.ended ≡ false
    → s.handles ≡ [] → StopAppends s s.ended entries → entries ≡ entry.Ended ∷ []
stops_shut {N} s entries going none stops =
    let st = subst (λ b. StopAppends s b entries) going stops in
    let removed : st.0 ≡ [] = subst (λ (hs : List LiveHandle).
    AreRemovals {N = N} (is_busy s) (filter (λ h. h.alive) hs) st.0) none st.1 in
    st.2 ∙ ap (λ es. entry.Ended ∷ es) removed

pub record StopsAlive {N : Type 0} (entries : List (Entry N)) : Type 0 where
  pub said : N
  pub is : entries ≡ entry.Ended ∷ entry.Removed one_handle ∷ entry.Closed one_handle said ∷ []

pub stops_alive : {N : Type 0} (s : Summary) (entries : List (Entry N)) (handler : LiveHandle)
    → s.ended ≡ false → s.handles ≡ handler ∷ [] → handler.handle ≡ one_handle
    → handler.alive ≡ true → s.opens ≡ [] → StopAppends s s.ended entries → StopsAlive entries
stops_alive {N} s entries handler going are handle alive none stops =
    let st = subst (λ b. StopAppends s b entries) going stops in
    let one : filter (λ (h : LiveHandle). h.alive) s.handles ≡ handler ∷ [] =
    ap (filter (λ (h : LiveHandle). h.alive)) are
    ∙ ap (λ b. cond b (handler ∷ []) []) alive in
    let r : AreRemovals {N = N} (is_busy s) (handler ∷ []) st.0 =
    subst (λ (hs : List LiveHandle). AreRemovals {N = N} (is_busy s) hs st.0) one st.1 in
    let busy : is_busy s handler.handle.0 ≡ false =
    ap (list_any (λ o. o.handle.0 == handler.handle.0)) none in
    let c : IsClosing true handler.handle r.0 =
    subst (λ b. IsClosing (not b) handler.handle r.0) busy r.2 in
    let all : st.0 ≡ entry.Removed handler.handle ∷ entry.Closed handler.handle c.0 ∷ [] =
    r.4 ∙ (ap (λ es. entry.Removed handler.handle ∷ (r.0 ++ es)) r.3
    ∙ ap (λ es. entry.Removed handler.handle ∷ es) (append-nil r.0 ∙ c.1)) in
    record {
      said = c.0;
      is = st.2 ∙ (ap (λ es. entry.Ended ∷ es) all
          ∙ ap (λ (x : Handle). entry.Ended ∷ entry.Removed x ∷ entry.Closed x c.0 ∷ []) handle);
    }

-- ---- ends

-- no mark is after the last wait
last_within : (told : List Waited) → last_over told ≤ length told
last_within [] = omega arith
last_within (waited.Over moment ∷ earlier) = omega arith
last_within (waited.Reports now many ∷ earlier) = omega (arith, last_within earlier)
last_within (waited.Quiet now ∷ earlier) = omega (arith, last_within earlier)
last_within (waited.Failed ∷ earlier) = omega (arith, last_within earlier)

pub told_as : {A : Type 0} (a b : A) (told : Option A) → a ≡ b → WhereTold (λ x. x ≡ a) told
    → WhereTold (λ x. x ≡ b) told
told_as a b None same w = tt
told_as a b (Some x) same w = w ∙ same

module _ {H E N : Type 0} (means : Handling H E N) (t : Terms) where
  none_retired : (past : List (Entry N)) (ends : List (ℕ × E)) → count is_closed past ≡ 0
      → AreRetired means t past ends → ends ≡ []
  none_retired [] ends none r = r
  none_retired (entry.Closed handle note ∷ past) ends none r = cc
  none_retired (_ ∷ past) ends none r = none_retired past ends none r

  none_away : (past : List (Entry N)) (ends : List E) → count is_refused past ≡ 0
      → AreTurnedAway means t past ends → ends ≡ []
  none_away [] ends none r = r
  none_away (entry.Refused live fault note ∷ past) ends none r = cc
  none_away (_ ∷ past) ends none r = none_away past ends none r

  record Gone (past : List (Entry N)) (said : N) (ends : List (ℕ × E)) : Type 0 where
    end : E
    is : ends ≡ (0, end) ∷ []
    gone : means.gone t (origin_of past 0) end (had past 0) (reason_of past 0) said

  one_gone : (past : List (Entry N)) (said : N) (ends : List (ℕ × E)) → count is_closed past ≡ 0
      → AreRetired means t (entry.Closed one_handle said ∷ past) ends → Gone past said ends
  one_gone past said [] none r = absurd r
  one_gone past said (one ∷ more) none r = record {
    end = one.1;
    is = ap (λ rest. one ∷ rest) (none_retired past more none r.1)
        ∙ ap (λ (x : ℕ). (x, one.1) ∷ []) r.0.0;
    gone = r.0.1;
  }

  -- the net's ends, if one handler was closed and none refused
  leaves_one : (all past : List (Entry N)) (said : N) (net : NetFacts E) (turns : List (Item N))
      → NetStands means t all [] net → count is_closed past ≡ 0 → count is_refused all ≡ 0
      → ((ends : List (ℕ × E)) → AreRetired means t all ends
      → AreRetired means t (entry.Closed one_handle said ∷ past) ends) → had past 0 ≡ turns
      → LeavesOne means t turns net
  leaves_one all past said net turns st none none_refused down same =
      let g = one_gone past said st.retired.0 none (down st.retired.0 st.retired.1) in
      record {
        end = g.end;
        retired = told_as st.retired.0 ((0, g.end) ∷ []) net.retired g.is st.retired.2;
        turned_away = told_as st.turned_away.0 [] net.turned_away
            (none_away all st.turned_away.0 none_refused st.turned_away.1) st.turned_away.2;
        origin = origin_of past 0;
        why = reason_of past 0;
        said = said;
        gone = subst (λ items. means.gone t (origin_of past 0) g.end items (reason_of past 0) said)
            same g.gone;
      }

-- no entry of a legal history closed or refused a handler, if its summary counts none
counted : {N : Type 0} (most : ℕ) (h : List (Entry N)) → Legal h most → (sum h).closed ≡ 0
    → count is_closed (past_of h) ≡ 0
counted most h legal none = sym (told most (past_of h) legal).closed ∙ none

counted_refused : {N : Type 0} (most : ℕ) (h : List (Entry N)) → Legal h most
    → (sum h).refused ≡ 0 → count is_refused (past_of h) ≡ 0
counted_refused most h legal none = sym (told most (past_of h) legal).refused ∙ none

past_three : {N : Type 0} (h : List (Entry N)) (a b c : Entry N)
    → past_of (h ++ a ∷ b ∷ c ∷ []) ≡ c ∷ b ∷ a ∷ past_of h
past_three h a b c =
    ap past_of (sym (append_assoc (h ++ a ∷ []) (b ∷ []) (c ∷ [])
    ∙ append_assoc h (a ∷ []) (b ∷ c ∷ [])))
    ∙ (past_of-more ((h ++ a ∷ []) ++ b ∷ []) c
    ∙ ap (λ past. c ∷ past) (past_of-more (h ++ a ∷ []) b
    ∙ ap (λ past. b ∷ past) (past_of-more h a)))

none_counted : {N : Type 0} (h : List (Entry N)) → closed_of h ≡ 0
    → ((sum h).closed ≡ 0) × ((sum h).refused ≡ 0)
none_counted h none = (omega (arith, none), omega (arith, none))

module _ {H M Q' W V N E : Type 0} (m : Meaning H M Q' W V N E) (armed : Q' → List Timer)
    (t : Terms) (first : ℕ) (h : List (Entry N)) (parts : Parts N M Q' W V)
    (legal : Legal h t.most) where
  pub leaves_alive : (wait : ℕ) → IsAlive wait h → NoneOpen h
      → LeavesFrom m armed t first h parts → LeavesAlive m armed t first h parts
  leaves_alive wait a none l =
      let s = stops_alive (sum h) l.entries a.handler a.going a.handles a.handle a.alive none
      l.stops
      in
      let past : List (Entry N) = entry.Removed one_handle ∷ entry.Ended ∷ past_of h in
      let stand : PartsStand m armed t first
      (h ++ entry.Ended ∷ entry.Removed one_handle ∷ entry.Closed one_handle s.said ∷ []) parts =
      subst (λ es. PartsStand m armed t first (h ++ es) parts) s.is l.stand in
      let net : NetStands m.means t (entry.Closed one_handle s.said ∷ past) [] (m.facts parts.net) =
      subst (λ (p : List (Entry N)). NetStands m.means t p [] (m.facts parts.net))
      (past_three h entry.Ended (entry.Removed one_handle) (entry.Closed one_handle s.said))
      stand.net in
      let counts = none_counted h a.none_closed in
      record {
        one = leaves_one m.means t (entry.Closed one_handle s.said ∷ past) past s.said
            (m.facts parts.net) (had (past_of h) 0) net (counted t.most h legal counts.0)
            (counted_refused t.most h legal counts.1) (λ ends r. r)
            (append-nil (had (past_of h) 0 ++ []) ∙ append-nil (had (past_of h) 0));
        said = s.said;
        stand = stand;
      }

  pub leaves_closed : (wait : ℕ) (c : ClosedItself wait first h)
      → LeavesFrom m armed t first h parts → LeavesClosed m armed t c parts
  leaves_closed wait c l =
      let entries : l.entries ≡ entry.Ended ∷ [] =
      stops_shut (sum h) l.entries c.going c.none_live l.stops in
      let g : List (Entry N) = c.before ++ entry.Started c.event ∷ [] in
      let returned : Entry N = entry.Returned c.returned Close c.note in
      let closed : Entry N = entry.Closed one_handle c.said in
      let stand : PartsStand m armed t first (h ++ entry.Ended ∷ []) parts =
      subst (λ es. PartsStand m armed t first (h ++ es) parts) entries l.stand in
      let at_start : past_of g ≡ entry.Started c.event ∷ past_of c.before =
      past_of-more c.before (entry.Started c.event) in
      let past_h : past_of h ≡ closed ∷ returned ∷ past_of g =
      ap past_of c.is ∙ (past_three c.before (entry.Started c.event) returned closed
      ∙ ap (λ past. closed ∷ returned ∷ past) (sym at_start)) in
      let all : past_of (h ++ entry.Ended ∷ []) ≡ entry.Ended ∷ closed ∷ returned ∷ past_of g =
      past_of-more h entry.Ended ∙ ap (λ past. entry.Ended ∷ past) past_h in
      let net : NetStands m.means t (entry.Ended ∷ closed ∷ returned ∷ past_of g) []
      (m.facts parts.net) =
      subst (λ (p : List (Entry N)). NetStands m.means t p [] (m.facts parts.net)) all stand.net in
      let legal_h : Legal (c.before ++ entry.Started c.event ∷ returned ∷ closed ∷ []) t.most =
      subst (λ (k : List (Entry N)). Legal k t.most) c.is legal in
      let legal_before : Legal c.before t.most = Legal-front c.before _ t.most legal_h in
      let legal_g : Legal g t.most = Legal-front g (returned ∷ closed ∷ []) t.most
      (subst (λ (k : List (Entry N)). Legal k t.most)
      (sym (append_assoc c.before (entry.Started c.event ∷ []) (returned ∷ closed ∷ []))) legal_h)
      in
      let counts = none_counted c.before c.alive.none_closed in
      let journal : parts.journal.entries
      ≡ (drop first c.before ++ entry.Started c.event ∷ []) ++ returned ∷ closed ∷ entry.Ended ∷ []
      =
      stand.journal ∙ (ap (λ (k : List (Entry N)). drop first (k ++ entry.Ended ∷ [])) c.is
      ∙ (ap (drop first) (append_assoc c.before (entry.Started c.event ∷ returned ∷ closed ∷ [])
      (entry.Ended ∷ []))
      ∙ (drop-append-le first c.before
      (entry.Started c.event ∷ returned ∷ closed ∷ entry.Ended ∷ []) c.held
      ∙ sym (append_assoc (drop first c.before) (entry.Started c.event ∷ [])
      (returned ∷ closed ∷ entry.Ended ∷ []))))) in
      let alive : is_alive (sum g) 0 ≡ true =
      ap (λ (s : Summary). is_alive s 0) (sum_more c.before (entry.Started c.event))
      ∙ (ap (list_any (λ (h : LiveHandle). h.handle.0 == 0 && h.alive)) c.alive.handles
      ∙ here c.alive.handler c.alive.handle c.alive.alive) in
      record {
        earlier = had (past_of g) 0;
        goes_on = alive_no_close t.most (past_of g) 0 legal_g alive;
        one = leaves_one m.means t (entry.Ended ∷ closed ∷ returned ∷ past_of g)
            (returned ∷ past_of g) c.said (m.facts parts.net) _ net
            (ap (count is_closed) at_start ∙ counted t.most c.before legal_before counts.0)
            (ap (count is_refused) at_start
            ∙ counted_refused t.most c.before legal_before counts.1) (λ ends r. r)
            (had_returned t.most (past_of g) c.returned Close c.note _ legal_g c.made);
        stand = stand;
        front = drop first c.before ++ entry.Started c.event ∷ [];
        journal = journal;
      }
    where
      here : (handler : LiveHandle) → handler.handle ≡ one_handle → handler.alive ≡ true
          → (handler.handle.0 == 0 && handler.alive || false) ≡ true
      here handler handle alive =
          ap (λ (x : Handle). x.0 == 0 && handler.alive || false) handle
          ∙ ap (λ b. true && b || false) alive

-- ---- the last wait

last_is_over : (told : List Waited) → last_over told ≡ length told → 1 ≤ length told
    → (moment : ℕ) × (earlier : List Waited) × (told ≡ waited.Over moment ∷ earlier)
last_is_over [] q some = absurd (none some)
  where
    none : 1 ≤ 0 → ⊥
    none q = omega (arith, q)
last_is_over (waited.Over moment ∷ earlier) q some = (moment, earlier, refl)
last_is_over (waited.Reports now many ∷ earlier) q some =
    absurd (omega (arith, q, last_within earlier))
last_is_over (waited.Quiet now ∷ earlier) q some = absurd (omega (arith, q, last_within earlier))
last_is_over (waited.Failed ∷ earlier) q some = absurd (omega (arith, q, last_within earlier))

-- if the mark is the number of the last wait
pub last_waited : {N : Type 0} (marks : WaitMarks) (past later : List (Entry N))
    (calls : Option (List Call)) → marks.made ≡ count is_polled past
    → MarksStand marks later (told_answers calls) → marks.over ≡ count is_polled past
    → 1 ≤ marks.over → WhereTold LastWaitWasOver calls
last_waited marks past later None made st over some = tt
last_waited marks past later (Some calls) made st over some =
    let r = last_is_over (answers calls)
    (sym st.over.over ∙ (over ∙ (sym made ∙ st.over.made)))
    (omega (arith, some, over, made, st.over.made)) in
    record { moment = r.0; earlier = r.1; is = r.2 }
