-- The journal of a run, cut at its end.
use Rattle.std.proofs.Common.{ℕ, suc, ◌≡◌, ◌≤◌, ◌+◌, ◌⊎◌, inl, inr, ⊎_elim, Bool, true, false, not}
use Rattle.std.proofs.Common.{if◌then◌else◌, List, [], ◌∷◌, ◌++◌, length, refl, sym, ap, ◌∙◌, subst}
use Rattle.std.proofs.Common.{arith, Option, Some, None}
use Rattle.std.proofs.lemmas.Bool.{and_from, true≢false, or_left}
use Rattle.std.proofs.lemmas.List.{append-nil, append_assoc}
use Rattle.std.proofs.lemmas.List.Folds.{list_all-append, list_any-append}
use Rattle.std.specs.List.{list_all, list_any}
use Rattle.ev_base.specs.ev_types.specs.declared.upcall.Handle.{Handle}
use Rattle.ev_base.specs.ev_types.specs.declared.upcall.Kind.{Kind}
use Rattle.ev_base.specs.ev_types.specs.declared.upcall.Upcall.{Upcall}
use Rattle.ev_base.specs.ev_types.specs.declared.upcall.Upcall.TheVariants.{Notice}
use Rattle.ev_base.specs.Terms.{Terms}
use Rattle.log_handler.specs.reactor_journal.specs.declared.entry.Entry.{Entry}
use Rattle.log_handler.specs.reactor_journal.specs.declared.entry.Entry.TheVariants
    as entry
use Rattle.log_handler.specs.reactor_journal.specs.declared.entry.Entry.TheVariants.{Ended}
use Rattle.log_handler.specs.reactor_journal.specs.Past.{past_of, count}
use Rattle.log_handler.specs.reactor_journal.specs.Past.{is_closed}
use Rattle.tp_reactor.specs.reactor_summary.specs.Summary.{Summary, closed_after}
use Rattle.tp_reactor.specs.reactor_summary.specs.Summary.{ended_after}
use Rattle.tp_reactor.specs.reactor_summary.specs.Summary.{refused_after}
use Rattle.tp_reactor.specs.reactor_summary.specs.Summary.{is_busy, summary}
use Rattle.tp_reactor.specs.reactor_summary.specs.declared.parts.LiveHandle.{LiveHandle}
use Rattle.log_handler.specs.reactor_model.specs.Handling.{Handling, Stopping}
use Rattle.tp_reactor.specs.laws_by_turns.specs.ByTurns.{DispatchedByTurns, MayHere}
use Rattle.tp_reactor.specs.laws_by_turns.proofs.Cuts.{InFirst, InSecond, cut_at}
use Rattle.log_handler.specs.reactor_journal.specs.Follow.{Legal}
use Rattle.tp_reactor.specs.reactor_core.specs.Acting.{StopAppends}
use Rattle.tp_reactor.specs.reactor_core.specs.Ends.{AreRetired}
use Rattle.tp_reactor.specs.reactor_core.specs.Removing.{AreRemovals, alive_handles}
use Rattle.tp_reactor.specs.reactor_core.specs.Settling.{IsClosing}
use Rattle.laws_script_taken.specs.laws_script_runs.specs.Runs.{first_handle, is_closing}
use Rattle.laws_script_taken.specs.reactor_model.specs.Entries.{is_notice}
use Rattle.laws_script_taken.specs.laws_script_runs.specs.Runs.{is_refusal}
use Rattle.laws_script_taken.specs.Laws.{OffersEach}
use Rattle.laws_script_taken.proofs.Offered.{offers_each}
use Rattle.tp_reactor.specs.Pool.{HasClosed}
use Rattle.server_run.specs.Journals.{EndsByNotice, HasNotices, WindsUp, first_entry}
use Rattle.server_run.specs.Journals.{is_for_acceptor, notice_for}
use Rattle.server_run.proofs.Cutting.{turned_before}
use Rattle.server_run.proofs.Notices.{none_of_all, notice_there}
use Rattle.server_run.proofs.Notified.{KeepsNotices, any_past, behind_notice}
use Rattle.server_run.proofs.Posts.{ended_later}
use Rattle.server_run.proofs.Winding.{sum, sum_more}

-- ---- the cut

-- a history that was stopped, cut where it was
record Split {N : Type 0} (h : List (Entry N)) : Type 0 where
  pub run : List (Entry N)
  pub closing : List (Entry N)
  pub is : h ≡ run ++ Ended ∷ closing

running_one : {N : Type 0} (h : List (Entry N)) (e : Entry N)
    (after : ended_after e (sum h).ended ≡ false) → (sum (h ++ e ∷ [])).ended ≡ false
running_one h e after = ap (λ (s : Summary). s.ended) (sum_more h e) ∙ after

split_behind : {N : Type 0} (h : List (Entry N)) (e : Entry N) (es : List (Entry N))
    → Split ((h ++ e ∷ []) ++ es) → Split (h ++ e ∷ es)
split_behind h e es s = record {
  run = s.run;
  closing = s.closing;
  is = sym (append_assoc h (e ∷ []) es) ∙ s.is;
}

split_from : {N : Type 0} (h es : List (Entry N)) → (sum h).ended ≡ false
    → (sum (h ++ es)).ended ≡ true → Split (h ++ es)
split_from h [] running ended = absurd
    (true≢false (sym ended ∙ (ap (λ k. (sum k).ended) (append-nil h) ∙ running)))
split_from h (entry.Ended ∷ es) running ended = record { run = h; closing = es; is = refl }
split_from h (e ∷ es) running ended =
    split_behind h e es (split_from (h ++ e ∷ []) es (running_one h e running)
    (ap (λ k. (sum k).ended) (append_assoc h (e ∷ []) es) ∙ ended))

-- The journal of a reactor that left this list and was stopped, cut at its end: the list, and the
-- removals after it; or the list was stopped before.
pub record Cut {N : Type 0} (list journal : List (Entry N)) : Type 0 where
  pub run : List (Entry N)
  pub closing : List (Entry N)
  pub is : journal ≡ run ++ Ended ∷ closing
  pub how : ((run ≡ list) × ((sum list).ended ≡ false)
      × AreRemovals (is_busy (sum list)) (alive_handles (sum list)) closing)
      ⊎ ((journal ≡ list) × ((sum list).ended ≡ true))

cut_by : {N : Type 0} (list journal more : List (Entry N)) (b : Bool) → (sum list).ended ≡ b
    → StopAppends (sum list) b more → journal ≡ list ++ more → Cut list journal
cut_by list journal more true q stops is =
    let same : journal ≡ list = is ∙ (ap (λ es. list ++ es) stops ∙ append-nil list) in
    let s : Split list = split_from [] list refl q in
    record { run = s.run; closing = s.closing; is = same ∙ s.is; how = inr (same, q) }
cut_by list journal more false q stops is =
    record {
      run = list;
      closing = stops.0;
      is = is ∙ ap (λ es. list ++ es) stops.2;
      how = inl (refl, q, stops.1);
    }

pub cut : {N : Type 0} (list journal : List (Entry N)) → WindsUp list journal → Cut list journal
cut list journal w = cut_by list journal w.more (sum list).ended refl w.stops w.is

-- ---- how the run begins

no_end_first : {N : Type 0} (rest closing : List (Entry N)) → first_entry ∷ rest ≡ Ended ∷ closing
    → ⊥
no_end_first rest closing q = cc

same_head : {A : Type 0} (x y : A) (xs ys : List A) → x ∷ xs ≡ y ∷ ys → y ≡ x
same_head x y xs ys q = cc

begins_same : {N : Type 0} (run rest closing : List (Entry N))
    → first_entry ∷ rest ≡ run ++ Ended ∷ closing → (behind : List (Entry N))
    × (run ≡ first_entry ∷ behind)
begins_same [] rest closing q = absurd (no_end_first rest closing q)
begins_same (e ∷ es) rest closing q =
    (es, ap (λ x. x ∷ es) (same_head first_entry e rest (es ++ Ended ∷ closing) q))

pub begins_cut : {N : Type 0} (list journal rest : List (Entry N)) (c : Cut list journal)
    → list ≡ first_entry ∷ rest → (behind : List (Entry N)) × (c.run ≡ first_entry ∷ behind)
begins_cut list journal rest c is = ⊎_elim
    (λ first. (rest, first.0 ∙ is))
    (λ second. begins_same c.run rest c.closing (sym is ∙ (sym second.0 ∙ c.is)))
    c.how

-- ---- removals

-- what holds of each entry that removes or closes a handler holds of all of them
module _ {N : Type 0} (test : Entry N → Bool)
    (removed : (handle : Handle) → test (entry.Removed handle) ≡ true)
    (closed : (handle : Handle) (note : N) → test (entry.Closed handle note) ≡ true) where
  all_closing : (b : Bool) (handle : Handle) (es : List (Entry N)) → IsClosing b handle es
      → list_all test es ≡ true
  all_closing true handle es c = ap (list_all test) c.1 ∙ and_from _ true (closed handle c.0) refl
  all_closing false handle es c = ap (list_all test) c

  all_removals : (busy : ℕ → Bool) (hs : List LiveHandle) (es : List (Entry N))
      → AreRemovals busy hs es → list_all test es ≡ true
  all_removals busy [] es r = ap (list_all test) r
  all_removals busy (a ∷ hs) es r =
      ap (list_all test) r.4 ∙ and_from _ _ (removed a.handle)
      (list_all-append test r.0 r.1 ∙ and_from _ _
      (all_closing (not (busy a.handle.0)) a.handle r.0 r.2) (all_removals busy hs r.1 r.3))

-- ---- by turns

pub turned_cut : {H E N : Type 0} (means : Handling H E N) (t : Terms) (b : ℕ)
    (list journal : List (Entry N)) (c : Cut list journal) → DispatchedByTurns means t b list
    → DispatchedByTurns means t b c.run
turned_cut {N = N} means t b list journal c turned = ⊎_elim
    (λ first. subst (λ (k : List (Entry N)). DispatchedByTurns means t b k) (sym first.0) turned)
    (λ second. turned_before means t b c.run c.closing
    (subst (λ (k : List (Entry N)). DispatchedByTurns means t b k) (sym second.0 ∙ c.is)
    turned))
    c.how

-- After the end stand removals alone, or the list goes by turns there too: each handler that a
-- turn installs is registered or refused.
pub offers_cut : {H E N : Type 0} (means : Handling H E N) (t : Terms)
    (list journal : List (Entry N)) (c : Cut list journal) → DispatchedByTurns means t 1 list
    → OffersEach means c.closing
offers_cut {N = N} means t list journal c turned = offers_each means t c.run c.closing (⊎_elim
    (λ first. inl (all_removals is_closing (λ handle. refl) (λ handle note. refl) _ _ c.closing
    first.2))
    (λ second. inr (subst (λ (k : List (Entry N)). DispatchedByTurns means t 1 k)
    (sym second.0 ∙ c.is) turned))
    c.how)

-- ---- notifications

-- what holds of each entry if a run is to be ended by a notice, or is not
abbrev pub is_right : {N : Type 0} → Option ℕ → Entry N → Bool
is_right None e = not (is_notice e)
is_right (Some n) e = is_for_acceptor e

right_end : (N : Type 0) (until : Option ℕ) → is_right {N = N} until Ended ≡ true
right_end N None = refl
right_end N (Some n) = refl

right_removed : (N : Type 0) (until : Option ℕ) (handle : Handle)
    → is_right {N = N} until (entry.Removed handle) ≡ true
right_removed N None handle = refl
right_removed N (Some n) handle = refl

right_closed : {N : Type 0} (until : Option ℕ) (handle : Handle) (note : N)
    → is_right until (entry.Closed handle note) ≡ true
right_closed None handle note = refl
right_closed (Some n) handle note = refl

pub right_cut : {N : Type 0} (until : Option ℕ) (list journal : List (Entry N))
    (c : Cut list journal) → list_all (is_right until) list ≡ true
    → list_all (is_right until) journal ≡ true
right_cut {N = N} until list journal c q = ⊎_elim
    (λ first.
    ap (list_all (is_right until)) (c.is ∙ ap (λ k. k ++ Ended ∷ c.closing) first.0)
    ∙ (list_all-append (is_right until) list (Ended ∷ c.closing) ∙ and_from _ _ q
    (and_from _ _ (right_end N until) (all_removals (is_right until) (right_removed N until)
    (right_closed until) _ _ c.closing first.2))))
    (λ second. ap (list_all (is_right until)) second.0 ∙ q)
    c.how

pub notices_of : {N : Type 0} (until : Option ℕ) (journal : List (Entry N))
    → list_all (is_right until) journal ≡ true → HasNotices until journal
notices_of None journal q = none_of_all is_notice journal q
notices_of (Some n) journal q = q

-- ---- closings and refusals

closed_as : {N : Type 0} (e : Entry N) (n : ℕ)
    → closed_after e n ≡ (if is_closed e then suc n else n)
closed_as (entry.Closed handle note) n = refl
closed_as _ n = refl

closed_count : {N : Type 0} (past : List (Entry N)) → (summary past).closed ≡ count is_closed past
closed_count [] = refl
closed_count (e ∷ past) = closed_as e (summary past).closed
    ∙ ap (λ n. if is_closed e then suc n else n) (closed_count past)

refused_as : {N : Type 0} (e : Entry N) (n : ℕ)
    → refused_after e n ≡ (if is_refusal e then suc n else n)
refused_as (entry.Refused live fault note) n = refl
refused_as _ n = refl

refused_count : {N : Type 0} (past : List (Entry N))
    → (summary past).refused ≡ count is_refusal past
refused_count [] = refl
refused_count (e ∷ past) = refused_as e (summary past).refused
    ∙ ap (λ n. if is_refusal e then suc n else n) (refused_count past)

closed_one : {N : Type 0} (e : Entry N) (n : ℕ) → n ≤ closed_after e n
closed_one (entry.Closed handle note) n = omega arith
closed_one _ n = omega arith

refused_one : {N : Type 0} (e : Entry N) (n : ℕ) → n ≤ refused_after e n
refused_one (entry.Refused live fault note) n = omega arith
refused_one _ n = omega arith

-- so many closings and refusals
abbrev pub gone : {N : Type 0} → List (Entry N) → ℕ
gone h = (sum h).closed + (sum h).refused

gone_more : {N : Type 0} (h more : List (Entry N)) → gone h ≤ gone (h ++ more)
gone_more h [] = omega (arith, ap gone (append-nil h))
gone_more h (e ∷ es) = omega (
  arith,
  gone_more (h ++ e ∷ []) es,
  ap gone (append_assoc h (e ∷ []) es),
  ap (λ (s : Summary). s.closed + s.refused) (sum_more h e),
  closed_one e (sum h).closed,
  refused_one e (sum h).refused,
)

-- ---- a run that ended by its notice

same_pair : (a b : ℕ × Handle) → Some a ≡ Some b → a ≡ b
same_pair a b q = cc

wanted_by : (until : Option ℕ) (most : ℕ) (handle : Handle) → notice_for until ≡ Some (most, handle)
    → (wanted : ℕ) × (until ≡ Some wanted) × (wanted ≤ most)
wanted_by None most handle q = absurd cc
wanted_by (Some n) most handle q = (
  n,
  refl,
  omega (
    arith,
    ap (λ (x : ℕ × Handle). x.0)
        (same_pair (n, first_handle) (most, handle) q),
  ),
)

module _ {N : Type 0} (until : Option ℕ) (list journal : List (Entry N)) (c : Cut list journal)
    (same : journal ≡ list) where
  -- the front after which a notice was posted ends before the end of the run
  enough : HasClosed (notice_for until) list → (wanted : ℕ) × (until ≡ Some wanted)
      × (wanted ≤ gone c.run)
  enough closed = (wanted.0, wanted.1, omega (arith, wanted.2, closed.enough, before))
    where
      wanted : (wanted : ℕ) × (until ≡ Some wanted) × (wanted ≤ closed.count)
      wanted = wanted_by until closed.count closed.handle closed.asked

      parts : closed.front ++ closed.begins.0 ≡ c.run ++ Ended ∷ c.closing
      parts = closed.begins.1 ∙ (sym same ∙ c.is)

      before : gone closed.front ≤ gone c.run
      before = ⊎_elim
          (λ (f : InFirst closed.front closed.begins.0 c.run Ended c.closing).
          absurd (true≢false (sym (ended_later (c.run ++ Ended ∷ []) closed.front
          (f.rest, append_assoc c.run (Ended ∷ []) f.rest ∙ sym f.is)
          (ap (λ (s : Summary). s.ended) (sum_more c.run Ended))) ∙ closed.running)))
          (λ (s : InSecond closed.front closed.begins.0 c.run Ended c.closing).
          omega (arith, gone_more closed.front s.rest, ap gone s.is))
          (cut_at closed.front closed.begins.0 c.run Ended c.closing parts)

  pub ends_by_notice : {H E : Type 0} (means : Handling H E N) (t : Terms) (most : ℕ)
      (given : List (ℕ × E)) (rest : List (Entry N))
      → ((up : Upcall) → means.may t up Stopping → (kind : Kind) × (up ≡ Notice kind))
      → KeepsNotices means → Legal journal most → AreRetired means t (past_of journal) given
      → DispatchedByTurns means t 1 list → list ≡ first_entry ∷ rest
      → (list_any is_notice list ≡ true → HasClosed (notice_for until) list)
      → EndsByNotice until c.run
  ends_by_notice means t most given rest stops keeps legal retired turned first posted =
      let begins = begins_cut list journal rest c first in
      let here : MayHere means t (past_of c.run) Stopping =
      turned c.run Ended c.closing (sym same ∙ c.is) (omega (arith, ap length begins.1)) in
      let told = stops here.event.upcall here.may in
      let noticed : list_any is_notice c.run ≡ true =
      any_past is_notice c.run (notice_there (past_of c.run) here.number here.event told.0
      here.is told.1) in
      let there : list_any is_notice list ≡ true =
      ap (list_any is_notice) (sym same ∙ c.is)
      ∙ (list_any-append is_notice c.run (Ended ∷ c.closing)
      ∙ or_left (list_any is_notice c.run) _ noticed) in
      let e = enough (posted there) in
      let b = behind_notice means t most journal c.run c.closing begins.0 given here told.0 keeps
      legal c.is begins.1 (turned_cut means t 1 list journal c turned) retired told.1 in
      record {
        wanted = e.0;
        asked = e.1;
        enough = omega (arith, e.2, closed_count (past_of c.run), refused_count (past_of c.run));
        before = b.before;
        number = b.number;
        answer = b.answer;
        note = b.note;
        directly = b.directly;
        event = b.event;
        kind = told.0;
        is = b.is;
        notice = b.notice;
      }
