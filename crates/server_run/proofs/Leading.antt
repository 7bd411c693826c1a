-- What a run leaves whose workers led.
use Rattle.std.proofs.Common.{ℕ, ◌≡◌, ◌==◌, ◌≤◌, ◌<◌, ◌-◌, ◌⊎◌, inr, ⊎_elim, Bool, true, false}
use Rattle.std.proofs.Common.{not, List, [], ◌∷◌, ◌++◌, length, filter, refl, sym, ap, ◌∙◌, subst}
use Rattle.std.proofs.Common.{arith, Option, Some, None}
use Rattle.std.specs.Prelude.{slice_index}
use Rattle.std.proofs.lemmas.Bool.{and_from, and_parts, false≢true, true≢false}
use Rattle.std.specs.List.{list_all, list_any}
use mathlib.Core.Logic.{dite}
use native.Mathlib.Decide.{dec_le}
use Rattle.ev_base.specs.ev_types.specs.declared.upcall.Handle.{Handle}
use Rattle.ev_base.specs.ev_types.specs.declared.upcall.Kind.{Kind}
use Rattle.ev_base.specs.ev_types.specs.declared.upcall.Upcall.{Upcall}
use Rattle.ev_base.specs.ev_types.specs.declared.upcall.Upcall.TheVariants.{Notice}
use Rattle.ev_base.specs.Counts.{Rose}
use Rattle.ev_base.specs.Terms.{Terms}
use Rattle.tp_reactor.specs.leader_token.specs.Lists.{Begins, is_event}
use Rattle.tp_reactor.specs.list_lemmas.specs.Times.{times}
use Rattle.tp_reactor.specs.leader_token.specs.declared.kept.View.{View}
use Rattle.tp_reactor.specs.list_lemmas.specs.Sums.{total}
use Rattle.tp_reactor.specs.notify_ring.specs.Passes.{IsMerged, root_poster}
use Rattle.tp_reactor.specs.notify_ring.specs.Words.{drainer_view}
use Rattle.tp_reactor.specs.notify_ring.specs.declared.posting.Posting.{Posting}
use Rattle.tp_reactor.specs.notify_ring.specs.declared.view.Ended.{Ended}
use Rattle.tp_reactor.specs.notify_ring.specs.declared.view.View.{View as RingView}
use Rattle.tp_reactor.specs.timer_queue.specs.declared.timer.Timer.{Timer}
use Rattle.log_handler.specs.reactor_journal.specs.declared.entry.Entry.{Entry}
use Rattle.log_handler.specs.reactor_journal.specs.declared.entry.Entry.TheVariants
    as entry
use Rattle.log_handler.specs.reactor_journal.specs.Follow.{Legal, follows_ready}
use Rattle.log_handler.specs.reactor_journal.specs.Past.{past_of, count}
use Rattle.tp_reactor.specs.laws_turns.specs.Opens.{opens_of}
use Rattle.log_handler.specs.reactor_model.specs.Handling.{Stopping}
use Rattle.tp_reactor.specs.laws_by_turns.specs.ByTurns.{DispatchedByTurns}
use Rattle.log_handler.specs.declared.note.ServerNote.{ServerNote}
use Rattle.tp_reactor.specs.reactor_summary.specs.Summary.{is_busy}
use Rattle.tp_reactor.specs.reactor_core.specs.Ends.{WhereTold}
use Rattle.tp_reactor.specs.reactor_core.specs.Marks.{IsOverAt, answers, is_polled}
use Rattle.tp_reactor.specs.reactor_core.specs.Removing.{AreRemovals, alive_handles}
use Rattle.tp_reactor.specs.reactor_core.specs.Stands.{Meaning, Stands}
use Rattle.tp_reactor.specs.reactor_core.specs.Views.{net_of, over_of, volumes_of, watch_of}
use Rattle.tp_reactor.specs.reactor_core.specs.declared.reactor.Core.{Core}
use Rattle.tp_reactor.specs.reactor_desk.specs.Desks.{capped, core_marks}
use Rattle.tp_reactor.specs.reactor_desk.specs.Notices.{AreRecorded, Records}
use Rattle.laws_script_taken.specs.reactor_model.specs.Entries.{is_notice}
use Rattle.tp_reactor.specs.reactor_desk.specs.declared.terms.DeskTerms.{DeskTerms}
use Rattle.tp_reactor.specs.Alone.{RunsTo}
use Rattle.tp_reactor.specs.Ends.{IsClosed, IsRoot, MayShare}
use Rattle.tp_reactor.specs.Led.{over_mark, volumes_mark, waits_mark, watch_mark}
use Rattle.tp_reactor.specs.Pool.{EndsWithOver, HasClosed, HiresNone, RanTells, RunsPool}
use Rattle.tp_reactor.specs.Pool.{known_postings}
use Rattle.tp_reactor.specs.Words.{SameKin}
use Rattle.tp_reactor.specs.Working.{Runs}
use Rattle.tp_reactor.specs.declared.working.Ran.{Ran}
use Rattle.tp_reactor.specs.declared.working.Ran.TheVariants as ran
use Rattle.laws_script_taken.specs.laws_script_runs.specs.Runs.{HasNoWork}
use Rattle.tp_reactor.specs.reactor_desk.specs.Desks.{FillsVolume}
use Rattle.server_run.specs.Finishing.{Finishes, HasNoneOpen, KeepsCounts, NoneOpen, named}
use Rattle.server_run.specs.Journals.{EndsSo, first_entry, notice_for}
use Rattle.server_run.specs.Served.{FaultRose, HasCauses, LeavesRun, ending_of}
use Rattle.server_run.specs.declared.asked.Asked.{Asked}
use Rattle.server_run.specs.declared.ending.Ending.{Ending}
use Rattle.server_run.specs.declared.ending.Ending.TheVariants as ending
use Rattle.server_run.specs.declared.ending.Served.{Served}
use Rattle.server_run.proofs.Cuts.{Cut, ends_by_notice, is_right}
use Rattle.server_run.proofs.Leaving.{broken_told, leaves, names}
use Rattle.tp_reactor.proofs.Merged.{AllPosted, all_drained}
use Rattle.server_run.proofs.Notified.{KeepsNotices}
use Rattle.server_run.proofs.Notices.{all_of_filter, none_of_all}
use Rattle.server_run.proofs.Posts.{Says, all_says, is_for}
use Rattle.server_run.proofs.Registering.{turn_told}
use Rattle.server_run.proofs.Resting.{IsOverThere, none_open, over_there}
use Rattle.server_run.proofs.Winding.{sum}

-- ---- notifications

-- what holds of the postings holds of the entries that record them
records_all : {N : Type 0} (p : Posting → Bool) (q : Entry N → Bool)
    → ((e : Entry N) (x : Posting) → Records e x → p x ≡ true → q e ≡ true)
    → (es : List (Entry N)) (got : List Posting) → AreRecorded es got → list_all p got ≡ true
    → list_all q es ≡ true
records_all p q each [] [] r all = refl
records_all p q each [] (x ∷ xs) r all = absurd r
records_all p q each (e ∷ es) [] r all = absurd r
records_all p q each (e ∷ es) (x ∷ xs) r all =
    let parts = and_parts (p x) (list_all p xs) all in
    and_from (q e) (list_all q es) (each e x r.0 parts.0) (records_all p q each es xs r.1 parts.1)

right_one : {N : Type 0} (until : Option ℕ) (e : Entry N) (x : Posting) → Records e x
    → is_for (notice_for until) x ≡ true → is_right until e ≡ true
right_one None e x r q = absurd (false≢true q)
right_one (Some n) (entry.Posted handle kind from seq) x r q = ap (λ (h : Handle). h.0 == 0) r.0 ∙ q
right_one (Some n) (entry.Stale handle from seq) x r q = ap (λ (h : Handle). h.0 == 0) r.0 ∙ q
right_one (Some n) _ x r q = refl

right_other : {N : Type 0} (until : Option ℕ) (e : Entry N) → is_notice e ≡ false
    → is_right until e ≡ true
right_other None e q = ap not q
right_other (Some n) (entry.Posted handle kind from seq) q = absurd (true≢false q)
right_other (Some n) (entry.Stale handle from seq) q = absurd (true≢false q)
right_other (Some n) _ q = refl

none_posted : (xs : List Posting) → length xs ≤ 0 → list_all (λ (x : Posting). false) xs ≡ true
none_posted [] le = refl
none_posted (x ∷ xs) le = absurd (omega (arith, le))

none_ended : (es : List Ended) → total (λ (e : Ended). length e.posted) es ≤ 0
    → list_all (λ (e : Ended). list_all (λ (x : Posting). false) e.posted) es ≡ true
none_ended [] le = refl
none_ended (e ∷ es) le = and_from _ _ (none_posted e.posted (omega (arith, le)))
    (none_ended es (omega (arith, le)))

-- if no posting was made, nothing is recorded
unposted : {N : Type 0} (list : List (Entry N)) (s drainer : RingView) (n : ℕ)
    → AreRecorded (filter is_notice list) drainer.got → IsMerged s drainer n → known_postings s ≤ 0
    → list_any is_notice list ≡ false
unposted list s drainer n recorded merged none =
    let all : list_all (λ (x : Posting). false) drainer.got ≡ true =
    all_drained (λ x. false) s drainer n merged
    (record {
      own = none_posted s.posted (omega (arith, none));
      ended = none_ended s.ended (omega (arith, none));
    }) in
    none_of_all is_notice list (all_of_filter is_notice (λ e. not (is_notice e)) list
    (λ e q. ap not q) (records_all (λ x. false) (λ e. not (is_notice e))
    (λ e x r q. absurd (false≢true q)) (filter is_notice list) drainer.got recorded all))

-- ---- counts

rose_later : (before now later : ℕ) → now ≤ later → Rose before now → Rose before later
rose_later before now later more rose = omega (arith, more, rose)

rose_capped : (before mark now : ℕ) → Rose (capped before) mark → mark ≤ capped now
    → Rose before now
rose_capped before mark now rose le = omega (arith, rose, le)

-- ---- a run

module _ {H M Q W V E : Type 0} (m : Meaning H M Q W V ServerNote E) (t : Terms) (asked : Asked)
    (answer : Ran) (v w : View (Entry ServerNote) DeskTerms) (p s : RingView)
    (core : Core H M Q W V ServerNote E) where
  -- what is known once the workers have left their loops and the reactor was given back
  pub record WasLed (marks : List ℕ) (until : Option (ℕ × Handle)) : Type 0 where
    pub root : IsRoot t (first_entry ∷ []) marks v
    pub poster : p ≡ root_poster
    pub until_is : until ≡ notice_for asked.until
    pub many : 1 ≤ asked.workers
    pub one : asked.workers ≡ 1 → Runs m asked.limit until v p answer w s
    pub several : 1 < asked.workers → HiresNone v p (record { ran = answer; known = w; posted = s })
        ⊎ RunsPool m asked.limit until (asked.workers - 1) v p
        (record { ran = answer; known = w; posted = s })
    pub alone : asked.workers ≡ 1 → v.children ≡ 0
        → RunsTo m v.terms asked.limit v.seen answer w.seen
    pub kin : SameKin v w
    pub idle : w.mine ≡ None
    pub seen : Begins v.seen w.seen
    pub over : answer ≡ ran.Over → EndsWithOver m asked.limit v w
    pub tells : RanTells v answer w
    pub posts : known_postings p < known_postings s → HasClosed until w.seen
    pub closed : IsClosed m w s core

  pub was_led : (marks : List ℕ) (until : Option (ℕ × Handle)) → IsRoot t (first_entry ∷ []) marks v
      → p ≡ root_poster → until ≡ notice_for asked.until → 1 ≤ asked.workers
      → (asked.workers ≡ 1 → Runs m asked.limit until v p answer w s)
      → (1 < asked.workers → HiresNone v p (record { ran = answer; known = w; posted = s })
      ⊎ RunsPool m asked.limit until (asked.workers - 1) v p
      (record { ran = answer; known = w; posted = s }))
      → (asked.workers ≡ 1 → v.children ≡ 0 → RunsTo m v.terms asked.limit v.seen answer w.seen)
      → SameKin v w → w.mine ≡ None → Begins v.seen w.seen
      → (answer ≡ ran.Over → EndsWithOver m asked.limit v w) → RanTells v answer w
      → (known_postings p < known_postings s → HasClosed until w.seen) → IsClosed m w s core
      → WasLed marks until
  was_led marks until root poster until_is many one several alone kin idle seen over tells posts
      closed =
      record {
        root = root;
        poster = poster;
        until_is = until_is;
        many = many;
        one = one;
        several = several;
        alone = alone;
        kin = kin;
        idle = idle;
        seen = seen;
        over = over;
        tells = tells;
        posts = posts;
        closed = closed;
      }

  module _ (marks : List ℕ) (until : Option (ℕ × Handle)) (d : WasLed marks until) where
    run_is : w.terms.run ≡ t
    run_is = ap (λ (q : DeskTerms). q.run) d.kin.terms ∙ d.root.run

    stands : Stands m t core d.closed.first w.seen
    stands = subst (λ (t : Terms). Stands m t core d.closed.first w.seen) run_is
        d.closed.stands.core

    legal : Legal w.seen t.most
    legal = stands.tracks.legal

    none_left : (e : ℕ) → times e (opens_of w.seen) ≡ 0
    none_left e = d.closed.events e ∙ ap (is_event e) d.idle

    at_rest : NoneOpen w.seen
    at_rest = none_open t.most w.seen legal none_left

    begins : (rest : List (Entry ServerNote)) × (w.seen ≡ first_entry ∷ rest)
    begins = (d.seen.0, sym d.seen.1 ∙ ap (λ k. k ++ d.seen.0) d.root.seen)

    turned : t.by_turn ≡ Some 1 → DispatchedByTurns m.means t 1 w.seen
    turned by_turn = subst (λ (t : Terms). DispatchedByTurns m.means t 1 w.seen) run_is
        (d.closed.stands.by_turn 1 (ap (λ (t : Terms). t.by_turn) run_is ∙ by_turn)).turns

    says : Says m asked.limit until answer w s
    says = all_says m asked.limit until asked.workers v w p s answer d.many
        (subst (AllPosted (is_for until)) (sym d.poster) (record { own = refl; ended = refl }))
        d.one d.several

    right : list_all (is_right asked.until) w.seen ≡ true
    right =
        let posted : AllPosted (is_for (notice_for asked.until)) s =
        subst (λ u. AllPosted (is_for u) s) d.until_is says.posted in
        let drained = all_drained (is_for (notice_for asked.until)) s
        (drainer_view d.closed.drainer) d.closed.posted d.closed.merged posted in
        all_of_filter is_notice (is_right asked.until) w.seen (right_other asked.until)
        (records_all (is_for (notice_for asked.until)) (is_right asked.until)
        (right_one asked.until) (filter is_notice w.seen) (drainer_view d.closed.drainer).got
        d.closed.stands.recorded drained)

    posted : list_any is_notice w.seen ≡ true → HasClosed (notice_for asked.until) w.seen
    posted there = dite (dec_le (known_postings s) 0)
        (λ none. absurd (true≢false (sym there
        ∙ unposted w.seen s (drainer_view d.closed.drainer) d.closed.posted
        d.closed.stands.recorded d.closed.merged none)))
        (λ some. subst (λ u. HasClosed u w.seen) d.until_is
        (d.posts (omega (arith, some, ap known_postings d.poster))))

    over_rests : answer ≡ ran.Over → IsOverThere w.seen
    over_rests is = over_there m asked.limit t.most v w legal d.root.root d.root.children
        (d.over is)

    -- the mark of the reactor is that of the last wait
    over_number : answer ≡ ran.Over → over_of core ≡ count is_polled (past_of w.seen)
    over_number is =
        let told : over_mark w ≡ count is_polled (past_of w.seen) =
        subst (λ (r : Ran). RanTells v r w) is d.tells in
        let above : over_mark w ≤ over_of core = d.closed.above 4 in
        omega (arith, told, above, stands.tracks.marks.within, stands.tracks.marks.made)

    module _ (armed : Q → List Timer) (served : Served M Q W V)
        (fin : Finishes m armed t d.closed.first w.seen core served.parts)
        (stops : (up : Upcall) → m.means.may t up Stopping → (kind : Kind) × (up ≡ Notice kind))
        (keeps : KeepsNotices m.means) (by_turn : t.by_turn ≡ Some 1) (c : Cut w.seen fin.journal)
      where
        not_stopped : (sum w.seen).ended ≡ false → answer ≡ ran.Stopped → ⊥
        not_stopped running is = true≢false (sym (says.stopped is) ∙ running)

        ends_over : answer ≡ ran.Over → EndsSo asked.until (m.facts served.parts.net) ending.Over
            c.run c.closing
        ends_over is =
            let o : IsOverThere w.seen = over_rests is in
            ⊎_elim
            (λ first. record {
              behind = ap (λ k. follows_ready (past_of k)) first.0 ∙ o.behind;
              idle = subst (λ (k : List (Entry ServerNote)). HasNoWork (past_of k)) (sym first.0)
                  o.idle;
              over = subst (λ (n : ℕ). WhereTold (λ calls. IsOverAt n (answers calls))
                  (m.facts served.parts.net).calls) (over_number is
                  ∙ ap (λ k. count is_polled (past_of k)) (sym first.0))
                  (fin.marked (omega (arith, over_number is, o.waited)));
              closes = subst (λ (k : List (Entry ServerNote)).
                  AreRemovals (is_busy (sum k)) (alive_handles (sum k)) c.closing) (sym first.0)
                  first.2;
            })
            (λ second. absurd (true≢false (sym second.1 ∙ o.running)))
            c.how

        ends_notified : answer ≡ ran.Stopped
            → EndsSo asked.until (m.facts served.parts.net) ending.Notified c.run c.closing
        ends_notified is = ⊎_elim
            (λ first. absurd (not_stopped first.1 is))
            (λ second. ends_by_notice asked.until w.seen fin.journal c second.0 m.means t t.most
            fin.stand.net.retired.0 begins.0 stops keeps fin.legal fin.stand.net.retired.1
            (turned by_turn) begins.1 posted)
            c.how

        ends_by : (r : Ran) → answer ≡ r → EndsSo asked.until (m.facts served.parts.net)
            (ending_of r)
            c.run c.closing
        ends_by ran.Broken is = tt
        ends_by ran.NetFault is = tt
        ends_by ran.NoMemory is = tt
        ends_by ran.VolumeFault is = tt
        ends_by ran.Stopped is = ends_notified is
        ends_by ran.Over is = ends_over is

    broken_answer : (r : Ran) → ending_of r ≡ ending.Broken → r ≡ ran.Broken
    broken_answer ran.Broken is = refl
    broken_answer ran.NetFault is = cc
    broken_answer ran.NoMemory is = cc
    broken_answer ran.VolumeFault is = cc
    broken_answer ran.Stopped is = cc
    broken_answer ran.Over is = cc

    pub leaves_led : (armed : Q → List Timer) (served : Served M Q W V)
        → served.ending ≡ named (ending_of answer) (m.is_broken served.parts.watch)
        → ((first : ℕ) → Stands m t core first w.seen → NoneOpen w.seen
        → Finishes m armed t first w.seen core served.parts) → KeepsCounts m core served.parts
        → ((up : Upcall) → m.means.may t up Stopping → (kind : Kind) × (up ≡ Notice kind))
        → KeepsNotices m.means → t.by_turn ≡ Some 1 → w.terms.volume ≡ asked.volume
        → LeavesRun m armed t asked served
    leaves_led armed served is finishes counts stops keeps by_turn size =
        let fin : Finishes m armed t d.closed.first w.seen core served.parts =
        finishes d.closed.first stands at_rest in
        leaves m armed t asked (ending_of answer) served is d.closed.first w.seen core fin
        (subst (λ (n : ℕ). FillsVolume n d.closed.first) size d.closed.stands.filled)
        (inr begins) (turned by_turn) right
        (λ c. ends_by armed served fin stops keeps by_turn c answer refl)
        (inr (record {
          answer = answer;
          named = names (ending_of answer) served.ending (m.is_broken served.parts.watch) is;
          list = w.seen;
          winds = fin.winds;
          terms = v.terms;
          run_terms = d.root.run;
          alone = λ one. subst (λ (k : List (Entry ServerNote)).
              RunsTo m v.terms asked.limit k answer w.seen) d.root.seen
              (d.alone one d.root.children);
          pooled = λ more. record {
            root = v;
            postings = p;
            end = record { ran = answer; known = w; posted = s };
            root_terms = refl;
            begins = d.root.seen;
            answers = refl;
            leaves = refl;
            ran = subst (λ u. HiresNone v p (record { ran = answer; known = w; posted = s })
                ⊎ RunsPool m asked.limit u (asked.workers - 1) v p
                (record { ran = answer; known = w; posted = s })) d.until_is (d.several more);
          };
        }))
        (λ before broken told.
        let rose : Rose before (watch_mark w) =
        subst (λ (r : Ran). RanTells v r w) (broken_answer answer broken) d.tells before
        (ap (λ (t : Terms). t.output_faults) d.root.run ∙ told) in
        let above : watch_mark w ≤ m.faults (watch_of core) = d.closed.above 0 in
        rose_later before (watch_mark w) _ (omega (arith, above, counts.watch)) rose)

    -- ---- causes

    module _ (old : Core H M Q W V ServerNote E) (marks_are : marks ≡ core_marks m old)
        (served : Served M Q W V) (counts : KeepsCounts m core served.parts) where
      before_marks : v.marks ≡ core_marks m old
      before_marks = d.root.marks_are ∙ marks_are

      rose_by : (r : Ran) → RanTells v r w
          → FaultRose (ending_of r) (m.facts (net_of old)) (m.facts served.parts.net)
          (m.volumes (volumes_of old)) (m.volumes served.parts.volumes)
      rose_by ran.Broken t = tt
      rose_by ran.NetFault t =
          let above : waits_mark w ≤ capped (m.facts (net_of core)).failed_waits =
          d.closed.above 1 in
          let before : waits_mark v ≡ capped (m.facts (net_of old)).failed_waits =
          ap (λ marks. slice_index marks 1) before_marks in
          rose_capped _ (waits_mark w) _ (subst (λ (n : ℕ). Rose n (waits_mark w)) before t)
          (omega (arith, above, ap capped counts.waits))
      rose_by ran.NoMemory t = tt
      rose_by ran.VolumeFault t =
          let above : volumes_mark w ≤ capped (m.volumes (volumes_of core)).faults =
          d.closed.above 3 in
          let before : volumes_mark v ≡ capped (m.volumes (volumes_of old)).faults =
          ap (λ marks. slice_index marks 3) before_marks in
          rose_capped _ (volumes_mark w) _ (subst (λ (n : ℕ). Rose n (volumes_mark w)) before t)
          (omega (arith, above, ap (λ x. capped (m.volumes x).faults) counts.volumes))
      rose_by ran.Stopped t = tt
      rose_by ran.Over t = tt

      rose_named : (now : Ending) (b : Bool) → now ≡ named (ending_of answer) b
          → FaultRose now (m.facts (net_of old)) (m.facts served.parts.net)
          (m.volumes (volumes_of old)) (m.volumes served.parts.volumes)
      rose_named now true is = subst (λ (x : Ending).
          FaultRose x (m.facts (net_of old)) (m.facts served.parts.net) (m.volumes (volumes_of old))
          (m.volumes served.parts.volumes)) (sym is) tt
      rose_named now false is = subst (λ (x : Ending).
          FaultRose x (m.facts (net_of old)) (m.facts served.parts.net) (m.volumes (volumes_of old))
          (m.volumes served.parts.volumes)) (sym is) (rose_by answer d.tells)

      pub causes_led : served.ending ≡ named (ending_of answer) (m.is_broken served.parts.watch)
          → HasCauses m (net_of old) (volumes_of old) served
      causes_led is = record {
        rose = rose_named served.ending (m.is_broken served.parts.watch) is;
        told = broken_told (ending_of answer) served.ending (m.is_broken served.parts.watch) is;
      }

-- ---- the beginning and the end of a pool

module _ {H M Q W V E : Type 0} (m : Meaning H M Q W V ServerNote E) (t : Terms)
    (core : Core H M Q W V ServerNote E) where
  pub may_share : Stands m t core 0 (first_entry ∷ []) → t.by_turn ≡ Some 1
      → MayShare m t (first_entry ∷ []) core
  may_share stands by_turn = record {
    first = 0;
    stands = stands;
    filled = λ some. absurd (omega (arith, some));
    closed = refl;
    unposted = refl;
    by_turn = λ b is. (turn_told t.by_turn 1 by_turn b is, refl);
  }

  pub closed_at_rest : (v : View (Entry ServerNote) DeskTerms) (s : RingView) → IsClosed m v s core
      → v.mine ≡ None → HasNoneOpen m core
  closed_at_rest v s closed idle =
      let none : (e : ℕ) → times e (opens_of v.seen) ≡ 0 =
      λ e. closed.events e ∙ ap (is_event e) idle in (
        v.terms.run,
        closed.first,
        v.seen,
        closed.stands.core,
        none_open v.terms.run.most v.seen closed.stands.core.tracks.legal none,
      )

  pub stands_still : (now : Core H M Q W V ServerNote E) (first : ℕ)
      (list : List (Entry ServerNote)) → now ≡ core → Stands m t core first list
      → Stands m t now first list
  stands_still now first list same stands =
      subst (λ (c : Core H M Q W V ServerNote E). Stands m t c first list) (sym same) stands
