-- Which postings the workers of a run made, and that one of them left with Stopped only if the
-- reactor was stopped.
use Rattle.std.proofs.Common.{ℕ, zero, suc, ◌≡◌, ◌==◌, ◌≤◌, ◌<◌, ◌+◌, ◌-◌, ◌⊎◌, ⊎_elim, Bool, true}
use Rattle.std.proofs.Common.{false, ◌&&◌, if◌then◌else◌, List, [], ◌∷◌, ◌++◌, refl, sym, ap, ◌∙◌}
use Rattle.std.proofs.Common.{subst, arith, Option, Some, None}
use Rattle.std.specs.Prelude.{Result, Ok, Err, nat_le}
use Rattle.std.proofs.lemmas.Bool.{and_from, eq-eqb}
use Rattle.std.proofs.lemmas.List.{append-nil, append_assoc}
use Rattle.std.proofs.lemmas.List.Folds.{list_all-append}
use Rattle.std.specs.List.{list_all}
use mathlib.Core.Logic.{dite}
use native.Mathlib.Decide.{dec_le}
use Rattle.ev_base.specs.ev_types.specs.declared.upcall.Handle.{Handle}
use Rattle.ev_base.specs.ev_types.specs.declared.upcall.Kind.{Kind}
use Rattle.tp_reactor.specs.leader_token.specs.Lists.{Begins}
use Rattle.tp_reactor.specs.leader_token.specs.Passes.{split_right, joined}
use Rattle.tp_reactor.specs.leader_token.specs.declared.kept.View.{View}
use Rattle.tp_reactor.specs.notify_ring.specs.Passes as ring
use Rattle.tp_reactor.specs.notify_ring.specs.Passes.{HasPosted, posting_of}
use Rattle.tp_reactor.specs.notify_ring.specs.declared.posting.Full.{Full}
use Rattle.tp_reactor.specs.notify_ring.specs.declared.posting.Posting.{Posting}
use Rattle.tp_reactor.specs.notify_ring.specs.declared.view.Ended.{Ended}
use Rattle.tp_reactor.specs.notify_ring.specs.declared.view.View.{View as RingView}
use Rattle.log_handler.specs.reactor_journal.specs.declared.entry.Entry.{Entry}
use Rattle.log_handler.specs.reactor_journal.specs.declared.entry.Entry.TheVariants
    as entry
use Rattle.tp_reactor.specs.reactor_summary.specs.Summary.{Summary, ended_after}
use Rattle.tp_reactor.specs.reactor_core.specs.Stands.{Meaning}
use Rattle.tp_reactor.specs.reactor_desk.specs.declared.leading.Led.{Led}
use Rattle.tp_reactor.specs.reactor_desk.specs.declared.leading.Led.TheVariants as led
use Rattle.tp_reactor.specs.reactor_desk.specs.declared.terms.DeskTerms.{DeskTerms}
use Rattle.tp_reactor.specs.Led.{IsLed}
use Rattle.tp_reactor.specs.Pool.{AllRun, Dismisses, EndsPool, HiresNone, RunsPool, WorkerEnd}
use Rattle.tp_reactor.specs.Pool.{hirer, hirer_posted}
use Rattle.tp_reactor.specs.Working.{Round, Rounds, Runs, first_ran, ran_of, rank}
use Rattle.tp_reactor.specs.declared.working.Ran.{Ran}
use Rattle.tp_reactor.specs.declared.working.Ran.TheVariants as ran
use Rattle.tp_reactor.proofs.Merged.{AllPosted}
use Rattle.server_run.proofs.Winding.{sum, sum_more}

-- ---- a history that was stopped

still_ended : {N : Type 0} (e : Entry N) (before : Bool) → before ≡ true
    → ended_after e before ≡ true
still_ended entry.Ended before q = refl
still_ended _ before q = q

ended_one : {N : Type 0} (h : List (Entry N)) (e : Entry N) → (sum h).ended ≡ true
    → (sum (h ++ e ∷ [])).ended ≡ true
ended_one h e q = ap (λ (s : Summary). s.ended) (sum_more h e) ∙ still_ended e (sum h).ended q

ended_more : {N : Type 0} (h more : List (Entry N)) → (sum h).ended ≡ true
    → (sum (h ++ more)).ended ≡ true
ended_more h [] q = ap (λ k. (sum k).ended) (append-nil h) ∙ q
ended_more h (e ∷ es) q = ap (λ k. (sum k).ended) (sym (append_assoc h (e ∷ []) es))
    ∙ ended_more (h ++ e ∷ []) es (ended_one h e q)

pub ended_later : {N : Type 0} (h list : List (Entry N)) → Begins h list → (sum h).ended ≡ true
    → (sum list).ended ≡ true
ended_later h list begins q = ap (λ k. (sum k).ended) (sym begins.1) ∙ ended_more h begins.0 q

-- ---- postings

-- a posting is for the handle that is to be notified
abbrev pub is_for : Option (ℕ × Handle) → Posting → Bool
is_for None x = false
is_for (Some asked) x = x.handle.0 == asked.1.0

for_asked : (until : Option (ℕ × Handle)) (count : ℕ) (handle : Handle) (x : Posting)
    → until ≡ Some (count, handle) → x.handle ≡ handle → is_for until x ≡ true
for_asked until count handle x asked is =
    ap (λ u. is_for u x) asked ∙ eq-eqb x.handle.0 handle.0 (ap (λ (h : Handle). h.0) is)

posted_more : (until : Option (ℕ × Handle)) (count : ℕ) (p s : RingView) (handle : Handle)
    (kind : Kind) (result : Result ℕ Full) → until ≡ Some (count, handle)
    → HasPosted p handle kind result s → AllPosted (is_for until) p → AllPosted (is_for until) s
posted_more until count p s handle kind (Ok n) asked has q =
    subst (AllPosted (is_for until)) (sym has.1) (record {
      own = list_all-append (is_for until) p.posted (posting_of p n handle kind ∷ [])
          ∙ and_from (list_all (is_for until) p.posted)
          (is_for until (posting_of p n handle kind) && true) q.own
          (and_from _ true (for_asked until count handle (posting_of p n handle kind) asked refl)
          refl);
      ended = q.ended;
    })
posted_more until count p s handle kind (Err full) asked has q =
    subst (AllPosted (is_for until)) (sym has.1) (record { own = q.own; ended = q.ended })

module _ {H M Q W V N E : Type 0} (m : Meaning H M Q W V N E) (most : Option ℕ)
    (until : Option (ℕ × Handle)) where
  round_posted : (v w : View (Entry N) DeskTerms) (p s : RingView) → Round m most until v p w s
      → AllPosted (is_for until) p → AllPosted (is_for until) s
  round_posted v w p s d q = ⊎_elim
      (λ idle. subst (AllPosted (is_for until)) (sym idle.1) q)
      (λ serves. ⊎_elim (λ same. subst (AllPosted (is_for until)) (sym same) q)
      (λ post. posted_more until post.count p s post.handle _ post.result post.asked post.posted
      q) serves.posts)
      d

  rounds_posted : (n : ℕ) (v w : View (Entry N) DeskTerms) (p s : RingView)
      → Rounds m most until n v p w s → AllPosted (is_for until) p → AllPosted (is_for until) s
  rounds_posted zero v w p s d q = subst (AllPosted (is_for until)) (sym d.1) q
  rounds_posted (suc n) v w p s d q =
      round_posted d.0 w d.1 s d.3 (rounds_posted n v d.0 p d.1 d.2 q)

  runs_posted : (v w : View (Entry N) DeskTerms) (p s : RingView) (answer : Ran)
      → Runs m most until v p answer w s → AllPosted (is_for until) p → AllPosted (is_for until) s
  runs_posted v w p s answer d q = subst (AllPosted (is_for until)) (sym d.ends.poster)
      (rounds_posted d.rounds v d.last p d.last_posted d.were q)

  -- ---- a loop that was left with Stopped

  says_ended : (v w : View (Entry N) DeskTerms) (l : Led H N E) → IsLed m v most l w
      → ran_of l ≡ Some ran.Stopped → (sum w.seen).ended ≡ true
  says_ended v w (led.Job job) d is = absurd cc
  says_ended v w led.Quiet d is = absurd cc
  says_ended v w led.Over d is = absurd cc
  says_ended v w led.Stopped d is = ap (λ (x : View (Entry N) DeskTerms). (sum x.seen).ended)
      d.leaves.view ∙ ap (λ (h : List (Entry N)). (sum h).ended) d.gives.2 ∙ d.gives.0
  says_ended v w led.Broken d is = absurd cc
  says_ended v w led.VolumeFault d is = absurd cc
  says_ended v w led.NetFault d is = absurd cc
  says_ended v w led.NoMemory d is = absurd cc

  -- of a worker that left with this answer, knew w and had the postings s
  pub record Says (answer : Ran) (w : View (Entry N) DeskTerms) (s : RingView) : Type 0 where
    pub posted : AllPosted (is_for until) s
    pub stopped : answer ≡ ran.Stopped → (sum w.seen).ended ≡ true

  pub runs_says : (v w : View (Entry N) DeskTerms) (p s : RingView) (answer : Ran)
      → Runs m most until v p answer w s → AllPosted (is_for until) p → Says answer w s
  runs_says v w p s answer d q = record {
    posted = runs_posted v w p s answer d q;
    stopped = λ is. says_ended d.last w d.ends.led d.ends.is_led (d.ends.answers ∙ ap Some is);
  }

  -- ---- a pool

  either : (root other all : List (Entry N)) (b : Bool) (r x : Ran) → Begins root all
      → Begins other all → (r ≡ ran.Stopped → (sum root).ended ≡ true)
      → (x ≡ ran.Stopped → (sum other).ended ≡ true)
      → (if b then r else x) ≡ ran.Stopped → (sum all).ended ≡ true
  either root other all true r x left right mine theirs is = ended_later root all left (mine is)
  either root other all false r x left right mine theirs is =
      ended_later other all right (theirs is)

  dismisses_says : (v : View (Entry N) DeskTerms) (p : RingView) (root left : WorkerEnd N)
      (hired : List (WorkerEnd N)) (many : ℕ) → Dismisses root hired left
      → AllRun m most until v p many hired → Says root.ran root.known root.posted
      → Says left.ran left.known left.posted
  dismisses_says v p root left [] many d runs q =
      subst (λ (x : WorkerEnd N). Says x.ran x.known x.posted) (sym d) q
  dismisses_says v p root left (x ∷ xs) many d runs q =
      let theirs : Says x.ran x.known x.posted =
      runs_says (split_right v) x.known (ring.split_right (hirer_posted p many)) x.posted x.ran
      runs.0.0 (record { own = refl; ended = refl }) in
      dismisses_says v p (record {
        ran = first_ran root.ran x.ran;
        known = joined root.known x.known;
        posted = ring.joined root.posted x.posted;
      }) left xs (many + 1)
      d.1 runs.1 (record {
        posted = record {
          own = q.posted.own;
          ended = list_all-append (λ (e : Ended). list_all (is_for until) e.posted)
              root.posted.ended _ ∙ and_from _ _ q.posted.ended
              (and_from _ true theirs.posted.own refl);
        };
        stopped = either root.known.seen x.known.seen (joined root.known x.known).seen
            (nat_le (rank root.ran) (rank x.ran)) root.ran x.ran d.0.0 d.0.1 q.stopped
            theirs.stopped;
      })

  ends_says : (r : Ran) (left end : WorkerEnd N) → EndsPool m most until r left end
      → Says left.ran left.known left.posted → Says end.ran end.known end.posted
  ends_says ran.Over left end d q = runs_says left.known end.known left.posted end.posted end.ran d
      q.posted
  ends_says ran.Broken left end d q =
      subst (λ (x : WorkerEnd N). Says x.ran x.known x.posted) (sym d) q
  ends_says ran.NetFault left end d q =
      subst (λ (x : WorkerEnd N). Says x.ran x.known x.posted) (sym d) q
  ends_says ran.NoMemory left end d q =
      subst (λ (x : WorkerEnd N). Says x.ran x.known x.posted) (sym d) q
  ends_says ran.VolumeFault left end d q =
      subst (λ (x : WorkerEnd N). Says x.ran x.known x.posted) (sym d) q
  ends_says ran.Stopped left end d q =
      subst (λ (x : WorkerEnd N). Says x.ran x.known x.posted) (sym d) q

  pool_says : (v : View (Entry N) DeskTerms) (p : RingView) (many : ℕ) (end : WorkerEnd N)
      → RunsPool m most until many v p end → AllPosted (is_for until) p
      → Says end.ran end.known end.posted
  pool_says v p many end d q =
      let root : Says d.root.ran d.root.known d.root.posted =
      runs_says (hirer v many) d.root.known (hirer_posted p many) d.root.posted d.root.ran
      d.root_runs (record { own = q.own; ended = q.ended }) in
      ends_says d.left.ran d.left end d.ends
      (dismisses_says v p d.root d.left d.hired 0 d.dismisses d.each root)

  none_says : (v : View (Entry N) DeskTerms) (p : RingView) (end : WorkerEnd N) → HiresNone v p end
      → AllPosted (is_for until) p → Says end.ran end.known end.posted
  none_says v p end d q = record {
    posted = subst (AllPosted (is_for until)) (sym d.2) q;
    stopped = λ is. let not : ran.NoMemory ≡ ran.Stopped = sym d.0 ∙ is in absurd cc;
  }

  -- the same of all workers of a run, as the root has them in the end
  pub all_says : (n : ℕ) (v w : View (Entry N) DeskTerms) (p s : RingView) (answer : Ran) → 1 ≤ n
      → AllPosted (is_for until) p → (n ≡ 1 → Runs m most until v p answer w s)
      → (1 < n → HiresNone v p (record { ran = answer; known = w; posted = s })
      ⊎ RunsPool m most until (n - 1) v p (record { ran = answer; known = w; posted = s }))
      → Says answer w s
  all_says n v w p s answer many q one several = dite (dec_le n 1)
      (λ le. runs_says v w p s answer (one (omega (arith, le, many))) q)
      (λ more. ⊎_elim (λ d. none_says v p _ d q) (λ d. pool_says v p (n - 1) _ d q)
      (several (omega (arith, more))))
