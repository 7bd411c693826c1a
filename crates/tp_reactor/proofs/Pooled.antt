-- What a pool of workers keeps and tells.
use Rattle.std.proofs.Common.{ℕ, suc, ◌≡◌, ◌≤◌, ◌<◌, ◌+◌, ◌-◌, Bool, true, false, if◌then◌else◌}
use Rattle.std.proofs.Common.{List, [], ◌∷◌, ◌++◌, length, refl, sym, ap, ◌∙◌, subst, arith, Option}
use Rattle.std.proofs.Common.{Some, None}
use Rattle.std.specs.Prelude.{nat_le}
use mathlib.Core.Logic.{dite}
use native.Mathlib.Decide.{dec_le}
use Rattle.ev_base.specs.Counts.{Rose}
use Rattle.ev_base.specs.ev_types.specs.declared.upcall.Handle.{Handle}
use Rattle.leader_token.specs.Lists.{Begins, NoneAbove, greater}
use Rattle.leader_token.specs.Passes.{split_right, joined}
use Rattle.leader_token.specs.declared.kept.View.{View}
use Rattle.leader_token.proofs.Lists.{begins-self, begins-trans, none_above-self, none_above-trans}
use Rattle.leader_token.proofs.Lists.{greater-at}
use Rattle.leader_token.specs.list_lemmas.specs.Sums.{total}
use Rattle.leader_token.specs.list_lemmas.proofs.Sums.{total-append}
use Rattle.notify_ring.specs.Passes as ring
use Rattle.notify_ring.specs.declared.view.Ended.{Ended}
use Rattle.notify_ring.specs.declared.view.View.{View as RingView}
use Rattle.reactor_model.specs.reactor_journal.specs.declared.entry.Entry.{Entry}
use Rattle.reactor_model.specs.reactor_journal.specs.declared.entry.Entry.TheVariants as entry
use Rattle.reactor_model.specs.reactor_journal.specs.Past.{past_of}
use Rattle.reactor_model.specs.reactor_journal.proofs.Turning.{past_of-append}
use Rattle.reactor_core.specs.reactor_summary.specs.Summary.{ended_after, summary}
use Rattle.reactor_core.specs.Stands.{Meaning}
use Rattle.reactor_desk.specs.declared.terms.DeskTerms.{DeskTerms}
use Rattle.tp_reactor.specs.Led.{watch_mark, waits_mark, volumes_mark}
use Rattle.tp_reactor.specs.Pool.{WorkerEnd, AllRun, BothSeen, Dismisses, EndsPool, RunsPool}
use Rattle.tp_reactor.specs.Pool.{EndsWithOver, HasClosed, RanTells, hirer, hirer_posted}
use Rattle.tp_reactor.specs.Pool.{known_postings}
use Rattle.tp_reactor.specs.Words.{SameKin}
use Rattle.tp_reactor.specs.Working.{Runs, first_ran, rank}
use Rattle.tp_reactor.specs.declared.working.Ran.{Ran}
use Rattle.tp_reactor.specs.declared.working.Ran.TheVariants as ran
use Rattle.tp_reactor.proofs.Rounds.{kin_then}
use Rattle.tp_reactor.proofs.Grows.{Grows, grows_same, closed_later, runs_grow, runs_post}
use Rattle.tp_reactor.proofs.Grows.{runs_tell, ends_with_over, tells_before}

-- ---- a dismissal

-- the root after the dismissal of one
abbrev pub behind : {N : Type 0} → WorkerEnd N → WorkerEnd N → WorkerEnd N
behind root x = record {
  ran = first_ran root.ran x.ran;
  known = joined root.known x.known;
  posted = ring.joined root.posted x.posted;
}

greater_left : (xs ys : List ℕ) → NoneAbove xs (greater xs ys)
greater_left xs ys k = omega (arith, greater-at xs ys k)

greater_right : (xs ys : List ℕ) → NoneAbove ys (greater xs ys)
greater_right xs ys k = omega (arith, greater-at xs ys k)

postings_behind : (p s : RingView)
    → known_postings (ring.joined p s) ≡ known_postings p + length s.posted
postings_behind p s = omega (
  arith,
  total-append (λ (e : Ended). length e.posted) p.ended
      (record { number = s.number; posted = s.posted } ∷ []),
)

-- what an answer tells, whatever else the list has, but of the last wait
abbrev pub TellsFault : {N : Type 0} → View (Entry N) DeskTerms → Ran → View (Entry N) DeskTerms
    → Type 0
TellsFault v ran.NetFault w = Rose (waits_mark v) (waits_mark w)
TellsFault v ran.VolumeFault w = Rose (volumes_mark v) (volumes_mark w)
TellsFault v ran.Broken w = (before : ℕ) → v.terms.run.output_faults ≡ Some before
    → Rose before (watch_mark w)
TellsFault v ran.NoMemory w = Unit {0}
TellsFault v ran.Stopped w = (summary (past_of w.seen)).ended ≡ true
TellsFault v ran.Over w = Unit {0}

rose_later : (before now later : ℕ) → now ≤ later → Rose before now → Rose before later
rose_later before now later more rose = omega (arith, more, rose)

fault_of : {N : Type 0} (v w : View (Entry N) DeskTerms) (answer : Ran) → RanTells v answer w
    → TellsFault v answer w
fault_of v w ran.Broken t = t
fault_of v w ran.NetFault t = t
fault_of v w ran.NoMemory t = tt
fault_of v w ran.VolumeFault t = t
fault_of v w ran.Stopped t = t
fault_of v w ran.Over t = tt

told_of : {N : Type 0} (v w : View (Entry N) DeskTerms) (answer : Ran) → (answer ≡ ran.Over → ⊥)
    → TellsFault v answer w → RanTells v answer w
told_of v w ran.Broken other t = t
told_of v w ran.NetFault other t = t
told_of v w ran.NoMemory other t = tt
told_of v w ran.VolumeFault other t = t
told_of v w ran.Stopped other t = t
told_of v w ran.Over other t = absurd (other refl)

-- what was stopped stays so
ended_more : {N : Type 0} (past more : List (Entry N)) → (summary past).ended ≡ true
    → (summary (more ++ past)).ended ≡ true
ended_more past [] ended = ended
ended_more past (e ∷ more) ended = after e (ended_more past more ended)
  where
    after : {N : Type 0} (e : Entry N) {b : Bool} → b ≡ true → ended_after e b ≡ true
    after entry.Ended is = refl
    after _ is = is

ended_later : {N : Type 0} (list more : List (Entry N)) → Begins list more
    → (summary (past_of list)).ended ≡ true → (summary (past_of more)).ended ≡ true
ended_later {N} list more begins ended =
    subst (λ (x : List (Entry N)). (summary (past_of x)).ended ≡ true) begins.1
    (subst (λ (x : List (Entry N)). (summary x).ended ≡ true)
    (sym (past_of-append list begins.0)) (ended_more (past_of list) (past_of begins.0) ended))

fault_later : {N : Type 0} (v w x : View (Entry N) DeskTerms) (answer : Ran)
    → NoneAbove w.marks x.marks → Begins w.seen x.seen → TellsFault v answer w
    → TellsFault v answer x
fault_later v w x ran.Broken above seen t =
    λ before is. rose_later before _ _ (above 0) (t before is)
fault_later v w x ran.NetFault above seen t = rose_later _ _ _ (above 1) t
fault_later v w x ran.NoMemory above seen t = tt
fault_later v w x ran.VolumeFault above seen t = rose_later _ _ _ (above 3) t
fault_later v w x ran.Stopped above seen t = ended_later w.seen x.seen seen t
fault_later v w x ran.Over above seen t = tt

either : (P : Ran → Type 0) (c : Bool) (a b : Ran) → P a → P b → P (if c then a else b)
either P true a b p q = p
either P false a b p q = q

fault_first : {N : Type 0} (v w : View (Entry N) DeskTerms) (a b : Ran) → TellsFault v a w
    → TellsFault v b w → TellsFault v (first_ran a b) w
fault_first v w a b p q = either (λ r. TellsFault v r w) (nat_le (rank a) (rank b)) a b p q

module _ {N : Type 0} where
  -- what holds of the root before and after so many
  pub record Left (root left : WorkerEnd N) (many : ℕ) : Type 0 where
    pub terms : left.known.terms ≡ root.known.terms
    pub root_still : left.known.root ≡ root.known.root
    pub children : left.known.children ≡ root.known.children - many
    pub idle : left.known.mine ≡ root.known.mine
    pub seen : Begins root.known.seen left.known.seen
    pub marks : NoneAbove root.known.marks left.known.marks
    pub posted : left.posted.posted ≡ root.posted.posted

  left_same : (root left : WorkerEnd N) → left ≡ root → Left root left 0
  left_same root left same = subst (λ (x : WorkerEnd N). Left root x 0) (sym same)
      (record {
        terms = refl;
        root_still = refl;
        children = omega arith;
        idle = refl;
        seen = begins-self root.known.seen;
        marks = none_above-self root.known.marks;
        posted = refl;
      })

  left_then : (root x left : WorkerEnd N) (many : ℕ) → BothSeen root.known x.known
      → Left (behind root x) left many → Left root left (suc many)
  left_then root x left many both l = record {
    terms = l.terms;
    root_still = l.root_still;
    children = omega (arith, l.children);
    idle = l.idle;
    seen = begins-trans root.known.seen (joined root.known x.known).seen left.known.seen both.0
        l.seen;
    marks = none_above-trans root.known.marks (joined root.known x.known).marks left.known.marks
        (greater_left root.known.marks x.known.marks) l.marks;
    posted = l.posted;
  }

  pub dismisses_left : (root left : WorkerEnd N) (hired : List (WorkerEnd N))
      → Dismisses root hired left → Left root left (length hired)
  dismisses_left root left [] d = left_same root left d
  dismisses_left root left (x ∷ xs) d =
      left_then root x left (length xs) d.0 (dismisses_left (behind root x) left xs d.1)

-- after the dismissals of workers that a root with view v and postings p hired
module _ {H M Q W V N E : Type 0} (m : Meaning H M Q W V N E) (most : Option ℕ)
    (until : Option (ℕ × Handle)) (v : View (Entry N) DeskTerms) (p : RingView) where
  -- what the answer that goes first tells of faults
  pub dismisses_fault : (root left : WorkerEnd N) (hired : List (WorkerEnd N)) (many : ℕ)
      → Dismisses root hired left → AllRun m most until v p many hired
      → TellsFault v root.ran root.known → TellsFault v left.ran left.known
  dismisses_fault root left [] many d runs t =
      subst (λ (x : WorkerEnd N). TellsFault v x.ran x.known) (sym d) t
  dismisses_fault root left (x ∷ xs) many d runs t =
      let mine : TellsFault v root.ran (joined root.known x.known) =
      fault_later v root.known (joined root.known x.known) root.ran
      (greater_left root.known.marks x.known.marks) d.0.0 t in
      let told : RanTells v x.ran x.known =
      tells_before v (split_right v) x.known x.ran refl (none_above-self v.marks)
      (runs_tell m most until (split_right v) x.known (ring.split_right (hirer_posted p many))
      x.posted x.ran runs.0.0) in
      let theirs : TellsFault v x.ran (joined root.known x.known) =
      fault_later v x.known (joined root.known x.known) x.ran
      (greater_right root.known.marks x.known.marks) d.0.1 (fault_of v x.known x.ran told) in
      dismisses_fault (behind root x) left xs (many + 1) d.1 runs.1
      (fault_first v (joined root.known x.known) root.ran x.ran mine theirs)

  -- if one of them made a posting, as many were closed as were asked for
  pub dismisses_post : (root left : WorkerEnd N) (hired : List (WorkerEnd N)) (many : ℕ)
      → Dismisses root hired left → AllRun m most until v p many hired
      → known_postings root.posted < known_postings left.posted → HasClosed until left.known.seen
  dismisses_post root left [] many d runs more =
      absurd (omega (arith, more, ap (λ (x : WorkerEnd N). known_postings x.posted) d))
  dismisses_post root left (x ∷ xs) many d runs more = dite (dec_le (length x.posted.posted) 0)
      (λ none. dismisses_post (behind root x) left xs (many + 1) d.1 runs.1
      (omega (arith, more, none, postings_behind root.posted x.posted)))
      (λ made.
      let closed : HasClosed until x.known.seen =
      runs_post m most until (split_right v) x.known (ring.split_right (hirer_posted p many))
      x.posted x.ran runs.0.0 (omega arith) in
      closed_later until x.known.seen left.known.seen
      (begins-trans x.known.seen (joined root.known x.known).seen left.known.seen d.0.1
      (dismisses_left (behind root x) left xs d.1).seen) closed)

  -- ---- the end of a pool

  -- after the dismissals the root went on, or did not
  pub record GoesOn (left end : WorkerEnd N) : Type 0 where
    pub grows : Grows left.known end.known left.posted end.posted
    pub tells : TellsFault v left.ran left.known → left.known.terms ≡ v.terms
        → NoneAbove v.marks left.known.marks → RanTells v end.ran end.known
    pub posts : known_postings left.posted < known_postings end.posted
        → HasClosed until end.known.seen
    pub over : left.known.mine ≡ None → end.ran ≡ ran.Over
        → EndsWithOver m most left.known end.known

  went_on : (left end : WorkerEnd N)
      → Runs m most until left.known left.posted end.ran end.known end.posted → GoesOn left end
  went_on left end d =
      let grown : Grows left.known end.known left.posted end.posted =
      runs_grow m most until left.known end.known left.posted end.posted end.ran d in
      record {
        grows = grown;
        tells = λ t terms above. tells_before v left.known end.known end.ran terms above
            (runs_tell m most until left.known end.known left.posted end.posted end.ran d);
        posts = λ more. runs_post m most until left.known end.known left.posted end.posted end.ran d
            (omega (arith, more, ap (λ es. total (λ (e : Ended). length e.posted) es) grown.ended));
        over = λ idle is. ends_with_over m most until left.known end.known left.posted end.posted
            idle (subst (λ (r : Ran). Runs m most until left.known left.posted r end.known
            end.posted) is d);
      }

  stayed : (left end : WorkerEnd N) → (left.ran ≡ ran.Over → ⊥) → end ≡ left → GoesOn left end
  stayed left end other same = subst (GoesOn left) (sym same) (record {
    grows = grows_same left.known left.posted;
    tells = λ t terms above. told_of v left.known left.ran other t;
    posts = λ more. absurd (omega (arith, more));
    over = λ idle is. absurd (other is);
  })

  ends : (r : Ran) (left end : WorkerEnd N) → left.ran ≡ r → EndsPool m most until r left end
      → GoesOn left end
  ends ran.Over left end is d = went_on left end d
  ends ran.Broken left end is d = stayed left end (λ over. cc) d
  ends ran.NetFault left end is d = stayed left end (λ over. cc) d
  ends ran.NoMemory left end is d = stayed left end (λ over. cc) d
  ends ran.VolumeFault left end is d = stayed left end (λ over. cc) d
  ends ran.Stopped left end is d = stayed left end (λ over. cc) d

  module _ (many : ℕ) (end : WorkerEnd N) (d : RunsPool m most until many v p end) where
    root_grows : Grows (hirer v many) d.root.known (hirer_posted p many) d.root.posted
    root_grows = runs_grow m most until (hirer v many) d.root.known (hirer_posted p many)
        d.root.posted d.root.ran d.root_runs

    left_of : Left d.root d.left (length d.hired)
    left_of = dismisses_left d.root d.left d.hired d.dismisses

    goes_on : GoesOn d.left end
    goes_on = ends d.left.ran d.left end refl d.ends

    kin_left : SameKin v d.left.known
    kin_left = record {
      terms = left_of.terms ∙ root_grows.kin.terms;
      root = left_of.root_still ∙ root_grows.kin.root;
      children = omega (arith, left_of.children, root_grows.kin.children, d.all);
    }

    seen_left : Begins v.seen d.left.known.seen
    seen_left = begins-trans v.seen d.root.known.seen d.left.known.seen root_grows.seen left_of.seen

    marks_left : NoneAbove v.marks d.left.known.marks
    marks_left = none_above-trans v.marks d.root.known.marks d.left.known.marks root_grows.marks
        left_of.marks

    pub pool_kin : SameKin v end.known
    pool_kin = kin_then v d.left.known end.known kin_left goes_on.grows.kin

    pub pool_seen : Begins v.seen end.known.seen
    pool_seen = begins-trans v.seen d.left.known.seen end.known.seen seen_left goes_on.grows.seen

    pub pool_marks : NoneAbove v.marks end.known.marks
    pool_marks = none_above-trans v.marks d.left.known.marks end.known.marks marks_left
        goes_on.grows.marks

    pub pool_tells : RanTells v end.ran end.known
    pool_tells =
        let mine : RanTells v d.root.ran d.root.known =
        tells_before v (hirer v many) d.root.known d.root.ran refl (none_above-self v.marks)
        (runs_tell m most until (hirer v many) d.root.known (hirer_posted p many) d.root.posted
        d.root.ran d.root_runs) in
        goes_on.tells (dismisses_fault d.root d.left d.hired 0 d.dismisses d.each
        (fault_of v d.root.known d.root.ran mine)) kin_left.terms marks_left

    pub pool_over : v.mine ≡ None → end.ran ≡ ran.Over → EndsWithOver m most v end.known
    pool_over idle is =
        let last : EndsWithOver m most d.left.known end.known =
        goes_on.over (left_of.idle ∙ root_grows.idle idle) is in
        record {
          last = last.last;
          kin = kin_then v d.left.known last.last kin_left last.kin;
          grown = begins-trans v.seen d.left.known.seen last.last.seen seen_left last.grown;
          leads = last.leads;
          rests = λ root none. last.rests (kin_left.root ∙ root) (kin_left.children ∙ none);
        }

    root_posted : known_postings p < known_postings d.root.posted
        → HasClosed until d.root.known.seen
    root_posted more = runs_post m most until (hirer v many) d.root.known (hirer_posted p many)
        d.root.posted d.root.ran d.root_runs
        (omega (arith, more, ap (λ es. total (λ (e : Ended). length e.posted) es) root_grows.ended))

    pub pool_posts : known_postings p < known_postings end.posted → HasClosed until end.known.seen
    pool_posts more = dite (dec_le (known_postings d.root.posted) (known_postings p))
        (λ low. dite (dec_le (known_postings d.left.posted) (known_postings d.root.posted))
        (λ lower. goes_on.posts (omega (arith, more, low, lower)))
        (λ more. closed_later until d.left.known.seen end.known.seen goes_on.grows.seen
        (dismisses_post d.root d.left d.hired 0 d.dismisses d.each (omega arith))))
        (λ more. closed_later until d.root.known.seen end.known.seen
        (begins-trans d.root.known.seen d.left.known.seen end.known.seen left_of.seen
        goes_on.grows.seen) (root_posted (omega arith)))
