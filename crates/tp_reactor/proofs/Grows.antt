-- What the loop of a worker keeps, and what grows in it.
use Rattle.std.proofs.Common.{ℕ, zero, suc, ◌≡◌, ◌≤◌, ◌<◌, true, List, [], ◌∷◌, ◌++◌, length, refl}
use Rattle.std.proofs.Common.{sym, ap, ◌∙◌, subst, arith, length-append, Option, Some, None, ⊎_elim}
use mathlib.Core.Logic.{dite}
use native.Mathlib.Decide.{dec_le}
use Rattle.std.specs.Prelude.{Result, Ok, Err}
use Rattle.ev_base.specs.Counts.{Rose}
use Rattle.ev_base.specs.ev_types.specs.declared.upcall.Handle.{Handle}
use Rattle.ev_base.specs.ev_types.specs.declared.upcall.Kind.{Kind}
use Rattle.leader_token.specs.Lists.{is_event, Begins, NoneAbove}
use Rattle.leader_token.specs.list_lemmas.specs.Sums.{total}
use Rattle.leader_token.specs.declared.kept.View.{View}
use Rattle.leader_token.proofs.Lists.{begins-self, begins-trans, none_above-self, none_above-trans}
use Rattle.notify_ring.specs.Passes.{HasPosted, posting_of}
use Rattle.notify_ring.specs.declared.posting.Full.{Full}
use Rattle.notify_ring.specs.declared.view.Ended.{Ended}
use Rattle.notify_ring.specs.declared.view.View.{View as RingView}
use Rattle.reactor_model.specs.reactor_journal.specs.declared.entry.Entry.{Entry}
use Rattle.reactor_model.specs.reactor_journal.specs.Past.{past_of}
use Rattle.reactor_core.specs.Stands.{Meaning}
use Rattle.reactor_core.specs.Upcalls.{HasNoPick}
use Rattle.reactor_core.specs.declared.acting.Settled.{Settled}
use Rattle.reactor_core.specs.declared.job.Done.{Done}
use Rattle.reactor_desk.specs.Desks.{marks_of}
use Rattle.reactor_desk.specs.Laws.{HistoryLeft}
use Rattle.reactor_desk.specs.Leading.{event_of}
use Rattle.reactor_desk.specs.declared.terms.DeskTerms.{DeskTerms}
use Rattle.reactor_desk.specs.declared.leading.Led.{Led}
use Rattle.reactor_desk.specs.declared.leading.Led.TheVariants as led
use Rattle.reactor_desk.proofs.Left.{left_by_lead}
use Rattle.tp_reactor.specs.Led.{IsLed, MarksTell}
use Rattle.tp_reactor.specs.Pool.{EndsWithOver, HasClosed, IsAtRest, RanTells, known_postings}
use Rattle.tp_reactor.specs.Settled.{HasSettled}
use Rattle.tp_reactor.specs.Words.{SameKin}
use Rattle.tp_reactor.specs.Working.{MayPost, PostsNotice, Round, Rounds, Runs, Serves, ran_of}
use Rattle.tp_reactor.specs.declared.working.Ran.{Ran}
use Rattle.tp_reactor.specs.declared.working.Ran.TheVariants as ran
use Rattle.tp_reactor.proofs.Marked.{marks_tell}
use Rattle.tp_reactor.proofs.Rounds.{kin_same, kin_then, led_kin, settled_kin, no_job}

-- Of a worker that knew v and knows w from then on, with postings p before and s from then on.
pub record Grows {N : Type 0} (v w : View (Entry N) DeskTerms) (p s : RingView) : Type 0 where
  pub kin : SameKin v w
  pub seen : Begins v.seen w.seen
  pub marks : NoneAbove v.marks w.marks
  pub idle : v.mine ≡ None → w.mine ≡ None
  pub posted : length p.posted ≤ length s.posted
  pub ended : s.ended ≡ p.ended

module _ {N : Type 0} where
  pub grows_same : (v : View (Entry N) DeskTerms) (p : RingView) → Grows v v p p
  grows_same v p = record {
    kin = kin_same v;
    seen = begins-self v.seen;
    marks = none_above-self v.marks;
    idle = λ i. i;
    posted = omega arith;
    ended = refl;
  }

  pub grows_then : (v w x : View (Entry N) DeskTerms) (p r s : RingView) → Grows v w p r
      → Grows w x r s → Grows v x p s
  grows_then v w x p r s a b = record {
    kin = kin_then v w x a.kin b.kin;
    seen = begins-trans v.seen w.seen x.seen a.seen b.seen;
    marks = none_above-trans v.marks w.marks x.marks a.marks b.marks;
    idle = λ i. b.idle (a.idle i);
    posted = omega (arith, a.posted, b.posted);
    ended = b.ended ∙ a.ended;
  }

  pub closed_later : (until : Option (ℕ × Handle)) (list more : List (Entry N)) → Begins list more
      → HasClosed until list → HasClosed until more
  closed_later until list more begins h =
      record {
        count = h.count;
        handle = h.handle;
        asked = h.asked;
        front = h.front;
        begins = begins-trans h.front list more h.begins begins;
        enough = h.enough;
        running = h.running;
      }

module _ {H M Q W V N E : Type 0} (m : Meaning H M Q W V N E) where
  -- the list that a lead left, as the caller has seen it then
  pub seen_led : (v w : View (Entry N) DeskTerms) (most : Option ℕ) (l : Led H N E)
      (d : IsLed m v most l w) → HistoryLeft m v.terms d.history d.left w.seen (event_of l)
  seen_led v w most l d =
      subst (λ (x : List (Entry N)). HistoryLeft m v.terms d.history d.left x (event_of l))
      (sym (ap (λ (x : View (Entry N) DeskTerms). x.seen) d.leaves.view))
      (left_by_lead m v.terms d.first d.history most d.found l d.left d.list d.finds.stood d.gives)

  module _ (v w : View (Entry N) DeskTerms) (most : Option ℕ) (l : Led H N E)
      (d : IsLed m v most l w) where
    led_seen : Begins v.seen w.seen
    led_seen = begins-trans v.seen d.history w.seen d.finds.begins (seen_led v w most l d).begins

    led_marks : NoneAbove v.marks w.marks
    led_marks = subst (NoneAbove v.marks)
        (sym (ap (λ (x : View (Entry N) DeskTerms). x.marks) d.leaves.view))
        (none_above-trans v.marks (marks_of m d.found) (marks_of m d.left) d.finds.above
        d.leaves.risen)

    pub led_grows : (p s : RingView) → event_of l ≡ None → s ≡ p → Grows v w p s
    led_grows p s idle same = record {
      kin = led_kin m v w most l d;
      seen = led_seen;
      marks = led_marks;
      idle = λ _. ap (λ (x : View (Entry N) DeskTerms). x.mine) d.leaves.view ∙ idle;
      posted = omega (arith, ap (λ (x : RingView). length x.posted) same);
      ended = ap (λ (x : RingView). x.ended) same;
    }

  -- ---- a settling

  begins_settled : (h a b c : List (Entry N)) → Begins h (((h ++ a) ++ b) ++ c)
  begins_settled h a b c = begins-trans h (h ++ a) (((h ++ a) ++ b) ++ c) (a, refl)
      (begins-trans (h ++ a) ((h ++ a) ++ b) (((h ++ a) ++ b) ++ c) (b, refl) (c, refl))

  module _ (v w : View (Entry N) DeskTerms) (done : Done H N E) (settled : Settled)
      (d : HasSettled m v done settled w) where
    settled_list : (list : List (Entry N)) → w.seen ≡ list → Begins d.history list
        → Begins v.seen w.seen
    settled_list list is begins = subst (Begins v.seen) (sym is)
        (begins-trans v.seen d.history list d.finds.begins begins)

    settled_seen : Begins v.seen w.seen
    settled_seen = settled_list _ (ap (λ (x : View (Entry N) DeskTerms). x.seen) d.leaves.view)
        (begins_settled d.history _ d.settles.settles.closing d.settles.settles.acted)

    settled_marks : NoneAbove v.marks w.marks
    settled_marks = subst (NoneAbove v.marks)
        (sym (ap (λ (x : View (Entry N) DeskTerms). x.marks) d.leaves.view))
        (none_above-trans v.marks (marks_of m d.found) (marks_of m d.left) d.finds.above
        d.leaves.risen)

    settled_idle : w.mine ≡ None
    settled_idle = ap (λ (x : View (Entry N) DeskTerms). x.mine) d.leaves.view

    -- as many as were asked for were closed, if a notice was posted
    closed_now : (until : Option (ℕ × Handle)) (p s : RingView) → PostsNotice until settled p s
        → HasClosed until w.seen
    closed_now until p s post =
        subst (HasClosed until) (sym (ap (λ (x : View (Entry N) DeskTerms). x.seen) d.leaves.view))
        (record {
          count = post.count;
          handle = post.handle;
          asked = post.asked;
          front = _;
          begins = begins-self _;
          enough = omega (arith, post.enough, d.settles.settles.closed);
          running = sym d.settles.settles.ended ∙ post.running;
        })

  -- ---- postings

  posted_more : (p s : RingView) (handle : Handle) (kind : Kind) (result : Result ℕ Full)
      → HasPosted p handle kind result s → (length p.posted ≤ length s.posted) × (s.ended ≡ p.ended)
  posted_more p s handle kind (Ok n) has = (
    omega (
      arith,
      ap (λ (x : RingView). length x.posted) has.1,
      length-append p.posted (posting_of p n handle kind ∷ []),
    ),
    ap (λ (x : RingView). x.ended) has.1,
  )
  posted_more p s handle kind (Err full) has = (
    omega (arith, ap (λ (x : RingView). length x.posted) has.1),
    ap (λ (x : RingView). x.ended) has.1,
  )

  may_more : (until : Option (ℕ × Handle)) (settled : Settled) (p s : RingView)
      → MayPost until settled p s → (length p.posted ≤ length s.posted) × (s.ended ≡ p.ended)
  may_more until settled p s = ⊎_elim
      (λ same. (
        omega (arith, ap (λ (x : RingView). length x.posted) same),
        ap (λ (x : RingView). x.ended) same,
      ))
      (λ post. posted_more p s post.handle _ post.result post.posted)

  -- ---- rounds

  module _ (most : Option ℕ) (until : Option (ℕ × Handle)) where
    serves_grows : (v w : View (Entry N) DeskTerms) (p s : RingView) → Serves m most until v p w s
        → Grows v w p s
    serves_grows v w p s d =
        let more : (length p.posted ≤ length s.posted) × (s.ended ≡ p.ended) =
        may_more until d.settled p s d.posts in
        record {
          kin = kin_then v d.between w (led_kin m v d.between most _ d.led)
              (settled_kin m d.between w d.done d.settled d.settles);
          seen = begins-trans v.seen d.between.seen w.seen (led_seen v d.between most _ d.led)
              (settled_seen d.between w d.done d.settled d.settles);
          marks = none_above-trans v.marks d.between.marks w.marks
              (led_marks v d.between most _ d.led)
              (settled_marks d.between w d.done d.settled d.settles);
          idle = λ _. settled_idle d.between w d.done d.settled d.settles;
          posted = more.0;
          ended = more.1;
        }

    pub round_grows : (v w : View (Entry N) DeskTerms) (p s : RingView) → Round m most until v p w s
        → Grows v w p s
    round_grows v w p s = ⊎_elim (λ d. led_grows v w most led.Quiet d.0 p s refl d.1)
        (λ d. serves_grows v w p s d)

    pub rounds_grow : (n : ℕ) (v w : View (Entry N) DeskTerms) (p s : RingView)
        → Rounds m most until n v p w s → Grows v w p s
    rounds_grow zero v w p s d = subst (λ (x : RingView). Grows v w p x) (sym d.1)
        (subst (λ (x : View (Entry N) DeskTerms). Grows v x p p) (sym d.0) (grows_same v p))
    rounds_grow (suc n) v w p s d = grows_then v d.0 w p d.1 s (rounds_grow n v d.0 p d.1 d.2)
        (round_grows d.0 w d.1 s d.3)

    -- a round that made a posting had closed as many as were asked for
    round_posts : (v w : View (Entry N) DeskTerms) (p s : RingView) → Round m most until v p w s
        → length p.posted < length s.posted → HasClosed until w.seen
    round_posts v w p s = ⊎_elim
        (λ d more. absurd (omega (arith, more, ap (λ (x : RingView). length x.posted) d.1)))
        (λ d. ⊎_elim {C = length p.posted < length s.posted → HasClosed until w.seen}
        (λ same more. absurd (omega (arith, more, ap (λ (x : RingView). length x.posted) same)))
        (λ post more. closed_now d.between w d.done d.settled d.settles until p s post) d.posts)

    rounds_post : (n : ℕ) (v w : View (Entry N) DeskTerms) (p s : RingView)
        → Rounds m most until n v p w s → length p.posted < length s.posted → HasClosed until w.seen
    rounds_post zero v w p s d more = absurd
        (omega (arith, more, ap (λ (x : RingView). length x.posted) d.1))
    rounds_post (suc n) v w p s d more = dite (dec_le (length s.posted) (length d.1.posted))
        (λ le. closed_later until d.0.seen w.seen (round_grows d.0 w d.1 s d.3).seen
        (rounds_post n v d.0 p d.1 d.2 (omega (arith, more, le))))
        (λ higher. round_posts d.0 w d.1 s d.3 (omega arith))

  -- ---- a whole loop

  pub is_over : (l : Led H N E) → ran_of l ≡ Some ran.Over → l ≡ led.Over
  is_over (led.Job job) is = cc
  is_over led.Quiet is = cc
  is_over led.Over is = refl
  is_over led.Stopped is = cc
  is_over led.Broken is = cc
  is_over led.VolumeFault is = cc
  is_over led.NetFault is = cc
  is_over led.NoMemory is = cc

  module _ (most : Option ℕ) (until : Option (ℕ × Handle)) (v w : View (Entry N) DeskTerms)
      (p s : RingView) (answer : Ran) (d : Runs m most until v p answer w s) where
    pub before_last : Grows v d.last p d.last_posted
    before_last = rounds_grow most until d.rounds v d.last p d.last_posted d.were

    pub runs_grow : Grows v w p s
    runs_grow = grows_then v d.last w p d.last_posted s before_last
        (led_grows d.last w most d.ends.led d.ends.is_led d.last_posted s
        (no_job m d.ends.led answer d.ends.answers) d.ends.poster)

    pub runs_post : length p.posted < length s.posted → HasClosed until w.seen
    runs_post more = closed_later until d.last.seen w.seen
        (led_seen d.last w most d.ends.led d.ends.is_led)
        (rounds_post most until d.rounds v d.last p d.last_posted d.were
        (omega (arith, more, ap (λ (x : RingView). length x.posted) d.ends.poster)))

    -- by the postings that a root knows of
    pub runs_posted : known_postings p < known_postings s → HasClosed until w.seen
    runs_posted more = runs_post (omega (
      arith,
      more,
      ap (λ (es : List Ended). total (λ (e : Ended). length e.posted) es) runs_grow.ended,
    ))

  -- ---- what is left to do after an Over

  rests_behind : (v w : View (Entry N) DeskTerms) (most : Option ℕ) → IsLed m v most led.Over w
      → v.mine ≡ None → v.root ≡ true → v.children ≡ 0 → IsAtRest w.seen
  rests_behind v w most d idle root none =
      let alone = d.finds.alone root none in
      let left : HistoryLeft m v.terms d.history d.left w.seen None =
      seen_led v w most led.Over d in
      record {
        closed = λ e. omega (arith, left.opens e, alone.1 e, ap (is_event e) idle);
        none = subst (λ (x : List (Entry N)). HasNoPick (past_of x))
            (sym (ap (λ (x : View (Entry N) DeskTerms). x.seen) d.leaves.view))
            d.gives.1.gives.none;
      }

  pub ends_with_over : (most : Option ℕ) (until : Option (ℕ × Handle))
      (v w : View (Entry N) DeskTerms) (p s : RingView) → v.mine ≡ None
      → Runs m most until v p ran.Over w s → EndsWithOver m most v w
  ends_with_over most until v w p s idle d =
      let g : Grows v d.last p d.last_posted = before_last most until v w p s ran.Over d in
      let over : IsLed m d.last most led.Over w =
      subst (λ (k : Led H N E). IsLed m d.last most k w) (is_over d.ends.led d.ends.answers)
      d.ends.is_led in
      record {
        last = d.last;
        kin = g.kin;
        grown = g.seen;
        leads = over;
        rests =
            λ root none. rests_behind d.last w most over (g.idle idle) (g.kin.root ∙ root)
            (g.kin.children ∙ none);
      }

-- ---- the marks

rose_before : (before had now : ℕ) → before ≤ had → Rose had now → Rose before now
rose_before before had now low rose = omega (arith, low, rose)

-- what a caller that knew x tells, a caller that knew v before tells too
pub tells_before : {N : Type 0} (v x w : View (Entry N) DeskTerms) (answer : Ran)
    → x.terms ≡ v.terms → NoneAbove v.marks x.marks → RanTells x answer w → RanTells v answer w
tells_before v x w ran.Broken terms above t =
    λ before is. t before (ap (λ (q : DeskTerms). q.run.output_faults) terms ∙ is)
tells_before v x w ran.NetFault terms above t = rose_before _ _ _ (above 1) t
tells_before v x w ran.NoMemory terms above t = tt
tells_before v x w ran.VolumeFault terms above t = rose_before _ _ _ (above 3) t
tells_before v x w ran.Stopped terms above t = t
tells_before v x w ran.Over terms above t = t

module _ {H M Q W V N E : Type 0} (m : Meaning H M Q W V N E) where
  some_of : (a b : Ran) → Some a ≡ Some b → a ≡ b
  some_of a b is = cc

  led_tells : (v w : View (Entry N) DeskTerms) (l : Led H N E) (answer : Ran)
      → ran_of l ≡ Some answer → MarksTell v l w → RanTells v answer w
  led_tells v w (led.Job job) answer is t = absurd cc
  led_tells v w led.Quiet answer is t = absurd cc
  led_tells v w led.Over answer is t =
      subst (λ (a : Ran). RanTells v a w) (some_of ran.Over answer is) t
  led_tells v w led.Stopped answer is t =
      subst (λ (a : Ran). RanTells v a w) (some_of ran.Stopped answer is) t
  led_tells v w led.Broken answer is t =
      subst (λ (a : Ran). RanTells v a w) (some_of ran.Broken answer is) t
  led_tells v w led.VolumeFault answer is t =
      subst (λ (a : Ran). RanTells v a w) (some_of ran.VolumeFault answer is) t
  led_tells v w led.NetFault answer is t =
      subst (λ (a : Ran). RanTells v a w) (some_of ran.NetFault answer is) t
  led_tells v w led.NoMemory answer is t =
      subst (λ (a : Ran). RanTells v a w) (some_of ran.NoMemory answer is) tt

  pub runs_tell : (most : Option ℕ) (until : Option (ℕ × Handle)) (v w : View (Entry N) DeskTerms)
      (p s : RingView) (answer : Ran) → Runs m most until v p answer w s → RanTells v answer w
  runs_tell most until v w p s answer d =
      let g : Grows v d.last p d.last_posted = before_last m most until v w p s answer d in
      tells_before v d.last w answer g.kin.terms g.marks
      (led_tells d.last w d.ends.led answer d.ends.answers
      (marks_tell m d.last most w d.ends.led d.ends.is_led))
