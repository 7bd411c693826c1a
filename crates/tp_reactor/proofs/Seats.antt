-- Lists of hired workers.
use Rattle.std.proofs.Common.{ℕ, zero, suc, ◌≡◌, ◌<◌, ◌≤◌, ◌+◌, Bool, cond, true, false, List, []}
use Rattle.std.proofs.Common.{◌∷◌, ◌++◌, length, refl, sym, ap, ◌∙◌, subst, arith, Option}
use Rattle.std.specs.Prelude.{All, slice_index_or}
use Rattle.std.specs.List.{AllZip, remove}
use Rattle.ev_base.specs.ev_types.specs.declared.upcall.Handle.{Handle}
use Rattle.leader_token.specs.Lists.{Begins}
use Rattle.leader_token.specs.Passes.{joined, split_left, split_right}
use Rattle.leader_token.specs.declared.kept.Kept.{Ghosts as Keeping}
use Rattle.leader_token.specs.declared.kept.View.{View}
use Rattle.notify_ring.specs.Passes as ring
use Rattle.notify_ring.specs.declared.view.View.{View as RingView}
use Rattle.reactor_model.specs.reactor_journal.specs.declared.entry.Entry.{Entry}
use Rattle.reactor_core.specs.Polling.{FitsLimit}
use Rattle.reactor_core.specs.Stands.{Meaning}
use Rattle.reactor_core.specs.declared.job.Done.{Done}
use Rattle.reactor_desk.specs.declared.terms.DeskTerms.{DeskTerms}
use Rattle.reactor_desk.specs.declared.desk.Desk.{Desk}
use Rattle.tp_reactor.specs.Hired.{AreHired, IsBack, IsHired, IsReady, MayLeave, ends_of}
use Rattle.tp_reactor.specs.Hired.{observers_of}
use Rattle.tp_reactor.specs.Observed.{AllObserved, EndsObserved, Loop, PoolObserved, RunsObserved}
use Rattle.tp_reactor.specs.Observed.{loop_end, loop_of}
use Rattle.tp_reactor.specs.Pool.{Dismisses, WorkerEnd, hirer, hirer_posted}
use Rattle.tp_reactor.specs.Words.{posted_of}
use Rattle.tp_reactor.specs.Working.{first_ran}
use Rattle.tp_reactor.specs.declared.working.Ran.{Ran}
use Rattle.tp_reactor.specs.declared.working.Ran.TheVariants as ran
use Rattle.tp_reactor.proofs.Observed.{observed_first, observed_over}
use Rattle.tp_reactor.specs.declared.reactor.Reactor.{Reactor}
use Rattle.tp_reactor.specs.declared.pool.Hired.{Hired}

-- what holds of each two in one place holds of the lists
pub zip_of : {X : Type 0} (R : X → X → Type 0) (xs ys : List X) → length ys ≡ length xs
    → ((i : ℕ) (d : X) → i < length xs → R (slice_index_or xs i d) (slice_index_or ys i d))
    → AllZip R xs ys
zip_of R [] [] long each = tt
zip_of R [] (y ∷ ys) long each = absurd (omega (arith, long))
zip_of R (x ∷ xs) [] long each = absurd (omega (arith, long))
zip_of R (x ∷ xs) (y ∷ ys) long each = (
  each 0 x (omega arith),
  zip_of R xs ys (omega (arith, long))
      (λ i d low. each (suc i) d (omega (arith, low))),
)

pub zip_many : {X : Type 0} (R : X → X → Type 0) (xs ys : List X) → AllZip R xs ys
    → length ys ≡ length xs
zip_many R [] [] b = refl
zip_many R [] (y ∷ ys) b = absurd b
zip_many R (x ∷ xs) [] b = absurd b
zip_many R (x ∷ xs) (y ∷ ys) b = ap suc (zip_many R xs ys b.1)

-- a call that took x to y was lent a, and left b
pub pair_at : {X : Type 0} (R : X → X → Type 0) (a b x y : X) → a ≡ x → b ≡ y → R a b → R x y
pair_at R a b x y p q r = subst (λ k. R k y) p (subst (λ k. R a k) q r)

pub empty_of : {X : Type 0} (xs : List X) → length xs ≡ 0 → xs ≡ []
empty_of [] none = refl
empty_of (x ∷ xs) none = absurd (omega (arith, none))

-- what was removed from the front, followed by what is left
pub front_removed : {X : Type 0} (x : X) (xs rest : List X) → 0 < length xs
    → x ≡ slice_index_or xs 0 x → rest ≡ remove xs 0 → x ∷ rest ≡ xs
front_removed x [] rest some value items = absurd (omega (arith, some))
front_removed x (y ∷ ys) rest some value items = λ i. value i ∷ items i

pub all_tail : {X : Type 0} (P : X → Type 0) (x : X) (xs : List X) → All P (x ∷ xs) → All P xs
all_tail P x xs all k d low = all (suc k) d (omega (arith, low))

all_front : {X : Type 0} (P : X → Type 0) (x : X) (xs : List X) → P x → All P xs → All P (x ∷ xs)
all_front P x xs here all zero d low = here
all_front P x xs here all (suc k) d low = all k d (omega (arith, low))

all_none : {X : Type 0} (P : X → Type 0) → All P []
all_none P k d low = absurd (omega (arith, low))

-- the root dismissed one, which was the first of these
pub dismissed_one : {N : Type 0} (root x : WorkerEnd N) (xs : List (WorkerEnd N)) (answer : Ran)
    (known : View (Entry N) DeskTerms) (posted : RingView) (left : WorkerEnd N)
    → answer ≡ first_ran root.ran x.ran → known ≡ joined root.known x.known
    → posted ≡ ring.joined root.posted x.posted → Begins root.known.seen known.seen
    × Begins x.known.seen known.seen
    → Dismisses (record { ran = answer; known = known; posted = posted }) xs left
    → Dismisses root (x ∷ xs) left
dismissed_one {N = N} root x xs answer known posted left a k p both d = (
  subst (λ (v : View (Entry N) DeskTerms). Begins root.known.seen v.seen
      × Begins x.known.seen v.seen) k both,
  subst (λ (r : WorkerEnd N). Dismisses r xs left)
      (λ i. record { ran = a i; known = k i; posted = p i }) d,
)

-- the root hired one more
pub hirer_one : {N : Type 0} (v : View (Entry N) DeskTerms) (n k : ℕ) → k ≡ n + 1
    → split_left (hirer v n) ≡ hirer v k
hirer_one v n k is = ap (λ (c : ℕ). record v { children = c }) (omega (arith, is))

pub hirer_posted_one : (p : RingView) (n k : ℕ) → k ≡ n + 1
    → ring.split_left (hirer_posted p n) ≡ hirer_posted p k
hirer_posted_one p n k is =
    let posters : p.posters + n + 1 ≡ p.posters + k = omega (arith, is) in
    let children : p.children + n + 1 ≡ p.children + k = omega (arith, is) in
    λ i. record p { posters = posters i; children = children i }

pub append_empty : {X : Type 0} (xs : List X) → xs ++ [] ≡ xs
append_empty [] = refl
append_empty {X} (x ∷ xs) = ap (λ (l : List X). x ∷ l) (append_empty xs)

-- what stands before nothing is all
pub all_before : {X : Type 0} (xs ys zs : List X) → length ys ≡ 0 → xs ++ ys ≡ zs → xs ≡ zs
all_before xs [] zs none is = sym (append_empty xs) ∙ is
all_before xs (y ∷ ys) zs none is = absurd (omega (arith, none))

module _ {H M Q W V O N E : Type 0} {kept : Keeping (Desk H M Q W V N E) (Entry N) DeskTerms} where
  -- as many observers as workers
  pub as_observed : (xs : List (Hired H M Q W V O N E kept)) → length (observers_of xs) ≡ length xs
  as_observed [] = refl
  as_observed (x ∷ xs) = ap suc (as_observed xs)

  -- the observers of one worker more
  pub observed_more : (xs : List (Hired H M Q W V O N E kept)) (x : Hired H M Q W V O N E kept)
      (rest : List O) → observers_of (xs ++ x ∷ []) ++ rest ≡ observers_of xs ++ x.observer ∷ rest
  observed_more [] x rest = refl
  observed_more (y ∷ ys) x rest = ap (λ (l : List O). y.observer ∷ l) (observed_more ys x rest)

module _ {H M Q W V O K N E : Type 0} {kept : Keeping (Desk H M Q W V N E) (Entry N) DeskTerms}
    (reactor : Reactor H M Q W V K N E) (v : View (Entry N) DeskTerms) (p : RingView) where
  ready_one : (most : Option ℕ) (many : ℕ) (x : Hired H M Q W V O N E kept)
      → FitsLimit v.terms.run most → IsHired reactor v p many x → IsReady reactor most x
  ready_one most many x limit h = record {
    of = h.of;
    idle = (
      ap (λ (w : View (Entry N) DeskTerms). w.base) h.known,
      ap (λ (w : View (Entry N) DeskTerms). w.mine) h.known,
    );
    limit = subst (λ (w : View (Entry N) DeskTerms). FitsLimit w.terms.run most) (sym h.known)
        limit;
    room = omega (arith, ap (λ (w : RingView). length w.posted) h.posted);
  }

  pub hired_ready : (most : Option ℕ) (many : ℕ) (xs : List (Hired H M Q W V O N E kept))
      → FitsLimit v.terms.run most → AreHired reactor v p many xs
      → All (λ x. IsReady reactor most x) xs
  hired_ready most many [] limit h = all_none (λ x. IsReady reactor most x)
  hired_ready most many (x ∷ xs) limit h =
      all_front (λ y. IsReady reactor most y) x xs (ready_one most many x limit h.0)
      (hired_ready most (many + 1) xs limit h.1)

  pub hired_more : (many number : ℕ) (xs : List (Hired H M Q W V O N E kept))
      (x : Hired H M Q W V O N E kept) → number ≡ many + length xs → AreHired reactor v p many xs
      → IsHired reactor v p number x → AreHired reactor v p many (xs ++ x ∷ [])
  hired_more many number [] x is h one =
      (subst (λ (n : ℕ). IsHired reactor v p n x) (omega (arith, is)) one, tt)
  hired_more many number (y ∷ ys) x is h one =
      (h.0, hired_more (many + 1) number ys x (omega (arith, is)) h.1 one)

  module _ (m : Meaning H M Q W V N E) (observes : O → Done H N E → O → Type 0) (most : Option ℕ)
      (until : Option (ℕ × Handle)) where
    run_one : (many : ℕ) (x y : Hired H M Q W V O N E kept) → IsHired reactor v p many x
        → IsBack m observes reactor most until x y
        → RunsObserved m observes most until (record {
          known = split_right v;
          posted = ring.split_right (hirer_posted p many);
          observer = x.observer;
        }) y.ran (loop_of y.worker y.observer) × (length (posted_of y.worker) ≤ 1)
    run_one many x y h b = (
      subst (λ (a : Loop N O). RunsObserved m observes most until a y.ran
          (loop_of y.worker y.observer))
          (λ i. record { known = h.known i; posted = h.posted i; observer = x.observer }) b.runs,
      omega (arith, b.once, ap (λ (w : RingView). length w.posted) h.posted),
    )

    pub all_run : (many : ℕ) (xs ys : List (Hired H M Q W V O N E kept))
        → AreHired reactor v p many xs → AllZip (IsBack m observes reactor most until) xs ys
        → AllObserved m observes most until v p many (observers_of xs) (ends_of ys)
        (observers_of ys)
    all_run many [] [] h b = tt
    all_run many [] (y ∷ ys) h b = absurd b
    all_run many (x ∷ xs) [] h b = absurd b
    all_run many (x ∷ xs) (y ∷ ys) h b =
        (run_one many x y h.0 b.0, all_run (many + 1) xs ys h.1 b.1)

    -- as many ends as workers
    pub as_many : (xs ys : List (Hired H M Q W V O N E kept))
        → AllZip (IsBack m observes reactor most until) xs ys → length (ends_of ys) ≡ length xs
    as_many [] [] b = refl
    as_many [] (y ∷ ys) b = absurd b
    as_many (x ∷ xs) [] b = absurd b
    as_many (x ∷ xs) (y ∷ ys) b = omega (arith, as_many xs ys b.1)

    leave_one : (many : ℕ) (x y : Hired H M Q W V O N E kept) → IsHired reactor v p many x
        → IsBack m observes reactor most until x y → MayLeave reactor y
    leave_one many x y h b = record {
      of = b.of;
      idle = b.idle;
      child = b.kin.root ∙ ap (λ (w : View (Entry N) DeskTerms). w.root) h.known;
    }

    pub may_leave : (many : ℕ) (xs ys : List (Hired H M Q W V O N E kept))
        → AreHired reactor v p many xs → AllZip (IsBack m observes reactor most until) xs ys
        → All (λ x. MayLeave reactor x) ys
    may_leave many [] [] h b = all_none (λ x. MayLeave reactor x)
    may_leave many [] (y ∷ ys) h b = absurd b
    may_leave many (x ∷ xs) [] h b = absurd b
    may_leave many (x ∷ xs) (y ∷ ys) h b =
        all_front (λ z. MayLeave reactor z) y ys (leave_one many x y h.0 b.0)
        (may_leave (many + 1) xs ys h.1 b.1)

    -- the parts of a pool's run
    pub pool_of : (end root left : WorkerEnd N) (before between after : O) (befores afters : List O)
        (hv : View (Entry N) DeskTerms) (hp : RingView) (xs ys : List (Hired H M Q W V O N E kept))
        → hv ≡ hirer v (length xs) → hp ≡ hirer_posted p (length xs) → observers_of xs ≡ befores
        → afters ≡ observers_of ys → RunsObserved m observes most until
        (record { known = hv; posted = hp; observer = before }) root.ran (loop_end root between)
        → AreHired reactor v p 0 xs → AllZip (IsBack m observes reactor most until) xs ys
        → Dismisses root (ends_of ys) left
        → EndsObserved m observes most until left.ran left between end after
        → PoolObserved m observes most until (length befores) v p
        (record { root = before; hired = befores }) end (record { root = after; hired = afters })
    pool_of end root left before between after befores afters hv hp xs ys known posted hirings kept
        runs hired back dismisses ends =
        let many : length xs ≡ length befores = sym (as_observed xs) ∙ ap length hirings in
        record {
          root = root;
          between = between;
          root_runs = subst (λ (a : Loop N O). RunsObserved m observes most until a root.ran
              (loop_end root between)) (λ i. record {
                known = (known ∙ ap (hirer v) many) i;
                posted = (posted ∙ ap (hirer_posted p) many) i;
                observer = before;
              }) runs;
          hired = ends_of ys;
          all = as_many xs ys back ∙ many;
          each = subst (λ (l : List O). AllObserved m observes most until v p 0 l (ends_of ys)
              afters) hirings (subst (λ (l : List O). AllObserved m observes most until v p 0
              (observers_of xs) (ends_of ys) l) (sym kept) (all_run 0 xs ys hired back));
          left = left;
          dismisses = dismisses;
          ends = ends;
        }

    -- each left with Over, and the root went on alone
    pub over_pool : (end root left : WorkerEnd N) (before between after : O)
        (befores afters : List O) (hv : View (Entry N) DeskTerms) (hp : RingView)
        (xs ys : List (Hired H M Q W V O N E kept)) → hv ≡ hirer v (length xs)
        → hp ≡ hirer_posted p (length xs) → observers_of xs ≡ befores → afters ≡ observers_of ys
        → RunsObserved m observes most until (record {
          known = hv;
          posted = hp;
          observer = before;
        }) root.ran (loop_end root between) → AreHired reactor v p 0 xs
        → AllZip (IsBack m observes reactor most until) xs ys → Dismisses root (ends_of ys) left
        → left.ran ≡ ran.Over
        → RunsObserved m observes most until (loop_end left between) end.ran (loop_end end after)
        → PoolObserved m observes most until (length befores) v p
        (record { root = before; hired = befores }) end (record { root = after; hired = afters })
    over_pool end root left before between after befores afters hv hp xs ys known posted hirings
        kept runs hired back dismisses over last =
        pool_of end root left before between after befores afters hv hp xs ys known posted hirings
        kept runs hired back dismisses
        (observed_over m observes most until v p left.ran left end between after over last)

    -- one of them left with another answer, and the root did not go on
    pub first_pool : (answer : Ran) (root left : WorkerEnd N) (before between : O)
        (befores afters : List O) (hv : View (Entry N) DeskTerms) (hp : RingView)
        (xs ys : List (Hired H M Q W V O N E kept)) → hv ≡ hirer v (length xs)
        → hp ≡ hirer_posted p (length xs) → observers_of xs ≡ befores → afters ≡ observers_of ys
        → RunsObserved m observes most until (record {
          known = hv;
          posted = hp;
          observer = before;
        }) root.ran (loop_end root between) → AreHired reactor v p 0 xs
        → AllZip (IsBack m observes reactor most until) xs ys → Dismisses root (ends_of ys) left
        → (left.ran ≡ ran.Over → ⊥) → left.ran ≡ answer
        → PoolObserved m observes most until (length befores) v p
        (record { root = before; hired = befores })
        (record { ran = answer; known = left.known; posted = left.posted })
        (record { root = between; hired = afters })
    first_pool answer root left before between befores afters hv hp xs ys known posted hirings kept
        runs hired back dismisses other same =
        subst (λ (a : Ran). PoolObserved m observes most until (length befores) v p
        (record { root = before; hired = befores })
        (record { ran = a; known = left.known; posted = left.posted })
        (record { root = between; hired = afters })) same
        (pool_of left root left before between between befores afters hv hp xs ys known posted
        hirings kept runs hired back dismisses
        (observed_first m observes most until v p left.ran left left between between other refl
        refl))

pub cond_one : (b : Bool) → cond b 1 0 ≤ 1
cond_one true = omega arith
cond_one false = omega arith
