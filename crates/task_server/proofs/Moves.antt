-- Each call keeps the rule of a pool.
use Rattle.std.proofs.Common.{◌≡◌, ◌≢◌, ℕ, zero, suc, ◌+◌, ◌<◌, ◌^◌, List, [], ◌∷◌, ◌++◌}
use Rattle.std.proofs.Common.{length, set, refl, sym, ap, ◌∙◌, subst, arith, append_assoc, ⊎_elim}
use Rattle.std.proofs.Common.{Option, Some, None, MatchOption}
use mathlib.Core.Option.{some, some-injective, some-ne-none}
use lib.ListN.{get_elem?}
use Rattle.crossbeam_queue.specs.Fifo.{Pushes, Pops, Forks, Merges, Learns, Held}
use Rattle.crossbeam_queue.proofs.Lists.{at_set, at_snoc}
use Rattle.list_lemmas.proofs.Sums.{total-append, total-set, total-same}
use Rattle.task_server.specs.declared.rule.Log.{Log}
use Rattle.task_server.specs.declared.rule.Numbered.{Numbered}
use Rattle.task_server.specs.declared.rule.View.{View}
use Rattle.task_server.specs.Calls.{Balances, TakesFirst}
use Rattle.task_server.specs.Logs.{AreParts, IsLogOf, PutsStand, TakesStand, joined, log, no_log}
use Rattle.task_server.specs.Logs.{shared}
use Rattle.task_server.specs.Logs.{weight, weight_from}
use Rattle.task_server.specs.Rule.{InPool, IsSettled, Knows, LeavesRest, first_view, view_of}
use Rattle.task_server.specs.Rule.{with_put}
use Rattle.task_server.specs.Rule.{with_taken}
use Rattle.task_server.proofs.Parts.{from_append, from_items, from_snoc, log_grows, log_longer}
use Rattle.task_server.proofs.Parts.{same_all, same_end, weight_grows, weight_joins, weight_none}
use Rattle.task_server.proofs.Parts.{whole}

-- sums that change at one place, or at two
grows : (t' t g w m : ℕ) → t' + g ≡ t + w → w ≡ g + m → t' ≡ t + m
grows t' t g w m set_there is = omega arith

splits : (t'' t' t g l m : ℕ) → t'' ≡ t' + (m + 0) → t' + g ≡ t + l → l + m ≡ g → t'' ≡ t
splits t'' t' t g l m snoc set_there is = omega arith

meets : (t'' t' t g u b : ℕ) → t'' + u ≡ t' + 0 → t' + g ≡ t + b → b ≡ g + u → t'' ≡ t
meets t'' t' t g u b spent set_there is = omega arith

module _ {T : Type 0} where
  abbrev put_shares : View T → ℕ
  put_shares v = v.puts.shares

  abbrev take_shares : View T → ℕ
  take_shares v = v.takes.shares

  abbrev put_weight : (ℕ → T → ℕ) → View T → ℕ
  put_weight h v = weight h v.puts

  abbrev take_weight : (ℕ → T → ℕ) → View T → ℕ
  take_weight h v = weight h v.takes

  abbrev All : (View T → Type 0) → List (View T) → Type 0
  All F views = (k : ℕ) (v : View T) → get_elem? views k ≡ some v → F v

  all_set : (F : View T → Type 0) (views : List (View T)) (port : ℕ) (w : View T) → F w
      → All F views → All F (set views port w)
  all_set F views port w mine others j u e =
      ⊎_elim (λ (x : (j ≡ port) × (w ≡ u)). subst F x.1 mine)
      (λ (x : (j ≢ port) × (get_elem? views j ≡ some u)). others j u x.1)
      (at_set views port j w u e)

  all_snoc : (F : View T → Type 0) (views : List (View T)) (w : View T) → F w → All F views
      → All F (views ++ w ∷ [])
  all_snoc F views w mine others j u e =
      ⊎_elim (λ x. others j u x) (λ (is : w ≡ u). subst F is mine) (at_snoc views w u j e)

  all_map : (F G : View T → Type 0) → ((v : View T) → F v → G v) → (views : List (View T))
      → All F views → All G views
  all_map F G f views all k v e = f v (all k v e)

  no_log_fits : (all : List T) → IsLogOf all no_log
  no_log_fits all = record { own = tt; joined = tt; none = λ none. (refl, refl) }

  new_log_fits : (all : List T) (n : ℕ) → IsLogOf all (log n [] [])
  new_log_fits all n = record { own = tt; joined = tt; none = λ none. (refl, refl) }

  pub begins : InPool {T = T} [] (first_view ∷ [])
  begins = record {
    all = [];
    taken = [];
    is = refl;
    put_shares = refl;
    take_shares = refl;
    put_once = λ h. refl;
    taken_once = λ h. refl;
    knows = λ k v at. first_knows k v at;
  }
    where
      first_knows : (k : ℕ) (v : View T) → get_elem? (first_view ∷ []) k ≡ some v → Knows [] [] v
      first_knows zero v at = subst (Knows [] []) (some-injective first_view v at)
          (new_log_fits [] (2 ^ 32), new_log_fits [] (2 ^ 32))
      first_knows (suc k) v at = absurd (some-ne-none v (sym at))

  -- ---- a put and a take

  pub puts : (n port : ℕ) (v : View T) (x : T) → 0 < v.puts.shares
      → Pushes InPool n port v x (λ w. (k : ℕ) × (w ≡ with_put k x v))
  puts n port v x some_share items views room r at =
      let k = length r.all in
      let w : View T = with_put k x v in
      let mine = r.knows port v at in (
        w,
        record {
          all = r.all ++ x ∷ [];
          taken = r.taken;
          is = ap (λ (l : List T). l ++ x ∷ []) r.is ∙ append_assoc r.taken items (x ∷ []);
          put_shares = total-same put_shares views port v w at refl ∙ r.put_shares;
          take_shares = total-same take_shares views port v w at refl ∙ r.take_shares;
          put_once = λ h. grows _ _ _ _ _ (total-set (put_weight h) views port v w at)
              (weight_grows h k x v.puts) ∙ ap (λ (n : ℕ). n + h k x) (r.put_once h)
              ∙ sym (from_snoc h r.all x);
          taken_once = λ h.
              total-same (take_weight h) views port v w at refl ∙ r.taken_once h;
          knows = all_set (Knows (r.all ++ x ∷ []) r.taken) views port w
              (log_grows r.all x v.puts some_share mine.0, mine.1)
              (all_map (Knows r.all r.taken) (Knows (r.all ++ x ∷ []) r.taken)
              (λ u p. (log_longer r.all (x ∷ []) u.puts p.0, p.1)) views r.knows);
        },
        (k, refl),
      )

  taken_state : (port : ℕ) (v : View T) → 0 < v.takes.shares → (x : T) (items : List T)
      (views : List (View T)) → (r : InPool (x ∷ items) views) → get_elem? views port ≡ some v
      → InPool items (set views port (with_taken (length r.taken) x v))
  taken_state port v some_share x items views r at =
      let k = length r.taken in
      let w : View T = with_taken k x v in
      let mine = r.knows port v at in record {
        all = r.all;
        taken = r.taken ++ x ∷ [];
        is = r.is ∙ sym (append_assoc r.taken (x ∷ []) items);
        put_shares = total-same put_shares views port v w at refl ∙ r.put_shares;
        take_shares = total-same take_shares views port v w at refl ∙ r.take_shares;
        put_once = λ h. total-same (put_weight h) views port v w at refl ∙ r.put_once h;
        taken_once = λ h. grows _ _ _ _ _ (total-set (take_weight h) views port v w at)
            (weight_grows h k x v.takes) ∙ ap (λ (n : ℕ). n + h k x) (r.taken_once h)
            ∙ sym (from_snoc h r.taken x);
        knows = all_set (Knows r.all (r.taken ++ x ∷ [])) views port w
            (mine.0, log_grows r.taken x v.takes some_share mine.1)
            (all_map (Knows r.all r.taken) (Knows r.all (r.taken ++ x ∷ []))
            (λ u p. (p.0, log_longer r.taken (x ∷ []) u.takes p.1)) views r.knows);
      }

  pub takes : (port : ℕ) (v : View T) → 0 < v.takes.shares
      → Pops InPool port v (λ x w. (k : ℕ) × (w ≡ with_taken k x v))
  takes port v some_share x items views r at = (
    with_taken (length r.taken) x v,
    taken_state port v some_share x items views r at,
    (length r.taken, refl),
  )

  -- who has all shares of the puts put the whole list
  put_all : (port : ℕ) (v : View T) (items : List T) (views : List (View T))
      → (r : InPool items views) → get_elem? views port ≡ some v → v.puts.shares ≡ 2 ^ 32
      → (h : ℕ → T → ℕ) → weight h v.puts ≡ weight_from h 0 r.all
  put_all port v items views r at shares h = sym (whole put_shares (put_weight h) views port v
      (λ k u e none. weight_none h u.puts ((r.knows k u e).0.none none))
      (r.put_shares ∙ sym shares) at) ∙ r.put_once h

  pub puts_learn : (port : ℕ) (v : View T) → Learns InPool port v (PutsStand v.puts)
  puts_learn port v items views r at = record {
    taken = r.taken;
    stand = subst (λ (l : List T). IsLogOf l v.puts) r.is (r.knows port v at).0;
    whole = λ shares h. put_all port v items views r at shares h
        ∙ ap (λ (l : List T). weight_from h 0 l) r.is;
  }

  pub takes_learn : (port : ℕ) (v : View T)
      → Learns InPool port v (λ items. TakesStand v.takes items)
  takes_learn port v items views r at = (r.taken, (r.knows port v at).1)

  -- ---- splits and joins

  -- a pass's view is cut in two, which together have its shares and its logs
  forks : (port : ℕ) (v left right : View T) (items : List T) (views : List (View T))
      → (r : InPool items views) → get_elem? views port ≡ some v
      → left.puts.shares + right.puts.shares ≡ v.puts.shares
      → left.takes.shares + right.takes.shares ≡ v.takes.shares
      → ((h : ℕ → T → ℕ) → weight h left.puts + weight h right.puts ≡ weight h v.puts)
      → ((h : ℕ → T → ℕ) → weight h left.takes + weight h right.takes ≡ weight h v.takes)
      → Knows r.all r.taken left → Knows r.all r.taken right
      → InPool items (set views port left ++ right ∷ [])
  forks port v left right items views r at ps ts pw tw l k = record {
    all = r.all;
    taken = r.taken;
    is = r.is;
    put_shares = splits _ _ _ _ _ _ (total-append put_shares (set views port left) (right ∷ []))
        (total-set put_shares views port v left at) ps ∙ r.put_shares;
    take_shares = splits _ _ _ _ _ _ (total-append take_shares (set views port left) (right ∷ []))
        (total-set take_shares views port v left at) ts ∙ r.take_shares;
    put_once = λ h. splits _ _ _ _ _ _
        (total-append (put_weight h) (set views port left) (right ∷ []))
        (total-set (put_weight h) views port v left at) (pw h) ∙ r.put_once h;
    taken_once = λ h. splits _ _ _ _ _ _
        (total-append (take_weight h) (set views port left) (right ∷ []))
        (total-set (take_weight h) views port v left at) (tw h) ∙ r.taken_once h;
    knows = all_snoc (Knows r.all r.taken) (set views port left) right k
        (all_set (Knows r.all r.taken) views port left l r.knows);
  }

  -- two views are put together, and the other is spent
  merges : (port : ℕ) (v : View T) (other : ℕ) (u both : View T) (items : List T)
      (views : List (View T)) → (r : InPool items views) → get_elem? views port ≡ some v
      → ¬ (other ≡ port) → get_elem? (set views port both) other ≡ some u
      → both.puts.shares ≡ v.puts.shares + u.puts.shares
      → both.takes.shares ≡ v.takes.shares + u.takes.shares
      → ((h : ℕ → T → ℕ) → weight h both.puts ≡ weight h v.puts + weight h u.puts)
      → ((h : ℕ → T → ℕ) → weight h both.takes ≡ weight h v.takes + weight h u.takes)
      → (Knows r.all r.taken v → Knows r.all r.taken u → Knows r.all r.taken both)
      → InPool items (set (set views port both) other (view_of no_log no_log))
  merges port v other u both items views r at apart at' ps ts pw tw k =
      let vs : List (View T) = set views port both in
      let spent : View T = view_of no_log no_log in
      let was : get_elem? views other ≡ some u =
      ⊎_elim (λ x. absurd (apart x.0)) (λ x. x.1) (at_set views port other both u at') in
      record {
        all = r.all;
        taken = r.taken;
        is = r.is;
        put_shares = meets _ _ _ _ _ _ (total-set put_shares vs other u spent at')
            (total-set put_shares views port v both at) ps ∙ r.put_shares;
        take_shares = meets _ _ _ _ _ _ (total-set take_shares vs other u spent at')
            (total-set take_shares views port v both at) ts ∙ r.take_shares;
        put_once = λ h. meets _ _ _ _ _ _ (total-set (put_weight h) vs other u spent at')
            (total-set (put_weight h) views port v both at) (pw h) ∙ r.put_once h;
        taken_once = λ h. meets _ _ _ _ _ _ (total-set (take_weight h) vs other u spent at')
            (total-set (take_weight h) views port v both at) (tw h) ∙ r.taken_once h;
        knows = all_set (Knows r.all r.taken) vs other spent
            (no_log_fits r.all, no_log_fits r.taken)
            (all_set (Knows r.all r.taken) views port both
            (k (r.knows port v at) (r.knows other u was)) r.knows);
      }

  -- the first view is parted into a putter's and a taker's
  pub sides_part : (port : ℕ) (v : View T)
      → Forks InPool port v (view_of v.puts no_log) (view_of no_log v.takes)
  sides_part port v items views r at = let mine = r.knows port v at in
      forks port v (view_of v.puts no_log) (view_of no_log v.takes) items views r at
      (omega arith) (omega arith) (λ h. omega arith) (λ h. omega arith)
      (mine.0, no_log_fits r.taken) (no_log_fits r.all, mine.1)

  shared_weight : (h : ℕ → T → ℕ) (l : Log T)
      → weight h (shared l) + weight h (log 1 [] []) ≡ weight h l
  shared_weight h l = omega arith

  shared_fits : (all : List T) (l : Log T) → 1 < l.shares → IsLogOf all l → IsLogOf all (shared l)
  shared_fits all l some_share p =
      record { own = p.own; joined = p.joined; none = λ none. absurd (omega arith) }

  pub putter_splits : (port : ℕ) (v : View T) → 1 < v.puts.shares
      → Forks InPool port v (view_of (shared v.puts) v.takes) (view_of (log 1 [] []) no_log)
  putter_splits port v some_share items views r at = let mine = r.knows port v at in
      forks port v (view_of (shared v.puts) v.takes) (view_of (log 1 [] []) no_log) items views r at
      (omega arith) (omega arith) (λ h. shared_weight h v.puts) (λ h. omega arith)
      (shared_fits r.all v.puts some_share mine.0, mine.1)
      (new_log_fits r.all 1, no_log_fits r.taken)

  pub taker_splits : (port : ℕ) (v : View T) → 1 < v.takes.shares
      → Forks InPool port v (view_of v.puts (shared v.takes)) (view_of no_log (log 1 [] []))
  taker_splits port v some_share items views r at = let mine = r.knows port v at in
      forks port v (view_of v.puts (shared v.takes)) (view_of no_log (log 1 [] [])) items views r at
      (omega arith) (omega arith) (λ h. omega arith) (λ h. shared_weight h v.takes)
      (mine.0, shared_fits r.taken v.takes some_share mine.1)
      (no_log_fits r.all, new_log_fits r.taken 1)

  joined_fits : (all : List T) (l m : Log T) → 0 < l.shares → IsLogOf all l → IsLogOf all m
      → IsLogOf all (joined l m)
  joined_fits all l m some_share p q = record {
    own = p.own;
    joined = parts_joined l.joined p.joined;
    none = λ none. absurd (omega arith);
  }
    where
      parts_joined : (ess : List (List (Numbered T))) → AreParts all ess
          → AreParts all (ess ++ m.own ∷ m.joined)
      parts_joined [] here = (q.own, q.joined)
      parts_joined (es ∷ ess) here = (here.0, parts_joined ess here.1)

  pub putter_joins : (port : ℕ) (v : View T) (other : ℕ) (u : View T) → 0 < v.puts.shares
      → u.takes ≡ no_log
      → Merges InPool port v other u (view_of (joined v.puts u.puts) v.takes)
      (view_of no_log no_log)
  putter_joins port v other u some_share none items views r at apart at' =
      merges port v other u (view_of (joined v.puts u.puts) v.takes) items views r at apart at' refl
      (omega (arith, ap (λ (l : Log T). l.shares) none)) (λ h. weight_joins h v.puts u.puts)
      (λ h. omega (arith, ap (weight h) none))
      (λ p q. (joined_fits r.all v.puts u.puts some_share p.0 q.0, p.1))

  pub taker_joins : (port : ℕ) (v : View T) (other : ℕ) (u : View T) → 0 < v.takes.shares
      → u.puts ≡ no_log
      → Merges InPool port v other u (view_of v.puts (joined v.takes u.takes))
      (view_of no_log no_log)
  taker_joins port v other u some_share none items views r at apart at' =
      merges port v other u (view_of v.puts (joined v.takes u.takes)) items views r at apart at'
      (omega (arith, ap (λ (l : Log T). l.shares) none)) refl
      (λ h. omega (arith, ap (weight h) none)) (λ h. weight_joins h v.takes u.takes)
      (λ p q. (p.0, joined_fits r.taken v.takes u.takes some_share p.1 q.1))

  pub sides_meet : (port : ℕ) (v : View T) (other : ℕ) (u : View T) → v.takes ≡ no_log
      → u.puts ≡ no_log
      → Merges InPool port v other u (view_of v.puts u.takes) (view_of no_log no_log)
  sides_meet port v other u none none' items views r at apart at' =
      merges port v other u (view_of v.puts u.takes) items views r at apart at'
      (omega (arith, ap (λ (l : Log T). l.shares) none'))
      (omega (arith, ap (λ (l : Log T). l.shares) none))
      (λ h. omega (arith, ap (weight h) none')) (λ h. omega (arith, ap (weight h) none))
      (λ p q. (p.0, q.1))

  -- ---- the end

  settle : (port : ℕ) (v : View T) (items : List T) (views : List (View T))
      → InPool items views → get_elem? views port ≡ some v → v.puts.shares ≡ 2 ^ 32
      → v.takes.shares ≡ 2 ^ 32 → IsSettled v.puts v.takes items
  settle port v items views r at ps ts = record {
    all = r.all;
    taken = r.taken;
    is = r.is;
    put_once = put_all port v items views r at ps;
    taken_once = λ h. sym (whole take_shares (take_weight h) views port v
        (λ k u e none. weight_none h u.takes ((r.knows k u e).1.none none))
        (r.take_shares ∙ sym ts) at) ∙ r.taken_once h;
    puts_stand = (r.knows port v at).0;
    takes_stand = (r.knows port v at).1;
  }

  -- who has all shares learns what is left
  pub settles : (port : ℕ) (v : View T) → v.puts.shares ≡ 2 ^ 32 → v.takes.shares ≡ 2 ^ 32
      → Learns InPool port v (λ items. IsSettled v.puts v.takes items)
  settles port v ps ts items views r at = settle port v items views r at ps ts

  -- what is left is one list
  pub same_left : (puts takes : Log T) (items other : List T) → IsSettled puts takes items
      → IsSettled puts takes other → items ≡ other
  same_left puts takes items other s r =
      let all : s.all ≡ r.all =
      same_all puts s.all r.all s.puts_stand r.puts_stand s.put_once r.put_once in
      let taken : s.taken ≡ r.taken =
      same_all takes s.taken r.taken s.takes_stand r.takes_stand s.taken_once r.taken_once in
      same_end s.taken items other
      (sym s.is ∙ all ∙ r.is ∙ ap (λ (l : List T). l ++ other) (sym taken))

  pub takes_whole : (port : ℕ) (v : View T) → v.puts.shares ≡ 2 ^ 32 → v.takes.shares ≡ 2 ^ 32
      → Pops InPool port v (LeavesRest v)
  takes_whole port v ps ts x items views r at =
      let n = length r.taken in
      let w : View T = with_taken n x v in
      let left : InPool items (set views port w) =
      taken_state port v (omega (arith, ts)) x items views r at in
      let before : IsSettled v.puts v.takes (x ∷ items) =
      settle port v (x ∷ items) views r at ps ts in
      let now : IsSettled w.puts w.takes items =
      settle port w items (set views port w) left (set_at views port w v at) ps ts in (
        w,
        left,
        (
          n,
          refl,
          λ list s. (items, same_left v.puts v.takes list (x ∷ items) s before, now),
        ),
      )
    where
      set_at : (l : List (View T)) (j : ℕ) (w u : View T) → get_elem? l j ≡ some u
          → get_elem? (set l j w) j ≡ some w
      set_at [] j w u e = absurd (some-ne-none u (sym e))
      set_at (y ∷ ys) zero w u e = refl
      set_at (y ∷ ys) (suc j) w u e = set_at ys j w u e

  pub takes_none : (v : View T) (items : List T) → length items ≡ 0
      → IsSettled v.puts v.takes items → (list : List T) → IsSettled v.puts v.takes list
      → (list ≡ []) × IsSettled v.puts v.takes []
  takes_none v [] none s list r = (same_left v.puts v.takes list [] r s, s)
  takes_none v (x ∷ xs) none s list r = absurd (omega arith)

  pub balances : (puts takes : Log T) (items : List T) → IsSettled puts takes items
      → Balances puts takes items
  balances puts takes items s h = omega (
    arith,
    s.put_once (λ n x. h x),
    s.taken_once (λ n x. h x),
    ap (weight_from (λ n x. h x) 0) s.is,
    from_append (λ n x. h x) 0 s.taken items,
    from_items h (0 + length s.taken) items,
  )

  -- what comes of a try to take the first of what is left
  pub takes_first : (v w : View T) (result : Option T)
      → MatchOption result ((w ≡ v) × Held 0 (λ items. IsSettled v.puts v.takes items))
      (λ x. LeavesRest v x w) → (items : List T) → IsSettled v.puts v.takes items
      → TakesFirst items result (λ rest. IsSettled w.puts w.takes rest)
  takes_first v w None (same, held) items s =
      let none = takes_none v held.0 held.1 held.2 items s in
      (none.0, subst (λ (u : View T). IsSettled u.puts u.takes []) (sym same) none.1)
  takes_first v w (Some x) leaves items s = leaves.2 items s

  pub balances_by : (v : View T) (puts takes : Log T) (items : List T) → v ≡ view_of puts takes
      → IsSettled v.puts v.takes items → Balances puts takes items
  balances_by v puts takes items same s =
      balances puts takes items (subst (λ (u : View T). IsSettled u.puts u.takes items) same s)
