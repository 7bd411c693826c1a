-- What the registration of a handler leaves.
use Rattle.std.proofs.Common.{ℕ, suc, ◌≡◌, ◌≤◌, ◌<◌, ◌+◌, ◌==◌, Bool, true, false, not, ◌&&◌, ◌||◌}
use Rattle.std.proofs.Common.{List, [], ◌∷◌, ◌++◌, length, refl, sym, ap, ◌∙◌, subst, arith, cond}
use Rattle.std.proofs.Common.{Option, None}
use Rattle.std.proofs.lemmas.Bool.{and_from, or_from, or_left, or_right, both_ways, eq-eqb, lt-ltb}
use Rattle.std.proofs.lemmas.List.Folds.{list_any-append}
use Rattle.std.specs.List.{list_any, Contains}
use Rattle.std.specs.Prelude.{nat_lt}
use Rattle.reactor_summary.specs.ev_types.specs.declared.upcall.Handle.{Handle}
use Rattle.reactor_summary.specs.ev_types.specs.declared.upcall.Mask.{Mask}
use Rattle.ev_base.specs.Terms.{Terms}
use Rattle.ev_base.specs.Net.{AttachesEnd, FailsToAttach}
use Rattle.reactor_model.specs.reactor_journal.specs.declared.entry.Entry.{Entry}
use Rattle.reactor_model.specs.reactor_journal.specs.declared.entry.Entry.TheVariants.{Opened}
use Rattle.reactor_model.specs.reactor_journal.specs.declared.entry.Entry.TheVariants.{Scheduled}
use Rattle.reactor_model.specs.reactor_journal.specs.Past as P
use Rattle.reactor_model.specs.reactor_journal.specs.Past.{past_of, offered_here}
use Rattle.reactor_model.specs.reactor_journal.specs.Follow.{is_legal, may_follow, most_handles}
use Rattle.reactor_model.specs.reactor_journal.specs.Follow.{follows_due, follows_ready}
use Rattle.reactor_summary.specs.declared.parts.LiveHandle.{LiveHandle}
use Rattle.reactor_summary.specs.Summary.{Summary, summary, step, is_alive, is_busy}
use Rattle.reactor_summary.specs.Rules.{live}
use Rattle.reactor_summary.proofs.Told.{told}
use Rattle.reactor_model.specs.Handling.{Handling, Names}
use Rattle.handler_repo.specs.Seats as R
use Rattle.handler_repo.specs.declared.seat.Seat.TheVariants.{Home}
use Rattle.reactor_state.specs.State.{HasNumber}
use Rattle.reactor_core.specs.Handlers.{is_live, RepositoryStands}
use Rattle.reactor_core.specs.Ends.{live_numbers}
use Rattle.reactor_model.specs.Entries.{is_fault}
use Rattle.reactor_core.specs.Stands.{Meaning, Tracks, NetStands, VolumesStand, IsSettled}
use Rattle.reactor_core.specs.Registering.{HasPlaceFor, IsOffered}
use Rattle.reactor_core.specs.Offering.{ComesBack}
use Rattle.reactor_core.specs.declared.reactor.Core.{Core}
use Rattle.reactor_core.proofs.Dispatch.{seats_opened, fresh_is_dead}
use Rattle.reactor_core.proofs.Seats.{seats_quiet}
use Rattle.reactor_core.proofs.Moves.{absent}
use Rattle.reactor_core.proofs.Ends.{net_opened, net_quiet, net_failed}
use Rattle.reactor_core.proofs.Steps.{may_by, Appends, tracks_by}
use Rattle.reactor_core.proofs.Start.{later_deadline}
use Rattle.reactor_core.proofs.Closed.{attached_live}
use Rattle.reactor_core.proofs.WaitNumbers.{marks_kept}

or_none : (b : Bool) → (b || false) ≡ b
or_none true = refl
or_none false = refl

pub count_le : {A : Type 0} (p : A → Bool) (xs : List A) → P.count p xs ≤ length xs
count_le p [] = omega arith
count_le {A} p (x ∷ xs) = by_test (p x) (count_le p xs)
  where
    by_test : (b : Bool) → P.count p xs ≤ length xs
        → cond b (suc (P.count p xs)) (P.count p xs) ≤ suc (length xs)
    by_test true r = omega (arith, r)
    by_test false r = omega (arith, r)

-- ---- the `Opened`

pub record Opens {H M Q W V N E : Type 0} (m : Meaning H M Q W V N E) (old new : Core H M Q W V N E)
    (handle : Handle) (mask : Mask) (offered handler : H) (serial : Option ℕ) : Type 0 where
  pub appends : Appends m old new (Opened handle mask)
  pub repo : new.repo.entries ≡ R.with_entry (record { handle = handle.0; seat = Home handler })
      old.repo.entries
  pub state : (s : Summary) → m.shows old.state s → HasNumber s × (s.opened < 4294967295)
      → m.shows new.state (step {N = N} s (Opened handle mask))
  pub number : (s : Summary) → m.shows old.state s → handle.0 ≡ s.opened
  pub net : AttachesEnd (m.facts old.net) handle.0 mask serial (m.facts new.net)
  pub names : (t : Terms) (past : List (Entry N)) → IsOffered m.means t past offered
      → Names (m.means.serial t (offered_here past)) serial
  pub fits : (t : Terms) (past : List (Entry N)) → m.keeps t old.net
      → IsOffered m.means t past offered → IsOffered m.means t past handler
  pub keeps : (t : Terms) (past : List (Entry N)) → m.keeps t old.net
      → IsOffered m.means t past offered → m.keeps t new.net

pub may_open : {N : Type 0} (most : ℕ) (h : List (Entry N)) (handle : Handle) (mask : Mask)
    → is_legal most (past_of h) ≡ true → handle.0 ≡ (summary (past_of h)).opened
    → HasPlaceFor most (summary (past_of h))
    → may_follow most (past_of h) (Opened handle mask) ≡ true
may_open most h handle mask legal is p =
    let s : Summary = summary (past_of h) in
    may_by most h (Opened handle mask) (follows_due (past_of h)) (follows_ready (past_of h)) legal
    refl refl
    (and_from (false || not s.ended) _ (ap not p.running)
    (and_from (handle.0 == s.opened) _ (eq-eqb handle.0 s.opened is)
    (and_from (nat_lt (live s) most) (nat_lt s.opened most_handles)
    (lt-ltb (live s) most p.live) (lt-ltb s.opened most_handles p.opened))))

pub opened_on : {H M Q W V N E : Type 0} (m : Meaning H M Q W V N E) (t : Terms)
    (old new : Core H M Q W V N E) (F : ℕ) (h : List (Entry N)) (handle : Handle) (mask : Mask)
    (offered handler : H) (serial : Option ℕ)
    → Opens m old new handle mask offered handler serial → HasPlaceFor t.most (summary (past_of h))
    → HasNumber (summary (past_of h)) → IsOffered m.means t (past_of h) offered
    → Tracks m t old F h None []
    → Tracks m t new F (h ++ Opened handle mask ∷ []) None []
opened_on {N = N} m t old new F h handle mask offered handler serial d p number fits k =
    let past : List (Entry N) = past_of h in
    let e : Entry N = Opened handle mask in
    let is : handle.0 ≡ (summary past).opened = d.number (summary past) k.state in
    let next : P.opened past ≡ handle.0 = sym (told t.most past k.legal).opened ∙ sym is in
    tracks_by m t old new F h e None None [] [] k d.appends
    (may_open t.most h handle mask k.legal is p)
    (d.state (summary past) k.state (number, p.opened))
    (subst (λ entries. RepositoryStands m.means t (e ∷ past) None entries) (sym d.repo)
    (seats_opened m.means t t.most past handle mask handler None old.repo.entries k.legal next
    (d.fits t past k.keeps fits) k.repository))
    (net_opened m.means t past handle mask serial (m.facts old.net) (m.facts new.net) d.net
    (d.names t past fits) k.net)
    (d.keeps t past k.keeps fits)

-- a new handle is not attached
pub not_attached : {N : Type 0} (most : ℕ) (past : List (Entry N)) (x : ℕ)
    → is_legal most past ≡ true → (summary past).opened ≡ x
    → Contains (live_numbers (summary past)) x → ⊥
not_attached most past x legal is c =
    let dead : is_live (summary past) x ≡ false =
    (fresh_is_dead most past x legal (sym (told most past legal).opened ∙ is)).0 in
    both_ways _ dead (attached_live (summary past) x c)

-- the new handle is alive and does not wait
pub settled_opened : (N : Type 0) (s : Summary) (handle : Handle) (mask : Mask) → s.ended ≡ false
    → IsSettled s → IsSettled (step {N = N} s (Opened handle mask))
settled_opened N s handle mask running o = record {
  none_waits = list_any-append (λ (h : LiveHandle). not h.alive && not (is_busy s h.handle.0))
      s.handles (record { handle = handle; mask = mask; suspended = false; alive = true } ∷ [])
      ∙ or_from _ _ o.none_waits refl;
  none_due = o.none_due;
  none_alive = λ e. absurd (both_ways s.ended running e);
}

pub opened_alive : (N : Type 0) (s : Summary) (handle : Handle) (mask : Mask)
    → is_alive (step {N = N} s (Opened handle mask)) handle.0 ≡ true
opened_alive N s handle mask =
    list_any-append (λ (h : LiveHandle). h.handle.0 == handle.0 && h.alive) s.handles
    (record { handle = handle; mask = mask; suspended = false; alive = true } ∷ [])
    ∙ or_right (list_any (λ (h : LiveHandle). h.handle.0 == handle.0 && h.alive) s.handles) _
    (or_left (handle.0 == handle.0 && true) false
    (and_from (handle.0 == handle.0) true (eq-eqb handle.0 handle.0 refl) refl))

-- ---- the `Scheduled`

pub record Arms {H M Q W V N E : Type 0} (m : Meaning H M Q W V N E) (old new : Core H M Q W V N E)
    (handle : Handle) (timer delay every : ℕ) : Type 0 where
  pub first : ℕ
  pub appends : Appends m old new (Scheduled timer handle first every)
  pub deadline : (s : Summary) → m.shows old.state s → first ≡ s.moment + delay
  pub number : (s : Summary) → m.shows old.state s → timer ≡ s.scheduled
  pub state : (s : Summary) → m.shows old.state s → HasNumber s
      → m.shows new.state (step {N = N} s (Scheduled timer handle first every))
  pub repo : new.repo ≡ old.repo
  pub net : new.net ≡ old.net

pub armed_on : {H M Q W V N E : Type 0} (m : Meaning H M Q W V N E) (t : Terms)
    (old new : Core H M Q W V N E) (F : ℕ) (h : List (Entry N)) (handle : Handle)
    (timer delay every : ℕ)
    → Arms m old new handle timer delay every → 1 ≤ delay
    → is_alive (summary (past_of h)) handle.0 ≡ true → (summary (past_of h)).ended ≡ false
    → HasNumber (summary (past_of h)) → Tracks m t old F h None []
    → Tracks m t new F (h ++ Scheduled (summary (past_of h)).scheduled handle
    ((summary (past_of h)).moment + delay) every ∷ []) None []
armed_on {N = N} m t old new F h handle timer delay every d some alive running number k =
    let past : List (Entry N) = past_of h in
    let s : Summary = summary past in
    let e : Entry N = Scheduled timer handle d.first every in
    let later : s.moment < d.first = omega (arith, some, d.deadline s k.state) in
    subst (λ (n : ℕ). Tracks m t new F (h ++ Scheduled n handle (s.moment + delay) every ∷ []) None
    []) (d.number s k.state)
    (subst (λ (n : ℕ). Tracks m t new F (h ++ Scheduled timer handle n every ∷ []) None [])
    (d.deadline s k.state)
    (tracks_by m t old new F h e None None [] [] k d.appends
    (may_by t.most h e (follows_due past) (follows_ready past) k.legal refl refl
    (and_from (false || not s.ended) _ (ap not running)
    (and_from (timer == s.scheduled) _ (eq-eqb timer s.scheduled (d.number s k.state))
    (and_from (is_alive s handle.0) _ alive (lt-ltb s.moment d.first later)))))
    (d.state s k.state number)
    (subst (λ repo. RepositoryStands m.means t (e ∷ past) None repo.entries) (sym d.repo)
    (seats_quiet m.means t e past None old.repo.entries refl k.repository))
    (subst (λ net. NetStands m.means t (e ∷ past) [] (m.facts net)) (sym d.net)
    (net_quiet m.means t e past [] (m.facts old.net) refl k.net))
    (subst (λ net. m.keeps t net) (sym d.net) k.keeps)))

pub settled_scheduled : (N : Type 0) (s : Summary) (timer first every : ℕ) (handle : Handle)
    → s.moment < first → IsSettled s → IsSettled
    (step {N = N} s (Scheduled timer handle first every))
settled_scheduled N s timer first every handle later o = record {
  none_waits = o.none_waits;
  none_due = later_deadline s.moment
      (record { deadline = first; timer = timer; handle = handle; every = every }) s.armed later
      o.none_due;
  none_alive = o.none_alive;
}

-- the end was not taken
pub comes_back : {H M Q W V N E : Type 0} (m : Meaning H M Q W V N E) (t : Terms)
    (old new : Core H M Q W V N E) (F : ℕ) (h : List (Entry N)) (handler : H)
    → FailsToAttach (m.facts old.net) (m.facts new.net)
    → new.most ≡ old.most → new.first ≡ old.first → new.journal ≡ old.journal
    → new.state ≡ old.state → new.repo ≡ old.repo → new.watch ≡ old.watch
    → new.volumes ≡ old.volumes → new.marks ≡ old.marks
    → m.keeps t new.net → IsOffered m.means t (past_of h) handler → HasNumber (summary (past_of h))
    → Tracks m t old F h None [] → ComesBack m t F h handler old new
comes_back m t old new F h handler f most first journal state repo watch volumes marks keeps offered
    number k = record {
      tracks = record {
        most = most ∙ k.most;
        few = subst (λ (n : ℕ). n ≤ 4097) (sym most) k.few;
        legal = k.legal;
        journal = record {
          first = first ∙ k.journal.first;
          within = k.journal.within;
          entries = ap (λ j. j.entries) journal ∙ k.journal.entries;
        };
        state = subst (λ st. m.shows st (summary (past_of h))) (sym state) k.state;
        repository = subst (λ r. RepositoryStands m.means t (past_of h) None r.entries) (sym repo)
            k.repository;
        net = net_failed m.means t (past_of h) [] (m.facts old.net) (m.facts new.net)
            (let entries : (summary (past_of h)).entries ≡ length (past_of h) =
            (told t.most (past_of h) k.legal).entries in
            let few : P.count is_fault (past_of h) ≤ length (past_of h) =
            count_le is_fault (past_of h) in let n = k.net.faults in let rose = f.rose in
            omega (arith, entries, few, n, number, rose)) f.same k.net;
        keeps = keeps;
        watch = subst (λ w. m.watched t w h) (sym watch) k.watch;
        volumes = subst (λ v. VolumesStand t F h (m.volumes v)) (sym volumes) k.volumes;
        marks = marks_kept (past_of h) old.marks new.marks (m.facts old.net).calls
            (m.facts new.net).calls marks f.same.calls k.marks;
      };
      offered = offered;
      fails = f;
      journal = journal;
      state = state;
      repo = repo;
    }

pub handle_same : (a b : Handle) → a.0 ≡ b.0 → a ≡ b
handle_same a b q = ap (λ (n : ℕ). handle_of n) q
  where
    handle_of : ℕ → Handle
    handle_of n = record { 0 = n }

pub no_seat_yet : {H E N : Type 0} (means : Handling H E N) (t : Terms) (most : ℕ)
    (past : List (Entry N)) (x : ℕ) (entries : List (R.Entry H)) → is_legal most past ≡ true
    → (summary past).opened ≡ x → RepositoryStands means t past None entries
    → R.seat_of x entries ≡ None
no_seat_yet means t most past x entries legal is st =
    (absent means t false past x (R.seat_of x entries)
    (fresh_is_dead most past x legal (sym (told most past legal).opened ∙ is)).0 (st x)).1
