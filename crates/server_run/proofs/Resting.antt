-- Where a run ends with nothing to start and nothing open, after a wait that was answered Over.
use Rattle.std.proofs.Common.{ℕ, ◌≡◌, ◌≤◌, Bool, true, false, not, if◌then◌else◌, List, [], ◌∷◌}
use Rattle.std.proofs.Common.{◌++◌, filter, map, refl, sym, ap, ◌∙◌, arith, cond, Option, Some}
use Rattle.std.proofs.Common.{None}
use Rattle.std.specs.Prelude.{option_map}
use Rattle.std.proofs.lemmas.Bool.{and_from, and_parts, true≢false, false≢true}
use Rattle.std.proofs.lemmas.List.{append-nil, append_assoc}
use Rattle.std.proofs.lemmas.List.Folds.{list_all-append}
use Rattle.std.specs.List.{list_all}
use Rattle.ev_base.specs.declared.net.Report.{Report}
use Rattle.tp_reactor.specs.list_lemmas.specs.Times.{times}
use Rattle.tp_reactor.specs.leader_token.specs.declared.kept.View.{View}
use Rattle.log_handler.specs.reactor_journal.specs.declared.entry.Entry.{Entry}
use Rattle.log_handler.specs.reactor_journal.specs.declared.entry.Entry.TheVariants
    as entry
use Rattle.log_handler.specs.reactor_journal.specs.Follow.{Legal, follows_ready}
use Rattle.log_handler.specs.reactor_journal.specs.Past.{past_of, count}
use Rattle.log_handler.specs.reactor_journal.specs.Past.{event_at, is_ended}
use Rattle.log_handler.specs.reactor_journal.specs.Past.{is_open}
use Rattle.log_handler.specs.reactor_journal.proofs.Turning.{past_of-more}
use Rattle.tp_reactor.specs.reactor_summary.specs.Summary.{Summary, ended_after}
use Rattle.tp_reactor.specs.reactor_summary.specs.Summary.{summary}
use Rattle.tp_reactor.specs.reactor_summary.specs.Tells.{Each, as_open}
use Rattle.tp_reactor.specs.reactor_summary.specs.Tells.{open_event}
use Rattle.tp_reactor.specs.reactor_summary.specs.declared.parts.OpenEvent.{OpenEvent}
use Rattle.tp_reactor.specs.reactor_summary.proofs.Told.{told}
use Rattle.tp_reactor.specs.laws_turns.specs.Opens.{opens_of}
use Rattle.tp_reactor.specs.laws_turns.proofs.Opens.{opens_are}
use Rattle.tp_reactor.specs.reactor_core.specs.Calls.{is_taken}
use Rattle.tp_reactor.specs.reactor_core.specs.Marks.{is_polled}
use Rattle.tp_reactor.specs.reactor_core.specs.Polling.{due_of, ready_of}
use Rattle.tp_reactor.specs.reactor_core.specs.Stands.{Meaning}
use Rattle.laws_script_taken.specs.reactor_model.specs.Entries.{is_notice}
use Rattle.tp_reactor.specs.reactor_desk.specs.declared.terms.DeskTerms.{DeskTerms}
use Rattle.tp_reactor.specs.Pool.{EndsWithOver}
use Rattle.laws_script_taken.specs.laws_script_runs.specs.Runs.{HasNoWork}
use Rattle.server_run.specs.Finishing.{NoneOpen}
use Rattle.server_run.proofs.Winding.{sum, sum_more}

-- ---- nothing open

not_open : {N : Type 0} (past : List (Entry N)) (i : ℕ) (b : Bool) (o : OpenEvent) → b ≡ false
    → (if b then option_map (as_open past i) (event_at past i) else None) ≡ Some o → ⊥
not_open past i true o is found = absurd (true≢false is)
not_open past i false o is found = absurd cc

closed_is : (b : Bool) → ◌≡◌ {A = ℕ} (cond b 1 0) 0 → b ≡ false
closed_is true is = absurd (omega (arith, is))
closed_is false is = refl

none_of : {N : Type 0} (past : List (Entry N)) (opens : List OpenEvent)
    → ((i : ℕ) → is_open past i ≡ false)
    → Each (λ (o : OpenEvent). open_event past o.event ≡ Some o) opens → opens ≡ []
none_of past [] closed each = refl
none_of past (o ∷ opens) closed each =
    absurd (not_open past o.event (is_open past o.event) o (closed o.event) each.0)

pub is_closed_at : {N : Type 0} (most : ℕ) (h : List (Entry N)) → Legal h most
    → ((e : ℕ) → times e (opens_of h) ≡ 0) → (i : ℕ) → is_open (past_of h) i ≡ false
is_closed_at most h legal closed i =
    closed_is (is_open (past_of h) i) (sym (opens_are most (past_of h) i legal) ∙ closed i)

pub none_open : {N : Type 0} (most : ℕ) (h : List (Entry N)) → Legal h most
    → ((e : ℕ) → times e (opens_of h) ≡ 0) → NoneOpen h
none_open most h legal closed = none_of (past_of h) (sum h).opens (is_closed_at most h legal closed)
    (told most (past_of h) legal).opens

-- ---- entries that do not end a history

abbrev pub is_quiet : {N : Type 0} → Entry N → Bool
is_quiet e = not (is_ended e)

quiet_one : {N : Type 0} (e : Entry N) (before : Bool) → is_quiet e ≡ true
    → ended_after e before ≡ before
quiet_one entry.Ended before q = absurd (false≢true q)
quiet_one _ before q = refl

pub quiet_more : {N : Type 0} (h more : List (Entry N)) → list_all is_quiet more ≡ true
    → (sum (h ++ more)).ended ≡ (sum h).ended
quiet_more h [] q = ap (λ k. (sum k).ended) (append-nil h)
quiet_more h (e ∷ es) q =
    let parts = and_parts (is_quiet e) (list_all is_quiet es) q in
    ap (λ k. (sum k).ended) (sym (append_assoc h (e ∷ []) es))
    ∙ (quiet_more (h ++ e ∷ []) es parts.1
    ∙ (ap (λ (s : Summary). s.ended) (sum_more h e) ∙ quiet_one e (sum h).ended parts.0))

quiet_notice : {N : Type 0} (e : Entry N) → is_notice e ≡ true → is_quiet e ≡ true
quiet_notice entry.Ended q = absurd (false≢true q)
quiet_notice _ q = refl

quiet_notices : {N : Type 0} (es : List (Entry N)) → list_all is_notice es ≡ true
    → list_all is_quiet es ≡ true
quiet_notices [] q = refl
quiet_notices (e ∷ es) q = let parts = and_parts (is_notice e) (list_all is_notice es) q in
    and_from (is_quiet e) (list_all is_quiet es) (quiet_notice e parts.0) (quiet_notices es parts.1)

-- ---- the entries of a wait

-- they are those of a wait, of timers that come due and of reports
abbrev pub is_waiting : {N : Type 0} → Entry N → Bool
is_waiting e = follows_ready (e ∷ [])

quiet_wait : {N : Type 0} (e : Entry N) → is_waiting e ≡ true → is_quiet e ≡ true
quiet_wait entry.Ended q = absurd (false≢true q)
quiet_wait _ q = refl

quiet_waits : {N : Type 0} (es : List (Entry N)) → list_all is_waiting es ≡ true
    → list_all is_quiet es ≡ true
quiet_waits [] q = refl
quiet_waits (e ∷ es) q = let parts = and_parts (is_waiting e) (list_all is_waiting es) q in
    and_from (is_quiet e) (list_all is_quiet es) (quiet_wait e parts.0) (quiet_waits es parts.1)

all_due : (N : Type 0) (timers : List ℕ) → list_all (is_waiting {N = N}) (map due_of timers) ≡ true
all_due N [] = refl
all_due N (timer ∷ timers) = all_due N timers

all_ready : (N : Type 0) (reports : List Report)
    → list_all (is_waiting {N = N}) (map ready_of reports) ≡ true
all_ready N [] = refl
all_ready N (report ∷ reports) = all_ready N reports

all_waiting : (N : Type 0) (moment : ℕ) (timers : List ℕ) (reports : List Report)
    → list_all (is_waiting {N = N}) (entry.Polled moment
    ∷ (map due_of timers ++ map ready_of reports)) ≡ true
all_waiting N moment timers reports =
    list_all-append is_waiting (map due_of timers) (map ready_of reports)
    ∙ and_from (list_all is_waiting (map due_of timers))
    (list_all is_waiting (map ready_of reports)) (all_due N timers) (all_ready N reports)

follows_one : {N : Type 0} (e : Entry N) (past : List (Entry N)) → is_waiting e ≡ true
    → follows_ready (e ∷ past) ≡ true
follows_one (entry.Polled moment) past q = refl
follows_one (entry.Due timer) past q = refl
follows_one (entry.Ready handle kind) past q = refl
follows_one _ past q = q

follows_more : {N : Type 0} (h : List (Entry N)) (e : Entry N) (es : List (Entry N))
    → list_all is_waiting (e ∷ es) ≡ true → follows_ready (past_of (h ++ e ∷ es)) ≡ true
follows_more h e [] q = ap follows_ready (past_of-more h e)
    ∙ follows_one e (past_of h) (and_parts (is_waiting e) true q).0
follows_more h e (f ∷ fs) q = ap (λ k. follows_ready (past_of k))
    (sym (append_assoc h (e ∷ []) (f ∷ fs)))
    ∙ follows_more (h ++ e ∷ []) f fs (and_parts (is_waiting e) (list_all is_waiting (f ∷ fs)) q).1

polled_one : {N : Type 0} (e : Entry N) (past : List (Entry N))
    → count is_polled past ≤ count is_polled (e ∷ past)
polled_one (entry.Polled moment) past = omega arith
polled_one _ past = omega arith

polled_more : {N : Type 0} (h more : List (Entry N))
    → count is_polled (past_of h) ≤ count is_polled (past_of (h ++ more))
polled_more h [] = omega (arith, ap (λ k. count is_polled (past_of k)) (append-nil h))
polled_more h (e ∷ es) =
    omega (
      arith,
      polled_more (h ++ e ∷ []) es,
      ap (λ k. count is_polled (past_of k)) (append_assoc h (e ∷ []) es),
      ap (count is_polled) (past_of-more h e),
      polled_one e (past_of h),
    )

polled_there : {N : Type 0} (h : List (Entry N)) (moment : ℕ) (more : List (Entry N))
    → 1 ≤ count is_polled (past_of (h ++ entry.Polled moment ∷ more))
polled_there h moment more =
    let one = ap (count is_polled) (past_of-more h (entry.Polled moment)) in
    omega (
      arith,
      polled_more (h ++ entry.Polled moment ∷ []) more,
      ap (λ k. count is_polled (past_of k)) (append_assoc h (entry.Polled moment ∷ []) more),
      one,
    )

-- ---- the end of a pool

-- what the root has seen whose last lead answered Over
pub record IsOverThere {N : Type 0} (list : List (Entry N)) : Type 0 where
  pub waited : 1 ≤ count is_polled (past_of list)
  pub behind : follows_ready (past_of list) ≡ true
  pub running : (sum list).ended ≡ false
  pub idle : HasNoWork (past_of list)

-- what stands after a wait
record IsBehind {N : Type 0} (h list : List (Entry N)) : Type 0 where
  pub waited : 1 ≤ count is_polled (past_of list)
  pub follows : follows_ready (past_of list) ≡ true
  pub ended : (sum list).ended ≡ (sum h).ended

behind_wait : {N : Type 0} (h list es : List (Entry N)) (moment : ℕ) (timers : List ℕ)
    (reports : List Report) → list ≡ h ++ es
    → es ≡ entry.Polled moment ∷ (map due_of timers ++ map ready_of reports) → IsBehind h list
behind_wait {N = N} h list es moment timers reports is are =
    let more : List (Entry N) = map due_of timers ++ map ready_of reports in
    let all : list ≡ h ++ entry.Polled moment ∷ more = is ∙ ap (λ es. h ++ es) are in
    let waits : list_all is_waiting (entry.Polled moment ∷ more) ≡ true =
    all_waiting N moment timers reports in
    record {
      waited = omega (arith, ap (λ k. count is_polled (past_of k)) all, polled_there h moment more);
      follows = ap (λ k. follows_ready (past_of k)) all
          ∙ follows_more h (entry.Polled moment) more waits;
      ended = ap (λ k. (sum k).ended) all
          ∙ quiet_more h (entry.Polled moment ∷ more)
          (quiet_waits (entry.Polled moment ∷ more) waits);
    }

pub over_there : {H M Q W V N E : Type 0} (m : Meaning H M Q W V N E) (most : Option ℕ) (limit : ℕ)
    (v w : View (Entry N) DeskTerms) → Legal w.seen limit → v.root ≡ true → v.children ≡ 0
    → EndsWithOver m most v w → IsOverThere w.seen
over_there {N = N} m most limit v w legal root none d =
    let g = d.leads.gives.1 in
    let h : List (Entry N) = d.leads.history ++ g.notices in
    let x = g.gives.waited in
    let b : IsBehind h w.seen = behind_wait h w.seen g.gives.entries x.waits.moment x.waits.timers
    (filter (is_taken (summary (past_of h))) x.now.reports)
    (ap (λ (x : View (Entry N) DeskTerms). x.seen) d.leads.leaves.view ∙ g.gives.leaves)
    x.waits.are in
    let rests = d.rests root none in
    record {
      waited = b.waited;
      behind = b.follows;
      running = b.ended ∙ (quiet_more d.leads.history g.notices (quiet_notices g.notices g.are)
          ∙ d.leads.gives.0.running);
      idle = record {
        no_pick = rests.none;
        none_open = is_closed_at limit w.seen legal rests.closed;
      };
    }
