-- Which steps are left when a run over a script is over.
use Rattle.std.proofs.Common.{ℕ, suc, ◌≡◌, ◌∙◌, ◌==◌, ◌+◌, ◌≤◌, ◌<◌, ◌⊎◌, inl, inr, Bool, true}
use Rattle.std.proofs.Common.{false, not, cond, ◌||◌, List, [], ◌∷◌, ◌++◌, length, reverse, refl}
use Rattle.std.proofs.Common.{sym, ap, subst, arith, Option, None, ⊎_elim}
use Rattle.std.specs.Prelude.{flat_map}
use Rattle.std.specs.List.{list_any}
use Rattle.std.proofs.lemmas.Bool.{and_parts, and_from, both_ways, cases_Bool, cases_lt, not-true}
use Rattle.std.proofs.lemmas.Bool.{eqb-true, eq-eqb, ltb-true}
use Rattle.std.proofs.lemmas.List.{reverse-append}
use Rattle.laws_script_runs.specs.ev_base.specs.Playing.{is_end, is_at}
use Rattle.laws_script_runs.specs.ev_base.specs.Terms.{Terms, StepEnd, AtListener, AtConnection}
use Rattle.laws_script_runs.specs.ev_base.specs.Terms.{Step, Group}
use Rattle.laws_script_runs.specs.reactor_journal.specs.Event.{Item}
use Rattle.laws_script_runs.specs.reactor_journal.specs.declared.entry.Entry.{Entry}
use Rattle.laws_script_runs.specs.reactor_journal.specs.declared.entry.Entry.TheVariants.{Ended}
use Rattle.laws_script_runs.specs.reactor_journal.specs.Past.{is_alive, is_busy, is_open, opened}
use Rattle.laws_script_runs.specs.reactor_journal.specs.Past.{was_opened, was_closed}
use Rattle.laws_script_runs.specs.reactor_journal.specs.Past.{waits_for_closed, some_wait}
use Rattle.laws_script_runs.specs.reactor_journal.specs.Follow.{may_follow, is_legal}
use Rattle.laws_script_runs.specs.reactor_journal.proofs.Basics.{may_fits}
use Rattle.laws_script_runs.specs.reactor_journal.proofs.OneOpen.{any_below-from}
use Rattle.laws_script_runs.specs.reactor_journal.proofs.Rising.{false_if_not}
use Rattle.laws_script_runs.specs.reactor_journal.proofs.Steps.{busy_event}
use Rattle.laws_script_runs.specs.reactor_model.specs.Handling.{Handling}
use Rattle.laws_script_runs.specs.acceptor.specs.Laws.{number_in}
use Rattle.laws_script_runs.specs.acceptor.specs.Servers.{ServerMay}
use Rattle.laws_script_runs.specs.log_handler.specs.declared.note.ServerNote.{ServerNote}
use Rattle.laws_script_runs.specs.event_script.specs.Script.{ScriptStep, Opens, Brings, Shuts}
use Rattle.laws_script_runs.specs.event_script.specs.Script.{Fails, ListenerFails, ScriptGroup}
use Rattle.laws_script_runs.specs.event_script.specs.Script.{groups_told, steps_of, are_steps}
use Rattle.laws_script_runs.specs.event_script.specs.Script.{may_follow as step_may_follow, goes_on}
use Rattle.laws_script_runs.specs.event_script.specs.Script.{came as step_came, is_done, is_of}
use Rattle.laws_script_runs.specs.event_script.specs.Script as script
use Rattle.laws_script_runs.specs.laws_script_turns.specs.Laws.{steps_on}
use Rattle.laws_script_runs.specs.laws_script_told.specs.Laws.{steps_at, all_steps, is_step_at}
use Rattle.laws_script_runs.specs.laws_script_told.specs.Told.{told}
use Rattle.laws_script_runs.specs.laws_script_told.proofs.Following as following
use Rattle.laws_script_runs.specs.Connections.{accepted}
use Rattle.laws_script_runs.specs.Laws.{RunsOver}
use Rattle.laws_script_runs.proofs.Glue.{conn_steps, told_steps}
use Rattle.laws_script_runs.proofs.Living as living
use Rattle.laws_script_runs.proofs.Numbering.{nothing_owed}
use Rattle.laws_script_runs.proofs.Scripts.{step_parts, opened_reverse}
use Rattle.laws_script_runs.proofs.Standing.{OpenedFor, opened_before, stands_at, stands_first}
use Rattle.laws_script_runs.proofs.Turns as turns
use Rattle.laws_script_runs.proofs.Whole as whole
use Rattle.laws_script_runs.proofs.Winding as winding
use Rattle.laws_script_complete.specs.Complete.{LeavesNoStep}
use Rattle.laws_script_complete.proofs.Offered.{came, Came, no_debt}
use Rattle.laws_script_complete.proofs.Playing.{IsGone, told_le, refused_gone, closed_gone_end}
use Rattle.laws_script_complete.proofs.Taking as taking

-- ---- a script has no step of a connection that does not come

none_of : (c conn : ℕ) (past : List ScriptStep) → goes_on conn past ≡ true → script.opened past ≤ c
    → (conn == c) ≡ false
none_of c conn past g l = false_if_not (conn == c) (λ e.
    let same : conn ≡ c = eqb-true conn c e in
    let below : conn < script.opened past =
    ltb-true conn (script.opened past) (and_parts (step_came conn past) _ g).0 in
    omega (arith, same, below, l))

of_none : (c : ℕ) (step : ScriptStep) (past : List ScriptStep) → step_may_follow past step ≡ true
    → script.opened past ≤ c → is_of c step ≡ false
of_none c (Opens conn) past m l = refl
of_none c ListenerFails past m l = refl
of_none c (Brings conn bytes) past m l = none_of c conn past (and_parts (goes_on conn past) _ m).0 l
of_none c (Shuts conn) past m l = none_of c conn past m l
of_none c (Fails conn) past m l = none_of c conn past m l

fewer : (step : ScriptStep) (past : List ScriptStep) (c : ℕ) → script.opened (step ∷ past) ≤ c
    → script.opened past ≤ c
fewer (Opens conn) past c l = omega (arith, l)
fewer (Brings conn bytes) past c l = l
fewer (Shuts conn) past c l = l
fewer (Fails conn) past c l = l
fewer ListenerFails past c l = l

none_on : (c : ℕ) (past : List ScriptStep) → are_steps past ≡ true → script.opened past ≤ c
    → steps_on c past ≡ 0
none_on c [] h l = refl
none_on c (step ∷ past) h l =
    let parts = step_parts step past h in
    ap (λ (b : Bool). cond b 1 0 + steps_on c past)
    (of_none c step past parts.0 (fewer step past c l))
    ∙ none_more (steps_on c past) (none_on c past parts.1 (fewer step past c l))
  where
    none_more : (n : ℕ) → n ≡ 0 → 0 + n ≡ 0
    none_more n h = omega (arith, h)

on_append : (c : ℕ) (a b : List ScriptStep) → steps_on c (a ++ b) ≡ steps_on c a + steps_on c b
on_append c [] b = omega arith
on_append c (step ∷ a) b = by_test (is_of c step) (on_append c a b)
  where
    by_test : (t : Bool) → steps_on c (a ++ b) ≡ steps_on c a + steps_on c b
        → cond t 1 0 + steps_on c (a ++ b) ≡ cond t 1 0 + steps_on c a + steps_on c b
    by_test true h = omega (arith, h)
    by_test false h = omega (arith, h)

on_reverse : (c : ℕ) (l : List ScriptStep) → steps_on c (reverse l) ≡ steps_on c l
on_reverse c [] = refl
on_reverse c (step ∷ l) =
    let split : steps_on c (reverse (step ∷ l)) ≡ steps_on c (reverse l) + steps_on c (step ∷ []) =
    ap (steps_on c) (reverse-append (step ∷ []) l) ∙ on_append c (reverse l) (step ∷ []) in
    let rest = on_reverse c l in
    by_test (is_of c step) split rest
  where
    by_test : (t : Bool) → steps_on c (reverse (step ∷ l))
        ≡ steps_on c (reverse l) + (cond t 1 0 + 0) → steps_on c (reverse l) ≡ steps_on c l
        → steps_on c (reverse (step ∷ l)) ≡ cond t 1 0 + steps_on c l
    by_test true s h = omega (arith, s, h)
    by_test false s h = omega (arith, s, h)

-- ---- steps of ends that are gone

self : (end : StepEnd) → is_end end end ≡ true
self AtListener = refl
self (AtConnection c) = eq-eqb c c refl

fewer_at : (end : StepEnd) (step : Step) (steps : List Step) → steps_at end (step ∷ steps) ≡ 0
    → steps_at end steps ≡ 0
fewer_at end step steps h = by_test (is_step_at end step) h
  where
    by_test : (b : Bool) → cond b (suc (steps_at end steps)) (steps_at end steps) ≡ 0
        → steps_at end steps ≡ 0
    by_test true h = absurd (omega (arith, h))
    by_test false h = h

none_else : (gone : List StepEnd) (steps : List Step)
    → ((end : StepEnd) → (list_any (λ e. is_end e end) gone ≡ true) ⊎ (steps_at end steps ≡ 0))
    → list_any (λ step. not (is_at gone step)) steps ≡ false
none_else gone [] h = refl
none_else gone (step ∷ steps) h =
    ap (λ (b : Bool). not b || list_any (λ step. not (is_at gone step)) steps) (here (h step.end))
    ∙ none_else gone steps (λ end. ⊎_elim (λ (g : list_any (λ e. is_end e end) gone ≡ true). inl g)
    (λ (z : steps_at end (step ∷ steps) ≡ 0). inr (fewer_at end step steps z)) (h end))
  where
    here : (list_any (λ e. is_end e step.end) gone ≡ true) ⊎ (steps_at step.end (step ∷ steps) ≡ 0)
        → is_at gone step ≡ true
    here (inl g) = g
    here (inr z) = absurd (some (sym (ap
        (λ (b : Bool). cond b (suc (steps_at step.end steps)) (steps_at step.end steps))
        (self step.end)) ∙ z))
      where
        some : suc (steps_at step.end steps) ≡ 0 → ⊥
        some q = omega (arith, q)

-- ---- a handler whose life ended was closed, if none waits for that

shut_if_dead : (past : List (Entry ServerNote)) (x : ℕ) → x < opened past → was_opened past x ≡ true
    → is_alive past x ≡ false → is_busy past x ≡ false → some_wait past ≡ false
    → was_closed past x ≡ true
unfolding some_wait waits_for_closed
shut_if_dead past x below o dead idle none = ⊎_elim (λ (t : was_closed past x ≡ true). t)
    (λ (f : was_closed past x ≡ false).
    absurd (both_ways (some_wait past) none
    (any_below-from (opened past) (waits_for_closed past) x below
    (and_from _ _ o (and_from _ _ (ap not dead) (and_from _ _ (ap not idle) (ap not f)))))))
    (cases_Bool (was_closed past x))

module _ {H E : Type 0} (means : Handling H E ServerNote) (t : Terms) (idle : Option ℕ)
    (groups : List ScriptGroup) (journal : List (Entry ServerNote))
    (r : RunsOver means t idle groups journal) where
  abbrev run : List (Entry ServerNote)
  run = whole.run means t idle groups journal r

  abbrev start : List Group
  start = groups_told groups

  legal : is_legal t.most run ≡ true
  legal = whole.legal_run means t idle groups journal r

  accepted_run : accepted run ≡ script.opened (steps_of groups)
  accepted_run =
      turns.counts t.most (steps_of groups) idle (whole.all means t idle groups journal r)
      (whole.legal means t idle groups journal r) (whole.begun means t idle groups journal r)
      (whole.left means t idle groups journal r)
      (whole.closed means t idle groups journal r)
      (whole.wound means t idle groups journal r ++ Ended ∷ []) run
      (whole.whole_run means t idle groups journal r)
      ∙ ap (λ (h : List (Item ServerNote)). length (flat_map number_in h))
      (sym (whole.had_is means t idle groups journal r 0))
      ∙ sym (turns.counts t.most (steps_of groups) idle (whole.all means t idle groups journal r)
      (whole.legal means t idle groups journal r) (whole.begun means t idle groups journal r)
      (whole.left means t idle groups journal r)
      (whole.closed means t idle groups journal r) [] (whole.all means t idle groups journal r)
      refl)
      ∙ sym (living.accepted_journal means t idle groups journal r)
      ∙ taking.all_accepted means t idle groups journal r

  none_waits : some_wait run ≡ false
  none_waits = not-true (some_wait run)
      (may_fits t.most run Ended (and_parts (may_follow t.most run Ended) (is_legal t.most run)
      (whole.legal_end means t idle groups journal r)).0)

  none_busy : (x : ℕ) → is_busy run x ≡ false
  none_busy x = false_if_not (is_busy run x) (λ b. let o = busy_event run x b in
      both_ways (is_open run o.0) (r.ends.at_over.idle.none_open o.0) o.1)

  quiet : (x : ℕ) (end : StepEnd) → is_alive run x ≡ true
      → Rattle.laws_script_runs.specs.laws_script_told.specs.Laws.StandsOnlyAt x end run
      → steps_at end (told start run).held ≡ 0
  quiet x end alive stands = following.nothing_held groups t.most x end run legal
      (whole.free means t idle groups journal r) alive stands r.ends.at_over.behind
      r.ends.at_over.over

  abbrev Settled : StepEnd → Type 0
  Settled end = IsGone start end run ⊎ (steps_at end (told start run).held ≡ 0)

  of_handler : (c x : ℕ) → OpenedFor run c x → Settled (AtConnection c)
  of_handler c x o = ⊎_elim
      (λ (a : is_alive run x ≡ true). inr
      (quiet x (AtConnection c) a (stands_at run c x t.most legal
      (whole.numbered means t idle groups journal r) o)))
      (λ (d : is_alive run x ≡ false).
      let below = opened_before run c x t.most legal o in
      inl (closed_gone_end start c x t.most run legal o
      (shut_if_dead run x below (winding.below_opened t.most run x legal below) d (none_busy x)
      none_waits)))
      (cases_Bool (is_alive run x))

  of_came : (c : ℕ) → Came run c → Settled (AtConnection c)
  of_came c (inl h) = of_handler c h.0 h.1
  of_came c (inr (inl h)) = inl (refused_gone start (AtConnection c) run h)
  of_came c (inr (inr h)) = absurd (no_debt run (nothing_owed run r.ends.at_over.behind) h.0)

  -- of a connection that does not come there is no step
  of_stranger : (c : ℕ) → script.opened (steps_of groups) ≤ c → Settled (AtConnection c)
  of_stranger c l =
      let few : script.opened (reverse (steps_of groups)) ≡ script.opened (steps_of groups) =
      opened_reverse (steps_of groups) in
      let none : steps_on c (reverse (steps_of groups)) ≡ 0 =
      none_on c (reverse (steps_of groups)) r.script (omega (arith, few, l)) in
      let same = on_reverse c (steps_of groups) in
      let total : steps_at (AtConnection c) (all_steps start) ≡ steps_on c (steps_of groups) =
      ap (steps_at (AtConnection c)) (told_steps groups) ∙ conn_steps c (steps_of groups) in
      let most = told_le start (AtConnection c) run in
      inr (omega (arith, none, same, total, most))

  settled : (end : StepEnd) → Settled end
  settled AtListener = inr (quiet 0 AtListener (living.alive_first means t idle groups journal r)
      (stands_first run t.most legal (whole.numbered means t idle groups journal r)))
  settled (AtConnection c) = ⊎_elim
      (λ (l : c < script.opened (steps_of groups)).
      of_came c (came (ServerMay t) run None (whole.numbered means t idle groups journal r)
      (whole.turned_run means t idle groups journal r) c
      (subst (λ (n : ℕ). c < n) (sym accepted_run) l)))
      (λ (l : script.opened (steps_of groups) ≤ c). of_stranger c l)
      (cases_lt c (script.opened (steps_of groups)))

  pub no_step : LeavesNoStep groups run
  no_step = record {
    no_group = (following.at_end groups t.most 0 AtListener run legal r.ends.at_over.behind
        r.ends.at_over.over).groups;
    no_step = none_else (told start run).gone (told start run).held settled;
  }
