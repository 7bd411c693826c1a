-- The run of one worker, its end and its winding up, whatever its last lead gave.
use Rattle.std.proofs.Common.{ℕ, zero, suc, ◌≡◌, ◌∙◌, ◌≤◌, ⊎_elim, Bool, true, false, List, [], ◌∷◌}
use Rattle.std.proofs.Common.{◌++◌, length, reverse, Option, None, refl, sym, subst, ap}
use Rattle.std.proofs.Common.{append_assoc}
use Rattle.std.specs.List.{list_any}
use Rattle.std.proofs.lemmas.Bool.{false≢true, both_ways, cases_Bool}
use Rattle.std.proofs.lemmas.List.{reverse-append, reverse-reverse, length-reverse}
use Rattle.laws_script_calls.specs.ev_base.specs.Terms.{Terms}
use Rattle.tp_reactor.specs.leader_token.specs.Lists.{Begins}
use Rattle.laws_script_calls.specs.reactor_journal.specs.declared.entry.Entry.{Entry}
use Rattle.laws_script_calls.specs.reactor_journal.specs.declared.entry.Entry.TheVariants.{Opened}
use Rattle.laws_script_calls.specs.reactor_journal.specs.declared.entry.Entry.TheVariants.{Started}
use Rattle.laws_script_calls.specs.reactor_journal.specs.declared.entry.Entry.TheVariants.{Ended}
use Rattle.laws_script_calls.specs.reactor_journal.specs.Past as P
use Rattle.laws_script_calls.specs.reactor_journal.specs.Past.{past_of, ended, is_open, opened}
use Rattle.laws_script_calls.specs.reactor_journal.specs.Past.{was_opened, was_closed, all_below}
use Rattle.laws_script_calls.specs.reactor_journal.specs.Follow.{is_legal}
use Rattle.laws_script_calls.specs.reactor_journal.proofs.Alive.{opened_below}
use Rattle.laws_script_calls.specs.reactor_journal.proofs.Picking.{all_below-at}
use Rattle.laws_script_calls.specs.reactor_journal.proofs.Steps.{busy_event}
use Rattle.laws_script_calls.specs.reactor_journal.proofs.Turning.{past_split, is_legal-front}
use Rattle.laws_script_calls.specs.reactor_summary.specs.Summary as S
use Rattle.laws_script_calls.specs.reactor_summary.specs.Summary.{summary}
use Rattle.laws_script_calls.specs.reactor_summary.proofs.Reading.{busy_is}
use Rattle.laws_script_calls.specs.reactor_summary.proofs.Told as summary_told
use Rattle.laws_script_calls.specs.reactor_model.specs.Handling.{Handling}
use Rattle.laws_script_calls.specs.reactor_core.specs.Acting.{StopAppends}
use Rattle.laws_script_calls.specs.reactor_core.specs.Removing.{alive_handles}
use Rattle.laws_script_calls.specs.reactor_core.specs.Settling.{returned}
use Rattle.laws_script_calls.specs.reactor_core.specs.Stands.{Meaning}
use Rattle.tp_reactor.specs.reactor_desk.specs.Desks.{DeskStands}
use Rattle.tp_reactor.specs.reactor_desk.specs.declared.terms.DeskTerms.{DeskTerms}
use Rattle.tp_reactor.specs.reactor_desk.specs.declared.desk.Desk.{Desk}
use Rattle.tp_reactor.specs.reactor_desk.specs.declared.leading.Led.{Led}
use Rattle.tp_reactor.specs.reactor_desk.specs.declared.leading.Led.TheVariants as led
use Rattle.tp_reactor.specs.reactor_desk.proofs.Left.{left_by_lead}
use Rattle.tp_reactor.specs.Alone.{LeadsTo, ServesTo, RoundsTo}
use Rattle.tp_reactor.specs.declared.working.Ran.{Ran}
use Rattle.laws_script_calls.specs.acceptor.specs.Servers.{ServerMay, read_alone}
use Rattle.laws_script_calls.specs.acceptor.specs.Servers.{is_accepted as says_accepted}
use Rattle.laws_script_calls.specs.laws_by_turns.specs.ByTurns.{DispatchedByTurns, GoesByTurn}
use Rattle.laws_script_calls.specs.event_script.specs.Script.{ScriptGroup, groups_told, steps_of}
use Rattle.laws_script_calls.specs.log_handler.specs.declared.note.ServerNote.{ServerNote}
use Rattle.laws_script_calls.specs.laws_script_told.specs.Told.{FollowsBefore}
use Rattle.laws_script_calls.specs.laws_script_runs.specs.Connections.{AreLeft, IsLeft}
use Rattle.laws_script_calls.specs.laws_script_runs.specs.Runs.{first_handle}
use Rattle.laws_script_calls.specs.reactor_model.specs.Entries.{is_notice}
use Rattle.laws_script_calls.specs.laws_script_runs.specs.Steps.{EachStep}
use Rattle.laws_script_calls.specs.laws_script_runs.proofs.ByTurns.{TurnsBefore, read_backwards}
use Rattle.laws_script_calls.specs.laws_script_runs.proofs.ByTurns.{turns_so}
use Rattle.laws_script_calls.specs.laws_script_runs.proofs.Handles.{IsBegun}
use Rattle.laws_script_calls.specs.laws_script_runs.proofs.Numbering.{IsNumbered}
use Rattle.laws_script_calls.specs.laws_script_runs.proofs.Offering.{run_offers}
use Rattle.laws_script_calls.specs.laws_script_runs.proofs.Settling.{each_front, opened_later}
use Rattle.laws_script_calls.specs.laws_script_runs.proofs.Turns as turns
use Rattle.laws_script_calls.specs.laws_script_runs.proofs.Winding as winding
use Rattle.laws_script_serial.specs.Serial.{IsSettledAtOnce}
use Rattle.laws_script_serial.proofs.Quiet.{StartsLast, open_is_last}
use Rattle.laws_one_worker.specs.Alone.{RunsAlone, at_first}
use Rattle.laws_one_worker.proofs.Pushing.{pushed, past_pushed, each_map, legal_before, none_before}
use Rattle.laws_one_worker.proofs.Noticing.{no_end}
use Rattle.laws_one_worker.proofs.Stepping.{is_free, Steps}
use Rattle.laws_one_worker.proofs.Removing.{WindsUp, winds_up, alive_rise, alive_named}
use Rattle.laws_one_worker.proofs.Rounds.{Front, Ready, loop_ready}

-- ---- an entry of a list that goes by turns

module _ {H E : Type 0} (means : Handling H E ServerNote) (t : Terms)
    (list : List (Entry ServerNote)) (turned : DispatchedByTurns means t 1 list) where
  -- it does so before those after it
  pub goes : (later : List (Entry ServerNote)) (e : Entry ServerNote)
      (past : List (Entry ServerNote)) → past_of list ≡ later ++ e ∷ past → 1 ≤ length past
      → GoesByTurn means t 1 past e (reverse later)
  goes later e past is long =
      subst (λ (p : List (Entry ServerNote)). GoesByTurn means t 1 p e (reverse later))
      (reverse-reverse past)
      (turned (reverse past) e (reverse later) there
      (subst (λ (n : ℕ). 1 ≤ n) (sym (length-reverse past)) long))
    where
      there : list ≡ reverse past ++ e ∷ reverse later
      there =
          sym (reverse-reverse list) ∙ ap reverse is ∙ reverse-append later (e ∷ past)
          ∙ ap (λ (l : List (Entry ServerNote)). l ++ reverse later)
          (reverse-append (e ∷ []) past)
          ∙ append_assoc (reverse past) (e ∷ []) (reverse later)

  -- the same of the entry before it
  pub goes_before : (later : List (Entry ServerNote)) (e d : Entry ServerNote)
      (past : List (Entry ServerNote)) → past_of list ≡ later ++ e ∷ (d ∷ past) → 1 ≤ length past
      → GoesByTurn means t 1 past d (e ∷ reverse later)
  goes_before later e d past is long =
      subst (λ (l : List (Entry ServerNote)). GoesByTurn means t 1 past d l)
      (reverse-append later (e ∷ [])) (goes (later ++ e ∷ []) d past
      (is ∙ sym (append_assoc later (e ∷ []) (d ∷ past))) long)

-- ---- the run begins with the registration of the acceptor

module _ {H M Q W V E : Type 0} (m : Meaning H M Q W V ServerNote E) (q : DeskTerms) where
  lead_begins : (h list : List (Entry ServerNote)) (l : Led H ServerNote E)
      → LeadsTo m q None h l list → Begins h list
  lead_begins h list l x =
      (left_by_lead m q x.first h None x.found l x.left list x.stood x.gives).begins

  begins_then : (a b c : List (Entry ServerNote)) → Begins a b → Begins b c → Begins a c
  begins_then a b c x y = (
    x.0 ++ y.0,
    sym (append_assoc a x.0 y.0)
        ∙ ap (λ (l : List (Entry ServerNote)). l ++ y.0) x.1 ∙ y.1,
  )

  serve_begins : (h list : List (Entry ServerNote)) → ServesTo m q None h list → Begins h list
  serve_begins h list v =
      let s = v.settles.settles.settles in
      begins_then h v.between list (lead_begins h v.between (led.Job v.job) v.leads) (
        (returned v.done ∷ []) ++ (s.closing ++ s.acted),
        sym (append_assoc v.between (returned v.done ∷ []) (s.closing ++ s.acted))
            ∙ sym (append_assoc (v.between ++ returned v.done ∷ []) s.closing s.acted)
            ∙ sym v.settles.leaves,
      )

  rounds_begin : (n : ℕ) (list : List (Entry ServerNote)) → RoundsTo m q None n at_first list
      → Begins at_first list
  rounds_begin zero list r = ([], sym r)
  rounds_begin (suc n) list r =
      begins_then at_first r.0 list (rounds_begin n r.0 r.1)
      (⊎_elim (λ (l : LeadsTo m q None r.0 led.Quiet list). lead_begins r.0 list led.Quiet l)
      (λ (v : ServesTo m q None r.0 list). serve_begins r.0 list v) r.2)

-- ---- small facts

free_starts : (past : List (Entry ServerNote)) (i : ℕ) → is_free past ≡ true → StartsLast past i → ⊥
free_starts [] i free last = last
free_starts (Started event ∷ past) i free last = absurd (false≢true free)
free_starts (_ ∷ past) i free last = last

-- if nothing is open no handle is busy
none_busy : (most : ℕ) (past : List (Entry ServerNote)) (x : ℕ) → is_legal most past ≡ true
    → ((i : ℕ) → is_open past i ≡ false) → S.is_busy (summary past) x ≡ false
none_busy most past x legal none =
    busy_is past (summary past) x (summary_told.told most past legal)
    ∙ ⊎_elim (λ (t : P.is_busy past x ≡ true). let b = busy_event past x t in
    absurd (both_ways _ (none b.0) b.1)) (λ (f : P.is_busy past x ≡ false). f)
    (cases_Bool (P.is_busy past x))

begun_end : (past : List (Entry ServerNote)) → was_opened past 0 ≡ true → IsBegun past Ended
begun_end [] o = absurd (false≢true o)
begun_end (e ∷ past) o = tt

module _ {H M Q W V E : Type 0} (m : Meaning H M Q W V ServerNote E) (q : DeskTerms) (answer : Ran)
    (idle : Option ℕ) (groups : List ScriptGroup) (journal : List (Entry ServerNote))
    (r : RunsAlone m q answer idle groups journal) where
  abbrev pub most : ℕ
  most = q.run.most

  abbrev pub run : List (Entry ServerNote)
  run = past_of r.run

  -- ---- the run

  past_is : past_of journal ≡ pushed run r.closing
  past_is = ap past_of r.is ∙ past_pushed r.run r.closing

  pub legal_run : is_legal most run ≡ true
  legal_run = legal_before most run r.closing (sym (ap (is_legal most) past_is) ∙ r.whole.legal)

  pub quiet_run : list_any is_notice run ≡ false
  quiet_run = none_before is_notice run r.closing
      (sym (ap (list_any is_notice) past_is) ∙ winding.any_reverse is_notice journal r.no_notice)

  pub stands : (first : ℕ) × (d : Desk H M Q W V ServerNote E) × DeskStands m q first d r.run
  stands =
      let l = r.alone.leads in
      let left = left_by_lead m q l.first r.alone.last None l.found r.alone.led l.left r.run l.stood
      l.gives in
      (left.first, l.left, left.stands)

  pub turned : DispatchedByTurns m.means q.run 1 r.run
  turned = (stands.2.by_turn 1 r.by_turn).turns

  pub turned_run : TurnsBefore (ServerMay q.run) says_accepted 1 run None
  turned_run = turns_so (m.means.may q.run) (ServerMay q.run) m.means.installs says_accepted 1
      r.acts.asks r.acts.installs run None (read_backwards m.means q.run 1 r.run turned)

  begins_list : Begins at_first r.run
  begins_list = begins_then m q at_first r.alone.last r.run
      (rounds_begin m q r.alone.rounds r.alone.last r.alone.were)
      (lead_begins m q r.alone.last r.run r.alone.led r.alone.leads)

  pub begins : winding.Begins run
  begins = record {
    later = reverse begins_list.0;
    is = ap past_of (sym begins_list.1) ∙ reverse-append at_first begins_list.0;
  }

  pub going : ended run ≡ false
  going = no_end q.run run None begins turned_run quiet_run

  pub front : Front most groups r.run
  front = record { legal = legal_run; going = going; quiet = quiet_run }

  pub ready : Ready m q groups r.limit r.offers_are r.names r.plays r.run
  ready = loop_ready m q groups r.limit r.offers_are r.names r.plays answer r.run r.alone front

  pub settled : EachStep IsSettledAtOnce run
  settled = each_map (Steps groups) IsSettledAtOnce (λ past e s. s.settles) run ready.each

  pub none_open : (i : ℕ) → is_open run i ≡ false
  none_open i =
      ⊎_elim (λ (t : is_open run i ≡ true).
      absurd (free_starts run i ready.free (open_is_last run i settled t)))
      (λ (f : is_open run i ≡ false). f) (cases_Bool (is_open run i))

  -- ---- the winding up

  pub stopped : StopAppends (summary run) false r.closing
  stopped = subst (λ (b : Bool). StopAppends (summary run) b r.closing)
      ((summary_told.told most run legal_run).ended ∙ going) r.stops

  abbrev pub removals : List (Entry ServerNote)
  removals = stopped.0

  pub winds : WindsUp most idle groups (Ended ∷ run) removals
  winds =
      winds_up most idle groups (S.is_busy (summary run)) (alive_handles (summary run))
      (Ended ∷ run) removals stopped.1
      (λ x. none_busy most run x legal_run none_open) (alive_rise most run legal_run)
      (alive_named most run legal_run) refl refl

  pub journal_is : journal ≡ r.run ++ Ended ∷ removals
  journal_is = r.is ∙ ap (λ (l : List (Entry ServerNote)). r.run ++ l) stopped.2

  -- ---- the whole past: what was wound up, the end, and the run

  abbrev pub wound : List (Entry ServerNote)
  wound = past_of removals

  abbrev pub all : List (Entry ServerNote)
  all = wound ++ Ended ∷ run

  pub all_is : past_of journal ≡ all
  all_is = ap past_of journal_is ∙ past_split r.run removals Ended

  pub legal : is_legal most all ≡ true
  legal = sym (ap (is_legal most) all_is) ∙ r.whole.legal

  pub legal_end : is_legal most (Ended ∷ run) ≡ true
  legal_end = is_legal-front most wound (Ended ∷ run) legal

  pub first_run : was_opened run 0 ≡ true
  first_run = ap (λ (p : List (Entry ServerNote)). was_opened p 0) begins.is
      ∙ opened_later begins.later (Opened first_handle read_alone ∷ []) 0 refl

  pub first : was_opened all 0 ≡ true
  first = opened_later wound (Ended ∷ run) 0 first_run

  pub begun_run : EachStep IsBegun run
  begun_run = winding.run_begun q.run run None begins turned_run

  pub begun : EachStep IsBegun all
  begun = winding.begun_up most wound Ended run legal refl (begun_end run first_run, begun_run)

  pub left : AreLeft (steps_of groups) idle all
  left = subst (AreLeft (steps_of groups) idle) all_is r.turns

  pub closed : (x : ℕ) → was_opened all x ≡ true → was_closed all x ≡ true
  closed x o =
      let each : all_below (opened all) (was_closed all) ≡ true =
      subst (λ (p : List (Entry ServerNote)). all_below (opened p) (was_closed p) ≡ true) all_is
      r.whole.closed in
      all_below-at (opened all) (was_closed all) x (opened_below most all x legal o) each

  pub whole_run : all ≡ (wound ++ Ended ∷ []) ++ run
  whole_run = sym (append_assoc wound (Ended ∷ []) run)

  pub keeps : list_any winding.removes run ≡ false
  keeps = winding.run_keeps q.run run begins turned_run going

  -- each connection that is accepted has its number, and each handler after the first its
  -- acceptance
  pub numbered : EachStep IsNumbered run
  numbered = turns.numbered most (steps_of groups) idle all legal begun left closed
      (wound ++ Ended ∷ []) run whole_run first
      (run_offers (steps_of groups) idle q.run run None begins turned_run
      (each_front (IsLeft (steps_of groups) idle) (wound ++ Ended ∷ []) run
      (subst (AreLeft (steps_of groups) idle) whole_run left)))

  -- the run follows its script
  pub follows_run : FollowsBefore (groups_told groups) run []
  follows_run = (winding.follows_back (groups_told groups) most wound (Ended ∷ run) legal refl
      (subst (λ (p : List (Entry ServerNote)). FollowsBefore (groups_told groups) p []) all_is
      r.follows)).1
