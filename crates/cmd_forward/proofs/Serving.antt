-- What a run leaves, by how it ended.
use Rattle.std.proofs.Common.{ℕ, suc, ◌≡◌, ◌≤◌, ◌==◌, ◌||◌, inl, inr, arith, Bool, true}
use Rattle.std.proofs.Common.{false, not, List, [], ◌∷◌, ◌++◌, map, Option, Some, refl}
use Rattle.std.proofs.Common.{sym, ap}
use Rattle.std.proofs.Common.{subst, ◌∙◌, cond}
use Rattle.std.proofs.lemmas.Bool.{and_from, and_parts, false≢true, not-true}
use Rattle.std.proofs.lemmas.List.{append_assoc}
use Rattle.std.proofs.lemmas.List.Folds.{list_all-append}
use Rattle.std.specs.List.{list_all, list_any}
use Rattle.ev_base.specs.Counts.{Rose}
use Rattle.ev_base.specs.End.{EndFacts}
use Rattle.ev_base.specs.Net.{Attaches, Call, NetFacts, Retires, SetsMask, TurnsAway, Waits}
use Rattle.ev_base.specs.Source.{SourceFacts}
use Rattle.ev_base.specs.Terms.{Terms}
use Rattle.ev_base.specs.declared.end.PeerEnd.{Ghosts}
use Rattle.ev_base.specs.declared.net.Net.{Ghosts as NetGhosts}
use Rattle.ev_base.specs.ev_types.specs.declared.upcall.Answer.TheVariants.{Close}
use Rattle.ev_base.specs.ev_types.specs.declared.upcall.Kind.TheVariants as kind
use Rattle.ev_base.specs.ev_types.specs.declared.upcall.Why.{Why}
use Rattle.timer_queue.specs.declared.timer.Timer.{Timer}
use Rattle.reactor_model.specs.Handling.{Handling, NoClose}
use Rattle.reactor_model.specs.Turns.{IsTimeout}
use Rattle.reactor_model.specs.reactor_journal.specs.Event.{Item, Origin}
use Rattle.reactor_model.specs.reactor_journal.specs.declared.entry.Entry.{Entry}
use Rattle.reactor_model.specs.reactor_journal.specs.declared.entry.Entry.TheVariants as entry
use Rattle.reactor_model.specs.reactor_journal.specs.Past.{count, had, past_of}
use Rattle.reactor_model.specs.reactor_journal.specs.Past as P
use Rattle.reactor_model.specs.reactor_journal.specs.Follow.{Legal, is_legal}
use Rattle.reactor_model.specs.reactor_journal.proofs.Turning.{Legal-front, count-append}
use Rattle.reactor_model.specs.reactor_journal.proofs.Turning.{count-past}
use Rattle.reactor_model.specs.reactor_journal.proofs.Turning.{past_of-append, past_of-more}
use Rattle.reactor_core.specs.Calls.{AreCalls}
use Rattle.reactor_core.specs.Ends.{WhereTold}
use Rattle.reactor_core.specs.Marks.{is_polled}
use Rattle.reactor_core.specs.Stands.{Meaning}
use Rattle.reactor_core.specs.Upcalls.{HasNoPick}
use Rattle.reactor_core.specs.declared.reactor.Core.{Core}
use Rattle.reactor_core.specs.declared.reactor.Parts.{Parts}
use Rattle.reactor_core.specs.reactor_summary.specs.Summary as S
use Rattle.reactor_core.specs.reactor_summary.specs.Summary.{summary}
use Rattle.reactor_core.specs.reactor_summary.proofs.Reading.{alive_is, open_is}
use Rattle.reactor_core.specs.reactor_summary.proofs.Told.{told}
use Rattle.reactor_core.proofs.Moves.{found_open}
use Rattle.reactor_core.proofs.Started.{alive_no_close}
use Rattle.core_loop.specs.Leading.{NoneOpen}
use Rattle.core_loop.proofs.Keeping.{sum}
use Rattle.connector_run.specs.Leaving.{LastWaitWasOver, LeavesAlive, LeavesClosed, LeavesOne}
use Rattle.connector_run.specs.Phases.{ClosedItself, IsAlive, first_entries, is_served, one_handle}
use Rattle.connector_run.specs.Running.{EndsSo, HasCause}
use Rattle.connector_run.specs.declared.running.Ended.{Ended}
use Rattle.connector_run.specs.declared.running.Ended.TheVariants as ended
use Rattle.connector_run.proofs.Waits.{all_past, alive_lives, alive_past_is, base, where_told}
use Rattle.laws_reports.specs.Laws.{holds_back, reports, rests}
use Rattle.laws_reports.proofs.Turns.{answered}
use Rattle.forwarder.specs.connector.specs.declared.note.ConnectNote.{ConnectNote}
use Rattle.forwarder.specs.ForwardEnds.{input_end, peer_of}
use Rattle.forwarder.specs.ForwardNets.{ForwardNetKeeps, TookOne, forward_net_facts, net_within}
use Rattle.forwarder.specs.Laws.{TotalsAreExact}
use Rattle.forwarder.specs.declared.forward_end.ForwardEnd.{ForwardEnd}
use Rattle.forwarder.specs.declared.forward_net.ForwardNet.{ForwardNet}
use Rattle.forwarder.specs.declared.note.ForwardNote.{ForwardNote}
use Rattle.forwarder.specs.one_net.specs.OneEnd.{failed_of, input_of}
use Rattle.cmd_forward.specs.Answers.{most_input}
use Rattle.cmd_forward.specs.Endings.{HasEnded, MayEnd, outcome_closed}
use Rattle.cmd_forward.specs.Runs.{MadeAtLeast, WasAnsweredAt, reports_in}
use Rattle.cmd_forward.specs.Starting.{HasStarted, terms_of}
use Rattle.cmd_forward.specs.Statuses.{RunEnds}
use Rattle.cmd_forward.specs.declared.outcome.Outcome.{Outcome}
use Rattle.cmd_forward.specs.declared.outcome.Outcome.TheVariants as outcome
use Rattle.cmd_forward.proofs.Alive.{made_enough, rests_so}
use Rattle.cmd_forward.proofs.Closed.{ends_closed, notes_closing}
use Rattle.cmd_forward.proofs.LastTurns.{asks_last, is_calm, none_asks}
use Rattle.cmd_forward.proofs.Runs.{Left, has_run, took_back}
use Rattle.cmd_forward.proofs.Timeouts.{comes_late}
use Rattle.cmd_forward.proofs.Waits.{Polls, polls_started, readies, reported, was_answered}

abbrev Note : Type 0
Note = ConnectNote ForwardNote

-- ---- histories

past_two : {N : Type 0} (h : List (Entry N)) (a b c : Entry N)
    → past_of (h ++ a ∷ b ∷ c ∷ []) ≡ c ∷ b ∷ a ∷ past_of h
past_two h a b c = past_of-append h (a ∷ b ∷ c ∷ [])

calm_served : {N : Type 0} (wait : ℕ) (es : List (Entry N)) → list_all is_served es ≡ true
    → list_all is_calm (es ++ base wait) ≡ true
calm_served wait [] all = refl
calm_served {N} wait (e ∷ es) all =
    let parts = and_parts (is_served e) (list_all is_served es) all in
    and_from _ _ (calm e parts.0) (calm_served wait es parts.1)
  where
    calm : (e : Entry N) → is_served e ≡ true → is_calm e ≡ true
    calm (entry.Polled moment) is = refl
    calm (entry.Due timer) is = refl
    calm (entry.Ready handle kind) is = refl
    calm (entry.Started event) is = refl
    calm (entry.Returned event answer note) is = refl
    calm _ is = absurd (false≢true is)

none_held : {N : Type 0} (past : List (Entry N)) → list_all is_calm past ≡ true
    → list_any holds_back past ≡ false
none_held [] all = refl
none_held {N} (e ∷ past) all =
    let parts = and_parts (is_calm e) (list_all is_calm past) all in
    ap (λ b. b || list_any holds_back past) (free e parts.0) ∙ none_held past parts.1
  where
    free : (e : Entry N) → is_calm e ≡ true → holds_back e ≡ false
    free (entry.Cancelled timer) is = absurd (false≢true is)
    free (entry.Masked handle mask) is = absurd (false≢true is)
    free (entry.Suspended handle) is = absurd (false≢true is)
    free _ is = refl

same_reports : {N : Type 0} (past : List (Entry N))
    → count readies past ≡ count (reports kind.Write 0) past
same_reports [] = refl
same_reports {N} (e ∷ past) =
    ap (λ n. cond (readies e) (suc n) n) (same_reports past)
    ∙ ap (λ b. cond b (suc (count (reports kind.Write 0) past))
    (count (reports kind.Write 0) past)) (one e)
  where
    one : (e : Entry N) → readies e ≡ reports kind.Write 0 e
    one (entry.Ready handle kind.Read) = refl
    one (entry.Ready handle kind.Write) = refl
    one (entry.Ready handle kind.Except) = refl
    one _ = refl

some_polled : {N : Type 0} (between entries rest : List (Entry N)) (moment : ℕ)
    → entries ≡ entry.Polled moment ∷ rest
    → 1 ≤ count is_polled (past_of (between ++ entries))
some_polled between entries rest moment is = omega (
  arith,
  count-past is_polled (between ++ entries),
  count-append is_polled between entries,
  ap (count is_polled) is,
)

-- ---- a history in which the handler is alive

module _ {N : Type 0} (wait most : ℕ) (h : List (Entry N)) (a : IsAlive wait h)
    (legal : Legal h most) where
  past_is : past_of h ≡ past_of a.served ++ base wait
  past_is = alive_past_is wait h a

  served_past : list_all is_served (past_of a.served) ≡ true
  served_past = all_past is_served a.served a.kinds

  calm : list_all is_calm (past_of h) ≡ true
  unfolding past_is served_past
  calm = ap (list_all is_calm) past_is ∙ calm_served wait (past_of a.served) served_past

  pub lives : S.is_alive (sum h) 0 ≡ true
  lives = alive_lives wait h a

  alive_past : P.is_alive (past_of h) 0 ≡ true
  unfolding lives
  alive_past = sym (alive_is most (past_of h) (sum h) 0 legal (told most (past_of h) legal)) ∙ lives

  pub no_close : NoClose (had (past_of h) 0)
  unfolding lives
  no_close = alive_no_close most (past_of h) 0 legal lives

  module _ (none_open : NoneOpen h) (none : HasNoPick (past_of h)) where
    pub nothing_asks : asks_last (had (past_of h) 0) false ≡ false
    unfolding calm alive_past
    nothing_asks = none_asks most (past_of h) legal calm alive_past none_open none

    no_event : (i : ℕ) → P.is_open (past_of h) i ≡ false
    no_event i =
        sym (open_is (past_of h) (sum h) i (told most (past_of h) legal))
        ∙ ap (list_any (λ o. o.event == i)) none_open

    -- each report has been answered
    pub reports_answered : {H E : Type 0} (means : Handling H E N) (t : Terms) (calls : List Call)
        → AreCalls means t (past_of h) [] calls
        → reports_in calls ≤ count (rests kind.Write) (had (past_of h) 0)
    unfolding past_is served_past calm alive_past no_event
    reports_answered means t calls are =
        let es = past_of a.served in
        let legal_es : is_legal most (es ++ base wait) ≡ true =
        subst (λ (past : List (Entry N)). is_legal most past ≡ true) past_is legal in
        let stays : P.was_removed (es ++ base wait) 0 ≡ false =
        subst (λ (past : List (Entry N)). P.was_removed past 0 ≡ false) past_is removed in
        let few = reported means t wait most es [] calls served_past legal_es stays
        (subst (λ (past : List (Entry N)). AreCalls means t past [] calls) past_is are) in
        let turns = answered kind.Write most (past_of h) 0 legal (none_held (past_of h) calm)
        alive_past none no_event in
        omega (
          arith,
          few,
          turns,
          same_reports (past_of h),
          ap (count readies) past_is,
        )
      where
        removed : P.was_removed (past_of h) 0 ≡ false
        removed = not-true (P.was_removed (past_of h) 0)
            (and_parts (P.was_opened (past_of h) 0) (not (P.was_removed (past_of h) 0))
            alive_past).1

-- ---- a history in which it closed itself

module _ {N : Type 0} (wait most first : ℕ) (h : List (Entry N)) (c : ClosedItself wait first h)
    (legal : Legal h most) where
  begun : List (Entry N)
  begun = c.before ++ entry.Started c.event ∷ []

  legal_begun : Legal begun most
  unfolding begun
  legal_begun =
      let rest : List (Entry N) = entry.Returned c.returned Close c.note
      ∷ entry.Closed one_handle c.said ∷ [] in
      Legal-front begun rest most (subst (λ (k : List (Entry N)). Legal k most)
      (c.is ∙ sym (append_assoc c.before (entry.Started c.event ∷ []) rest)) legal)

  late : IsTimeout c.upcall → (wait ≤ c.moment) × (c.moment ≤ (sum begun).moment)
  unfolding begun legal_begun
  late timed =
      let served : List (Entry N) = c.alive.served ++ entry.Started c.event ∷ [] in
      let is : begun ≡ first_entries wait ++ served =
      ap (λ k. k ++ entry.Started c.event ∷ []) c.alive.is
      ∙ append_assoc (first_entries wait) c.alive.served (entry.Started c.event ∷ []) in
      subst (λ (k : List (Entry N)). (wait ≤ c.moment) × (c.moment ≤ (sum k).moment)) (sym is)
      (comes_late wait most served c.returned (record {
        event = c.returned;
        handle = one_handle;
        upcall = c.upcall;
        moment = c.moment;
      }) (list_all-append is_served c.alive.served (entry.Started c.event ∷ [])
      ∙ and_from _ _ c.alive.kinds refl)
      (subst (λ (k : List (Entry N)). Legal k most) is legal_begun)
      (subst (λ (k : List (Entry N)). S.open_event (sum k) c.returned ≡ Some (record {
        event = c.returned;
        handle = one_handle;
        upcall = c.upcall;
        moment = c.moment;
      })) is c.made) timed)

  past_is_closed : past_of (h ++ entry.Ended ∷ []) ≡ entry.Ended ∷ entry.Closed one_handle c.said
      ∷ entry.Returned c.returned Close c.note ∷ past_of begun
  unfolding begun
  past_is_closed =
      past_of-more h entry.Ended
      ∙ ap (λ past. entry.Ended ∷ past) (ap past_of c.is
      ∙ (past_of-append c.before (entry.Started c.event ∷ entry.Returned c.returned Close c.note
      ∷ entry.Closed one_handle c.said ∷ [])
      ∙ ap (λ past. entry.Closed one_handle c.said ∷ entry.Returned c.returned Close c.note ∷ past)
      (sym (past_of-more c.before (entry.Started c.event)))))

  pub late_and_polled : 1 ≤ wait → IsTimeout c.upcall
      → (wait ≤ c.moment) × Polls c.moment (past_of (h ++ entry.Ended ∷ []))
      × (c.moment ≤ (sum (h ++ entry.Ended ∷ [])).moment)
  unfolding begun legal_begun late past_is_closed
  late_and_polled some timed =
      let f = found_open most (past_of begun) c.returned _ legal_begun c.made in
      let at : P.started_at (past_of begun) c.returned ≡ c.moment = f.0.moment in
      let from = late timed in
      let polls : Polls c.moment (past_of begun) =
      subst (λ (n : ℕ). Polls n (past_of begun)) at
      (polls_started (past_of begun) c.returned (omega (arith, at, from.0, some))) in (
        from.0,
        subst (λ (past : List (Entry N)). Polls c.moment past) (sym past_is_closed)
            (inr (inr (inr polls))),
        subst (λ (past : List (Entry N)). c.moment ≤ (summary past).moment) (sym past_is_closed)
            from.1,
      )

-- ---- the run

module _ {H Q W V M S E : Type 0} {N : NetGhosts M E} {G : Ghosts E}
    {m : Meaning H (ForwardNet M S E N G) Q W V (ConnectNote ForwardNote) (ForwardEnd E S G)}
    {core : Core H (ForwardNet M S E N G) Q W V (ConnectNote ForwardNote) (ForwardEnd E S G)}
    {i : SourceFacts} {wait : ℕ} (start : HasStarted m i wait core)
    (tells : E → EndFacts) (keeps : Terms → E → Type 0)
    (source : S → SourceFacts) (facts : M → NetFacts E) (net_keeps : Terms → M → Type 0)
    (goes : (origin : Option (Origin (ConnectNote ForwardNote))) (end : ForwardEnd E S G)
    (turns : List (Item (ConnectNote ForwardNote))) (why : Why) (said : ConnectNote ForwardNote)
    → m.means.gone (terms_of i) origin end turns why said
    → Left tells keeps source i end turns why said)
    (facts_are : (net : ForwardNet M S E N G) → m.facts net ≡ forward_net_facts facts net)
    (keeps_are : (net : ForwardNet M S E N G) → m.keeps (terms_of i) net
    → ForwardNetKeeps facts net_keeps (terms_of i) net)
    (armed : Q → List Timer)
    (parts : Parts (ConnectNote ForwardNote) (ForwardNet M S E N G) Q W V) (F : ℕ)
    (h : List (Entry (ConnectNote ForwardNote))) where
  abbrev pub LeftAlive : Type 0
  LeftAlive = IsAlive wait h × LeavesAlive m armed (terms_of i) F h parts

  -- what is left, by how the run ended
  abbrev pub LeftSo : Ended → Type 0
  LeftSo ended.Closed =
      (c : ClosedItself wait F h) × LeavesClosed m armed (terms_of i) c parts
  LeftSo ended.Over = LeftAlive × HasNoPick (past_of h)
      × WhereTold LastWaitWasOver (m.facts parts.net).calls
  LeftSo ended.NetFault = LeftAlive
  LeftSo ended.NoMemory = LeftAlive

  pub left_so : (how : Ended) (over : ℕ) → EndsSo m (terms_of i) wait how over F h
      → ((c : ClosedItself wait F h) → LeavesClosed m armed (terms_of i) c parts)
      → (IsAlive wait h → LeavesAlive m armed (terms_of i) F h parts)
      → (over ≡ count is_polled (past_of h) → 1 ≤ over
      → WhereTold LastWaitWasOver (m.facts parts.net).calls) → LeftSo how
  left_so ended.Closed over ends closed alive last = (ends, closed ends)
  left_so ended.Over over ends closed alive last =
      let e = ends.1 in
      let some : 1 ≤ count is_polled (past_of h) =
      subst (λ (g : List (Entry (ConnectNote ForwardNote))). 1 ≤ count is_polled (past_of g))
      (sym e.is) (some_polled e.between e.entries _ e.wait.now e.wait.is) in (
        (ends.0, alive ends.0),
        e.none,
        last e.over_so (subst (λ (n : ℕ). 1 ≤ n) (sym e.over_so) some),
      )
  left_so ended.NetFault over ends closed alive last = (ends, alive ends)
  left_so ended.NoMemory over ends closed alive last = (ends, alive ends)

  -- the one end that the net took back
  pub record One (turns : List (Item (ConnectNote ForwardNote))) : Type 0 where
    pub end : ForwardEnd E S G
    pub retired : parts.net.retired ≡ (0, end) ∷ []
    pub away : map (λ e. e.1) parts.net.turned_away ≡ []
    pub why : Why
    pub said : ConnectNote ForwardNote
    pub left : Left tells keeps source i end turns why said
    pub kept : ForwardNetKeeps facts net_keeps (terms_of i) parts.net

  one_from : (turns : List (Item (ConnectNote ForwardNote)))
      → LeavesOne m.means (terms_of i) turns (m.facts parts.net)
      → m.keeps (terms_of i) parts.net → One turns
  one_from turns l kept = record {
    end = l.end;
    retired = subst (λ (n : NetFacts (ForwardEnd E S G)).
        WhereTold (λ ends. ends ≡ (0, l.end) ∷ []) n.retired) (facts_are parts.net) l.retired;
    away = subst (λ (n : NetFacts (ForwardEnd E S G)).
        WhereTold (λ ends. ends ≡ []) n.turned_away) (facts_are parts.net) l.turned_away;
    why = l.why;
    said = l.said;
    left = goes l.origin l.end turns l.why l.said l.gone;
    kept = keeps_are parts.net kept;
  }

  abbrev pub closed_turns : (c : ClosedItself wait F h)
      → LeavesClosed m armed (terms_of i) c parts → List (Item (ConnectNote ForwardNote))
  closed_turns c l = l.earlier ++ record {
    upcall = c.upcall;
    moment = c.moment;
    answer = Close;
    note = c.note;
  } ∷ []

  abbrev pub turns_of : (how : Ended) → LeftSo how → List (Item (ConnectNote ForwardNote))
  turns_of ended.Closed l = closed_turns l.0 l.1
  turns_of ended.Over l = had (past_of h) 0
  turns_of ended.NetFault l = had (past_of h) 0
  turns_of ended.NoMemory l = had (past_of h) 0

  pub one_of : (how : Ended) (l : LeftSo how) → One (turns_of how l)
  unfolding one_from
  one_of ended.Closed l = one_from (closed_turns l.0 l.1) l.1.one l.1.stand.net_keeps
  one_of ended.Over l = one_from (had (past_of h) 0) l.0.1.one l.0.1.stand.net_keeps
  one_of ended.NetFault l = one_from (had (past_of h) 0) l.1.one l.1.stand.net_keeps
  one_of ended.NoMemory l = one_from (had (past_of h) 0) l.1.one l.1.stand.net_keeps

  abbrev pub took_one : {turns : List (Item (ConnectNote ForwardNote))} → One turns
      → TookOne facts parts.net
  took_one o = record {
    handle = 0;
    end = o.end;
    retired = ap Some o.retired;
    turned_away = ap Some o.away;
  }

  module _ (most : ℕ) (legal : Legal h most) (exact : TotalsAreExact) where
    abbrev n : NetFacts E
    n = facts (net_within parts.net)

    abbrev Ends : {turns : List (Item (ConnectNote ForwardNote))} → One turns → Outcome → Type 0
    Ends o outcome =
        RunEnds tells most_input wait i (source (input_of (input_end o.end))) n outcome

    calls_are : (m.facts parts.net).calls ≡ n.calls
    calls_are = ap (λ (x : NetFacts (ForwardEnd E S G)). x.calls) (facts_are parts.net)

    closed_late : (c : ClosedItself wait F h) → LeavesClosed m armed (terms_of i) c parts
        → IsTimeout c.upcall → (wait ≤ c.moment) × WhereTold (WasAnsweredAt c.moment) n.calls
        × (c.moment ≤ n.now)
    unfolding calls_are
    closed_late c l timed =
        let p = late_and_polled wait most F h c legal start.some timed in (
          p.0,
          subst (λ (told : Option (List Call)). WhereTold (WasAnsweredAt c.moment) told) calls_are
              (where_told _ (WasAnsweredAt c.moment) (m.facts parts.net).calls
              (λ calls are. was_answered m.means (terms_of i) c.moment
              (past_of (h ++ entry.Ended ∷ [])) [] calls are p.1) l.stand.net.calls),
          omega (
            arith,
            p.2,
            l.stand.net.moment,
            ap (λ (x : NetFacts (ForwardEnd E S G)). x.now) (facts_are parts.net),
          ),
        )

    pub may_end : (how : Ended) → LeftSo how → MayEnd how parts.journal.entries
    unfolding closed_late one_from
    may_end ended.Closed l =
        let o = one_from (closed_turns l.0 l.1) l.1.one l.1.stand.net_keeps in
        record {
          front = l.1.front;
          event = l.0.returned;
          answer = Close;
          note = l.0.note;
          closed = entry.Closed one_handle l.0.said;
          last = entry.Ended;
          is = l.1.journal;
          closes = notes_closing tells keeps source i wait exact o.end l.1.earlier _ o.why o.said n
              o.left (took_back facts net_keeps (terms_of i) parts.net o.kept o.away o.end
              o.retired) l.1.goes_on refl (closed_late l.0 l.1);
        }
    may_end ended.Over l = tt
    may_end ended.NetFault l = tt
    may_end ended.NoMemory l = tt

    unfinished : NoneOpen h → (l : LeftSo ended.Over)
        → Ends (one_from (had (past_of h) 0) l.0.1.one l.0.1.stand.net_keeps)
        outcome.Unfinished
    unfolding calls_are one_from
    unfinished none_open l =
        let o = one_from (had (past_of h) 0) l.0.1.one l.0.1.stand.net_keeps in
        let a = l.0.0 in
        let quiet = no_close wait most h a legal in
        let told : Option (List Call) = (m.facts parts.net).calls in
        let past : past_of (h ++ entry.Ended ∷ entry.Removed one_handle
        ∷ entry.Closed one_handle l.0.1.said ∷ []) ≡ entry.Closed one_handle l.0.1.said
        ∷ entry.Removed one_handle ∷ entry.Ended ∷ past_of h =
        past_two h entry.Ended (entry.Removed one_handle) (entry.Closed one_handle l.0.1.said) in (
          has_run tells keeps source i o.end (had (past_of h) 0) o.why o.said n o.left
              (took_back facts net_keeps (terms_of i) parts.net o.kept o.away o.end o.retired),
          record {
            over = subst (λ (told : Option (List Call)). WhereTold LastWaitWasOver told) calls_are
                l.2;
            rests = rests_so tells keeps source i o.end (had (past_of h) 0) o.why o.said o.left
                quiet (nothing_asks wait most h a legal none_open l.1);
            answered = subst (λ (told : Option (List Call)).
                WhereTold (λ calls. MadeAtLeast (reports_in calls) (tells (peer_of o.end))) told)
                calls_are (where_told _ _ told (λ calls are.
                made_enough tells keeps source i o.end (had (past_of h) 0) o.why o.said o.left
                quiet (reports_in calls) (enough a l.1 l.0.1.said calls
                (subst (λ (p : List (Entry (ConnectNote ForwardNote))).
                AreCalls m.means (terms_of i) p [] calls) past are))) l.0.1.stand.net.calls);
          },
        )
      where
        -- the end was retired after all waits
        enough : IsAlive wait h → HasNoPick (past_of h) → (said : ConnectNote ForwardNote)
            → (calls : List Call)
            → AreCalls m.means (terms_of i) (entry.Closed one_handle said
            ∷ entry.Removed one_handle ∷ entry.Ended ∷ past_of h) [] calls
            → reports_in calls ≤ count (rests kind.Write) (had (past_of h) 0)
        enough a none said [] are = absurd are
        enough a none said (Retires handle ∷ calls) are =
            reports_answered wait most h a legal none_open none m.means (terms_of i) calls are.1
        enough a none said (Waits asked answer given ∷ calls) are = absurd are.0
        enough a none said (Attaches handle mask serial ∷ calls) are = absurd are.0
        enough a none said (SetsMask handle mask ∷ calls) are = absurd are.0
        enough a none said (TurnsAway serial ∷ calls) are = absurd are.0

    -- the run ended so
    pub ends_so : (how : Ended) (l : LeftSo how) (failed : Bool) (outcome : Outcome) (before : ℕ)
        → NoneOpen h → HasEnded how parts.journal.entries failed outcome
        → failed ≡ failed_of (input_end (one_of how l).end) → HasCause how before n.failed_waits
        → Ends (one_of how l) outcome
    unfolding one_of one_from may_end closed_late unfinished
    ends_so ended.Closed l failed outcome before none_open told is cause =
        let o = one_from (closed_turns l.0 l.1) l.1.one l.1.stand.net_keeps in
        subst (λ (s : Outcome). Ends o s) (sym (told (may_end ended.Closed l)
        ∙ ap (outcome_closed l.0.note) is))
        (ends_closed tells keeps source i wait exact o.end l.1.earlier _ o.why o.said n o.left
        (took_back facts net_keeps (terms_of i) parts.net o.kept o.away o.end o.retired)
        l.1.goes_on refl (closed_late l.0 l.1))
    ends_so ended.Over l failed outcome before none_open told is cause =
        let o = one_from (had (past_of h) 0) l.0.1.one l.0.1.stand.net_keeps in
        subst (λ (s : Outcome). Ends o s) (sym told) (unfinished none_open l)
    ends_so ended.NetFault l failed outcome before none_open told is cause =
        let o = one_from (had (past_of h) 0) l.1.one l.1.stand.net_keeps in
        subst (λ (s : Outcome). Ends o s) (sym told) (inl (
          has_run tells keeps source i o.end (had (past_of h) 0) o.why o.said n o.left
              (took_back facts net_keeps (terms_of i) parts.net o.kept o.away o.end o.retired),
          risen before n.failed_waits cause,
        ))
      where
        risen : (before now : ℕ) → Rose before now → 1 ≤ now
        risen before now rose = omega (arith, rose)
    ends_so ended.NoMemory l failed outcome before none_open told is cause =
        let o = one_from (had (past_of h) 0) l.1.one l.1.stand.net_keeps in
        subst (λ (s : Outcome). Ends o s) (sym told)
        (inl (has_run tells keeps source i o.end (had (past_of h) 0) o.why o.said n o.left
        (took_back facts net_keeps (terms_of i) parts.net o.kept o.away o.end o.retired)))
