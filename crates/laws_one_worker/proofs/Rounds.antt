-- The loop of a worker that is alone, round by round.
use Rattle.std.proofs.Common.{ℕ, zero, suc, ◌≡◌, ◌∙◌, inl, inr, ⊎_elim, Bool, true, false, not}
use Rattle.std.proofs.Common.{◌&&◌, ◌||◌, List, [], ◌∷◌, ◌++◌, map, Option, Some, None, option_map}
use Rattle.std.proofs.Common.{refl, sym, subst, ap, append-nil}
use Rattle.std.specs.List.{list_any, list_all, filter}
use Rattle.std.proofs.lemmas.Bool.{false≢true, and_parts, and_from, both_ways, eq-eqb}
use Rattle.std.proofs.lemmas.List.Folds.{list_all-append}
use Rattle.laws_script_calls.specs.ev_base.specs.Net.{NetFacts, Reserves}
use Rattle.laws_script_calls.specs.ev_base.specs.declared.net.Report.{Report}
use Rattle.laws_script_calls.specs.ev_base.specs.declared.net.Waited.{Waited as WaitAnswer}
use Rattle.laws_script_calls.specs.ev_base.specs.declared.net.Waited.TheVariants
    as waited_by
use Rattle.laws_script_calls.specs.ev_types.specs.declared.upcall.Answer.{Answer}
use Rattle.laws_script_calls.specs.ev_types.specs.declared.upcall.Answer.TheVariants.{Keep, Again}
use Rattle.laws_script_calls.specs.ev_types.specs.declared.upcall.Answer.TheVariants.{Close}
use Rattle.laws_script_calls.specs.ev_types.specs.declared.upcall.Handle.{Handle}
use Rattle.laws_script_calls.specs.ev_types.specs.declared.upcall.Mask.{Mask}
use Rattle.laws_script_calls.specs.reactor_journal.specs.declared.entry.Entry.{Entry}
use Rattle.laws_script_calls.specs.reactor_journal.specs.declared.entry.Entry.TheVariants.{Polled}
use Rattle.laws_script_calls.specs.reactor_journal.specs.declared.entry.Entry.TheVariants.{Started}
use Rattle.laws_script_calls.specs.reactor_journal.specs.declared.entry.Entry.TheVariants.{Returned}
use Rattle.laws_script_calls.specs.reactor_journal.specs.declared.entry.Entry.TheVariants.{Closed}
use Rattle.laws_script_calls.specs.reactor_journal.specs.Past.{past_of, ended, is_ended, event_at}
use Rattle.laws_script_calls.specs.reactor_journal.specs.Past.{belongs_to, was_opened, was_removed}
use Rattle.laws_script_calls.specs.reactor_journal.specs.Follow.{is_legal, may_follow}
use Rattle.laws_script_calls.specs.reactor_journal.proofs.HadLaw.{returned_is_open}
use Rattle.laws_script_calls.specs.reactor_summary.specs.Summary as S
use Rattle.laws_script_calls.specs.reactor_summary.specs.Summary.{Summary, summary}
use Rattle.laws_script_calls.specs.reactor_summary.proofs.Opens.{event_open_is}
use Rattle.laws_script_calls.specs.reactor_summary.proofs.Reading.{alive_is, overdue_is}
use Rattle.laws_script_calls.specs.reactor_summary.proofs.Told as summary_told
use Rattle.laws_script_calls.specs.reactor_model.specs.declared.handler.Act.{Act}
use Rattle.laws_script_calls.specs.reactor_model.specs.declared.handler.Act.TheVariants.{Install}
use Rattle.laws_script_calls.specs.reactor_model.specs.declared.handler.Act.TheVariants.{MaskMine}
use Rattle.laws_script_calls.specs.reactor_model.specs.declared.handler.Act.TheVariants.{CancelMine}
use Rattle.laws_script_calls.specs.reactor_model.specs.declared.handler.Act.TheVariants.{Stop}
use Rattle.laws_script_calls.specs.reactor_core.specs.Acting.{ActAppends, StopAppends, mask_mine}
use Rattle.laws_script_calls.specs.reactor_core.specs.Acting.{cancel_mine}
use Rattle.laws_script_calls.specs.reactor_core.specs.Polling.{name_of, due_of, ready_of}
use Rattle.laws_script_calls.specs.reactor_core.specs.Registering.{registered}
use Rattle.laws_script_calls.specs.reactor_core.specs.Settling.{IsClosing, returned}
use Rattle.laws_script_calls.specs.reactor_core.specs.Stands.{Meaning}
use Rattle.laws_script_calls.specs.reactor_core.specs.Upcalls.{HasNoPick, JobFits, IsRunOf}
use Rattle.laws_script_calls.specs.reactor_core.specs.Views.{net_of, job_event}
use Rattle.laws_script_calls.specs.reactor_core.specs.declared.job.Done.{Done}
use Rattle.laws_script_calls.specs.reactor_core.specs.declared.job.Job.{Job}
use Rattle.laws_script_calls.specs.reactor_core.specs.declared.polling.Polled.{
  Polled as PolledAnswer,
}
use Rattle.tp_reactor.specs.reactor_desk.specs.Desks.{DeskStands, core_of}
use Rattle.tp_reactor.specs.reactor_desk.specs.Leading.{Leaves, MayHaveWaited, WaitedFor}
use Rattle.tp_reactor.specs.reactor_desk.specs.Leading.{Dispatches, Idles, IsOver, IsNotOver}
use Rattle.tp_reactor.specs.reactor_desk.specs.declared.terms.DeskTerms.{DeskTerms}
use Rattle.tp_reactor.specs.reactor_desk.specs.declared.desk.Desk.{Desk}
use Rattle.tp_reactor.specs.reactor_desk.specs.declared.leading.Led.{Led}
use Rattle.tp_reactor.specs.reactor_desk.specs.declared.leading.Led.TheVariants as led
use Rattle.tp_reactor.specs.Alone.{LeadsTo, ServesTo, RoundsTo, RunsTo}
use Rattle.tp_reactor.specs.Working.{ran_of}
use Rattle.tp_reactor.specs.declared.working.Ran.{Ran}
use Rattle.tp_reactor.specs.declared.working.Ran.TheVariants as ran
use Rattle.laws_script_calls.specs.event_script.specs.Script.{ScriptGroup, groups_told, steps_of}
use Rattle.laws_script_calls.specs.event_script.specs.Stories.{offers}
use Rattle.laws_script_calls.specs.log_handler.specs.declared.note.ServerNote.{ServerNote}
use Rattle.laws_script_calls.specs.laws_script_told.specs.Told.{is_over}
use Rattle.laws_script_calls.specs.reactor_model.specs.Entries.{is_notice}
use Rattle.laws_script_calls.specs.laws_script_runs.specs.Steps.{EachStep}
use Rattle.laws_script_calls.specs.Laws.{NamesAsServer}
use Rattle.laws_script_serial.specs.Serial.{IsSpent}
use Rattle.laws_one_worker.specs.Alone.{PlaysScript, at_first}
use Rattle.laws_one_worker.proofs.Pushing.{pushed, past_one, past_pushed, legal_before, none_before}
use Rattle.laws_one_worker.proofs.Pushing.{none_pushed, none_at_all}
use Rattle.laws_one_worker.proofs.Stepping.{is_free, is_brought, is_plain, is_turned, settles_free}
use Rattle.laws_one_worker.proofs.Stepping.{Steps, Between, Settled, Waited, all_plain}
use Rattle.laws_one_worker.proofs.Stepping.{settled_between, all_waited, over_here}
use Rattle.laws_one_worker.proofs.Answering.{answer_is}

-- ---- what is appended

all_due : (timers : List ℕ) → list_all is_brought (map due_of timers) ≡ true
all_due [] = refl
all_due (timer ∷ timers) = all_due timers

all_ready : (reports : List Report) → list_all is_brought (map ready_of reports) ≡ true
all_ready [] = refl
all_ready (report ∷ reports) = all_ready reports

all_wait : (timers : List ℕ) (reports : List Report)
    → list_all is_brought (map due_of timers ++ map ready_of reports) ≡ true
all_wait timers reports = list_all-append is_brought (map due_of timers) (map ready_of reports)
    ∙ and_from _ _ (all_due timers) (all_ready reports)

plain_timer : (s : Summary) (handle : Handle) (mask : Mask) (timer : Option (ℕ × ℕ))
    → list_all is_plain (registered s handle mask timer) ≡ true
plain_timer s handle mask None = refl
plain_timer s handle mask (Some timer) = refl

plain_mask : (b : Bool) (handle : Handle) (mask : Mask)
    → list_all is_plain (mask_mine b handle mask) ≡ true
plain_mask true handle mask = refl
plain_mask false handle mask = refl

plain_cancel : (b : Bool) (timer : ℕ) → list_all is_plain (cancel_mine b timer) ≡ true
plain_cancel true timer = refl
plain_cancel false timer = refl

plain_stop : (s : Summary) (b : Bool) (acted : List (Entry ServerNote)) → StopAppends s b acted
    → list_any is_ended acted ≡ false → list_all is_plain acted ≡ true
plain_stop s true acted a none = ap (list_all is_plain) a
plain_stop s false acted a none = absurd (both_ways _ none (ap (list_any is_ended) a.2))

plain_act : {H E : Type 0} (most : ℕ) (s : Summary) (handle : Handle)
    (act : Option (Act H ServerNote E)) (before after : ℕ) (acted : List (Entry ServerNote))
    → ActAppends most s handle act before after acted → list_any is_ended acted ≡ false
    → list_all is_plain acted ≡ true
plain_act most s handle None before after acted a none = ap (list_all is_plain) a
plain_act most s handle (Some (Install handler mask timer)) before after acted (inl a) none =
    ap (list_all is_plain) a.is ∙ plain_timer s a.handle mask timer
plain_act most s handle (Some (Install handler mask timer)) before after acted (inr a) none =
    ap (list_all is_plain) a.is
plain_act most s handle (Some (MaskMine mask)) before after acted a none =
    ap (list_all is_plain) a ∙ plain_mask _ handle mask
plain_act most s handle (Some (CancelMine timer)) before after acted a none =
    ap (list_all is_plain) a ∙ plain_cancel _ timer
plain_act most s handle (Some Stop) before after acted a none = plain_stop s s.ended acted a none

-- ---- the answers of waits

-- what is said of what a wait found, if it did not fail
abbrev OfFound : (PolledAnswer → Type 0) → Option PolledAnswer → Type 0
OfFound P None = Unit {0}
OfFound P (Some found) = P found

not_over : (answer : WaitAnswer) (found : PolledAnswer) → name_of answer ≡ Some found
    → IsNotOver found → is_over (Some answer) ≡ false
not_over (waited_by.Over now) found named n = absurd (subst (OfFound IsNotOver) (sym named) n)
not_over (waited_by.Reports now count) found named n = refl
not_over (waited_by.Quiet now) found named n = refl
not_over waited_by.Failed found named n = refl

pub is_over_named : (answer : WaitAnswer) (found : PolledAnswer) → name_of answer ≡ Some found
    → IsOver found → is_over (Some answer) ≡ true
is_over_named (waited_by.Over now) found named o = refl
is_over_named (waited_by.Reports now count) found named o =
    absurd (subst (OfFound IsOver) (sym named) o)
is_over_named (waited_by.Quiet now) found named o = absurd (subst (OfFound IsOver) (sym named) o)
is_over_named waited_by.Failed found named o = absurd (none named)
  where
    none : ◌≡◌ {A = Option PolledAnswer} None (Some found) → ⊥
    none q = cc

-- ---- the closing of a handler whose upcall was settled

and_false : (b : Bool) → (b && false) ≡ false
and_false true = refl
and_false false = refl

module _ (most : ℕ) (groups : List ScriptGroup) where
  dead : (past : List (Entry ServerNote)) (event : ℕ) (said : ServerNote) (x : ℕ)
      → is_legal most (Returned event Close said ∷ past) ≡ true
      → belongs_to x (event_at past event) ≡ true
      → S.is_alive (summary (Returned event Close said ∷ past)) x ≡ false
  dead past event said x legal of =
      let p : List (Entry ServerNote) = Returned event Close said ∷ past in
      alive_is most p (summary p) x legal (summary_told.told most p legal)
      ∙ ap (λ (b : Bool). was_opened past x && not (b || was_removed past x)) of
      ∙ and_false (was_opened past x)

  -- after a turn that did not end its handler that is closed, or not
  maybe_closed : (b : Bool) (e : Entry ServerNote) (past : List (Entry ServerNote))
      (handle : Handle) (closing : List (Entry ServerNote)) → is_turned (e ∷ past) ≡ true
      → IsClosing b handle closing → Settled groups (e ∷ past)
      → Settled groups (pushed (e ∷ past) closing)
  maybe_closed true e past handle closing turned c s =
      subst (λ (es : List (Entry ServerNote)). Settled groups (pushed (e ∷ past) es)) (sym c.1)
      (record {
        each = (
          record {
            settles = settles_free (e ∷ past) (Closed handle c.0) s.free;
            waits = tt;
            behind = λ ready. absurd (both_ways _ s.still ready);
            closes = λ closed. turned;
          },
          s.each,
        );
        free = refl;
        still = refl;
      })
  maybe_closed false e past handle closing turned c s =
      subst (λ (es : List (Entry ServerNote)). Settled groups (pushed (e ∷ past) es)) (sym c) s

  -- after the turn its handler is closed if it ended itself
  closed_or_kept : (past : List (Entry ServerNote)) (event : ℕ) (answer : Answer)
      (said : ServerNote) (handle : Handle) (closing : List (Entry ServerNote))
      → is_legal most (Returned event answer said ∷ past) ≡ true
      → belongs_to handle.0 (event_at past event) ≡ true
      → IsClosing (not (S.is_alive (summary (Returned event answer said ∷ past)) handle.0))
      handle closing → EachStep (Steps groups) (Returned event answer said ∷ past)
      → Settled groups (pushed (Returned event answer said ∷ past) closing)
  closed_or_kept past event Keep said handle closing legal of c each =
      maybe_closed _ (Returned event Keep said) past handle closing refl c
      (record { each = each; free = refl; still = refl })
  closed_or_kept past event Again said handle closing legal of c each =
      maybe_closed _ (Returned event Again said) past handle closing refl c
      (record { each = each; free = refl; still = refl })
  closed_or_kept past event Close said handle closing legal of c each =
      let d : IsClosing true handle closing =
      subst (λ (b : Bool). IsClosing (not b) handle closing)
      (dead past event said handle.0 legal of) c in
      subst (λ (es : List (Entry ServerNote)).
      Settled groups (pushed (Returned event Close said ∷ past) es)) (sym d.1) (record {
        each = (
          record {
            settles = of;
            waits = tt;
            behind = λ ready. absurd (false≢true ready);
            closes = λ closed. refl;
          },
          each,
        );
        free = refl;
        still = refl;
      })

  -- ---- a front of the run

  -- it is legal, was not stopped, and nobody posted
  pub record Front (list : List (Entry ServerNote)) : Type 0 where
    pub legal : is_legal most (past_of list) ≡ true
    pub going : ended (past_of list) ≡ false
    pub quiet : list_any is_notice (past_of list) ≡ false

  pub front_before : (h es : List (Entry ServerNote)) → Front (h ++ es) → Front h
  front_before h es f = record {
    legal = legal_before most (past_of h) es
        (sym (ap (is_legal most) (past_pushed h es)) ∙ f.legal);
    going = none_before is_ended (past_of h) es
        (sym (ap (list_any is_ended) (past_pushed h es)) ∙ f.going);
    quiet = none_before is_notice (past_of h) es
        (sym (ap (list_any is_notice) (past_pushed h es)) ∙ f.quiet);
  }

  -- no posting was drained
  pub none_drained : (h notices : List (Entry ServerNote))
      → list_any is_notice (past_of (h ++ notices)) ≡ false → list_all is_notice notices ≡ true
      → h ++ notices ≡ h
  none_drained h notices quiet all =
      ap (λ (es : List (Entry ServerNote)). h ++ es)
      (none_at_all is_notice is_notice (λ e q. q) notices all
      (none_pushed is_notice (past_of h) notices
      (sym (ap (list_any is_notice) (past_pushed h notices)) ∙ quiet)))
      ∙ append-nil h

module _ {H M Q W V E : Type 0} (m : Meaning H M Q W V ServerNote E) (q : DeskTerms)
    (groups : List ScriptGroup) (limit : q.run.limit ≡ Some None)
    (offers_are : q.run.offers ≡ Some (offers (steps_of groups)))
    (names : NamesAsServer m.means q.run) (plays : PlaysScript m q.run (groups_told groups))
  where
    abbrev most : ℕ
    most = q.run.most

    -- if nothing is to be started, no deadline is reached either
    pub spent : (first : ℕ) (d : Desk H M Q W V ServerNote E) (h : List (Entry ServerNote))
        → DeskStands m q first d h → HasNoPick (past_of h) → IsSpent (past_of h)
    spent first d h stood none = record {
      no_pick = none;
      none_due = sym (overdue_is most (past_of h) (summary (past_of h)) stood.core.tracks.legal
          (summary_told.told most (past_of h) stood.core.tracks.legal))
          ∙ stood.core.settled.none_due;
    }

    -- ---- a wait

    pub waits : (first : ℕ) (h entries : List (Entry ServerNote))
        (found new : Desk H M Q W V ServerNote E) (before : NetFacts E) (P : PolledAnswer → Type 0)
        → DeskStands m q first found h → m.keeps q.run (net_of (core_of new))
        → Reserves (m.facts (net_of (core_of found))) before
        → (w : WaitedFor None h before entries (m.facts (net_of (core_of new))) P)
        → Between groups (past_of h) → Waited groups (past_of (h ++ entries))
        (Some w.waits.answer)
    waits first h entries found new before P stood keeps reserves w b =
        let es = map due_of w.waits.timers
        ++ map ready_of (filter (Rattle.laws_script_calls.specs.reactor_core.specs.Calls.is_taken
        (summary (past_of h))) w.now.reports) in
        let past : past_of (h ++ entries) ≡ pushed (past_of h) (Polled w.waits.moment ∷ es) =
        past_pushed h entries ∙ ap (λ (l : List (Entry ServerNote)). pushed (past_of h) l)
        w.waits.are in
        let answer = answer_is m q (offers (steps_of groups)) (groups_told groups) limit offers_are
        names plays first h entries found new before P stood keeps reserves w in
        subst (λ (p : List (Entry ServerNote)). Waited groups p (Some w.waits.answer)) (sym past)
        (subst (λ (a : WaitAnswer). Waited groups (pushed (past_of h) (Polled w.waits.moment ∷ es))
        (Some a)) (sym answer)
        (all_waited groups (past_of h) w.waits.moment es (all_wait w.waits.timers _) b
        (spent first found h stood w.none)))

    -- ---- a lead that came to nothing

    -- what it leaves
    pub record Idle (P : PolledAnswer → Type 0) (list : List (Entry ServerNote)) : Type 0 where
      pub answer : WaitAnswer
      pub found : PolledAnswer
      pub named : name_of answer ≡ Some found
      pub is : P found
      pub waited : Waited groups (past_of list) (Some answer)
      pub spent : IsSpent (past_of list)
      pub stands : (first : ℕ) × (d : Desk H M Q W V ServerNote E) × DeskStands m q first d list

    pub idles : (first F : ℕ) (h : List (Entry ServerNote))
        (found new : Desk H M Q W V ServerNote E)
        (before : NetFacts E) (P : PolledAnswer → Type 0) (list : List (Entry ServerNote))
        → DeskStands m q first found h
        → Reserves (m.facts (net_of (core_of found))) before
        → Idles m q F h None before P new list → Between groups (past_of h) → Idle P list
    idles first F h found new before P list stood reserves i b =
        record {
          answer = i.waited.waits.answer;
          found = i.waited.polled;
          named = i.waited.waits.named;
          is = i.waited.found;
          waited = subst (λ (l : List (Entry ServerNote)).
              Waited groups (past_of l) (Some i.waited.waits.answer)) (sym i.leaves)
              (waits first h i.entries found new before P stood i.stands.core.tracks.keeps reserves
              i.waited b);
          spent = spent F new list i.stands i.none;
          stands = (F, new, i.stands);
        }

    quiet_between : (list : List (Entry ServerNote)) → Idle IsNotOver list
        → Between groups (past_of list)
    quiet_between list i = record {
      each = i.waited.each;
      free = i.waited.free;
      not_over = over_here groups (past_of list) (Some i.answer) i.waited
          ∙ not_over i.answer i.found i.named i.is;
    }

    lead_quiet : (h list : List (Entry ServerNote)) → LeadsTo m q None h led.Quiet list
        → Front most groups list → (Front most groups h → Between groups (past_of h))
        → Between groups (past_of list)
    lead_quiet h list l f before =
        let g = l.gives.1 in
        let there : Front most groups (h ++ g.notices) =
        front_before most groups (h ++ g.notices) g.gives.entries
        (subst (Front most groups) g.gives.leaves f) in
        let same = none_drained most groups h g.notices there.quiet g.are in
        quiet_between list (idles l.first g.first h l.found l.left g.net IsNotOver list l.stood
        g.reserves
        (subst (λ (x : List (Entry ServerNote)). Idles m q g.first x None g.net IsNotOver l.left list) same
        g.gives)
        (before (front_before most groups h g.notices there)))

    -- ---- a lead that gave a job

    pub record Starts (job : Job H ServerNote E) (list : List (Entry ServerNote)) : Type 0 where
      pub before : List (Entry ServerNote)
      pub is : past_of list ≡ Started (job_event job) ∷ before
      pub each : EachStep (Steps groups) (Started (job_event job) ∷ before)
      pub fits : JobFits m.means q.run (Started (job_event job) ∷ before) job

    -- the entries before the start
    pub record Ready (list : List (Entry ServerNote)) : Type 0 where
      pub each : EachStep (Steps groups) (past_of list)
      pub free : is_free (past_of list) ≡ true

    ready : (first : ℕ) (h waited : List (Entry ServerNote))
        (found new : Desk H M Q W V ServerNote E)
        (before : NetFacts E) → DeskStands m q first found h → m.keeps q.run (net_of (core_of new))
        → Reserves (m.facts (net_of (core_of found))) before
        → MayHaveWaited None h before waited (m.facts (net_of (core_of new)))
        → Between groups (past_of h) → Ready (h ++ waited)
    ready first h waited found new before stood keeps reserves (inl none) b =
        subst Ready (sym (ap (λ (es : List (Entry ServerNote)). h ++ es) none.0 ∙ append-nil h))
        (record { each = b.each; free = b.free })
    ready first h waited found new before stood keeps reserves (inr w) b =
        let e = waits first h waited found new before (λ (p : PolledAnswer). Unit {0}) stood keeps
        reserves w b in
        record { each = e.each; free = e.free }

    starts : (first F : ℕ) (h : List (Entry ServerNote)) (found new : Desk H M Q W V ServerNote E)
        (before : NetFacts E) (job : Job H ServerNote E) (list : List (Entry ServerNote))
        → DeskStands m q first found h
        → Reserves (m.facts (net_of (core_of found))) before
        → Dispatches m q F h None before job new list
        → Between groups (past_of h) → Starts job list
    starts first F h found new before job list stood reserves d b =
        let r = ready first h d.waited found new before stood d.stands.core.tracks.keeps reserves
        d.may b in
        record {
          before = past_of (h ++ d.waited);
          is = ap past_of d.leaves ∙ past_one (h ++ d.waited) (Started (job_event job));
          each = (
            record {
              settles = settles_free (past_of (h ++ d.waited))
                  (Started (job_event job)) r.free;
              waits = tt;
              behind = λ ready. refl;
              closes = λ c. absurd (false≢true c);
            },
            r.each,
          );
          fits = d.fits;
        }

    lead_job : (h list : List (Entry ServerNote)) (job : Job H ServerNote E)
        → LeadsTo m q None h (led.Job job) list → Front most groups list
        → (Front most groups h → Between groups (past_of h)) → Starts job list
    lead_job h list job l f before =
        let g = l.gives.1 in
        let there : Front most groups (h ++ g.notices) =
        front_before most groups (h ++ g.notices) g.gives.waited
        (front_before most groups ((h ++ g.notices) ++ g.gives.waited)
        (Started (job_event job) ∷ []) (subst (Front most groups) g.gives.leaves f)) in
        let same = none_drained most groups h g.notices there.quiet g.are in
        starts l.first g.first h l.found l.left g.net job list l.stood g.reserves
        (subst (λ (x : List (Entry ServerNote)).
        Dispatches m q g.first x None g.net job l.left list) same g.gives)
        (before (front_before most groups h g.notices there))

    -- ---- its settling

    settled_at : (mid : List (Entry ServerNote)) (job : Job H ServerNote E)
        (done : Done H ServerNote E) (closing acted : List (Entry ServerNote))
        (act : Option (Act H ServerNote E)) (before after : ℕ) (s : Summary)
        → Front most groups (((mid ++ returned done ∷ []) ++ closing) ++ acted) → Starts job mid
        → IsRunOf job done
        → IsClosing (not (S.is_alive (summary (returned done ∷ past_of mid)) done.handle.0))
        done.handle closing → ActAppends most s done.handle act before after acted
        → Between groups (past_of (((mid ++ returned done ∷ []) ++ closing) ++ acted))
    settled_at mid job done closing acted act before after s f st run c a =
        settled_between groups _ (subst (Settled groups)
        (sym (past_pushed ((mid ++ returned done ∷ []) ++ closing) acted))
        (all_plain groups (past_of ((mid ++ returned done ∷ []) ++ closing)) acted
        (plain_act most s done.handle act before after acted a none_ended)
        (subst (Settled groups) (sym (past_pushed (mid ++ returned done ∷ []) closing
        ∙ ap (λ (p : List (Entry ServerNote)). pushed p closing) (past_one mid (returned done))))
        closed)))
      where
        turned : Front most groups (mid ++ returned done ∷ [])
        turned = front_before most groups (mid ++ returned done ∷ []) closing
            (front_before most groups ((mid ++ returned done ∷ []) ++ closing) acted f)

        none_ended : list_any is_ended acted ≡ false
        none_ended = none_pushed is_ended (past_of ((mid ++ returned done ∷ []) ++ closing)) acted
            (sym (ap (list_any is_ended) (past_pushed ((mid ++ returned done ∷ []) ++ closing)
            acted))
            ∙ f.going)

        legal : is_legal most (returned done ∷ past_of mid) ≡ true
        legal = sym (ap (is_legal most) (past_one mid (returned done))) ∙ turned.legal

        parts : (may_follow most (past_of mid) (returned done) ≡ true)
            × (is_legal most (past_of mid) ≡ true)
        parts = and_parts _ _ legal

        -- the handle is that of the event
        at : event_at (past_of mid) (job_event job)
            ≡ Some (record { handle = job.handle.0; upcall = job.upcall })
        at =
            let o = returned_is_open most (past_of mid) (returned done) (job_event job) parts.0
            (eq-eqb done.event (job_event job) run.event) in
            let fits : S.open_event (summary (past_of mid)) job.event ≡ Some _ =
            ap (λ (p : List (Entry ServerNote)). S.open_event (summary p) job.event) st.is
            ∙ st.fits.event in
            sym (event_open_is (past_of mid) (summary (past_of mid)) (job_event job)
            (summary_told.told most (past_of mid) parts.1) o) ∙ ap (option_map S.event_of) fits

        of : belongs_to done.handle.0 (event_at (past_of mid) done.event) ≡ true
        of =
            ap (λ (e : ℕ). belongs_to done.handle.0 (event_at (past_of mid) e)) run.event
            ∙ ap (belongs_to done.handle.0) at
            ∙ eq-eqb job.handle.0 done.handle.0 (sym (ap (λ (h : Handle). h.0) run.handle))

        turn : Steps groups (Started (job_event job) ∷ st.before) (returned done)
        turn = record {
          settles = run.event;
          waits = tt;
          behind = λ ready. absurd (false≢true ready);
          closes = λ c. absurd (false≢true c);
        }

        each : EachStep (Steps groups) (returned done ∷ past_of mid)
        each = subst (λ (p : List (Entry ServerNote)). EachStep (Steps groups) (returned done ∷ p))
            (sym st.is) (turn, st.each)

        closed : Settled groups (pushed (returned done ∷ past_of mid) closing)
        closed = closed_or_kept most groups (past_of mid) done.event done.turn.answer done.turn.note
            done.handle closing legal of c each

    serves : (h list : List (Entry ServerNote)) → ServesTo m q None h list → Front most groups list
        → (Front most groups h → Between groups (past_of h)) → Between groups (past_of list)
    serves h list v f before =
        let s = v.settles.settles.settles in
        let whole : Front most groups (((v.between ++ returned v.done ∷ []) ++ s.closing)
        ++ s.acted) = subst (Front most groups) v.settles.leaves f in
        let mid : Front most groups v.between =
        front_before most groups v.between (returned v.done ∷ [])
        (front_before most groups (v.between ++ returned v.done ∷ []) s.closing
        (front_before most groups ((v.between ++ returned v.done ∷ []) ++ s.closing) s.acted
        whole)) in
        subst (λ (l : List (Entry ServerNote)). Between groups (past_of l)) (sym v.settles.leaves)
        (settled_at v.between v.job v.done s.closing s.acted v.done.turn.act _ _ _ whole
        (lead_job h v.between v.job v.leads mid before) v.run s.is_closing s.is_acted)

    -- ---- the rounds

    at_start : Between groups at_first
    at_start = record {
      each = (
        record {
          settles = tt;
          waits = tt;
          behind = λ ready. absurd (false≢true ready);
          closes = λ c. absurd (false≢true c);
        },
        tt,
      );
      free = refl;
      not_over = refl;
    }

    pub rounds : (n : ℕ) (list : List (Entry ServerNote)) → RoundsTo m q None n at_first list
        → Front most groups list → Between groups (past_of list)
    rounds zero list r f = subst (λ (l : List (Entry ServerNote)). Between groups (past_of l))
        (sym r)
        at_start
    rounds (suc n) list r f =
        ⊎_elim (λ (l : LeadsTo m q None r.0 led.Quiet list).
        lead_quiet r.0 list l f (rounds n r.0 r.1))
        (λ (v : ServesTo m q None r.0 list). serves r.0 list v f (rounds n r.0 r.1)) r.2

    -- ---- the last lead, whatever it gave

    between_ready : (list : List (Entry ServerNote)) → Between groups (past_of list) → Ready list
    between_ready list b = record { each = b.each; free = b.free }

    lead_over : (h list : List (Entry ServerNote)) → LeadsTo m q None h led.Over list
        → Front most groups list → (Front most groups h → Between groups (past_of h))
        → Idle IsOver list
    lead_over h list l f before =
        let g = l.gives.1 in
        let there : Front most groups (h ++ g.notices) =
        front_before most groups (h ++ g.notices) g.gives.entries
        (subst (Front most groups) g.gives.leaves f) in
        let same = none_drained most groups h g.notices there.quiet g.are in
        idles l.first g.first h l.found l.left g.net IsOver list l.stood g.reserves
        (subst (λ (x : List (Entry ServerNote)). Idles m q g.first x None g.net IsOver l.left list) same
        g.gives)
        (before (front_before most groups h g.notices there))

    lead_lost : (h list : List (Entry ServerNote)) → LeadsTo m q None h led.NoMemory list
        → Front most groups list → (Front most groups h → Between groups (past_of h)) → Ready list
    lead_lost h list l f before =
        let g = l.gives.1 in
        let there : Front most groups (h ++ g.notices) =
        front_before most groups (h ++ g.notices) g.gives.entries
        (subst (Front most groups) g.gives.leaves f) in
        let same = none_drained most groups h g.notices there.quiet g.are in
        let d : Leaves m q g.first h None g.net l.left list =
        subst (λ (x : List (Entry ServerNote)). Leaves m q g.first x None g.net l.left list) same
        g.gives in
        subst Ready (sym d.leaves) (ready l.first h d.entries l.found l.left g.net l.stood
        d.stands.core.tracks.keeps g.reserves d.may
        (before (front_before most groups h g.notices there)))

    lead_failed : (h list : List (Entry ServerNote)) → LeadsTo m q None h led.NetFault list
        → Front most groups list → (Front most groups h → Between groups (past_of h)) → Ready list
    lead_failed h list l f before =
        let g = l.gives.1 in
        let there : Front most groups (h ++ g.notices) = subst (Front most groups) g.gives.leaves f in
        let same = none_drained most groups h g.notices there.quiet g.are in
        subst Ready (sym (g.gives.leaves ∙ same))
        (between_ready h (before (front_before most groups h g.notices there)))

    lead_same : (h list : List (Entry ServerNote)) → list ≡ h → Front most groups list
        → (Front most groups h → Between groups (past_of h)) → Ready list
    lead_same h list is f before = subst Ready (sym is)
        (between_ready h (before (subst (Front most groups) is f)))

    lead_last : (h list : List (Entry ServerNote)) (l : Led H ServerNote E) (answer : Ran)
        → ran_of l ≡ Some answer → LeadsTo m q None h l list → Front most groups list
        → (Front most groups h → Between groups (past_of h)) → Ready list
    lead_last h list (led.Job job) answer is l f before = absurd (none is)
      where
        none : ◌≡◌ {A = Option Ran} None (Some answer) → ⊥
        none q = cc
    lead_last h list led.Quiet answer is l f before = absurd (none is)
      where
        none : ◌≡◌ {A = Option Ran} None (Some answer) → ⊥
        none q = cc
    lead_last h list led.Over answer is l f before = let i = lead_over h list l f before in
        record { each = i.waited.each; free = i.waited.free }
    lead_last h list led.NoMemory answer is l f before = lead_lost h list l f before
    lead_last h list led.NetFault answer is l f before = lead_failed h list l f before
    lead_last h list led.Stopped answer is l f before = lead_same h list l.gives.2 f before
    lead_last h list led.Broken answer is l f before = lead_same h list l.gives.3 f before
    lead_last h list led.VolumeFault answer is l f before = lead_same h list l.gives.2 f before

    -- a lead that ended the loop with Over
    over_lead : (h list : List (Entry ServerNote)) (l : Led H ServerNote E)
        → ran_of l ≡ Some ran.Over
        → LeadsTo m q None h l list → LeadsTo m q None h led.Over list
    over_lead h list led.Over is x = x
    over_lead h list (led.Job job) is x = absurd (none is)
      where
        none : ◌≡◌ {A = Option Ran} None (Some ran.Over) → ⊥
        none q = cc
    over_lead h list led.Quiet is x = absurd (none is)
      where
        none : ◌≡◌ {A = Option Ran} None (Some ran.Over) → ⊥
        none q = cc
    over_lead h list led.Stopped is x = absurd (other is)
      where
        other : ◌≡◌ {A = Option Ran} (Some ran.Stopped) (Some ran.Over) → ⊥
        other q = cc
    over_lead h list led.Broken is x = absurd (other is)
      where
        other : ◌≡◌ {A = Option Ran} (Some ran.Broken) (Some ran.Over) → ⊥
        other q = cc
    over_lead h list led.VolumeFault is x = absurd (other is)
      where
        other : ◌≡◌ {A = Option Ran} (Some ran.VolumeFault) (Some ran.Over) → ⊥
        other q = cc
    over_lead h list led.NetFault is x = absurd (other is)
      where
        other : ◌≡◌ {A = Option Ran} (Some ran.NetFault) (Some ran.Over) → ⊥
        other q = cc
    over_lead h list led.NoMemory is x = absurd (other is)
      where
        other : ◌≡◌ {A = Option Ran} (Some ran.NoMemory) (Some ran.Over) → ⊥
        other q = cc

    -- ---- the whole loop

    pub loop_ready : (answer : Ran) (list : List (Entry ServerNote))
        → RunsTo m q None at_first answer list → Front most groups list → Ready list
    loop_ready answer list r f = lead_last r.last list r.led answer r.answers r.leads f
        (rounds r.rounds r.last r.were)

    pub loop_over : (list : List (Entry ServerNote)) (r : RunsTo m q None at_first ran.Over list)
        → Front most groups list → Idle IsOver list
    loop_over list r f = lead_over r.last list (over_lead r.last list r.led r.answers r.leads) f
        (rounds r.rounds r.last r.were)
