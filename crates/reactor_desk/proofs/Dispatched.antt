-- What the steps of a lead come to.
use Rattle.std.proofs.Common.{ℕ, ◌≡◌, ◌≤◌, ◌+◌, ◌⊎◌, ⊎_elim, inl, inr, Bool, true, false, List, []}
use Rattle.std.specs.Prelude.{◌-◌, ◌^◌, nat_le, nat_lt}
use Rattle.std.proofs.lemmas.Bool.{and_parts, leb-true}
use Rattle.std.proofs.Common.{◌∷◌, ◌++◌, map, filter, drop, length, refl, sym, ap, ◌∙◌, subst}
use Rattle.std.proofs.Common.{arith, append-nil, IsTrue, Option, Some, None, Result, Ok, Err}
use Rattle.ev_base.specs.Counts.{Rose}
use Rattle.ev_base.specs.Net.{NetFacts, Reserves, FailsToWait}
use Rattle.ev_base.specs.ev_types.specs.declared.refusal.NoMemory.{NoMemory}
use Rattle.notify_ring.specs.Words.{drainer_view}
use Rattle.reactor_model.specs.reactor_journal.specs.declared.entry.Entry.{Entry}
use Rattle.reactor_model.specs.reactor_journal.specs.declared.entry.Entry.TheVariants as entry
use Rattle.reactor_model.specs.reactor_journal.specs.Past.{past_of, count, is_pick}
use Rattle.reactor_core.specs.reactor_summary.specs.Summary.{summary}
use Rattle.reactor_core.specs.Calls.{is_taken}
use Rattle.reactor_core.specs.HandingOver.{HandsOver, HandsDue, is_due}
use Rattle.reactor_core.specs.Polling.{Polls, due_of, ready_of}
use Rattle.reactor_core.specs.Stands.{Meaning, Stands, Keeps}
use Rattle.reactor_core.specs.Upcalls.{StartGives, HasNoPick, JobFits}
use Rattle.reactor_core.specs.declared.job.Job.{Job}
use Rattle.reactor_core.specs.declared.polling.Polled.{Polled}
use Rattle.reactor_core.specs.declared.polling.Polled.TheVariants as polled
use Rattle.reactor_core.specs.declared.reactor.Core.{Core}
use Rattle.notify_ring.specs.declared.parts.Drainer.{Drainer}
use Rattle.reactor_core.specs.Marks.{marks_found}
use Rattle.reactor_core.specs.declared.marks.WaitMarks.{WaitMarks}
use Rattle.reactor_core.specs.Refusals.{FailsOnce, LeavesPoll}
use Rattle.reactor_core.specs.declared.polling.PollRefused.{PollRefused}
use Rattle.reactor_core.specs.declared.polling.PollRefused.TheVariants as refusal
use Rattle.reactor_desk.specs.Desks.{DeskStands, FillsVolume, drainer_of, is_started}
use Rattle.reactor_desk.specs.Draining.{HasLooked, FoundEmpty, Drains}
use Rattle.reactor_desk.specs.Leading.{WaitsOnNet, IsOver, IsNotOver, StandsForStart, GivesBehind}
use Rattle.reactor_desk.specs.Leading.{DispatchGives, LeadsOn, MayLead, HasDrained, LeadGives}
use Rattle.reactor_desk.specs.Leading.{LeadTells, SomeList}
use Rattle.reactor_desk.specs.declared.terms.DeskTerms.{DeskTerms}
use Rattle.reactor_desk.specs.declared.desk.Desk.{Desk}
use Rattle.reactor_desk.specs.declared.leading.Led.{Led}
use Rattle.reactor_desk.specs.declared.leading.Led.TheVariants as led
use Rattle.reactor_desk.proofs.Brought.{brings_wait, brings_start, desk_more}
use Rattle.reactor_desk.proofs.Counting.{count_more}
use Rattle.reactor_desk.proofs.Marks.{reserved_same, reserved_then}

module _ {H M Q W V N E : Type 0} (m : Meaning H M Q W V N E) (q : DeskTerms) (F : ℕ)
    (h : List (Entry N)) where
  -- the core alone changed, and handed over as many as a volume has
  desk_handed : (old : Desk H M Q W V N E) (core : Core H M Q W V N E)
      → core.volume ≡ old.core.volume → (G : ℕ) → FillsVolume q.volume G
      → DeskStands m q F old h → Stands m q.run core G h
      → DeskStands m q G (record { core = core; drainer = old.drainer }) h
  desk_handed old core size G filled o stands = record {
    core = stands;
    by_turn = o.by_turn;
    volume = size ∙ o.volume;
    filled = filled;
    ring = o.ring;
    recorded = o.recorded;
    waits = o.waits;
    starts = o.starts;
  }

  -- the core alone changed, and stands as before
  pub desk_same : (old : Desk H M Q W V N E) (core : Core H M Q W V N E)
      → core.volume ≡ old.core.volume → DeskStands m q F old h → Stands m q.run core F h
      → DeskStands m q F (record { core = core; drainer = old.drainer }) h
  desk_same old core size o stands = desk_handed old core size F o.filled o stands

  -- the entry of a start
  pub desk_started : (old : Desk H M Q W V N E) (core : Core H M Q W V N E)
      → core.volume ≡ old.core.volume → (event : ℕ) → DeskStands m q F old h
      → count is_started (drop q.found h) + 1
      ≤ (drainer_view old.drainer).loads
      → Stands m q.run core F (h ++ entry.Started event ∷ [])
      → DeskStands m q F (record { core = core; drainer = old.drainer })
      (h ++ entry.Started event ∷ [])
  desk_started old core size event o looked stands =
      desk_more m q F h (entry.Started event ∷ []) old core size 0 1 (brings_start event) o stands
      (omega (arith, o.waits)) looked

  -- no upcall was started
  pub none_started : (core : Core H M Q W V N E) (found : Option (Job H N E)) → found ≡ None
      → StartGives m q.run F h found core → Stands m q.run core F h
  none_started core found is gives =
      (subst (λ (f : Option (Job H N E)). StartGives m q.run F h f core) is gives).1

  -- ---- after a wait

  pub behind_job : (old : Desk H M Q W V N E) (core : Core H M Q W V N E)
      → core.volume ≡ old.core.volume → (wait : Polled) (found : Option (Job H N E))
      (job : Job H N E) → found ≡ Some job → StandsForStart m q F old h
      → StartGives m q.run F h found core
      → GivesBehind m q F h wait (led.Job job) (record { core = core; drainer = old.drainer })
  behind_job old core size wait found job is o gives =
      let s = subst (λ (f : Option (Job H N E)). StartGives m q.run F h f core) is gives in
      (s.0, s.2, desk_started old core size job.event o.stands o.looked s.1)

  pub behind_over : (old : Desk H M Q W V N E) (core : Core H M Q W V N E)
      → core.volume ≡ old.core.volume → (wait : Polled) (found : Option (Job H N E))
      → wait ≡ polled.Over → found ≡ None → StandsForStart m q F old h
      → StartGives m q.run F h found core
      → GivesBehind m q F h wait led.Over (record { core = core; drainer = old.drainer })
  behind_over old core size wait found over is o gives =
      let s = subst (λ (f : Option (Job H N E)). StartGives m q.run F h f core) is gives in
      (subst IsOver (sym over) tt, s.0, desk_same old core size o.stands s.1)

  pub behind_quiet : (old : Desk H M Q W V N E) (core : Core H M Q W V N E)
      → core.volume ≡ old.core.volume → (wait : Polled) (found : Option (Job H N E))
      → IsNotOver wait → found ≡ None → StandsForStart m q F old h
      → StartGives m q.run F h found core
      → GivesBehind m q F h wait led.Quiet (record { core = core; drainer = old.drainer })
  behind_quiet old core size wait found quiet is o gives =
      let s = subst (λ (f : Option (Job H N E)). StartGives m q.run F h f core) is gives in
      (quiet, s.0, desk_same old core size o.stands s.1)

  -- ---- a wait

  pub record Brought (most : Option ℕ) (before : NetFacts E) (old : Desk H M Q W V N E)
      (core : Core H M Q W V N E) (wait : Polled) : Type 0 where
    pub entries : List (Entry N)
    pub waits : WaitsOnNet most h before wait entries (m.facts core.net)
    pub stands : StandsForStart m q F (record { core = core; drainer = old.drainer }) (h ++ entries)
    pub none : HasNoPick (past_of h)

  pub brought : (most : Option ℕ) (old : Desk H M Q W V N E) (mid core : Core H M Q W V N E)
      → core.volume ≡ old.core.volume → (found : Option (Job H N E)) (wait : Polled)
      → DeskStands m q F old h → HasLooked q old h
      → found ≡ None → StartGives m q.run F h found mid
      → Reserves (m.facts old.core.net) (m.facts mid.net)
      → (Stands m q.run mid F h → Polls m q.run F h most wait mid core)
      → Brought most (m.facts old.core.net) old core wait
  brought most old mid core size found wait o looked is gives reserves polls =
      let s = subst (λ (f : Option (Job H N E)). StartGives m q.run F h f mid) is gives in
      let p = polls s.1 in
      let w = p.waits in
      let b = brings_wait N w.now w.timers
      (filter (is_taken (summary (past_of h))) (m.facts core.net).reports) in
      record {
        entries = entry.Polled w.now ∷ (map due_of w.timers
            ++ map ready_of (filter (is_taken (summary (past_of h))) (m.facts core.net).reports));
        waits = record {
          net = p.net;
          answer = w.answer;
          moment = w.now;
          timers = w.timers;
          reserves = reserved_then _ _ _ reserves p.reserves;
          waits = w.waits;
          named = w.named;
          answered = w.moment;
          due = w.due;
          are = refl;
        };
        stands = record {
          stands = desk_more m q F h _ old core size 1 0 b o w.stands looked.waits
              (omega (arith, o.starts));
          looked = omega (
            arith,
            count_more is_started q.found h
                (entry.Polled w.now ∷ (map due_of w.timers
                ++ map ready_of (filter (is_taken (summary (past_of h)))
                (m.facts core.net).reports))),
            b.began,
            looked.starts,
          );
        };
        none = s.0;
      }

  -- what is given after the wait, given at once
  pub gives_after : (most : Option ℕ) (before : NetFacts E) (old new : Desk H M Q W V N E)
      (core : Core H M Q W V N E) (wait : Polled) (l : Led H N E)
      → (b : Brought most before old core wait) → Reserves (m.facts core.net) (m.facts new.core.net)
      → GivesBehind m q F (h ++ b.entries) wait l new
      → SomeList (DispatchGives m q F h most before l new)
  gives_after most before old new core wait (led.Job job) b stays g = (
    (h ++ b.entries) ++ entry.Started job.event ∷ [],
    record {
      waited = b.entries;
      may =
          inr (record {
            none = b.none;
            polled = wait;
            now = m.facts core.net;
            waits = b.waits;
            stays = stays;
            found = tt;
          });
      pick = g.0;
      fits = g.1;
      leaves = refl;
      stands = g.2;
    },
  )
  gives_after most before old new core wait led.Quiet b stays g = (
    h ++ b.entries,
    record {
      entries = b.entries;
      waited =
          record {
            none = b.none;
            polled = wait;
            now = m.facts core.net;
            waits = b.waits;
            stays = stays;
            found = g.0;
          };
      leaves = refl;
      none = g.1;
      stands = g.2;
    },
  )
  gives_after most before old new core wait led.Over b stays g = (
    h ++ b.entries,
    record {
      entries = b.entries;
      waited =
          record {
            none = b.none;
            polled = wait;
            now = m.facts core.net;
            waits = b.waits;
            stays = stays;
            found = g.0;
          };
      leaves = refl;
      none = g.1;
      stands = g.2;
    },
  )
  gives_after most before old new core wait led.NoMemory b stays g = (
    h ++ b.entries,
    record {
      entries = b.entries;
      may =
          inr (record {
            none = b.none;
            polled = wait;
            now = m.facts core.net;
            waits = b.waits;
            stays = stays;
            found = tt;
          });
      leaves = refl;
      stands = g;
    },
  )
  gives_after most before old new core wait led.NetFault b stays g = absurd g
  gives_after most before old new core wait led.Stopped b stays g = absurd g
  gives_after most before old new core wait led.Broken b stays g = absurd g
  gives_after most before old new core wait led.VolumeFault b stays g = absurd g

  -- ---- without a wait

  pub gives_job : (most : Option ℕ) (old : Desk H M Q W V N E) (core : Core H M Q W V N E)
      → core.volume ≡ old.core.volume → (found : Option (Job H N E)) (job : Job H N E)
      → found ≡ Some job → DeskStands m q F old h
      → HasLooked q old h → Reserves (m.facts old.core.net) (m.facts core.net)
      → StartGives m q.run F h found core
      → SomeList (DispatchGives m q F h most (m.facts old.core.net) (led.Job job)
      (record { core = core; drainer = old.drainer }))
  gives_job most old core size found job is o looked stays gives =
      let s = subst (λ (f : Option (Job H N E)). StartGives m q.run F h f core) is gives in
      let nil : h ≡ h ++ [] = sym (append-nil h) in (
        (h ++ []) ++ entry.Started job.event ∷ [],
        record {
          waited = [];
          may = inl (refl, stays);
          pick = subst (λ k. IsTrue (is_pick (past_of k) job.event)) nil s.0;
          fits = subst (λ k. JobFits m.means q.run (entry.Started job.event ∷ past_of k) job) nil s.2;
          leaves = refl;
          stands = subst (λ k. DeskStands m q F (record { core = core; drainer = old.drainer })
              (k ++ entry.Started job.event ∷ [])) nil
              (desk_started old core size job.event o looked.starts s.1);
        },
      )

  pub gives_nothing : (most : Option ℕ) (before : NetFacts E) (old : Desk H M Q W V N E)
      (core : Core H M Q W V N E) → core.volume ≡ old.core.volume → DeskStands m q F old h
      → Reserves before (m.facts core.net)
      → Stands m q.run core F h → SomeList (DispatchGives m q F h most before led.NoMemory
      (record { core = core; drainer = old.drainer }))
  gives_nothing most before old core size o stays stands = (
    h,
    record {
      entries = [];
      may = inl (refl, stays);
      leaves = sym (append-nil h);
      stands = desk_same old core size o stands;
    },
  )

  pub gives_fault : (most : Option ℕ) (old : Desk H M Q W V N E) (mid core : Core H M Q W V N E)
      → core.volume ≡ old.core.volume → (found : Option (Job H N E)) → found ≡ None
      → DeskStands m q F old h
      → StartGives m q.run F h found mid → Reserves (m.facts old.core.net) (m.facts mid.net)
      → (Stands m q.run mid F h → Stands m q.run core F h) → (refused : PollRefused)
      → refused ≡ refusal.NetFailed → LeavesPoll m mid (Err refused) core
      → SomeList (DispatchGives m q F h most (m.facts old.core.net) led.NetFault
      (record { core = core; drainer = old.drainer }))
  gives_fault most old mid core size found is o gives reserves stands refused named leaves =
      let s = subst (λ (f : Option (Job H N E)). StartGives m q.run F h f mid) is gives in
      let f : FailsOnce m FailsToWait mid core =
      subst (λ (r : PollRefused). LeavesPoll m mid (Err r) core) named leaves in (
        h,
        record {
          none = s.0;
          fails = record {
            net = m.facts f.between.net;
            reserves = reserved_then _ _ _ reserves f.kept.net;
            fails = f.fails.0;
          };
          leaves = refl;
          stands = desk_same old core size o (stands s.1);
        },
      )

  -- there was no memory for a wait
  pub unwaited : (mid core : Core H M Q W V N E) (before : NetFacts E)
      → Reserves before (m.facts mid.net) → (refused : PollRefused) → refused ≡ refusal.NoMemory
      → LeavesPoll m mid (Err refused) core → Reserves before (m.facts core.net)
  unwaited mid core before reserves refused named leaves =
      let k : Keeps m mid core = subst (λ (r : PollRefused). LeavesPoll m mid (Err r) core) named
      leaves in
      reserved_then _ _ _ reserves k.net

  -- ---- a volume handed over

  pub record HandedOver (old : Desk H M Q W V N E) (core : Core H M Q W V N E) : Type 0 where
    pub first : ℕ
    pub within : first ≤ length h
    pub stands : DeskStands m q first (record { core = core; drainer = old.drainer }) h

  pub handed_over : (n : ℕ) (old : Desk H M Q W V N E) (core : Core H M Q W V N E)
      → DeskStands m q F old h → HandsOver m q.run F h n old.core core → HandedOver old core
  handed_over n old core o hands = by_due (is_due old.core F h) refl hands.handed
    where
      enough : is_due old.core F h ≡ true → q.volume ≤ length h
      enough due = omega (
        arith,
        leb-true old.core.volume (length h - F)
            (and_parts (nat_le old.core.volume (length h - F)) (nat_lt (length h) (2 ^ 62)) due).0,
        o.volume,
      )

      by_due : (b : Bool) → is_due old.core F h ≡ b → HandsDue b m q.run F h n old.core core
          → HandedOver old core
      by_due true due d = record {
        first = length h;
        within = omega arith;
        stands = desk_handed old core hands.others.volume (length h) (λ some. enough due) o d.1;
      }
      by_due false due d = record {
        first = F;
        within = o.core.tracks.journal.within;
        stands =
            desk_same old core hands.others.volume o
            (subst (λ (c : Core H M Q W V N E). Stands m q.run c F h)
            (sym d.1)
            o.core);
      }

  -- there was no memory for a volume
  pub leads_nowhere : (most : Option ℕ) (old : Desk H M Q W V N E) (core : Core H M Q W V N E)
      → core.volume ≡ old.core.volume → DeskStands m q F old h → core.net ≡ old.core.net
      → Stands m q.run core F h
      → SomeList (LeadsOn m q F h most old led.NoMemory
      (record { core = core; drainer = old.drainer }))
  leads_nowhere most old core size o same stands =
      let g = subst (λ k. SomeList (DispatchGives m q F k most (m.facts old.core.net) led.NoMemory
      (record { core = core; drainer = old.drainer }))) (sym (append-nil h))
      (gives_nothing most (m.facts old.core.net) old core size o
      (subst (λ n. Reserves (m.facts old.core.net) (m.facts n)) (sym same)
      (reserved_same (m.facts old.core.net))) stands) in (
        g.0,
        record {
          first = F;
          within = o.core.tracks.journal.within;
          notices = [];
          are = refl;
          few = omega arith;
          drained = tt;
          net = m.facts old.core.net;
          reserves = reserved_same (m.facts old.core.net);
          gives = g.1;
        },
      )

  few_are : (h' : List (Entry N)) (result : Result ℕ NoMemory) (first : ℕ)
      (mid new : Desk H M Q W V N E) → (d : Drains m q first h' result mid new)
      → length d.some.notices ≤ 256
  few_are h' result first mid new d = omega (arith, d.some.many, d.few)

  -- there was no memory for a posting
  pub leads_drained : (most : Option ℕ) (old new : Desk H M Q W V N E) (core : Core H M Q W V N E)
      (result : Result ℕ NoMemory) → (over : HandedOver old core) → core.net ≡ old.core.net
      → Drains m q over.first h result (record { core = core; drainer = old.drainer }) new
      → Reserves (m.facts core.net) (m.facts new.core.net)
      → SomeList (LeadsOn m q F h most old led.NoMemory new)
  leads_drained most old new core result over same d reserves = (
    h ++ d.some.notices,
    record {
      first = over.first;
      within = over.within;
      notices = d.some.notices;
      are = d.some.are;
      few = few_are h result over.first _ new d;
      drained = tt;
      net = m.facts new.core.net;
      reserves = subst (λ n. Reserves (m.facts n) (m.facts new.core.net)) same reserves;
      gives = record {
        entries = [];
        may = inl (refl, reserved_same (m.facts new.core.net));
        leaves = sym (append-nil (h ++ d.some.notices));
        stands = d.some.stands;
      };
    },
  )

  -- 256 were drained, or the ring was found empty, and the drainer was left alone since
  drained_is : (l : Led H N E) (n : ℕ) (notices : List (Entry N)) (mid new : Desk H M Q W V N E)
      → length notices ≡ n → (n ≡ 256) ⊎ FoundEmpty mid → drainer_of new ≡ drainer_of mid
      → HasDrained l notices new
  drained_is l n notices mid new many found same =
      by_led l (subst (λ (x : Drainer). (length notices ≡ 256) ⊎ ((drainer_view x).gate ≡ 0))
      (sym same) (⊎_elim (λ (a : n ≡ 256). inl (many ∙ a)) (λ (b : FoundEmpty mid). inr b) found))
    where
      by_led : (l : Led H N E) → (length notices ≡ 256) ⊎ FoundEmpty new → HasDrained l notices new
      by_led (led.Job job) p = p
      by_led led.Quiet p = p
      by_led led.Over p = p
      by_led led.Stopped p = p
      by_led led.Broken p = p
      by_led led.VolumeFault p = p
      by_led led.NetFault p = p
      by_led led.NoMemory p = tt

  pub leads_on : (most : Option ℕ) (old mid new : Desk H M Q W V N E) (core : Core H M Q W V N E)
      (n : ℕ) (l : Led H N E) → (over : HandedOver old core) → core.net ≡ old.core.net
      → (d : Drains m q over.first h (Ok n) (record { core = core; drainer = old.drainer }) mid)
      → Reserves (m.facts core.net) (m.facts mid.core.net)
      → SomeList (DispatchGives m q over.first (h ++ d.some.notices) most (m.facts mid.core.net) l
      new)
      → drainer_of new ≡ drainer_of mid → SomeList (LeadsOn m q F h most old l new)
  leads_on most old mid new core n l over same d reserves gives left = (
    gives.0,
    record {
      first = over.first;
      within = over.within;
      notices = d.some.notices;
      are = d.some.are;
      few = few_are h (Ok n) over.first _ mid d;
      drained = drained_is l n d.some.notices mid new (d.some.many ∙ sym d.answer.0) d.answer.1 left;
      net = m.facts mid.core.net;
      reserves = subst (λ n. Reserves (m.facts n) (m.facts mid.core.net)) same reserves;
      gives = gives.1;
    },
  )

  -- if no volume was due
  abbrev pub as_found : (old : Desk H M Q W V N E) → DeskStands m q F old h
      → HandedOver old old.core
  as_found old o = record { first = F; within = o.core.tracks.journal.within; stands = o }

  -- what a lead came to after the volume, it came to with it
  pub leads_since : (most : Option ℕ) (old new : Desk H M Q W V N E) (core : Core H M Q W V N E)
      (l : Led H N E) (G : ℕ) → core.net ≡ old.core.net
      → SomeList (LeadsOn m q G h most (record { core = core; drainer = old.drainer }) l new)
      → SomeList (LeadsOn m q F h most old l new)
  leads_since most old new core l G same (list, on) = (
    list,
    record {
      first = on.first;
      within = on.within;
      notices = on.notices;
      are = on.are;
      few = on.few;
      drained = on.drained;
      net = on.net;
      reserves = subst (λ n. Reserves (m.facts n) on.net) same on.reserves;
      gives = on.gives;
    },
  )

  -- a dispatch hands nothing over
  pub first_dispatched : (most : Option ℕ) (before : NetFacts E) (l : Led H N E)
      (new : Desk H M Q W V N E) (list : List (Entry N))
      → DispatchGives m q F h most before l new list → new.core.first ≡ F
  first_dispatched most before (led.Job job) new list g = g.stands.core.tracks.journal.first
  first_dispatched most before led.Quiet new list g = g.stands.core.tracks.journal.first
  first_dispatched most before led.Over new list g = g.stands.core.tracks.journal.first
  first_dispatched most before led.NetFault new list g = g.stands.core.tracks.journal.first
  first_dispatched most before led.NoMemory new list g = g.stands.core.tracks.journal.first
  first_dispatched most before led.Stopped new list g = absurd g
  first_dispatched most before led.Broken new list g = absurd g
  first_dispatched most before led.VolumeFault new list g = absurd g

  -- what the whole lead gives
  pub lead_gives : (most : Option ℕ) (old new : Desk H M Q W V N E) (l : Led H N E)
      → MayLead m h old → SomeList (LeadsOn m q F h most old l new)
      → SomeList (LeadGives m q F h most old l new)
  lead_gives most old new (led.Job job) r on = (on.0, (r, on.1))
  lead_gives most old new led.Quiet r on = (on.0, (r, on.1))
  lead_gives most old new led.Over r on = (on.0, (r, on.1))
  lead_gives most old new led.NetFault r on = (on.0, (r, on.1))
  lead_gives most old new led.NoMemory r on = (on.0, (r, on.1))
  lead_gives most old new led.Stopped r on = absurd on.1.gives
  lead_gives most old new led.Broken r on = absurd on.1.gives
  lead_gives most old new led.VolumeFault r on = absurd on.1.gives

-- ---- what a lead tells by the counts

module _ {H M Q W V N E : Type 0} (m : Meaning H M Q W V N E) where
  -- if a wait was answered Over, its number is that of the last wait
  over_is : (old new : WaitMarks) (polled : Polled) → IsOver polled
      → new ≡ marks_found (Some polled) old → new.over ≡ new.made
  over_is old new polled.Over over is =
      ap (λ (w : WaitMarks). w.over) is ∙ sym (ap (λ (w : WaitMarks). w.made) is)
  over_is old new polled.Events over is = absurd over
  over_is old new polled.Quiet over is = absurd over

  -- and else the last such wait is that of before
  over_stands : (old new : WaitMarks) (polled : Polled) → IsNotOver polled
      → new ≡ marks_found (Some polled) old → new.over ≡ old.over
  over_stands old new polled.Over not is = absurd not
  over_stands old new polled.Events not is = ap (λ (w : WaitMarks). w.over) is
  over_stands old new polled.Quiet not is = ap (λ (w : WaitMarks). w.over) is

  -- the lead after a wait: with Over the wait was answered so
  pub tells_behind : (q : DeskTerms) (F : ℕ) (h : List (Entry N)) (polled : Polled) (l : Led H N E)
      (before : WaitMarks) (old new : Desk H M Q W V N E) → GivesBehind m q F h polled l new
      → new.core.marks ≡ marks_found (Some polled) before → before.over ≡ old.core.marks.over
      → LeadTells m old l new
  tells_behind q F h polled (led.Job job) before old new g is same = tt
  tells_behind q F h polled led.Quiet before old new g is same =
      over_stands before new.core.marks polled g.0 is ∙ same
  tells_behind q F h polled led.Over before old new g is same =
      λ t G k o. over_is before new.core.marks polled g.0 is ∙ o.core.tracks.marks.made
  tells_behind q F h polled led.NoMemory before old new g is same = tt
  tells_behind q F h polled led.NetFault before old new g is same = absurd g
  tells_behind q F h polled led.Stopped before old new g is same = absurd g
  tells_behind q F h polled led.Broken before old new g is same = absurd g
  tells_behind q F h polled led.VolumeFault before old new g is same = absurd g

  -- the dispatch of a lead tells it of the whole, whose count of failed waits stood until then
  pub tells_of : (l : Led H N E) (old mid new : Desk H M Q W V N E)
      → (m.facts mid.core.net).failed_waits ≡ (m.facts old.core.net).failed_waits
      → (m.volumes mid.core.volumes).faults ≡ (m.volumes old.core.volumes).faults
      → mid.core.marks.over ≡ old.core.marks.over → LeadTells m mid l new → LeadTells m old l new
  tells_of (led.Job job) old mid new waits faults over g = tt
  tells_of led.Quiet old mid new waits faults over g = g ∙ over
  tells_of led.Over old mid new waits faults over g = g
  tells_of led.NoMemory old mid new waits faults over g = tt
  tells_of led.NetFault old mid new waits faults over g =
      subst (λ n. Rose n (m.facts new.core.net).failed_waits) waits g
  tells_of led.Stopped old mid new waits faults over g = tt
  tells_of led.Broken old mid new waits faults over g = g
  tells_of led.VolumeFault old mid new waits faults over g =
      subst (λ n. Rose n (m.volumes new.core.volumes).faults) faults g
