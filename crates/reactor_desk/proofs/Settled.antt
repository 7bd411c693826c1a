-- The entries of a settling go by turns, and its event is open no more.
use Rattle.std.proofs.Common.{ℕ, ◌≡◌, ◌≤◌, ◌+◌, ◌==◌, ⊎_elim, Bool, true, false, not, List, [], ◌∷◌}
use Rattle.std.proofs.Common.{◌++◌, filter, length, refl, sym, ap, ◌∙◌, subst, arith, cond, is_some}
use Rattle.std.proofs.Common.{Option, Some, None}
use Rattle.std.proofs.lemmas.Bool.{and_from, eqb-true}
use Rattle.std.proofs.lemmas.List.{append_assoc}
use Rattle.std.proofs.lemmas.List.Folds.{list_all-append}
use Rattle.std.specs.List.{list_all}
use Rattle.ev_base.specs.ev_types.specs.declared.upcall.Handle.{Handle}
use Rattle.ev_base.specs.Terms.{Terms}
use Rattle.ev_base.specs.ev_types.specs.declared.upcall.Mask.{Mask}
use Rattle.ev_base.specs.ev_types.specs.declared.upcall.Upcall.{Upcall}
use Rattle.std.proofs.lemmas.List.{length-reverse}
use Rattle.reactor_model.specs.reactor_journal.specs.Event.{Event, Origin}
use Rattle.reactor_model.specs.reactor_journal.specs.declared.entry.Entry.{Entry}
use Rattle.reactor_model.specs.reactor_journal.specs.declared.entry.Entry.TheVariants.{Removed}
use Rattle.reactor_model.specs.reactor_journal.specs.declared.entry.Entry.TheVariants.{Closed}
use Rattle.reactor_model.specs.reactor_journal.specs.declared.entry.Entry.TheVariants.{Ended}
use Rattle.reactor_model.specs.reactor_journal.specs.Past as P
use Rattle.reactor_model.specs.reactor_journal.specs.Past.{past_of, ended, now}
use Rattle.reactor_model.specs.reactor_journal.proofs.Basics.{event_at-before}
use Rattle.reactor_model.specs.reactor_journal.proofs.Turning.{past_of-more, past_of-append}
use Rattle.reactor_core.specs.reactor_summary.specs.Summary.{summary}
use Rattle.reactor_core.specs.reactor_summary.specs.declared.parts.LiveHandle.{LiveHandle}
use Rattle.reactor_model.specs.Handling.{Handling, Deed, Installing, Masking, Cancelling, Stopping}
use Rattle.reactor_model.specs.Turns.{MayAct, IsInstall}
use Rattle.reactor_model.specs.declared.handler.Act.{Act}
use Rattle.reactor_model.specs.declared.handler.Act.TheVariants.{Install, MaskMine, CancelMine}
use Rattle.reactor_model.specs.declared.handler.Act.TheVariants.{Stop}
use Rattle.reactor_core.specs.Acting.{ActAppends, StopAppends, InstallAppends, IsRegistration}
use Rattle.reactor_core.specs.Acting.{IsRefusal, Settles, mask_mine, cancel_mine}
use Rattle.reactor_core.specs.Registering.{registered}
use Rattle.reactor_core.specs.Removing.{AreRemovals}
use Rattle.reactor_core.specs.Settling.{IsClosing, returned}
use Rattle.reactor_core.specs.Stands.{Meaning, Stands}
use Rattle.reactor_core.specs.Upcalls.{DoneFits}
use Rattle.reactor_core.specs.declared.reactor.Core.{Core}
use Rattle.reactor_core.specs.declared.acting.Settled.{Settled}
use Rattle.reactor_core.specs.declared.job.Done.{Done}
use Rattle.laws_by_turns.specs.ByTurns.{MayHere, OffersBehind, IsOfferBehind, EachGoesByTurn}
use Rattle.laws_by_turns.specs.ByTurns.{BeginsWithNoTimer, is_dispatching}
use Rattle.laws_by_turns.proofs.Turns.{by_turns_block}
use Rattle.reactor_desk.specs.Desks.{DeskStands}
use Rattle.reactor_desk.specs.Settling.{SettlesDesk}
use Rattle.reactor_desk.specs.declared.terms.DeskTerms.{DeskTerms}
use Rattle.reactor_desk.specs.declared.desk.Desk.{Desk}
use Rattle.reactor_desk.proofs.Requested.{NoneDispatching, desk_asked}
use Rattle.leader_token.specs.list_lemmas.proofs.Times.{times_filter}
use Rattle.reactor_desk.proofs.Opens.{is_still, opens_still, opens_more}
use Rattle.leader_token.specs.Lists.{is_event, Begins}
use Rattle.leader_token.specs.list_lemmas.specs.Times.{times}
use Rattle.reactor_core.specs.laws_turns.specs.Opens.{opens_of}
use Rattle.reactor_core.specs.laws_turns.proofs.Opens.{moment_is, opens_are}
use Rattle.reactor_core.proofs.Moves.{found_open}

-- ---- removals

removals_still : {N : Type 0} (busy : ℕ → Bool) (hs : List LiveHandle) (es : List (Entry N))
    → AreRemovals busy hs es → list_all is_still es ≡ true
removals_still busy [] es r = ap (list_all is_still) r
removals_still {N} busy (a ∷ hs) es r =
    ap (list_all is_still) r.4 ∙ (list_all-append is_still r.0 r.1
    ∙ and_from _ _ (closed (not (busy a.handle.0)) r.2) (removals_still busy hs r.1 r.3))
  where
    closed : (c : Bool) → IsClosing c a.handle r.0 → list_all is_still r.0 ≡ true
    closed true is = ap (list_all is_still) is.1
    closed false is = ap (list_all is_still) is

-- removals are no dispatching
pub removals_none : {N : Type 0} (busy : ℕ → Bool) (hs : List LiveHandle) (es : List (Entry N))
    → AreRemovals busy hs es → NoneDispatching es
removals_none busy [] es r = ap (list_all (λ e. not (is_dispatching e))) r
removals_none {N} busy (a ∷ hs) es r =
    ap (list_all (λ e. not (is_dispatching e))) r.4
    ∙ (list_all-append (λ e. not (is_dispatching e)) r.0 r.1
    ∙ and_from _ _ (closed (not (busy a.handle.0)) r.2) (removals_none busy hs r.1 r.3))
  where
    closed : (c : Bool) → IsClosing c a.handle r.0
        → list_all (λ e. not (is_dispatching e)) r.0 ≡ true
    closed true is = ap (list_all (λ e. not (is_dispatching e))) is.1
    closed false is = ap (list_all (λ e. not (is_dispatching e))) is

removals_go : {H E N : Type 0} (means : Handling H E N) (t : Terms) (b : ℕ) (past : List (Entry N))
    (busy : ℕ → Bool) (hs : List LiveHandle) (es : List (Entry N)) → ended past ≡ true
    → AreRemovals busy hs es → NoneDispatching es × EachGoesByTurn means t b past es
removals_go means t b past busy [] es stopped r =
    subst (λ k. NoneDispatching k × EachGoesByTurn means t b past k) (sym r) (refl, tt)
removals_go {H} {E} {N} means t b past busy (a ∷ hs) es stopped r =
    subst (λ k. NoneDispatching k × EachGoesByTurn means t b past k) (sym r.4)
    (closed (not (busy a.handle.0)) r.2 (λ p q. removals_go means t b p busy hs r.1 q r.3))
  where
    closed : (c : Bool) → IsClosing c a.handle r.0
        → ((p : List (Entry N)) → ended p ≡ true → NoneDispatching r.1
        × EachGoesByTurn means t b p r.1) → NoneDispatching (Removed a.handle ∷ (r.0 ++ r.1))
        × EachGoesByTurn means t b past (Removed a.handle ∷ (r.0 ++ r.1))
    closed true is rest = subst (λ (k : List (Entry N)).
        NoneDispatching (Removed a.handle ∷ (k ++ r.1))
        × EachGoesByTurn means t b past (Removed a.handle ∷ (k ++ r.1))) (sym is.1)
        (let g = rest (Closed a.handle is.0 ∷ Removed a.handle ∷ past) stopped in
        (g.0, (stopped, (tt, g.1))))
    closed false is rest = subst (λ (k : List (Entry N)).
        NoneDispatching (Removed a.handle ∷ (k ++ r.1))
        × EachGoesByTurn means t b past (Removed a.handle ∷ (k ++ r.1))) (sym is)
        (let g = rest (Removed a.handle ∷ past) stopped in (g.0, (stopped, g.1)))

-- ---- the act

-- what the act of a turn appends, after this past
pub record ActGoes {H E N : Type 0} (means : Handling H E N) (t : Terms) (b : ℕ)
    (past es : List (Entry N)) (act : Option (Act H N E)) : Type 0 where
  pub none_dispatching : NoneDispatching es
  pub still : list_all is_still es ≡ true
  pub goes : EachGoesByTurn means t b past es
  pub no_timer : BeginsWithNoTimer es
  pub offers : IsInstall act → IsOfferBehind es
  pub offers_next : IsInstall act → OffersBehind es

module _ {H E N : Type 0} (means : Handling H E N) (t : Terms) (b : ℕ) (past : List (Entry N))
    (up : Upcall) (origin : Origin N) (here : (deed : Deed) → means.may t up deed
    → MayHere means t past deed) (within : b ≤ length past) where
  acts_not : (act : Option (Act H N E)) (es : List (Entry N)) → (IsInstall act → ⊥) → es ≡ []
      → ActGoes means t b past es act
  acts_not act es not_install is = subst (λ k. ActGoes means t b past k act) (sym is)
      (record {
        none_dispatching = refl;
        still = refl;
        goes = tt;
        no_timer = tt;
        offers = λ i. absurd (not_install i);
        offers_next = λ i. absurd (not_install i);
      })

  registration_goes : (handler : H) (mask : Mask) (timer : Option (ℕ × ℕ)) (handle : Handle)
      → means.may t up (Installing mask timer)
      → ActGoes means t b past (registered (summary past) handle mask timer)
      (Some (Install handler mask timer))
  registration_goes handler mask None handle may =
      record {
        none_dispatching = refl;
        still = refl;
        goes = ((None, refl, here (Installing mask None) may), tt);
        no_timer = tt;
        offers = λ i. tt;
        offers_next = λ i. tt;
      }
  registration_goes handler mask (Some timer) handle may = record {
    none_dispatching = refl;
    still = refl;
    goes = (
      (
        Some timer,
        (timer.0, ap (λ (n : ℕ). n + timer.0) (moment_is past), refl),
        here (Installing mask (Some timer)) may,
      ),
      ((refl, within), tt),
    );
    no_timer = tt;
    offers = λ i. tt;
    offers_next = λ i. tt;
  }

  install_goes : (most : ℕ) (handler : H) (mask : Mask) (timer : Option (ℕ × ℕ)) (before after : ℕ)
      (es : List (Entry N)) → InstallAppends most (summary past) mask timer before after es
      → means.may t up (Installing mask timer)
      → ActGoes means t b past es (Some (Install handler mask timer))
  install_goes most handler mask timer before after es appends may =
      ⊎_elim
      (λ (r : IsRegistration most (summary past) mask timer es).
      subst (λ k. ActGoes means t b past k (Some (Install handler mask timer))) (sym r.is)
      (registration_goes handler mask timer r.handle may))
      (λ (r : IsRefusal most (summary past) before after es).
      subst (λ k. ActGoes means t b past k (Some (Install handler mask timer))) (sym r.is)
      (record {
        none_dispatching = refl;
        still = refl;
        goes = ((mask, timer, here (Installing mask timer) may), tt);
        no_timer = tt;
        offers = λ i. tt;
        offers_next = λ i. tt;
      }))
      appends

  mask_goes : (alive : Bool) (handle : Handle) (mask : Mask) → means.may t up Masking
      → ActGoes means t b past (mask_mine alive handle mask) (Some (MaskMine mask))
  mask_goes true handle mask may = record {
    none_dispatching = refl;
    still = refl;
    goes = (here Masking may, tt);
    no_timer = tt;
    offers = λ i. absurd i;
    offers_next = λ i. absurd i;
  }
  mask_goes false handle mask may = acts_not (Some (MaskMine mask)) [] (λ i. i) refl

  cancel_goes : (mine : Bool) (timer : ℕ) → means.may t up Cancelling
      → ActGoes means t b past (cancel_mine mine timer) (Some (CancelMine timer))
  cancel_goes true timer may = record {
    none_dispatching = refl;
    still = refl;
    goes = (here Cancelling may, tt);
    no_timer = tt;
    offers = λ i. absurd i;
    offers_next = λ i. absurd i;
  }
  cancel_goes false timer may = acts_not (Some (CancelMine timer)) [] (λ i. i) refl

  stop_goes : (stopped : Bool) (es : List (Entry N)) → StopAppends (summary past) stopped es
      → means.may t up Stopping → ActGoes means t b past es (Some Stop)
  stop_goes true es is may = acts_not (Some Stop) es (λ i. i) is
  stop_goes false es stops may =
      let r = removals_go means t b (Ended ∷ past) _ _ stops.0 refl stops.1 in
      subst (λ k. ActGoes means t b past k (Some Stop)) (sym stops.2)
      (record {
        none_dispatching = r.0;
        still = removals_still _ _ stops.0 stops.1;
        goes = (here Stopping may, r.1);
        no_timer = tt;
        offers = λ i. absurd i;
        offers_next = λ i. absurd i;
      })

  pub act_goes : (most : ℕ) (handle : Handle) (act : Option (Act H N E)) (before after : ℕ)
      (es : List (Entry N)) → ActAppends most (summary past) handle act before after es
      → MayAct means t up origin act → ActGoes means t b past es act
  act_goes most handle None before after es is may = acts_not None es (λ i. i) is
  act_goes most handle (Some (Install handler mask timer)) before after es is may =
      install_goes most handler mask timer before after es is may.0
  act_goes most handle (Some (MaskMine mask)) before after es is may =
      subst (λ k. ActGoes means t b past k (Some (MaskMine mask))) (sym is)
      (mask_goes _ handle mask may)
  act_goes most handle (Some (CancelMine timer)) before after es is may =
      subst (λ k. ActGoes means t b past k (Some (CancelMine timer))) (sym is)
      (cancel_goes _ timer may)
  act_goes most handle (Some Stop) before after es is may = stop_goes _ es is may

-- ---- the whole

-- the entries of a settling: the `Returned`, the closing of the handler or nothing, and what the
-- act appends
pub record SettleGoes {H E N : Type 0} (means : Handling H E N) (t : Terms) (b : ℕ)
    (past : List (Entry N)) (done : Done H N E) (es : List (Entry N)) : Type 0 where
  pub none_dispatching : NoneDispatching (returned done ∷ es)
  pub goes : EachGoesByTurn means t b past (returned done ∷ es)
  pub no_timer : BeginsWithNoTimer (returned done ∷ es)
  pub still : list_all is_still es ≡ true

module _ {H E N : Type 0} (means : Handling H E N) (t : Terms) (b : ℕ) (past : List (Entry N))
    (done : Done H N E) (within : b ≤ length past)
    (is_there : ◌≡◌ {A = Option Event} (P.event_at past done.event)
    (Some (record { handle = done.handle.0; upcall = done.upcall }))) where
  there : P.is_event past done.event ≡ true
  there = ap is_some is_there

  here_returned : (deed : Deed) → means.may t done.upcall deed
      → MayHere means t (returned done ∷ past) deed
  here_returned deed may = record {
    number = done.event;
    event = record { handle = done.handle.0; upcall = done.upcall };
    returned = refl;
    is = event_at-before (returned done) past done.event there ∙ is_there;
    closes_own = tt;
    may = may;
  }

  there_returned : P.is_event (returned done ∷ past) done.event ≡ true
  there_returned = ap is_some (event_at-before (returned done) past done.event there) ∙ there

  here_closed : (note : N) (deed : Deed) → means.may t done.upcall deed
      → MayHere means t (Closed done.handle note ∷ returned done ∷ past) deed
  here_closed note deed may = record {
    number = done.event;
    event = record { handle = done.handle.0; upcall = done.upcall };
    returned = refl;
    is = event_at-before (Closed done.handle note) (returned done ∷ past) done.event there_returned
        ∙ (event_at-before (returned done) past done.event there ∙ is_there);
    closes_own = refl;
    may = may;
  }

  pub settle_goes : (most : ℕ) (closes : Bool) (closing acted : List (Entry N)) (before after : ℕ)
      → IsClosing closes done.handle closing
      → MayAct means t done.upcall (record { note = done.turn.note; moment = done.now })
      done.turn.act → (means.installs done.turn.note ≡ true → IsInstall done.turn.act)
      → ActAppends most (summary (past_of closing ++ returned done ∷ past)) done.handle
      done.turn.act before after acted → SettleGoes means t b past done (closing ++ acted)
  settle_goes most true closing acted before after is may installs appends =
      subst (λ k. SettleGoes means t b past done (k ++ acted)) (sym is.1)
      (let a : ActGoes means t b (Closed done.handle is.0 ∷ returned done ∷ past) acted
      done.turn.act =
      act_goes means t b (Closed done.handle is.0 ∷ returned done ∷ past) done.upcall
      (record { note = done.turn.note; moment = done.now }) (here_closed is.0)
      (omega (arith, within)) most done.handle done.turn.act before after acted
      (subst (λ k. ActAppends most (summary (past_of k ++ returned done ∷ past)) done.handle
      done.turn.act before after acted) is.1 appends) may
      in
      record {
        none_dispatching = a.none_dispatching;
        goes = ((λ i. a.offers (installs i)), (tt, a.goes));
        no_timer = tt;
        still = a.still;
      })
  settle_goes most false closing acted before after is may installs appends =
      subst (λ k. SettleGoes means t b past done (k ++ acted)) (sym is)
      (let a : ActGoes means t b (returned done ∷ past) acted done.turn.act =
      act_goes means t b (returned done ∷ past) done.upcall
      (record { note = done.turn.note; moment = done.now }) here_returned
      (omega (arith, within)) most done.handle done.turn.act before after acted
      (subst (λ k. ActAppends most (summary (past_of k ++ returned done ∷ past)) done.handle
      done.turn.act before after acted) is appends) may
      in
      record {
        none_dispatching = a.none_dispatching;
        goes = ((λ i. a.offers_next (installs i)), a.goes);
        no_timer = tt;
        still = a.still;
      })

-- an event that fits the history is open in it, once
pub settled_own : {H M Q W V N E : Type 0} (m : Meaning H M Q W V N E) (q : DeskTerms) (F : ℕ)
    (h : List (Entry N)) (done : Done H N E) (old : Desk H M Q W V N E) → DeskStands m q F old h
    → DoneFits m.means q.run (past_of h) done → times done.event (opens_of h) ≡ 1
settled_own m q F h done old o fits =
    let at = found_open q.run.most (past_of h) done.event _ o.core.tracks.legal fits.event in
    (opens_are q.run.most (past_of h) done.event
    o.core.tracks.legal ∙ ap (λ (b : Bool). cond {A = ℕ} b 1 0) at.0.is_open)

module _ {H M Q W V N E : Type 0} (m : Meaning H M Q W V N E) (q : DeskTerms) (F : ℕ)
    (h : List (Entry N)) (done : Done H N E) (old : Desk H M Q W V N E) (core : Core H M Q W V N E)
    (settled : Settled) where
  abbrev settled_list : Settles m q.run F h done old.core core settled → List (Entry N)
  settled_list s = ((h ++ returned done ∷ []) ++ s.closing) ++ s.acted

  list_is : (s : Settles m q.run F h done old.core core settled)
      → settled_list s ≡ h ++ (returned done ∷ (s.closing ++ s.acted))
  list_is s = append_assoc (h ++ returned done ∷ []) s.closing s.acted
      ∙ append_assoc h (returned done ∷ []) (s.closing ++ s.acted)

  settled_goes : DeskStands m q F old h → DoneFits m.means q.run (past_of h) done
      → (s : Settles m q.run F h done old.core core settled) → (b : ℕ) → b ≤ length h
      → SettleGoes m.means q.run b (past_of h) done (s.closing ++ s.acted)
  settled_goes o fits s b low =
      let at = found_open q.run.most (past_of h) done.event _ o.core.tracks.legal fits.event in
      let long : length (past_of h) ≡ length h = length-reverse h in
      let before : past_of ((h ++ returned done ∷ []) ++ s.closing)
      ≡ past_of s.closing ++ returned done ∷ past_of h =
      past_of-append (h ++ returned done ∷ []) s.closing
      ∙ ap (λ k. past_of s.closing ++ k) (past_of-more h (returned done))
      in
      settle_goes m.means q.run b (past_of h) done (omega (arith, low, long)) at.0.event q.run.most
      _ s.closing s.acted _ _ s.is_closing fits.act fits.promises.installs
      (subst (λ k. ActAppends q.run.most (summary k) done.handle done.turn.act
      (m.facts old.core.net).failed_attaches (m.facts core.net).failed_attaches s.acted) before
      s.is_acted)

  pub settles_desk : core.volume ≡ old.core.volume → DeskStands m q F old h
      → DoneFits m.means q.run (past_of h) done
      → Settles m q.run F h done old.core core settled
      → SettlesDesk m q F h done old (record { core = core; drainer = old.drainer }) settled
  settles_desk size o fits s = record {
    settles = s;
    stands = subst (DeskStands m q F (record { core = core; drainer = old.drainer }))
        (sym (list_is s))
        (desk_asked m q F h (returned done ∷ (s.closing ++ s.acted)) old core size
        (settled_goes o fits s 0 (omega arith)).none_dispatching
        (λ b named. let g = o.by_turn b named in let block = settled_goes o fits s b g.within in
        by_turns_block m.means q.run b h (returned done ∷ (s.closing ++ s.acted)) block.no_timer
        block.goes g)
        o (subst (Stands m q.run core F) (list_is s) s.stands));
  }

  -- the event that was settled is open no more, and no other changed
  pub settled_opens : DeskStands m q F old h → DoneFits m.means q.run (past_of h) done
      → (s : Settles m q.run F h done old.core core settled) → times done.event (opens_of h) ≡ 1
      → (e : ℕ) → times e (opens_of (settled_list s)) + is_event e (Some done.event)
      ≡ times e (opens_of h)
  settled_opens o fits s own e =
      let left : opens_of (settled_list s) ≡ filter (λ i. not (i == done.event)) (opens_of h) =
      ap opens_of (append_assoc (h ++ returned done ∷ []) s.closing s.acted)
      ∙ (opens_still (h ++ returned done ∷ []) (s.closing ++ s.acted)
      (settled_goes o fits s 0 (omega arith)).still ∙ opens_more h (returned done))
      in
      ap (λ k. times e k + is_event e (Some done.event)) left
      ∙ (ap (λ n. n + is_event e (Some done.event)) (times_filter e done.event (opens_of h))
      ∙ by_cases (e == done.event) refl)
    where
      by_cases : (b : Bool) → (e == done.event) ≡ b
          → cond b 0 (times e (opens_of h)) + cond b 1 0 ≡ times e (opens_of h)
      by_cases true same = sym own ∙ ap (λ k. times k (opens_of h))
          (sym (eqb-true e done.event same))
      by_cases false apart = omega arith

  -- the list begins with the history
  pub settled_begins : (s : Settles m q.run F h done old.core core settled)
      → Begins h (settled_list s)
  settled_begins s = (returned done ∷ (s.closing ++ s.acted), sym (list_is s))
