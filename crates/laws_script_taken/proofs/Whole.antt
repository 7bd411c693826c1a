-- A whole run over a script, however it ended, read backwards.
use Rattle.std.proofs.Common.{ℕ, ◌≡◌, ◌≢◌, ◌∙◌, ◌≤◌, Bool, true, false, cond, ◌||◌, List, [], ◌∷◌}
use Rattle.std.proofs.Common.{◌++◌, length, reverse, refl, sym, ap, subst, arith, Option, None}
use Rattle.std.proofs.Common.{⊎_elim, append_assoc}
use Rattle.std.specs.List.{list_any}
use Rattle.std.proofs.lemmas.Bool.{false≢true, and_parts, or_parts, both_ways, cases_Bool}
use Rattle.laws_script_complete.specs.ev_types.specs.declared.upcall.Answer.{Answer}
use Rattle.laws_script_complete.specs.ev_types.specs.declared.upcall.Handle.{Handle}
use Rattle.laws_script_complete.specs.ev_base.specs.Terms.{Terms}
use Rattle.laws_script_complete.specs.reactor_journal.specs.declared.entry.Entry.{Entry}
use Rattle.laws_script_complete.specs.reactor_journal.specs.declared.entry.Entry.TheVariants.{
  Opened,
}
use Rattle.laws_script_complete.specs.reactor_journal.specs.declared.entry.Entry.TheVariants.{
  Returned,
}
use Rattle.laws_script_complete.specs.reactor_journal.specs.declared.entry.Entry.TheVariants.{
  Refused,
}
use Rattle.laws_script_complete.specs.reactor_journal.specs.declared.entry.Entry.TheVariants.{
  Closed,
}
use Rattle.laws_script_complete.specs.reactor_journal.specs.declared.entry.Entry.TheVariants.{Ended}
use Rattle.laws_script_complete.specs.reactor_journal.specs.Past.{past_of}
use Rattle.laws_script_complete.specs.reactor_journal.specs.Past.{reason_of}
use Rattle.laws_script_complete.specs.reactor_journal.specs.Past.{ended}
use Rattle.laws_script_complete.specs.reactor_journal.specs.Past.{is_ended}
use Rattle.laws_script_complete.specs.reactor_journal.specs.Past.{is_open}
use Rattle.laws_script_complete.specs.reactor_journal.specs.Past.{opened}
use Rattle.laws_script_complete.specs.reactor_journal.specs.Past.{was_opened}
use Rattle.laws_script_complete.specs.reactor_journal.specs.Past.{was_closed}
use Rattle.laws_script_complete.specs.reactor_journal.specs.Past.{was_removed}
use Rattle.laws_script_complete.specs.reactor_journal.specs.Follow.{may_follow}
use Rattle.laws_script_complete.specs.reactor_journal.specs.Follow.{is_legal}
use Rattle.laws_script_complete.specs.reactor_journal.proofs.Alive.{opened_below}
use Rattle.laws_script_complete.specs.reactor_journal.proofs.Alive.{dead_was_removed}
use Rattle.laws_script_complete.specs.reactor_journal.proofs.Basics.{may_fits}
use Rattle.laws_script_complete.specs.reactor_journal.proofs.Closing.{closing}
use Rattle.laws_script_complete.specs.reactor_journal.proofs.Picking.{all_below-at}
use Rattle.laws_script_complete.specs.reactor_journal.proofs.Turning.{past_split}
use Rattle.laws_script_complete.specs.reactor_journal.proofs.Turning.{is_legal-front}
use Rattle.laws_script_complete.specs.reactor_model.specs.Handling.{Handling}
use Rattle.laws_script_complete.specs.laws_by_turns.specs.ByTurns.{DispatchedByTurns}
use Rattle.laws_script_complete.specs.laws_by_turns.specs.ByTurns.{OffersBehind}
use Rattle.laws_script_complete.specs.laws_by_turns.specs.ByTurns.{IsOfferBehind}
use Rattle.laws_script_complete.specs.acceptor.specs.Servers.{ServerMay}
use Rattle.laws_script_complete.specs.acceptor.specs.Servers.{read_alone}
use Rattle.laws_script_complete.specs.acceptor.specs.Servers.{is_accepted as says_accepted}
use Rattle.laws_script_complete.specs.ev_types.specs.declared.upcall.Why.TheVariants.{Own}
use Rattle.laws_script_complete.specs.ev_types.specs.declared.upcall.Why.TheVariants.{
  Removed as ByRemoval,
}
use Rattle.laws_script_complete.specs.log_handler.specs.declared.note.ServerNote.{ServerNote}
use Rattle.laws_script_complete.specs.log_handler.specs.declared.note.ServerNote.TheVariants
    as note
use Rattle.laws_script_complete.specs.event_script.specs.Script.{ScriptStep}
use Rattle.laws_script_complete.specs.event_script.specs.Script.{ScriptGroup}
use Rattle.laws_script_complete.specs.event_script.specs.Script.{steps_of}
use Rattle.laws_script_complete.specs.event_script.specs.Script.{are_steps}
use Rattle.laws_script_complete.specs.laws_script_runs.specs.Connections.{AreLeft}
use Rattle.laws_script_complete.specs.laws_script_runs.specs.Laws.{ActsAsServer}
use Rattle.laws_script_complete.specs.laws_script_runs.specs.Runs.{IsWhole, first_handle}
use Rattle.laws_script_complete.specs.laws_script_runs.specs.Steps.{EachStep}
use Rattle.laws_script_complete.specs.laws_script_runs.proofs.ByTurns.{TurnsBefore, read_backwards}
use Rattle.laws_script_complete.specs.laws_script_runs.proofs.ByTurns.{turns_so}
use Rattle.laws_script_complete.specs.laws_script_runs.proofs.Handles.{IsBegun}
use Rattle.laws_script_complete.specs.laws_script_runs.proofs.Settling.{opened_later}
use Rattle.laws_script_complete.specs.laws_script_runs.proofs.Winding as winding
use Rattle.laws_script_complete.specs.laws_script_runs.proofs.Winding.{Begins}
use Rattle.laws_script_taken.specs.Laws.{OffersEach, RunsSomehow}
use Rattle.laws_script_taken.specs.Taken.{accepts_connection}
use Rattle.laws_script_taken.proofs.Offers.{accept_turn}
use Rattle.laws_script_taken.proofs.Places.{found, Cuts, same_cut, first_cut, second_cut, cuts}
use Rattle.laws_script_taken.proofs.Places.{holds_at}

-- ---- what stands after a turn, with more after it

offer_more : {N : Type 0} (m more : List (Entry N)) → IsOfferBehind m → IsOfferBehind (m ++ more)
offer_more [] more h = absurd h
offer_more (Opened handle mask ∷ m) more h = tt
offer_more (Refused live fault said ∷ m) more h = tt
offer_more (_ ∷ m) more h = absurd h

offers_more : {N : Type 0} (m more : List (Entry N)) → OffersBehind m → OffersBehind (m ++ more)
offers_more [] more h = absurd h
offers_more (Closed handle said ∷ m) more h = offer_more m more h
offers_more (Opened handle mask ∷ m) more h = tt
offers_more (Refused live fault said ∷ m) more h = tt
offers_more (_ ∷ m) more h = absurd h

-- ---- handlers are removed only after the end

abbrev RemovesBehind : List (Entry ServerNote) → Entry ServerNote → Type 0
RemovesBehind past e = winding.removes e ≡ true → ended past ≡ true

none_removes : (past : List (Entry ServerNote)) → list_any winding.removes past ≡ false
    → EachStep RemovesBehind past
none_removes [] h = tt
none_removes (e ∷ past) h =
    let parts = or_parts (winding.removes e) (list_any winding.removes past) h in
    (λ r. absurd (both_ways (winding.removes e) parts.0 r), none_removes past parts.1)

up_removes : (later past : List (Entry ServerNote)) → EachStep RemovesBehind past
    → EachStep RemovesBehind (later ++ Ended ∷ past)
up_removes [] past h = (λ r. absurd (false≢true r), h)
up_removes (e ∷ later) past h = (
  λ r.
      holds_at (λ (x : Entry ServerNote). is_ended x) later Ended past refl,
  up_removes later past h,
)

-- what is not ended has removed none
going_removes : (past : List (Entry ServerNote)) → EachStep RemovesBehind past → ended past ≡ false
    → list_any winding.removes past ≡ false
going_removes [] h g = refl
going_removes (e ∷ past) h g =
    let parts = or_parts (is_ended e) (ended past) g in
    let none : winding.removes e ≡ false =
    ⊎_elim (λ (t : winding.removes e ≡ true). absurd (both_ways (ended past) parts.1 (h.0 t)))
    (λ (f : winding.removes e ≡ false). f) (cases_Bool (winding.removes e)) in
    ap (λ (b : Bool). b || list_any winding.removes past) none ∙ going_removes past h.1 parts.1

-- a run that registered the acceptor
pub record BegunRun {H E : Type 0} (means : Handling H E ServerNote) (t : Terms) (idle : Option ℕ)
    (groups : List ScriptGroup) (journal : List (Entry ServerNote)) : Type 0 where
  pub script : are_steps (reverse (steps_of groups)) ≡ true
  pub whole : IsWhole t.most journal
  pub begins : (rest : List (Entry ServerNote)) × (journal ≡ Opened first_handle read_alone ∷ rest)
  pub run : List (Entry ServerNote)
  pub closing : List (Entry ServerNote)
  pub is : journal ≡ run ++ Ended ∷ closing
  pub acts : ActsAsServer means t
  pub turned : DispatchedByTurns means t 1 run
  pub offers : OffersEach means closing
  pub turns : AreLeft (steps_of groups) idle (past_of journal)

module _ {H E : Type 0} (means : Handling H E ServerNote) (t : Terms) (idle : Option ℕ)
    (groups : List ScriptGroup) (journal : List (Entry ServerNote))
    (r : BegunRun means t idle groups journal) where
  abbrev pub steps : List ScriptStep
  steps = steps_of groups

  abbrev pub most : ℕ
  most = t.most

  abbrev pub run : List (Entry ServerNote)
  run = past_of r.run

  abbrev pub wound : List (Entry ServerNote)
  wound = past_of r.closing

  -- the whole past: what stands after the end, the end, and the run
  abbrev pub all : List (Entry ServerNote)
  all = past_of journal

  all_is : all ≡ wound ++ Ended ∷ run
  all_is = ap past_of r.is ∙ past_split r.run r.closing Ended

  pub legal : is_legal most all ≡ true
  legal = r.whole.legal

  legal_wound : is_legal most (wound ++ Ended ∷ run) ≡ true
  legal_wound = sym (ap (is_legal most) all_is) ∙ legal

  legal_end : is_legal most (Ended ∷ run) ≡ true
  legal_end = is_legal-front most wound (Ended ∷ run) legal_wound

  turned_run : TurnsBefore (ServerMay t) says_accepted 1 run None
  turned_run = turns_so (means.may t) (ServerMay t) means.installs says_accepted 1 r.acts.asks
      r.acts.installs run None (read_backwards means t 1 r.run r.turned)

  going : ended run ≡ false
  going = winding.not_ended most run
      (and_parts (may_follow most run Ended) (is_legal most run) legal_end).0

  begins : Begins run
  begins = winding.begins_run r.run r.closing r.begins.0 (sym r.begins.1 ∙ r.is)

  begun_run : EachStep IsBegun run
  begun_run = winding.run_begun t run None begins turned_run

  ended_begun : (past : List (Entry ServerNote)) → Begins past → IsBegun past Ended
  ended_begun [] b = absurd (none b.later b.is)
    where
      none : (later : List (Entry ServerNote)) → [] ≡ later ++ Opened first_handle read_alone ∷ []
          → ⊥
      none [] q = cc
      none (e ∷ later) q = cc
  ended_begun (d ∷ past) b = tt

  pub begun : EachStep IsBegun all
  begun = subst (EachStep IsBegun) (sym all_is)
      (winding.begun_up most wound Ended run legal_wound refl (ended_begun run begins, begun_run))

  pub left : AreLeft steps idle all
  left = r.turns

  pub closed : (x : ℕ) → was_opened all x ≡ true → was_closed all x ≡ true
  closed x o = all_below-at (opened all) (was_closed all) x (opened_below most all x legal o)
      r.whole.closed

  first_run : was_opened run 0 ≡ true
  first_run = ap (λ (p : List (Entry ServerNote)). was_opened p 0) begins.is
      ∙ opened_later begins.later (Opened first_handle read_alone ∷ []) 0 refl

  pub first_opened : was_opened all 0 ≡ true
  first_opened = ap (λ (p : List (Entry ServerNote)). was_opened p 0) all_is
      ∙ opened_later wound (Ended ∷ run) 0 first_run

  -- ---- a handler that did not end itself is closed after the end

  removes : EachStep RemovesBehind all
  removes = subst (EachStep RemovesBehind) (sym all_is)
      (up_removes wound run (none_removes run (winding.run_keeps t run begins turned_run going)))

  front_removes : (later past : List (Entry ServerNote)) → EachStep RemovesBehind (later ++ past)
      → EachStep RemovesBehind past
  front_removes [] past h = h
  front_removes (e ∷ later) past h = front_removes later past h.1

  pub closed_behind : (later past : List (Entry ServerNote)) (handle : Handle) (said : ServerNote)
      → all ≡ later ++ Closed handle said ∷ past → reason_of past handle.0 ≢ Own → ended past ≡ true
  closed_behind later past handle said is other = ⊎_elim (λ (h : ended past ≡ true). h)
      (λ (h : ended past ≡ false).
      let here : is_legal most (Closed handle said ∷ past) ≡ true =
      is_legal-front most later (Closed handle said ∷ past)
      (sym (ap (is_legal most) is) ∙ legal) in
      let w = closing past handle.0 (may_fits most past (Closed handle said)
      (and_parts (may_follow most past (Closed handle said)) (is_legal most past) here).0) in
      let gone : was_removed past handle.0 ≡ true = dead_was_removed past handle.0 w.0 w.1 in
      let steps_ : EachStep RemovesBehind (Closed handle said ∷ past) =
      front_removes later (Closed handle said ∷ past)
      (subst (EachStep RemovesBehind) is removes) in
      let none = going_removes past steps_.1 h in
      absurd (other (ap (λ (b : Bool). cond b Own ByRemoval)
      (winding.removed_itself past handle.0 none gone))))
      (cases_Bool (ended past))

  -- ---- each connection that was accepted is offered

  not_at_start : (before : List (Entry ServerNote)) (event : ℕ) (answer : Answer)
      (said : ServerNote) (behind : List (Entry ServerNote))
      → journal ≡ before ++ Returned event answer said ∷ behind → 1 ≤ length before
  not_at_start [] event answer said behind is = absurd (other (sym is ∙ r.begins.1))
    where
      other : ◌≡◌ {A = List (Entry ServerNote)} (Returned event answer said ∷ behind)
          (Opened first_handle read_alone ∷ r.begins.0) → ⊥
      other q = cc
  not_at_start (e ∷ before) event answer said behind is = omega arith

  pub offers : (before : List (Entry ServerNote)) (event : ℕ) (answer : Answer) (said : ServerNote)
      (behind : List (Entry ServerNote)) → journal ≡ before ++ Returned event answer said ∷ behind
      → says_accepted said ≡ true → OffersBehind behind
  offers before event answer said behind is accepts =
      by (cuts before (Returned event answer said) behind r.run Ended r.closing (sym is ∙ r.is))
    where
      installs : means.installs said ≡ true
      installs = r.acts.installs said ∙ accepts

      ended_not : ◌≡◌ {A = Entry ServerNote} (Returned event answer said) Ended → ⊥
      ended_not q = cc

      by : Cuts before (Returned event answer said) behind r.run Ended r.closing
          → OffersBehind behind
      by (same_cut i j k) = absurd (ended_not j)
      by (first_cut m i k) = subst OffersBehind (sym k)
          (offers_more m (Ended ∷ r.closing)
          (r.turned before (Returned event answer said) m i
          (not_at_start before event answer said behind is) installs))
      by (second_cut m i k) = r.offers m event answer said behind k installs

-- ---- a run that registered nobody

-- after an end that nothing stands before, no turn returns
module _ (most : ℕ) (wound : List (Entry ServerNote))
    (legal : is_legal most (wound ++ Ended ∷ []) ≡ true) where
  none_returned : (later past : List (Entry ServerNote)) (event : ℕ) (answer : Answer)
      (said : ServerNote) → wound ≡ later ++ Returned event answer said ∷ past → ⊥
  none_returned later past event answer said is =
      let joined : wound ++ Ended ∷ [] ≡ later ++ Returned event answer said
      ∷ (past ++ Ended ∷ []) = ap (λ (l : List (Entry ServerNote)). l ++ Ended ∷ []) is
      ∙ append_assoc later (Returned event answer said ∷ past) (Ended ∷ []) in
      let here : is_legal most (Returned event answer said ∷ (past ++ Ended ∷ [])) ≡ true =
      is_legal-front most later (Returned event answer said ∷ (past ++ Ended ∷ []))
      (sym (ap (is_legal most) joined) ∙ legal) in
      let parts = and_parts (may_follow most (past ++ Ended ∷ []) (Returned event answer said))
      (is_legal most (past ++ Ended ∷ [])) here in
      let open_ : is_open (past ++ Ended ∷ []) event ≡ true =
      may_fits most (past ++ Ended ∷ []) (Returned event answer said) parts.0 in
      both_ways _ ((winding.wound_up most (Ended ∷ []) past parts.1 refl (λ i. refl)).none_open
      event) open_

module _ {H E : Type 0} (means : Handling H E ServerNote) (t : Terms) (idle : Option ℕ)
    (groups : List ScriptGroup) (journal : List (Entry ServerNote))
    (r : RunsSomehow means t idle groups journal) where
  -- if nobody was registered, no turn returns
  pub no_turn : r.run ≡ [] → (before : List (Entry ServerNote)) (event : ℕ) (answer : Answer)
      (said : ServerNote) (after : List (Entry ServerNote))
      → journal ≡ before ++ Returned event answer said ∷ after → ⊥
  no_turn none before event answer said after is =
      by_front before (sym is ∙ r.is ∙ ap (λ (l : List (Entry ServerNote)). l ++ Ended ∷ r.closing)
      none)
    where
      wound_is : past_of journal ≡ past_of r.closing ++ Ended ∷ []
      wound_is = ap past_of r.is ∙ past_split r.run r.closing Ended
          ∙ ap (λ (l : List (Entry ServerNote)). past_of r.closing ++ Ended ∷ past_of l) none

      legal_all : is_legal t.most (past_of r.closing ++ Ended ∷ []) ≡ true
      legal_all = sym (ap (is_legal t.most) wound_is) ∙ r.whole.legal

      by_front : (before : List (Entry ServerNote))
          → before ++ Returned event answer said ∷ after ≡ Ended ∷ r.closing → ⊥
      by_front [] q = other q
        where
          other : ◌≡◌ {A = List (Entry ServerNote)} (Returned event answer said ∷ after)
              (Ended ∷ r.closing) → ⊥
          other z = cc
      by_front (e ∷ before) q = none_returned t.most (past_of r.closing) legal_all (past_of after)
          (past_of before) event answer said
          (ap past_of (sym (tail q)) ∙ past_split before after (Returned event answer said))
        where
          tail : e ∷ (before ++ Returned event answer said ∷ after) ≡ Ended ∷ r.closing
              → before ++ Returned event answer said ∷ after ≡ r.closing
          tail z = cc

  pub none_accepted : (c : ℕ) → r.run ≡ [] → list_any (accepts_connection c) journal ≡ true → ⊥
  none_accepted c none h =
      let f = found (accepts_connection c) journal h in
      let turn = accept_turn c f.it f.holds in
      no_turn none f.before turn.event turn.answer (note.Accepted c) f.after
      (f.is ∙ ap (λ (e : Entry ServerNote). f.before ++ e ∷ f.after) turn.is)

  pub as_begun : (rest : List (Entry ServerNote)) → r.run ≡ Opened first_handle read_alone ∷ rest
      → BegunRun means t idle groups journal
  as_begun rest is = record {
    script = r.script;
    whole = r.whole;
    begins = (
      rest ++ Ended ∷ r.closing,
      r.is
          ∙ ap (λ (l : List (Entry ServerNote)). l ++ Ended ∷ r.closing) is,
    );
    run = r.run;
    closing = r.closing;
    is = r.is;
    acts = r.acts;
    turned = r.turned;
    offers = r.offers;
    turns = r.turns;
  }
