-- Each entry of a run over a script.
use Rattle.std.proofs.Common.{ℕ, suc, ◌≡◌, inl, inr, ◌≤◌, ◌<◌, ◌+◌, ◌^◌, ◌∙◌, Bool}
use Rattle.std.proofs.Common.{true, false, ◌||◌, not, List, [], ◌∷◌, ◌++◌, length, reverse, sym, ap}
use Rattle.std.proofs.Common.{subst, refl, arith, append_assoc, length-append, Option, Some, None}
use Rattle.std.specs.List.{AllByRecursion, list_any}
use Rattle.std.proofs.lemmas.Bool.{false≢true, and_parts, eqb-true, both_ways}
use Rattle.std.proofs.lemmas.List.{length-reverse, reverse-reverse, reverse-append}
use Rattle.laws_script_taken.specs.ev_types.specs.declared.upcall.Handle.{Handle}
use Rattle.laws_script_taken.specs.ev_types.specs.declared.upcall.Mask.{Mask}
use Rattle.laws_script_taken.specs.ev_types.specs.declared.upcall.Upcall.{Upcall}
use Rattle.laws_script_taken.specs.ev_types.specs.declared.upcall.Upcall.TheVariants
    as upcall
use Rattle.laws_script_taken.specs.ev_base.specs.Terms.{Terms}
use Rattle.laws_script_taken.specs.reactor_journal.specs.declared.entry.Entry.{Entry}
use Rattle.laws_script_taken.specs.reactor_journal.specs.declared.entry.Entry.TheVariants.{Opened}
use Rattle.laws_script_taken.specs.reactor_journal.specs.declared.entry.Entry.TheVariants.{
  Scheduled,
}
use Rattle.laws_script_taken.specs.reactor_journal.specs.declared.entry.Entry.TheVariants.{
  Cancelled,
}
use Rattle.laws_script_taken.specs.reactor_journal.specs.declared.entry.Entry.TheVariants.{Polled}
use Rattle.laws_script_taken.specs.reactor_journal.specs.declared.entry.Entry.TheVariants.{Due}
use Rattle.laws_script_taken.specs.reactor_journal.specs.declared.entry.Entry.TheVariants.{Ready}
use Rattle.laws_script_taken.specs.reactor_journal.specs.declared.entry.Entry.TheVariants.{Posted}
use Rattle.laws_script_taken.specs.reactor_journal.specs.declared.entry.Entry.TheVariants.{Stale}
use Rattle.laws_script_taken.specs.reactor_journal.specs.declared.entry.Entry.TheVariants.{Started}
use Rattle.laws_script_taken.specs.reactor_journal.specs.declared.entry.Entry.TheVariants.{Returned}
use Rattle.laws_script_taken.specs.reactor_journal.specs.declared.entry.Entry.TheVariants.{Masked}
use Rattle.laws_script_taken.specs.reactor_journal.specs.declared.entry.Entry.TheVariants.{
  Suspended,
}
use Rattle.laws_script_taken.specs.reactor_journal.specs.declared.entry.Entry.TheVariants.{Resumed}
use Rattle.laws_script_taken.specs.reactor_journal.specs.declared.entry.Entry.TheVariants.{Refused}
use Rattle.laws_script_taken.specs.reactor_journal.specs.declared.entry.Entry.TheVariants.{Removed}
use Rattle.laws_script_taken.specs.reactor_journal.specs.declared.entry.Entry.TheVariants.{Closed}
use Rattle.laws_script_taken.specs.reactor_journal.specs.declared.entry.Entry.TheVariants.{Ended}
use Rattle.laws_script_taken.specs.reactor_journal.specs.Past.{past_of}
use Rattle.laws_script_taken.specs.reactor_journal.specs.Past.{ended}
use Rattle.laws_script_taken.specs.reactor_journal.specs.Past.{is_ended}
use Rattle.laws_script_taken.specs.reactor_journal.specs.Past.{is_opened}
use Rattle.laws_script_taken.specs.reactor_journal.specs.Past.{now}
use Rattle.laws_script_taken.specs.reactor_journal.specs.Follow.{may_follow}
use Rattle.laws_script_taken.specs.reactor_journal.specs.Follow.{is_legal}
use Rattle.laws_script_taken.specs.reactor_journal.specs.Follow.{fits}
use Rattle.laws_script_taken.specs.reactor_journal.specs.Follow.{winds_up}
use Rattle.laws_script_taken.specs.reactor_journal.proofs.Basics.{may_fits}
use Rattle.laws_script_taken.specs.reactor_journal.proofs.Turning.{past_split}
use Rattle.laws_script_taken.specs.reactor_journal.proofs.Turning.{is_legal-front}
use Rattle.laws_script_taken.specs.reactor_model.specs.Handling.{Handling}
use Rattle.laws_script_taken.specs.reactor_model.specs.Handling.{Installing}
use Rattle.laws_script_taken.specs.reactor_model.specs.Handling.{Masking}
use Rattle.laws_script_taken.specs.reactor_model.specs.Handling.{Cancelling}
use Rattle.laws_script_taken.specs.log_handler.specs.declared.note.ServerNote.{ServerNote}
use Rattle.laws_script_taken.specs.acceptor.specs.Servers.{ServerMay}
use Rattle.laws_script_taken.specs.acceptor.specs.Idle.{idle_timer}
use Rattle.laws_script_taken.specs.event_script.specs.Script.{ScriptGroup}
use Rattle.laws_script_taken.specs.event_script.specs.Script.{groups_told}
use Rattle.laws_script_taken.specs.event_script.specs.Grammar.{last_moment}
use Rattle.laws_script_taken.specs.laws_by_turns.specs.ByTurns.{GoesByTurn}
use Rattle.laws_script_taken.specs.laws_by_turns.specs.ByTurns.{IsRegisteredHere}
use Rattle.laws_script_taken.specs.laws_script_told.specs.Told.{Follows}
use Rattle.laws_script_taken.specs.laws_script_told.specs.Told.{FollowsBefore}
use Rattle.laws_script_taken.specs.reactor_model.specs.Entries.{is_notice}
use Rattle.laws_script_taken.specs.Laws.{RunsSomehow}
use Rattle.laws_script_taken.proofs.Places.{holds_at, any_round, cuts, Cuts, same_cut, first_cut}
use Rattle.laws_script_taken.proofs.Places.{second_cut}
use Rattle.laws_journal_limits.specs.Laws.{ScriptIsWithin}
use Rattle.journal_reader.specs.Limits.{EntryIsWithin, IsNumber}
use Rattle.laws_journal_limits.proofs.Moments.{polled_early, now_early}
use Rattle.laws_journal_limits.proofs.Notes.{returned_within, closed_within, refused_within}
use Rattle.laws_journal_limits.proofs.Numbers.{opened_here, alive_within, waiting_within}
use Rattle.laws_journal_limits.proofs.Numbers.{live_within}
use Rattle.laws_journal_limits.proofs.Numbers.{scheduled_within, due_within, started_within}
use Rattle.laws_journal_limits.proofs.Numbers.{open_within}

-- ---- what stands after the end

not_ended : {N : Type 0} (most : ℕ) (past : List (Entry N)) (e : Entry N)
    → may_follow most past e ≡ true → winds_up e ≡ false → ended past ≡ false
unfolding may_follow
not_ended most past e may none = by (winds_up e) (ended past) none
    (and_parts (winds_up e || not (ended past)) (fits most past e) may).0
  where
    by : (w d : Bool) → w ≡ false → (w || not d) ≡ true → d ≡ false
    by true d f h = absurd (false≢true (sym f))
    by false true f h = absurd (false≢true h)
    by false false f h = refl

no_mask : (t : Terms) (up : Upcall) → ServerMay t up Masking → ⊥
no_mask t upcall.Input h = h
no_mask t upcall.Output h = h
no_mask t upcall.Except h = h
no_mask t (upcall.Timeout timer) h = h
no_mask t (upcall.Notice kind) h = h

no_cancel : (t : Terms) (up : Upcall) → ServerMay t up Cancelling → ⊥
no_cancel t upcall.Input h = h
no_cancel t upcall.Output h = h
no_cancel t upcall.Except h = h
no_cancel t (upcall.Timeout timer) h = h
no_cancel t (upcall.Notice kind) h = h

-- the timer of a connection that is installed
idle_is_timer : (t : Terms) (idle : Option ℕ) (up : Upcall) (mask : Mask) (timer : Option (ℕ × ℕ))
    → t.idle ≡ Some idle → ServerMay t up (Installing mask timer) → timer ≡ idle_timer idle
idle_is_timer t idle upcall.Input mask timer is may = may.1 idle is
idle_is_timer t idle upcall.Output mask timer is may = absurd may
idle_is_timer t idle upcall.Except mask timer is may = absurd may
idle_is_timer t idle (upcall.Timeout n) mask timer is may = absurd may
idle_is_timer t idle (upcall.Notice kind) mask timer is may = absurd may

timer_early : (idle : Option ℕ) (delay every : ℕ)
    → ((time : ℕ) → idle ≡ Some time → time ≤ last_moment) → Some (delay, every) ≡ idle_timer idle
    → (delay ≤ last_moment) × (every ≤ last_moment)
timer_early None delay every few is = absurd cc
timer_early (Some time) delay every few is =
    let both : (delay, every) ≡ (time, time) = inside is in
    let first : delay ≡ time = ap (λ (p : ℕ × ℕ). p.0) both in
    let second : every ≡ time = ap (λ (p : ℕ × ℕ). p.1) both in
    let le = few time refl in
    (omega (arith, first, le), omega (arith, second, le))
  where
    inside : {a b : ℕ × ℕ} → Some a ≡ Some b → a ≡ b
    inside q = cc

module _ {H E : Type 0} (means : Handling H E ServerNote) (t : Terms) (idle : Option ℕ)
    (groups : List ScriptGroup) (journal : List (Entry ServerNote))
    (r : RunsSomehow means t idle groups journal) (follows : Follows (groups_told groups) journal)
    (quiet : list_any is_notice journal ≡ false) (idle_is : t.idle ≡ Some idle)
    (idle_few : (time : ℕ) → idle ≡ Some time → time ≤ last_moment)
    (script : ScriptIsWithin groups) (short : IsNumber (length journal)) where
  module _ (before : List (Entry ServerNote)) (e : Entry ServerNote)
      (after : List (Entry ServerNote)) (is : journal ≡ before ++ e ∷ after) where
    all_is : past_of journal ≡ past_of after ++ e ∷ past_of before
    all_is = ap past_of is ∙ past_split before after e

    legal_here : is_legal t.most (e ∷ past_of before) ≡ true
    legal_here = is_legal-front t.most (past_of after) (e ∷ past_of before)
        (sym (ap (is_legal t.most) all_is) ∙ r.whole.legal)

    may_here : (may_follow t.most (past_of before) e ≡ true)
        × (is_legal t.most (past_of before) ≡ true)
    may_here = and_parts _ _ legal_here

    fit_here : fits t.most (past_of before) e ≡ true
    fit_here = may_fits t.most (past_of before) e may_here.0

    short_past : suc (length (past_of before)) < 2 ^ 64
    short_past =
        let turned : length (past_of before) ≡ length before = length-reverse before in
        let all : length journal ≡ length before + suc (length after) =
        ap length is ∙ length-append before (e ∷ after) in
        omega (arith, turned, all, short)

    short_here : length (past_of before) < 2 ^ 64
    short_here = let more = short_past in omega (arith, more)

    polled_here : (moment : ℕ) → e ≡ Polled moment → moment ≤ last_moment
    polled_here moment q = polled_early groups script.moments (past_of after) (past_of before)
        moment
        [] (subst (λ (l : List (Entry ServerNote)). FollowsBefore (groups_told groups) l [])
        (all_is ∙ ap (λ (x : Entry ServerNote). past_of after ++ x ∷ past_of before) q) follows)

    -- an entry that stands neither after the end nor is it
    in_run : winds_up e ≡ false → (e ≡ Ended → ⊥)
        → (m : List (Entry ServerNote)) × (r.run ≡ before ++ e ∷ m)
    in_run winds no_end = by (cuts before e after r.run Ended r.closing (sym is ∙ r.is))
      where
        by : Cuts before e after r.run Ended r.closing
            → (m : List (Entry ServerNote)) × (r.run ≡ before ++ e ∷ m)
        by (same_cut i j k) = absurd (no_end j)
        by (first_cut m i k) = (m, i)
        by (second_cut m i k) = absurd (both_ways (ended (past_of before))
            (not_ended t.most (past_of before) e may_here.0 winds)
            (any_round is_ended before (ap (list_any is_ended) i
            ∙ holds_at is_ended r.run Ended m refl)))

    not_first : (m : List (Entry ServerNote)) → r.run ≡ before ++ e ∷ m → is_opened e ≡ false
        → 1 ≤ length before
    not_first m here other = by before here
      where
        by : (b : List (Entry ServerNote)) → r.run ≡ b ++ e ∷ m → 1 ≤ length b
        by (x ∷ b) q = omega arith
        by [] q = elim r.begins [
          | inl none ↦ absurd (empty (sym q ∙ none))
          | inr begins ↦ absurd (both_ways (is_opened e) other
              (ap is_opened (head (sym q ∙ begins.1))))
        ]
          where
            empty : e ∷ m ≡ [] → ⊥
            empty q = cc

            head : {x : Entry ServerNote} {rest : List (Entry ServerNote)} → e ∷ m ≡ x ∷ rest
                → e ≡ x
            head q = cc

    turn_here : winds_up e ≡ false → (e ≡ Ended → ⊥) → is_opened e ≡ false
        → (m : List (Entry ServerNote)) × (r.run ≡ before ++ e ∷ m)
        × GoesByTurn means t 1 (past_of before) e m
    turn_here winds no_end other =
        let run = in_run winds no_end in
        (run.0, run.1, r.turned before e run.0 run.1 (not_first run.0 run.1 other))

  -- a timer is set with the registration of its handle
  module _ (before after : List (Entry ServerNote)) (timer : ℕ) (handle : Handle)
      (first every : ℕ) (is : journal ≡ before ++ Scheduled timer handle first every ∷ after) where
    abbrev e : Entry ServerNote
    e = Scheduled timer handle first every

    set_here : (last : List (Entry ServerNote)) → past_of before ≡ last
        → (m : List (Entry ServerNote)) → r.run ≡ before ++ Scheduled timer handle first every ∷ m
        → IsRegisteredHere 1 handle last → (first < 2 ^ 64) × (every < 2 ^ 64)
    set_here (Opened other mask ∷ past) at m run registered = by_turn
        (r.turned (reverse past) (Opened other mask) (Scheduled timer handle first every ∷ m)
        (run ∙ ap (λ (l : List (Entry ServerNote)). l ++ Scheduled timer handle first every ∷ m)
        before_is ∙ append_assoc (reverse past) (Opened other mask ∷ [])
        (Scheduled timer handle first every ∷ m)) long)
      where
        before_is : before ≡ reverse past ++ Opened other mask ∷ []
        before_is = sym (reverse-reverse before) ∙ ap reverse at
            ∙ reverse-append (Opened other mask ∷ []) past

        long : 1 ≤ length (reverse past)
        long = let same : length (reverse past) ≡ length past = length-reverse past in
            let le = registered.1 in omega (arith, same, le)

        moment : now past ≤ last_moment
        moment = now_early groups script.moments (past_of after ++ e ∷ Opened other mask ∷ []) past
            []
            (subst (λ (l : List (Entry ServerNote)). FollowsBefore (groups_told groups) l [])
            (all_is before e after is ∙ ap (λ (l : List (Entry ServerNote)).
            past_of after ++ e ∷ l) at
            ∙ sym (append_assoc (past_of after) (e ∷ Opened other mask ∷ []) past)) follows)

        by_turn : GoesByTurn means t 1 (past_of (reverse past)) (Opened other mask)
            (Scheduled timer handle first every ∷ m) → (first < 2 ^ 64) × (every < 2 ^ 64)
        by_turn (asked, behind, may) =
            let early = timer_early idle behind.0 every idle_few (sym behind.2
            ∙ idle_is_timer t idle may.event.upcall mask asked idle_is
            (r.acts.asks may.event.upcall (Installing mask asked) may.may)) in
            let same : now (past_of (reverse past)) ≡ now past = ap now (reverse-reverse past) in
            let le = moment in
            let sum = behind.1 in
            (omega (arith, early.0, same, le, sum), omega (arith, early.1))
    set_here [] at m run registered = absurd registered
    set_here (Scheduled _ _ _ _ ∷ past) at m run registered = absurd registered
    set_here (Cancelled _ ∷ past) at m run registered = absurd registered
    set_here (Polled _ ∷ past) at m run registered = absurd registered
    set_here (Due _ ∷ past) at m run registered = absurd registered
    set_here (Ready _ _ ∷ past) at m run registered = absurd registered
    set_here (Posted _ _ _ _ ∷ past) at m run registered = absurd registered
    set_here (Stale _ _ _ ∷ past) at m run registered = absurd registered
    set_here (Started _ ∷ past) at m run registered = absurd registered
    set_here (Returned _ _ _ ∷ past) at m run registered = absurd registered
    set_here (Masked _ _ ∷ past) at m run registered = absurd registered
    set_here (Suspended _ ∷ past) at m run registered = absurd registered
    set_here (Resumed _ ∷ past) at m run registered = absurd registered
    set_here (Refused _ _ _ ∷ past) at m run registered = absurd registered
    set_here (Removed _ ∷ past) at m run registered = absurd registered
    set_here (Closed _ _ ∷ past) at m run registered = absurd registered
    set_here (Ended ∷ past) at m run registered = absurd registered

    scheduled_entry : EntryIsWithin (Scheduled timer handle first every)
    scheduled_entry =
        let fit = and_parts _ _ (fit_here before e after is) in
        let turn = turn_here before e after is refl (λ q. cc) refl in
        let set = set_here (past_of before) refl turn.0 turn.1 turn.2 in (
          subst (λ (n : ℕ). n < 2 ^ 64) (sym (eqb-true _ _ fit.0))
              (scheduled_within t.most (past_of before) (short_here before e after is)),
          alive_within t.most (past_of before) handle.0 (may_here before e after is).1
              (and_parts _ _ fit.1).0,
          set.0,
          set.1,
        )

  no_notices : (before after : List (Entry ServerNote)) (e : Entry ServerNote)
      → journal ≡ before ++ e ∷ after → is_notice e ≡ true → ⊥
  no_notices before after e is holds = both_ways (list_any is_notice journal) quiet
      (ap (list_any is_notice) is ∙ holds_at is_notice before e after holds)

  small : (n : ℕ) → n ≤ last_moment → n < 2 ^ 64
  small n le = omega (arith, le)

  entry_within : (before : List (Entry ServerNote)) (e : Entry ServerNote)
      (after : List (Entry ServerNote)) → journal ≡ before ++ e ∷ after → EntryIsWithin e
  entry_within before (Opened handle mask) after is =
      opened_here t.most (past_of before) handle mask (legal_here before _ after is)
  entry_within before (Scheduled timer handle first every) after is =
      scheduled_entry before after timer handle first every is
  entry_within before (Cancelled timer) after is =
      let may = (turn_here before _ after is refl (λ q. cc) refl).2 in
      absurd (no_cancel t may.event.upcall (r.acts.asks may.event.upcall Cancelling may.may))
  entry_within before (Polled moment) after is =
      small moment (polled_here before _ after is moment refl)
  entry_within before (Due timer) after is =
      due_within t.most (past_of before) (short_here before _ after is) timer
      (may_here before _ after is).1 (and_parts _ _ (fit_here before _ after is)).1
  entry_within before (Ready handle kind) after is =
      alive_within t.most (past_of before) handle.0 (may_here before _ after is).1
      (and_parts _ _ (and_parts _ _ (and_parts _ _ (fit_here before _ after is)).1).1).0
  entry_within before (Posted handle kind from seq) after is =
      absurd (no_notices before after _ is refl)
  entry_within before (Stale handle from seq) after is = absurd (no_notices before after _ is refl)
  entry_within before (Started event) after is =
      started_within t.most (past_of before) (short_here before _ after is) event
      (legal_here before _ after is) (short_past before _ after is)
  entry_within before (Returned event answer said) after is = (
    open_within t.most (past_of before) (short_here before _ after is) event
        (may_here before _ after is).1 (fit_here before _ after is),
    returned_within means t idle groups journal r script before event answer said after is,
  )
  entry_within before (Masked handle mask) after is =
      alive_within t.most (past_of before) handle.0 (may_here before _ after is).1
      (fit_here before _ after is)
  entry_within before (Suspended handle) after is =
      alive_within t.most (past_of before) handle.0 (may_here before _ after is).1
      (and_parts _ _ (fit_here before _ after is)).0
  entry_within before (Resumed handle) after is =
      alive_within t.most (past_of before) handle.0 (may_here before _ after is).1
      (and_parts _ _ (fit_here before _ after is)).0
  entry_within before (Refused number fault said) after is = (
    subst (λ (n : ℕ). n < 2 ^ 64)
        (sym (eqb-true _ _ (and_parts _ _ (fit_here before _ after is)).0))
        (live_within t.most (past_of before) (may_here before _ after is).1),
    refused_within means t idle groups journal r script before number fault said after is,
  )
  entry_within before (Removed handle) after is =
      alive_within t.most (past_of before) handle.0 (may_here before _ after is).1
      (fit_here before _ after is)
  entry_within before (Closed handle said) after is = (
    waiting_within t.most (past_of before) handle.0 (may_here before _ after is).1
        (fit_here before _ after is),
    closed_within means t idle groups journal r script before handle said after is,
  )
  entry_within before Ended after is = tt

  all_from : (front rest : List (Entry ServerNote)) → journal ≡ front ++ rest
      → AllByRecursion EntryIsWithin rest
  all_from front [] is = tt
  all_from front (e ∷ rest) is = (
    entry_within front e rest is,
    all_from (front ++ e ∷ []) rest (is ∙ sym (append_assoc front (e ∷ []) rest)),
  )

  pub journal_within : AllByRecursion EntryIsWithin journal
  journal_within = all_from [] journal refl
