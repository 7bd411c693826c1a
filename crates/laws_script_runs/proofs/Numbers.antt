-- If no handler was refused, the handler after the first one at each handle is that of the
-- connection of the same number, and there are no others.
use Rattle.std.proofs.Common.{ℕ, suc, ◌≡◌, ◌+◌, Bool, true, false, cond, List, [], ◌∷◌, ◌++◌}
use Rattle.std.proofs.Common.{length, refl, sym, ap, ◌∙◌, subst, arith, Option, Some, None}
use Rattle.std.proofs.Common.{append_assoc}
use Rattle.std.specs.Prelude.{flat_map}
use Rattle.std.specs.List.{list_any}
use Rattle.std.proofs.lemmas.Bool.{false≢true, or_parts}
use Rattle.reactor_model.specs.ev_base.specs.Terms.{Terms}
use Rattle.reactor_model.specs.reactor_journal.specs.Event.{Item, Origin}
use Rattle.reactor_model.specs.reactor_journal.specs.declared.entry.Entry.{Entry}
use Rattle.reactor_model.specs.reactor_journal.specs.declared.entry.Entry.TheVariants.{Opened}
use Rattle.reactor_model.specs.reactor_journal.specs.declared.entry.Entry.TheVariants.{Ended}
use Rattle.reactor_model.specs.reactor_journal.specs.Past.{origin_of, was_opened, was_closed}
use Rattle.reactor_model.specs.reactor_journal.specs.Past.{opened}
use Rattle.reactor_model.specs.reactor_journal.specs.Follow.{is_legal, follows_ready}
use Rattle.reactor_model.specs.reactor_journal.proofs.Turning.{is_legal-front}
use Rattle.reactor_model.specs.Handling.{Handling}
use Rattle.laws_script_turns.specs.acceptor.specs.Laws.{number_in}
use Rattle.laws_script_turns.specs.acceptor.specs.Servers.{ServerMay, is_accepted as says_accepted}
use Rattle.laws_script_told.specs.log_handler.specs.declared.note.ServerNote.{ServerNote}
use Rattle.laws_script_told.specs.log_handler.specs.declared.note.ServerNote.TheVariants as note
use Rattle.laws_script_turns.specs.event_script.specs.Script.{ScriptStep, ScriptGroup, steps_of}
use Rattle.laws_script_runs.specs.Connections.{AreLeft, accepted}
use Rattle.laws_script_runs.specs.Runs.{is_refusal, note_settled}
use Rattle.laws_script_runs.specs.Steps.{EachStep}
use Rattle.laws_script_runs.specs.Laws.{RunsOver}
use Rattle.laws_script_runs.proofs.ByTurns.{TurnsBefore}
use Rattle.laws_script_runs.proofs.Handles.{IsBegun, offered}
use Rattle.laws_script_runs.proofs.Numbering.{IsNumbered, balanced, accepted_number, settled_number}
use Rattle.laws_script_runs.proofs.Numbering.{owed, nothing_owed, refusals}
use Rattle.laws_script_runs.proofs.Standing.{opened_is}
use Rattle.laws_script_runs.proofs.Turns as turns
use Rattle.laws_script_runs.proofs.Settling.{each_front, origin_still, offered_note}
use Rattle.laws_script_runs.proofs.Winding as winding
use Rattle.laws_script_runs.proofs.Living as living
use Rattle.laws_script_runs.proofs.Whole as whole

-- none of which there is none
none_counted : (past : List (Entry ServerNote)) → list_any is_refusal past ≡ false
    → refusals past ≡ 0
none_counted [] h = refl
none_counted (e ∷ past) h =
    let parts = or_parts (is_refusal e) (list_any is_refusal past) h in
    ap (λ (b : Bool). cond b (suc (refusals past)) (refusals past)) parts.0
    ∙ none_counted past parts.1

module _ {H E : Type 0} (means : Handling H E ServerNote) (t : Terms) (idle : Option ℕ)
    (groups : List ScriptGroup) (journal : List (Entry ServerNote))
    (r : RunsOver means t idle groups journal) (none_refused : list_any is_refusal journal ≡ false)
  where
    abbrev steps : List ScriptStep
    steps = steps_of groups

    abbrev most : ℕ
    most = t.most

    abbrev run : List (Entry ServerNote)
    run = whole.run means t idle groups journal r

    abbrev wound : List (Entry ServerNote)
    wound = whole.wound means t idle groups journal r

    abbrev all : List (Entry ServerNote)
    all = whole.all means t idle groups journal r

    abbrev legal : is_legal most all ≡ true
    legal = whole.legal means t idle groups journal r

    legal_run : is_legal most run ≡ true
    legal_run = whole.legal_run means t idle groups journal r

    turned_run : TurnsBefore (ServerMay t) says_accepted 1 run None
    turned_run = whole.turned_run means t idle groups journal r

    begun_run : EachStep IsBegun run
    begun_run = whole.begun_run means t idle groups journal r

    abbrev begun : EachStep IsBegun all
    begun = whole.begun means t idle groups journal r

    abbrev left : AreLeft steps idle all
    left = whole.left means t idle groups journal r

    abbrev closed : (x : ℕ) → was_opened all x ≡ true → was_closed all x ≡ true
    closed = whole.closed means t idle groups journal r

    whole_run : all ≡ (wound ++ Ended ∷ []) ++ run
    whole_run = whole.whole_run means t idle groups journal r

    numbered : EachStep IsNumbered run
    numbered = whole.numbered means t idle groups journal r

    pub refused_all : list_any is_refusal all ≡ false
    refused_all = sym (ap (list_any is_refusal) (whole.all_is means t idle groups journal r))
        ∙ winding.any_reverse is_refusal journal none_refused

    refused_run : list_any is_refusal run ≡ false
    refused_run = (or_parts (is_refusal {N = ServerNote} Ended) (list_any is_refusal run)
        (winding.any_right is_refusal wound (Ended ∷ run) refused_all)).1

    -- ---- the number of each connection

    is_number : (c k : ℕ) (past : List (Entry ServerNote)) (o : Origin ServerNote)
        → note_settled past ≡ Some (note.Accepted k) → note_settled past ≡ Some o.note → k ≡ c
        → (number moment : ℕ)
        → Some (record { note = note.Accepted number; moment = moment }) ≡ Some o → number ≡ c
    is_number c k past o s n e number moment same =
        let a : o.note ≡ note.Accepted k = cc in
        let b : note.Accepted number ≡ o.note =
        ap (λ (x : Option (Origin ServerNote)).
        elim x [ None ↦ note.Accepted number | Some y ↦ y.note ]) same in
        let d : number ≡ k = cc in
        d ∙ e

    pub numbers : turns.AreNumbered most steps idle all legal begun left closed
    numbers c o =
        let o_run : was_opened run (suc c) ≡ true =
        sym (winding.opened_back most wound (Ended ∷ run) (suc c) legal refl) ∙ o in
        let by = offered run c begun_run o_run in
        let n : EachStep IsNumbered (Opened by.handle by.mask ∷ (by.first ∷ by.before)) =
        each_front IsNumbered by.later (Opened by.handle by.mask ∷ (by.first ∷ by.before))
        (subst (EachStep IsNumbered) by.is numbered) in
        let turned = winding.turns_front t by.later
        (Opened by.handle by.mask ∷ (by.first ∷ by.before)) None
        (subst (λ (p : List (Entry ServerNote)). TurnsBefore (ServerMay t) says_accepted 1 p None)
        by.is turned_run) in
        let b = balanced (ServerMay t) by.first by.before (Some (Opened by.handle by.mask)) n.1
        turned.1.2 in
        let none : list_any is_refusal (by.first ∷ by.before) ≡ false =
        winding.any_right is_refusal (by.later ++ Opened by.handle by.mask ∷ [])
        (by.first ∷ by.before) (sym (ap (list_any is_refusal)
        (by.is ∙ sym (append_assoc by.later (Opened by.handle by.mask ∷ [])
        (by.first ∷ by.before)))) ∙ refused_run) in
        let k = accepted_number (by.first ∷ by.before) n.0.0
        (settled_number (by.first ∷ by.before) n.1) b (none_counted (by.first ∷ by.before) none)
        in
        let here : is_legal most (Opened by.handle by.mask ∷ (by.first ∷ by.before)) ≡ true =
        is_legal-front most by.later (Opened by.handle by.mask ∷ (by.first ∷ by.before))
        (sym (ap (is_legal most) by.is) ∙ legal_run) in
        let is : by.handle.0 ≡ opened (by.first ∷ by.before) =
        opened_is most (by.first ∷ by.before) by.handle by.mask here in
        let talks = turns.connection most steps idle all legal begun left closed c o in
        let origin : origin_of all (suc c) ≡ origin_of run (suc c) =
        ap (λ (p : List (Entry ServerNote)). origin_of p (suc c)) whole_run
        ∙ origin_still most (wound ++ Ended ∷ []) run (suc c)
        (sym (ap (is_legal most) whole_run) ∙ legal) o_run in
        is_number c k.0 (by.first ∷ by.before) by.origin k.1
        (offered_note (by.first ∷ by.before) by.origin by.here)
        (same_number c k.0 (sym by.mine ∙ is ∙ k.2)) talks.number talks.moment
        (sym talks.origin ∙ origin ∙ by.of_it)
      where
        same_number : (c k : ℕ) → suc c ≡ k + 1 → k ≡ c
        same_number c k e = omega arith

    -- ---- how many handlers there are

    accepted_run : accepted run ≡ accepted all
    accepted_run =
        turns.counts most steps idle all legal begun left closed (wound ++ Ended ∷ []) run whole_run
        ∙ ap (λ (h : List (Item ServerNote)). length (flat_map number_in h))
        (sym (whole.had_is means t idle groups journal r 0))
        ∙ sym (turns.counts most steps idle all legal begun left closed [] all refl)

    balanced_run : opened run ≡ accepted run + 1
    balanced_run = by_run run refl
      where
        by_run : (past : List (Entry ServerNote)) → run ≡ past → opened run ≡ accepted run + 1
        by_run [] e = absurd (false≢true (sym (ap follows_ready e) ∙ r.ends.at_over.behind))
        by_run (d ∷ past) e =
            let b = balanced (ServerMay t) d past None (subst (EachStep IsNumbered) e numbered)
            (subst (λ (p : List (Entry ServerNote)).
            TurnsBefore (ServerMay t) says_accepted 1 p None) e turned_run) in
            let total : opened run + refusals run + owed run ≡ accepted run + 1 =
            subst (λ (p : List (Entry ServerNote)). opened p + refusals p + owed p
            ≡ accepted p + 1) (sym e) b.total in
            let refused : refusals run ≡ 0 = none_counted run refused_run in
            let none : owed run ≡ 0 = nothing_owed run r.ends.at_over.behind in
            omega (arith, total, none, refused)

    -- one for each connection that was accepted, and the acceptor
    pub opened_run : opened run ≡ accepted journal + 1
    opened_run = let count = living.accepted_journal means t idle groups journal r in
        omega (arith, balanced_run, accepted_run, count)
