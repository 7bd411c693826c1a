-- If there is room for all connections of a script, none is refused.
use Rattle.std.proofs.Common.{ℕ, suc, ◌≡◌, ◌==◌, ◌+◌, ◌-◌, ◌≤◌, ◌<◌, Bool, true, false, cond, ◌&&◌}
use Rattle.std.proofs.Common.{◌||◌, List, [], ◌∷◌, ◌++◌, length, reverse, refl, sym, ap, ◌∙◌, subst}
use Rattle.std.proofs.Common.{arith, Option, Some, None, append_assoc}
use Rattle.std.specs.List.{list_any, list_all}
use Rattle.std.proofs.lemmas.Bool.{false≢true, and_parts, both_ways, eqb-true}
use Rattle.std.proofs.lemmas.List.{reverse-reverse}
use Rattle.reactor_model.specs.ev_base.specs.Terms.{Terms}
use Rattle.reactor_model.specs.reactor_journal.specs.declared.entry.Entry.{Entry}
use Rattle.reactor_model.specs.reactor_journal.specs.declared.entry.Entry.TheVariants.{Opened}
use Rattle.reactor_model.specs.reactor_journal.specs.declared.entry.Entry.TheVariants.{Scheduled}
use Rattle.reactor_model.specs.reactor_journal.specs.declared.entry.Entry.TheVariants.{Cancelled}
use Rattle.reactor_model.specs.reactor_journal.specs.declared.entry.Entry.TheVariants.{Polled, Due}
use Rattle.reactor_model.specs.reactor_journal.specs.declared.entry.Entry.TheVariants.{Ready}
use Rattle.reactor_model.specs.reactor_journal.specs.declared.entry.Entry.TheVariants.{Posted}
use Rattle.reactor_model.specs.reactor_journal.specs.declared.entry.Entry.TheVariants.{Stale}
use Rattle.reactor_model.specs.reactor_journal.specs.declared.entry.Entry.TheVariants.{Started}
use Rattle.reactor_model.specs.reactor_journal.specs.declared.entry.Entry.TheVariants.{Returned}
use Rattle.reactor_model.specs.reactor_journal.specs.declared.entry.Entry.TheVariants.{Masked}
use Rattle.reactor_model.specs.reactor_journal.specs.declared.entry.Entry.TheVariants.{Suspended}
use Rattle.reactor_model.specs.reactor_journal.specs.declared.entry.Entry.TheVariants.{Resumed}
use Rattle.reactor_model.specs.reactor_journal.specs.declared.entry.Entry.TheVariants.{Refused}
use Rattle.reactor_model.specs.reactor_journal.specs.declared.entry.Entry.TheVariants.{Removed}
use Rattle.reactor_model.specs.reactor_journal.specs.declared.entry.Entry.TheVariants.{Closed}
use Rattle.reactor_model.specs.reactor_journal.specs.declared.entry.Entry.TheVariants.{Ended}
use Rattle.reactor_model.specs.reactor_journal.specs.Past.{count, had, is_closed, live, opened}
use Rattle.reactor_model.specs.reactor_journal.specs.Past.{ended}
use Rattle.reactor_model.specs.reactor_journal.specs.Follow.{may_follow, is_legal, most_handles}
use Rattle.reactor_model.specs.reactor_journal.proofs.Basics.{may_fits}
use Rattle.reactor_model.specs.reactor_journal.proofs.Turning.{is_legal-front}
use Rattle.reactor_model.specs.Handling.{Handling}
use Rattle.laws_script_turns.specs.acceptor.specs.Accepting as accepting
use Rattle.laws_script_turns.specs.acceptor.specs.Servers.{ServerMay, is_accepted as says_accepted}
use Rattle.laws_script_turns.specs.acceptor.proofs.Accounts as acceptor_accounts
use Rattle.laws_script_told.specs.log_handler.specs.declared.note.ServerNote.{ServerNote}
use Rattle.laws_script_turns.specs.event_script.specs.Script.{ScriptGroup, steps_of}
use Rattle.laws_script_turns.specs.event_script.specs.Script as script
use Rattle.laws_script_runs.specs.Connections.{accepts, accepted}
use Rattle.laws_script_runs.specs.Laws.{RunsOver}
use Rattle.laws_script_runs.specs.Runs.{is_refusal, is_closing}
use Rattle.reactor_model.specs.Entries.{is_fault}
use Rattle.laws_script_runs.specs.Steps.{EachStep}
use Rattle.laws_script_runs.proofs.ByTurns.{TurnsBefore}
use Rattle.laws_script_runs.proofs.Numbering.{IsNumbered, balanced, owed, refusals}
use Rattle.laws_script_runs.proofs.Scripts.{few}
use Rattle.laws_script_runs.proofs.Settling.{each_front}
use Rattle.laws_script_runs.proofs.Taking.{length_numbers, few_taken}
use Rattle.laws_script_runs.proofs.Turns as turns
use Rattle.laws_script_runs.proofs.Whole as whole
use Rattle.laws_script_runs.proofs.Winding as winding

-- ---- counts

count_more : (p : Entry ServerNote → Bool) (later past : List (Entry ServerNote))
    → count p past ≤ count p (later ++ past)
count_more p [] past = omega arith
count_more p (e ∷ later) past = one (p e) (count_more p later past)
  where
    one : (b : Bool) → count p past ≤ count p (later ++ past)
        → count p past ≤ cond b (suc (count p (later ++ past))) (count p (later ++ past))
    one true h = omega (arith, h)
    one false h = h

less : (a b : ℕ) → a - b ≤ a
less a b = omega arith

module _ {H E : Type 0} (means : Handling H E ServerNote) (t : Terms) (idle : Option ℕ)
    (groups : List ScriptGroup) (journal : List (Entry ServerNote))
    (r : RunsOver means t idle groups journal)
    (room : script.opened (steps_of groups) < t.most) (no_fault : list_any is_fault journal ≡ false)
  where
    abbrev run : List (Entry ServerNote)
    run = whole.run means t idle groups journal r

    abbrev all : List (Entry ServerNote)
    all = whole.all means t idle groups journal r

    no_fault_all : list_any is_fault all ≡ false
    no_fault_all = sym (ap (list_any is_fault) (whole.all_is means t idle groups journal r))
        ∙ winding.any_reverse is_fault journal no_fault

    -- how many connections the acceptor took, and how many the script has
    accepted_few : (later past : List (Entry ServerNote)) → all ≡ later ++ past
        → accepted past ≤ script.opened (steps_of groups)
    accepted_few later past is =
        let legal = whole.legal means t idle groups journal r in
        let begun = whole.begun means t idle groups journal r in
        let left = whole.left means t idle groups journal r in
        let closed = whole.closed means t idle groups journal r in
        let first = whole.first means t idle groups journal r in
        let listens = turns.acceptor t.most (steps_of groups) idle all legal begun left closed first
        in
        let account = acceptor_accounts.accounts _ (had all 0) listens.now listens.course in
        let total : accepted all ≡ listens.now.taken =
        turns.counts t.most (steps_of groups) idle all legal begun left closed [] all refl
        ∙ ap length account.notes ∙ length_numbers 0 listens.now.taken in
        let most_taken : listens.now.taken ≤ script.opened (steps_of groups) =
        few_taken (steps_of groups) listens.now.offering listens.now.taken account.offers in
        let more : accepted past ≤ accepted (later ++ past) = count_more accepts later past in
        let same : accepted (later ++ past) ≡ accepted all = ap accepted (sym is) in
        omega (arith, total, most_taken, more, same)

    -- no room is wanting
    has_room : (past : List (Entry ServerNote)) (number : ℕ) (fault : Bool)
        → opened past ≤ script.opened (steps_of groups) → fault ≡ false → ended past ≡ false
        → (number == live past && (live past == t.most
        || (opened past == most_handles || (fault || ended past)))) ≡ true → ⊥
    has_room past number fault below no_fault going fits =
        by_cause (live past == t.most) (opened past == most_handles) refl refl
        (and_parts _ _ fits).1
      where
        by_cause : (full spent : Bool) → (live past == t.most) ≡ full
            → (opened past == most_handles) ≡ spent
            → (full || (spent || (fault || ended past))) ≡ true → ⊥
        by_cause true spent a b h =
            let is : live past ≡ t.most = eqb-true _ _ a in
            let l : live past ≤ opened past = less (opened past) (count is_closed past) in
            omega (arith, is, l, below, room)
        by_cause false true a b h =
            let is : opened past ≡ most_handles = eqb-true _ _ b in
            let many : script.opened (steps_of groups) < accepting.most_connections =
            few (steps_of groups) r.script in
            omega (arith, is, below, many)
        by_cause false false a b h = both_ways (fault || ended past)
            (ap (λ (f : Bool). f || ended past) no_fault ∙ going) h

    refused_here : (later past : List (Entry ServerNote)) (number : ℕ) (fault : Bool)
        (said : ServerNote) → run ≡ later ++ Refused number fault said ∷ past → ⊥
    refused_here later past number fault said is =
        has_room past number fault (below past is) no_fault_here going fits
      where
        deeper : List (Entry ServerNote)
        deeper = (whole.wound means t idle groups journal r ++ Ended ∷ []) ++ later

        is_all : all ≡ deeper ++ Refused number fault said ∷ past
        is_all = whole.whole_run means t idle groups journal r
            ∙ ap (λ (p : List (Entry ServerNote)).
            (whole.wound means t idle groups journal r ++ Ended ∷ []) ++ p) is
            ∙ sym (append_assoc (whole.wound means t idle groups journal r ++ Ended ∷ []) later
            (Refused number fault said ∷ past))

        here : is_legal t.most (Refused number fault said ∷ past) ≡ true
        here = is_legal-front t.most later (Refused number fault said ∷ past)
            (sym (ap (is_legal t.most) is) ∙ whole.legal_run means t idle groups journal r)

        fits : (number == live past && (live past == t.most
            || (opened past == most_handles || (fault || ended past)))) ≡ true
        fits = may_fits t.most past (Refused number fault said)
            (and_parts (may_follow t.most past (Refused number fault said)) (is_legal t.most past)
            here).0

        no_fault_here : fault ≡ false
        no_fault_here = winding.none_at is_fault deeper (Refused number fault said) past
            (sym (ap (list_any is_fault) is_all) ∙ no_fault_all)

        going : ended past ≡ false
        going = winding.none_behind (later ++ Refused number fault said ∷ []) past
            (sym (ap ended (is ∙ sym (append_assoc later (Refused number fault said ∷ []) past)))
            ∙ whole.going means t idle groups journal r)

        below : (p : List (Entry ServerNote)) → run ≡ later ++ Refused number fault said ∷ p
            → opened p ≤ script.opened (steps_of groups)
        below [] is = omega arith
        below (d ∷ p) is =
            let in_all : all ≡ ((whole.wound means t idle groups journal r ++ Ended ∷ []) ++ later)
            ++ Refused number fault said ∷ (d ∷ p) =
            whole.whole_run means t idle groups journal r
            ∙ ap (λ (q : List (Entry ServerNote)).
            (whole.wound means t idle groups journal r ++ Ended ∷ []) ++ q) is
            ∙ sym (append_assoc (whole.wound means t idle groups journal r ++ Ended ∷ []) later
            (Refused number fault said ∷ (d ∷ p))) in
            let behind : all ≡ (((whole.wound means t idle groups journal r ++ Ended ∷ []) ++ later)
            ++ Refused number fault said ∷ []) ++ (d ∷ p) =
            in_all ∙ sym (append_assoc ((whole.wound means t idle groups journal r ++ Ended ∷ [])
            ++ later) (Refused number fault said ∷ []) (d ∷ p)) in
            let numbered = each_front IsNumbered later (Refused number fault said ∷ (d ∷ p))
            (subst (EachStep IsNumbered) is (whole.numbered means t idle groups journal r)) in
            let turned = winding.turns_front t later (Refused number fault said ∷ (d ∷ p)) None
            (subst (λ (q : List (Entry ServerNote)).
            TurnsBefore (ServerMay t) says_accepted 1 q None) is
            (whole.turned_run means t idle groups journal r)) in
            let b = balanced (ServerMay t) d p (Some (Refused number fault said)) numbered.1
            turned.1.2 in
            let total : opened (d ∷ p) + refusals (d ∷ p) + owed (d ∷ p) ≡ accepted (d ∷ p) + 1 =
            b.total in
            let one : owed (d ∷ p) ≡ 1 = ap (λ (x : Bool). cond x 1 0) numbered.0 in
            let most_accepted : accepted (d ∷ p) ≤ script.opened (steps_of groups) =
            accepted_few _ (d ∷ p) behind in
            omega (arith, total, one, most_accepted)

    none_in : (later past : List (Entry ServerNote)) → run ≡ later ++ past
        → list_any is_refusal past ≡ false
    none_in later [] is = refl
    none_in later (e ∷ past) is = by_entry e is
        (none_in (later ++ e ∷ []) past (is ∙ sym (append_assoc later (e ∷ []) past)))
      where
        by_entry : (e : Entry ServerNote) → run ≡ later ++ e ∷ past
            → list_any is_refusal past ≡ false
            → (is_refusal e || list_any is_refusal past) ≡ false
        by_entry (Refused number fault said) is rest =
            absurd (refused_here later past number fault said is)
        by_entry (Opened handle mask) is rest = rest
        by_entry (Scheduled timer handle first every) is rest = rest
        by_entry (Cancelled timer) is rest = rest
        by_entry (Polled moment) is rest = rest
        by_entry (Due timer) is rest = rest
        by_entry (Ready handle kind) is rest = rest
        by_entry (Posted handle kind from seq) is rest = rest
        by_entry (Stale handle from seq) is rest = rest
        by_entry (Started event) is rest = rest
        by_entry (Returned event answer other) is rest = rest
        by_entry (Masked handle mask) is rest = rest
        by_entry (Suspended handle) is rest = rest
        by_entry (Resumed handle) is rest = rest
        by_entry (Removed handle) is rest = rest
        by_entry (Closed handle other) is rest = rest
        by_entry Ended is rest = rest

    -- neither before the end nor after it
    closes_only : (l : List (Entry ServerNote)) → list_all is_closing l ≡ true
        → list_any is_refusal l ≡ false
    closes_only [] h = refl
    closes_only (Removed handle ∷ l) h = closes_only l h
    closes_only (Closed handle said ∷ l) h = closes_only l h
    closes_only (_ ∷ l) h = absurd (false≢true h)

    pub none_refused : list_any is_refusal journal ≡ false
    none_refused =
        ap (list_any is_refusal) r.ends.is
        ∙ winding.any_append is_refusal r.ends.run (Ended ∷ r.ends.closing)
        (ap (list_any is_refusal) (sym (reverse-reverse r.ends.run))
        ∙ winding.any_reverse is_refusal (reverse r.ends.run) (none_in [] run refl))
        (closes_only r.ends.closing r.ends.closes)
