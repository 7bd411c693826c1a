-- The handle of each connection, if none was refused.
use Rattle.std.proofs.Common.{ℕ, suc, ◌≡◌, ◌+◌, Bool, true, false, cond, List, [], ◌∷◌, refl, sym}
use Rattle.std.proofs.Common.{ap, arith, Option, Some, None}
use Rattle.std.proofs.lemmas.Bool.{false≢true, both_ways}
use Rattle.reactor_model.specs.ev_types.specs.declared.upcall.Answer.{Answer}
use Rattle.reactor_model.specs.ev_types.specs.declared.upcall.Upcall.{Upcall}
use Rattle.reactor_model.specs.ev_types.specs.declared.upcall.Handle.{Handle}
use Rattle.reactor_model.specs.ev_base.specs.Terms.{AtConnection}
use Rattle.reactor_model.specs.reactor_journal.specs.declared.entry.Entry.{Entry}
use Rattle.reactor_model.specs.reactor_journal.specs.declared.entry.Entry.TheVariants.{Opened}
use Rattle.reactor_model.specs.reactor_journal.specs.declared.entry.Entry.TheVariants.{Scheduled}
use Rattle.reactor_model.specs.reactor_journal.specs.declared.entry.Entry.TheVariants.{Cancelled}
use Rattle.reactor_model.specs.reactor_journal.specs.declared.entry.Entry.TheVariants.{Polled, Due}
use Rattle.reactor_model.specs.reactor_journal.specs.declared.entry.Entry.TheVariants.{Ready}
use Rattle.reactor_model.specs.reactor_journal.specs.declared.entry.Entry.TheVariants.{Posted}
use Rattle.reactor_model.specs.reactor_journal.specs.declared.entry.Entry.TheVariants.{Stale}
use Rattle.reactor_model.specs.reactor_journal.specs.declared.entry.Entry.TheVariants.{Started}
use Rattle.reactor_model.specs.reactor_journal.specs.declared.entry.Entry.TheVariants.{Returned}
use Rattle.reactor_model.specs.reactor_journal.specs.declared.entry.Entry.TheVariants.{Masked}
use Rattle.reactor_model.specs.reactor_journal.specs.declared.entry.Entry.TheVariants.{Suspended}
use Rattle.reactor_model.specs.reactor_journal.specs.declared.entry.Entry.TheVariants.{Resumed}
use Rattle.reactor_model.specs.reactor_journal.specs.declared.entry.Entry.TheVariants.{Refused}
use Rattle.reactor_model.specs.reactor_journal.specs.declared.entry.Entry.TheVariants.{Removed}
use Rattle.reactor_model.specs.reactor_journal.specs.declared.entry.Entry.TheVariants.{Closed}
use Rattle.reactor_model.specs.reactor_journal.specs.declared.entry.Entry.TheVariants.{Ended}
use Rattle.reactor_model.specs.reactor_journal.specs.Past.{count, opened}
use Rattle.reactor_model.specs.reactor_journal.specs.Follow.{follows_ready}
use Rattle.reactor_model.specs.Handling.{Deed}
use Rattle.laws_script_turns.specs.acceptor.specs.Servers.{read_alone, is_accepted as says_accepted}
use Rattle.laws_script_told.specs.log_handler.specs.declared.note.ServerNote.{ServerNote}
use Rattle.laws_script_told.specs.log_handler.specs.declared.note.ServerNote.TheVariants as note
use Rattle.reactor_model.specs.ev_base.specs.Playing.{end_of_serial}
use Rattle.laws_script_told.specs.log_handler.specs.Connections.{accepted_in}
use Rattle.laws_script_told.specs.Told.{end_offered}
use Rattle.laws_script_runs.specs.Connections.{accepted}
use Rattle.laws_script_runs.specs.Runs.{note_settled, is_accepted, is_refusal}
use Rattle.laws_script_runs.proofs.ByTurns.{TurnsBefore, Installs, is_install, is_install_or_close}
use Rattle.laws_script_runs.specs.Steps.{EachStep}

-- What the entries tell that concern numbers: a connection is accepted with the number of those
-- before, and a handler is registered or refused after a turn that accepted one, but the first,
-- which is the first entry.
abbrev pub NumberedNote : ServerNote → List (Entry ServerNote) → Type 0
NumberedNote (note.Accepted k) past = k ≡ accepted past
NumberedNote _ past = Unit {0}

abbrev pub IsNumbered : List (Entry ServerNote) → Entry ServerNote → Type 0
IsNumbered [] (Opened handle mask) = mask ≡ read_alone
IsNumbered [] e = ⊥
IsNumbered (d ∷ past) (Opened handle mask) =
    (is_accepted (note_settled (d ∷ past)) ≡ true) × (mask ≡ read_alone)
IsNumbered (d ∷ past) (Refused live fault said) = is_accepted (note_settled (d ∷ past)) ≡ true
IsNumbered (d ∷ past) (Returned event answer said) = NumberedNote said (d ∷ past)
IsNumbered (d ∷ past) e = Unit {0}

-- whether a connection that was accepted is still to be registered
abbrev pub owed : List (Entry ServerNote) → ℕ
owed past = cond (is_accepted (note_settled past)) 1 0

-- after a wait none is
pub nothing_owed : (past : List (Entry ServerNote)) → follows_ready past ≡ true → owed past ≡ 0
nothing_owed [] h = absurd (false≢true h)
nothing_owed (Polled moment ∷ past) h = refl
nothing_owed (Due timer ∷ past) h = refl
nothing_owed (Ready handle kind ∷ past) h = refl
nothing_owed (_ ∷ past) h = absurd (false≢true h)

-- the turn that was just settled has the number of the last connection that was accepted
abbrev pub NumberOf : Option ServerNote → List (Entry ServerNote) → Type 0
NumberOf None past = Unit {0}
NumberOf (Some (note.Accepted k)) past = accepted past ≡ k + 1
NumberOf (Some _) past = Unit {0}

number_note : (event : ℕ) (answer : Answer) (said : ServerNote) (past : List (Entry ServerNote))
    → NumberedNote said past → NumberOf (Some said) (Returned event answer said ∷ past)
number_note event answer (note.Accepted k) past h = plus_one k (accepted past) h
  where
    plus_one : (a b : ℕ) → a ≡ b → suc b ≡ a + 1
    plus_one a b e = omega arith
number_note event answer note.NoneWaiting past h = tt
number_note event answer note.ListenerFailed past h = tt
number_note event answer note.ListenerShut past h = tt
number_note event answer (note.Piece conn took records) past h = tt
number_note event answer (note.Finished conn end) past h = tt

-- one more `Closed` accepts none
closed_number : (said : Option ServerNote) (past : List (Entry ServerNote)) (handle : Handle)
    (other : ServerNote) → NumberOf said past → NumberOf said (Closed handle other ∷ past)
closed_number None past handle other h = h
closed_number (Some (note.Accepted k)) past handle other h = h
closed_number (Some note.NoneWaiting) past handle other h = h
closed_number (Some note.ListenerFailed) past handle other h = h
closed_number (Some note.ListenerShut) past handle other h = h
closed_number (Some (note.Piece conn took records)) past handle other h = h
closed_number (Some (note.Finished conn end)) past handle other h = h

pub settled_number : (past : List (Entry ServerNote)) → EachStep IsNumbered past
    → NumberOf (note_settled past) past
settled_number [] n = tt
settled_number (Returned event answer said ∷ []) n = absurd n.0
settled_number (Returned event answer said ∷ (d ∷ past)) n =
    number_note event answer said (d ∷ past) n.0
settled_number (Closed handle other ∷ []) n = tt
settled_number (Closed handle other ∷ (Returned event answer said ∷ past)) n =
    closed_number (Some said) (Returned event answer said ∷ past) handle other
    (settled_number (Returned event answer said ∷ past) n.1)
settled_number (Closed handle other ∷ (_ ∷ past)) n = tt
settled_number (_ ∷ past) n = tt

-- ---- handles and connections

abbrev pub TurnNext : List (Entry ServerNote) → Entry ServerNote → Type 0
TurnNext past e = Installs says_accepted 1 past (Some e)

says_same : (said : ServerNote) → is_accepted (Some said) ≡ true → says_accepted said ≡ true
says_same (note.Accepted k) h = refl
says_same note.NoneWaiting h = h
says_same note.ListenerFailed h = h
says_same note.ListenerShut h = h
says_same (note.Piece conn took records) h = h
says_same (note.Finished conn end) h = h

not_install : (e : Entry ServerNote) → is_install_or_close (Some e) ≡ false
    → is_install (Some e) ≡ false
not_install (Closed handle other) h = refl
not_install (Opened handle mask) h = absurd (false≢true (sym h))
not_install (Refused live fault said) h = absurd (false≢true (sym h))
not_install (Scheduled timer handle first every) h = refl
not_install (Cancelled timer) h = refl
not_install (Polled moment) h = refl
not_install (Due timer) h = refl
not_install (Ready handle kind) h = refl
not_install (Posted handle kind from seq) h = refl
not_install (Stale handle from seq) h = refl
not_install (Started event) h = refl
not_install (Returned event answer said) h = refl
not_install (Masked handle mask) h = refl
not_install (Suspended handle) h = refl
not_install (Resumed handle) h = refl
not_install (Removed handle) h = refl
not_install Ended h = refl

none_owed : (b : Bool) → (b ≡ true → ⊥) → ◌≡◌ {A = ℕ} (cond b 1 0) 0
none_owed true h = absurd (h refl)
none_owed false h = refl

-- if the next entry neither installs nor closes, no connection is owed
pub not_owed : (past : List (Entry ServerNote)) (e : Entry ServerNote) → EachStep IsNumbered past
    → TurnNext past e → is_install_or_close (Some e) ≡ false → owed past ≡ 0
not_owed [] e n turn plain = refl
not_owed (Returned event answer said ∷ []) e n turn plain = absurd n.0
not_owed (Returned event answer said ∷ (d ∷ past)) e n turn plain =
    none_owed (is_accepted (Some said))
    (λ h. both_ways _ plain (turn (omega arith) (says_same said h)))
not_owed (Closed handle other ∷ []) e n turn plain = refl
not_owed (Closed handle other ∷ (Returned event answer said ∷ [])) e n turn plain = absurd n.1.0
not_owed (Closed handle other ∷ (Returned event answer said ∷ (d ∷ past))) e n turn plain =
    none_owed (is_accepted (Some said))
    (λ h. both_ways _ (not_install e plain) (turn (omega arith) (says_same said h)))
not_owed (Closed handle other ∷ (_ ∷ past)) e n turn plain = refl
not_owed (_ ∷ past) e n turn plain = refl

-- after a `Closed` as much is owed as before it
pub closed_owed : (past : List (Entry ServerNote)) (handle : Handle) (other : ServerNote)
    → EachStep IsNumbered past → TurnNext past (Closed handle other)
    → owed (Closed handle other ∷ past) ≡ owed past
closed_owed [] handle other n turn = refl
closed_owed (Returned event answer said ∷ past) handle other n turn = refl
closed_owed (Closed handle' other' ∷ []) handle other n turn = refl
closed_owed (Closed handle' other' ∷ (Returned event answer said ∷ [])) handle other n turn =
    absurd n.1.0
closed_owed (Closed handle' other' ∷ (Returned event answer said ∷ (d ∷ past))) handle other n
    turn =
    sym (none_owed (is_accepted (Some said))
    (λ h. both_ways false refl (turn (omega arith) (says_same said h))))
closed_owed (Closed handle' other' ∷ (_ ∷ past)) handle other n turn = refl
closed_owed (_ ∷ past) handle other n turn = refl

-- how many handlers were refused
abbrev pub refusals : List (Entry ServerNote) → ℕ
refusals past = count is_refusal past

-- each connection that was accepted was registered or refused, or is owed
pub record Balanced (past : List (Entry ServerNote)) : Type 0 where
  pub total : opened past + refusals past + owed past ≡ accepted past + 1

balance_other : (e : Entry ServerNote) (past : List (Entry ServerNote))
    → opened (e ∷ past) ≡ opened past → refusals (e ∷ past) ≡ refusals past
    → accepted (e ∷ past) ≡ accepted past → owed (e ∷ past) ≡ 0 → owed past ≡ 0 → Balanced past
    → Balanced (e ∷ past)
balance_other e past o f a w v b = let t = b.total in
    record { total = omega (arith, o, f, a, w, v, t) }

balance_returned : (event : ℕ) (answer : Answer) (said : ServerNote)
    (past : List (Entry ServerNote)) → owed past ≡ 0 → Balanced past
    → Balanced (Returned event answer said ∷ past)
balance_returned event answer (note.Accepted k) past v b = let t = b.total in
    record { total = omega (arith, v, t) }
balance_returned event answer note.NoneWaiting past v b = let t = b.total in
    record { total = omega (arith, v, t) }
balance_returned event answer note.ListenerFailed past v b = let t = b.total in
    record { total = omega (arith, v, t) }
balance_returned event answer note.ListenerShut past v b = let t = b.total in
    record { total = omega (arith, v, t) }
balance_returned event answer (note.Piece conn took records) past v b = let t = b.total in
    record { total = omega (arith, v, t) }
balance_returned event answer (note.Finished conn end) past v b = let t = b.total in
    record { total = omega (arith, v, t) }

balance_more : (e : Entry ServerNote) (d : Entry ServerNote) (past : List (Entry ServerNote))
    → EachStep IsNumbered (d ∷ past) → IsNumbered (d ∷ past) e → TurnNext (d ∷ past) e
    → Balanced (d ∷ past) → Balanced (e ∷ (d ∷ past))
balance_more (Opened handle mask) d past n one turn b =
    let t = b.total in
    let w : owed (d ∷ past) ≡ 1 = ap (λ (b : Bool). cond b 1 0) one.0 in
    record { total = omega (arith, t, w) }
balance_more (Returned event answer said) d past n one turn b =
    balance_returned event answer said (d ∷ past)
    (not_owed (d ∷ past) (Returned event answer said) n turn refl) b
balance_more (Refused live fault said) d past n one turn b =
    let t = b.total in
    let w : owed (d ∷ past) ≡ 1 = ap (λ (b : Bool). cond b 1 0) one in
    record { total = omega (arith, t, w) }
balance_more (Closed handle other) d past n one turn b =
    let t = b.total in
    let w = closed_owed (d ∷ past) handle other n turn in
    record { total = omega (arith, t, w) }
balance_more (Scheduled timer handle first every) d past n one turn b =
    balance_other _ (d ∷ past) refl refl refl refl
    (not_owed (d ∷ past) (Scheduled timer handle first every) n turn refl) b
balance_more (Cancelled timer) d past n one turn b =
    balance_other _ (d ∷ past) refl refl refl refl
    (not_owed (d ∷ past) (Cancelled timer) n turn refl) b
balance_more (Polled moment) d past n one turn b =
    balance_other _ (d ∷ past) refl refl refl refl (not_owed (d ∷ past) (Polled moment) n turn refl)
    b
balance_more (Due timer) d past n one turn b =
    balance_other _ (d ∷ past) refl refl refl refl (not_owed (d ∷ past) (Due timer) n turn refl) b
balance_more (Ready handle kind) d past n one turn b =
    balance_other _ (d ∷ past) refl refl refl refl
    (not_owed (d ∷ past) (Ready handle kind) n turn refl) b
balance_more (Posted handle kind from seq) d past n one turn b =
    balance_other _ (d ∷ past) refl refl refl refl
    (not_owed (d ∷ past) (Posted handle kind from seq) n turn refl) b
balance_more (Stale handle from seq) d past n one turn b =
    balance_other _ (d ∷ past) refl refl refl refl
    (not_owed (d ∷ past) (Stale handle from seq) n turn refl) b
balance_more (Started event) d past n one turn b =
    balance_other _ (d ∷ past) refl refl refl refl (not_owed (d ∷ past) (Started event) n turn refl)
    b
balance_more (Masked handle mask) d past n one turn b =
    balance_other _ (d ∷ past) refl refl refl refl
    (not_owed (d ∷ past) (Masked handle mask) n turn refl) b
balance_more (Suspended handle) d past n one turn b =
    balance_other _ (d ∷ past) refl refl refl refl
    (not_owed (d ∷ past) (Suspended handle) n turn refl) b
balance_more (Resumed handle) d past n one turn b =
    balance_other _ (d ∷ past) refl refl refl refl
    (not_owed (d ∷ past) (Resumed handle) n turn refl) b
balance_more (Removed handle) d past n one turn b =
    balance_other _ (d ∷ past) refl refl refl refl
    (not_owed (d ∷ past) (Removed handle) n turn refl) b
balance_more Ended d past n one turn b =
    balance_other _ (d ∷ past) refl refl refl refl (not_owed (d ∷ past) Ended n turn refl) b

first_opened : (e : Entry ServerNote) → IsNumbered [] e → Balanced (e ∷ [])
first_opened (Opened handle mask) h = record { total = refl }
first_opened (Scheduled timer handle first every) h = absurd h
first_opened (Cancelled timer) h = absurd h
first_opened (Polled moment) h = absurd h
first_opened (Due timer) h = absurd h
first_opened (Ready handle kind) h = absurd h
first_opened (Posted handle kind from seq) h = absurd h
first_opened (Stale handle from seq) h = absurd h
first_opened (Started event) h = absurd h
first_opened (Returned event answer said) h = absurd h
first_opened (Masked handle mask) h = absurd h
first_opened (Suspended handle) h = absurd h
first_opened (Resumed handle) h = absurd h
first_opened (Refused live fault said) h = absurd h
first_opened (Removed handle) h = absurd h
first_opened (Closed handle other) h = absurd h
first_opened Ended h = absurd h

-- connection k is that of handle k + 1
pub accepted_number : (past : List (Entry ServerNote)) → is_accepted (note_settled past) ≡ true
    → NumberOf (note_settled past) past → Balanced past → refusals past ≡ 0 → (k : ℕ)
    × (note_settled past ≡ Some (note.Accepted k)) × (opened past ≡ k + 1)
accepted_number past h n b none = by_note (note_settled past) refl h n
  where
    by_note : (said : Option ServerNote) → note_settled past ≡ said → is_accepted said ≡ true
        → NumberOf said past → (k : ℕ) × (said ≡ Some (note.Accepted k)) × (opened past ≡ k + 1)
    by_note None is h n = absurd (false≢true h)
    by_note (Some (note.Accepted k)) is h n =
        let t = b.total in
        let w : owed past ≡ 1 = ap (λ (s : Option ServerNote). cond (is_accepted s) 1 0) is in
        (k, refl, omega (arith, t, w, n, none))
    by_note (Some note.NoneWaiting) is h n = absurd (false≢true h)
    by_note (Some note.ListenerFailed) is h n = absurd (false≢true h)
    by_note (Some note.ListenerShut) is h n = absurd (false≢true h)
    by_note (Some (note.Piece conn took records)) is h n = absurd (false≢true h)
    by_note (Some (note.Finished conn end)) is h n = absurd (false≢true h)

-- the end that is offered is that of the connection that was settled
pub offered_end : (past : List (Entry ServerNote)) (k : ℕ)
    → note_settled past ≡ Some (note.Accepted k) → end_offered past ≡ AtConnection k
offered_end [] k h = absurd (none h)
  where
    none : ◌≡◌ {A = Option ServerNote} None (Some (note.Accepted k)) → ⊥
    none e = cc
offered_end (Returned event answer said ∷ past) k h =
    ap (λ (s : ServerNote). end_of_serial (accepted_in s)) (same h)
  where
    same : Some said ≡ Some (note.Accepted k) → said ≡ note.Accepted k
    same e = cc
offered_end (Closed handle other ∷ (Returned event answer said ∷ past)) k h =
    ap (λ (s : ServerNote). end_of_serial (accepted_in s)) (same h)
  where
    same : Some said ≡ Some (note.Accepted k) → said ≡ note.Accepted k
    same e = cc
offered_end (Closed handle other ∷ []) k h = absurd (none h)
  where
    none : ◌≡◌ {A = Option ServerNote} None (Some (note.Accepted k)) → ⊥
    none e = cc
offered_end (Closed handle other ∷ (_ ∷ past)) k h = absurd (none h)
  where
    none : ◌≡◌ {A = Option ServerNote} None (Some (note.Accepted k)) → ⊥
    none e = cc
offered_end (_ ∷ past) k h = absurd (none h)
  where
    none : ◌≡◌ {A = Option ServerNote} None (Some (note.Accepted k)) → ⊥
    none e = cc

module _ (may : Upcall → Deed → Type 0) where
  pub balanced : (d : Entry ServerNote) (past : List (Entry ServerNote))
      (next : Option (Entry ServerNote)) → EachStep IsNumbered (d ∷ past)
      → TurnsBefore may says_accepted 1 (d ∷ past) next → Balanced (d ∷ past)
  balanced d [] next n turns = first_opened d n.0
  balanced d (e ∷ past) next n turns =
      balance_more d e past n.1 n.0 turns.2.0 (balanced e past (Some d) n.1 turns.2)
