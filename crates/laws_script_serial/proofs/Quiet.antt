-- If each turn is settled at once, nothing is open and no handler waits for its closing, but
-- directly after what makes it so.
use Rattle.std.proofs.Common.{◌≡◌, ◌∙◌, ℕ, Bool, true, false, ◌||◌, List, [], ◌∷◌, sym, ap, Option}
use Rattle.std.proofs.Common.{Some, None, ⊎_elim}
use Rattle.std.proofs.lemmas.Bool.{false≢true, or_cases, or_parts, both_ways, eqb-true, eq-eqb}
use Rattle.laws_script_runs.specs.ev_types.specs.declared.upcall.Answer.TheVariants.{Close}
use Rattle.laws_script_runs.specs.ev_types.specs.declared.upcall.Handle.{Handle}
use Rattle.laws_script_runs.specs.reactor_journal.specs.Event.{Event}
use Rattle.laws_script_runs.specs.reactor_journal.specs.declared.entry.Entry.{Entry}
use Rattle.laws_script_runs.specs.reactor_journal.specs.declared.entry.Entry.TheVariants.{Started}
use Rattle.laws_script_runs.specs.reactor_journal.specs.declared.entry.Entry.TheVariants.{Returned}
use Rattle.laws_script_runs.specs.reactor_journal.specs.declared.entry.Entry.TheVariants.{Removed}
use Rattle.laws_script_runs.specs.reactor_journal.specs.declared.entry.Entry.TheVariants.{Closed}
use Rattle.laws_script_runs.specs.reactor_journal.specs.Past.{event_at, belongs_to, ends, closes}
use Rattle.laws_script_runs.specs.reactor_journal.specs.Past.{starts, is_open, was_removed}
use Rattle.laws_script_runs.specs.reactor_journal.specs.Past.{was_closed, was_returned}
use Rattle.laws_script_runs.specs.reactor_journal.proofs.OneOpen.{open_cases}
use Rattle.laws_script_runs.specs.reactor_journal.proofs.Steps.{open_parts}
use Rattle.laws_script_runs.specs.log_handler.specs.declared.note.ServerNote.{ServerNote}
use Rattle.laws_script_runs.specs.Steps.{EachStep}
use Rattle.laws_script_serial.specs.Serial.{IsSettledAtOnce, OnlyClosesUp}

-- ---- open events

-- the event was started last
abbrev pub StartsLast : List (Entry ServerNote) → ℕ → Type 0
StartsLast (Started event ∷ past) i = event ≡ i
StartsLast past i = ⊥

pub open_is_last : (past : List (Entry ServerNote)) (i : ℕ) → EachStep IsSettledAtOnce past
    → is_open past i ≡ true → StartsLast past i
open_is_last [] i settled o = absurd (false≢true o)
open_is_last (e ∷ past) i settled o =
    ⊎_elim (λ (h : starts i e ≡ true). starts_now e h)
    (λ (h : is_open past i ≡ true). by_last e past (open_is_last past i settled.1 h) settled.0 o)
    (open_cases e past i o)
  where
    starts_now : (e : Entry ServerNote) → starts i e ≡ true → StartsLast (e ∷ past) i
    starts_now (Started event) h = eqb-true event i h
    starts_now _ h = absurd (false≢true h)

    by_last : (e : Entry ServerNote) (past : List (Entry ServerNote)) → StartsLast past i
        → IsSettledAtOnce past e → is_open (e ∷ past) i ≡ true → StartsLast (e ∷ past) i
    by_last (Returned returned answer said) (Started event ∷ past) last settled o =
        absurd (both_ways (was_returned (Returned returned answer said ∷ (Started event ∷ past)) i)
        (open_parts (Returned returned answer said ∷ (Started event ∷ past)) i o).1
        (ap (λ (b : Bool). b || was_returned (Started event ∷ past) i)
        (eq-eqb returned i (settled ∙ last))))
    by_last _ (Started event ∷ past) last settled o = absurd settled
    by_last e [] last settled o = absurd last
    by_last e (_ ∷ past) last settled o = absurd last

-- ---- handlers that wait for their closing

-- the life of the handler ended last
abbrev pub EndsLast : List (Entry ServerNote) → ℕ → Type 0
EndsLast (Returned event Close said ∷ past) x = belongs_to x (event_at past event) ≡ true
EndsLast (Removed handle ∷ past) x = handle.0 ≡ x
EndsLast past x = ⊥

pub same_handle : (x y : ℕ) (event : Option Event) → belongs_to x event ≡ true
    → belongs_to y event ≡ true → x ≡ y
same_handle x y None h k = absurd (false≢true h)
same_handle x y (Some event) h k = sym (eqb-true event.handle x h) ∙ eqb-true event.handle y k

-- a handler whose life ended was closed, or it ended last
pub ends_last : (past : List (Entry ServerNote)) (x : ℕ) → EachStep IsSettledAtOnce past
    → EachStep OnlyClosesUp past → was_removed past x ≡ true → was_closed past x ≡ false
    → EndsLast past x
ends_last [] x settled closes_up r c = absurd (false≢true r)
ends_last (e ∷ past) x settled closes_up r c =
    let parts = or_parts (closes x e) (was_closed past x) c in
    ⊎_elim (λ (h : ends x (event_at past) e ≡ true). now e h)
    (λ (h : was_removed past x ≡ true).
    absurd (before e past (ends_last past x settled.1 closes_up.1 h parts.1) settled.0
    closes_up.0 parts.0))
    (or_cases (ends x (event_at past) e) (was_removed past x) r)
  where
    now : (e : Entry ServerNote) → ends x (event_at past) e ≡ true → EndsLast (e ∷ past) x
    now (Removed handle) h = eqb-true handle.0 x h
    now (Returned event Close said) h = h
    now _ h = absurd (false≢true h)

    closed_now : (handle : Handle) (said : ServerNote) → handle.0 ≡ x
        → closes x (Closed handle said) ≡ false → ⊥
    closed_now handle said is c = both_ways _ c (eq-eqb handle.0 x is)

    before : (e : Entry ServerNote) (past : List (Entry ServerNote)) → EndsLast past x
        → IsSettledAtOnce past e → OnlyClosesUp past e → closes x e ≡ false → ⊥
    before (Closed handle other) (Returned event Close said ∷ past) last settled up c =
        closed_now handle other (same_handle handle.0 x (event_at past event) settled last) c
    before _ (Returned event Close said ∷ past) last settled up c = absurd settled
    before (Closed other said) (Removed handle ∷ past) last settled up c =
        closed_now other said (sym (ap (λ (h : Handle). h.0) up) ∙ last) c
    before _ (Removed handle ∷ past) last settled up c = absurd up
    before e [] last settled up c = absurd last
    before e (_ ∷ past) last settled up c = absurd last
