-- The steps of a journal of one handler that is served.
use Rattle.std.proofs.Common.{ℕ, suc, ◌≡◌, ◌+◌, ◌*◌, ◌==◌, true, false, List, [], ◌∷◌, ◌++◌, map}
use Rattle.std.proofs.Common.{length, refl, sym, ap, ◌∙◌, subst, arith, Some, None, ⊎_elim}
use Rattle.std.proofs.lemmas.Bool.{cases_Bool, and_parts, and_from, eq-eqb, eqb-true}
use Rattle.std.proofs.lemmas.List.{map-append, length-append, append-nil}
use Rattle.std.proofs.lemmas.Grind.{flat_map-append}
use Rattle.std.proofs.lemmas.List.Folds.{list_all-append}
use Rattle.ev_base.specs.ev_types.specs.declared.upcall.Answer.{Answer}
use Rattle.ev_base.specs.ev_types.specs.declared.upcall.Answer.TheVariants.{Again, Close}
use Rattle.reactor_model.specs.reactor_journal.specs.Event.{Item}
use Rattle.reactor_model.specs.reactor_journal.specs.declared.entry.Entry.{Entry}
use Rattle.reactor_model.specs.reactor_journal.specs.declared.entry.Entry.TheVariants.{Started}
use Rattle.reactor_model.specs.reactor_journal.specs.declared.entry.Entry.TheVariants.{Returned}
use Rattle.reactor_model.specs.reactor_journal.specs.declared.entry.Entry.TheVariants.{Closed}
use Rattle.reactor_model.specs.reactor_journal.specs.Past.{past_of, had, reason_of, count}
use Rattle.reactor_model.specs.reactor_journal.specs.Past.{is_closed}
use Rattle.reactor_model.specs.reactor_journal.specs.Follow.{is_legal, may_follow}
use Rattle.reactor_model.specs.reactor_journal.proofs.Turning.{past_of-more}
use Rattle.reactor_core.specs.reactor_summary.specs.declared.parts.OpenEvent.{OpenEvent}
use Rattle.reactor_core.specs.reactor_summary.specs.Summary.{summary, step, open_event}
use Rattle.reactor_core.specs.reactor_summary.proofs.Lists.{some_is as some_same}
use Rattle.reactor_core.specs.reactor_summary.proofs.Told.{told}
use Rattle.reactor_core.specs.reactor_summary.specs.Summary.{is_alive}
use Rattle.ev_base.specs.ev_types.specs.declared.upcall.Why.TheVariants.{Own}
use Rattle.ev_base.specs.Terms.{open_terms}
use Rattle.reactor_model.specs.Handling.{Handling}
use Rattle.reactor_core.specs.Settling.{IsReturned}
use Rattle.reactor_core.proofs.Dispatch.{had_returned}
use Rattle.reactor_core.proofs.Returned.{is_returned}
use Rattle.one_run.specs.Phases.{one_handle, open_input, opened_summary, waiting_summary}
use Rattle.one_run.specs.Phases.{out_summary, closed_summary, notes_in, note_of, input_turn}
use Rattle.one_run.specs.Phases.{turns_in, ReadsOn, AllReadOn, is_served, first_entry, IsServedSo}
use Rattle.one_run.specs.Phases.{IsRead, EndsItself, IsShut}

pub same : (e : ℕ) → (e == e) ≡ true
same e = eq-eqb e e refl

-- ---- the summary, entry by entry

pub at_first : (N : Type 0) → summary {N = N} (past_of (first_entry ∷ [])) ≡ opened_summary
at_first N = refl

-- the open event of an upcall that was started is the one that waited

pub started_is : (N : Type 0) (e event : ℕ) (o : OpenEvent)
    → open_event (step {N = N} (waiting_summary e) (Started event)) event ≡ Some o → (event ≡ e)
    × (o ≡ open_input e)
started_is N e event o is =
    ⊎_elim
    (λ (t : (e == event) ≡ true). (sym (eqb-true e event t), some_is (sym (opens_yes t) ∙ is)))
    (λ (f : (e == event) ≡ false). absurd (none_some (sym (opens_no f) ∙ is)))
    (cases_Bool (e == event))
  where
    opens_yes : (e == event) ≡ true → open_event (step {N = N} (waiting_summary e) (Started event))
        event ≡ Some (open_input e)
    opens_yes t = rw t (rw t refl)

    opens_no : (e == event) ≡ false → open_event (step {N = N} (waiting_summary e) (Started event))
        event ≡ None
    opens_no f = rw f refl

    some_is : Some (open_input e) ≡ Some o → o ≡ open_input e
    some_is q = sym (some_same (open_input e) o q)

    none_some : None ≡ Some o → ⊥
    none_some q = cc

pub summary_started : (N : Type 0) (e : ℕ)
    → step {N = N} (waiting_summary e) (Started e) ≡ out_summary e
summary_started N e = rw (same e) refl

pub summary_again : {N : Type 0} (e : ℕ) (note : N)
    → step (out_summary e) (Returned e Again note) ≡ waiting_summary (suc (suc e))
summary_again e note = rw (same e) refl

pub summary_closed : {N : Type 0} (e : ℕ) (note said : N)
    → step (step (out_summary e) (Returned e Close note)) (Closed one_handle said)
    ≡ closed_summary (suc (suc (suc (suc e)))) 0 false
summary_closed e note said = rw (same e) refl

-- ---- the entries after the first

pub so_more : {N : Type 0} (h : List (Entry N)) (e : Entry N) → is_served e ≡ true → IsServedSo h
    → IsServedSo (h ++ e ∷ [])
so_more h e kind so = record {
  served = so.served ++ e ∷ [];
  is = ap (λ l. l ++ e ∷ []) so.is;
  kinds = list_all-append is_served so.served (e ∷ [])
      ∙ and_from _ _ so.kinds (and_from _ _ kind refl);
}

-- ---- the notes

pub notes_more : {N : Type 0} (h : List (Entry N)) (e : Entry N)
    → notes_in (h ++ e ∷ []) ≡ notes_in h ++ notes_in (e ∷ [])
notes_more h e = flat_map-append _ h (e ∷ [])

read_more : {N : Type 0} (items : List (Item N)) (item : Item N) → AllReadOn items → ReadsOn item
    → AllReadOn (items ++ item ∷ [])
read_more [] item all one = (one, tt)
read_more (first ∷ items) item all one = (all.0, read_more items item all.1 one)

-- ---- one turn

-- the turns after an upcall of the event e that was settled
turns_returned : {N : Type 0} (most : ℕ) (h : List (Entry N)) (e : ℕ) (answer : Answer) (note : N)
    → is_legal most (Started e ∷ past_of h) ≡ true → summary (past_of h) ≡ waiting_summary e
    → had (Returned e answer note ∷ Started e ∷ past_of h) 0
    ≡ turns_in h ++ input_turn answer note ∷ []
turns_returned {N} most h e answer note legal sums =
    had_returned most (Started e ∷ past_of h) e answer note (open_input e) legal
    (ap (λ s. open_event s e) out ∙ rw (same e) refl)
    ∙ ap (λ items. items ++ input_turn answer note ∷ []) (append-nil (turns_in h))
  where
    out : summary (Started e ∷ past_of h) ≡ out_summary e
    out = ap (λ s. step {N = N} s (Started e)) sums ∙ summary_started N e

pub past_two : {N : Type 0} (h : List (Entry N)) (a b : Entry N)
    → past_of ((h ++ a ∷ []) ++ b ∷ []) ≡ b ∷ a ∷ past_of h
past_two h a b = past_of-more (h ++ a ∷ []) b ∙ ap (λ past. b ∷ past) (past_of-more h a)

pub reads_on : {N : Type 0} (most : ℕ) (h : List (Entry N)) (e : ℕ) (note : N)
    → is_legal most (Started e ∷ past_of h) ≡ true → (r : IsRead h) → r.event ≡ e
    → IsRead ((h ++ Started e ∷ []) ++ Returned e Again note ∷ [])
reads_on {N} most h e note legal r is = record {
  event = suc (suc e);
  sums = ap summary (past_two h (Started e) (Returned e Again note))
      ∙ (ap (λ s. step {N = N} (step {N = N} s (Started e)) (Returned e Again note)) sums
      ∙ (ap (λ s. step {N = N} s (Returned e Again note)) (summary_started N e)
      ∙ summary_again e note));
  so = so_more (h ++ Started e ∷ []) (Returned e Again note) refl (so_more h (Started e) refl r.so);
  notes = notes_more (h ++ Started e ∷ []) (Returned e Again note)
      ∙ (ap (λ notes. notes ++ note ∷ [])
      (notes_more h (Started e) ∙ (append-nil (notes_in h) ∙ r.notes))
      ∙ sym (ap (map note_of) turns ∙ map-append note_of (turns_in h)
      (input_turn Again note ∷ [])));
  read_on = subst AllReadOn (sym turns)
      (read_more (turns_in h) (input_turn Again note) r.read_on
      (record { upcall = refl; answer = refl }));
  size = size_after;
}
  where
    sums : summary (past_of h) ≡ waiting_summary e
    sums = r.sums ∙ ap waiting_summary is

    turns : turns_in ((h ++ Started e ∷ []) ++ Returned e Again note ∷ [])
        ≡ turns_in h ++ input_turn Again note ∷ []
    turns = ap (λ past. had past 0) (past_two h (Started e) (Returned e Again note))
        ∙ turns_returned most h e Again note legal sums

    size_after : length ((h ++ Started e ∷ []) ++ Returned e Again note ∷ [])
        ≡ 3 + 2 * length (turns_in ((h ++ Started e ∷ []) ++ Returned e Again note ∷ []))
    size_after =
        let more : length (turns_in ((h ++ Started e ∷ []) ++ Returned e Again note ∷ []))
        ≡ length (turns_in h) + 1 = ap length turns
        ∙ length-append (turns_in h) (input_turn Again note ∷ []) in
        omega (
          arith,
          more,
          r.size,
          length-append (h ++ Started e ∷ [])
              (Returned e Again note ∷ []),
          length-append h (Started e ∷ []),
        )

pub reads_on_more : {N : Type 0} (most : ℕ) (h : List (Entry N)) (e : ℕ) (note : N)
    → is_legal most (Started e ∷ past_of h) ≡ true → (r : IsRead h) → r.event ≡ e
    → length (turns_in ((h ++ Started e ∷ []) ++ Returned e Again note ∷ []))
    ≡ suc (length (turns_in h))
reads_on_more {N} most h e note legal r is =
    ap length (ap (λ past. had past 0) (past_two h (Started e) (Returned e Again note))
    ∙ turns_returned most h e Again note legal (r.sums ∙ ap waiting_summary is))
    ∙ (length-append (turns_in h) (input_turn Again note ∷ []) ∙ one_more (length (turns_in h)))
  where
    one_more : (n : ℕ) → n + 1 ≡ suc n
    one_more n = omega arith

-- ---- the last turn

-- relations that say nothing, for laws of the journal alone
abbrev nothing_meant : {N : Type 0} → Handling (Unit {0}) (Unit {0}) N
nothing_meant = record {
  fits = λ t origin handler had. Unit {0};
  gone = λ t origin end had why note. Unit {0};
  may = λ t up deed. Unit {0};
  installs = λ note. false;
  serial = λ t origin. None;
}

-- a handler that answers Close while it is alive is closed for itself
closed_for_itself : {N : Type 0} (most : ℕ) (past : List (Entry N)) (e : ℕ) (note : N)
    → is_legal most (Returned e Close note ∷ past) ≡ true → summary past ≡ out_summary e
    → reason_of (Returned e Close note ∷ past) 0 ≡ Own
closed_for_itself {N} most past e note legal sums = (returned.dead dead).0
  where
    opens : open_event (summary past) e ≡ Some (open_input e)
    opens = ap (λ s. open_event s e) sums ∙ rw (same e) refl

    alive : is_alive (summary past) 0 ≡ true
    alive = ap (λ s. is_alive s 0) sums

    returned : IsReturned (nothing_meant {N = N}) (open_terms most) (Returned e Close note ∷ past) 0
        tt Own
    returned = is_returned (nothing_meant {N = N}) (open_terms most) most past (open_input e) Close
        note tt true legal (record { event = opens; fits = tt }) alive

    dead : is_alive (summary (Returned e Close note ∷ past)) 0 ≡ false
    dead = ap (λ s. is_alive (step {N = N} s (Returned e Close note)) 0) sums ∙ rw (same e) refl

pub none_closed : {N : Type 0} (most : ℕ) (past : List (Entry N)) → is_legal most past ≡ true
    → (summary past).closed ≡ 0 → count is_closed past ≡ 0
none_closed most past legal zero = sym ((told most past legal).closed) ∙ zero

ends_itself : {N : Type 0} (items : List (Item N)) (note : N) → AllReadOn items
    → EndsItself (items ++ input_turn Close note ∷ [])
ends_itself [] note all = (refl, refl)
ends_itself (item ∷ []) note all = (all.0, (refl, refl))
ends_itself (item ∷ next ∷ items) note all = (all.0, ends_itself (next ∷ items) note all.1)

pub shuts : {N : Type 0} (most : ℕ) (h : List (Entry N)) (e : ℕ) (note said : N)
    → is_legal most (Returned e Close note ∷ Started e ∷ past_of h) ≡ true → (r : IsRead h)
    → r.event ≡ e
    → IsShut [] (((h ++ Started e ∷ []) ++ Returned e Close note ∷ []) ++ Closed one_handle said
    ∷ [])
shuts {N} most h e note said legal r is = record {
  entries = suc (suc (suc (suc e)));
  moment = 0;
  sums = ap summary (past_of-more before (Closed one_handle said))
      ∙ (ap (λ s. step {N = N} s (Closed one_handle said)) sums_before
      ∙ summary_closed e note said);
  so = so_more before (Closed one_handle said) refl
      (so_more (h ++ Started e ∷ []) (Returned e Close note) refl
      (so_more h (Started e) refl r.so));
  closed = record {
    before = before;
    note = said;
    rest = [];
    is = sym (append-nil (before ++ Closed one_handle said ∷ []));
    quiet = refl;
    none_closed = ap (count is_closed) past_before
        ∙ none_closed most (Returned e Close note ∷ Started e ∷ past_of h) legal
        (ap (λ s. (step {N = N} (step {N = N} s (Started e)) (Returned e Close note)).closed) sums);
    reason = Own;
    closed_for = ap (λ past. reason_of past 0) past_before
        ∙ closed_for_itself most (Started e ∷ past_of h) e note legal
        (ap (λ s. step {N = N} s (Started e)) sums ∙ summary_started N e);
    ends = subst EndsItself (sym turns) (ends_itself (turns_in h) note r.read_on);
    notes = notes_more (h ++ Started e ∷ []) (Returned e Close note)
        ∙ (ap (λ notes. notes ++ note ∷ [])
        (notes_more h (Started e) ∙ (append-nil (notes_in h) ∙ r.notes))
        ∙ sym (ap (map note_of) turns ∙ map-append note_of (turns_in h)
        (input_turn Close note ∷ [])));
    size =
        let more : length (turns_in before) ≡ length (turns_in h) + 1 =
        ap length turns ∙ length-append (turns_in h) (input_turn Close note ∷ []) in
        omega (
          arith,
          more,
          r.size,
          length-append before (Closed one_handle said ∷ []),
          length-append (h ++ Started e ∷ []) (Returned e Close note ∷ []),
          length-append h (Started e ∷ []),
        );
  };
  own = refl;
  waits = refl;
}
  where
    before : List (Entry N)
    before = (h ++ Started e ∷ []) ++ Returned e Close note ∷ []

    past_before : past_of before ≡ Returned e Close note ∷ Started e ∷ past_of h
    past_before = past_two h (Started e) (Returned e Close note)

    sums : summary (past_of h) ≡ waiting_summary e
    sums = r.sums ∙ ap waiting_summary is

    sums_before : summary (past_of before) ≡ step {N = N} (out_summary e) (Returned e Close note)
    sums_before = ap summary past_before
        ∙ ap (λ s. step {N = N} s (Returned e Close note))
        (ap (λ s. step {N = N} s (Started e)) sums ∙ summary_started N e)

    turns : turns_in before ≡ turns_in h ++ input_turn Close note ∷ []
    turns = ap (λ past. had past 0) past_before
        ∙ turns_returned most h e Close note
        (and_parts (may_follow most (Started e ∷ past_of h) (Returned e Close note))
        (is_legal most (Started e ∷ past_of h)) legal).1 sums

pub shuts_note : {N : Type 0} (most : ℕ) (h : List (Entry N)) (e : ℕ) (note said : N)
    (legal : is_legal most (Returned e Close note ∷ Started e ∷ past_of h) ≡ true) (r : IsRead h)
    (is : r.event ≡ e)
    → (shuts most h e note said legal r is).closed.note ≡ said
unfolding shuts
shuts_note most h e note said legal r is = refl
