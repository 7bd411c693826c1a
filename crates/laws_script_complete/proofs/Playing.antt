-- How far a script was played: what is left of its steps, and which ends are gone.
use Rattle.std.proofs.Common.{ℕ, zero, suc, ◌≡◌, ◌≢◌, ◌∙◌, ◌==◌, ◌+◌, ◌≤◌, ◌<◌, ◌⊎◌, inl, inr, Bool}
use Rattle.std.proofs.Common.{true, false, not, cond, ◌&&◌, ◌||◌, List, [], ◌∷◌, ◌++◌, map, refl}
use Rattle.std.proofs.Common.{sym, ap, subst, arith, Option, Some, None, ⊎_elim}
use Rattle.std.specs.List.{list_any, filter}
use Rattle.std.proofs.lemmas.Bool.{false≢true, and_parts, and_from, or_cases, both_ways, cases_Bool}
use Rattle.std.proofs.lemmas.Bool.{eqb-true, eq-eqb}
use Rattle.laws_script_runs.specs.ev_types.specs.declared.upcall.Handle.{Handle}
use Rattle.laws_script_runs.specs.ev_types.specs.declared.upcall.Mask.{Mask}
use Rattle.laws_script_runs.specs.ev_base.specs.Terms.{StepEnd, AtListener, AtConnection, Step}
use Rattle.laws_script_runs.specs.ev_base.specs.Terms.{Group}
use Rattle.laws_script_runs.specs.ev_base.specs.Playing.{Playing, Seat, is_end, is_at, without}
use Rattle.laws_script_runs.specs.ev_base.specs.Playing.{dropped, has_handle, masked, waited}
use Rattle.laws_script_runs.specs.ev_base.specs.Playing.{by_held, of_groups, of_group, of_time}
use Rattle.laws_script_runs.specs.ev_base.specs.Playing.{is_late, given, left, leaves, report_at}
use Rattle.laws_script_runs.specs.ev_base.specs.Playing.{most_reports}
use Rattle.laws_script_runs.specs.ev_base.specs.declared.net.Report.{Report}
use Rattle.laws_script_runs.specs.reactor_journal.specs.declared.entry.Entry.{Entry}
use Rattle.laws_script_runs.specs.reactor_journal.specs.declared.entry.Entry.TheVariants.{Opened}
use Rattle.laws_script_runs.specs.reactor_journal.specs.declared.entry.Entry.TheVariants.{Scheduled}
use Rattle.laws_script_runs.specs.reactor_journal.specs.declared.entry.Entry.TheVariants.{Cancelled}
use Rattle.laws_script_runs.specs.reactor_journal.specs.declared.entry.Entry.TheVariants.{Polled}
use Rattle.laws_script_runs.specs.reactor_journal.specs.declared.entry.Entry.TheVariants.{Due}
use Rattle.laws_script_runs.specs.reactor_journal.specs.declared.entry.Entry.TheVariants.{Ready}
use Rattle.laws_script_runs.specs.reactor_journal.specs.declared.entry.Entry.TheVariants.{Posted}
use Rattle.laws_script_runs.specs.reactor_journal.specs.declared.entry.Entry.TheVariants.{Stale}
use Rattle.laws_script_runs.specs.reactor_journal.specs.declared.entry.Entry.TheVariants.{Started}
use Rattle.laws_script_runs.specs.reactor_journal.specs.declared.entry.Entry.TheVariants.{Returned}
use Rattle.laws_script_runs.specs.reactor_journal.specs.declared.entry.Entry.TheVariants.{Masked}
use Rattle.laws_script_runs.specs.reactor_journal.specs.declared.entry.Entry.TheVariants.{Suspended}
use Rattle.laws_script_runs.specs.reactor_journal.specs.declared.entry.Entry.TheVariants.{Resumed}
use Rattle.laws_script_runs.specs.reactor_journal.specs.declared.entry.Entry.TheVariants.{Refused}
use Rattle.laws_script_runs.specs.reactor_journal.specs.declared.entry.Entry.TheVariants.{Removed}
use Rattle.laws_script_runs.specs.reactor_journal.specs.declared.entry.Entry.TheVariants.{Closed}
use Rattle.laws_script_runs.specs.reactor_journal.specs.declared.entry.Entry.TheVariants.{Ended}
use Rattle.laws_script_runs.specs.reactor_journal.specs.Past.{opened, was_closed, closes}
use Rattle.laws_script_runs.specs.reactor_journal.specs.Follow.{is_legal}
use Rattle.laws_script_runs.specs.reactor_journal.proofs.Alive.{opened_below}
use Rattle.laws_script_runs.specs.reactor_journal.proofs.Closing.{closed_gone}
use Rattle.laws_script_runs.specs.reactor_journal.proofs.Turning.{count-append}
use Rattle.laws_script_runs.specs.log_handler.specs.declared.note.ServerNote.{ServerNote}
use Rattle.laws_script_runs.specs.laws_script_told.specs.Laws.{steps_at, all_steps, is_step_at}
use Rattle.laws_script_runs.specs.laws_script_told.specs.Told.{told, time_left_in, end_offered}
use Rattle.laws_script_runs.specs.laws_script_told.proofs.Playing.{to_come}
use Rattle.laws_script_runs.proofs.Standing.{OpenedFor, opened_is}

-- ---- no step comes from nowhere

both : (b : Bool) (n m : ℕ) → n ≤ m → cond b (suc n) n ≤ cond b (suc m) m
both true n m h = omega (arith, h)
both false n m h = h

skip : (b : Bool) (n m : ℕ) → n ≤ m → n ≤ cond b (suc m) m
skip true n m h = omega (arith, h)
skip false n m h = h

left_le : (end : StepEnd) (seats : List Seat) (room : ℕ) (steps : List Step)
    → steps_at end (left seats room steps) ≤ steps_at end steps
left_le end seats room [] = omega arith
left_le end seats room (step ∷ steps) =
    by_report (report_at seats step) room (λ r. left_le end seats r steps)
  where
    by_report : (report : Option Report) (room : ℕ)
        → ((r : ℕ) → steps_at end (left seats r steps) ≤ steps_at end steps)
        → steps_at end (leaves report step room (λ r. left seats r steps))
        ≤ steps_at end (step ∷ steps)
    by_report None room rest = both (is_step_at end step) _ _ (rest room)
    by_report (Some report) zero rest = both (is_step_at end step) _ _ (rest zero)
    by_report (Some report) (suc room) rest = skip (is_step_at end step) _ _ (rest room)

filter_le : (end : StepEnd) (p : Step → Bool) (steps : List Step)
    → steps_at end (filter p steps) ≤ steps_at end steps
filter_le end p [] = omega arith
filter_le end p (step ∷ steps) = by_test (p step) (filter_le end p steps)
  where
    by_test : (b : Bool) → steps_at end (filter p steps) ≤ steps_at end steps
        → steps_at end (cond b (step ∷ filter p steps) (filter p steps))
        ≤ steps_at end (step ∷ steps)
    by_test true h = both (is_step_at end step) _ _ h
    by_test false h = skip (is_step_at end step) _ _ h

same_le : (n : ℕ) → n ≤ n
same_le n = omega arith

dropped_le : (end : StepEnd) (ends : List StepEnd) (p : Playing)
    → to_come end (dropped ends p) ≤ to_come end p
dropped_le end ends p = let h = filter_le end (λ step. not (is_at ends step)) p.held in
    omega (arith, h)

module _ (end : StepEnd) (p : Playing) where
  group_le : (group : Group) (groups : List Group) → p.groups ≡ group ∷ groups
      → to_come end (of_group group groups p).next ≤ to_come end p
  group_le group groups is =
      let steps = without p.gone group.steps in
      let held : steps_at end (p.held ++ left p.seats most_reports steps)
      ≡ steps_at end p.held + steps_at end (left p.seats most_reports steps) =
      count-append (is_step_at end) p.held (left p.seats most_reports steps) in
      let l : steps_at end (left p.seats most_reports steps) ≤ steps_at end steps =
      left_le end p.seats most_reports steps in
      let w : steps_at end steps ≤ steps_at end group.steps =
      filter_le end (λ step. not (is_at p.gone step)) group.steps in
      let all : steps_at end (all_steps p.groups)
      ≡ steps_at end group.steps + steps_at end (all_steps groups) =
      ap (λ (g : List Group). steps_at end (all_steps g)) is
      ∙ count-append (is_step_at end) group.steps (all_steps groups) in
      omega (arith, held, l, w, all)

  groups_le : (most : Option ℕ) (groups : List Group) → p.groups ≡ groups
      → to_come end (of_groups most groups p).next ≤ to_come end p
  groups_le most [] is = same_le (to_come end p)
  groups_le most (group ∷ groups) is = by_late (is_late most p.moment group.moment)
    where
      by_late : (b : Bool) → to_come end (cond b (of_time most p) (of_group group groups p)).next
          ≤ to_come end p
      by_late true = same_le (to_come end p)
      by_late false = group_le group groups is

  waited_le : (most : Option ℕ) → to_come end (waited most p).next ≤ to_come end p
  waited_le most = by_given (given p.seats most_reports p.held)
    where
      by_given : (reports : List Report) → to_come end (by_held reports most p).next ≤ to_come end p
      by_given [] = groups_le most p.groups refl
      by_given (report ∷ reports) = let l = left_le end p.seats most_reports p.held in
          omega (arith, l)

-- a wait changes neither the seats nor the ends that are gone
record Stays (p next : Playing) : Type 0 where
  seats : next.seats ≡ p.seats
  gone : next.gone ≡ p.gone

module _ (p : Playing) where
  groups_stay : (most : Option ℕ) (groups : List Group) → Stays p (of_groups most groups p).next
  groups_stay most [] = record { seats = refl; gone = refl }
  groups_stay most (group ∷ groups) = by_late (is_late most p.moment group.moment)
    where
      by_late : (b : Bool) → Stays p (cond b (of_time most p) (of_group group groups p)).next
      by_late true = record { seats = refl; gone = refl }
      by_late false = record { seats = refl; gone = refl }

  waited_stays : (most : Option ℕ) → Stays p (waited most p).next
  waited_stays most = by_given (given p.seats most_reports p.held)
    where
      by_given : (reports : List Report) → Stays p (by_held reports most p).next
      by_given [] = groups_stay most p.groups
      by_given (report ∷ reports) = record { seats = refl; gone = refl }

-- a handler was refused whose end this is
abbrev pub RefusedFor : List (Entry ServerNote) → StepEnd → Type 0
RefusedFor [] end = ⊥
RefusedFor (Refused live fault said ∷ past) end = (end_offered past ≡ end) ⊎ RefusedFor past end
RefusedFor (e ∷ past) end = RefusedFor past end

module _ (start : List Group) where
  le_trans : (a b c : ℕ) → a ≤ b → b ≤ c → a ≤ c
  le_trans a b c h k = omega (arith, h, k)

  -- what is still to come of an end was among its steps
  pub told_le : (end : StepEnd) (past : List (Entry ServerNote))
      → to_come end (told start past) ≤ steps_at end (all_steps start)
  told_le end [] = omega arith
  told_le end (Polled moment ∷ past) =
      le_trans _ _ _ (waited_le end (told start past) (time_left_in past)) (told_le end past)
  told_le end (Refused live fault said ∷ past) =
      le_trans _ _ _ (dropped_le end (end_offered past ∷ []) (told start past)) (told_le end past)
  told_le end (Closed handle other ∷ past) =
      le_trans _ _ _ (dropped_le end (map (λ (seat : Seat). seat.end)
      (filter (has_handle handle.0) (told start past).seats))
      (record (told start past) {
        seats = filter (λ seat. not (has_handle handle.0 seat)) (told start past).seats;
      }))
      (told_le end past)
  told_le end (Opened handle mask ∷ past) = told_le end past
  told_le end (Scheduled timer handle first every ∷ past) = told_le end past
  told_le end (Cancelled timer ∷ past) = told_le end past
  told_le end (Due timer ∷ past) = told_le end past
  told_le end (Ready handle kind ∷ past) = told_le end past
  told_le end (Posted handle kind from seq ∷ past) = told_le end past
  told_le end (Stale handle from seq ∷ past) = told_le end past
  told_le end (Started event ∷ past) = told_le end past
  told_le end (Returned event answer said ∷ past) = told_le end past
  told_le end (Masked handle mask ∷ past) = told_le end past
  told_le end (Suspended handle ∷ past) = told_le end past
  told_le end (Resumed handle ∷ past) = told_le end past
  told_le end (Removed handle ∷ past) = told_le end past
  told_le end (Ended ∷ past) = told_le end past

  -- ---- ends that are gone

  abbrev pub IsGone : StepEnd → List (Entry ServerNote) → Type 0
  IsGone end past = list_any (λ e. is_end e end) (told start past).gone ≡ true

  or_right : (b c : Bool) → c ≡ true → (b || c) ≡ true
  or_right true c h = refl
  or_right false c h = h

  any_right : (q : StepEnd → Bool) (a b : List StepEnd) → list_any q b ≡ true
      → list_any q (a ++ b) ≡ true
  any_right q [] b h = h
  any_right q (e ∷ a) b h = or_right (q e) (list_any q (a ++ b)) (any_right q a b h)

  any_left : (q : StepEnd → Bool) (a b : List StepEnd) → list_any q a ≡ true
      → list_any q (a ++ b) ≡ true
  any_left q [] b h = absurd (false≢true h)
  any_left q (e ∷ a) b h = ⊎_elim (λ (t : q e ≡ true).
      ap (λ (b' : Bool). b' || list_any q (a ++ b)) t)
      (λ (t : list_any q a ≡ true). or_right (q e) (list_any q (a ++ b)) (any_left q a b t))
      (or_cases (q e) (list_any q a) h)

  self : (end : StepEnd) → is_end end end ≡ true
  self AtListener = refl
  self (AtConnection c) = eq-eqb c c refl

  gone_later : (end : StepEnd) (e : Entry ServerNote) (past : List (Entry ServerNote))
      → IsGone end past → IsGone end (e ∷ past)
  gone_later end (Polled moment) past g =
      ap (list_any (λ e. is_end e end)) (waited_stays (told start past) (time_left_in past)).gone
      ∙ g
  gone_later end (Refused live fault said) past g =
      any_right (λ e. is_end e end) (end_offered past ∷ []) (told start past).gone g
  gone_later end (Closed handle other) past g =
      any_right (λ e. is_end e end) (map (λ (seat : Seat). seat.end)
      (filter (has_handle handle.0) (told start past).seats)) (told start past).gone g
  gone_later end _ past g = g

  pub refused_gone : (end : StepEnd) (past : List (Entry ServerNote)) → RefusedFor past end
      → IsGone end past
  refused_gone end [] r = absurd r
  refused_gone end (Refused live fault said ∷ past) (inl is) =
      ap (λ (b : Bool). b || list_any (λ e. is_end e end) (told start past).gone)
      (ap (λ (e : StepEnd). is_end e end) is ∙ self end)
  refused_gone end (Refused live fault said ∷ past) (inr r) =
      gone_later end (Refused live fault said) past (refused_gone end past r)
  refused_gone end (Opened handle mask ∷ past) r =
      gone_later end (Opened handle mask) past (refused_gone end past r)
  refused_gone end (Scheduled timer handle first every ∷ past) r =
      gone_later end (Scheduled timer handle first every) past (refused_gone end past r)
  refused_gone end (Cancelled timer ∷ past) r =
      gone_later end (Cancelled timer) past (refused_gone end past r)
  refused_gone end (Polled moment ∷ past) r =
      gone_later end (Polled moment) past (refused_gone end past r)
  refused_gone end (Due timer ∷ past) r = gone_later end (Due timer) past (refused_gone end past r)
  refused_gone end (Ready handle kind ∷ past) r =
      gone_later end (Ready handle kind) past (refused_gone end past r)
  refused_gone end (Posted handle kind from seq ∷ past) r =
      gone_later end (Posted handle kind from seq) past (refused_gone end past r)
  refused_gone end (Stale handle from seq ∷ past) r =
      gone_later end (Stale handle from seq) past (refused_gone end past r)
  refused_gone end (Started event ∷ past) r =
      gone_later end (Started event) past (refused_gone end past r)
  refused_gone end (Returned event answer said ∷ past) r =
      gone_later end (Returned event answer said) past (refused_gone end past r)
  refused_gone end (Masked handle mask ∷ past) r =
      gone_later end (Masked handle mask) past (refused_gone end past r)
  refused_gone end (Suspended handle ∷ past) r =
      gone_later end (Suspended handle) past (refused_gone end past r)
  refused_gone end (Resumed handle ∷ past) r =
      gone_later end (Resumed handle) past (refused_gone end past r)
  refused_gone end (Removed handle ∷ past) r =
      gone_later end (Removed handle) past (refused_gone end past r)
  refused_gone end (Closed handle other ∷ past) r =
      gone_later end (Closed handle other) past (refused_gone end past r)
  refused_gone end (Ended ∷ past) r = gone_later end Ended past (refused_gone end past r)

  -- ---- the seat of a handler

  abbrev is_seat : ℕ → StepEnd → Seat → Bool
  is_seat x end seat = has_handle x seat && is_end seat.end end

  abbrev HasSeat : ℕ → StepEnd → List (Entry ServerNote) → Type 0
  HasSeat x end past = list_any (is_seat x end) (told start past).seats ≡ true

  module _ (c x : ℕ) where
    abbrev end : StepEnd
    end = AtConnection c

    masked_keeps : (handle : ℕ) (mask : Mask) (seats : List Seat)
        → list_any (is_seat x end) seats ≡ true
        → list_any (is_seat x end) (map (masked handle mask) seats) ≡ true
    masked_keeps handle mask [] h = h
    masked_keeps handle mask (seat ∷ seats) h = ⊎_elim
        (λ (t : is_seat x end seat ≡ true).
        ap (λ (b : Bool). b || list_any (is_seat x end) (map (masked handle mask) seats))
        (same (seat.handle == handle) ∙ t))
        (λ (t : list_any (is_seat x end) seats ≡ true).
        or_right (is_seat x end (masked handle mask seat)) _ (masked_keeps handle mask seats t))
        (or_cases (is_seat x end seat) (list_any (is_seat x end) seats) h)
      where
        same : (b : Bool) → is_seat x end (cond b (record seat { mask = mask }) seat)
            ≡ is_seat x end seat
        same true = refl
        same false = refl

    others_keep : (handle : ℕ) (seats : List Seat) → handle ≢ x
        → list_any (is_seat x end) seats ≡ true
        → list_any (is_seat x end) (filter (λ seat. not (has_handle handle seat)) seats) ≡ true
    others_keep handle [] ne h = h
    others_keep handle (seat ∷ seats) ne h =
        by_test (has_handle handle seat) refl (others_keep handle seats ne)
        (or_cases (is_seat x end seat) (list_any (is_seat x end) seats) h)
      where
        by_test : (b : Bool) → has_handle handle seat ≡ b
            → (list_any (is_seat x end) seats ≡ true
            → list_any (is_seat x end) (filter (λ seat. not (has_handle handle seat)) seats)
            ≡ true) → (is_seat x end seat ≡ true) ⊎ (list_any (is_seat x end) seats ≡ true)
            → list_any (is_seat x end) (cond (not b)
            (seat ∷ filter (λ seat. not (has_handle handle seat)) seats)
            (filter (λ seat. not (has_handle handle seat)) seats)) ≡ true
        by_test true e more (inl t) = absurd
            (ne (sym (eqb-true seat.handle handle e)
            ∙ eqb-true seat.handle x (and_parts (has_handle x seat) (is_end seat.end end) t).0))
        by_test true e more (inr t) = more t
        by_test false e more (inl t) = ap (λ (b : Bool). b
            || list_any (is_seat x end) (filter (λ seat. not (has_handle handle seat)) seats)) t
        by_test false e more (inr t) = or_right (is_seat x end seat) _ (more t)

    seat_gone : (seats : List Seat) → list_any (is_seat x end) seats ≡ true
        → list_any (λ e. is_end e end) (map (λ (seat : Seat). seat.end)
        (filter (has_handle x) seats)) ≡ true
    seat_gone [] h = absurd (false≢true h)
    seat_gone (seat ∷ seats) h = by_test (has_handle x seat) refl (seat_gone seats)
        (or_cases (is_seat x end seat) (list_any (is_seat x end) seats) h)
      where
        by_test : (b : Bool) → has_handle x seat ≡ b
            → (list_any (is_seat x end) seats ≡ true
            → list_any (λ e. is_end e end) (map (λ (seat : Seat). seat.end)
            (filter (has_handle x) seats)) ≡ true) → (is_seat x end seat ≡ true)
            ⊎ (list_any (is_seat x end) seats ≡ true)
            → list_any (λ e. is_end e end) (map (λ (seat : Seat). seat.end)
            (cond b (seat ∷ filter (has_handle x) seats) (filter (has_handle x) seats))) ≡ true
        by_test true e more (inl t) = ap (λ (b : Bool). b
            || list_any (λ e. is_end e end) (map (λ (seat : Seat). seat.end)
            (filter (has_handle x) seats))) (and_parts (has_handle x seat) (is_end seat.end end)
            t).1
        by_test true e more (inr t) = or_right (is_end seat.end end) _ (more t)
        by_test false e more (inl t) = absurd
            (both_ways (has_handle x seat) e (and_parts (has_handle x seat) (is_end seat.end end)
            t).0)
        by_test false e more (inr t) = more t

    -- the handler has its seat until it is closed, and its end is gone from then on
    record Sits (past : List (Entry ServerNote)) : Type 0 where
      seat : HasSeat x end past ⊎ IsGone end past
      shut : was_closed past x ≡ true → IsGone end past

    still : (e : Entry ServerNote) (past : List (Entry ServerNote)) → closes x e ≡ false
        → (HasSeat x end past → HasSeat x end (e ∷ past)) → Sits past → Sits (e ∷ past)
    still e past other keeps s = record {
      seat = ⊎_elim (λ (h : HasSeat x end past). inl (keeps h))
          (λ (g : IsGone end past). inr (gone_later end e past g)) s.seat;
      shut = λ c. gone_later end e past (s.shut
          (sym (ap (λ (b : Bool). b || was_closed past x) other) ∙ c));
    }

    sits_closed : (handle : Handle) (said : ServerNote) (past : List (Entry ServerNote)) → Sits past
        → Sits (Closed handle said ∷ past)
    sits_closed handle said past s = ⊎_elim
        (λ (t : (handle.0 == x) ≡ true). let g = now (eqb-true handle.0 x t) s.seat in
        record { seat = inr g; shut = λ c. g })
        (λ (f : (handle.0 == x) ≡ false). still (Closed handle said) past f
        (others_keep handle.0 (told start past).seats
        (λ q. both_ways (handle.0 == x) f (eq-eqb handle.0 x q))) s)
        (cases_Bool (handle.0 == x))
      where
        now : handle.0 ≡ x → HasSeat x end past ⊎ IsGone end past
            → IsGone end (Closed handle said ∷ past)
        now same (inl h) = any_left (λ e. is_end e end)
            (map (λ (seat : Seat). seat.end) (filter (has_handle handle.0) (told start past).seats))
            (told start past).gone
            (subst (λ (y : ℕ). list_any (λ e. is_end e end)
            (map (λ (seat : Seat). seat.end) (filter (has_handle y) (told start past).seats))
            ≡ true) (sym same) (seat_gone (told start past).seats h))
        now same (inr g) = gone_later end (Closed handle said) past g

    sits : (most : ℕ) (past : List (Entry ServerNote)) → is_legal most past ≡ true
        → OpenedFor past c x → Sits past
    sits most [] legal o = absurd o
    sits most (Opened handle mask ∷ past) legal (inl o) = record {
      seat = inl (ap (λ (b : Bool). b || list_any (is_seat x end) (told start past).seats)
          (and_from _ _ (eq-eqb handle.0 x o.0)
          (ap (λ (e : StepEnd). is_end e end) o.1 ∙ self end)));
      shut = λ shut.
          let gone = closed_gone most past x (and_parts _ _ legal).1 shut in
          let below : x < opened past = opened_below most past x (and_parts _ _ legal).1 gone.opened
          in
          let is : handle.0 ≡ opened past = opened_is most past handle mask legal in
          let same = o.0 in
          absurd (omega (arith, below, is, same));
    }
    sits most (Opened handle mask ∷ past) legal (inr o) =
        still (Opened handle mask) past refl
        (λ h. or_right (is_seat x end (record {
          handle = handle.0;
          mask = mask;
          end = end_offered past;
        })) _ h) (sits most past (and_parts _ _ legal).1 o)
    sits most (Closed handle said ∷ past) legal o =
        sits_closed handle said past (sits most past (and_parts _ _ legal).1 o)
    sits most (Polled moment ∷ past) legal o =
        still (Polled moment) past refl (λ h.
        ap (list_any (is_seat x end)) (waited_stays (told start past) (time_left_in past)).seats
        ∙ h)
        (sits most past (and_parts _ _ legal).1 o)
    sits most (Masked handle mask ∷ past) legal o =
        still (Masked handle mask) past refl (masked_keeps handle.0 mask (told start past).seats)
        (sits most past (and_parts _ _ legal).1 o)
    sits most (Scheduled timer handle first every ∷ past) legal o =
        still (Scheduled timer handle first every) past refl (λ h. h)
        (sits most past (and_parts _ _ legal).1 o)
    sits most (Cancelled timer ∷ past) legal o =
        still (Cancelled timer) past refl (λ h. h) (sits most past (and_parts _ _ legal).1 o)
    sits most (Due timer ∷ past) legal o =
        still (Due timer) past refl (λ h. h) (sits most past (and_parts _ _ legal).1 o)
    sits most (Ready handle kind ∷ past) legal o =
        still (Ready handle kind) past refl (λ h. h) (sits most past (and_parts _ _ legal).1 o)
    sits most (Posted handle kind from seq ∷ past) legal o =
        still (Posted handle kind from seq) past refl (λ h. h)
        (sits most past (and_parts _ _ legal).1 o)
    sits most (Stale handle from seq ∷ past) legal o =
        still (Stale handle from seq) past refl (λ h. h) (sits most past (and_parts _ _ legal).1 o)
    sits most (Started event ∷ past) legal o =
        still (Started event) past refl (λ h. h) (sits most past (and_parts _ _ legal).1 o)
    sits most (Returned event answer said ∷ past) legal o =
        still (Returned event answer said) past refl (λ h. h)
        (sits most past (and_parts _ _ legal).1 o)
    sits most (Suspended handle ∷ past) legal o =
        still (Suspended handle) past refl (λ h. h) (sits most past (and_parts _ _ legal).1 o)
    sits most (Resumed handle ∷ past) legal o =
        still (Resumed handle) past refl (λ h. h) (sits most past (and_parts _ _ legal).1 o)
    sits most (Refused live fault said ∷ past) legal o =
        still (Refused live fault said) past refl (λ h. h)
        (sits most past (and_parts _ _ legal).1 o)
    sits most (Removed handle ∷ past) legal o =
        still (Removed handle) past refl (λ h. h) (sits most past (and_parts _ _ legal).1 o)
    sits most (Ended ∷ past) legal o =
        still Ended past refl (λ h. h) (sits most past (and_parts _ _ legal).1 o)

    pub closed_gone_end : (most : ℕ) (past : List (Entry ServerNote)) → is_legal most past ≡ true
        → OpenedFor past c x → was_closed past x ≡ true → IsGone end past
    closed_gone_end most past legal o shut = (sits most past legal o).shut shut
