-- A journal that follows a script to its end.
use Rattle.std.proofs.Common.{ℕ, suc, ◌≡◌, ◌==◌, ◌+◌, ◌⊎◌, inl, inr, Bool, true, false, not, cond}
use Rattle.std.proofs.Common.{◌&&◌, ◌||◌, List, [], ◌∷◌, ◌++◌, map, refl, sym, ap, ◌∙◌, subst}
use Rattle.std.proofs.Common.{arith, ⊎_elim}
use Rattle.std.proofs.lemmas.Bool.{false≢true, and_parts, and_from, or_parts, both_ways, cases_Bool}
use Rattle.std.proofs.lemmas.Bool.{eqb-true}
use Rattle.std.specs.List.{list_any, list_all, filter}
use Rattle.event_script.specs.ev_types.specs.declared.upcall.Kind.{Kind}
use Rattle.event_script.specs.ev_types.specs.declared.upcall.Kind.TheVariants.{Read, Write, Except}
use Rattle.event_script.specs.ev_types.specs.declared.upcall.Mask.{Mask}
use Rattle.event_script.specs.ev_types.specs.declared.upcall.Handle.{Handle}
use Rattle.event_script.specs.ev_base.specs.Terms.{StepEnd, Step, Group}
use Rattle.event_script.specs.ev_base.specs.declared.net.Report.{Report}
use Rattle.log_handler.specs.reactor_journal.specs.declared.entry.Entry.{Entry}
use Rattle.log_handler.specs.reactor_journal.specs.declared.entry.Entry.TheVariants.{Opened}
use Rattle.log_handler.specs.reactor_journal.specs.declared.entry.Entry.TheVariants.{Scheduled}
use Rattle.log_handler.specs.reactor_journal.specs.declared.entry.Entry.TheVariants.{Cancelled}
use Rattle.log_handler.specs.reactor_journal.specs.declared.entry.Entry.TheVariants.{Polled, Due}
use Rattle.log_handler.specs.reactor_journal.specs.declared.entry.Entry.TheVariants.{Ready, Posted}
use Rattle.log_handler.specs.reactor_journal.specs.declared.entry.Entry.TheVariants.{Stale, Started}
use Rattle.log_handler.specs.reactor_journal.specs.declared.entry.Entry.TheVariants.{Returned}
use Rattle.log_handler.specs.reactor_journal.specs.declared.entry.Entry.TheVariants.{Masked}
use Rattle.log_handler.specs.reactor_journal.specs.declared.entry.Entry.TheVariants.{Suspended}
use Rattle.log_handler.specs.reactor_journal.specs.declared.entry.Entry.TheVariants.{Resumed}
use Rattle.log_handler.specs.reactor_journal.specs.declared.entry.Entry.TheVariants.{Refused}
use Rattle.log_handler.specs.reactor_journal.specs.declared.entry.Entry.TheVariants.{Removed}
use Rattle.log_handler.specs.reactor_journal.specs.declared.entry.Entry.TheVariants.{Closed, Ended}
use Rattle.log_handler.specs.reactor_journal.specs.Past.{count, upcall_of, mask_of, has_kind, ends}
use Rattle.log_handler.specs.reactor_journal.specs.Past.{event_at, is_alive, was_opened}
use Rattle.log_handler.specs.reactor_journal.specs.Past.{was_removed}
use Rattle.log_handler.specs.reactor_journal.specs.Follow.{may_follow, is_legal, follows_ready}
use Rattle.log_handler.specs.reactor_journal.specs.Follow.{follows_due}
use Rattle.log_handler.specs.reactor_journal.proofs.Basics.{may_fits}
use Rattle.log_handler.specs.reactor_journal.proofs.Alive.{dead_was_removed, alive_not_removed}
use Rattle.log_handler.specs.reactor_journal.proofs.Alive.{alive_was_opened}
use Rattle.log_handler.specs.reactor_journal.proofs.Closing.{closing}
use Rattle.laws_reports.specs.Laws.{reports_input, holds_back, is_input}
use Rattle.log_handler.specs.declared.note.ServerNote.{ServerNote}
use Rattle.event_script.specs.Script.{ScriptStep, ScriptGroup, groups_told, report_step}
use Rattle.event_script.specs.ev_base.specs.Playing.{Playing, Seat, is_end, dropped, has_handle}
use Rattle.event_script.specs.ev_base.specs.Playing.{waited, given, most_reports, is_at}
use Rattle.laws_script_told.specs.Laws.{StandsOnlyAt, IsOnlyAt, steps_at, all_steps}
use Rattle.laws_script_told.specs.Told.{told, time_left_in, end_offered, is_taken_in, FollowsBefore}
use Rattle.laws_script_told.specs.Told.{last_wait, is_over}
use Rattle.laws_script_told.proofs.Playing.{AreSeatsRight, is_seat_right, Sees, is_report_of}
use Rattle.laws_script_told.proofs.Playing.{is_read, AreReads, to_come, wait_reports, filter_reads}
use Rattle.laws_script_told.proofs.Playing.{without_count, over_leaves, has_seat, none_held}
use Rattle.laws_script_told.proofs.Playing.{is_seat_of, none_waited}

append_reads : (a b : List Step) → AreReads a → AreReads b → AreReads (a ++ b)
append_reads [] b h k = k
append_reads (step ∷ a) b h k = and_from (is_read step) (list_all is_read (a ++ b))
    (and_parts (is_read step) (list_all is_read a) h).0
    (append_reads a b (and_parts (is_read step) (list_all is_read a) h).1 k)

-- all steps of a script report input
all_read : (groups : List ScriptGroup) → AreReads (all_steps (groups_told groups))
all_read [] = refl
all_read (g ∷ groups) = append_reads (map report_step g.steps) (all_steps (groups_told groups))
    (steps_read g.steps) (all_read groups)
  where
    steps_read : (steps : List ScriptStep) → AreReads (map report_step steps)
    steps_read [] = refl
    steps_read (step ∷ steps) = steps_read steps

-- ---- an end is retired, or turned away

-- the ends of a handle that is not x are not the end
others_end : (x : ℕ) (end : StepEnd) (handle : ℕ) (seats : List Seat) → (handle == x) ≡ false
    → AreSeatsRight x end seats
    → list_any (λ e. is_end e end) (map (λ (seat : Seat). seat.end)
    (filter (has_handle handle) seats)) ≡ false
others_end x end handle [] ne right = refl
others_end x end handle (seat ∷ seats) ne right =
    by_test (has_handle handle seat) refl (others_end x end handle seats ne right.1)
  where
    by_test : (b : Bool) → has_handle handle seat ≡ b
        → list_any (λ e. is_end e end) (map (λ (seat : Seat). seat.end)
        (filter (has_handle handle) seats)) ≡ false
        → list_any (λ e. is_end e end) (map (λ (seat : Seat). seat.end)
        (cond b (seat ∷ filter (has_handle handle) seats) (filter (has_handle handle) seats)))
        ≡ false
    by_test true h rest =
        let other : is_end seat.end end ≡ false =
        sym right.0 ∙ ap (λ (n : ℕ). n == x) (eqb-true seat.handle handle h) ∙ ne in
        ap (λ (b : Bool). b || list_any (λ e. is_end e end)
        (map (λ (seat : Seat). seat.end) (filter (has_handle handle) seats))) other ∙ rest
    by_test false h rest = rest

filter_right : (x : ℕ) (end : StepEnd) (p : Seat → Bool) (seats : List Seat)
    → AreSeatsRight x end seats → AreSeatsRight x end (filter p seats)
filter_right x end p [] right = tt
filter_right x end p (seat ∷ seats) right = by_test (p seat) (filter_right x end p seats right.1)
  where
    by_test : (b : Bool) → AreSeatsRight x end (filter p seats)
        → AreSeatsRight x end (cond b (seat ∷ filter p seats) (filter p seats))
    by_test true rest = (right.0, rest)
    by_test false rest = rest

any_append : (q : StepEnd → Bool) (a b : List StepEnd) → list_any q a ≡ false → list_any q b ≡ false
    → list_any q (a ++ b) ≡ false
any_append q [] b h k = k
any_append q (e ∷ a) b h k = ap (λ (t : Bool). t || list_any q (a ++ b)) (or_parts _ _ h).0
    ∙ any_append q a b (or_parts _ _ h).1 k

dropped_sees : (x : ℕ) (end : StepEnd) (ends : List StepEnd) (p : Playing)
    → list_any (λ e. is_end e end) ends ≡ false → Sees x end p → Sees x end (dropped ends p)
dropped_sees x end ends p others s = record {
  seats = s.seats;
  stays = any_append (λ e. is_end e end) ends p.gone others s.stays;
  held = filter_reads (λ step. not (is_at ends step)) p.held s.held;
  coming = s.coming;
}

dropped_count : (end : StepEnd) (ends : List StepEnd) (p : Playing)
    → list_any (λ e. is_end e end) ends ≡ false → to_come end (dropped ends p) ≡ to_come end p
dropped_count end ends p others = ap (λ (n : ℕ). n + steps_at end (all_steps p.groups))
    (without_count end ends p.held others)

due_ready : (past : List (Entry ServerNote)) → follows_due past ≡ true → follows_ready past ≡ true
due_ready [] h = absurd (false≢true h)
due_ready (Polled moment ∷ past) h = refl
due_ready (Due timer ∷ past) h = refl
due_ready (_ ∷ past) h = absurd (false≢true h)

not_ready : {taken : List Report} {b : Bool} → (taken ≡ []) ⊎ (false ≡ true) → (taken ≡ [])
    ⊎ (b ≡ true)
not_ready (inl h) = inl h
not_ready (inr h) = absurd (false≢true h)

same_come : (n m c t all : ℕ) → m ≡ n → c + (t + n) ≡ all → c + (t + m) ≡ all
same_come n m c t all e f = omega arith

-- no group is left, and nothing that is held can be reported
pub record NothingLeft (p : Playing) : Type 0 where
  pub groups : p.groups ≡ []
  pub held : given p.seats most_reports p.held ≡ []

-- ---- entry by entry

module _ (groups : List ScriptGroup) (most x : ℕ) (end : StepEnd) where
  abbrev start : List Group
  start = groups_told groups

  -- what holds of the past of a handle that was not removed
  record Lives (past : List (Entry ServerNote)) : Type 0 where
    legal : is_legal most past ≡ true
    free : list_any holds_back past ≡ false
    lives : was_removed past x ≡ false
    only : StandsOnlyAt x end past

  before : (e : Entry ServerNote) (past : List (Entry ServerNote)) → Lives (e ∷ past) → Lives past
  before e past l = record {
    legal = (and_parts (may_follow most past e) (is_legal most past) l.legal).1;
    free = (or_parts (holds_back e) (list_any holds_back past) l.free).1;
    lives = (or_parts (ends x (event_at past) e) (was_removed past x) l.lives).1;
    only = l.only.1;
  }

  -- a handle that is closed is another
  closed_other : (handle : Handle) (said : ServerNote) (past : List (Entry ServerNote))
      → Lives (Closed handle said ∷ past) → (handle.0 == x) ≡ false
  closed_other handle said past l = ⊎_elim
      (λ (t : (handle.0 == x) ≡ true). absurd (closes (eqb-true handle.0 x t)))
      (λ (f : (handle.0 == x) ≡ false). f) (cases_Bool (handle.0 == x))
    where
      closes : handle.0 ≡ x → ⊥
      closes e =
          let w = closing past handle.0 (may_fits most past (Closed handle said)
          (and_parts (may_follow most past (Closed handle said)) (is_legal most past)
          l.legal).0) in
          both_ways _ (before (Closed handle said) past l).lives
          (dead_was_removed past x (subst (λ (y : ℕ). was_opened past y ≡ true) e w.0)
          (subst (λ (y : ℕ). is_alive past y ≡ false) e w.1))

  -- how the script stands to the handle: it has a seat from its `Opened` on, to be read
  record Standing (past : List (Entry ServerNote)) : Type 0 where
    sees : Sees x end (told start past)
    seated : was_opened past x ≡ true → list_any (has_seat end) (told start past).seats ≡ true
    unseated : was_opened past x ≡ false → list_any (is_seat_of x) (told start past).seats ≡ false
    masked : was_opened past x ≡ true → (mask_of past x).read ≡ true

  standing_opened : (handle : Handle) (mask : Mask) (past : List (Entry ServerNote))
      → IsOnlyAt x end past (Opened handle mask) → Standing past
      → Standing (Opened handle mask ∷ past)
  standing_opened handle mask past only r = record {
    sees = record {
      seats = (only.0, r.sees.seats);
      stays = r.sees.stays;
      held = r.sees.held;
      coming = r.sees.coming;
    };
    seated = λ o. by_seat (handle.0 == x) refl o;
    unseated = λ o. ap (λ (b : Bool). b || list_any (is_seat_of x) (told start past).seats)
        (or_parts (handle.0 == x) (was_opened past x) o).0
        ∙ r.unseated (or_parts (handle.0 == x) (was_opened past x) o).1;
    masked = λ o. by_mask (handle.0 == x) refl o;
  }
    where
      by_seat : (b : Bool) → (handle.0 == x) ≡ b → (b || was_opened past x) ≡ true
          → ((is_end (end_offered past) end && mask.read)
          || list_any (has_seat end) (told start past).seats) ≡ true
      by_seat true e o =
          let here : (is_end (end_offered past) end && mask.read) ≡ true =
          and_from _ _ (sym only.0 ∙ e) (only.1 (eqb-true _ _ e)) in
          ap (λ (b : Bool). b || list_any (has_seat end) (told start past).seats) here
      by_seat false e o = or_right (is_end (end_offered past) end && mask.read) _ (r.seated o)
        where
          or_right : (b c : Bool) → c ≡ true → (b || c) ≡ true
          or_right true c h = refl
          or_right false c h = h

      by_mask : (b : Bool) → (handle.0 == x) ≡ b → (b || was_opened past x) ≡ true
          → (cond b mask (mask_of past x)).read ≡ true
      by_mask true e o = only.1 (eqb-true _ _ e)
      by_mask false e o = r.masked o

  standing_polled : (moment : ℕ) (past : List (Entry ServerNote)) → Standing past
      → Standing (Polled moment ∷ past)
  standing_polled moment past r =
      let w = wait_reports x end (told start past) r.sees (time_left_in past) in
      record {
        sees = w.sees;
        seated = λ o. ap (list_any (has_seat end)) w.seats ∙ r.seated o;
        unseated = λ o. ap (list_any (is_seat_of x)) w.seats ∙ r.unseated o;
        masked = r.masked;
      }

  standing_closed : (handle : Handle) (said : ServerNote) (past : List (Entry ServerNote))
      → (handle.0 == x) ≡ false → Standing past → Standing (Closed handle said ∷ past)
  standing_closed handle said past other r = record {
    sees = dropped_sees x end (map (λ (seat : Seat). seat.end)
        (filter (has_handle handle.0) (told start past).seats)) _
        (others_end x end handle.0 (told start past).seats other r.sees.seats)
        (record {
          seats = filter_right x end (λ (seat : Seat). not (has_handle handle.0 seat))
              (told start past).seats r.sees.seats;
          stays = r.sees.stays;
          held = r.sees.held;
          coming = r.sees.coming;
        });
    seated = λ o. kept (told start past).seats r.sees.seats (r.seated o);
    unseated = λ o. none (told start past).seats (r.unseated o);
    masked = r.masked;
  }
    where
      or_right : (b c : Bool) → c ≡ true → (b || c) ≡ true
      or_right true c h = refl
      or_right false c h = h

      one_kept : (seat : Seat) (seats rest : List Seat) (b : Bool) → has_handle handle.0 seat ≡ b
          → is_seat_right x end seat → (has_seat end seat || list_any (has_seat end) seats) ≡ true
          → (list_any (has_seat end) seats ≡ true → list_any (has_seat end) rest ≡ true)
          → list_any (has_seat end) (cond (not b) (seat ∷ rest) rest) ≡ true
      one_kept seat seats rest true h right some more =
          let away : is_end seat.end end ≡ false =
          sym right ∙ ap (λ (n : ℕ). n == x) (eqb-true seat.handle handle.0 h) ∙ other in
          more (sym (ap (λ (b : Bool). (b && seat.mask.read) || list_any (has_seat end) seats) away)
          ∙ some)
      one_kept seat seats rest false h right some more = ⊎_elim
          (λ (t : has_seat end seat ≡ true). ap (λ (b : Bool). b || list_any (has_seat end) rest) t)
          (λ (f : has_seat end seat ≡ false).
          or_right _ _ (more (sym (ap (λ (b : Bool). b || list_any (has_seat end) seats) f)
          ∙ some)))
          (cases_Bool (has_seat end seat))

      kept : (seats : List Seat) → AreSeatsRight x end seats → list_any (has_seat end) seats ≡ true
          → list_any (has_seat end) (filter (λ (seat : Seat). not (has_handle handle.0 seat)) seats)
          ≡ true
      kept [] right some = some
      kept (seat ∷ seats) right some = one_kept seat seats _ (has_handle handle.0 seat) refl right.0
          some (kept seats right.1)

      one_none : (seat : Seat) (seats rest : List Seat) (b : Bool) → is_seat_of x seat ≡ false
          → list_any (is_seat_of x) rest ≡ false
          → list_any (is_seat_of x) (cond (not b) (seat ∷ rest) rest) ≡ false
      one_none seat seats rest true h more = more
      one_none seat seats rest false h more =
          ap (λ (b : Bool). b || list_any (is_seat_of x) rest) h ∙ more

      none : (seats : List Seat) → list_any (is_seat_of x) seats ≡ false
          → list_any (is_seat_of x) (filter (λ (seat : Seat). not (has_handle handle.0 seat)) seats)
          ≡ false
      none [] h = refl
      none (seat ∷ seats) h = one_none seat seats _ (has_handle handle.0 seat)
          (or_parts (is_seat_of x seat) (list_any (is_seat_of x) seats) h).0
          (none seats (or_parts (is_seat_of x seat) (list_any (is_seat_of x) seats) h).1)

  standing : (past : List (Entry ServerNote)) → Lives past → Standing past
  standing [] l = record {
    sees = record { seats = tt; stays = refl; held = refl; coming = all_read groups };
    seated = λ o. absurd (false≢true o);
    unseated = λ o. refl;
    masked = λ o. absurd (false≢true o);
  }
  standing (Opened handle mask ∷ past) l =
      standing_opened handle mask past l.only.0 (standing past (before _ past l))
  standing (Polled moment ∷ past) l = standing_polled moment past (standing past (before _ past l))
  standing (Closed handle said ∷ past) l =
      standing_closed handle said past (closed_other handle said past l)
      (standing past (before _ past l))
  standing (Refused live fault said ∷ past) l =
      let r = standing past (before _ past l) in
      record {
        sees = dropped_sees x end (end_offered past ∷ []) (told start past)
            (ap (λ (b : Bool). b || false) l.only.0) r.sees;
        seated = r.seated;
        unseated = r.unseated;
        masked = r.masked;
      }
  standing (Masked handle mask ∷ past) l =
      absurd (false≢true (sym (or_parts true (list_any holds_back past) l.free).0))
  standing (Scheduled timer handle first every ∷ past) l = let r =
      standing past (before _ past l) in
      record { sees = r.sees; seated = r.seated; unseated = r.unseated; masked = r.masked }
  standing (Cancelled timer ∷ past) l = let r = standing past (before _ past l) in
      record { sees = r.sees; seated = r.seated; unseated = r.unseated; masked = r.masked }
  standing (Due timer ∷ past) l = let r = standing past (before _ past l) in
      record { sees = r.sees; seated = r.seated; unseated = r.unseated; masked = r.masked }
  standing (Ready handle kind ∷ past) l = let r = standing past (before _ past l) in
      record { sees = r.sees; seated = r.seated; unseated = r.unseated; masked = r.masked }
  standing (Posted handle kind from seq ∷ past) l = let r = standing past (before _ past l) in
      record { sees = r.sees; seated = r.seated; unseated = r.unseated; masked = r.masked }
  standing (Stale handle from seq ∷ past) l = let r = standing past (before _ past l) in
      record { sees = r.sees; seated = r.seated; unseated = r.unseated; masked = r.masked }
  standing (Started event ∷ past) l = let r = standing past (before _ past l) in
      record { sees = r.sees; seated = r.seated; unseated = r.unseated; masked = r.masked }
  standing (Returned event answer said ∷ past) l = let r = standing past (before _ past l) in
      record { sees = r.sees; seated = r.seated; unseated = r.unseated; masked = r.masked }
  standing (Suspended handle ∷ past) l = let r = standing past (before _ past l) in
      record { sees = r.sees; seated = r.seated; unseated = r.unseated; masked = r.masked }
  standing (Resumed handle ∷ past) l = let r = standing past (before _ past l) in
      record { sees = r.sees; seated = r.seated; unseated = r.unseated; masked = r.masked }
  standing (Removed handle ∷ past) l = let r = standing past (before _ past l) in
      record { sees = r.sees; seated = r.seated; unseated = r.unseated; masked = r.masked }
  standing (Ended ∷ past) l = let r = standing past (before _ past l) in
      record { sees = r.sees; seated = r.seated; unseated = r.unseated; masked = r.masked }

  -- ---- all steps are reported, taken or to come

  abbrev total : ℕ
  total = steps_at end (all_steps start)

  -- of the reports of a wait all that are of the handle are taken
  taken_all : (past : List (Entry ServerNote)) (reports : List Report) → is_alive past x ≡ true
      → (mask_of past x).read ≡ true → count (is_report_of x) (filter (is_taken_in past) reports)
      ≡ count (is_report_of x) reports
  taken_all past [] alive mask = refl
  taken_all past (r ∷ reports) alive mask =
      by_test (is_taken_in past r) refl (taken_all past reports alive mask)
    where
      reads : (kind : Kind) → is_input (upcall_of kind) ≡ true
          → has_kind (mask_of past x) kind ≡ true
      reads Read h = mask
      reads Write h = absurd (false≢true h)
      reads Except h = absurd (false≢true h)

      is_mine : is_report_of x r ≡ true → is_taken_in past r ≡ true
      is_mine m = and_from _ _ (subst (λ (y : ℕ). is_alive past y ≡ true)
          (sym (eqb-true _ _ (and_parts _ _ m).0)) alive)
          (subst (λ (y : ℕ). has_kind (mask_of past y) r.kind ≡ true)
          (sym (eqb-true _ _ (and_parts _ _ m).0))
          (reads r.kind (and_parts (r.handle.0 == x) (is_input (upcall_of r.kind)) m).1))

      by_test : (b : Bool) → is_taken_in past r ≡ b
          → count (is_report_of x) (filter (is_taken_in past) reports)
          ≡ count (is_report_of x) reports
          → count (is_report_of x) (cond b (r ∷ filter (is_taken_in past) reports)
          (filter (is_taken_in past) reports)) ≡ count (is_report_of x) (r ∷ reports)
      by_test true t rest = ap (λ (n : ℕ). cond (is_report_of x r) (suc n) n) rest
      by_test false t rest = rest ∙ sym (⊎_elim
          (λ (m : is_report_of x r ≡ true). absurd (both_ways _ t (is_mine m)))
          (λ (m : is_report_of x r ≡ false).
          ap (λ (b : Bool). cond b (suc (count (is_report_of x) reports))
          (count (is_report_of x) reports)) m)
          (cases_Bool (is_report_of x r)))

  none_filtered : (p : Report → Bool) (reports : List Report) → count (is_report_of x) reports ≡ 0
      → count (is_report_of x) (filter p reports) ≡ 0
  none_filtered p [] h = refl
  none_filtered p (r ∷ reports) h = by_test (is_report_of x r) (p r) refl h
      (none_filtered p reports)
    where
      by_test : (m b : Bool) → is_report_of x r ≡ m
          → cond m (suc (count (is_report_of x) reports)) (count (is_report_of x) reports) ≡ 0
          → (count (is_report_of x) reports ≡ 0 → count (is_report_of x) (filter p reports) ≡ 0)
          → count (is_report_of x) (cond b (r ∷ filter p reports) (filter p reports)) ≡ 0
      by_test true b e h more = absurd (omega (arith, h))
      by_test false true e h more = ap (λ (b : Bool).
          cond b (suc (count (is_report_of x) (filter p reports)))
          (count (is_report_of x) (filter p reports))) e ∙ more h
      by_test false false e h more = more h

  taken_count : (past : List (Entry ServerNote)) (l : Lives past)
      → count (is_report_of x) (filter (is_taken_in past)
      (waited (time_left_in past) (told start past)).reports)
      ≡ count (is_report_of x) (waited (time_left_in past) (told start past)).reports
  taken_count past l =
      let r = standing past l in
      ⊎_elim
      (λ (o : was_opened past x ≡ true).
      taken_all past _ (and_from _ _ o (ap not l.lives)) (r.masked o))
      (λ (o : was_opened past x ≡ false).
      let none = none_waited x (time_left_in past) (told start past) (r.unseated o) in
      none_filtered (is_taken_in past) _ none ∙ sym none)
      (cases_Bool (was_opened past x))

  -- reports stand only after a wait, so these are all there are, or there are none
  abbrev Aligned : List Report → List (Entry ServerNote) → Type 0
  Aligned taken past = (taken ≡ []) ⊎ (follows_ready past ≡ true)

  accounts : (past : List (Entry ServerNote)) (taken : List Report) → Lives past
      → FollowsBefore start past taken → Aligned taken past
      → count (reports_input x) past + (count (is_report_of x) taken
      + to_come end (told start past)) ≡ total
  accounts [] taken l follows aligned = ⊎_elim
      (λ (none : taken ≡ []). ap (λ (r : List Report). 0 + (count (is_report_of x) r + (0 + total)))
      none ∙ zeros total)
      (λ (h : false ≡ true). absurd (false≢true h)) aligned
    where
      zeros : (n : ℕ) → 0 + (0 + (0 + n)) ≡ n
      zeros n = omega arith
  accounts (Polled moment ∷ past) taken l follows aligned =
      let before_ = before (Polled moment) past l in
      let rest = accounts past [] before_ follows.1 (inl refl) in
      let w = wait_reports x end (told start past) (standing past before_).sees
      (time_left_in past) in
      let taken_is : count (is_report_of x) taken
      ≡ count (is_report_of x) (waited (time_left_in past) (told start past)).reports =
      ap (count (is_report_of x)) follows.0.are_taken ∙ taken_count past before_ in
      sums _ _ _ _ _ _ taken_is w.counts rest
    where
      sums : (c t r n p all : ℕ) → t ≡ r → r + n ≡ p → c + (0 + p) ≡ all → c + (t + n) ≡ all
      sums c t r n p all e f g = omega arith
  accounts (Ready handle kind ∷ past) taken l follows aligned =
      let ready : follows_ready past ≡ true =
      (and_parts (follows_ready past) _ (may_fits most past (Ready handle kind)
      (and_parts (may_follow most past (Ready handle kind)) (is_legal most past) l.legal).0)).0
      in
      sums (handle.0 == x && is_input (upcall_of kind)) _ _ _ _
      (accounts past (record { handle = handle; kind = kind } ∷ taken)
      (before (Ready handle kind) past l) follows.1 (inr ready))
    where
      sums : (b : Bool) (c t n all : ℕ) → c + (cond b (suc t) t + n) ≡ all
          → cond b (suc c) c + (t + n) ≡ all
      sums true c t n all e = omega arith
      sums false c t n all e = e
  accounts (Due timer ∷ past) taken l follows aligned =
      let due : follows_due past ≡ true =
      (and_parts (follows_due past) _ (may_fits most past (Due timer)
      (and_parts (may_follow most past (Due timer)) (is_legal most past) l.legal).0)).0 in
      accounts past taken (before (Due timer) past l) follows.1 (inr (due_ready past due))
  accounts (Closed handle said ∷ past) taken l follows aligned =
      let others = others_end x end handle.0 (told start past).seats
      (closed_other handle said past l) (standing past
      (before (Closed handle said) past l)).sees.seats in
      same_come (to_come end (told start past)) _ _ _ total
      (dropped_count end (map (λ (seat : Seat). seat.end)
      (filter (has_handle handle.0) (told start past).seats)) (told start past) others)
      (accounts past taken (before (Closed handle said) past l) follows.1 (not_ready aligned))
  accounts (Refused live fault said ∷ past) taken l follows aligned =
      same_come (to_come end (told start past)) _ _ _ total
      (dropped_count end (end_offered past ∷ []) (told start past)
      (ap (λ (b : Bool). b || false) l.only.0))
      (accounts past taken (before (Refused live fault said) past l) follows.1 (not_ready aligned))
  accounts (Masked handle mask ∷ past) taken l follows aligned =
      absurd (false≢true (sym (or_parts true (list_any holds_back past) l.free).0))
  accounts (Opened handle mask ∷ past) taken l follows aligned =
      accounts past taken (before (Opened handle mask) past l) follows.1 (not_ready aligned)
  accounts (Scheduled timer handle first every ∷ past) taken l follows aligned =
      accounts past taken (before (Scheduled timer handle first every) past l) follows.1
      (not_ready aligned)
  accounts (Cancelled timer ∷ past) taken l follows aligned =
      accounts past taken (before (Cancelled timer) past l) follows.1 (not_ready aligned)
  accounts (Posted handle kind from seq ∷ past) taken l follows aligned =
      accounts past taken (before (Posted handle kind from seq) past l) follows.1
      (not_ready aligned)
  accounts (Stale handle from seq ∷ past) taken l follows aligned =
      accounts past taken (before (Stale handle from seq) past l) follows.1 (not_ready aligned)
  accounts (Started event ∷ past) taken l follows aligned =
      accounts past taken (before (Started event) past l) follows.1 (not_ready aligned)
  accounts (Returned event answer said ∷ past) taken l follows aligned =
      accounts past taken (before (Returned event answer said) past l) follows.1 (not_ready aligned)
  accounts (Suspended handle ∷ past) taken l follows aligned =
      accounts past taken (before (Suspended handle) past l) follows.1 (not_ready aligned)
  accounts (Resumed handle ∷ past) taken l follows aligned =
      accounts past taken (before (Resumed handle) past l) follows.1 (not_ready aligned)
  accounts (Removed handle ∷ past) taken l follows aligned =
      accounts past taken (before (Removed handle) past l) follows.1 (not_ready aligned)
  accounts (Ended ∷ past) taken l follows aligned =
      accounts past taken (before Ended past l) follows.1 (not_ready aligned)

  -- ---- the end

  pub at_end : (past : List (Entry ServerNote)) → is_legal most past ≡ true
      → follows_ready past ≡ true → is_over (last_wait start past) ≡ true
      → NothingLeft (told start past)
  at_end [] legal ready over = absurd (false≢true ready)
  at_end (Polled moment ∷ past) legal ready over = let o =
      over_leaves (time_left_in past) (told start past) over in
      record { groups = o.groups; held = o.held }
  at_end (Due timer ∷ past) legal ready over =
      let parts = and_parts (may_follow most past (Due timer)) (is_legal most past) legal in
      let due : follows_due past ≡ true =
      (and_parts (follows_due past) _ (may_fits most past (Due timer) parts.0)).0 in
      at_end past parts.1 (due_ready past due) over
  at_end (Ready handle kind ∷ past) legal ready over =
      let parts = and_parts (may_follow most past (Ready handle kind)) (is_legal most past) legal in
      at_end past parts.1 (and_parts (follows_ready past) _
      (may_fits most past (Ready handle kind) parts.0)).0 over
  at_end (_ ∷ past) legal ready over = absurd (false≢true ready)

  pub reported : (past : List (Entry ServerNote)) → is_legal most past ≡ true
      → list_any holds_back past ≡ false → is_alive past x ≡ true → StandsOnlyAt x end past
      → FollowsBefore start past [] → follows_ready past ≡ true
      → is_over (last_wait start past) ≡ true → count (reports_input x) past ≡ total
  reported past legal free alive only follows ready over =
      let l : Lives past = record {
        legal = legal;
        free = free;
        lives = alive_not_removed past x alive;
        only = only;
      } in
      let s = standing past l in
      let e = at_end past legal ready over in
      let none : steps_at end (told start past).held ≡ 0 =
      none_held end (told start past).seats 255 (told start past).held
      (s.seated (alive_was_opened past x alive)) s.sees.held e.held in
      sums (count (reports_input x) past) _ _ total none
      (ap (λ (g : List Group). steps_at end (all_steps g)) e.groups)
      (accounts past [] l follows (inl refl))
    where
      sums : (c h g all : ℕ) → h ≡ 0 → g ≡ 0 → c + (0 + (h + g)) ≡ all → c ≡ all
      sums c h g all e f k = omega arith

  -- and none that is held is at its end
  pub nothing_held : (past : List (Entry ServerNote)) → is_legal most past ≡ true
      → list_any holds_back past ≡ false → is_alive past x ≡ true → StandsOnlyAt x end past
      → follows_ready past ≡ true
      → is_over (last_wait start past) ≡ true → steps_at end (told start past).held ≡ 0
  nothing_held past legal free alive only ready over =
      let s = standing past (record {
        legal = legal;
        free = free;
        lives = alive_not_removed past x alive;
        only = only;
      }) in
      none_held end (told start past).seats 255 (told start past).held
      (s.seated (alive_was_opened past x alive)) s.sees.held (at_end past legal ready over).held
