-- What may follow in a serial journal when no turn is under way and no handler is about to be
-- registered or closed.
use Rattle.std.proofs.Common.{◌≡◌, ◌∙◌, ◌<◌, ◌≤◌, ◌⊎◌, inl, inr, ℕ, ◌==◌, Bool, true, false, not}
use Rattle.std.proofs.Common.{◌||◌, List, [], ◌∷◌, ◌++◌, Option, refl, sym, ap, arith, append-nil}
use Rattle.std.proofs.Common.{⊎_elim}
use Rattle.std.specs.Prelude.{nat_le}
use Rattle.std.specs.List.{list_any}
use Rattle.std.proofs.lemmas.Bool.{false≢true, and_parts, both_ways, cases_lt, cases_eq, not-true}
use Rattle.std.proofs.lemmas.Bool.{eqb-true, eq-eqb}
use Rattle.std.proofs.lemmas.List.{append_cancel_left}
use Rattle.laws_script_runs.specs.ev_types.specs.declared.upcall.Handle.{Handle}
use Rattle.laws_script_runs.specs.ev_types.specs.declared.upcall.Kind.{Kind}
use Rattle.laws_script_runs.specs.ev_base.specs.Playing.{waited}
use Rattle.laws_script_runs.specs.ev_base.specs.declared.net.Report.{Report}
use Rattle.laws_script_runs.specs.ev_base.specs.declared.net.Waited.{Waited}
use Rattle.laws_script_runs.specs.ev_base.specs.declared.net.Waited.TheVariants as waited_by
use Rattle.laws_script_runs.specs.reactor_journal.specs.declared.entry.Entry.{Entry}
use Rattle.laws_script_runs.specs.reactor_journal.specs.declared.entry.Entry.TheVariants.{Opened}
use Rattle.laws_script_runs.specs.reactor_journal.specs.declared.entry.Entry.TheVariants.{Scheduled}
use Rattle.laws_script_runs.specs.reactor_journal.specs.declared.entry.Entry.TheVariants.{Cancelled}
use Rattle.laws_script_runs.specs.reactor_journal.specs.declared.entry.Entry.TheVariants.{Polled}
use Rattle.laws_script_runs.specs.reactor_journal.specs.declared.entry.Entry.TheVariants.{Due}
use Rattle.laws_script_runs.specs.reactor_journal.specs.declared.entry.Entry.TheVariants.{Ready}
use Rattle.laws_script_runs.specs.reactor_journal.specs.declared.entry.Entry.TheVariants.{Posted}
use Rattle.laws_script_runs.specs.reactor_journal.specs.declared.entry.Entry.TheVariants.{Stale}
use Rattle.laws_script_runs.specs.reactor_journal.specs.declared.entry.Entry.TheVariants.{Started}
use Rattle.laws_script_runs.specs.reactor_journal.specs.declared.entry.Entry.TheVariants.{Returned}
use Rattle.laws_script_runs.specs.reactor_journal.specs.declared.entry.Entry.TheVariants.{Masked}
use Rattle.laws_script_runs.specs.reactor_journal.specs.declared.entry.Entry.TheVariants.{Suspended}
use Rattle.laws_script_runs.specs.reactor_journal.specs.declared.entry.Entry.TheVariants.{Resumed}
use Rattle.laws_script_runs.specs.reactor_journal.specs.declared.entry.Entry.TheVariants.{Refused}
use Rattle.laws_script_runs.specs.reactor_journal.specs.declared.entry.Entry.TheVariants.{Removed}
use Rattle.laws_script_runs.specs.reactor_journal.specs.declared.entry.Entry.TheVariants.{Closed}
use Rattle.laws_script_runs.specs.reactor_journal.specs.declared.entry.Entry.TheVariants.{Ended}
use Rattle.laws_script_runs.specs.reactor_journal.specs.Past.{now, armed, ended, is_alive}
use Rattle.laws_script_runs.specs.reactor_journal.specs.Past.{is_overdue, is_pick, any_below}
use Rattle.laws_script_runs.specs.reactor_journal.specs.Follow.{may_follow, follows_ready}
use Rattle.laws_script_runs.specs.reactor_journal.specs.Follow.{is_first_due, winds_up}
use Rattle.laws_script_runs.specs.reactor_journal.proofs.Alive.{dead_was_removed}
use Rattle.laws_script_runs.specs.reactor_journal.proofs.Basics.{may_fits}
use Rattle.laws_script_runs.specs.reactor_journal.proofs.Closing.{closing}
use Rattle.laws_script_runs.specs.reactor_journal.proofs.HadLaw.{returned_is_open}
use Rattle.laws_script_runs.specs.reactor_journal.proofs.OneOpen.{any_below-from}
use Rattle.laws_script_runs.specs.reactor_journal.proofs.Picking.{pick_one}
use Rattle.laws_script_runs.specs.event_script.specs.Script.{ScriptGroup, groups_told}
use Rattle.laws_script_runs.specs.log_handler.specs.declared.note.ServerNote.{ServerNote}
use Rattle.laws_script_runs.specs.laws_script_told.specs.Told.{time_left_in, told}
use Rattle.laws_script_runs.specs.reactor_model.specs.Entries.{IsAnsweredAt, taken_before}
use Rattle.laws_script_serial.specs.Serial.{IsSpent, is_over_here, is_installing}
use Rattle.laws_script_serial.proofs.Entering.{Entrance}
use Rattle.laws_script_serial.proofs.Quiet.{StartsLast, EndsLast, open_is_last, ends_last}
use Rattle.laws_script_serial.proofs.Reports.{reports_told, reports_made, told_made, gathered}

-- what may follow there
data Move : Type 0 where
  Dues : (timer : ℕ) → Move
  Readies : (handle : Handle) (kind : Kind) → Move
  Starts : (event : ℕ) → Move
  Polls : (moment : ℕ) → Move
  Ends : Move
  Removes : (handle : Handle) → Move

abbrev entry_of : Move → Entry ServerNote
entry_of (Dues timer) = Due timer
entry_of (Readies handle kind) = Ready handle kind
entry_of (Starts event) = Started event
entry_of (Polls moment) = Polled moment
entry_of Ends = Ended
entry_of (Removes handle) = Removed handle

-- ---- small facts

goes : (e : Entry ServerNote) (past : List (Entry ServerNote)) (most : ℕ)
    → may_follow most past e ≡ true → winds_up e ≡ false → ended past ≡ false
unfolding may_follow
goes e past most may w = not-true (ended past)
    (sym (ap (λ (b : Bool). b || not (ended past)) w)
    ∙ (and_parts (winds_up e || not (ended past)) _ may).0)

overdue : (now t : ℕ) (ds : List (ℕ × ℕ)) → is_first_due now t ds ≡ true
    → list_any (λ (d : ℕ × ℕ). nat_le d.0 now) ds ≡ true
overdue now t [] h = absurd (false≢true h)
overdue now t (d ∷ ds) h = ap (λ (b : Bool). b || list_any (λ (d : ℕ × ℕ). nat_le d.0 now) ds)
    (and_parts (d.1 == t) (nat_le d.0 now) h).1

first_due : (now t u : ℕ) (ds : List (ℕ × ℕ)) → is_first_due now t ds ≡ true
    → is_first_due now u ds ≡ true → t ≡ u
first_due now t u [] h k = absurd (false≢true h)
first_due now t u (d ∷ ds) h k = sym (eqb-true d.1 t (and_parts (d.1 == t) (nat_le d.0 now) h).0)
    ∙ eqb-true d.1 u (and_parts (d.1 == u) (nat_le d.0 now) k).0

one_moment : (a b : ℕ) (answer : Waited) → IsAnsweredAt a answer → IsAnsweredAt b answer → a ≡ b
one_moment a b (waited_by.Reports now count) x y = sym x ∙ y
one_moment a b (waited_by.Quiet now) x y = sym x ∙ y
one_moment a b (waited_by.Over now) x y = sym x ∙ y
one_moment a b waited_by.Failed x y = absurd x

least : (p : ℕ → Bool) (a b : ℕ) → p a ≡ true → any_below a p ≡ false → p b ≡ true
    → any_below b p ≡ false → a ≡ b
least p a b pa na pb nb = ⊎_elim (λ (l : a < b).
    absurd (both_ways _ nb (any_below-from b p a l pa))) (λ (l : b ≤ a). by_order l (cases_eq a b))
    (cases_lt a b)
  where
    by_order : b ≤ a → (a ≡ b) ⊎ (a ≡ b → ⊥) → a ≡ b
    by_order l (inl same) = same
    by_order l (inr other) = absurd (both_ways _ na
        (any_below-from a p b (omega (arith, l, other)) pb))

no_more : {A : Type 0} (xs : List A) (x : A) (rest : List A) → xs ++ x ∷ rest ≡ xs → ⊥
no_more xs x rest h = none (append_cancel_left xs (x ∷ rest) [] (h ∙ sym (append-nil xs)))
  where
    none : x ∷ rest ≡ [] → ⊥
    none q = cc

module _ (most : ℕ) (idle : Option ℕ) (groups : List ScriptGroup) where
  -- the entries of the wait stand there whole
  abbrev IsDone : List (Entry ServerNote) → Type 0
  IsDone past = follows_ready past ≡ true
      → reports_told (groups_told groups) past ≡ reports_made past

  record HasMore (past : List (Entry ServerNote)) (report : Report) : Type 0 where
    behind : follows_ready past ≡ true
    rest : List Report
    are : reports_told (groups_told groups) past ≡ reports_made past ++ report ∷ rest

  abbrev Facts : List (Entry ServerNote) → Move → Type 0
  Facts past (Dues timer) = (is_first_due (now past) timer (armed past) ≡ true)
      × (ended past ≡ false)
  Facts past (Readies handle kind) =
      (is_overdue past ≡ false) × (ended past ≡ false)
      × HasMore past (record { handle = handle; kind = kind })
  Facts past (Starts event) = (is_overdue past ≡ false) × (ended past ≡ false) × IsDone past
      × (is_pick past event ≡ true)
  Facts past (Polls moment) = IsSpent past × (ended past ≡ false) × IsDone past
      × (is_over_here groups past ≡ false)
      × IsAnsweredAt moment (waited (time_left_in past) (told (groups_told groups) past)).answer
  Facts past Ends = IsSpent past × (ended past ≡ false) × IsDone past
      × (is_over_here groups past ≡ true)
  Facts past (Removes handle) = (ended past ≡ true) × (is_alive past handle.0 ≡ true)
      × (any_below handle.0 (is_alive past) ≡ false)

  -- no turn is under way, and no handler's life ended last
  pub record IsFree (past : List (Entry ServerNote)) : Type 0 where
    pub none_starts : (i : ℕ) → StartsLast past i → ⊥
    pub none_ends : (x : ℕ) → EndsLast past x → ⊥

  record Moves (past : List (Entry ServerNote)) (e : Entry ServerNote) : Type 0 where
    move : Move
    is : e ≡ entry_of move
    facts : Facts past move

  -- the other entries end those of the wait
  done_here : (later : List (Entry ServerNote)) (e : Entry ServerNote)
      (past : List (Entry ServerNote)) → Entrance most idle groups later e past
      → follows_ready (e ∷ past) ≡ false
      → taken_before e [] ≡ []
      → IsDone past
  done_here later e past n over plain behind =
      told_made (groups_told groups) most past
      (taken_before e
      (gathered later [])) n.before behind n.told.1
      ∙ ap (λ (t : List Report). reports_made past
      ++ taken_before e t)
      (n.none_later over) ∙ ap (λ (t : List Report). reports_made past ++ t) plain
      ∙ append-nil (reports_made past)

  moves : (later : List (Entry ServerNote)) (e : Entry ServerNote) (past : List (Entry ServerNote))
      → IsFree past → Entrance most idle groups later e past → is_installing e ≡ false
      → Moves past e
  moves later (Due timer) past free n plain =
      record {
        move = Dues timer;
        is = refl;
        facts = (
          (and_parts _ _ (may_fits most past (Due timer) n.may)).1,
          goes (Due timer) past most n.may refl,
        );
      }
  moves later (Ready handle kind) past free n plain =
      let fits = and_parts _ _ (may_fits most past (Ready handle kind) n.may) in
      let calm : is_overdue past ≡ false = not-true _ (and_parts _ _ fits.1).0 in
      record {
        move = Readies handle kind;
        is = refl;
        facts = (
          calm,
          goes (Ready handle kind) past most n.may refl,
          record {
            behind = fits.0;
            rest = gathered later [];
            are = told_made (groups_told groups) most past
                (record { handle = handle; kind = kind } ∷ gathered later []) n.before fits.0
                n.told.1;
          },
        );
      }
  moves later (Started event) past free n plain =
      let fits = and_parts _ _ (may_fits most past (Started event) n.may) in
      record {
        move = Starts event;
        is = refl;
        facts = (
          not-true _ (and_parts _ _ fits.1).0,
          goes (Started event) past most n.may refl,
          done_here later (Started event) past n refl refl,
          fits.0,
        );
      }
  moves later (Polled moment) past free n plain = record {
    move = Polls moment;
    is = refl;
    facts = (
      n.waits.0,
      goes (Polled moment) past most n.may refl,
      λ behind. told_made (groups_told groups) most past [] n.before behind n.told.1
          ∙ append-nil (reports_made past),
      n.waits.1,
      n.told.0.moment_is,
    );
  }
  moves later Ended past free n plain =
      record {
        move = Ends;
        is = refl;
        facts = (
          n.waits.0,
          goes Ended past most n.may refl,
          done_here later Ended past n refl refl,
          n.waits.1,
        );
      }
  moves later (Removed handle) past free n plain =
      record {
        move = Removes handle;
        is = refl;
        facts = (n.removes.0, may_fits most past (Removed handle) n.may, n.removes.1);
      }
  moves later (Opened handle mask) past free n plain = absurd (false≢true (sym plain))
  moves later (Scheduled timer handle first every) past free n plain =
      absurd (false≢true (sym plain))
  moves later (Refused live fault said) past free n plain = absurd (false≢true (sym plain))
  moves later (Cancelled timer) past free n plain = absurd (false≢true (sym n.familiar))
  moves later (Posted handle kind from seq) past free n plain = absurd (false≢true (sym n.familiar))
  moves later (Stale handle from seq) past free n plain = absurd (false≢true (sym n.familiar))
  moves later (Masked handle mask) past free n plain = absurd (false≢true (sym n.familiar))
  moves later (Suspended handle) past free n plain = absurd (false≢true (sym n.familiar))
  moves later (Resumed handle) past free n plain = absurd (false≢true (sym n.familiar))
  moves later (Returned event answer said) past free n plain =
      absurd (free.none_starts event (open_is_last past event n.settled
      (returned_is_open most past (Returned event answer said) event n.may
      (eq-eqb event event refl))))
  moves later (Closed handle said) past free n plain =
      let w = closing past handle.0 (may_fits most past (Closed handle said) n.may) in
      absurd (free.none_ends handle.0 (ends_last past handle.0 n.settled n.closed_up
      (dead_was_removed past handle.0 w.0 w.1) w.3))

  -- ---- two moves

  same_report : (past : List (Entry ServerNote)) (a b : Report) → HasMore past a → HasMore past b
      → a ≡ b
  same_report past a b x y = head (append_cancel_left (reports_made past) (a ∷ x.rest) (b ∷ y.rest)
      (sym x.are ∙ y.are))
    where
      head : a ∷ x.rest ≡ b ∷ y.rest → a ≡ b
      head q = cc

  done_or_more : (past : List (Entry ServerNote)) (a : Report) → HasMore past a → IsDone past → ⊥
  done_or_more past a x done = no_more (reports_made past) a x.rest (sym x.are ∙ done x.behind)

  late : (past : List (Entry ServerNote)) (timer : ℕ)
      → is_first_due (now past) timer (armed past) ≡ true → is_overdue past ≡ false → ⊥
  late past timer h calm = both_ways (is_overdue past) calm
      (overdue (now past) timer (armed past) h)

  ends_or_goes : (past : List (Entry ServerNote)) → ended past ≡ true → ended past ≡ false → ⊥
  ends_or_goes past h k = both_ways (ended past) k h

  picks : (past : List (Entry ServerNote)) (event : ℕ) → is_pick past event ≡ true → IsSpent past
      → ⊥
  picks past event h spent = both_ways (is_pick past event) (spent.no_pick event) h

  same_move : (past : List (Entry ServerNote)) (m n : Move) → Facts past m → Facts past n
      → entry_of m ≡ entry_of n
  same_move past (Dues t) (Dues u) x y =
      ap (λ (k : ℕ). Due k) (first_due (now past) t u (armed past) x.0 y.0)
  same_move past (Dues t) (Readies handle kind) x y = absurd (late past t x.0 y.0)
  same_move past (Dues t) (Starts event) x y = absurd (late past t x.0 y.0)
  same_move past (Dues t) (Polls moment) x y = absurd (late past t x.0 y.0.none_due)
  same_move past (Dues t) Ends x y = absurd (late past t x.0 y.0.none_due)
  same_move past (Dues t) (Removes handle) x y = absurd (ends_or_goes past y.0 x.1)
  same_move past (Readies handle kind) (Dues t) x y = absurd (late past t y.0 x.0)
  same_move past (Readies handle kind) (Readies other sort) x y =
      ap (λ (r : Report). Ready r.handle r.kind)
      (same_report past (record { handle = handle; kind = kind })
      (record { handle = other; kind = sort }) x.2 y.2)
  same_move past (Readies handle kind) (Starts event) x y = absurd (done_or_more past _ x.2 y.2)
  same_move past (Readies handle kind) (Polls moment) x y = absurd (done_or_more past _ x.2 y.2)
  same_move past (Readies handle kind) Ends x y = absurd (done_or_more past _ x.2 y.2)
  same_move past (Readies handle kind) (Removes other) x y = absurd (ends_or_goes past y.0 x.1)
  same_move past (Starts event) (Dues t) x y = absurd (late past t y.0 x.0)
  same_move past (Starts event) (Readies handle kind) x y = absurd (done_or_more past _ y.2 x.2)
  same_move past (Starts event) (Starts other) x y =
      ap (λ (k : ℕ). Started k) (pick_one past event other x.3 y.3)
  same_move past (Starts event) (Polls moment) x y = absurd (picks past event x.3 y.0)
  same_move past (Starts event) Ends x y = absurd (picks past event x.3 y.0)
  same_move past (Starts event) (Removes handle) x y = absurd (ends_or_goes past y.0 x.1)
  same_move past (Polls moment) (Dues t) x y = absurd (late past t y.0 x.0.none_due)
  same_move past (Polls moment) (Readies handle kind) x y = absurd (done_or_more past _ y.2 x.2)
  same_move past (Polls moment) (Starts event) x y = absurd (picks past event y.3 x.0)
  same_move past (Polls a) (Polls b) x y = ap (λ (k : ℕ). Polled k) (one_moment a b _ x.4 y.4)
  same_move past (Polls moment) Ends x y = absurd (both_ways _ x.3 y.3)
  same_move past (Polls moment) (Removes handle) x y = absurd (ends_or_goes past y.0 x.1)
  same_move past Ends (Dues t) x y = absurd (late past t y.0 x.0.none_due)
  same_move past Ends (Readies handle kind) x y = absurd (done_or_more past _ y.2 x.2)
  same_move past Ends (Starts event) x y = absurd (picks past event y.3 x.0)
  same_move past Ends (Polls moment) x y = absurd (both_ways _ y.3 x.3)
  same_move past Ends Ends x y = refl
  same_move past Ends (Removes handle) x y = absurd (ends_or_goes past y.0 x.1)
  same_move past (Removes handle) (Dues t) x y = absurd (ends_or_goes past x.0 y.1)
  same_move past (Removes handle) (Readies other kind) x y = absurd (ends_or_goes past x.0 y.1)
  same_move past (Removes handle) (Starts event) x y = absurd (ends_or_goes past x.0 y.1)
  same_move past (Removes handle) (Polls moment) x y = absurd (ends_or_goes past x.0 y.1)
  same_move past (Removes handle) Ends x y = absurd (ends_or_goes past x.0 y.1)
  same_move past (Removes a) (Removes b) x y =
      ap (λ (k : ℕ). Removed (record { 0 = k })) (least (is_alive past) a.0 b.0 x.1 x.2 y.1 y.2)

  pub same_free : (later other : List (Entry ServerNote)) (e f : Entry ServerNote)
      (past : List (Entry ServerNote)) → IsFree past → Entrance most idle groups later e past
      → Entrance most idle groups other f past
      → is_installing e ≡ false → is_installing f ≡ false → e ≡ f
  same_free later other e f past free n m plain plain' =
      let x = moves later e past free n plain in
      let y = moves other f past free m plain' in
      x.is ∙ same_move past x.move y.move x.facts y.facts ∙ sym y.is
